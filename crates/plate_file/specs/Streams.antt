-- What a stream's lines say: a count, and then the words.
use Rattle.std.specs.Prelude.{ℕ, zero, suc, ◌-◌, List, [], ◌∷◌, ◌++◌, length, Some, None, Ok, Err, Option, Result}
use Rattle.plate_file.specs.declared.keywords.Keyword.{Keyword}
use Rattle.plate_file.specs.declared.problem.Problem.{Problem}
use Rattle.plate_file.specs.declared.problem.Problem.TheVariants.{ExtraField, BadStreamWord, TooFewWords, TooManyWords}
use Rattle.plate_file.specs.Reading.{field_in, after_field}
use Rattle.plate_file.specs.Hex.{hex_word}
use Rattle.plate_file.specs.Words.{meant, keywords}
use Rattle.plate_file.specs.Steps.{and_then, found, ended}
use Rattle.plate_file.specs.Lines.{number_next}

-- how many words the stream has; nothing else stands on the line
abbrev pub count_in : List ℕ → Result ℕ Problem
count_in bs = and_then (number_next bs) (λ count. and_then (ended ExtraField (field_in (after_field bs))) (λ _. Ok count))

-- what is wrong with a field that is no word: where a line's first word stands, the stream is too short
abbrev pub no_word : Option Keyword → Problem
no_word (Some keyword) = TooFewWords
no_word None = BadStreamWord

-- the word that a field writes
abbrev pub word_in : List ℕ → Result ℕ Problem
word_in field = found (no_word (meant keywords field)) (hex_word field)

-- the words that some fields write, of which at most n may come
abbrev pub words_in : ℕ → List (List ℕ) → Result (List ℕ) Problem
words_in n [] = Ok []
words_in zero (field ∷ fields) = Err TooManyWords
words_in (suc n) (field ∷ fields) = and_then (word_in field) (λ word. and_then (words_in n fields) (λ words. Ok (word ∷ words)))

-- a stream that is being read: its words so far, and how many are still to come
pub record Stream : Type 0 where
  pub words : List ℕ
  pub left : ℕ

-- what fields make of a stream
abbrev pub longer : List ℕ → ℕ → List (List ℕ) → Result Stream Problem
longer old n fields = and_then (words_in n fields) (λ words. Ok (record { words = old ++ words; left = n - length words }))
