-- How a name is written.
use Rattle.std.specs.Prelude.{◌≡◌, ℕ, zero, suc, ◌-◌, ◌<◌, Bool, cond, not, ◌&&◌, List, [], ◌∷◌, ◌++◌, length, drop, Some, None, Ok, Err, Option, Result, ◌==◌, nat_le, slice_index}
use Rattle.channel_rules.specs.declared.records.Part.{Part}
use Rattle.plate_file.specs.declared.reader.Run.TheVariants.{Blanks, Letters}
use Rattle.plate_file.specs.declared.problem.Problem.{Problem}
use Rattle.plate_file.specs.declared.problem.Problem.TheVariants.{MissingField, BadName}
use Rattle.plate_file.specs.Reading.{front, past}
use Rattle.plate_file.specs.Fields.{goes_on}
use Rattle.plate_file.specs.Hex.{hex_pair, before}
use Rattle.plate_file.specs.Steps.{and_then, found}

-- a byte that stands for itself: neither a quote (34) nor a backslash (92), and no control byte
abbrev pub is_plain : ℕ → Bool
is_plain byte = nat_le 32 byte && nat_le byte 126 && not (byte == 34) && not (byte == 92)

-- `\x` stands first, with two bytes behind it
abbrev pub is_escape : List ℕ → Bool
is_escape bs = nat_le 4 (length bs) && slice_index bs 0 == 92 && slice_index bs 1 == 120

-- the byte that an escape at the front writes
abbrev pub escape_in : List ℕ → Option ℕ
escape_in bs = cond (is_escape bs) (hex_pair (slice_index bs 2 ∷ slice_index bs 3 ∷ [])) None

-- the byte that is written first, if one is
abbrev pub letter_in : List ℕ → Option ℕ
letter_in bs = cond (is_plain (slice_index bs 0)) (Some (slice_index bs 0)) (escape_in bs)

-- by how many bytes
abbrev pub letter_size : List ℕ → ℕ
letter_size bs = cond (is_plain (slice_index bs 0)) 1 4

-- what is written behind so many bytes, which belong to the letter before
abbrev pub letters_behind : ℕ → List ℕ → Option (List ℕ)
letters_behind n [] = Some []
letters_behind (suc n) (b ∷ bs) = letters_behind n bs
letters_behind zero (b ∷ bs) = before (letter_in (b ∷ bs)) (letters_behind (letter_size (b ∷ bs) - 1) bs)

-- the bytes that are written between quotes, if all of it is letters
abbrev pub letters_in : List ℕ → Option (List ℕ)
letters_in bs = letters_behind 0 bs

-- the closing quote stands first; a blank or the line's end follows it
abbrev pub closed : List ℕ → List ℕ → Result (List ℕ) Problem
closed written [] = Err BadName
closed written (b ∷ bs) = cond (goes_on bs) (Err BadName) (Ok written)

-- the opening quote stands first
abbrev pub opened : List ℕ → Result (List ℕ) Problem
opened [] = Err MissingField
opened (b ∷ bs) = cond (b == 34) (closed (front Letters bs) (past Letters bs)) (Err BadName)

-- the next field begins with a quote, and this follows it
pub record Opens (bs rest : List ℕ) : Type 0 where
  pub some : 0 < length (past Blanks bs)
  pub quote : slice_index (past Blanks bs) 0 ≡ 34
  pub follows : rest ≡ drop 1 (past Blanks bs)

-- what stands between the quotes of the next field
abbrev pub written_in : List ℕ → Result (List ℕ) Problem
written_in bs = opened (past Blanks bs)

-- what follows the closing quote
abbrev pub after_name : List ℕ → List ℕ
after_name bs = drop 1 (past Letters (drop 1 (past Blanks bs)))

-- the name that stands next
abbrev pub name_in : List ℕ → Result (List ℕ) Problem
name_in bs = and_then (written_in bs) (λ written. found BadName (letters_in written))

-- the part that a name becomes behind a text
abbrev pub part_of : List ℕ → List ℕ → Part
part_of text name = record { start = length text; len = length name }

-- the name that stands next has been put behind a text, as this part of it
pub record NameAdded (bs old new : List ℕ) (part : Part) : Type 0 where
  pub name : List ℕ
  pub reads : name_in bs ≡ Ok name
  pub text : new ≡ old ++ name
  pub place : part ≡ part_of old name
