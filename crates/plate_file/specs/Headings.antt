-- What the lines before the streams have said.
use Rattle.std.specs.Prelude.{◌≡◌, ℕ, List, [], ◌∷◌, ◌++◌, Some, None, Ok, Err, vec_items, Option, Result}
use Rattle.channel_rules.specs.declared.records.IntegerBounds.{IntegerBounds}
use Rattle.channel_rules.specs.declared.records.ChannelDescription.{ChannelDescription}
use Rattle.channel_rules.specs.declared.records.Part.{Part}
use Rattle.channel_rules.specs.declared.records.Rule.{Rule}
use Rattle.plate_file.specs.declared.plate.Header.{Header}
use Rattle.plate_file.specs.declared.problem.Problem.{Problem}
use Rattle.plate_file.specs.declared.problem.Problem.TheVariants.{SecondRectangle}
use Rattle.plate_file.specs.Steps.{and_then, Fault}
use Rattle.plate_file.specs.Quoted.{name_in, after_name, part_of}
use Rattle.plate_file.specs.Lines.{rectangle_in, channel_in, rule_in}

-- all names and suffixes end to end, the channels and the rules in the order of their lines, and the rectangle
pub record Heading : Type 0 where
  pub text : List ℕ
  pub channels : List ChannelDescription
  pub rules : List Rule
  pub rectangle : Option IntegerBounds

-- what a header says
abbrev pub heading : Header → Heading
heading h =
    record { text = vec_items h.records.text; channels = vec_items h.records.channels; rules = vec_items h.records.rules; rectangle = h.rectangle }

-- before the first line
abbrev pub no_heading : Heading
no_heading = record { text = []; channels = []; rules = []; rectangle = None }

-- a rectangle, where there was none
abbrev pub placed : Heading → Option IntegerBounds → List ℕ → Result Heading Problem
placed h (Some bounds) bs = Err SecondRectangle
placed h None bs = and_then (rectangle_in bs) (λ bounds. Ok (record { text = h.text; channels = h.channels; rules = h.rules; rectangle = Some bounds }))

-- what a line says behind a name that is put behind a text, or its first fault
abbrev pub named_in : {A : Type 0} → (Part → List ℕ → Result A Problem) → List ℕ → List ℕ → Result A Problem
named_in reads text bs = and_then (name_in bs) (λ name. reads (part_of text name) (after_name bs))

-- it says this, and the name has been put behind the text
abbrev pub BehindName : {A : Type 0} → (Part → List ℕ → Result A Problem) → List ℕ → List ℕ → List ℕ → A → Type 0
BehindName reads bs old new a =
    (name : List ℕ) × (name_in bs ≡ Ok name) × (new ≡ old ++ name) × (reads (part_of old name) (after_name bs) ≡ Ok a)

-- what a line adds behind the word `rectangle`
abbrev pub with_rectangle : Heading → List ℕ → Result Heading Problem
with_rectangle h bs = placed h h.rectangle bs

-- behind the word `channel`
abbrev pub with_channel : Heading → List ℕ → Result Heading Problem
with_channel h bs =
    and_then (name_in bs) (λ name.
    and_then (channel_in (part_of h.text name) (after_name bs)) (λ channel.
    Ok (record { text = h.text ++ name; channels = h.channels ++ channel ∷ []; rules = h.rules; rectangle = h.rectangle })))

-- behind the word `rule`
abbrev pub with_rule : Heading → List ℕ → Result Heading Problem
with_rule h bs =
    and_then (name_in bs) (λ suffix.
    and_then (rule_in (part_of h.text suffix) (after_name bs)) (λ rule.
    Ok (record { text = h.text ++ suffix; channels = h.channels; rules = h.rules ++ rule ∷ []; rectangle = h.rectangle })))

-- a header says what is right, or the fault is the right one
abbrev pub Says : Result Heading Problem → Result Header Problem → Type 0
Says right (Ok header) = right ≡ Ok (heading header)
Says right (Err problem) = Fault right problem
