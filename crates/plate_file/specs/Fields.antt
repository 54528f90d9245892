-- How a file is cut into lines, and a line into all its fields.
use Rattle.std.specs.Prelude.{ℕ, Bool, false, cond, List, [], ◌∷◌, ◌==◌}
use Rattle.plate_file.specs.declared.reader.Run.TheVariants.{Blanks, Field}
use Rattle.plate_file.specs.Reading.{in_run}

-- a byte in front of the first of some lines or fields
abbrev pub on_first : ℕ → List (List ℕ) → List (List ℕ)
on_first b [] = (b ∷ []) ∷ []
on_first b (l ∷ ls) = (b ∷ l) ∷ ls

-- the lines of a file: each ends before a line feed (byte 10), and the last where the file ends
abbrev pub lines_of : List ℕ → List (List ℕ)
lines_of [] = [] ∷ []
lines_of (b ∷ bs) = cond (b == 10) ([] ∷ lines_of bs) (on_first b (lines_of bs))

-- a field goes on here
abbrev pub goes_on : List ℕ → Bool
goes_on [] = false
goes_on (b ∷ bs) = in_run Field b

-- all fields up to the line's end
abbrev pub fields_of : List ℕ → List (List ℕ)
fields_of [] = []
fields_of (b ∷ bs) =
    cond (in_run Blanks b) (fields_of bs) (cond (in_run Field b) (cond (goes_on bs) (on_first b (fields_of bs)) ((b ∷ []) ∷ fields_of bs)) [])
