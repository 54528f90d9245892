-- What is found in a table of the program.
use Rattle.std.proofs.Common.{◌≡◌, ℕ, true, false, cond, List, [], ◌∷◌, Some, find, refl, Bor}
use Rattle.std.specs.Option.{option_map}
use Rattle.std.specs.Str.{bytes_eq}
use Rattle.plate_file.specs.Words.{entries, meant}

pub found_means : {A : Type 0} (bs : List ℕ) (table : List (Bor (List ℕ) × A)) → option_map (λ entry. entry.1) (find (λ entry. bytes_eq bs entry.0.now) table) ≡ meant (entries table) bs
found_means bs [] = refl
found_means bs (entry ∷ table) =
    elim (bytes_eq bs entry.0.now) as (λ t. option_map (λ entry. entry.1) (cond t (Some entry) (find (λ entry. bytes_eq bs entry.0.now) table)) ≡ cond t (Some entry.1) (meant (entries table) bs)) [ true ↦ refl | false ↦ found_means bs table ]
