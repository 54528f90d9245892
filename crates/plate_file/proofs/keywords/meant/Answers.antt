use Rattle.std.proofs.Common.{Bor, ℕ, List, ◌≡◌, find, rules, ap, ◌∙◌}
use Rattle.std.proofs.lemmas.Iterator.{YieldsList-from_slice}
use Rattle.std.specs.Option.{option_map}
use Rattle.std.specs.Str.{bytes_eq}
use Rattle.std.proofs.lemmas.Iterator.Search.{find_from_yields_List}
use Rattle.plate_file.proofs.Tables.{found_means}
use Rattle.plate_file.proofs.keywords.meant.Goals as goal

pub returns : goal.returns
returns g c =
    let bs = c.args.field.now in
    let test = (λ (entry : Bor (List ℕ) × g.row.T.Denot). bytes_eq bs entry.0.now) in
    let first : option_map (λ entry. entry.now) c.find.result ≡ find test c.args.table.now =
    find_from_yields_List test _ _ _ c.find.ensures.ran (YieldsList-from_slice c.args.table.now c.iter.ensures.rest) (λ x b q k. search rules)
    in
    let told : c.map.result ≡ option_map (λ entry. entry.1) (option_map (λ entry. entry.now) c.find.result) = search rules in
    told ∙ ap (option_map (λ entry. entry.1)) first ∙ found_means bs c.args.table.now
