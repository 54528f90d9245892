use Rattle.std.proofs.Common.{◌≡◌, eqb, length, rules}
use Rattle.std.proofs.lemmas.Bool.Decides.{Decides-at}
use Rattle.plate_file.specs.Decimal.{is_numeral}
use Rattle.plate_file.proofs.Numerals.{Decides-is_numeral}
use Rattle.plate_file.proofs.numbers.is_numeral.Goals as goal

pub returns-then-not-is_empty-clause-digits : goal.returns-then-not-is_empty-clause-digits
returns-then-not-is_empty-clause-digits c =
    let bs = c.args.field.now in
    let exact : eqb c.count.result (length bs) ≡ is_numeral bs = search rules in
    Decides-at _ (is_numeral bs) exact (Decides-is_numeral bs)
