use Rattle.std.proofs.Common.{◌≡◌, drop, Some, IfSome, vec_items, sym, ap, ◌∙◌, subst, arith}
use Rattle.std.proofs.lemmas.Bool.{eqb-false}
use Rattle.std.specs.Option.{option_map}
use Rattle.std.specs.Result.{result_ok}
use Rattle.plate_file.specs.Quoted.{letter_in, letter_size}
use Rattle.plate_file.proofs.Letters.{grown, grown-more}
use Rattle.plate_file.proofs.names.add_letters.Goals as goal

pub loop-left-preserved : goal.loop-left-preserved
loop-left-preserved c =
    let bs = c.loop-left.left.now in
    let some = eqb-false _ 0 (sym c.is_empty.ensures ∙ c.loop-left-test.true) in
    let found = c.ok_or.ensures.ok_part ∙ ap result_ok c.in_ok-byte.was in
    let is : Some c.in_ok-byte.byte ≡ letter_in bs = ap (option_map (λ found. found.0)) (sym found) ∙ c.letter.ensures.value in
    let follows : c.in_ok-byte.rest.now ≡ drop (letter_size bs) bs = subst (λ o. IfSome o (λ found. found.1.now ≡ drop (letter_size bs) bs)) found c.letter.ensures.after in
    c.loop-left.invariant
    ∙ grown-more (vec_items c.loop-left.text) bs c.in_ok-byte.rest.now c.in_ok-byte.byte (omega arith) is follows
    ∙ ap (λ text. grown text c.in_ok-byte.rest.now) (sym c.in_ok-push.ensures.items)
