use Rattle.std.proofs.Common.{◌≤◌, length, eqb, Err, sym, ◌∙◌, arith, rules}
use Rattle.std.proofs.lemmas.Iterator.Splits.{YieldsList-from_slice_split}
use Rattle.std.proofs.lemmas.Result.{err_from_is_err_and}
use Rattle.plate_file.specs.File.{on_line}
use Rattle.plate_file.proofs.LineByLine.{all_left, not_past, one_less, stopped, ended}
use Rattle.plate_file.proofs.Written.{faithful}
use Rattle.plate_file.proofs.parse.parse_plate.Goals as goal

pub loop-text-init : goal.loop-text-init
loop-text-init c =
    all_left _ c.args.bytes.now _ (YieldsList-from_slice_split _ (λ b. eqb b 10) c.args.bytes.now (search rules) (search rules) (search rules) (λ x b q k. search rules))

pub overflow_add-line : goal.overflow_add-line
overflow_add-line c =
    let low : c.loop-text.line ≤ length c.args.bytes.now =
    not_past _ c.args.bytes.now c.loop-text.text-iterator c.next.new.self _ _ c.loop-text.invariant c.in-Some.text c.in-Some.ensures.steps
    in omega arith

pub returns-in_err-draft : goal.returns-in_err-draft
returns-in_err-draft c =
    let file = c.args.bytes.now in
    let fault = c.in_err-draft.field-0.0 in
    let p = err_from_is_err_and c.from_residual.result c.from_residual.ensures.1 in
    let told =
    stopped _ file c.loop-text.text-iterator c.next.new.self _ _ c.loop-text.invariant c.in-Some.text c.in-Some.ensures.steps c.with_line.result fault c.with_line.ensures (sym c.in_err-draft.was ∙ c.on_line.ensures)
    in
    rw (p.1, p.2) (record { line = told.0; answer = told.1; faithful = faithful file (Err fault) told.1 })

pub loop-text-preserved : goal.loop-text-preserved
loop-text-preserved c =
    one_less _ c.args.bytes.now c.loop-text.text-iterator c.next.new.self _ _ c.loop-text.invariant c.in-Some.text c.in-Some.ensures.steps c.with_line.result c.in_ok-draft.draft c.with_line.ensures (sym c.in_ok-draft.was ∙ c.on_line.ensures)

pub returns : goal.returns
returns c =
    let file = c.args.bytes.now in
    let told = ended _ file c.loop-text.text-iterator c.next.new.self _ _ c.loop-text.invariant c.in-None.ensures.steps c.finish.result c.finish.ensures in
    rw c.on_line-2.ensures (record { line = told.0; answer = told.1; faithful = faithful file (on_line c.loop-text.line c.finish.result) told.1 })
