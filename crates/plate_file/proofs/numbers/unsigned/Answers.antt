use Rattle.std.proofs.Common.{◌≡◌, ℕ, ◌+◌, Some, None, Err, Option, sym, arith}
use Rattle.std.specs.Option.{SomeIff, ok_or}
use Rattle.std.proofs.lemmas.Result.{err_from_is_err_and}
use Rattle.plate_file.specs.declared.numbers.NumberFault.{NumberFault}
use Rattle.plate_file.specs.declared.numbers.NumberFault.TheVariants.{OutOfRange}
use Rattle.plate_file.proofs.Numerals.{value-more, value-take, too_large, reads_from}
use Rattle.plate_file.proofs.numbers.unsigned.Goals as goal

-- one digit more and it has no 64 bits
none_longer : (o : Option ℕ) (p : Type 0) (v : ℕ) (fault : NumberFault) → Err fault ≡ ok_or o OutOfRange → SomeIff o p v → (fault ≡ OutOfRange) × ¬ p
none_longer None p v fault e h = ((let same : fault ≡ OutOfRange = cc in same), h)
none_longer (Some n) p v fault e h = cc

pub returns-in_err-value-clause-exact : goal.returns-in_err-value-clause-exact
returns-in_err-value-clause-exact c =
    let bs = c.args.field.now in
    let i = c.loop-byte.byte-index in
    let p = err_from_is_err_and c.from_residual.result c.from_residual.ensures.1 in
    let none = none_longer _ _ _ _ c.in_err-value.ensures.value c.appended.ensures in
    rw (p.1, p.2, none.0)
    (too_large (λ n. n) _ bs (sym c.if-not-is_numeral.ensures.exact) (omega (arith, c.loop-byte.invariant.0, none.1, value-more bs i (omega arith), value-take bs (i + 1))))

pub returns-in_err-value-clause-reads : goal.returns-in_err-value-clause-reads
returns-in_err-value-clause-reads c = reads_from (λ n. n) 0xffff_ffff_ffff_ffff c.args.field.now _ (returns-in_err-value-clause-exact c)
