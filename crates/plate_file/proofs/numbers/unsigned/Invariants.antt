use Rattle.std.proofs.Common.{◌≡◌, ◌^◌, ◌<◌, take}
use Rattle.plate_file.specs.Decimal.{value}
use Rattle.plate_file.proofs.numbers.unsigned.Given as goal

-- what the digits so far write
abbrev pub invariant-loop-byte : goal.invariant-loop-byte
invariant-loop-byte l = (l.value ≡ value (take l.byte-index l.field)) × (l.value < 2 ^ 64)
