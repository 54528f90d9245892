use Rattle.plate_file.specs.File.{progress}
use Rattle.plate_file.proofs.LineByLine.{Left}
use Rattle.plate_file.proofs.parse.parse_plate.Given as goal

-- the lines that are left make of the draft what the file says
abbrev pub invariant-loop-text : goal.invariant-loop-text
invariant-loop-text l = Left goal.iterator-loop-text.next_gives l.bytes l.text-iterator l.line (progress l.draft)
