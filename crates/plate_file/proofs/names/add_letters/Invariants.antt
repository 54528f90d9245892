use Rattle.std.proofs.Common.{◌≡◌, length, vec_items}
use Rattle.plate_file.proofs.Letters.{grown}
use Rattle.plate_file.proofs.names.add_letters.Given as goal

-- what is left gives the text that the whole gives
abbrev pub invariant-loop-left : goal.invariant-loop-left
invariant-loop-left l = grown (vec_items l.initial.text) l.written ≡ grown (vec_items l.text) l.left

abbrev pub decreases-loop-left : goal.decreases-loop-left
decreases-loop-left l = length l.left
