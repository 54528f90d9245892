-- The words in which a refusal is told.
use Rattle.std.specs.Prelude.{ℕ, List, ◌++◌, Some, None, Option, codes}
use Rattle.std.specs.Fmt.{decimal}
use Rattle.roll.specs.declared.refusal.Concerned.{Concerned}
use Rattle.roll.specs.declared.refusal.Concerned.TheVariants.{Channel as OfChannel, Rule as OfRule}
use Rattle.roll.specs.declared.refusal.Refusal.{Refusal}
use Rattle.roll.specs.declared.refusal.Refusal.TheVariants.{TooMany, ChunkTooLarge, OutsideText, StepTooLarge, NoSuchSlot, OffStep, HeldTwice}
use Rattle.roll.specs.Refusals.{number, concerned}

-- a channel or a rule, by its number
abbrev pub concerned_text : Concerned → List ℕ
concerned_text (OfChannel i) = codes "channel " ++ decimal i
concerned_text (OfRule j) = codes "rule " ++ decimal j

-- whom a refusal is about: a channel or a rule, or else the chunk
abbrev pub whom_text : Option Concerned → List ℕ
whom_text None = codes "the chunk"
whom_text (Some whom) = concerned_text whom

-- why the chunk is refused
abbrev pub reason_text : Refusal → List ℕ
reason_text TooMany = codes "there are more than 64 channels or more than 64 rules"
reason_text ChunkTooLarge = codes "a side of the chunk is above 8192"
reason_text (OutsideText whom) = codes "the name or suffix is not a part of the text or is longer than 255 bytes"
reason_text (StepTooLarge channel) = codes "a sampling step is above 8192"
reason_text (NoSuchSlot rule) = codes "the slot is neither none nor 0, 1 or 2"
reason_text (OffStep channel) = codes "the chunk's left or top is no multiple of a sampling step"
reason_text (HeldTwice channel) = codes "a triplet would hold the channel twice"

-- its number, whom it is about, and why
abbrev pub refusal_text : Refusal → List ℕ
refusal_text f = codes "refusal " ++ decimal (number f) ++ codes ", " ++ whom_text (concerned f) ++ codes ": " ++ reason_text f
