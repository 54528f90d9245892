use Rattle.std.proofs.Common.{◌≡◌, vec_items}
use Rattle.plate_file.specs.Reading.{unread, ahead}
use Rattle.plate_file.specs.Fields.{fields_of}
use Rattle.plate_file.specs.Streams.{longer}
use Rattle.plate_file.proofs.reader.Reader.add_words.Given as goal

-- what is left of the line gives the stream that the whole line gives
abbrev pub invariant-loop-field : goal.invariant-loop-field
invariant-loop-field l =
    longer (vec_items l.initial.words) l.to_come (fields_of (unread l.initial.self)) ≡ longer (vec_items l.words) l.left (fields_of (unread l.self))

abbrev pub decreases-loop-field : goal.decreases-loop-field
decreases-loop-field l = ahead l.self
