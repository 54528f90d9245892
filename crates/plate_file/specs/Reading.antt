-- How a file is cut into fields.
use Rattle.std.specs.Prelude.{ℕ, Bool, not, ◌&&◌, ◌||◌, List, length, take, drop, ◌==◌, nat_le}
use Rattle.std.specs.List.{prefix_len}
use Rattle.plate_file.specs.declared.reader.Reader.{Reader}
use Rattle.plate_file.specs.declared.reader.Run.{Run}
use Rattle.plate_file.specs.declared.reader.Run.TheVariants.{Blanks, Field, Letters, Digits}

-- a blank is a space or a tab, and a field ends at a blank or at the line's end; letters end at a quote (byte 34)
abbrev pub in_run : Run → ℕ → Bool
in_run Blanks byte = byte == 32 || byte == 9
in_run Field byte = not (byte == 32) && not (byte == 9) && not (byte == 10)
in_run Letters byte = not (byte == 34)
in_run Digits byte = nat_le 48 byte && nat_le byte 57

-- the longest front of one sort
abbrev pub front : Run → List ℕ → List ℕ
front run bs = take (prefix_len (in_run run) bs) bs

-- what follows the bytes at the front that are of one sort
abbrev pub past : Run → List ℕ → List ℕ
past run bs = drop (prefix_len (in_run run) bs) bs

-- the next field of a line
abbrev pub field_in : List ℕ → List ℕ
field_in bs = front Field (past Blanks bs)

-- what follows the next field
abbrev pub after_field : List ℕ → List ℕ
after_field bs = past Field (past Blanks bs)

-- the bytes that a reader has yet to read
abbrev pub unread : Reader → List ℕ
unread reader = reader.left.now

-- how many bytes are still to be read
abbrev pub ahead : Reader → ℕ
ahead reader = length (unread reader)
