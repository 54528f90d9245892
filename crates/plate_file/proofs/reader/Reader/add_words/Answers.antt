use Rattle.std.proofs.Common.{ap, ◌∙◌, inr, arith}
use Rattle.std.proofs.lemmas.Result.{err_from_is_err_and}
use Rattle.plate_file.specs.Reading.{unread}
use Rattle.plate_file.specs.Streams.{word_in}
use Rattle.plate_file.proofs.StreamWords.{bad_word}
use Rattle.plate_file.proofs.reader.Reader.add_words.Goals as goal

pub returns-in_err-word_of : goal.returns-in_err-word_of
returns-in_err-word_of c =
    let p = err_from_is_err_and c.from_residual.result c.from_residual.ensures.1 in
    let read = c.in-Some.ensures.value in
    rw (p.1, p.2) (inr (c.loop-field.invariant ∙ bad_word _ (unread c.loop-field.self) read.1 c.loop-field.left _ (omega arith) (c.in_err-word_of.ensures ∙ ap word_in read.0)))
