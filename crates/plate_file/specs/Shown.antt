-- The words in which a fault of a file is told.
use Rattle.std.specs.Prelude.{ℕ, List, ◌++◌, codes}
use Rattle.std.specs.Fmt.{decimal}
use Rattle.plate_file.specs.declared.problem.Malformed.{Malformed}
use Rattle.plate_file.specs.declared.problem.Problem.{Problem}
use Rattle.plate_file.specs.declared.problem.Problem.TheVariants.{NotAPlate, UnknownWord, MissingField, ExtraField, NotANumber, OutOfRange, BadName, UnknownSampleType, UnknownScheme, SecondRectangle, MissingRectangle, MissingStream, BadStreamWord, TooFewWords, TooManyWords, OutOfPlace, OutOfMemory}

-- what is wrong
abbrev pub problem_text : Problem → List ℕ
problem_text NotAPlate = codes "the first line is not `plate 1`"
problem_text UnknownWord = codes "the line begins with an unknown word"
problem_text MissingField = codes "a field is missing"
problem_text ExtraField = codes "there is something after the last field"
problem_text NotANumber = codes "a field is not a decimal number"
problem_text OutOfRange = codes "a number is out of range"
problem_text BadName = codes "a name is not written in quotes with plain bytes and \\xHH"
problem_text UnknownSampleType = codes "a sample type is not u32, f16 or f32"
problem_text UnknownScheme = codes "a scheme is not unknown, lossy or rle"
problem_text SecondRectangle = codes "there is a second rectangle"
problem_text MissingRectangle = codes "the rectangle is missing"
problem_text MissingStream = codes "a stream is missing"
problem_text BadStreamWord = codes "a word of the stream is not four lower-case hex digits"
problem_text TooFewWords = codes "the stream has fewer words than its count says"
problem_text TooManyWords = codes "something stands after the last word that the stream's count allows"
problem_text OutOfPlace = codes "a line of this kind may not stand after a stream"
problem_text OutOfMemory = codes "there is not enough memory"

-- the line, and what is wrong with it
abbrev pub malformed_text : Malformed → List ℕ
malformed_text fault = codes "line " ++ decimal fault.line ++ codes ": " ++ problem_text fault.problem
