-- One thing is read after another, up to the first fault.
use Rattle.std.specs.Prelude.{◌≡◌, ℕ, ◌⊎◌, List, [], ◌∷◌, Some, None, Ok, Err, Option, Result}
use Rattle.plate_file.specs.declared.problem.Problem.{Problem}
use Rattle.plate_file.specs.declared.problem.Problem.TheVariants.{MissingField, NotANumber, OutOfRange, OutOfMemory}
use Rattle.plate_file.specs.declared.numbers.NumberFault.{NumberFault}
use Rattle.plate_file.specs.declared.numbers.NumberFault.TheVariants.{NotANumber as NoNumber, OutOfRange as TooLarge}

-- first one thing; where it is well, what follows from it
abbrev pub and_then : {A B : Type 0} → Result A Problem → (A → Result B Problem) → Result B Problem
and_then (Ok a) then = then a
and_then (Err problem) then = Err problem

-- what is read of a field that has to be there
abbrev pub present : {A : Type 0} → (List ℕ → Result A Problem) → List ℕ → Result A Problem
present read [] = Err MissingField
present read (b ∷ bs) = read (b ∷ bs)

-- something that is there, or a fault
abbrev pub found : {A : Type 0} → Problem → Option A → Result A Problem
found problem None = Err problem
found problem (Some a) = Ok a

-- the fault of a number as one of the file
abbrev pub problem_of : NumberFault → Problem
problem_of NoNumber = NotANumber
problem_of TooLarge = OutOfRange

-- a number, or its fault as one of the file
abbrev pub numbered : {A : Type 0} → Result A NumberFault → Result A Problem
numbered (Ok a) = Ok a
numbered (Err fault) = Err (problem_of fault)

-- nothing may stand here
abbrev pub ended : Problem → List ℕ → Result (Unit {0}) Problem
ended problem [] = Ok tt
ended problem (b ∷ bs) = Err problem

-- a fault is the right one, unless there was no memory to go on
abbrev pub Fault : {A : Type 0} → Result A Problem → Problem → Type 0
Fault right problem = (problem ≡ OutOfMemory) ⊎ (right ≡ Err problem)
