-- What a call writes outside of the heap, and is noted while a marking is under way.
use Rattle.std.specs.Prelude.{◌≡◌, ℕ, List, [], ◌∷◌, ◌++◌, Option, Some, None}
use Rattle.std.specs.Option.{option_to_list}
use Rattle.heap.specs.declared.value.Value.TheVariants.{Block as Refers}
use Rattle.heap.specs.Heap.{Space}
use Rattle.heap.specs.Marks.{Marks, noted_in}
use Rattle.machine_answers.specs.declared.answer.Answer.{Answer}
use Rattle.machine_answers.specs.declared.answer.Answer.TheVariants as answer
use Rattle.machine_answers.specs.declared.answer.Given.{Given}
use Rattle.machine_answers.specs.declared.answer.Given.TheVariants as given

-- the address of what is given, if it is a reference
abbrev pub reference_given : Given → Option ℕ
reference_given (given.Reference a) = a
reference_given g = None

-- the addresses that an answer writes outside of the heap, in their order: into a static, into the current frame or as the exception that
-- is pending. That of a new object is none of them.
abbrev pub written_by : Answer → List ℕ
written_by (answer.Gives g) = option_to_list (reference_given g)
written_by (answer.Pends a g) = option_to_list a ++ option_to_list (reference_given g)
written_by (answer.MakesGlobal a) = option_to_list a
written_by (answer.MakesWeak a) = option_to_list a
written_by (answer.Pops a) = option_to_list a
written_by a = []

-- the marking once the block at an address is noted, if there is an address
abbrev pub noted_at : Option ℕ → Option Marks → Option Marks
noted_at None marking = marking
noted_at (Some a) marking = noted_in (Refers a) marking

-- the marking once the blocks at these addresses are noted, one after the other
abbrev pub noted_all : List ℕ → Option Marks → Option Marks
noted_all [] marking = marking
noted_all (a ∷ addresses) marking = noted_all addresses (noted_at (Some a) marking)

-- the blocks at these addresses, if there are any, have been noted, and no others
abbrev pub IsNoted : List ℕ → (old new : Space) → Type 0
IsNoted [] old new = Unit {0}
IsNoted (a ∷ addresses) old new = new.marking ≡ noted_all (a ∷ addresses) old.marking
