-- What a return gives.
use Rattle.std.specs.Prelude.{◌≡◌, ℕ, List, [], ◌∷◌, slice_get, Option, None, FitsSigned}
use Rattle.std.specs.Int.{w32}
use Rattle.code.specs.declared.instr.Instr.{Instr}
use Rattle.code.specs.declared.instr.Instr.TheVariants as instr
use Rattle.code.specs.declared.instr.ReferenceOperand.{ReferenceOperand}
use Rattle.code.specs.declared.instr.ReferenceOperand.TheVariants.{Null, Local}
use Rattle.code_meaning.specs.Slots.{word_of}
use Rattle.heap.specs.Heap.{Space}
use Rattle.jni.specs.declared.kinds.ResultKind.{ResultKind}
use Rattle.jni.specs.declared.kinds.ResultKind.TheVariants.{NewLocal, GivesInt}
use Rattle.machine_answers.specs.declared.answer.Given.{Given}
use Rattle.machine_answers.specs.declared.answer.Given.TheVariants as given
use Rattle.machine_steps.specs.declared.execute.ReturnValue.{ReturnValue}
use Rattle.machine_steps.specs.declared.execute.ReturnValue.TheVariants as value
use Rattle.machine_scenes.specs.declared.activation.Activation.{Activation}
use Rattle.machine_scenes.specs.Given.{held_in}
use Rattle.machine_scenes.specs.HeapAgrees.{ReferenceAgrees}
use Rattle.machine_scenes.specs.Locals.{address_of}
use Rattle.semantics.specs.CallEffects.{CallResult, NoResult, ScalarResult, ReferenceResult}
use Rattle.semantics.specs.declared.value.Value.TheVariants.{Int}

-- the topmost word of a stack, and 0 where there is none
abbrev pub top_of : List ℕ → ℕ
top_of [] = 0
top_of (word ∷ stack) = word

-- the address of what a return names; none of NULL
abbrev pub returned_at : Activation → ReferenceOperand → Option ℕ
returned_at activation Null = None
returned_at activation (Local i) = address_of activation.locals (held_in (slice_get activation.slots.references.items i))

-- what the instruction gives that leaves a function: the topmost word, a reference, or nothing
abbrev pub given_by : Instr → Activation → ReturnValue
given_by instr.ReturnJint activation = value.Number (top_of activation.stack)
given_by (instr.ReturnReference operand) activation = value.Reference (returned_at activation operand)
given_by i activation = value.Nothing

-- it is what the source's return gives
abbrev pub ReturnAgrees : Space → ReturnValue → CallResult → Type 0
ReturnAgrees space value.Nothing NoResult = Unit {0}
ReturnAgrees space (value.Number word) (ScalarResult (Int z)) = (word ≡ word_of (Int z)) × FitsSigned w32 z
ReturnAgrees space (value.Reference a) (ReferenceResult r) = ReferenceAgrees space a r
ReturnAgrees space v c = ⊥

-- what a caller that wants a result of this kind is given, with this exception pending or none: 0, NULL or nothing where there is one
abbrev pub given_back : (pending : Option ℕ) → ResultKind → ReturnValue → Given
given_back None NewLocal (value.Reference a) = given.Reference a
given_back None GivesInt (value.Number word) = given.Number word
given_back pending NewLocal v = given.Reference None
given_back pending GivesInt v = given.Number 0
given_back pending kind v = given.Nothing
