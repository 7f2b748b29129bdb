-- Answers that lie in memory, as those of the language, and what their effects leave.
use Rattle.std.specs.Prelude.{◌≡◌, ◌+◌, true, ℤ, List, [], ◌∷◌, ◌++◌, drop, length, map, nat_le, IsTrue, Option, Some, None}
use Rattle.base.specs.Bytes.{Identifier, lookup}
use Rattle.class_rules.specs.Class.{Classes}
use Rattle.jni.specs.declared.function.JniFunction.{JniFunction}
use Rattle.jni.specs.JniFunction.{calls_method, prototype}
use Rattle.jni.specs.declared.kinds.ResultKind.{ResultKind}
use Rattle.jni.specs.declared.kinds.ResultKind.TheVariants.{NewLocal}
use Rattle.syntax.specs.Views.{unit_tree}
use Rattle.semantics.specs.Answer.{Answer, Calls, Copies, CopiesBack, DeletesGlobal, DeletesLocal, DeletesWeak, Disowns, Ensures, Frees, GetsRegion, Gives, Halts, Makes, MakesGlobal, Owns, Pends, Pops, Pushes, Raises, RaisesWith, RefusesFrames, Region, SetsRegion, Views, Writes, effect_of}
use Rattle.semantics.specs.AnswerTable.{call_answer}
use Rattle.semantics.specs.Arguments.{Actual, passed_value, variable_given}
use Rattle.semantics.specs.CallEffects.{CallResult, ReferenceResult, BufferResult, CallEffect, Throws, Leaves, local_array, with_local}
use Rattle.semantics.specs.CallEffects as effects
use Rattle.semantics.specs.CallStep.{failure}
use Rattle.semantics.specs.Heap.{Heap, next_name, values_of}
use Rattle.semantics.specs.Object.{Object, ObjectValue}
use Rattle.semantics.specs.Thread.{BuffersInUse, Frame, Shared, Thread}
use Rattle.semantics.specs.declared.trap.Trap.{Trap}
use Rattle.semantics.specs.Variable.{Variables}
use Rattle.semantics.specs.Views.{name_of}
use Rattle.semantics.specs.World.{fresh_object}
use Rattle.semantics.specs.declared.object_id.ObjectId.{ObjectId}
use Rattle.replay_arguments.specs.Actuals.{actual_view}
use Rattle.replay_arguments.specs.Shares.{shared_view}
use Rattle.replay_arguments.specs.Sights.{scene_sight}
use Rattle.replay_arguments.specs.declared.actual.Actual.{Actual as ActualInMemory}
use Rattle.replay_arguments.specs.declared.scene.Locals.{Locals}
use Rattle.replay_arguments.specs.declared.scene.Scene.{Scene}
use Rattle.replay_arguments.specs.declared.scene.Turn.{Turn}
use Rattle.replay_arguments.specs.declared.shared.Shared.{Shared as SharedInMemory}
use Rattle.replay_calls.specs.declared.answer.Answer.{Answer as InMemory}
use Rattle.replay_calls.specs.declared.answer.Answer.TheVariants as answer
use Rattle.replay_calls.specs.declared.answer.Caller.{Caller}
use Rattle.replay_calls.specs.declared.answer.Region.{Region as RegionInMemory}
use Rattle.replay_calls.specs.declared.carry_out.Done.{Done}
use Rattle.replay_calls.specs.declared.carry_out.Done.TheVariants as done
use Rattle.replay_objects.specs.New.{new_view, object_of}
use Rattle.replay_terms.specs.Views.{given_view, in_use_view, lent_view, method_view, variables_view}
use Rattle.world_values.specs.Views.{object_value_view}

abbrev pub region_view : RegionInMemory → Region
region_view r = record { object = r.object.number; start = r.start; count = r.count }

-- the object that is made is told by the classes, and a variable by its argument
abbrev pub answer_view : Classes → InMemory → Answer
answer_view classes (answer.Gives g) = Gives (given_view g)
answer_view classes (answer.Writes n i v) = Writes n.number i (object_value_view v)
answer_view classes (answer.Makes n) = Makes (object_of classes (new_view n))
answer_view classes (answer.Raises c) = Raises c.number
answer_view classes (answer.RaisesWith c text) = RaisesWith c.number text.now
answer_view classes (answer.Pends r g) = Pends (name_of r) (given_view g)
answer_view classes (answer.Ensures n) = Ensures n
answer_view classes (answer.Pushes n) = Pushes n
answer_view classes answer.RefusesFrames = RefusesFrames
answer_view classes (answer.Pops r) = Pops (name_of r)
answer_view classes (answer.DeletesLocal n) = DeletesLocal 0 n.number
answer_view classes (answer.MakesGlobal r) = MakesGlobal (name_of r)
answer_view classes (answer.DeletesGlobal n) = DeletesGlobal 0 n.number
answer_view classes answer.DeletesWeak = DeletesWeak 0
answer_view classes (answer.GetsRegion r) = GetsRegion (region_view r)
answer_view classes (answer.SetsRegion r) = SetsRegion (region_view r)
answer_view classes (answer.Copies n) = Copies n.number
answer_view classes (answer.Views n) = Views n.number
answer_view classes (answer.CopiesBack n frees) = CopiesBack n.number 1 frees
answer_view classes answer.Frees = Frees 1
answer_view classes (answer.Owns n count) = Owns n.number count
answer_view classes (answer.Disowns n) = Disowns n.number
answer_view classes (answer.Calls m) = Calls (method_view m)
answer_view classes (answer.Halts trap) = Halts trap

-- what a call does: the run stops by the first check that fails, or else it does what its function answers
abbrev pub answered : Option Trap → Answer → Answer
answered (Some trap) a = Halts trap
answered None a = a

-- the answer of a function to a call that this caller makes in this scene, all checks being passed
abbrev pub scene_answer : Scene → Caller → JniFunction → List ActualInMemory → Answer
scene_answer scene caller f actuals =
    call_answer (unit_tree caller.unit.now) scene.classes.now caller.thread (scene_sight scene f actuals) f

-- ---- what the table gives of each answer

-- the array or the string has the region
abbrev pub IsInside : Heap → Region → Type 0
IsInside heap r = IsTrue (nat_le (r.start + r.count) (length (values_of heap r.object)))

-- the local array has as many numbers
abbrev pub HasRoom : List ℤ → Region → Type 0
HasRoom array r = IsTrue (nat_le r.count (length array))

-- a function answers with a region that is there, and calls a method only if it is one that does
abbrev pub FitsCall : Heap → (array : List ℤ) → JniFunction → Answer → Type 0
FitsCall heap array f (GetsRegion r) = IsInside heap r × HasRoom array r
FitsCall heap array f (SetsRegion r) = IsInside heap r × HasRoom array r
FitsCall heap array f (Calls m) = calls_method f ≡ true
FitsCall heap array f a = Unit {0}

-- the local array of the fourth argument
abbrev pub array_given : Variables → List Actual → List ℤ
array_given vs args = local_array (lookup (variable_given args 3) vs)

-- ---- what an answer leaves

-- how a call is over, or goes on
pub data Coming : Type 0 where
  -- it gives this
  Gave : CallResult → Coming
  -- the function of this name is to be called
  Enters : (function : Identifier) → List ObjectValue → Coming
  -- the run stops
  Stops : Trap → Coming

-- what a call leaves
pub record Left : Type 0 where
  pub shared : Shared
  pub thread : Thread
  pub coming : Coming

-- what is shared with these objects made
abbrev pub with_made : List Object → Shared → Shared
with_made [] s = s
with_made (o ∷ more) s = record s { heap = s.heap ++ o ∷ more }

-- what a call of this kind of result leaves by its effect; an exception that it throws is pending
abbrev pub left_of : Classes → ResultKind → Shared → Thread → CallEffect → Left
left_of classes kind s t (Throws c) = record {
  shared = with_made (fresh_object classes c ∷ []) s;
  thread = record t { pending = Some (next_name s.heap) };
  coming = Gave (failure kind);
}
left_of classes kind s t (Leaves made s' t' given) = record { shared = with_made made s'; thread = t'; coming = Gave given }
left_of classes kind s t (effects.Enters function arguments) = record { shared = s; thread = t; coming = Enters function arguments }
left_of classes kind s t (effects.Halts trap) = record { shared = s; thread = t; coming = Stops trap }

-- the same in memory, over these objects
abbrev pub done_view : Heap → List Actual → Done → Coming
done_view heap args (done.Gives g) = Gave (given_view g)
done_view heap args (done.Lends b) = Gave (BufferResult (lent_view heap b))
done_view heap args (done.Calls x) = Enters x.now (map passed_value (drop 2 args))
done_view heap args (done.Halts trap) = Stops trap

-- a thread with these variables and frames and this pending exception
abbrev pub with_locals : Thread → Locals → (pending : Option ObjectId) → Thread
with_locals t locals pending = record t { variables = variables_view locals.variables; frames = locals.frames; pending = name_of pending }

-- An answer to a call with these arguments is carried out where buffers take what is in use: of each thread with these locals and this
-- pending exception its effect leaves what is there then.
abbrev pub CarriesOutWith : BuffersInUse → Turn → JniFunction → List ActualInMemory → InMemory → SharedInMemory → Locals → Option ObjectId → Done
    → SharedInMemory → Locals → Option ObjectId → Type 0
CarriesOutWith in_use turn f actuals a s locals pending did s' locals' pending' =
    (t : Thread) → left_of turn.classes.now (prototype f).result (shared_view s) (with_locals t locals pending)
    (effect_of turn.classes.now in_use turn.thread (shared_view s) (with_locals t locals pending) (map actual_view actuals)
    (answer_view turn.classes.now a))
    ≡ record { shared = shared_view s'; thread = with_locals t locals' pending'; coming = done_view (shared_view s').heap (map actual_view actuals) did }

-- the same in this turn
abbrev pub CarriesOut : Turn → JniFunction → List ActualInMemory → InMemory → SharedInMemory → Locals → Option ObjectId → Done
    → SharedInMemory → Locals → Option ObjectId → Type 0
CarriesOut turn f actuals a s locals pending did s' locals' pending' =
    CarriesOutWith (in_use_view turn.in_use) turn f actuals a s locals pending did s' locals' pending'

-- a function that answers so gives something at once: no buffer, for which it matters what all buffers take, no call of a method, and no
-- end of the run
abbrev pub GivesAtOnce : InMemory → Type 0
GivesAtOnce (answer.Copies n) = ⊥
GivesAtOnce (answer.Views n) = ⊥
GivesAtOnce (answer.Calls m) = ⊥
GivesAtOnce (answer.Halts trap) = ⊥
GivesAtOnce a = Unit {0}

-- the frames with what a call of this kind of result gave
abbrev pub frames_with : ResultKind → CallResult → List Frame → List Frame
frames_with NewLocal (ReferenceResult (Some n)) frames = with_local n frames
frames_with kind given frames = frames
