-- Calls that read or write a number of an object in one go, where names tell the object and the field.
use Rattle.std.specs.Prelude.{◌≡◌, ℕ, ℤ, Bool, true, false, List, ◌∷◌, Some, None}
use Rattle.base.specs.Bytes.{Identifier}
use Rattle.base.specs.declared.element.ElementType.{ElementType}
use Rattle.syntax.specs.Tree.{SourceUnit, Value, Variable}
use Rattle.class_rules.specs.Class.{Classes, assignable}
use Rattle.class_rules.specs.Fields.{FieldId}
use Rattle.semantics.specs.CallEffects.{ScalarResult}
use Rattle.semantics.specs.CallStep.{put}
use Rattle.semantics.specs.Heap.{class_of, field_place, holds_number}
use Rattle.semantics.specs.Task.{Task, Operand, Given}
use Rattle.semantics.specs.Thread.{BuffersInUse, Frame, Shared, Thread}
use Rattle.semantics.specs.Thread as thread
use Rattle.semantics.specs.declared.event.Event.TheVariants.{Quiet}
use Rattle.semantics.specs.ThreadStep.{step_within}
use Rattle.semantics.specs.declared.value.Value.TheVariants.{Int}
use Rattle.semantics.specs.Variable.{Live}
use Rattle.replay_arguments.specs.Shares.{sight_in}
use Rattle.replay_steps.specs.declared.activation.Activation.{Activation}
use Rattle.replay_steps.specs.Activations.{Advances, thread_in}
use Rattle.replay_steps.specs.Steps.{Sees, scene_with}
use Rattle.replay_tasks.specs.declared.outcome.Outcome.TheVariants as outcome
use Rattle.replay_tasks.specs.declared.outcome.Purpose.{Purpose}
use Rattle.replay_tasks.specs.declared.outcome.Purpose.TheVariants as purpose
use Rattle.replay_tasks.specs.declared.task.Invocation.{Invocation}
use Rattle.replay_tasks.specs.declared.task.Task.TheVariants as task
use Rattle.replay_tasks.specs.Outcomes.{target_view}
use Rattle.replay_tasks.specs.Tasks.{task_view}
use Rattle.replay_terms.specs.Views.{Contents, variables_view}

-- the bare name of a variable, as an argument
abbrev pub named : Identifier → Operand
named x = Given (Value (Variable x))

-- the objects of a class have this field, which is a number of this type
pub record HasNumber (classes : Classes) (class : ℕ) (field : FieldId) (T : ElementType) : Type 0 where
  pub own : field.is_static ≡ false
  pub has : assignable classes class field.class ≡ true
  pub number : holds_number T field.field.type ≡ true

-- where this can be seen, these names tell a number: the first is of an object, and the second of a field ID of its field at this place, of this type
pub record NamesNumber (classes : Classes) (s : Shared) (vs : Contents) (T : ElementType) (x y : Identifier) (n place : ℕ) : Type 0 where
  pub field : FieldId
  pub refers : (sight_in s vs).reference x ≡ Live n
  pub holds : (sight_in s vs).field y ≡ Some field
  pub has : HasNumber classes (class_of s.heap n) field T
  pub is : place ≡ field_place classes s.heap n field

-- a number that a call gives was put where it belongs, which changes nothing but a variable, or wasn't put, and all is as it was
abbrev pub PutsNumber : Contents → Purpose → ℤ → (took : Bool) → Contents → Type 0
PutsNumber vs p z false vs' = vs' ≡ vs
PutsNumber vs (purpose.Put to) z true vs' =
    (s : Shared) (t : Thread) → t.variables ≡ variables_view vs
    → put (target_view to) (ScalarResult (Int z)) s t ≡ thread.Advances s (record t { variables = variables_view vs' }) Quiet
PutsNumber vs (purpose.Test b other) z true vs' = ⊥

-- a call with no exception pending took its step, whose turn ever it is, is over with it, and leaves this, or all is as it was
abbrev pub TriesCall : Classes → Shared → Contents → Invocation → (took : Bool) → Shared → Contents → Type 0
TriesCall classes s vs i true s' vs' =
    (unit : SourceUnit) (in_use : BuffersInUse) (k : ℕ) (frames : List Frame) (t : Thread) (rest : List Task)
    → Sees (scene_with unit classes in_use k s vs frames None) t
    → step_within unit classes in_use k s t false (Some (task_view (task.Invoke i) ∷ rest))
    ≡ thread.Advances s' (thread_in t rest (scene_with unit classes in_use k s' vs' frames None)) Quiet
TriesCall classes s vs i false s' vs' = (s' ≡ s) × (vs' ≡ vs)

-- the same of a call in progress
abbrev pub AttemptsField : Classes → Shared → Activation → (took : Bool) → Shared → Activation → Type 0
AttemptsField classes s old true s' new =
    (unit : SourceUnit) (in_use : BuffersInUse) (k : ℕ)
    → Advances false (scene_with unit classes in_use k s old.locals.variables old.locals.frames None) old.work outcome.Stays
    (scene_with unit classes in_use k s' new.locals.variables new.locals.frames None) new.work
AttemptsField classes s old false s' new = (s' ≡ s) × (new ≡ old)
