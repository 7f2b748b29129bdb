-- One step of one thread: the effect of its first task, on the thread and on what all threads share.
use Rattle.std.specs.Prelude.{ℕ, Bool, true, false, ℤ, pos, List, ◌∷◌, ◌++◌, replicate, slice_set, Option, Some, None}
use Rattle.base.specs.Bytes.{Identifier, lookup}
use Rattle.syntax.specs.Tree.{SourceUnit}
use Rattle.class_rules.specs.Class.{Classes}
use Rattle.semantics.specs.Object.{Number}
use Rattle.semantics.specs.Activation.{entry_step}
use Rattle.semantics.specs.CallEffects.{NullResult}
use Rattle.semantics.specs.CallStep.{put, call_step, waits_with}
use Rattle.semantics.specs.Effect.{Effect, Becomes, Sets, SetsNull, SetsElement, MakesArray, Prints, Calls, Returns, TrapsAt, NoEffect, effect_of}
use Rattle.semantics.specs.Heap.{with_value_at}
use Rattle.semantics.specs.Return.{return_step}
use Rattle.semantics.specs.Task.{Task}
use Rattle.semantics.specs.declared.event.Event.TheVariants.{Quiet, PrintedNumber, Trapped}
use Rattle.semantics.specs.Thread.{Thread, Shared, BuffersInUse, Advance, Advances, NoAdvance, sight_of}
use Rattle.semantics.specs.Value.{convert}
use Rattle.semantics.specs.Variable.{Variable, Scalar, Elements, LocalArray, Copy, View, assign}

-- ---- effects

-- the thread with a variable set, and the shared state as it was
abbrev pub set_variable : Shared → Thread → Identifier → Variable → Advance
set_variable s t x v = Advances s (record t { variables = assign x v t.variables }) Quiet

-- an element that is there is written, converted to its type; a view writes the object itself
abbrev pub set_element : Shared → Thread → Identifier → ℕ → ℤ → Option Variable → Advance
set_element s t x i z (Some (LocalArray T zs)) = set_variable s t x (LocalArray T (slice_set zs i (convert T z)))
set_element s t x i z (Some (Elements T (Copy n zs))) = set_variable s t x (Elements T (Copy n (slice_set zs i (convert T z))))
set_element s t x i z (Some (Elements T (View n))) = Advances (record s { heap = with_value_at s.heap n i (Number (convert T z)) }) t Quiet
set_element s t x i z v = NoAdvance

-- the thread with these tasks still to do
abbrev pub with_tasks : Thread → List Task → Thread
with_tasks t tasks = record t { tasks = Some tasks }

-- Thread k, where the buffers of all threads together take what is in use; the rest of its tasks is still to do.
module _ (unit : SourceUnit) (classes : Classes) (in_use : BuffersInUse) (k : ℕ) (s : Shared) (t : Thread) (rest : List Task) where
  -- what an effect of the first task leaves
  abbrev pub after_effect : Effect → Advance
  after_effect (Becomes tasks) = Advances s (with_tasks t (tasks ++ rest)) Quiet
  after_effect (Sets x v) = set_variable s (with_tasks t rest) x (Scalar v)
  after_effect (SetsNull target) = put target NullResult s (with_tasks t rest)
  after_effect (SetsElement x i z) = set_element s (with_tasks t rest) x i z (lookup x t.variables)
  after_effect (MakesArray T x n) = set_variable s (with_tasks t rest) x (LocalArray T (replicate n (pos 0)))
  after_effect (Prints z) = Advances s (with_tasks t rest) (PrintedNumber z)
  after_effect (Calls line target f args) = call_step unit classes in_use k s t line target f args rest false
  after_effect (Returns given) = return_step k s t given
  after_effect (TrapsAt trap line) = Advances s t (Trapped trap line)
  after_effect NoEffect = NoAdvance

  -- the same with its allocation refused, possible only where a call makes objects
  abbrev pub after_refused_effect : Effect → Advance
  after_refused_effect (Calls line target f args) = call_step unit classes in_use k s t line target f args rest true
  after_refused_effect e = NoAdvance

-- ---- the step

-- the effect of a thread's next step within a call
abbrev pub next_effect : Shared → Thread → Option (List Task) → Effect
next_effect s t (Some (task ∷ rest)) = effect_of (sight_of s t) task
next_effect s t tasks = NoEffect

-- the thread waits for a monitor
abbrev pub waits : Classes → (k : ℕ) → Shared → Thread → Bool
waits classes k s t = waits_with classes k s t (next_effect s t t.tasks)

-- thread k's step in a call, or into its next one
abbrev pub step_within : SourceUnit → Classes → BuffersInUse → (k : ℕ) → Shared → Thread → (refused : Bool) → Option (List Task) → Advance
step_within unit classes in_use k s t false None = entry_step unit classes s t
step_within unit classes in_use k s t false (Some (task ∷ rest)) = after_effect unit classes in_use k s t rest (effect_of (sight_of s t) task)
step_within unit classes in_use k s t true (Some (task ∷ rest)) = after_refused_effect unit classes in_use k s t rest (effect_of (sight_of s t) task)
step_within unit classes in_use k s t refused tasks = NoAdvance

-- thread k's step, or the same with its allocation refused
abbrev pub thread_step : SourceUnit → Classes → BuffersInUse → (k : ℕ) → Shared → Thread → (refused : Bool) → Advance
thread_step unit classes in_use k s t refused = step_within unit classes in_use k s t refused t.tasks
