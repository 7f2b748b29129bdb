-- How threads stand for those of the source.
use Rattle.std.specs.Prelude.{◌≡◌, ℕ, ◌<◌, ◌≤◌, List, [], ◌∷◌, length, map, reverse, Option, Some, None, IsTrue, slice_get, suc}
use Rattle.std.specs.List.{list_all}
use Rattle.base.specs.Limits.{most_activations, most_names}
use Rattle.syntax.specs.Parts.{functions_of}
use Rattle.syntax.specs.Tree.{Function}
use Rattle.syntax.specs.Views.{unit_tree}
use Rattle.class_rules.specs.Class.{Classes}
use Rattle.heap.specs.Heap.{Space}
use Rattle.world_values.specs.CallArguments.{is_argument}
use Rattle.world_values.specs.Views.{object_value_view}
use Rattle.semantics.specs.World.{Invocation}
use Rattle.semantics.specs.Activation.{function_at, class_of_function}
use Rattle.semantics_safety.specs.Owners.{ThreadOwners, AllOwners}
use Rattle.semantics.specs.Thread as source
use Rattle.semantics.specs.Task.{Task}
use Rattle.semantics.specs.Thread.{Caller, Shared}
use Rattle.code_meaning.specs.Slots.{ArgumentsFit, visible_to}
use Rattle.code_meaning.specs.Lowered.{Lowered}
use Rattle.machine_threads.specs.declared.thread.Thread.{Thread}
use Rattle.machine_threads.specs.declared.thread.Entering.{Entering}
use Rattle.machine_threads.specs.declared.thread.PendingCall.{PendingCall}
use Rattle.machine_scenes.specs.declared.activation.Activation.{Activation}
use Rattle.machine_scenes.specs.declared.buffer.Buffer.{Buffer}
use Rattle.machine_scenes.specs.Buffers.{AreViewed}
use Rattle.machine_scenes.specs.HeapAgrees.{ReferenceAgrees, ValuesAgree}
use Rattle.machine_threads.specs.Callers.{CallersAgree, owner_at}
use Rattle.machine_threads.specs.InProgress.{WorkAgrees}
use Rattle.semantics.specs.declared.event.Ending.TheVariants.{Unfinished}
use Rattle.tables.specs.Elements.{OwnedNumbers}

-- ---- calls

-- A call to come, where this number of objects were made at load. A function's number is its place among the unit's functions.
pub record CallAgrees (p : Lowered) (classes : Classes) (made : ℕ) (next : PendingCall) (call : Invocation) : Type 0 where
  pub function : Function
  pub named : function_at (unit_tree p.unit) call.function ≡ Some function
  pub numbered : slice_get (functions_of (unit_tree p.unit)) next.function ≡ Some function
  pub of_class : class_of_function classes function ≡ Some next.class.number
  pub class_made : (0 < next.class.number) × (next.class.number ≤ made)
  pub arguments : map object_value_view next.arguments.items ≡ call.arguments
  pub given : IsTrue (list_all (is_argument made) call.arguments)
  pub fit : ArgumentsFit function.parameters call.arguments
  pub few : length call.arguments ≤ most_names

-- call by call
abbrev pub CallsAgree : Lowered → Classes → (made : ℕ) → List PendingCall → List Invocation → Type 0
CallsAgree p classes made [] [] = Unit {0}
CallsAgree p classes made [] (c ∷ calls) = ⊥
CallsAgree p classes made (n ∷ nexts) [] = ⊥
CallsAgree p classes made (n ∷ nexts) (c ∷ calls) = CallAgrees p classes made n c × CallsAgree p classes made nexts calls

-- A call that another has made and that isn't entered yet: what it is given stands for the source's arguments.
pub record EnteringAgrees (p : Lowered) (classes : Classes) (space : Space) (made : ℕ) (next : Entering) (call : Invocation) : Type 0 where
  pub function : Function
  pub named : function_at (unit_tree p.unit) call.function ≡ Some function
  pub numbered : slice_get (functions_of (unit_tree p.unit)) next.function ≡ Some function
  pub of_class : class_of_function classes function ≡ Some next.class.number
  pub class_made : (0 < next.class.number) × (next.class.number ≤ made)
  pub arguments : ValuesAgree space next.arguments.items call.arguments
  pub fit : ArgumentsFit function.parameters call.arguments
  pub few : length call.arguments ≤ most_names

-- the calls to come, of which the first is one that another has made, if there is one
abbrev pub CallsToComeAgree : Lowered → Classes → Space → (made : ℕ) → Option Entering → List PendingCall → List Invocation → Type 0
CallsToComeAgree p classes space made None nexts calls = CallsAgree p classes made nexts calls
CallsToComeAgree p classes space made (Some e) nexts [] = ⊥
CallsToComeAgree p classes space made (Some e) nexts (c ∷ calls) = EnteringAgrees p classes space made e c × CallsAgree p classes made nexts calls

-- a call that another has made is to be entered exactly where there are callers and no call is in progress
abbrev pub IsDue : Option Entering → Option (List Task) → List Caller → Type 0
IsDue None (Some tasks) callers = Unit {0}
IsDue None None [] = Unit {0}
IsDue (Some e) None (c ∷ callers) = Unit {0}
IsDue e tasks callers = ⊥

-- ---- threads

-- the buffers in the slots of a call in progress, or of none
abbrev pub buffers_of : Option Activation → List Buffer
buffers_of None = []
buffers_of (Some activation) = activation.slots.buffers.items

-- thread k stands for one of the source, with this heap and these copied lists, where this number of objects were made at load
pub record ThreadAgrees (p : Lowered) (classes : Classes) (space : Space) (copies : List (Option OwnedNumbers))
    (made k : ℕ) (own : ThreadOwners) (shared : Shared) (t : Thread) (s : source.Thread) : Type 0 where
  pub calls : CallsToComeAgree p classes space made t.entering t.calls.items s.calls
  pub due : IsDue t.entering s.tasks s.callers
  pub work : WorkAgrees p classes space copies (owner_at k (length s.callers)) (visible_to own.current shared s) t.call s.frames s.tasks
  -- memory has the last caller last
  pub callers : CallersAgree p classes space copies k shared (reverse t.callers.items) own.callers s.callers
  pub few : length t.callers.items < most_activations
  pub pending : ReferenceAgrees space t.pending s.pending
  pub ending : s.ending ≡ t.ending
  -- a thread with nothing to do has ended
  pub busy : t.ending ≡ Unfinished → s.tasks ≡ None → s.calls ≡ [] → ⊥
  -- no exception is pending between two calls
  pub caught : s.tasks ≡ None → s.pending ≡ None
  -- nor is there a variable
  pub idle : s.tasks ≡ None → s.variables ≡ []
  -- each view in a slot is one that a variable holds, so it is pinned
  pub views : AreViewed space (buffers_of t.call) s

-- thread by thread, from the one of a number on
abbrev pub ThreadsAgree : Lowered → Classes → Space → List (Option OwnedNumbers) → (made : ℕ) → AllOwners → ℕ → Shared
    → List Thread → List source.Thread → Type 0
ThreadsAgree p classes space copies made owners k shared [] [] = Unit {0}
ThreadsAgree p classes space copies made owners k shared [] (s ∷ ss) = ⊥
ThreadsAgree p classes space copies made owners k shared (t ∷ ts) [] = ⊥
ThreadsAgree p classes space copies made owners k shared (t ∷ ts) (s ∷ ss) = ThreadAgrees p classes space copies made k
    (owners k) shared t s × ThreadsAgree p classes space copies made owners (suc k) shared ts ss
