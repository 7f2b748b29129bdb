-- A thread, what all threads share, and what a step of one thread leaves. Memory addresses are no part of it, nor when
-- objects are collected.
use Rattle.std.specs.Prelude.{ℕ, ◌+◌, ◌==◌, ℤ, List, ◌++◌, filter, find, flat_map, not, sum_by, Option}
use Rattle.base.specs.Bytes.{Identifier}
use Rattle.jni.specs.declared.kinds.ResultKind.{ResultKind}
use Rattle.semantics.specs.Object.{Reference}
use Rattle.semantics.specs.World.{Invocation}
use Rattle.semantics.specs.Heap.{Heap}
use Rattle.semantics.specs.Sight.{Sight, seen}
use Rattle.semantics.specs.Task.{Task, Target}
use Rattle.semantics.specs.declared.event.Ending.{Ending}
use Rattle.semantics.specs.declared.event.Event.{Event}
use Rattle.semantics.specs.Variable.{Variable, Variables, Statics, copied_length, viewed}

-- local references: at most `capacity` of them, in no order
pub record Frame : Type 0 where
  pub capacity : ℕ
  pub references : List ℕ

-- a call from which another was made: what it has still to do once that is over, and where the other's result goes
pub record Caller : Type 0 where
  pub target : Target
  pub result : ResultKind
  pub tasks : List Task
  pub variables : Variables
  -- the current frame first
  pub frames : List Frame

-- a thread, with its calls to come, the one in progress, and those from which it was made
pub record Thread : Type 0 where
  -- calls to come
  pub calls : List Invocation
  -- the last one first
  pub callers : List Caller
  -- what is to do of the call in progress; none before its entry
  pub tasks : Option (List Task)
  pub variables : Variables
  -- the current frame first
  pub frames : List Frame
  -- the pending exception
  pub pending : Reference
  pub ending : Ending

-- an object that a thread owns, and how many times
pub record Monitor : Type 0 where
  pub object : ℕ
  pub owner : ℕ
  pub count : ℕ

-- what all threads share; the next object's name is one more than the heap's length
pub record Shared : Type 0 where
  pub heap : Heap
  pub statics : Statics
  -- global references, in no order
  pub globals : List ℕ
  pub monitors : List Monitor

-- what the buffers of all threads together take of what there is for them
pub record BuffersInUse : Type 0 where
  -- the lengths of all copied lists
  pub copied : ℕ
  -- how many views there are
  pub views : ℕ

-- ---- a step of one thread

-- what a step leaves, where it is possible
pub data Advance : Type 0 where
  Advances : Shared → Thread → Event → Advance
  NoAdvance : Advance

-- ---- parts

-- what a thread can see
abbrev pub sight_of : Shared → Thread → Sight
sight_of s t = seen t.variables s.statics s.heap

-- the lengths of the copied lists of a call together
abbrev pub lengths_copied : Variables → ℕ
lengths_copied vs = sum_by (λ (v : Identifier × Variable). copied_length v.1) vs

-- the objects of a call's views
abbrev pub objects_viewed : Variables → List ℕ
objects_viewed vs = flat_map (λ (v : Identifier × Variable). viewed v.1) vs

-- the lengths of a thread's copied lists together
abbrev pub copied_by : Thread → ℕ
copied_by t = sum_by (λ (c : Caller). lengths_copied c.variables) t.callers + lengths_copied t.variables

-- the objects of a thread's views
abbrev pub viewed_by : Thread → List ℕ
viewed_by t = flat_map (λ (c : Caller). objects_viewed c.variables) t.callers ++ objects_viewed t.variables

-- the capacities of all frames together
abbrev pub capacities : List Frame → ℕ
capacities frames = sum_by (λ (f : Frame). f.capacity) frames

-- the monitor of an object
abbrev pub monitor_of : List Monitor → ℕ → Option Monitor
monitor_of monitors n = find (λ (m : Monitor). m.object == n) monitors

-- the monitors without that of an object
abbrev pub without_monitor : List Monitor → ℕ → List Monitor
without_monitor monitors n = filter (λ (m : Monitor). not (m.object == n)) monitors

-- the monitors without those of a thread
abbrev pub without_owner : List Monitor → ℕ → List Monitor
without_owner monitors k = filter (λ (m : Monitor). not (m.owner == k)) monitors
