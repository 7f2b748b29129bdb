-- The state of a run.
use Rattle.std.specs.Prelude.{ℕ, zero, suc, ◌++◌, ◌∷◌, [], List, length, flat_map, slice_get, slice_set, sum_by, Option, Some, None}
use Rattle.semantics.specs.declared.printed.Printed.{Printed}
use Rattle.semantics.specs.declared.event.Event.{Event}
use Rattle.semantics.specs.declared.event.Event.TheVariants.{Quiet, PrintedNumber, Trapped}
use Rattle.semantics.specs.Thread.{Thread, Shared, BuffersInUse, Advance, Advances, NoAdvance, copied_by, viewed_by}
use Rattle.semantics.specs.declared.trap.Trap.{Trap}

-- the trap that stopped the machine
pub record Stop : Type 0 where
  pub thread : ℕ
  pub trap : Trap
  pub line : ℕ

-- the whole state
pub record State : Type 0 where
  pub shared : Shared
  -- counted from 1
  pub threads : List Thread
  pub printed : List Printed
  pub stop : Option Stop

-- the thread of a number
abbrev pub thread_at : State → ℕ → Option Thread
thread_at s zero = None
thread_at s (suc i) = slice_get s.threads i

-- the threads with another one of this number
abbrev pub set_thread : List Thread → ℕ → Thread → List Thread
set_thread threads zero t = threads
set_thread threads (suc i) t = slice_set threads i t

-- the lengths of all copied lists together
abbrev pub copied : State → ℕ
copied s = sum_by copied_by s.threads

-- the objects of all views
abbrev pub views : State → List ℕ
views s = flat_map viewed_by s.threads

-- what all buffers together take
abbrev pub in_use : State → BuffersInUse
in_use s = record { copied = copied s; views = length (views s) }

-- what thread k prints, and the trap that it stops the machine with
abbrev pub with_event : State → ℕ → Event → State
with_event s k Quiet = s
with_event s k (PrintedNumber z) = record s { printed = s.printed ++ record { thread = k; number = z } ∷ [] }
with_event s k (Trapped trap line) = record s { stop = Some (record { thread = k; trap = trap; line = line }) }

-- the state after a step of thread k
abbrev pub advanced : State → ℕ → Advance → Option State
advanced s k (Advances shared t event) = Some (with_event (record s { shared = shared; threads = set_thread s.threads k t }) k event)
advanced s k NoAdvance = None
