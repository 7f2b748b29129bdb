-- A thread before its first call.
use Rattle.std.proofs.Common.{◌≡◌, ℕ, List, [], length, Option, None, refl, sym, ap, arith}
use Rattle.class_rules.specs.Class.{Classes}
use Rattle.heap.specs.Heap.{Space}
use Rattle.tables.specs.Elements.{OwnedNumbers}
use Rattle.semantics.specs.World.{Invocation}
use Rattle.semantics.specs.Start.{waiting_thread}
use Rattle.semantics.specs.Thread.{Shared}
use Rattle.code_meaning.specs.Lowered.{Lowered}
use Rattle.semantics.specs.declared.event.Ending.TheVariants.{Unfinished}
use Rattle.machine_threads.specs.declared.thread.Thread.{Thread}
use Rattle.semantics_safety.specs.Owners.{no_owners}
use Rattle.machine_threads.specs.ThreadAgrees.{CallsAgree, ThreadAgrees}

pub before_agrees : (p : Lowered) (classes : Classes) (space : Space) (copies : List (Option OwnedNumbers)) (made k : ℕ) (shared : Shared) (t : Thread) (calls : List Invocation) → CallsAgree p classes made t.calls.items calls → (calls ≡ [] → ⊥) → t.entering ≡ None → t.call ≡ None → t.callers.items ≡ [] → t.pending ≡ None → t.ending ≡ Unfinished → ThreadAgrees p classes space copies made k no_owners shared t (waiting_thread calls)
before_agrees p classes space copies made k shared t calls h some no_entering none no_callers no_exception ending = record { calls = rw no_entering h; due = rw no_entering tt; work = rw none refl; callers = rw no_callers tt; few = omega (arith, ap length no_callers); pending = rw no_exception tt; caught = λ b. refl; idle = λ b. refl; views = rw none (λ n. omega arith); ending = sym ending; busy = λ a b c. some c }
