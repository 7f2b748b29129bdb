use Rattle.std.proofs.Common.{◌≡◌, ℕ, ◌+◌, ◌-◌, ◌≤◌, List, None}
use Rattle.semantics.specs.Journal.{steps_in}
use Rattle.semantics.specs.declared.printed.Printed.{Printed}
use Rattle.machine_threads.specs.declared.thread.Thread.{Thread}
use Rattle.machine.specs.Run.{CanGoOn, WentOn}
use Rattle.machine.proofs.plain_steps.take_plainly.Given as goal

-- so many steps were taken, and the thread can go on
abbrev pub invariant-loop-taken : goal.invariant-loop-taken
invariant-loop-taken l = record {
  went : (threads : List Thread) (index : ℕ) (printed : List Printed) → CanGoOn l.fn.turns.step.program.now l.fn.turns.step.world.now l.fn.store threads index printed l.fn.journal.entries l.fn.turns.step.thread l.fn.thread
      → WentOn l.fn.turns.step.program.now l.fn.turns.step.world.now l.fn.store l.store threads index printed l.fn.journal.entries l.fn.turns.step.thread l.taken l.thread None l.journal.entries;
  within : l.taken ≤ l.fn.turns.most;
  goes : l.stop ≡ None;
  ending : l.thread.ending ≡ l.fn.thread.ending;
  many : steps_in l.journal.entries ≡ steps_in l.fn.journal.entries + l.taken;
  room : l.journal.room + l.taken ≡ l.fn.journal.room;
}

abbrev pub decreases-loop-taken : goal.decreases-loop-taken
decreases-loop-taken l = l.fn.turns.most - l.taken
