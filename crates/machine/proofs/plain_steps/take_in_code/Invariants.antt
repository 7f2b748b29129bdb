use Rattle.std.proofs.Common.{◌≡◌, ℕ, ◌+◌, ◌≤◌, List, None}
use Rattle.semantics.specs.Journal.{steps_in}
use Rattle.semantics.specs.declared.printed.Printed.{Printed}
use Rattle.machine_steps.specs.Advances.{within}
use Rattle.machine_threads.specs.declared.thread.Thread.{Thread}
use Rattle.machine.specs.Run.{CanGoOnIn, WentOn}
use Rattle.machine.proofs.plain_steps.take_in_code.Given as goal

-- so many steps were taken, within the same function
abbrev pub invariant-loop-taken : goal.invariant-loop-taken
invariant-loop-taken l = record {
  went : (threads : List Thread) (index : ℕ) (printed : List Printed) (thread : Thread) → CanGoOnIn l.fn.turns.context.step.program.now l.fn.turns.context.step.world.now l.fn.store threads index printed l.fn.journal.entries l.fn.turns.context.step.thread thread l.fn.turns.context.code.now l.fn.activation l.fn.pending l.fn.turns.context.owner
      → WentOn l.fn.turns.context.step.program.now l.fn.turns.context.step.world.now l.fn.store l.store threads index printed l.fn.journal.entries l.fn.turns.context.step.thread l.taken (within l.activation l.pending thread) None l.journal.entries;
  within : l.taken ≤ l.fn.turns.most;
  goes : l.stop ≡ None;
  function : l.activation.function ≡ l.fn.activation.function;
  many : steps_in l.journal.entries ≡ steps_in l.fn.journal.entries + l.taken;
  room : l.journal.room + l.taken ≡ l.fn.journal.room;
}
