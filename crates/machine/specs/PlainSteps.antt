-- Steps that a thread takes one after another, as long as each takes a short path. Private to it.
use Rattle.std.specs.Prelude.{◌≡◌, ℕ, ◌+◌, List, Option}
use Rattle.semantics.specs.Journal.{Entry, steps_in}
use Rattle.semantics.specs.declared.event.Stop.{Stop}
use Rattle.semantics.specs.declared.printed.Printed.{Printed}
use Rattle.machine_calls.specs.CallState.{CallState}
use Rattle.machine_scenes.specs.declared.store.Store.{Store}
use Rattle.machine_steps.specs.Advances.{within}
use Rattle.machine_steps.specs.declared.context.CodeContext.{CodeContext}
use Rattle.machine_steps.specs.declared.context.StepContext.{StepContext}
use Rattle.machine_threads.specs.declared.thread.Thread.{Thread}
use Rattle.machine.specs.Run.{CanGoOn, CanGoOnIn, WentOn}
use Rattle.machine.specs.Writing.{Writing}

-- what such steps change: the store, their thread, the trap that has stopped the machine, and the journal's entries
pub record Moment : Type 0 where
  pub store : Store
  pub thread : Thread
  pub stop : Option Stop
  pub entries : List Entry

abbrev pub moment_of : Store → Thread → Option Stop → Writing → Moment
moment_of store thread stop journal = record { store = store; thread = thread; stop = stop; entries = journal.entries }

-- the thread of a context can go on, among those of some machine that no trap has stopped
abbrev pub CanGo : StepContext → Moment → Type 0
CanGo context before =
    (threads : List Thread) × (index : ℕ) × (printed : List Printed)
    × CanGoOn context.program.now context.world.now before.store threads index printed before.entries context.thread before.thread

-- among those of each machine, it took so many turns
abbrev pub Goes : StepContext → (turns : ℕ) → (before after : Moment) → Type 0
Goes context turns before after =
    (threads : List Thread) (index : ℕ) (printed : List Printed)
    → CanGoOn context.program.now context.world.now before.store threads index printed before.entries context.thread before.thread
    → WentOn context.program.now context.world.now before.store after.store threads index printed before.entries context.thread turns
    after.thread after.stop after.entries

-- the call in progress of some thread can go on, with a journal of such entries
abbrev pub CanGoIn : CodeContext → CallState → (journal : Writing) → Type 0
CanGoIn context before journal =
    (threads : List Thread) × (index : ℕ) × (printed : List Printed) × (thread : Thread)
    × CanGoOnIn context.step.program.now context.step.world.now before.store threads index printed journal.entries context.step.thread thread
    context.code.now before.activation before.pending context.owner

-- of each such thread, the call in progress went on by so many turns, and this trap has stopped the machine, or none
abbrev pub GoesIn : CodeContext → (turns : ℕ) → (before after : CallState) → Option Stop → (old new : Writing) → Type 0
GoesIn context turns before after stop old new =
    (threads : List Thread) (index : ℕ) (printed : List Printed) (thread : Thread)
    → CanGoOnIn context.step.program.now context.step.world.now before.store threads index printed old.entries context.step.thread thread
    context.code.now before.activation before.pending context.owner
    → WentOn context.step.program.now context.step.world.now before.store after.store threads index printed old.entries context.step.thread
    turns (within after.activation after.pending thread) stop new.entries

-- the journal has so many steps more, and room for so many less
abbrev pub IsLonger : (old new : Writing) → (count : ℕ) → Type 0
IsLonger old new count = (steps_in new.entries ≡ steps_in old.entries + count) × (new.room + count ≡ old.room)
