-- A call that only enters or leaves a monitor.
use Rattle.std.proofs.Common.{◌≡◌, ℕ, true, false, List, Option, refl}
use Rattle.code.specs.declared.instr.Target.{Target}
use Rattle.code.specs.declared.instr.Target.TheVariants as target
use Rattle.code_meaning.specs.Lowered.{Lowered}
use Rattle.heap.specs.Heap.{Space}
use Rattle.jni.specs.declared.kinds.ResultKind.{ResultKind}
use Rattle.monitors.specs.declared.monitors.Monitor.{Monitor}
use Rattle.semantics.specs.Answer.{Answer as SourceAnswer}
use Rattle.semantics.specs.Thread.{Shared, Thread}
use Rattle.semantics.specs.World.{World}
use Rattle.tables.specs.Locals.{LocalTable}
use Rattle.machine_answers.specs.Answers.{Brought, IsAnswer, effect_told, is_carried}
use Rattle.machine_answers.specs.declared.answer.Answer.{Answer}
use Rattle.machine_answers.specs.declared.answer.Answer.TheVariants as answer
use Rattle.machine_answers.specs.declared.answer.Given.TheVariants as given
use Rattle.machine_calls.proofs.MonitorCarries as monitors
use Rattle.machine_calls.specs.CarriedOut.{CarriesOut, IsPossible, buffers_after, slots_after}
use Rattle.machine_scenes.specs.Buffers.{Acquired}
use Rattle.machine_scenes.specs.declared.buffer.Buffer.{Buffer}
use Rattle.machine_scenes.specs.Statics.{StaticReference}
use Rattle.machine_scenes.specs.declared.store.Store.{Store}
use Rattle.machine_steps.specs.MonitorCalls.{Changes, changes_monitor}
use Rattle.machine_steps.specs.Received.{statics_with}

-- it is carried out
pub goes_on : (a : Answer) → changes_monitor a ≡ true → is_carried a ≡ true
goes_on (answer.Halts trap) is = absurd (let clash : false ≡ true = is in cc)
goes_on answer.Calls is = absurd (let clash : false ≡ true = is in cc)
goes_on a is = refl

-- slots stay
pub numbers_stay : (space : Space) (a : Answer) → changes_monitor a ≡ true → (numbers : List ℕ) → numbers ≡ slots_after space a numbers
numbers_stay space (answer.CopiesOut region) is numbers = absurd (let clash : false ≡ true = is in cc)
numbers_stay space a is numbers = refl

pub buffers_stay : (a : Answer) → changes_monitor a ≡ true → (buffers : List Buffer) → buffers ≡ buffers_after a buffers
buffers_stay (answer.Releases released) is buffers = absurd (let clash : false ≡ true = is in cc)
buffers_stay a is buffers = refl

-- a number goes into no static
pub statics_stay : (t : Target) (word : ℕ) (statics : List StaticReference) → statics ≡ statics_with t (given.Number word) statics
statics_stay (target.Static slot) word statics = refl
statics_stay t word statics = refl

-- What is done is what the source's call leaves.
module _ (p : Lowered) (w : World) (store : Store) (pending : Option ℕ) (locals : LocalTable) (kind : ResultKind) (others : Acquired) (k owner : ℕ) (shared : Shared) (s : Thread) (h : IsPossible p w store pending locals others shared s) (brought : Brought) (thread : brought.thread ≡ k) (of_source : SourceAnswer) where
  pub carries : (a : Answer) → changes_monitor a ≡ true → IsAnswer w.classes brought store.heap locals shared s a kind of_source → (ms : List Monitor) → Changes k a store.monitors ms
      → CarriesOut p w store.heap locals a kind others owner shared s (effect_told w.classes brought shared s of_source) false (record store { monitors = ms }) pending locals (given.Number 0)
  carries (answer.Enters o) is does ms left = monitors.enters p w store pending locals others k owner shared s h brought thread o does left.0 ms left.1 left.2 left.3
  carries (answer.Exits n) is does ms left = monitors.exits p w store pending locals others k owner shared s h brought thread n does left.0 ms left.1 left.2 left.3
  carries a is does ms left = absurd (let clash : false ≡ true = is in cc)
