-- How a call goes on after the one that it made.
use Rattle.std.specs.Prelude.{◌≡◌, ℕ, ◌≤◌, List, slice_get, Option, Some, None}
use Rattle.std.specs.Global.{Vec}
use Rattle.code.specs.Call.{Call}
use Rattle.code.specs.Depth.{Listing}
use Rattle.code.specs.declared.instr.Instr.TheVariants as instr
use Rattle.code_meaning.specs.Lowered.{Lowered}
use Rattle.jni.specs.JniFunction.{prototype}
use Rattle.machine_scenes.specs.Buffers.{Acquired}
use Rattle.machine_scenes.specs.Statics.{StaticReference}
use Rattle.machine_scenes.specs.StoreAgrees.{StoreAgrees}
use Rattle.machine_scenes.specs.declared.activation.Activation.{Activation}
use Rattle.machine_scenes.specs.declared.store.Store.{Store}
use Rattle.machine_steps.specs.Received.{Receives, statics_with}
use Rattle.machine_steps.specs.Returned.{given_back}
use Rattle.machine_steps.specs.declared.execute.ReturnValue.{ReturnValue}
use Rattle.machine_threads.specs.Callers.{CallerAgrees}
use Rattle.machine_threads.specs.declared.thread.Thread.{Thread}
use Rattle.semantics.specs.Thread.{Caller, Shared}
use Rattle.semantics.specs.World.{World}
use Rattle.semantics_safety.specs.Owners.{Owners}
use Rattle.semantics_safety.specs.StepSafe.{IsResumable}
use Rattle.tables.specs.Locals.{AreStacked}

-- a call stands for some caller of the source, which can go on
pub record HasCalled (p : Lowered) (store : Store) (caller : Activation) : Type 0 where
  pub world : World
  pub all : Acquired
  pub owner : ℕ
  pub own : Owners
  pub shared : Shared
  pub source : Caller
  pub shares : StoreAgrees p world store shared all
  pub agrees : CallerAgrees p world.classes store.heap store.elements owner caller own shared source
  pub resumable : IsResumable source

-- a thread goes on with a caller, above these, at the instruction after its call, where what the other call gave is where it belongs; what
-- memory is kept doesn't matter
pub record Resumes (p : Lowered) (v : ReturnValue) (caller : Activation) (below : List Activation) (old store : Store) (t after : Thread) : Type 0 where
  pub call : Activation
  pub callers : Vec Activation
  pub spare : Option Activation
  pub left : callers.items ≡ below
  pub resumed : after ≡ record t { call = Some call; callers = callers; spare = spare }
  pub code : Listing
  pub of_function : slice_get p.codes caller.function ≡ Some code
  pub function : Call
  pub at : slice_get code.instrs caller.place ≡ Some (instr.Call function)
  pub receives : Receives function.target (prototype function.function).result None (given_back t.pending (prototype function.function).result v) caller call
  pub statics : Vec StaticReference
  pub store_is : store ≡ record old { statics = statics }
  pub put : statics.items ≡ statics_with function.target (given_back t.pending (prototype function.function).result v) old.statics.items
  pub few : old.heap.cells ≤ 1048576
  pub stacked : AreStacked caller.locals
