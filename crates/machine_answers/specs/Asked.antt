-- A call of a function with the arguments that the source's call has.
use Rattle.std.specs.Prelude.{◌≡◌, ◌≢◌, ℕ, Bool, false, true, List, [], length, Option, Some}
use Rattle.std.specs.List.{AllZip}
use Rattle.base.specs.Bytes.{Identifier, lookup}
use Rattle.syntax.specs.Tree.{SourceUnit}
use Rattle.syntax.specs.Views.{unit_tree}
use Rattle.class_rules.specs.Class.{Classes}
use Rattle.class_rules.specs.Grown.{HasMethodError}
use Rattle.code.specs.Call.{Call}
use Rattle.code.specs.declared.instr.Operand.TheVariants as operand
use Rattle.heap.specs.Heap.{Space}
use Rattle.jni.specs.declared.access.Access.{Access}
use Rattle.jni.specs.declared.function.JniFunction.{JniFunction}
use Rattle.jni.specs.declared.function.JniFunction.TheVariants.{DeleteGlobalRef, DeleteLocalRef, DeleteWeakGlobalRef, GetStaticMethodID, ReleaseBuffer}
use Rattle.jni.specs.JniFunction.{parameters_for}
use Rattle.region_rules.specs.RegionRules.{is_critical_call}
use Rattle.semantics.specs.Arguments.{Actual, object_given, reference_given, variable_given}
use Rattle.semantics.specs.CallEffects.{level_of}
use Rattle.semantics.specs.CallStep.{target_element, waits_with}
use Rattle.semantics.specs.Effect.{Calls}
use Rattle.semantics.specs.Task.{Target}
use Rattle.semantics.specs.Thread.{BuffersInUse, Shared, Thread, objects_viewed}
use Rattle.semantics.specs.Variable.{StaticReference}
use Rattle.semantics.specs.World.{World}
use Rattle.semantics_safety.specs.StepSafe.{came_from}
use Rattle.semantics_typing.specs.Objects.{AreTypedObjects, AreTypedVariables}
use Rattle.code_meaning.specs.Does.{AllTogether, words_given, texts_given}
use Rattle.code_meaning.specs.Lowered.{Lowered}
use Rattle.code_meaning.specs.Slots.{static_index}
use Rattle.machine_scenes.specs.declared.store.Store.{Store}
use Rattle.machine_scenes.specs.declared.activation.Activation.{Activation}
use Rattle.machine_scenes.specs.Buffers.{Acquired, HeldBuffers, acquired_by, beside, holding}
use Rattle.machine_answers.specs.Sights.{element_wanted}
use Rattle.machine_scenes.specs.StoreAgrees.{HeldAgrees, StoreAgrees}
use Rattle.machine_scenes.specs.Locals.{FramesAgree, IsKeyGiven}
use Rattle.machine_scenes.specs.Given.{HasArray, HasBuffer, IsGiven, key_at, operand_of}
use Rattle.machine_scenes.specs.HeapAgrees.{ReferenceAgrees}
use Rattle.machine_answers.specs.Answers.{Brought, bringing}
use Rattle.machine_scenes.specs.Scenes.{Scene}
use Rattle.machine_scenes.specs.Statics.{References, all_held, static_at}

-- the references that the operands of a call name
abbrev pub references_of : Store → Activation → References
references_of store activation =
    record {
      keys = activation.slots.references.items;
      locals = activation.locals;
      statics = all_held store.globals store.weaks store.statics.items;
    }

-- what a call of thread k of a unit sees
abbrev pub scene_of : SourceUnit → Classes → Store → Activation → (k : ℕ) → (pending : Option ℕ) → Scene
scene_of unit classes store activation k pending =
    record {
      unit = unit;
      classes = classes;
      space = store.heap;
      loaded = store.loaded.items;
      references = references_of store activation;
      fields = activation.slots.fields.items;
      buffers = activation.slots.buffers.items;
      stack = activation.stack;
      pending = pending;
      monitors = store.monitors;
      thread = k;
    }

-- the buffers of a call of this number, which its copies have as their owner's
abbrev pub buffers_of : Store → Activation → (owner : ℕ) → HeldBuffers
buffers_of store activation owner = holding activation.slots.buffers.items store.elements owner

-- what a call of a function with these arguments brings, of this unit and in a call of thread k of this number, where all buffers take this
abbrev pub brought_by : SourceUnit → Store → Activation → (k owner : ℕ) → BuffersInUse → Call → List Actual → Brought
brought_by unit store activation k owner in_use call args =
    bringing unit call.texts call.operands activation.slots.numbers.items (buffers_of store activation owner) k in_use args

-- a function ends the reference of a static
abbrev pub deletes_static : JniFunction → Bool
deletes_static DeleteGlobalRef = true
deletes_static DeleteWeakGlobalRef = true
deletes_static f = false

-- the static of a name is at this place, where what is held stands for what it holds in the source
pub record HeldStatic (space : Space) (references : References) (s : Shared) (x : Identifier) (i : ℕ) : Type 0 where
  pub place : static_index x s.statics ≡ Some i
  pub reference : StaticReference
  pub there : lookup x s.statics ≡ Some reference
  pub agrees : HeldAgrees space (static_at references i) reference

-- Store, frames and pending exception of thread k agree with the source's, and each operand gives what the argument at its place is, and
-- the target wants what the source's does. A local reference that is deleted is the variable's own, and a static whose reference is deleted
-- holds what the source's does. Objects and variables are typed. While the thread has a view, the function is critical, and a release
-- names the object that its buffer came from. A method is asked for only where its exception is there. The thread doesn't wait for a monitor.
pub record IsAsked (p : Lowered) (w : World) (store : Store) (pending : Option ℕ) (activation : Activation) (call : Call)
    (others : Acquired) (k owner : ℕ) (shared : Shared) (s : Thread) (target : Target) (f : JniFunction)
    (args : List Actual) : Type 0 where
  pub store_agrees : StoreAgrees p w store shared (beside others (acquired_by s))
  pub pending_agrees : ReferenceAgrees store.heap pending s.pending
  pub frames_agree : FramesAgree store.heap activation.locals s.frames
  pub same_function : call.function ≡ f
  pub count : length args ≡ length (parameters_for f (length args))
  pub given : AllTogether (IsGiven (unit_tree p.unit) w.classes store.heap (references_of store activation) activation.slots.fields.items)
      (parameters_for f (length args)) call.operands args
  pub arrays : AllZip (HasArray activation.slots.numbers.items s.variables) call.operands args
  pub buffers : AllZip (HasBuffer store.heap (buffers_of store activation owner) s.variables) call.operands args
  pub key : f ≡ DeleteLocalRef → IsKeyGiven store.heap activation.locals (key_at (references_of store activation) (operand_of call.operands 0))
      (reference_given args 0) (level_of (lookup (variable_given args 0) s.variables))
  pub held : deletes_static f ≡ true → (i : ℕ) → operand_of call.operands 0 ≡ operand.Static i
      → HeldStatic store.heap (references_of store activation) shared (variable_given args 0) i
  pub wanted : element_wanted call.target ≡ target_element s.variables target
  pub typed : AreTypedObjects w.classes shared.heap
  pub typed_variables : AreTypedVariables w.classes shared.heap s.variables
  pub critical : objects_viewed s.variables ≢ [] → is_critical_call f ≡ true
  pub release : (access : Access) → f ≡ ReleaseBuffer access → came_from (lookup (variable_given args 1) s.variables) ≡ Some (object_given args 0)
  pub methods : f ≡ GetStaticMethodID → HasMethodError w.classes
  pub ready : waits_with w.classes k shared s (Calls call.line target f args) ≡ false
  pub words : activation.stack ≡ words_given args
  pub texts : call.texts ≡ texts_given args
