-- What is known of a call by what it sees. Its checks don't look at monitors.
use Rattle.syntax.specs.Views.{unit_tree}
use Rattle.std.proofs.Common.{◌≡◌, ℕ, ◌+◌, true, false, List, length, Option, Some, None, refl, sym, ap, ◌∙◌, subst}
use Rattle.std.specs.Prelude.{slice_get, ◌&&◌, nat_le}
use Rattle.code.specs.Call.{Call, call_view}
use Rattle.code.specs.declared.instr.Operand.{Operand}
use Rattle.code.specs.declared.instr.Call.{Call as InMemory}
use Rattle.heap.specs.Heap.{IsAddress}
use Rattle.jni.specs.JniFunction.{calls_method}
use Rattle.monitors.specs.declared.monitors.Monitor.{Monitor}
use Rattle.semantics.specs.CallStep.{trap_of_call}
use Rattle.semantics.specs.Effect.{effect_of}
use Rattle.semantics.specs.Task.{Task}
use Rattle.semantics.specs.Thread.{Shared, Thread, sight_of}
use Rattle.semantics.specs.declared.trap.Trap.{Trap}
use Rattle.semantics.specs.World.{World}
use Rattle.semantics_safety.specs.Owners.{Owners}
use Rattle.code_meaning.specs.Lowered.{Lowered}
use Rattle.tables.specs.Locals.{has_room}
use Rattle.machine_scenes.specs.declared.activation.Activation.{Activation}
use Rattle.machine_scenes.specs.declared.store.Store.{Store}
use Rattle.machine_answers.specs.Asked.{scene_of}
use Rattle.machine_scenes.specs.Buffers.{Acquired}
use Rattle.machine_answers.specs.Checked.{arguments_fit, trap_found}
use Rattle.machine_answers.specs.Sights.{MethodIsThere, element_wanted, trap_seen}
use Rattle.machine_answers.proofs.TrapsSeen.{found_seen, whatever_monitors, with_depth}
use Rattle.machine_scenes.specs.Given.{AreAddresses, AreHandles, ReferenceIsThere, method_at, operand_of}
use Rattle.machine_scenes.specs.Locals.{locals_after}
use Rattle.machine_scenes.specs.Scenes.{Scene}
use Rattle.machine_scenes.proofs.BlocksOfNames.{is_address}
use Rattle.machine_answers.proofs.CallTraps.{fits_where_none, handles_there, method_there, objects_there, pending_there}
use Rattle.machine_steps.specs.Invoked.{AtCall}
use Rattle.machine_steps.proofs.AskedCalls.{CalledAs, called, found, found_same, r, trap_is}

-- where calls may be deeper, a trap is what was found
undeep : (o : Option Trap) → with_depth false o ≡ o
undeep None = refl
undeep (Some trap) = refl

-- The pending exception, each operand and each object made at load is NULL or the address of a block, or a handle of a field or a method.
pub record IsThere (scene : Scene) (operands : List Operand) : Type 0 where
  pub pending : ReferenceIsThere scene.space scene.pending
  pub objects : AreAddresses scene.space scene.references operands
  pub handles : AreHandles scene.classes scene.fields operands
  pub method : MethodIsThere scene.unit scene.classes (method_at scene.fields (operand_of operands 1))
  pub loaded : (i a : ℕ) → slice_get scene.loaded i ≡ Some a → IsAddress scene.space a

module _ (p : Lowered) (w : World) (store : Store) (pending : Option ℕ) (call : Activation) (in_memory : InMemory) (others : Acquired) (k owner : ℕ) (own : Owners) (shared : Shared) (s : Thread) (task : Task) (rest : List Task) (h : AtCall p w store pending call in_memory others k owner own shared s task rest)
    (monitors : List Monitor) (scene : Scene) (same : scene ≡ record (scene_of (unit_tree p.unit) w.classes store call k pending) { monitors = monitors }) where
  abbrev function : Call
  function = call_view in_memory

  abbrev it : CalledAs p w store pending call h.code function others k owner own shared s task rest (r p w store pending call in_memory others k owner own shared s task rest h) (effect_of (sight_of shared s) task)
  it = called p w store pending call in_memory others k owner own shared s task rest h

  pub all_there : IsThere scene in_memory.operands.items
  all_there = subst (λ (x : Scene). IsThere x in_memory.operands.items) (sym same) (record {
    pending = pending_there p w store pending call function others k owner shared s it.target it.f it.args it.asked;
    objects = objects_there p w store pending call function others k owner shared s it.target it.f it.args it.asked;
    handles = handles_there p w store pending call function others k owner shared s it.target it.f it.args it.asked;
    method = method_there p w store pending call function others k owner shared s it.target it.f it.args it.asked;
    loaded = λ i a at. is_address store.heap a (i + 1) (h.shares.table.named i a at);
  })

  -- the trap that is seen is what the checks find
  pub as_seen : trap_found scene (has_room (locals_after in_memory.function call.locals)) (element_wanted in_memory.target) in_memory.function in_memory.operands.items ≡ trap_seen scene call.locals function
  as_seen = found_seen scene call.locals function all_there.pending all_there.objects all_there.method

  pub seen_found : trap_seen scene call.locals function ≡ found p w store pending call in_memory others k owner own shared s task rest h
  seen_found =
      ap (λ (x : Scene). trap_seen x call.locals function) same
      ∙ whatever_monitors (scene_of (unit_tree p.unit) w.classes store call k pending) monitors call.locals function
      ∙ found_same p w store pending call in_memory others k owner own shared s task rest h

  -- of one that calls no method it is the source's
  pub source_trap : calls_method it.f ≡ false → trap_of_call w.classes shared s it.target it.f it.args ≡ trap_seen scene call.locals function
  source_trap own_answer =
      sym (trap_is p w store pending call in_memory others k owner own shared s task rest h)
      ∙ (λ i. with_depth (own_answer i && nat_le 64 (length s.callers + 1)) (found_same p w store pending call in_memory others k owner own shared s task rest h i))
      ∙ undeep (found p w store pending call in_memory others k owner own shared s task rest h)
      ∙ sym seen_found

  -- where none is, the arguments go together
  pub passed_seen : trap_seen scene call.locals function ≡ None → arguments_fit scene in_memory.operands.items (element_wanted in_memory.target) in_memory.function ≡ true
  passed_seen none =
      (λ i. arguments_fit (same i) in_memory.operands.items (element_wanted in_memory.target) (it.asked.same_function i))
      ∙ fits_where_none p w store pending call function others k owner shared s it.target it.f it.args it.asked (sym seen_found ∙ none)
