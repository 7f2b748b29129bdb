-- The method that a call in progress calls is one of the unit's functions, and is given what the source's call gives it.
use Rattle.std.proofs.Common.{◌≡◌, ℕ, ◌<◌, ◌≤◌, true, List, [], ◌∷◌, length, drop, map, Option, Some, None, sym, ap, ◌∙◌, subst, arith}
use Rattle.std.specs.Prelude.{reverse, slice_get}
use Rattle.std.specs.Option.{option_and_then}
use Rattle.std.proofs.lemmas.Bool.{and_parts}
use Rattle.std.proofs.lemmas.List.{length-map}
use Rattle.std.proofs.lemmas.Option.{slice_get_within}
use Rattle.base.specs.Bytes.{Identifier}
use Rattle.class_rules.specs.Class.{class_named}
use Rattle.class_rules.specs.Mangling.{native_class}
use Rattle.code.specs.Call.{call_view}
use Rattle.code.specs.Depth.{Listing}
use Rattle.code.specs.declared.instr.Call.{Call as InMemory}
use Rattle.code.specs.declared.instr.Instr.{Instr}
use Rattle.code.specs.declared.instr.Instr.TheVariants as instr
use Rattle.code_meaning.specs.Does.{CallsFunction, DoesEffect}
use Rattle.code_meaning.specs.Lowered.{Lowered, IsLowered}
use Rattle.code_meaning.specs.Slots.{ArgumentFits, ArgumentsFit, visible_to}
use Rattle.heap.specs.Heap.{Space}
use Rattle.heap.specs.declared.value.Value.{Value}
use Rattle.heap.specs.declared.value.Value.TheVariants.{Number as Word, Null, Block as Address}
use Rattle.jni.specs.JniFunction.{calls_method}
use Rattle.machine_answers.proofs.CallTraps.{free_seen}
use Rattle.machine_answers.proofs.LongTables.{classes_loaded}
use Rattle.machine_answers.proofs.MethodAnswers.{CalledMethod, called_method}
use Rattle.machine_answers.proofs.PassedValues.{values_passed}
use Rattle.machine_answers.specs.Answered.{TwoCalls}
use Rattle.machine_answers.specs.Asked.{references_of}
use Rattle.machine_answers.specs.Passed.{passed_in}
use Rattle.machine_scenes.specs.Buffers.{Acquired}
use Rattle.machine_scenes.specs.Given.{method_at, operand_of}
use Rattle.machine_scenes.specs.HeapAgrees.{ValueAgrees, ValuesAgree}
use Rattle.machine_scenes.specs.declared.activation.Activation.{Activation}
use Rattle.machine_scenes.specs.declared.handle.MethodHandle.{MethodHandle}
use Rattle.machine_scenes.specs.declared.store.Store.{Store}
use Rattle.machine_steps.proofs.AskedCalls.{CalledAs, called, r}
use Rattle.machine_steps.proofs.Calls.{Ready, ready}
use Rattle.machine_steps.proofs.Fetched.{Fetched, at_call, seeing}
use Rattle.machine_steps.specs.Executes.{IsCalling, IsExecuting}
use Rattle.machine_steps.specs.Invoked.{AtCall}
use Rattle.machine_steps.specs.Pushed.{IsCalled}
use Rattle.machine_threads.specs.SlotsHold.{slots_of}
use Rattle.machine_threads.specs.ThreadAgrees.{EnteringAgrees}
use Rattle.machine_threads.specs.declared.thread.Entering.{Entering}
use Rattle.semantics.specs.Activation.{class_of_function}
use Rattle.semantics.specs.Arguments.{Actual, NumberActual, ReferenceActual, method_given, passed_value}
use Rattle.semantics.specs.CallStep.{trap_of_call}
use Rattle.semantics.specs.CallSight.{argument_seen}
use Rattle.semantics.specs.Checks.{all_pass, passes}
use Rattle.semantics.specs.Effect.{Calls, effect_of}
use Rattle.semantics.specs.Heap.{Heap}
use Rattle.semantics.specs.Method.{MethodId}
use Rattle.semantics.specs.Task.{Task}
use Rattle.semantics.specs.Thread as source
use Rattle.semantics.specs.Thread.{Shared, sight_of}
use Rattle.semantics.specs.ThreadStep.{next_effect}
use Rattle.semantics.specs.World.{World, loaded_objects}
use Rattle.semantics_safety.specs.Owners.{Owners}
use Rattle.semantics_safety.specs.StepSafe.{IsCallable}
use Rattle.syntax.specs.Parts.{functions_of}
use Rattle.syntax.specs.declared.declared_type.ParameterType.{ParameterType}
use Rattle.syntax.specs.declared.declared_type.ParameterType.TheVariants.{Jint as IntParameter, Reference as ReferenceParameter}
use Rattle.syntax.specs.Tree.{Parameter}
use Rattle.syntax.specs.Views.{unit_tree}
use Rattle.world_values.proofs.LoadedWorlds.{class_within}
use Rattle.world_values.specs.SoundWorlds.{IsSound}

-- ---- what is given

-- what passes fits
one_fits : (heap : Heap) (space : Space) (type : ParameterType) (a : Actual) (x : Value) → passes type (argument_seen heap (Some a)) ≡ true → ValueAgrees space x (passed_value a) → ArgumentFits type (passed_value a)
one_fits heap space IntParameter (NumberActual z) (Word n) h agrees = agrees.0
one_fits heap space IntParameter (NumberActual z) Null h agrees = absurd agrees
one_fits heap space IntParameter (NumberActual z) (Address b) h agrees = absurd agrees
one_fits heap space (ReferenceParameter type) (ReferenceActual y r) x h agrees = tt
one_fits heap space type a x h agrees = absurd (cc)

all_fit : (heap : Heap) (space : Space) (ps : List Parameter) (more : List Actual) (values : List Value) → all_pass ps (map (λ (a : Actual). argument_seen heap (Some a)) more) ≡ true → ValuesAgree space values (map passed_value more) → ArgumentsFit ps (map passed_value more)
all_fit heap space [] [] values h agree = tt
all_fit heap space [] (a ∷ more) values h agree = absurd (cc)
all_fit heap space (p ∷ ps) [] values h agree = absurd (cc)
all_fit heap space (p ∷ ps) (a ∷ more) [] h agree = absurd agree
all_fit heap space (p ∷ ps) (a ∷ more) (x ∷ values) h agree =
    let parts = and_parts (passes p.type (argument_seen heap (Some a))) (all_pass ps (map (λ (b : Actual). argument_seen heap (Some b)) more)) h in
    (one_fits heap space p.type a x parts.0 agree.0, all_fit heap space ps more values parts.1 agree.1)

-- a class that is found is among the objects made at load
class_made : (w : World) (o : Option Identifier) (c : ℕ) → option_and_then (class_named w.classes) o ≡ Some c → (0 < c) × (c ≤ length (loaded_objects w))
class_made w None c h = absurd (cc)
class_made w (Some name) c h = let within = class_within w.classes name c h in let most = classes_loaded w in (within.0, omega (arith, within.1, most))

-- ---- the instruction

module _ (p : Lowered) (lowered : IsLowered p) (w : World) (store : Store) (activation : Activation) (few : store.heap.cells ≤ 1048576) (pending : Option ℕ) (others : Acquired) (k owner : ℕ) (own : Owners) (shared : Shared) (s : source.Thread) (task : Task) (rest : List Task)
    (e : IsExecuting p w store activation pending others k owner own shared s task rest) (c : IsCalling w.classes shared s (effect_of (sight_of shared s) task)) where
  abbrev is_ready : Ready p w.classes store.heap store.elements owner activation e.stands.code (visible_to own shared s) s.frames task rest
  is_ready = ready p w.classes store.heap store.elements owner activation e.stands.code (visible_to own shared s) s.frames task rest lowered e.stands.of_function e.stands (seeing p w store activation pending others k owner own shared s task rest e few)

  -- it is a call
  pub calls_it : CallsFunction e.stands.code is_ready.known activation.place activation.stack (slots_of activation is_ready.meant) (visible_to own shared s) c.line c.target c.f c.args rest
  calls_it = subst (DoesEffect e.stands.code is_ready.known activation.place activation.stack (slots_of activation is_ready.meant) (visible_to own shared s) rest) c.is is_ready.does

  pub function_there : activation.function < length p.codes
  function_there = slice_get_within p.codes activation.function e.stands.code e.stands.of_function

  pub instr_there : (code : Listing) → slice_get p.codes activation.function ≡ Some code → slice_get code.instrs activation.place ≡ Some (instr.Call calls_it.call)
  instr_there code at = let same : e.stands.code ≡ code = cc (e.stands.of_function, at) in subst (λ (l : Listing). slice_get l.instrs activation.place ≡ Some (instr.Call calls_it.call)) same calls_it.at

-- ---- the method

module _ (p : Lowered) (w : World) (store : Store) (activation : Activation) (function : InMemory) (i : Instr) (f : Fetched p store activation i) (is : i ≡ instr.Call (call_view function)) (sound : IsSound w) (pending : Option ℕ) (others : Acquired) (k owner : ℕ) (own : Owners) (shared : Shared) (s : source.Thread) (task : Task) (rest : List Task)
    (e : IsExecuting p w store activation pending others k owner own shared s task rest) (c : IsCalling w.classes shared s (effect_of (sight_of shared s) task)) where
  abbrev pub at : AtCall p w store pending activation function others k owner own shared s task rest
  at = at_call p w store pending activation i f function is others k owner own shared s task rest e

  abbrev pub it : CalledAs p w store pending activation at.code (call_view function) others k owner own shared s task rest (r p w store pending activation function others k owner own shared s task rest at) (effect_of (sight_of shared s) task)
  it = called p w store pending activation function others k owner own shared s task rest at

  -- there is one call
  same_call : Calls it.line it.target it.f it.args ≡ Calls c.line c.target c.f c.args
  same_call = sym it.is ∙ c.is

  same_function : it.f ≡ c.f
  same_function = let both = same_call in cc

  same_target : it.target ≡ c.target
  same_target = let both = same_call in cc

  same_args : it.args ≡ c.args
  same_args = let both = same_call in cc

  abbrev pub both : TwoCalls
  both = record { p = p; w = w; sound = sound; store = store; pending = pending; activation = activation; call = call_view function; others = others; k = k; owner = owner; shared = shared; s = s; target = it.target; args = it.args }

  free : trap_of_call w.classes shared s it.target it.f it.args ≡ None
  free = (λ j. trap_of_call w.classes shared s (same_target j) (same_function j) (same_args j)) ∙ c.free

  calls : calls_method it.f ≡ true
  calls = ap calls_method same_function ∙ c.method

  pub the_method : CalledMethod both it.f
  the_method = called_method both it.f calls it.asked (free_seen p w store pending activation (call_view function) others k owner shared s it.target it.f it.args it.asked free)

  safe : (length it.args ≤ 18) × ((m : MethodId) → method_given it.args 1 ≡ Some m → IsCallable (unit_tree p.unit) w.classes m)
  safe = e.steady.calls it.line it.target it.f it.args (ap (next_effect shared s) e.tasks ∙ it.is) calls

  pub callable : IsCallable (unit_tree p.unit) w.classes the_method.method
  callable = safe.1 the_method.method the_method.given

  -- what is to be entered stands for it
  pub method_agrees : (x : Entering) → x.function ≡ the_method.handle.function → class_of_function w.classes the_method.method.function ≡ Some x.class.number → x.arguments.items ≡ passed_in (references_of store activation) (drop 2 function.operands.items) (reverse activation.stack) → (m : MethodId) → method_given c.args 1 ≡ Some m
      → EnteringAgrees p w.classes store.heap (length (loaded_objects w)) x (record { line = c.line; function = m.function.name; arguments = map passed_value (drop 2 c.args) })
  method_agrees x of_function of_class of_arguments m given =
      let same : the_method.method ≡ m = let both : Some the_method.method ≡ Some m = sym the_method.given ∙ ap (λ (l : List Actual). method_given l 1) same_args ∙ given in cc in
      let values = values_passed both it.f calls it.asked in
      let count : length it.args ≤ 18 = safe.0 in
      subst (λ (n : MethodId). EnteringAgrees p w.classes store.heap (length (loaded_objects w)) x (record { line = c.line; function = n.function.name; arguments = map passed_value (drop 2 c.args) })) same
      (subst (λ (l : List Actual). EnteringAgrees p w.classes store.heap (length (loaded_objects w)) x (record { line = c.line; function = the_method.method.function.name; arguments = map passed_value (drop 2 l) })) same_args
      (record {
        function = the_method.method.function;
        named = callable.named;
        numbered = ap (slice_get (functions_of (unit_tree p.unit))) of_function ∙ the_method.is.function;
        of_class = of_class;
        class_made = class_made w (native_class the_method.method.function.name) x.class.number of_class;
        arguments = subst (λ (l : List Value). ValuesAgree store.heap l (map passed_value (drop 2 it.args))) (sym of_arguments) values;
        fit = all_fit shared.heap store.heap the_method.method.function.parameters (drop 2 it.args) _ the_method.passes values;
        few = few_given it.args count;
      }))
    where
      few_given : (args : List Actual) → length args ≤ 18 → length (map passed_value (drop 2 args)) ≤ 256
      few_given [] few = omega arith
      few_given (a ∷ []) few = omega arith
      few_given (a ∷ b ∷ args) few = omega (arith, length-map args passed_value, few)

-- what is to be entered of this method, with what the call's operands give, stands for whatever method any such call of the source calls
pub is_called : (p : Lowered) (w : World) (store : Store) (activation : Activation) (function : InMemory) (i : Instr) (f : Fetched p store activation i) → i ≡ instr.Call (call_view function) → IsSound w → (method : MethodHandle) → method_at activation.slots.fields.items (operand_of function.operands.items 1) ≡ Some method
    → (x : Entering) → x.function ≡ method.function → x.class ≡ method.declarer → x.arguments.items ≡ passed_in (references_of store activation) (drop 2 function.operands.items) (reverse activation.stack) → IsCalled p w store activation x
is_called p w store activation function i f is sound method found x of_function of_class of_arguments pending others k owner own shared s task rest e calling m given =
    let it = the_method p w store activation function i f is sound pending others k owner own shared s task rest e calling in
    let same : it.handle ≡ method = let both : Some it.handle ≡ Some method = sym it.at ∙ found in cc in
    let class = it.is.declarer ∙ ap (λ (h : MethodHandle). Some h.declarer.number) same ∙ (λ j. Some (sym of_class j).number) in
    method_agrees p w store activation function i f is sound pending others k owner own shared s task rest e calling x (of_function ∙ ap (λ (h : MethodHandle). h.function) (sym same)) class of_arguments m given
