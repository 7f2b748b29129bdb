-- A call of a method: a trap stops it, or the thread waits in it for the method's own call, which loads.
use Rattle.std.proofs.Common.{◌≡◌, ℕ, ◌+◌, ◌≤◌, arith, Bool, true, false, ◌&&◌, List, [], ◌∷◌, length, map, drop, zip, slice_get, is_some, Option, Some, None, refl, sym, ap, ◌∙◌, subst}
use Rattle.std.specs.Prelude.{◌==◌}
use Rattle.std.proofs.lemmas.List.{drop-map, length-map}
use Rattle.base.specs.Bytes.{Identifier, lookup}
use Rattle.base.specs.declared.element.ElementType.{ElementType}
use Rattle.base.specs.Limits.{most_further}
use Rattle.base.specs.Options.{some_passes}
use Rattle.class_rules.specs.Class.{Classes}
use Rattle.syntax.specs.Tree as tree
use Rattle.syntax.specs.declared.declared_type.ParameterType.{ParameterType}
use Rattle.syntax.specs.declared.declared_type.ParameterType.TheVariants.{Jint as IntParameter, Reference as ReferenceParameter}
use Rattle.syntax.specs.declared.unit.ResultType.{ResultType}
use Rattle.syntax.specs.Tree.{Block, Expr, Function, Parameter, SourceUnit}
use Rattle.jni.specs.declared.function.JniFunction.{JniFunction}
use Rattle.jni.specs.declared.function.JniFunction.TheVariants.{PushLocalFrame}
use Rattle.jni.specs.JniFunction.{calls_method, parameters_for, prototype}
use Rattle.jni.specs.declared.kinds.ParameterKind.{ParameterKind}
use Rattle.jni.specs.declared.kinds.ParameterKind.TheVariants.{ClassObject, MethodID}
use Rattle.jni.specs.declared.kinds.ResultKind.{ResultKind}
use Rattle.jni.specs.declared.kinds.ResultKind.TheVariants.{NewLocal, GivesInt, GivesNothing}
use Rattle.jni.specs.declared.access.Access.{Access}
use Rattle.region_rules.specs.RegionRules.{is_critical_call}
use Rattle.jni.proofs.MethodCalls.{own_are_two}
use Rattle.region_rules.specs.RegionStates as states
use Rattle.region_rules.specs.RegionStates.{RegionState, get_of}
use Rattle.semantics.specs.Activation.{class_of_function}
use Rattle.semantics.specs.Answer.{Answer, effect_of}
use Rattle.semantics.specs.Arguments.{Actual, ReferenceActual, NumberActual, actuals, look_up, method_argument, method_given, method_in_actual, object_given, passed_value}
use Rattle.semantics.specs.AnswerTable.{call_effect}
use Rattle.semantics.specs.CallSight.{ArgumentSight, argument_seen, is_full, sight_of_call}
use Rattle.semantics.specs.Checks.{all_pass, calls_well, frames_after, go_together, passes}
use Rattle.semantics.specs.CallStep.{after_call, after_refusal, call_step, calling, checked, target_element, trap_of_call}
use Rattle.semantics.specs.Load.{call_loads, fit_parameters, fits_parameter, is_callable}
use Rattle.semantics.specs.Method.{MethodId}
use Rattle.semantics.specs.Object.{ObjectValue}
use Rattle.semantics.specs.Sight.{Sight, held_method}
use Rattle.semantics.specs.Task.{Task, Target, Declared, Assigned, Tested, Dropped, Operand, NumberOperand, PassedName, Given, Invoke}
use Rattle.semantics.specs.Term.{Term, Done}
use Rattle.semantics.specs.declared.event.Event.TheVariants.{Quiet, Trapped}
use Rattle.semantics.specs.Thread.{Thread, Caller, Shared, BuffersInUse, Frame, Advance, Advances, NoAdvance}
use Rattle.semantics.specs.declared.trap.Trap.{Trap}
use Rattle.semantics.specs.declared.value.Value.TheVariants.{Int}
use Rattle.semantics.specs.Variable.{Variable, MethodHandle, Variables}
use Rattle.semantics.specs.World.{Invocation}
use Rattle.semantics.proofs.CheckLaws.{passed as checks_passed}
use Rattle.semantics.proofs.AnswerKinds.{AnswersAs, Calling, CallsMethod, Halting, calls_as}
use Rattle.semantics_safety.specs.Owners.{Owners}
use Rattle.semantics_safety.specs.Points.{Point}
use Rattle.semantics_safety.specs.Stands.{AreCallable, CallerStands, Stands}
use Rattle.semantics_safety.specs.StepSafe.{IsCallable, IsMethodResult}
use Rattle.semantics_safety.specs.Wanted.{CallFits, GoesOn, HasNoView, MeetsViews, ResultGoes, Runs, at, call_seen}
use Rattle.semantics_safety.specs.WeakNames.{WeakNames}
use Rattle.semantics_safety.proofs.KeptMethods.{held_callable}
use Rattle.semantics_safety.proofs.QuietSteps.{has_room}
use Rattle.semantics_safety.proofs.RefusedLaws.{checked_none, method_made}
use Rattle.type_rules.proofs.CallParameters.{count_is_few}

-- ---- the arguments

method_parameters : (f : JniFunction) (count : ℕ) → calls_method f ≡ true → parameters_for f count ≡ ClassObject ∷ MethodID ∷ drop 2 (parameters_for f count)
method_parameters f count is = grind (arith, is)

-- a method ID among them was in a variable
module _ (unit : SourceUnit) (classes : Classes) (sight : Sight) (vs : Variables) (seen : (x : Identifier) → sight.method x ≡ held_method (lookup x vs)) (known : AreCallable unit classes vs) where
  in_variable : (x : Identifier) (m : MethodId) (o : Option Variable) → lookup x vs ≡ o → held_method o ≡ Some m → IsCallable unit classes m
  in_variable x m (Some (MethodHandle (Some n))) there e =
      let same : n ≡ m = cc in
      subst (IsCallable unit classes) same (held_callable unit classes x (MethodHandle (Some n)) vs known there)
  in_variable x m o there e = absurd (cc)

  expression_callable : (e : Expr) (m : MethodId) → method_in_actual (Some (method_argument sight e)) ≡ Some m → IsCallable unit classes m
  expression_callable (tree.Variable x) m h = in_variable x m (lookup x vs) refl (sym (seen x) ∙ h)
  expression_callable e m h = absurd (cc)

  operand_callable : (o : Operand) (m : MethodId) → method_in_actual (Some (look_up sight (MethodID, o))) ≡ Some m → IsCallable unit classes m
  operand_callable (Given (tree.Value e)) m h = expression_callable e m h
  operand_callable (Given (tree.Text bytes)) m h = absurd (cc)
  operand_callable (Given (tree.AddressOf x)) m h = absurd (cc)
  operand_callable (PassedName x) m h = absurd (cc)
  operand_callable (NumberOperand t) m h = absurd (number t h)
    where
      number : (t : Term) → method_in_actual (Some (look_up sight (MethodID, NumberOperand t))) ≡ Some m → ⊥
      number (Done (Int z)) e = cc
      number (Done v) e = cc
      number t e = cc

  given_callable : (operands : List Operand) (more : List ParameterKind) (m : MethodId) → method_given (map (look_up sight) (zip (ClassObject ∷ MethodID ∷ more) operands)) 1 ≡ Some m → IsCallable unit classes m
  given_callable [] more m h = absurd (cc)
  given_callable (o ∷ []) more m h = absurd (cc)
  given_callable (o ∷ q ∷ operands) more m h = operand_callable q m h

  pub method_callable : (f : JniFunction) → calls_method f ≡ true → (operands : List Operand) (m : MethodId) → method_given (actuals sight f operands) 1 ≡ Some m → IsCallable unit classes m
  method_callable f is operands m h =
      given_callable operands (drop 2 (parameters_for f (length operands))) m
      (subst (λ (l : List ParameterKind). method_given (map (look_up sight) (zip l operands)) 1 ≡ Some m) (method_parameters f (length operands) is) h)

zip_is_shorter : (parameters : List ParameterKind) (operands : List Operand) → length (zip parameters operands) ≤ length operands
zip_is_shorter [] operands = omega arith
zip_is_shorter (parameter ∷ parameters) [] = omega arith
zip_is_shorter (parameter ∷ parameters) (o ∷ operands) = let further = zip_is_shorter parameters operands in omega (arith, further)

-- they are few
pub arguments_are_few : (p : Point) (sight : Sight) (f : JniFunction) → calls_method f ≡ true → (operands : List Operand) → CallFits p f operands → length (actuals sight f operands) ≤ 2 + most_further
arguments_are_few p sight f is operands fits =
    let taken = count_is_few f (length operands) fits.count in
    let two = own_are_two f is in
    let shorter = zip_is_shorter (parameters_for f (length operands)) operands in
    let same = length-map (zip (parameters_for f (length operands)) operands) (look_up sight) in
    let most : length operands ≤ 2 + most_further = subst (λ (n : ℕ). length operands ≤ n + most_further) two taken in
    subst (λ (n : ℕ). n ≤ 2 + most_further) (sym same) (omega (arith, shorter, most))

-- ---- the step

module _ (unit : SourceUnit) (classes : Classes) (in_use : BuffersInUse) (k : ℕ) (s : Shared) (t : Thread) (line : ℕ) (target : Target) (f : JniFunction) (args : List Actual) (rest : List Task) (is : calls_method f ≡ true) where
  -- what is passed to the method
  abbrev pub passed : List ObjectValue
  passed = map passed_value (drop 2 args)

  -- the call that the method begins with
  abbrev pub call_to : MethodId → Invocation
  call_to m = record { line = line; function = m.function.name; arguments = passed }

  -- what is answered stops the run, or pushes a caller
  answered : {kind : ResultKind} {a : Answer} (Q : Advance → Type 0) → ((trap : Trap) → Q (Advances s t (Trapped trap line)))
      → ((m : MethodId) → method_given args 1 ≡ Some m → Q (Advances s (calling unit classes in_use k s t line target f args rest (call_to m)) Quiet))
      → AnswersAs unit classes (sight_of_call s t f args) f CallsMethod kind a → Q (after_call unit classes in_use k s t line target f args rest (effect_of classes in_use k s t args a))
  unfolding effect_of
  answered Q trapped pushed (Calling m found) = pushed m found
  answered Q trapped pushed (Halting trap) = trapped trap

  -- a trap, or the push of a caller
  pub each_call : (Q : Advance → Type 0) → ((trap : Trap) → Q (Advances s t (Trapped trap line)))
      → ((m : MethodId) → trap_of_call classes s t target f args ≡ None → method_given args 1 ≡ Some m → Q (Advances s (calling unit classes in_use k s t line target f args rest (call_to m)) Quiet))
      → Q (call_step unit classes in_use k s t line target f args rest false)
  each_call Q trapped pushed = by_trap (trap_of_call classes s t target f args) refl
    where
      by_trap : (o : Option Trap) → trap_of_call classes s t target f args ≡ o → Q (after_call unit classes in_use k s t line target f args rest (checked o (call_effect unit classes in_use k s t args f)))
      by_trap (Some trap) e = trapped trap
      by_trap None e =
          (answered Q trapped (λ m found. pushed m e found) (calls_as unit classes k (sight_of_call s t f args) f is))

  -- there is no allocation to refuse
  none_refused : (Q : Advance → Type 0) (b : Bool) → b ≡ false → Q NoAdvance → Q (after_refusal unit classes in_use k s t line target f args rest b)
  none_refused Q false e h = h
  none_refused Q true e h = absurd (cc)

  pub unrefused : (Q : Advance → Type 0) → Q NoAdvance → Q (call_step unit classes in_use k s t line target f args rest true)
  unrefused Q h =
      none_refused Q _
      (checked_none (trap_of_call classes s t target f args) (call_effect unit classes in_use k s t args f) (method_made unit classes in_use k s t f is args)) h

-- ---- the call that is made loads

last_holds : (a b c : Bool) → (a && b && c) ≡ true → c ≡ true
last_holds true true c h = h
last_holds true false c h = absurd (cc)
last_holds false b c h = absurd (cc)

module _ (classes : Classes) (s : Shared) (t : Thread) (args : List Actual) where
  -- what is seen of an argument
  abbrev of : Actual → ArgumentSight
  of a = argument_seen s.heap (Some a)

  well_passed : (f : JniFunction) (returns : ResultType → Bool) (m : MethodId) → calls_well classes (sight_of_call s t f args) returns (Some m) ≡ true → all_pass m.function.parameters (map of (drop 2 args)) ≡ true
  well_passed f returns m h =
      subst (λ (l : List ArgumentSight). all_pass m.function.parameters l ≡ true) (drop-map of 2 args)
      (last_holds (m.class == object_given args 0) (returns m.function.result) (all_pass m.function.parameters (drop 2 (map of args))) h)

  together_passed : (element : ElementType) (f : JniFunction) → calls_method f ≡ true → (m : MethodId) → method_given args 1 ≡ Some m → go_together classes (sight_of_call s t f args) element f ≡ true → all_pass m.function.parameters (map of (drop 2 args)) ≡ true
  unfolding go_together
  together_passed element f is m e h =
      let passed : all_pass m.function.parameters (drop 2 (map of args)) ≡ true = grind (arith, is, e, h) in
      subst (λ (l : List ArgumentSight). all_pass m.function.parameters l ≡ true) (drop-map of 2 args) passed

  both_hold : (a b : Bool) → (a && b) ≡ true → (a ≡ true) × (b ≡ true)
  both_hold true b h = (refl, h)
  both_hold false b h = absurd (cc)

  both_so : (a b : Bool) → a ≡ true → b ≡ true → (a && b) ≡ true
  both_so true b e h = h
  both_so false b e h = absurd (cc)

  one_fits : (type : ParameterType) (a : Actual) → passes type (of a) ≡ true → fits_parameter type (passed_value a) ≡ true
  one_fits IntParameter (NumberActual z) h = refl
  one_fits (ReferenceParameter r) (ReferenceActual x g) h = refl
  one_fits type a h = absurd (cc)

  passed_fit : (ps : List Parameter) (given : List Actual) → all_pass ps (map of given) ≡ true → fit_parameters ps (map passed_value given) ≡ true
  passed_fit [] [] h = refl
  passed_fit [] (a ∷ given) h = absurd (cc)
  passed_fit (p ∷ ps) [] h = absurd (cc)
  passed_fit (p ∷ ps) (a ∷ given) h =
      let both = both_hold (passes p.type (of a)) (all_pass ps (map of given)) h in
      both_so (fits_parameter p.type (passed_value a)) (fit_parameters ps (map passed_value given)) (one_fits p.type a both.0) (passed_fit ps given both.1)

  pub made_loads : (unit : SourceUnit) (m : MethodId) → IsCallable unit classes m → (line : ℕ) → all_pass m.function.parameters (map of (drop 2 args)) ≡ true
      → call_loads unit classes (record { line = line; function = m.function.name; arguments = map passed_value (drop 2 args) }) ≡ true
  made_loads unit m callable line pass =
      let fits = passed_fit m.function.parameters (drop 2 args) pass in
      subst (λ (o : Option Function). some_passes (is_callable classes (map passed_value (drop 2 args))) o ≡ true) (sym callable.named)
      (both_so (is_some (class_of_function classes m.function)) (fit_parameters m.function.parameters (map passed_value (drop 2 args))) (ap (λ (o : Option ℕ). is_some o) callable.of_class) fits)

-- where no trap stopped the call of a method, its own call loads
pub call_made_loads : (unit : SourceUnit) (classes : Classes) (s : Shared) (t : Thread) (target : Target) (line : ℕ) (f : JniFunction) (args : List Actual) (m : MethodId) → calls_method f ≡ true → IsCallable unit classes m
    → trap_of_call classes s t target f args ≡ None → method_given args 1 ≡ Some m → call_loads unit classes (record { line = line; function = m.function.name; arguments = map passed_value (drop 2 args) }) ≡ true
call_made_loads unit classes s t target line f args m is callable none given =
    let element = target_element t.variables target in
    made_loads classes s t args unit m callable line
    (together_passed classes s t args element f is m given (checks_passed classes (sight_of_call s t f args) element f none).together)

-- ---- the caller

no_push : (f : JniFunction) → calls_method f ≡ true → f ≡ PushLocalFrame → ⊥
no_push f is e = let no : calls_method PushLocalFrame ≡ true = subst (λ (g : JniFunction). calls_method g ≡ true) e is in cc

method_result : (f : JniFunction) → calls_method f ≡ true → IsMethodResult (prototype f).result
method_result f is = by_kind (prototype f).result refl
  where
    by_kind : (kind : ResultKind) → (prototype f).result ≡ kind → IsMethodResult kind
    by_kind NewLocal e = tt
    by_kind GivesInt e = tt
    by_kind GivesNothing e = tt
    by_kind kind e = absurd (grind (arith, is, e))

method_frames : (f : JniFunction) (frames : List Frame) → calls_method f ≡ true → frames_after f frames ≡ frames
method_frames f frames is = grind (arith, is)

not_critical : (p : Point) (f : JniFunction) → calls_method f ≡ true → MeetsViews p f → HasNoView p
not_critical p f is meets x a access held critical =
    absurd (let never : is_critical_call f ≡ false = grind (arith, is) in let no : false ≡ true = sym never ∙ meets x a access held critical in cc)

result_here : (p : Point) (f : JniFunction) (target : Target) (operands : List Operand) (k : Point → Type 0) → calls_method f ≡ true
    → ResultGoes target (prototype f).result (get_of (call_seen f operands)) k (at p (states.after_call p.regions (call_seen f operands))) → ResultGoes target (prototype f).result None k p
result_here p f target operands k is h =
    let none : get_of (call_seen f operands) ≡ None = grind (arith, is) in
    let same : states.after_call p.regions (call_seen f operands) ≡ p.regions = grind (arith, is) in
    subst (λ (o : Option (Access × Option Identifier)). ResultGoes target (prototype f).result o k p) none
    (subst (λ (regions : RegionState). ResultGoes target (prototype f).result (get_of (call_seen f operands)) k (at p regions)) same h)

module _ (classes : Classes) (s : Shared) (t : Thread) (line : ℕ) (f : JniFunction) (args : List Actual) (rest : List Task) (p : Point) {weak : WeakNames} {own : Owners} (stands : Stands weak own s.statics t.variables t.frames p) (is : calls_method f ≡ true) where
  abbrev waiting : Target → Caller
  waiting target = record { target = target; result = (prototype f).result; tasks = rest; variables = t.variables; frames = t.frames }

  caller_at : (target : Target) (operands : List Operand) → trap_of_call classes s t target f args ≡ None → CallFits p f operands
      → ResultGoes target (prototype f).result (get_of (call_seen f operands)) (GoesOn rest) (at p (states.after_call p.regions (call_seen f operands))) → CallerStands weak s.statics own (waiting target)
  caller_at target operands none fits goes = record {
    point = p;
    stands = stands;
    method = method_result f is;
    goes = result_here p f target operands (GoesOn rest) is goes;
    room = λ e. subst (λ (frames : List Frame). is_full (slice_get frames 0) ≡ false) (method_frames f t.frames is) (has_room classes s t (target_element t.variables target) f args none e);
    viewless = not_critical p f is fits.views;
  }

  -- it goes on from its point
  pub caller_stands : (target : Target) (operands : List Operand) → trap_of_call classes s t target f args ≡ None → Runs (Invoke line target f operands) (GoesOn rest) p → CallerStands weak s.statics own (waiting target)
  caller_stands (Tested a b) operands none r = absurd (no_push f is r.1)
  caller_stands (Declared kind x) operands none r = caller_at (Declared kind x) operands none r.0 r.2
  caller_stands (Assigned x) operands none r = caller_at (Assigned x) operands none r.0 r.2
  caller_stands Dropped operands none r = caller_at Dropped operands none r.0 r.2
