-- A step of a thread leaves typed objects and variables.
use Rattle.std.proofs.Common.{◌≡◌, ℕ, ℤ, zero, suc, pos, Bool, true, false, List, [], ◌∷◌, map, replicate, zip, Option, Some, None, refl, sym, ap, ◌∙◌, subst, if◌then◌else◌}
use Rattle.std.specs.Prelude.{slice_set, IsTrue, find}
use Rattle.std.specs.List.{AllByRecursion, list_any}
use Rattle.std.specs.Option.{option_map}
use Rattle.std.specs.Str.{bytes_eq}
use Rattle.std.proofs.lemmas.List.{length-map}
use lib.ListN.{length-set}
use Rattle.base.specs.Bytes.{Identifier, lookup}
use Rattle.base.specs.declared.element.ElementType.{ElementType}
use Rattle.base.specs.declared.element.ElementType.TheVariants.{Int as JInt}
use Rattle.syntax.specs.Parts.{functions_of}
use Rattle.syntax.specs.Tree as tree
use Rattle.syntax.specs.Tree.{Argument, Function, Parameter, SourceUnit}
use Rattle.class_rules.specs.BuiltIns.{no_such_method_error}
use Rattle.class_rules.specs.Class.{Classes}
use Rattle.class_rules.specs.Grown.{IsGrown}
use Rattle.jni.specs.declared.access.Access.{Access}
use Rattle.jni.specs.declared.access.Access.TheVariants.{ElementsCopy, ArrayView, CharsCopy, CharsView}
use Rattle.jni.specs.declared.function.JniFunction.{JniFunction}
use Rattle.jni.specs.declared.function.JniFunction.TheVariants.{GetBuffer, ReleaseBuffer, PushLocalFrame, GetStaticMethodID}
use Rattle.jni.specs.JniFunction.{parameters_for}
use Rattle.jni.specs.declared.kinds.ResultKind.{ResultKind}
use Rattle.jni.specs.declared.kinds.ResultKind.TheVariants.{NewLocal, NewGlobal, NewWeak, GivesFlag, GivesInt, GivesField, GivesMethod, GivesNothing, GivesBuffer}
use Rattle.type_rules.specs.declared.ty.ExprType.{ExprType}
use Rattle.type_rules.specs.declared.ty.ExprType.TheVariants.{Buffer}
use Rattle.type_rules.specs.ExprTypes.{is_buffer_for, type_in}
use Rattle.type_rules.specs.declared.ty.ExprType.TheVariants as types
use Rattle.semantics.specs.Activation.{function_at, class_of_function, parameter_variables, entered, entered_function, enter, entry_advance}
use Rattle.semantics.specs.Arguments.{Actual, ReferenceActual, actuals, object_given, variable_given, reference_in_actual, name_or_zero}
use Rattle.semantics.specs.CallEffects.{CallResult, NoResult, NullResult, ScalarResult, ReferenceResult, WeakResult, FieldResult, MethodResult, BufferResult}
use Rattle.semantics.specs.CallSight.{argument_seen, sight_of_call}
use Rattle.semantics.specs.CallStep.{blank, put, received, element_type, target_element, trap_of_call, checked, makes_objects, effect_of_call, call_step}
use Rattle.semantics.specs.AnswerTable.{call_effect}
use Rattle.semantics.specs.Checks.{misfits, misses}
use Rattle.semantics.specs.Effect.{Effect, Becomes, Sets, SetsNull, SetsElement, MakesArray, Prints, Calls, Returns, TrapsAt, NoEffect, effect_of}
use Rattle.semantics.specs.Heap.{Heap, with_value_at}
use Rattle.semantics.specs.Object.{ObjectValue, Number, Refers, Reference}
use Rattle.semantics.specs.Sight.{Sight, seen, held_reference}
use Rattle.semantics.specs.declared.variable_kind.VariableKind.{VariableKind}
use Rattle.semantics.specs.declared.variable_kind.VariableKind.TheVariants as kinds
use Rattle.semantics.specs.Task.{Task, Invoke, Target, Declared, Assigned, Tested, Dropped, Operand, Given}
use Rattle.semantics.specs.Return.{fitted, given_back, nothing_of, resumed_in, return_by}
use Rattle.semantics.specs.Thread.{Thread, Caller, Shared, BuffersInUse, Frame, Advance, sight_of}
use Rattle.semantics.specs.ThreadStep.{set_element, with_tasks, after_effect, after_refused_effect, step_within, thread_step}
use Rattle.semantics.specs.declared.value.Value.TheVariants as value
use Rattle.semantics.specs.declared.trap.Trap.{Trap}
use Rattle.semantics.specs.Value.{convert}
use Rattle.semantics.specs.Variable.{Variable, Scalar, LocalRef, FieldHandle, MethodHandle, Elements, LocalArray, NoBuffer, Copy, View, Variables, Statics}
use Rattle.semantics.specs.World.{Invocation}
use Rattle.world_values.specs.WorldRules.{is_in_range}
use Rattle.semantics_safety.specs.Follows.{Follows}
use Rattle.semantics_safety.specs.Owners.{Owners}
use Rattle.semantics_safety.specs.Points.{Point}
use Rattle.semantics_safety.specs.Stands.{Stands, Goes}
use Rattle.semantics_safety.specs.WeakNames.{WeakNames}
use Rattle.semantics_safety.specs.Wanted.{CallFits, CallKeeps, DeclaresResult, AssignsResult, Runs, GoesOn, operand_argument}
use Rattle.semantics_safety.proofs.EffectLaws.{effect_follows, call_fits}
use Rattle.semantics_typing.specs.Objects.{PlaceFits, type_at, AreTypedObjects, AreInRange, HasNumbers, IsTypedVariable, AreTypedVariables}
use Rattle.world_values.specs.DeclaredFields.{DeclaresWell}
use Rattle.semantics_typing.proofs.Arguments.{AreKnownAs, HasActualText, all_known, looked_up, variable_typed}
use Rattle.semantics.proofs.CheckLaws.{ArePassed, passed}
use Rattle.semantics_typing.proofs.Calls.{EffectFits, IsReady, ResultFits, effect_fits}
use Rattle.semantics_typing.proofs.Heaps.{Keeps, keeps_same, variables_later}
use Rattle.semantics_typing.proofs.Lists.{all_append, all_set}
use Rattle.semantics_typing.proofs.Ranges.{convert_in_range, zero_in_range}
use Rattle.semantics_typing.proofs.Results.{AdvanceFits, ElementFits, TargetFits, assign_typed, put_fits, after_fits, refusal_fits}
use Rattle.semantics_typing.proofs.TableKinds.{IsMakeable}
use Rattle.semantics_typing.proofs.TaskTexts.{MayCall, BlockFits, UnitFits, TaskHasTexts, TargetHasTexts, HaveTexts, TasksHaveTexts, EffectHasTexts, effect_texts, block_texts}
use Rattle.semantics_typing.proofs.Writes.{keeps_place}

-- ---- what is known of calls that get and release buffers

-- there is the class of the exception that GetStaticMethodID throws
abbrev CanThrow : Classes → JniFunction → Type 0
CanThrow classes GetStaticMethodID = IsMakeable classes no_such_method_error
CanThrow classes f = Unit {0}

module _ (heap : Heap) (ss : Statics) (vs : Variables) (frames : List Frame) (p : Point) {weak : WeakNames} {own : Owners} (stands : Stands weak own ss vs frames p) (k : Point → Type 0) where
  abbrev sight : Sight
  sight = seen vs ss heap

  -- a buffer is got into a variable of its type
  got_declared : (kind : VariableKind) (q : Point) (x : Identifier) (access : Access) (get : _) → DeclaresResult q kind x (GivesBuffer access) get k → (writable : Bool) × (is_buffer_for access (Some (Buffer (target_element vs (Declared kind x)) writable)) ≡ true)
  got_declared (kinds.Buffer t) q x access get h = (h.1.0, h.1.1)
  got_declared kinds.Number q x access get h = absurd h
  got_declared kinds.Reference q x access get h = absurd h
  got_declared kinds.Field q x access get h = absurd h
  got_declared kinds.Method q x access get h = absurd h

  got_assigned : (o : Option ExprType) (q : Point) (x : Identifier) (access : Access) (get : _) → type_in p.names x ≡ o → AssignsResult q o x (GivesBuffer access) get k → (writable : Bool) × (is_buffer_for access (Some (Buffer (element_type (lookup x vs)) writable)) ≡ true)
  got_assigned (Some (types.Buffer t w)) q x access get e h =
      let there = stands.types x (types.Buffer t w) e in
      (w, ap (λ (o : Option Variable). is_buffer_for access (Some (Buffer (element_type o) w))) there.1 ∙ h.1)
  got_assigned o q x access get e h = absurd h

  no_push : (access : Access) → GetBuffer access ≡ PushLocalFrame → ⊥
  no_push access e = cc

  got : (line : ℕ) (target : Target) (access : Access) (operands : List Operand) → Runs (Invoke line target (GetBuffer access) operands) k p → (writable : Bool) × (is_buffer_for access (Some (Buffer (target_element vs target) writable)) ≡ true)
  got line (Declared kind x) access operands r = got_declared kind _ x access _ r.2
  got line (Assigned x) access operands r = got_assigned (type_in p.names x) _ x access _ refl r.2
  got line (Tested a b) access operands r = absurd (no_push access r.1)
  got line Dropped access operands r = absurd r.2.0

  -- a copy is released with the object that it is of
  released : (e : ElementType) (operands : List Operand) → CallKeeps p (ReleaseBuffer (ElementsCopy e)) (map operand_argument operands)
      → (kind : ElementType) × (zs : List ℤ) × (lookup (variable_given (actuals sight (ReleaseBuffer (ElementsCopy e)) operands) 1) vs ≡ Some (Elements kind (Copy (object_given (actuals sight (ReleaseBuffer (ElementsCopy e)) operands) 0) zs)))
  released e (Given (tree.Value (tree.Variable a)) ∷ Given (tree.Value (tree.Variable x)) ∷ modes) (known, commits) =
      let shown = stands.shows x _ known in
      let lends = shown.3 in
      let copy = lends.3 in
      let there : name_or_zero (reference_in_actual (Some (ReferenceActual a (sight.reference a)))) ≡ lends.0 =
      ap (λ (o : Option Variable). name_or_zero (reference_in_actual (Some (ReferenceActual a (held_reference o (lookup a ss)))))) lends.2 in
      (shown.0, copy.0, shown.2 ∙ ap (λ (b : _). Some (Elements shown.0 b)) copy.1 ∙ ap (λ (n : ℕ). Some (Elements shown.0 (Copy n copy.0))) (sym there))
  released e operands h = absurd h

  ready : (classes : Classes) (line : ℕ) (target : Target) (f : JniFunction) (operands : List Operand) → CanThrow classes f → Runs (Invoke line target f operands) k p → CallFits p f operands → IsReady classes (target_element vs target) vs f (actuals sight f operands)
  ready classes line target (GetBuffer access) operands can r fits = got line target access operands r
  ready classes line target (ReleaseBuffer (ElementsCopy e)) operands can r fits = released e operands fits.rules
  ready classes line target (ReleaseBuffer ArrayView) operands can r fits = tt
  ready classes line target (ReleaseBuffer CharsCopy) operands can r fits = tt
  ready classes line target (ReleaseBuffer CharsView) operands can r fits = tt
  ready classes line target GetStaticMethodID operands can r fits = can
  ready classes line target f operands can r fits = tt

-- a caller's variables are typed, and the texts of what it has still to do are of bytes
abbrev pub CallerFits : (methods : Bool) → Classes → Heap → Caller → Type 0
CallerFits methods classes heap c = AreTypedVariables classes heap c.variables × HaveTexts methods c.tasks

-- a result that is neither field nor buffer
abbrev IsPlainResult : CallResult → Type 0
IsPlainResult (FieldResult f) = ⊥
IsPlainResult (BufferResult b) = ⊥
IsPlainResult given = Unit {0}

-- what goes back to a caller is one
nothing_plain : (kind : ResultKind) → IsPlainResult (nothing_of kind)
nothing_plain NewLocal = tt
nothing_plain NewGlobal = tt
nothing_plain NewWeak = tt
nothing_plain GivesFlag = tt
nothing_plain GivesInt = tt
nothing_plain GivesField = tt
nothing_plain GivesMethod = tt
nothing_plain GivesNothing = tt
nothing_plain (GivesBuffer access) = tt

fitted_plain : (kind : ResultKind) (given : CallResult) → IsPlainResult (fitted kind given)
fitted_plain NewLocal (ReferenceResult r) = tt
fitted_plain NewLocal NoResult = tt
fitted_plain NewLocal NullResult = tt
fitted_plain NewLocal (ScalarResult v) = tt
fitted_plain NewLocal (WeakResult r) = tt
fitted_plain NewLocal (FieldResult f) = tt
fitted_plain NewLocal (MethodResult f) = tt
fitted_plain NewLocal (BufferResult b) = tt
fitted_plain GivesInt (ScalarResult (value.Int z)) = tt
fitted_plain GivesInt (ScalarResult (value.Word n)) = tt
fitted_plain GivesInt (ScalarResult (value.Flag b)) = tt
fitted_plain GivesInt (ScalarResult (value.Truth b)) = tt
fitted_plain GivesInt NoResult = tt
fitted_plain GivesInt NullResult = tt
fitted_plain GivesInt (ReferenceResult r) = tt
fitted_plain GivesInt (WeakResult r) = tt
fitted_plain GivesInt (FieldResult f) = tt
fitted_plain GivesInt (MethodResult f) = tt
fitted_plain GivesInt (BufferResult b) = tt
fitted_plain NewGlobal given = tt
fitted_plain NewWeak given = tt
fitted_plain GivesFlag given = tt
fitted_plain GivesField given = tt
fitted_plain GivesMethod given = tt
fitted_plain GivesNothing given = tt
fitted_plain (GivesBuffer access) given = tt

back_plain : (pending : Reference) (kind : ResultKind) (given : CallResult) → IsPlainResult (given_back pending kind given)
back_plain None kind given = fitted_plain kind given
back_plain (Some n) kind given = nothing_plain kind

plain_fits : (classes : Classes) (heap : Heap) (before vs : Variables) (given : CallResult) → IsPlainResult given → ResultFits classes JInt before heap vs given
plain_fits classes heap before vs NoResult h = tt
plain_fits classes heap before vs NullResult h = tt
plain_fits classes heap before vs (ScalarResult v) h = tt
plain_fits classes heap before vs (ReferenceResult r) h = tt
plain_fits classes heap before vs (WeakResult r) h = tt
plain_fits classes heap before vs (FieldResult f) h = absurd h
plain_fits classes heap before vs (MethodResult m) h = tt
plain_fits classes heap before vs (BufferResult b) h = absurd h

plain_element : (v : Variable) (given : CallResult) → IsPlainResult given → ElementFits JInt v given
plain_element v NoResult h = tt
plain_element v NullResult h = tt
plain_element v (ScalarResult w) h = tt
plain_element v (ReferenceResult r) h = tt
plain_element v (WeakResult r) h = tt
plain_element v (FieldResult f) h = absurd h
plain_element v (MethodResult m) h = tt
plain_element v (BufferResult b) h = absurd h

plain_target : (target : Target) (vs : Variables) (given : CallResult) → IsPlainResult given → TargetFits JInt target vs given
plain_target (Declared kind x) vs given h = λ n. plain_element (blank kind n) given h
plain_target (Assigned x) vs given h = λ v e. plain_element v given h
plain_target (Tested a b) vs given h = tt
plain_target Dropped vs given h = tt

-- a local reference more changes no variable and no task
received_variables : (kind : ResultKind) (given : CallResult) (u : Thread) → ((received kind given u).variables ≡ u.variables) × ((received kind given u).tasks ≡ u.tasks)
received_variables NewLocal (ReferenceResult None) u = (refl, refl)
received_variables NewLocal (ReferenceResult (Some n)) u = (refl, refl)
received_variables NewLocal NoResult u = (refl, refl)
received_variables NewLocal NullResult u = (refl, refl)
received_variables NewLocal (ScalarResult v) u = (refl, refl)
received_variables NewLocal (WeakResult r) u = (refl, refl)
received_variables NewLocal (FieldResult f) u = (refl, refl)
received_variables NewLocal (MethodResult f) u = (refl, refl)
received_variables NewLocal (BufferResult b) u = (refl, refl)
received_variables kind given u = (refl, refl)

module _ (methods : Bool) (unit : SourceUnit) (classes : Classes) (well : DeclaresWell classes) (g : IsGrown classes) (error : methods ≡ true → IsMakeable classes no_such_method_error) (in_use : BuffersInUse) (k : ℕ) (s : Shared) (t : Thread) (typed : AreTypedObjects classes s.heap) (vars : AreTypedVariables classes s.heap t.variables) (own_texts : TasksHaveTexts methods t.tasks) (below : AllByRecursion (CallerFits methods classes s.heap) t.callers) where
  abbrev Fits : Advance → Type 0
  Fits e = AdvanceFits methods classes s.heap e

  abbrev same : Keeps classes s.heap s.heap
  same = keeps_same classes s.heap typed

  module _ (rest : List Task) (texts : HaveTexts methods rest) where
    -- ---- calls

    call_checked : (line : ℕ) (target : Target) (f : JniFunction) (args : List Actual) (o : Option Trap) → trap_of_call classes s t target f args ≡ o
        → (trap_of_call classes s t target f args ≡ None → EffectFits classes (target_element t.variables target) s.heap t.variables (call_effect unit classes in_use k s t args f))
        → EffectFits classes (target_element t.variables target) s.heap t.variables (checked o (call_effect unit classes in_use k s t args f))
    call_checked line target f args (Some trap) e h = tt
    call_checked line target f args None e h = h e

    can_throw : (f : JniFunction) → MayCall methods f → CanThrow classes f
    can_throw GetStaticMethodID h = error h
    can_throw f h = tt

    call_fitting : (line : ℕ) (target : Target) (f : JniFunction) (args : List Actual) → AllByRecursion HasActualText args → TargetHasTexts methods target → MayCall methods f → (p : Point) {weak : WeakNames} {own : Owners} (stands : Stands weak own s.statics t.variables t.frames p)
        → (operands : List Operand) → args ≡ actuals (sight_of s t) f operands → Runs (Invoke line target f operands) (GoesOn rest) p → Fits (call_step unit classes in_use k s t line target f args rest false)
    call_fitting line target f args arg_texts target_texts may p stands operands is runs =
        after_fits methods unit classes in_use k s t typed vars line target f args rest texts target_texts own_texts (effect_of_call unit classes in_use k s t line target f args rest)
        (call_checked line target f args (trap_of_call classes s t target f args) refl (λ none.
        let checks = passed classes (sight_of_call s t f args) (target_element t.variables target) f none in
        let fits = call_fits s.heap s.statics t.variables t.frames p stands rest line target f operands runs in
        let with_args = subst (λ (l : List Actual). AllByRecursion HasActualText l × ArePassed classes (sight_of_call s t f l) (target_element t.variables target) f) is (arg_texts, checks) in
        let looked = looked_up p (sight_of s t) fits.types in
        let many = length-map (actuals (sight_of s t) f operands) (λ (a : Actual). argument_seen s.heap (Some a)) ∙ looked in
        let asked : List Actual → ℕ → Type 0 = λ l n. (list_any misses (zip (parameters_for f n) (map (λ (a : Actual). argument_seen s.heap (Some a)) l)) ≡ false) × (list_any (misfits classes) (zip (parameters_for f n) (map (λ (a : Actual). argument_seen s.heap (Some a)) l)) ≡ false) in
        let checked = subst (asked (actuals (sight_of s t) f operands)) many (with_args.1.given, with_args.1.kinds) in
        let known = subst (λ (n : ℕ). AreKnownAs classes s.heap t.variables (parameters_for f n) (actuals (sight_of s t) f operands)) (sym looked)
        (all_known classes s.heap s.statics t.variables t.frames p stands vars fits.types with_args.0 with_args.1.present checked.0 checked.1) in
        subst (λ (l : List Actual). EffectFits classes (target_element t.variables target) s.heap t.variables (call_effect unit classes in_use k s t l f)) (sym is)
        (effect_fits unit classes well g in_use k s t typed vars (target_element t.variables target) (actuals (sight_of s t) f operands) f known with_args.1.together
        (ready s.heap s.statics t.variables t.frames p stands (GoesOn rest) classes line target f operands (can_throw f may) runs fits))))

    -- ---- an element

    element_set : (x : Identifier) (i : ℕ) (z : ℤ) (o : Option Variable) → lookup x t.variables ≡ o → Fits (set_element s (with_tasks t rest) x i z o)
    element_set x i z (Some (LocalArray e zs)) at =
        let h : AreInRange e zs = variable_typed classes s.heap x t.variables (LocalArray e zs) vars at in
        (same, assign_typed classes s.heap x (LocalArray e (slice_set zs i (convert e z))) t.variables vars (all_set (λ (y : ℤ). IsTrue (is_in_range e y)) zs i (convert e z) h (convert_in_range e z)), texts)
    element_set x i z (Some (Elements e (Copy n zs))) at =
        let h : IsTypedVariable classes s.heap (Elements e (Copy n zs)) = variable_typed classes s.heap x t.variables (Elements e (Copy n zs)) vars at in (
          same,
          assign_typed classes s.heap x (Elements e (Copy n (slice_set zs i (convert e z)))) t.variables vars
              (h.0, all_set (λ (y : ℤ). IsTrue (is_in_range e y)) zs i (convert e z) h.1 (convert_in_range e z), length-set zs i (convert e z) ∙ h.2),
          texts,
        )
    element_set x i z (Some (Elements e (View n))) at =
        let h : HasNumbers classes s.heap e n = variable_typed classes s.heap x t.variables (Elements e (View n)) vars at in
        let fits : PlaceFits classes s.heap (type_at classes n h.0.class i) (Number (convert e z)) = rw h.2 (convert_in_range e z) in
        let keeps = keeps_place classes s.heap typed n i h.0 (Number (convert e z)) h.1 fits in
        (keeps, variables_later classes s.heap (with_value_at s.heap n i (Number (convert e z))) keeps.stay t.variables vars, texts)
    element_set x i z (Some (Elements e NoBuffer)) at = tt
    element_set x i z (Some (Scalar v)) at = tt
    element_set x i z (Some (LocalRef level r)) at = tt
    element_set x i z (Some (FieldHandle f)) at = tt
    element_set x i z (Some (MethodHandle f)) at = tt
    element_set x i z None at = tt

    zeros_in_range : (e : ElementType) (n : ℕ) → AreInRange e (replicate n (pos 0))
    zeros_in_range e zero = tt
    zeros_in_range e (suc n) = (zero_in_range e, zeros_in_range e n)

    null_target : (target : Target) → Fits (put target NullResult s (with_tasks t rest))
    null_target target = put_fits methods classes JInt t.variables s.heap t.variables target NullResult s (with_tasks t rest) same vars texts tt (null_fits target)
      where
        null_fits : (target : Target) → TargetFits JInt target t.variables NullResult
        null_fits (Declared kind x) = λ n. tt
        null_fits (Assigned x) = λ v e. tt
        null_fits (Tested a b) = tt
        null_fits Dropped = tt

    -- ---- returns

    returned : (given : CallResult) (callers : List Caller) → AllByRecursion (CallerFits methods classes s.heap) callers → Fits (return_by k s t given callers)
    returned given [] h = (same, tt, tt)
    returned given (c ∷ callers) h =
        let back = given_back t.pending c.result given in
        let u = received c.result back (resumed_in t c callers) in
        let kept = received_variables c.result back (resumed_in t c callers) in
        let plain = back_plain t.pending c.result given in
        put_fits methods classes JInt u.variables s.heap u.variables c.target back s u same
        (subst (AreTypedVariables classes s.heap) (sym kept.0) (h.0).0)
        (subst (TasksHaveTexts methods) (sym kept.1) (h.0).1)
        (plain_fits classes s.heap u.variables u.variables back plain)
        (plain_target c.target u.variables back plain)

    -- ---- effects

    effect_step : (p : Point) {weak : WeakNames} {own : Owners} (stands : Stands weak own s.statics t.variables t.frames p) (e : Effect) → EffectHasTexts methods e → Follows weak own (sight_of s t) s.statics t.variables t.frames p rest e → Fits (after_effect unit classes in_use k s t rest e)
    effect_step p stands (Becomes tasks) h f = (same, vars, all_append (TaskHasTexts methods) tasks rest h texts)
    effect_step p stands (Sets x v) h f = (same, assign_typed classes s.heap x (Scalar v) t.variables vars tt, texts)
    effect_step p stands (SetsNull target) h f = null_target target
    effect_step p stands (SetsElement x i z) h f = element_set x i z (lookup x t.variables) refl
    effect_step p stands (MakesArray e x n) h f = (same, assign_typed classes s.heap x (LocalArray e (replicate n (pos 0))) t.variables vars (zeros_in_range e n), texts)
    effect_step p stands (Prints z) h f = (same, vars, texts)
    effect_step p stands (Calls line target fn args) h f = call_fitting line target fn args h.0 h.1 h.2 p stands f.0 f.1 f.3
    effect_step p stands (Returns given) h f = returned given t.callers below
    effect_step p stands (TrapsAt trap line) h f = (same, vars, own_texts)
    effect_step p stands NoEffect h f = tt

    refused_step : (e : Effect) → EffectHasTexts methods e → Fits (after_refused_effect unit classes in_use k s t rest e)
    refused_step (Calls line target fn args) h = refusal_fits methods unit classes in_use k s t typed vars line target fn args rest texts h.1 (makes_objects (effect_of_call unit classes in_use k s t line target fn args rest))
    refused_step e h = tt

  -- ---- entries

  parameters_typed : (all : List (Parameter × ObjectValue)) → AreTypedVariables classes s.heap (parameter_variables all)
  parameters_typed [] = tt
  parameters_typed ((p, Number z) ∷ all) = (tt, parameters_typed all)
  parameters_typed ((p, Refers r) ∷ all) = (tt, parameters_typed all)

  found_texts : (fs : List Function) (name : Identifier) (f : Function) → AllByRecursion (λ (f : Function). BlockFits methods f.body) fs → find (λ (g : Function). bytes_eq g.name name) fs ≡ Some f → BlockFits methods f.body
  found_texts [] name f h e = absurd (cc)
  found_texts (d ∷ fs) name f h e = by_test (bytes_eq d.name name) e (found_texts fs name f h.1)
    where
      by_test : (b : Bool) → (if b then Some d else find (λ (g : Function). bytes_eq g.name name) fs) ≡ Some f → (find (λ (g : Function). bytes_eq g.name name) fs ≡ Some f → BlockFits methods f.body) → BlockFits methods f.body
      by_test true e later = let is : d ≡ f = cc in subst (λ (x : Function). BlockFits methods x.body) is h.0
      by_test false e later = later e

  class_entry : (call : Invocation) (calls : List Invocation) (f : Function) → BlockFits methods f.body → (o : Option ℕ) → Fits (entry_advance s (option_map (λ c. entered t calls f c call.arguments) o))
  class_entry call calls f h None = tt
  class_entry call calls f h (Some c) = (same, (tt, parameters_typed (zip f.parameters call.arguments)), block_texts methods f.body h)

  function_entry : (call : Invocation) (calls : List Invocation) (o : Option Function) → ((f : Function) → o ≡ Some f → BlockFits methods f.body) → Fits (entry_advance s (entered_function classes t call calls o))
  function_entry call calls None h = tt
  function_entry call calls (Some f) h = class_entry call calls f (h f refl) (class_of_function classes f)

  entry_fits : UnitFits methods unit → (calls : List Invocation) → Fits (entry_advance s (enter unit classes t calls))
  entry_fits all [] = tt
  entry_fits all (call ∷ calls) = function_entry call calls (function_at unit call.function) (λ f e. found_texts (functions_of unit) call.function f all e)

  -- ---- a thread's step

  within_fits : UnitFits methods unit → (weak : WeakNames) (own : Owners) (refused : Bool) (o : Option (List Task)) → TasksHaveTexts methods o → Goes weak own s.statics t o → Fits (step_within unit classes in_use k s t refused o)
  within_fits all weak own true None texts goes = tt
  within_fits all weak own false None texts goes = entry_fits all t.calls
  within_fits all weak own refused (Some []) texts goes = absurd (goes.2)
  within_fits all weak own false (Some (task ∷ rest)) texts (p, stands, runs) =
      effect_step rest texts.1 p stands (effect_of (sight_of s t) task) (effect_texts methods (sight_of s t) task texts.0) (effect_follows s.heap s.statics t.variables t.frames p stands rest task runs)
  within_fits all weak own true (Some (task ∷ rest)) texts (p, stands, runs) = refused_step rest texts.1 (effect_of (sight_of s t) task) (effect_texts methods (sight_of s t) task texts.0)

  pub step_fits : UnitFits methods unit → (weak : WeakNames) (own : Owners) → Goes weak own s.statics t t.tasks → (refused : Bool) → Fits (thread_step unit classes in_use k s t refused)
  step_fits all weak own goes refused = within_fits all weak own refused t.tasks own_texts goes
