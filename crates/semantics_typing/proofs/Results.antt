-- A call's result, put where it goes, leaves typed variables.
use Rattle.std.proofs.Common.{◌≡◌, inl, inr, ℕ, ◌+◌, Bool, true, false, List, [], ◌∷◌, ◌++◌, length, Option, Some, None, refl, sym, ap, ◌∙◌, subst, if◌then◌else◌}
use Rattle.std.specs.Str.{bytes_eq}
use Rattle.std.proofs.lemmas.List.{append-nil}
use Rattle.base.specs.Bytes.{Identifier, lookup}
use Rattle.base.specs.declared.element.ElementType.{ElementType}
use Rattle.syntax.specs.Tree.{SourceUnit}
use Rattle.class_rules.specs.Class.{Classes}
use Rattle.jni.specs.declared.function.JniFunction.{JniFunction}
use Rattle.jni.specs.JniFunction.{prototype}
use Rattle.jni.specs.declared.kinds.ResultKind.{ResultKind}
use Rattle.jni.specs.declared.kinds.ResultKind.TheVariants.{NewLocal, NewGlobal, NewWeak, GivesFlag, GivesInt, GivesField, GivesMethod, GivesNothing, GivesBuffer}
use Rattle.semantics.specs.Arguments.{Actual, address_given}
use Rattle.semantics.specs.CallEffects.{CallResult, NoResult, NullResult, ScalarResult, ReferenceResult, WeakResult, FieldResult, MethodResult, BufferResult, CallEffect, Throws, Halts, Leaves, Enters, out_of_memory}
use Rattle.semantics.specs.CallStep.{blank, filled, is_zero, put, put_assigned, tell_copy, failure, element_type, target_element, resumed, completed, after_call, after_refusal}
use Rattle.semantics.specs.Effect.{tasks_after}
use Rattle.semantics.specs.Heap.{Heap, next_name}
use Rattle.semantics.specs.Object.{Object}
use Rattle.semantics.specs.declared.variable_kind.VariableKind.{VariableKind}
use Rattle.semantics.specs.declared.variable_kind.VariableKind.TheVariants as kinds
use Rattle.semantics.specs.Task.{Task, Target, Declared, Assigned, Tested, Dropped}
use Rattle.semantics.specs.Thread.{Thread, Shared, BuffersInUse, Advance, Advances, NoAdvance}
use Rattle.semantics.specs.declared.value.Value.TheVariants.{Flag}
use Rattle.semantics.specs.Variable.{Variable, Scalar, LocalRef, FieldHandle, MethodHandle, Elements, LocalArray, Buffer, NoBuffer, Copy, View, Variables, assign}
use Rattle.semantics.specs.World.{fresh_object}
use Rattle.semantics_safety.proofs.NameLaws.{one_or_other, lookup_same, lookup_other}
use Rattle.semantics_typing.specs.Objects.{AreTypedObjects, IsTypedVariable, AreTypedVariables}
use Rattle.semantics_typing.proofs.Calls.{ResultFits, IsLeft, EffectFits}
use Rattle.semantics_typing.proofs.Heaps.{Keeps, keeps_same, keeps_more, variables_later}
use Rattle.semantics_typing.proofs.Lists.{all_append}
use Rattle.semantics_typing.proofs.TaskTexts.{TargetHasTexts, HaveTexts, TasksHaveTexts, after_texts}
use Rattle.semantics_typing.proofs.Writes.{fresh_typed}
use Rattle.semantics_typing.proofs.Arguments.{variable_typed}

-- what a step leaves
abbrev pub AdvanceFits : (methods : Bool) → Classes → Heap → Advance → Type 0
AdvanceFits methods classes heap (Advances s t event) = Keeps classes heap s.heap × AreTypedVariables classes s.heap t.variables × TasksHaveTexts methods t.tasks
AdvanceFits methods classes heap NoAdvance = Unit {0}

-- ---- variables

pub assign_typed : (classes : Classes) (heap : Heap) (x : Identifier) (v : Variable) (vs : Variables) → AreTypedVariables classes heap vs → IsTypedVariable classes heap v → AreTypedVariables classes heap (assign x v vs)
assign_typed classes heap x v [] h new = (new, tt)
assign_typed classes heap x v ((y, w) ∷ vs) h new = by_test (bytes_eq x y) (assign_typed classes heap x v vs h.1 new)
  where
    by_test : (b : Bool) → AreTypedVariables classes heap (assign x v vs) → AreTypedVariables classes heap (if b then (x, v) ∷ vs else (y, w) ∷ assign x v vs)
    by_test true later = (new, h.1)
    by_test false later = (h.0, later)

-- a buffer's variable is of this element type
abbrev pub ElementIs : ElementType → Variable → Type 0
ElementIs u (Elements e b) = e ≡ u
ElementIs u v = Unit {0}

-- if the result is one
abbrev pub ElementFits : ElementType → Variable → CallResult → Type 0
ElementFits u v (BufferResult b) = ElementIs u v
ElementFits u v given = Unit {0}

filled_typed : (classes : Classes) (u : ElementType) (before : Variables) (heap : Heap) (vs : Variables) (v : Variable) (given : CallResult) → IsTypedVariable classes heap v → ResultFits classes u before heap vs given → ElementFits u v given → IsTypedVariable classes heap (filled v given)
filled_typed classes u before heap vs (Scalar w) (ScalarResult v) h r e = tt
filled_typed classes u before heap vs (Scalar w) given h r e = tt
filled_typed classes u before heap vs (LocalRef level q) (ReferenceResult n) h r e = tt
filled_typed classes u before heap vs (LocalRef level q) NullResult h r e = tt
filled_typed classes u before heap vs (LocalRef level q) given h r e = tt
filled_typed classes u before heap vs (FieldHandle f) (FieldResult g) h r e = r
filled_typed classes u before heap vs (FieldHandle f) NullResult h r e = tt
filled_typed classes u before heap vs (FieldHandle f) given h r e = h
filled_typed classes u before heap vs (MethodHandle m) (MethodResult n) h r e = tt
filled_typed classes u before heap vs (MethodHandle m) NullResult h r e = tt
filled_typed classes u before heap vs (MethodHandle m) given h r e = tt
filled_typed classes u before heap vs (Elements d b) (BufferResult c) h r e = subst (λ (x : ElementType). IsTypedVariable classes heap (Elements x c)) (sym e) r.0
filled_typed classes u before heap vs (Elements d b) NullResult h r e = tt
filled_typed classes u before heap vs (Elements d b) given h r e = h
filled_typed classes u before heap vs (LocalArray d zs) given h r e = h

blank_typed : (classes : Classes) (heap : Heap) (kind : VariableKind) (n : ℕ) → IsTypedVariable classes heap (blank kind n)
blank_typed classes heap kinds.Number n = tt
blank_typed classes heap kinds.Reference n = tt
blank_typed classes heap kinds.Field n = tt
blank_typed classes heap kinds.Method n = tt
blank_typed classes heap (kinds.Buffer e) n = tt

-- ---- where a result goes

-- the variable that is filled is of the element type, where a buffer goes there
abbrev pub TargetFits : ElementType → Target → Variables → CallResult → Type 0
TargetFits u (Declared kind x) vs given = (n : ℕ) → ElementFits u (blank kind n) given
TargetFits u (Assigned x) vs given = (v : Variable) → lookup x vs ≡ Some v → ElementFits u v given
TargetFits u target vs given = Unit {0}

assigned_fits : (methods : Bool) (classes : Classes) (u : ElementType) (before : Variables) (old : Heap) (vs : Variables) (x : Identifier) (given : CallResult) (s : Shared) (t : Thread) (o : Option Variable) → lookup x t.variables ≡ o
    → Keeps classes old s.heap → AreTypedVariables classes s.heap t.variables → TasksHaveTexts methods t.tasks → ResultFits classes u before s.heap vs given → ((v : Variable) → o ≡ Some v → ElementFits u v given) → AdvanceFits methods classes old (put_assigned x given s t o)
assigned_fits methods classes u before old vs x given s t None at keeps h texts r e = (keeps, h, texts)
assigned_fits methods classes u before old vs x given s t (Some v) at keeps h texts r e =
    (keeps, assign_typed classes s.heap x (filled v given) t.variables h (filled_typed classes u before s.heap vs v given (variable_typed classes s.heap x t.variables v h at) r (e v refl)), texts)

pub put_fits : (methods : Bool) (classes : Classes) (u : ElementType) (before : Variables) (old : Heap) (vs : Variables) (target : Target) (given : CallResult) (s : Shared) (t : Thread)
    → Keeps classes old s.heap → AreTypedVariables classes s.heap t.variables → TasksHaveTexts methods t.tasks → ResultFits classes u before s.heap vs given → TargetFits u target t.variables given → AdvanceFits methods classes old (put target given s t)
put_fits methods classes u before old vs (Declared kind x) given s t keeps h texts r e =
    (keeps, assign_typed classes s.heap x (filled (blank kind (length t.frames)) given) t.variables h (filled_typed classes u before s.heap vs (blank kind (length t.frames)) given (blank_typed classes s.heap kind (length t.frames)) r (e (length t.frames))), texts)
put_fits methods classes u before old vs (Assigned x) given s t keeps h texts r e = assigned_fits methods classes u before old vs x given s t (lookup x t.variables) refl keeps h texts r (λ v g. e v g)
put_fits methods classes u before old vs (Tested a b) given s t keeps h texts r e = (keeps, h, texts)
put_fits methods classes u before old vs Dropped given s t keeps h texts r e = (keeps, h, texts)

-- ---- whether a buffer is a copy

told_typed : (classes : Classes) (heap : Heap) (y : Option Identifier) (given : CallResult) (vs : Variables) → AreTypedVariables classes heap vs → AreTypedVariables classes heap (tell_copy y given vs)
told_typed classes heap None given vs h = h
told_typed classes heap (Some y) (BufferResult (Copy n zs)) vs h = assign_typed classes heap y (Scalar (Flag true)) vs h tt
told_typed classes heap (Some y) (BufferResult (View n)) vs h = assign_typed classes heap y (Scalar (Flag false)) vs h tt
told_typed classes heap (Some y) (BufferResult NoBuffer) vs h = h
told_typed classes heap (Some y) NoResult vs h = h
told_typed classes heap (Some y) NullResult vs h = h
told_typed classes heap (Some y) (ScalarResult v) vs h = h
told_typed classes heap (Some y) (ReferenceResult r) vs h = h
told_typed classes heap (Some y) (WeakResult r) vs h = h
told_typed classes heap (Some y) (FieldResult f) vs h = h
told_typed classes heap (Some y) (MethodResult f) vs h = h

element_found : (o : Option Variable) (v : Variable) → o ≡ Some v → ElementIs (element_type o) v
element_found o (Scalar w) e = tt
element_found o (LocalRef level r) e = tt
element_found o (FieldHandle f) e = tt
element_found o (MethodHandle f) e = tt
element_found o (LocalArray d zs) e = tt
element_found o (Elements d b) e = sym (ap element_type e)

-- a flag that was set is no buffer
flag_other : (x y : Identifier) (b : Bool) (vs : Variables) (v : Variable) → lookup x (assign y (Scalar (Flag b)) vs) ≡ Some v → ElementIs (element_type (lookup x vs)) v
flag_other x y b vs v e = elim (one_or_other x y) [
  | inl same ↦
      let at : lookup x (assign y (Scalar (Flag b)) vs) ≡ Some (Scalar (Flag b)) = subst (λ (z : Identifier). lookup z (assign y (Scalar (Flag b)) vs) ≡ Some (Scalar (Flag b))) (sym same) (lookup_same y (Scalar (Flag b)) vs) in
      let both : Some (Scalar (Flag b)) ≡ Some v = sym at ∙ e in
      let is : Scalar (Flag b) ≡ v = cc in
      subst (ElementIs (element_type (lookup x vs))) is tt
  | inr other ↦ element_found (lookup x vs) v (sym (lookup_other y x (Scalar (Flag b)) vs other) ∙ e)
]

element_told : (x : Identifier) (y : Option Identifier) (b : Buffer) (vs : Variables) (v : Variable) → lookup x (tell_copy y (BufferResult b) vs) ≡ Some v → ElementIs (element_type (lookup x vs)) v
element_told x None b vs v e = element_found (lookup x vs) v e
element_told x (Some y) NoBuffer vs v e = element_found (lookup x vs) v e
element_told x (Some y) (Copy n zs) vs v e = flag_other x y true vs v e
element_told x (Some y) (View n) vs v e = flag_other x y false vs v e

blank_element : (kind : VariableKind) (x : Identifier) (vs : Variables) (n : ℕ) → ElementIs (target_element vs (Declared kind x)) (blank kind n)
blank_element kinds.Number x vs n = tt
blank_element kinds.Reference x vs n = tt
blank_element kinds.Field x vs n = tt
blank_element kinds.Method x vs n = tt
blank_element (kinds.Buffer e) x vs n = refl

-- ---- a call's step

module _ (methods : Bool) (unit : SourceUnit) (classes : Classes) (in_use : BuffersInUse) (k : ℕ) (s : Shared) (t : Thread) (typed : AreTypedObjects classes s.heap) (vars : AreTypedVariables classes s.heap t.variables) (line : ℕ) (target : Target) (f : JniFunction) (args : List Actual) (rest : List Task) (texts : HaveTexts methods rest) (target_texts : TargetHasTexts methods target) where
  abbrev u : ElementType
  u = target_element t.variables target

  told_target : (target' : Target) (y : Option Identifier) (given : CallResult) (heap : Heap) (vs : Variables) → ResultFits classes (target_element t.variables target') t.variables heap vs given → TargetFits (target_element t.variables target') target' (tell_copy y given vs) given
  told_target (Declared kind x) y (BufferResult b) heap vs r = λ n. blank_element kind x t.variables n
  told_target (Declared kind x) y NoResult heap vs r = λ n. tt
  told_target (Declared kind x) y NullResult heap vs r = λ n. tt
  told_target (Declared kind x) y (ScalarResult v) heap vs r = λ n. tt
  told_target (Declared kind x) y (ReferenceResult q) heap vs r = λ n. tt
  told_target (Declared kind x) y (WeakResult q) heap vs r = λ n. tt
  told_target (Declared kind x) y (FieldResult g) heap vs r = λ n. tt
  told_target (Declared kind x) y (MethodResult g) heap vs r = λ n. tt
  told_target (Assigned x) y (BufferResult b) heap vs r = λ v e. element_told x y b t.variables v (subst (λ (l : Variables). lookup x (tell_copy y (BufferResult b) l) ≡ Some v) r.1 e)
  told_target (Assigned x) y NoResult heap vs r = λ v e. tt
  told_target (Assigned x) y NullResult heap vs r = λ v e. tt
  told_target (Assigned x) y (ScalarResult w) heap vs r = λ v e. tt
  told_target (Assigned x) y (ReferenceResult q) heap vs r = λ v e. tt
  told_target (Assigned x) y (WeakResult q) heap vs r = λ v e. tt
  told_target (Assigned x) y (FieldResult g) heap vs r = λ v e. tt
  told_target (Assigned x) y (MethodResult g) heap vs r = λ v e. tt
  told_target (Tested a b) y given heap vs r = tt
  told_target Dropped y given heap vs r = tt

  completed_fits : (made : List Object) (s' : Shared) (t' : Thread) (given : CallResult) → IsLeft classes u s.heap t.variables (s'.heap ++ made) t'.variables given → AdvanceFits methods classes s.heap (completed unit classes in_use k s t line target f args rest made s' t' given)
  completed_fits made s' t' given left =
      put_fits methods classes u t.variables s.heap t'.variables target given (record s' { heap = s'.heap ++ made }) (resumed unit classes in_use k s t line target f args rest t' given)
      left.keeps (told_typed classes (s'.heap ++ made) (address_given args 1) given t'.variables left.variables)
      (all_append _ (tasks_after line target (is_zero given)) rest (after_texts methods line target (is_zero given) target_texts) texts)
      left.result (told_target target (address_given args 1) given (s'.heap ++ made) t'.variables left.result)

  failure_fits : (kind : ResultKind) (heap : Heap) → ResultFits classes u t.variables heap t.variables (failure kind)
  failure_fits NewLocal heap = tt
  failure_fits NewGlobal heap = tt
  failure_fits NewWeak heap = tt
  failure_fits GivesFlag heap = tt
  failure_fits GivesInt heap = tt
  failure_fits GivesField heap = tt
  failure_fits GivesMethod heap = tt
  failure_fits GivesNothing heap = tt
  failure_fits (GivesBuffer access) heap = tt

  pub after_fits : TasksHaveTexts methods t.tasks → (e : CallEffect) → EffectFits classes u s.heap t.variables e → AdvanceFits methods classes s.heap (after_call unit classes in_use k s t line target f args rest e)
  after_fits own (Throws c) h =
      let keeps = keeps_more classes s.heap typed (fresh_object classes c) (fresh_typed classes s.heap (length s.heap + 1) c h) in
      completed_fits (fresh_object classes c ∷ []) s (record t { pending = Some (next_name s.heap) }) (failure (prototype f).result)
      (record { keeps = keeps; variables = variables_later classes s.heap (s.heap ++ fresh_object classes c ∷ []) keeps.stay t.variables vars; result = failure_fits (prototype f).result (s.heap ++ fresh_object classes c ∷ []) })
  after_fits own (Halts trap) h = (keeps_same classes s.heap typed, vars, own)
  after_fits own (Enters function arguments) h = (keeps_same classes s.heap typed, tt, tt)
  after_fits own (Leaves made s' t' given) h = completed_fits made s' t' given h

  nothing_made : (given : CallResult) → ((heap : Heap) → ResultFits classes u t.variables heap t.variables given) → IsLeft classes u s.heap t.variables (s.heap ++ []) t.variables given
  nothing_made given r = subst (λ (h : Heap). IsLeft classes u s.heap t.variables h t.variables given) (sym (append-nil s.heap)) (record { keeps = keeps_same classes s.heap typed; variables = vars; result = r s.heap })

  pub refusal_fits : (makes : Bool) → AdvanceFits methods classes s.heap (after_refusal unit classes in_use k s t line target f args rest makes)
  refusal_fits true = completed_fits [] s (record t { pending = Some (out_of_memory classes) }) (failure (prototype f).result) (nothing_made (failure (prototype f).result) (λ heap. failure_fits (prototype f).result heap))
  refusal_fits false = tt
