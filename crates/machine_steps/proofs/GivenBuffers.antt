-- What a call gives that is a buffer, and what the variable that is told of it was.
use Rattle.syntax.specs.Tree.{SourceUnit}
use Rattle.std.proofs.Common.{◌≡◌, ℕ, ℤ, ◌+◌, Bool, true, false, List, [], ◌∷◌, length, Option, Some, None, refl, sym, ap, ◌∙◌, subst, arith, if◌then◌else◌}
use Rattle.std.specs.Prelude.{FitsSigned, nat_le, nat_lt}
use Rattle.std.specs.Int.{w32}
use Rattle.std.specs.List.{AllByRecursion}
use Rattle.std.specs.Str.{bytes_eq}
use Rattle.std.proofs.lemmas.Bool.{leb-true}
use Rattle.std.proofs.lemmas.Slice.Eq.{bytes_eq-Decides}
use Rattle.class_rules.specs.Class.{Classes}
use Rattle.heap.specs.Heap.{Space}
use Rattle.jni.specs.declared.function.JniFunction.{JniFunction}
use Rattle.jni.specs.declared.function.JniFunction.TheVariants.{GetBuffer}
use Rattle.jni.specs.JniFunction.{parameters_for, prototype}
use Rattle.jni.specs.declared.access.Access.{Access}
use Rattle.jni.specs.declared.kinds.ParameterKind.{ParameterKind}
use Rattle.jni.specs.declared.kinds.ParameterKind.TheVariants.{IsCopy}
use Rattle.jni.specs.declared.kinds.ResultKind.{ResultKind}
use Rattle.jni.specs.declared.kinds.ResultKind.TheVariants.{GivesBuffer}
use Rattle.base.specs.Bytes.{Identifier, lookup}
use Rattle.semantics.specs.Arguments.{Actual, address_given, address_in_actual}
use Rattle.semantics.specs.Answer as source_answer
use Rattle.semantics.specs.Answer.{Answer as SourceAnswer}
use Rattle.semantics.specs.CallEffects.{CallResult, NoResult, NullResult, BufferResult}
use Rattle.semantics.specs.CallStep.{tell_copy}
use Rattle.semantics.specs.Heap.{numbers_of}
use Rattle.semantics.specs.declared.variable_kind.VariableKind.TheVariants as kinds
use Rattle.semantics.specs.Thread as source
use Rattle.semantics.specs.Thread.{Shared}
use Rattle.semantics.specs.declared.value.Value.{Value}
use Rattle.semantics.specs.declared.value.Value.TheVariants.{Flag}
use Rattle.semantics.specs.Variable as variable
use Rattle.semantics.specs.Variable.{Variables, Scalar, Elements, NoBuffer, Copy, View, assign}
use Rattle.semantics_safety.specs.StepSafe.{HoldsNoBuffer}
use Rattle.code.specs.Depth.{Listing}
use Rattle.code.specs.declared.instr.Operand.{Operand}
use Rattle.code_meaning.specs.Does as gives
use Rattle.code_meaning.specs.Does.{AllTogether, IsOperand}
use Rattle.code_meaning.specs.Layout.{Known}
use Rattle.code_meaning.specs.Slots.{Shows, Slots, kind_of_variable, visible_to}
use Rattle.code_meaning.specs.Stands.{IsBufferResult}
use Rattle.type_rules.specs.declared.ty.ExprType.TheVariants as types
use Rattle.semantics_safety.specs.Owners.{Owners}
use Rattle.semantics_safety.proofs.NameLaws.{lookup_other, lookup_same}
use Rattle.tables.specs.Locals.{LocalTable}
use Rattle.machine_answers.specs.declared.answer.Answer.{Answer}
use Rattle.machine_answers.specs.declared.answer.Given.{Given}
use Rattle.machine_scenes.specs.declared.store.Store.{Store}
use Rattle.machine_answers.specs.Answers.{Brought, IsAnswer, effect_told}
use Rattle.machine_answers.specs.Answers as row
use Rattle.machine_calls.specs.CarriedOut.{ResultAgrees, result_after}
use Rattle.machine_threads.specs.SlotsHold.{IsSmallCopy}
use Rattle.machine_steps.proofs.Acquisitions.{assigned_nothing, taken_by}
use Rattle.machine_steps.proofs.GivenResults.{plain_result}
use Rattle.machine_steps.proofs.Receives.{IsNoBuffer}

-- ---- what is told

assigned_kind : (y x : Identifier) (v : Value) (vs : Variables) → kind_of_variable (lookup y vs) ≡ Some kinds.Number → kind_of_variable (lookup x (assign y (Scalar v) vs)) ≡ kind_of_variable (lookup x vs)
assigned_kind y x v vs scalar = by_test (bytes_eq x y) refl
  where
    by_test : (b : Bool) → bytes_eq x y ≡ b → kind_of_variable (lookup x (assign y (Scalar v) vs)) ≡ kind_of_variable (lookup x vs)
    by_test true e =
        let same : x ≡ y = (bytes_eq-Decides x y).0 e in
        subst (λ (z : Identifier). kind_of_variable (lookup z (assign y (Scalar v) vs)) ≡ kind_of_variable (lookup z vs)) (sym same) (ap kind_of_variable (lookup_same y (Scalar v) vs) ∙ sym scalar)
    by_test false e = ap kind_of_variable (lookup_other y x (Scalar v) vs (λ same. let clash : false ≡ true = sym e ∙ (bytes_eq-Decides x y).1 same in cc))

-- variables are of the kinds that they were
pub told_kind : (y : Option Identifier) (x : Identifier) (c : CallResult) (vs : Variables) → ((z : Identifier) → y ≡ Some z → kind_of_variable (lookup z vs) ≡ Some kinds.Number) → kind_of_variable (lookup x (tell_copy y c vs)) ≡ kind_of_variable (lookup x vs)
told_kind None x c vs h = refl
told_kind (Some y) x (BufferResult (Copy n zs)) vs h = assigned_kind y x (Flag true) vs (h y refl)
told_kind (Some y) x (BufferResult (View n)) vs h = assigned_kind y x (Flag false) vs (h y refl)
told_kind (Some y) x (BufferResult NoBuffer) vs h = refl
told_kind (Some y) x c vs h = refl

assigned_free : (y x : Identifier) (v : Value) (vs : Variables) → HoldsNoBuffer (lookup x vs) → HoldsNoBuffer (lookup x (assign y (Scalar v) vs))
assigned_free y x v vs free kind b = by_test (bytes_eq x y) refl
  where
    by_test : (t : Bool) → bytes_eq x y ≡ t → lookup x (assign y (Scalar v) vs) ≡ Some (Elements kind b) → b ≡ NoBuffer
    by_test true e is =
        let same : x ≡ y = (bytes_eq-Decides x y).0 e in
        absurd (let clash : Some (Scalar v) ≡ Some (Elements kind b) = sym (lookup_same y (Scalar v) vs) ∙ ap (λ (z : Identifier). lookup z (assign y (Scalar v) vs)) (sym same) ∙ is in cc)
    by_test false e is = free kind b (sym (lookup_other y x (Scalar v) vs (λ same. let clash : false ≡ true = sym e ∙ (bytes_eq-Decides x y).1 same in cc)) ∙ is)

-- one that held no buffer holds none
pub told_free : (y : Option Identifier) (x : Identifier) (c : CallResult) (vs : Variables) → HoldsNoBuffer (lookup x vs) → HoldsNoBuffer (lookup x (tell_copy y c vs))
told_free None x c vs h = h
told_free (Some y) x (BufferResult (Copy n zs)) vs h = assigned_free y x (Flag true) vs h
told_free (Some y) x (BufferResult (View n)) vs h = assigned_free y x (Flag false) vs h
told_free (Some y) x (BufferResult NoBuffer) vs h = h
told_free (Some y) x c vs h = h

-- they take what they did
pub told_nothing : (y : Option Identifier) (c : CallResult) (vs : Variables) → ((b : variable.Buffer) (z : Identifier) → c ≡ BufferResult b → y ≡ Some z → HoldsNoBuffer (lookup z vs)) → taken_by (tell_copy y c vs) ≡ taken_by vs
told_nothing None c vs h = refl
told_nothing (Some y) (BufferResult (Copy n zs)) vs h = assigned_nothing y (Scalar (Flag true)) vs refl refl (h (Copy n zs) y refl refl)
told_nothing (Some y) (BufferResult (View n)) vs h = assigned_nothing y (Scalar (Flag false)) vs refl refl (h (View n) y refl refl)
told_nothing (Some y) (BufferResult NoBuffer) vs h = refl
told_nothing (Some y) c vs h = refl

-- the variable that a call tells, if it tells one, is a number
module _ (code : Listing) (known : Known) (place : ℕ) (stack : List ℕ) (slots : Slots) (own : Owners) (shared : Shared) (s : source.Thread) (shows : Shows code known (visible_to own shared s) slots) where
  abbrev IsTellable : Option Identifier → Type 0
  IsTellable y = (z : Identifier) → y ≡ Some z → kind_of_variable (lookup z s.variables) ≡ Some kinds.Number

  one_told : {o : Operand} {a : Actual} → IsOperand known (visible_to own shared s) IsCopy o a → IsTellable (address_in_actual (Some a))
  one_told (gives.told {i = i} {x = x} at) z is =
      let shown = shows.each x (record { ty = types.Flag; index = i }) at in
      let same : x ≡ z = let both : Some x ≡ Some z = is in cc in
      subst (λ (y : Identifier). kind_of_variable (lookup y s.variables) ≡ Some kinds.Number) same shown.kind
  one_told gives.not_told z is = absurd (let clash : None ≡ Some z = is in cc)
  one_told (gives.reference kind there) z is = absurd kind

  two_told : {p : ParameterKind} {operands : List Operand} {args : List Actual} → AllTogether (IsOperand known (visible_to own shared s)) (p ∷ IsCopy ∷ []) operands args → IsTellable (address_given args 1)
  two_told (gives.more first (gives.more second rest)) = one_told second

  pub told_number : (f : JniFunction) (n : ℕ) {operands : List Operand} {args : List Actual} → IsBufferResult (prototype f).result → AllTogether (IsOperand known (visible_to own shared s)) (parameters_for f n) operands args → IsTellable (address_given args 1)
  told_number (GetBuffer access) n b h = two_told h
  told_number f n b h = absurd (let clash : (prototype f).result ≡ GivesBuffer b.0 = b.1 in cc)

-- ---- a buffer that is given

-- a function that gives one is of this kind
pub gives_buffer : (unit : SourceUnit) (classes : Classes) (store : Store) (k : ℕ) (kind : ResultKind) (g : Given) (c : CallResult) (b : variable.Buffer) → ResultAgrees unit classes store k g kind c → c ≡ BufferResult b → IsBufferResult kind
gives_buffer unit classes store k (GivesBuffer access) g c b h is = (access, refl)
gives_buffer unit classes store k kind g c b h is = absurd (subst IsNoBuffer is (plain_result unit classes store k kind g c (λ of_buffer. let clash : kind ≡ GivesBuffer of_buffer.0 = of_buffer.1 in cc) h))

-- a copy that is made is small
small_copy : (n : ℕ) (zs : List ℤ) (taken : ℕ) (b : variable.Buffer) → AllByRecursion (FitsSigned w32) zs → BufferResult (if nat_le (taken + length zs) 65536 then Copy n zs else NoBuffer) ≡ BufferResult b → IsSmallCopy b
small_copy n zs taken b fit = by_test (nat_le (taken + length zs) 65536) refl
  where
    by_test : (t : Bool) → nat_le (taken + length zs) 65536 ≡ t → BufferResult (if t then Copy n zs else NoBuffer) ≡ BufferResult b → IsSmallCopy b
    by_test true e is = let same : Copy n zs ≡ b = cc in subst IsSmallCopy same (omega (arith, leb-true (taken + length zs) 65536 e), fit)
    by_test false e is = let same : NoBuffer ≡ b = cc in subst IsSmallCopy same tt

small_view : (n views : ℕ) (b : variable.Buffer) → BufferResult (if nat_lt views 64 then View n else NoBuffer) ≡ BufferResult b → IsSmallCopy b
small_view n views b = by_test (nat_lt views 64)
  where
    by_test : (t : Bool) → BufferResult (if t then View n else NoBuffer) ≡ BufferResult b → IsSmallCopy b
    by_test true is = let same : View n ≡ b = cc in subst IsSmallCopy same tt
    by_test false is = let same : NoBuffer ≡ b = cc in subst IsSmallCopy same tt

module _ (classes : Classes) (brought : Brought) (space : Space) (locals : LocalTable) (access : Access) (shared : Shared) (s : source.Thread) (b : variable.Buffer) where
  small_answer : {answer : Answer} {of_source : SourceAnswer} → IsAnswer classes brought space locals shared s answer (GivesBuffer access) of_source → result_after (GivesBuffer access) false (effect_told classes brought shared s of_source) ≡ BufferResult b → IsSmallCopy b
  unfolding source_answer.effect_of
  small_answer (row.gives agrees) gave = elim agrees [ ]
  small_answer (row.pends r there agrees) gave = elim agrees [ ]
  small_answer (row.throws makeable) gave = absurd (let clash : NullResult ≡ BufferResult b = gave in cc)
  small_answer (row.calls method) gave = absurd (let clash : NoResult ≡ BufferResult b = gave in cc)
  small_answer row.halts gave = absurd (let clash : NoResult ≡ BufferResult b = gave in cc)
  small_answer (row.acquires_copy buffer it) gave = small_copy it.name (numbers_of shared.heap it.name) brought.in_use.copied b it.words.fit gave
  small_answer (row.acquires_view n buffer there) gave = small_view n brought.in_use.views b gave

-- what is given is small
pub small_given : {classes : Classes} {brought : Brought} {space : Space} {locals : LocalTable} {kind : ResultKind} {shared : Shared} {s : source.Thread} {answer : Answer} {of_source : SourceAnswer} (refused : Bool) (b : variable.Buffer)
    → IsBufferResult kind → IsAnswer classes brought space locals shared s answer kind of_source → result_after kind refused (effect_told classes brought shared s of_source) ≡ BufferResult b → IsSmallCopy b
small_given {classes = classes} {brought = brought} {shared = shared} {s = s} {of_source = of_source} true b of_buffer h gave =
    absurd (let clash : NullResult ≡ BufferResult b = ap (λ (k : ResultKind). result_after k true (effect_told classes brought shared s of_source)) (sym of_buffer.1) ∙ gave in cc)
small_given {classes = classes} {brought = brought} {space = space} {locals = locals} {shared = shared} {s = s} {answer = answer} {of_source = of_source} false b of_buffer h gave =
    small_answer classes brought space locals of_buffer.0 shared s b (subst (λ (k : ResultKind). IsAnswer classes brought space locals shared s answer k of_source) of_buffer.1 h)
    (ap (λ (k : ResultKind). result_after k false (effect_told classes brought shared s of_source)) (sym of_buffer.1) ∙ gave)
