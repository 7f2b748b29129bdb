-- A statement that is well-typed fits.
use Rattle.std.proofs.Common.{◌≡◌, ℕ, ◌<◌, ◌≤◌, ◌⊎◌, inl, inr, Bool, true, false, not, ◌&&◌, ◌||◌, List, [], ◌∷◌, ◌++◌, map, flat_map, length, nat_le, Option, Some, None, is_some, refl, sym, ap, ◌∙◌, subst, arith, leb-true}
use Rattle.std.specs.Cmp.{first_so, second_so}
use Rattle.std.specs.List.{list_all, AllZip}
use Rattle.std.specs.Option.{is_none}
use Rattle.std.proofs.lemmas.Bool.{not-false}
use Rattle.base.specs.Bytes.{Identifier, lookup}
use Rattle.base.specs.declared.element.ElementType.{ElementType}
use Rattle.base.specs.Options.{some_passes}
use Rattle.syntax.specs.Limits.{height, highest, numbers_in_range}
use Rattle.syntax.specs.Parts.{call_of_right_side, argument_expressions, call_expressions, right_side_expressions, test_expressions}
use Rattle.syntax.specs.Tree as tree
use Rattle.syntax.specs.declared.expr.Constant.TheVariants as constants
use Rattle.syntax.specs.declared.unit.ResultType.{ResultType}
use Rattle.syntax.specs.declared.unit.ResultType.TheVariants.{Void, Jint as IntResult, Reference as ReferenceResult}
use Rattle.syntax.specs.Tree.{Expr, Argument, Call, RightSide, FromExpr, FromCall, Test, TestExpr, TestCall}
use Rattle.jni.specs.declared.access.Access.{Access}
use Rattle.jni.specs.declared.access.Access.TheVariants.{ElementsCopy, ArrayView, CharsCopy, CharsView}
use Rattle.jni.specs.declared.function.JniFunction.{JniFunction}
use Rattle.jni.specs.declared.function.JniFunction.TheVariants.{PushLocalFrame}
use Rattle.jni.specs.JniFunction.{function_named, prototype, parameters_for, takes_count}
use Rattle.jni.specs.declared.kinds.ParameterKind.{ParameterKind}
use Rattle.jni.specs.declared.kinds.ParameterKind.TheVariants.{Nullable, NonNull, ClassObject, AnyArray, ObjectArray, StringObject, NumberArray, LocalVariable, StaticVariable, FieldID, MethodID, Passed, IntNumber, TextBytes, ArrayVariable, BufferVariable, Mode, IsCopy, AnyReference, WeakVariable}
use Rattle.jni.specs.declared.kinds.ResultKind.{ResultKind}
use Rattle.jni.specs.declared.kinds.ResultKind.TheVariants.{NewLocal, NewGlobal, GivesFlag, GivesInt, GivesField, GivesMethod, GivesBuffer, GivesNothing, NewWeak}
use Rattle.type_rules.specs.declared.ty.ExprType.{ExprType}
use Rattle.type_rules.specs.declared.ty.ExprType.TheVariants.{Word, Jint, Flag, Truth, Ref, Global, Weak, FieldId, MethodId, Buffer, Array}
use Rattle.type_rules.specs.ExprTypes.{type_in, type_of, is_jint, is_flag, is_truth, is_index, has_elements, is_null, is_ref, is_field, is_method, is_reference, is_array_of, is_buffer_for, name_type, text_fits, address_fits, argument_fits, arguments_fit, call_arguments_fit, is_any_reference}
use Rattle.type_rules.specs.TypeRules.{result_fits, is_push, call_fits, may_be_tested, value_sets, right_side_sets, buffer_begins, test_fits, return_fits, has_wrong_count, has_wrong_mode, is_mode, is_mode_parameter, modes_fit, copies_reference}
use Rattle.type_rules.specs.TypeGroups.{IsIndexType}
use Rattle.semantics.specs.Term as term
use Rattle.semantics.specs.Term.{Term, Read, term_of}
use Rattle.code_meaning.specs.Layout.{Slot, Known}
use Rattle.code_meaning.specs.Fits.{IsVariable, HasElements, NumberFits, TakesLocal, TakesGlobal, NameFits, ReferenceFits, FieldFits, MethodFits, PassedFits, ArrayFits, BufferFits, ArgumentFits, CallFits, ResultFits, CallGives, ValueFits, RightFits, TestFits, ReturnFits, AnyReferenceFits, IsStaticType}
use Rattle.type_rules.proofs.TypeCases.{indexed, index_is_value}
use Rattle.type_rules.proofs.TypeTests.{word_is, jint_is, flag_is, truth_is, ref_is, global_is, weak_is, field_is, method_is, array_is, null_is, first_passed}
use Rattle.type_rules.proofs.CallParameters.{parameters_count, modes_of_all}
use Rattle.lower.proofs.TypeFacts.{scope_of, slot_of_name, HasNoTruth, IsFine, elements, number_fits}
use Rattle.lower.proofs.TermSteps.{read_variable}

-- ---- types by their tests

reference_is : (o : Option ExprType) → is_reference o ≡ true → (s : ExprType) × (o ≡ Some s) × ((s ≡ Ref) ⊎ (s ≡ Global))
reference_is (Some Ref) h = (Ref, refl, inl refl)
reference_is (Some Global) h = (Global, refl, inr refl)
reference_is o h = absurd (cc)

passed_is : (o : Option ExprType) → (is_jint o || false || is_reference o) ≡ true → (s : ExprType) × (o ≡ Some s) × ((s ≡ Jint) ⊎ (s ≡ Ref) ⊎ (s ≡ Global))
passed_is (Some Jint) h = (Jint, refl, inl refl)
passed_is (Some Ref) h = (Ref, refl, inr (inl refl))
passed_is (Some Global) h = (Global, refl, inr (inr refl))
passed_is o h = absurd (cc)

any_reference_is : (o : Option ExprType) → is_any_reference o ≡ true → (s : ExprType) × (o ≡ Some s) × ((s ≡ Ref) ⊎ IsStaticType s)
any_reference_is (Some Ref) h = (Ref, refl, inl refl)
any_reference_is (Some Global) h = (Global, refl, inr tt)
any_reference_is (Some Weak) h = (Weak, refl, inr tt)
any_reference_is o h = absurd (cc)

some_buffer : (access : Access) (o : Option ExprType) → is_buffer_for access o ≡ true → (s : ExprType) × (o ≡ Some s)
some_buffer access (Some s) h = (s, refl)
some_buffer (ElementsCopy t) None h = absurd (cc)
some_buffer ArrayView None h = absurd (cc)
some_buffer CharsCopy None h = absurd (cc)
some_buffer CharsView None h = absurd (cc)

first_only : (b : Bool) → (b || false || false) ≡ true → b ≡ true
first_only true h = refl
first_only false h = absurd (cc)

all_three : (a b c : Bool) → (a && b && c) ≡ true → (a ≡ true) × (b ≡ true) × (c ≡ true)
all_three true true true h = (refl, refl, refl)
all_three a b c h = absurd (cc)

-- ---- expressions

-- each of the expressions is fine
abbrev pub AreFine : List Expr → Type 0
AreFine [] = Unit {0}
AreFine (e ∷ rest) = IsFine e × AreFine rest

pub are_fine : (all : List Expr) → list_all numbers_in_range all ≡ true → highest (map height all) ≤ 32 → AreFine all
are_fine [] range low = tt
are_fine (e ∷ rest) range low = (
  record { range = first_so (numbers_in_range e) (list_all numbers_in_range rest) range; low = omega (arith, low) },
  are_fine rest (second_so (numbers_in_range e) (list_all numbers_in_range rest) range) (omega (arith, low)),
)

-- ---- calls

are_both : (front back : List Expr) → AreFine (front ++ back) → AreFine front × AreFine back
are_both [] back h = (tt, h)
are_both (e ∷ front) back h = let both = are_both front back h.1 in ((h.0, both.0), both.1)

-- the expressions that are arguments of a call, where there is one
abbrev pub called_expressions : Option Call → List Expr
called_expressions None = []
called_expressions (Some c) = call_expressions c

-- the function of a call that is known
record KnownCall (c : Call) : Type 0 where
  function : JniFunction
  named : function_named c.function ≡ Some function

known_call : (c : Call) → is_none (function_named c.function) ≡ false → KnownCall c
known_call c h = by_name (function_named c.function) refl h
  where
    by_name : (o : Option JniFunction) → function_named c.function ≡ o → is_none o ≡ false → KnownCall c
    by_name (Some f) is known = record { function = f; named = is }
    by_name None is known = absurd (cc)

-- a call that is the test of an `if` gives a `jint`
is_tested : (f : JniFunction) → may_be_tested (Some f) ≡ true → (prototype f).result ≡ GivesInt
is_tested PushLocalFrame h = refl
is_tested f h = absurd (cc)

-- a call, where there is one, is of a function that is known, with the right arguments
pub record CallHolds (known : Known) (call : Option Call) : Type 0 where
  pub function : some_passes (λ c. is_none (function_named c.function)) call ≡ false
  pub arguments : some_passes (λ c. not (call_arguments_fit (scope_of known) c (function_named c.function))) call ≡ false
  pub count : some_passes (λ c. has_wrong_count c (function_named c.function)) call ≡ false
  pub modes : some_passes (λ c. has_wrong_mode c (function_named c.function)) call ≡ false
  pub fine : AreFine (called_expressions call)

module _ (known : Known) where
  reference_fits : (e : Expr) → (is_null e || is_reference (name_type (scope_of known) e)) ≡ true → ReferenceFits known e
  reference_fits (tree.Named constants.Null) h = tt
  reference_fits (tree.Variable x) h =
      let r = reference_is (type_in (scope_of known) x) h in
      let at = slot_of_name x known r.0 r.1 in
      (record { ty = r.0; index = at.0 }, at.1, r.2)
  reference_fits e h = absurd (cc)

  any_reference_fits : (e : Expr) → (is_null e || is_any_reference (name_type (scope_of known) e)) ≡ true → AnyReferenceFits known e
  any_reference_fits (tree.Named constants.Null) h = tt
  any_reference_fits (tree.Variable x) h =
      let r = any_reference_is (type_in (scope_of known) x) h in
      let at = slot_of_name x known r.0 r.1 in
      (record { ty = r.0; index = at.0 }, at.1, r.2)
  any_reference_fits e h = absurd (cc)

  -- a parameter that takes no weak reference, and no number beside references
  abbrev TakesNoOther : ParameterKind → Type 0
  TakesNoOther AnyReference = ⊥
  TakesNoOther Passed = ⊥
  TakesNoOther p = Unit {0}

  value_is_reference : (p : ParameterKind) (e : Expr) → TakesLocal p → TakesGlobal p → TakesNoOther p → argument_fits (scope_of known) p (tree.Value e) ≡ true → ReferenceFits known e
  value_is_reference Nullable e local global plain h = reference_fits e h
  value_is_reference NonNull e local global plain h = reference_fits e h
  value_is_reference ClassObject e local global plain h = reference_fits e h
  value_is_reference AnyArray e local global plain h = reference_fits e h
  value_is_reference ObjectArray e local global plain h = reference_fits e h
  value_is_reference StringObject e local global plain h = reference_fits e h
  value_is_reference (NumberArray t) e local global plain h = reference_fits e h
  value_is_reference StaticVariable e local global plain h = absurd local
  value_is_reference WeakVariable e local global plain h = absurd local
  value_is_reference AnyReference e local global plain h = absurd plain
  value_is_reference Passed e local global plain h = absurd plain
  value_is_reference p e local global plain h = absurd global

  name_fits : (s : ExprType) (e : Expr) → name_type (scope_of known) e ≡ Some s → NameFits known s e
  name_fits s (tree.Variable x) h = slot_of_name x known s h
  name_fits s e h = absurd (cc)

  field_fits : (e : Expr) → (is_null e || is_field (name_type (scope_of known) e)) ≡ true → FieldFits known e
  field_fits (tree.Named constants.Null) h = tt
  field_fits (tree.Variable x) h = slot_of_name x known FieldId (field_is (type_in (scope_of known) x) h)
  field_fits e h = absurd (cc)

  method_fits : (e : Expr) → (is_null e || is_method (name_type (scope_of known) e)) ≡ true → MethodFits known e
  method_fits (tree.Named constants.Null) h = tt
  method_fits (tree.Variable x) h = slot_of_name x known MethodId (method_is (type_in (scope_of known) x) h)
  method_fits e h = absurd (cc)

  array_fits : (t : ElementType) (e : Expr) → is_array_of t (name_type (scope_of known) e) ≡ true → ArrayFits known t e
  array_fits t (tree.Variable x) h =
      let array = array_is t (type_in (scope_of known) x) h in
      let at = slot_of_name x known (Array t array.0) array.1 in
      (array.0, at.0, at.1)
  array_fits t e h = absurd (cc)

  buffer_named : (access : Access) (e : Expr) → is_buffer_for access (name_type (scope_of known) e) ≡ true → BufferFits known access e
  buffer_named access (tree.Variable x) h =
      let s = some_buffer access (type_in (scope_of known) x) h in
      let at = slot_of_name x known s.0 s.1 in
      (record { ty = s.0; index = at.0 }, at.1, subst (λ (o : Option ExprType). is_buffer_for access o ≡ true) s.1 h)
  buffer_named access e h = absurd (let s = some_buffer access None h in let c : None ≡ Some s.0 = s.1 in cc)

  flag_named : (x : Identifier) → is_flag (type_in (scope_of known) x) ≡ true → IsVariable known x Flag
  flag_named x h = let at = slot_of_name x known Flag (flag_is (type_in (scope_of known) x) h) in (at.0, at.1, tt)

  -- a mode is one where one is asked for
  abbrev ModeIsKept : ParameterKind → Argument → Type 0
  ModeIsKept p a = (not (is_mode_parameter p) || is_mode a) ≡ true

  text_kept : (p : ParameterKind) (bytes : List ℕ) → text_fits p ≡ true → ModeIsKept p (tree.Text bytes) → ArgumentFits known p (tree.Text bytes)
  text_kept TextBytes bytes h mode = tt
  text_kept Mode bytes h mode = absurd (cc)
  text_kept p bytes h mode = absurd (cc)

  address_kept : (p : ParameterKind) (x : Identifier) → address_fits (scope_of known) p x ≡ true → ModeIsKept p (tree.AddressOf x) → ArgumentFits known p (tree.AddressOf x)
  address_kept IsCopy x h mode = flag_named x h
  address_kept Mode x h mode = absurd (cc)
  address_kept p x h mode = absurd (cc)

  module _ (no_truth : HasNoTruth known) where
    passed_fits : (e : Expr) → IsFine e → (is_jint (type_of (scope_of known) e) || is_null e || is_reference (name_type (scope_of known) e)) ≡ true → PassedFits known e
    passed_fits (tree.Named constants.Null) fine h = tt
    passed_fits (tree.Variable x) fine h =
        let r = passed_is (type_in (scope_of known) x) h in
        let at = slot_of_name x known r.0 r.1 in
        (record { ty = r.0; index = at.0 }, at.1, r.2)
    passed_fits e fine h = number_fits known e Jint no_truth fine (jint_is (type_of (scope_of known) e) (first_only (is_jint (type_of (scope_of known) e)) h)) tt

    value_kept : (p : ParameterKind) (e : Expr) → IsFine e → argument_fits (scope_of known) p (tree.Value e) ≡ true → ModeIsKept p (tree.Value e) → ArgumentFits known p (tree.Value e)
    value_kept IntNumber e fine h mode = number_fits known e Jint no_truth fine (jint_is (type_of (scope_of known) e) h) tt
    value_kept FieldID e fine h mode = field_fits e h
    value_kept MethodID e fine h mode = method_fits e h
    value_kept Passed e fine h mode = passed_fits e fine h
    value_kept TextBytes e fine h mode = absurd (cc)
    value_kept (ArrayVariable t) e fine h mode = array_fits t e h
    value_kept (BufferVariable access) e fine h mode = buffer_named access e h
    value_kept Mode e fine h mode = mode
    value_kept IsCopy e fine h mode = null_is e h
    value_kept LocalVariable e fine h mode = name_fits Ref e (ref_is (name_type (scope_of known) e) h)
    value_kept StaticVariable e fine h mode = name_fits Global e (global_is (name_type (scope_of known) e) h)
    value_kept WeakVariable e fine h mode = name_fits Weak e (weak_is (name_type (scope_of known) e) h)
    value_kept AnyReference e fine h mode = any_reference_fits e h
    value_kept p e fine h mode = value_is_reference p e tt tt tt h

    one_fits : (p : ParameterKind) (a : Argument) → AreFine (argument_expressions a) → argument_fits (scope_of known) p a ≡ true → ModeIsKept p a → ArgumentFits known p a
    one_fits p (tree.Value e) fine h mode = value_kept p e fine.0 h mode
    one_fits p (tree.Text bytes) fine h mode = text_kept p bytes h mode
    one_fits p (tree.AddressOf x) fine h mode = address_kept p x h mode

    all_fit : (parameters : List ParameterKind) (arguments : List Argument) → AreFine (flat_map argument_expressions arguments) → arguments_fit (scope_of known) parameters arguments ≡ true → modes_fit parameters arguments ≡ true → length arguments ≡ length parameters → AllZip (ArgumentFits known) parameters arguments
    all_fit [] [] fine h modes count = tt
    all_fit [] (a ∷ arguments) fine h modes count = absurd (omega (arith, count))
    all_fit (p ∷ parameters) [] fine h modes count = absurd (omega (arith, count))
    all_fit (p ∷ parameters) (a ∷ arguments) fine h modes count =
        let both = are_both (argument_expressions a) (flat_map argument_expressions arguments) fine in (
          one_fits p a both.0 (first_so (argument_fits (scope_of known) p a) (arguments_fit (scope_of known) parameters arguments) h) (first_so (not (is_mode_parameter p) || is_mode a) (modes_fit parameters arguments) modes),
          all_fit parameters arguments both.1 (second_so (argument_fits (scope_of known) p a) (arguments_fit (scope_of known) parameters arguments) h) (second_so (not (is_mode_parameter p) || is_mode a) (modes_fit parameters arguments) modes) (omega (arith, count)),
        )

    -- a call of a function that is known
    fits_with : (c : Call) → CallHolds known (Some c) → (is : KnownCall c) → (fits : CallFits known c) × (fits.function ≡ is.function)
    fits_with c holds is =
        let parameters = parameters_for is.function (length c.arguments) in
        let arguments : call_arguments_fit (scope_of known) c (Some is.function) ≡ true = sym (ap (call_arguments_fit (scope_of known) c) is.named) ∙ not-false (call_arguments_fit (scope_of known) c (function_named c.function)) holds.arguments in
        let count : takes_count is.function (length c.arguments) ≡ true = not-false (takes_count is.function (length c.arguments)) (sym (ap (has_wrong_count c) is.named) ∙ holds.count) in
        let modes : not (modes_fit (prototype is.function).parameters c.arguments) ≡ false = sym (ap (has_wrong_mode c) is.named) ∙ holds.modes in (
          record {
            function = is.function;
            named = is.named;
            count = count;
            arguments = all_fit parameters c.arguments holds.fine arguments (modes_of_all is.function c.arguments (not-false (modes_fit (prototype is.function).parameters c.arguments) modes)) (parameters_count is.function (length c.arguments) count);
          },
          refl,
        )

    pub call_fits_name : (c : Call) → CallHolds known (Some c) → CallFits known c
    call_fits_name c holds = (fits_with c holds (known_call c holds.function)).0

    -- the type of what takes a result
    result_type : (o : Option ExprType) (gives : ResultKind) → result_fits o gives ≡ true → (s : ExprType) × (o ≡ Some s) × ResultFits s gives
    result_type o GivesInt h = (Jint, jint_is o h, refl)
    result_type o GivesFlag h = (Flag, flag_is o h, refl)
    result_type o NewLocal h = (Ref, ref_is o h, refl)
    result_type (Some Global) NewGlobal h = (Global, refl, refl)
    result_type o NewGlobal h = absurd (cc)
    result_type (Some Weak) NewWeak h = (Weak, refl, refl)
    result_type o NewWeak h = absurd (cc)
    result_type o GivesField h = (FieldId, field_is o h, refl)
    result_type o GivesMethod h = (MethodId, method_is o h, refl)
    result_type o (GivesBuffer access) h = let s = some_buffer access o h in (s.0, s.1, subst (λ (p : Option ExprType). is_buffer_for access p ≡ true) s.1 h)
    result_type o GivesNothing h = absurd (cc)

    call_gives : (o : Option ExprType) (c : Call) → CallHolds known (Some c) → call_fits o (function_named c.function) ≡ true → (s : ExprType) × (o ≡ Some s) × CallGives known s c
    call_gives o c holds h =
        let is = known_call c holds.function in
        let fits = fits_with c holds is in
        let known_fits : call_fits o (Some is.function) ≡ true = sym (ap (call_fits o) is.named) ∙ h in
        let result = result_type o (prototype is.function).result (second_so (not (is_push is.function)) (result_fits o (prototype is.function).result) known_fits) in
        (result.0, result.1, record { fits = fits.0; result = subst (λ f. ResultFits result.0 (prototype f).result) (sym fits.1) result.2 })

    same_type : (a b : ExprType) → Some a ≡ Some b → a ≡ b
    same_type a b e = cc

    gives_type : (s : ExprType) (c : Call) → CallHolds known (Some c) → call_fits (Some s) (function_named c.function) ≡ true → CallGives known s c
    gives_type s c holds h =
        let gives = call_gives (Some s) c holds h in
        subst (λ (t : ExprType). CallGives known t c) (sym (same_type s gives.0 gives.1)) gives.2

    -- ---- right sides

    value_fits : (s : ExprType) (e : Expr) → IsFine e → value_sets (scope_of known) (Some s) e ≡ true → copies_reference (scope_of known) (Some s) (Some (FromExpr e)) ≡ false → ValueFits known s e
    value_fits Word e fine h k = number_fits known e Word no_truth fine (word_is (type_of (scope_of known) e) h) tt
    value_fits Jint e fine h k = number_fits known e Jint no_truth fine (jint_is (type_of (scope_of known) e) h) tt
    value_fits Flag e fine h k = number_fits known e Flag no_truth fine (flag_is (type_of (scope_of known) e) h) tt
    value_fits Ref e fine h k = null_is e (first_passed (is_null e) (is_some (name_type (scope_of known) e)) h k)
    value_fits Global e fine h k = null_is e h
    value_fits Weak e fine h k = null_is e h
    value_fits FieldId e fine h k = null_is e h
    value_fits MethodId e fine h k = null_is e h
    value_fits s e fine h k = absurd (cc)

    pub right_fits : (s : ExprType) (r : RightSide) → AreFine (right_side_expressions r) → CallHolds known (call_of_right_side (Some r)) → right_side_sets (scope_of known) (Some s) r ≡ true → copies_reference (scope_of known) (Some s) (Some r) ≡ false
        → RightFits known s r
    right_fits s (FromExpr e) fine holds h k = value_fits s e fine.0 h k
    right_fits s (FromCall c) fine holds h k = gives_type s c holds h

    pub buffer_fits : (t : ElementType) (w : Bool) (r : RightSide) → CallHolds known (call_of_right_side (Some r)) → buffer_begins (scope_of known) (Buffer t w) r ≡ true → RightFits known (Buffer t w) r
    buffer_fits t w (FromExpr e) holds h = null_is e h
    buffer_fits t w (FromCall c) holds h = gives_type (Buffer t w) c holds h

    assigned_type : (o : Option ExprType) (r : RightSide) → CallHolds known (call_of_right_side (Some r)) → right_side_sets (scope_of known) o r ≡ true → (s : ExprType) × (o ≡ Some s)
    assigned_type (Some s) r holds h = (s, refl)
    assigned_type None (FromExpr e) holds h = absurd (cc)
    assigned_type None (FromCall c) holds h = absurd (let gives = call_gives None c holds h in let e : None ≡ Some gives.0 = gives.1 in cc)

    pub assigned_fits : (x : Identifier) (r : RightSide) → AreFine (right_side_expressions r) → CallHolds known (call_of_right_side (Some r)) → right_side_sets (scope_of known) (type_in (scope_of known) x) r ≡ true
        → copies_reference (scope_of known) (type_in (scope_of known) x) (Some r) ≡ false → (s : Slot) × (lookup x known ≡ Some s) × RightFits known s.ty r
    assigned_fits x r fine holds h k =
        let s = assigned_type (type_in (scope_of known) x) r holds h in
        let at = slot_of_name x known s.0 s.1 in (
          record { ty = s.0; index = at.0 },
          at.1,
          right_fits s.0 r fine holds (subst (λ (o : Option ExprType). right_side_sets (scope_of known) o r ≡ true) s.1 h) (subst (λ (o : Option ExprType). copies_reference (scope_of known) o (Some r) ≡ false) s.1 k),
        )

    -- ---- other statements

    pub element_fits : (x : Identifier) (i e : Expr) → IsFine i → IsFine e → (has_elements (type_in (scope_of known) x) && is_index (type_of (scope_of known) i) && is_jint (type_of (scope_of known) e)) ≡ true
        → ((n : Slot) × (lookup x known ≡ Some n) × HasElements n.ty) × ((r : ExprType) × IsIndexType r × NumberFits known (term_of i) r) × NumberFits known (term_of e) Jint
    element_fits x i e index value h =
        let all = all_three (has_elements (type_in (scope_of known) x)) (is_index (type_of (scope_of known) i)) (is_jint (type_of (scope_of known) e)) h in
        let s = elements (type_in (scope_of known) x) all.0 in
        let at = slot_of_name x known s.0 s.1 in
        let r = indexed (type_of (scope_of known) i) all.1 in (
          (record { ty = s.0; index = at.0 }, at.1, s.2),
          (r.0, r.2, number_fits known i r.0 no_truth index r.1 (index_is_value r.0 r.2)),
          number_fits known e Jint no_truth value (jint_is (type_of (scope_of known) e) all.2) tt,
        )

    pub jint_fits : (e : Expr) → IsFine e → is_jint (type_of (scope_of known) e) ≡ true → NumberFits known (term_of e) Jint
    jint_fits e fine h = number_fits known e Jint no_truth fine (jint_is (type_of (scope_of known) e) h) tt

    pub truth_fits : (e : Expr) → IsFine e → is_truth (type_of (scope_of known) e) ≡ true → NumberFits known (term_of e) Truth
    truth_fits e fine h = number_fits known e Truth no_truth fine (truth_is (type_of (scope_of known) e) h) tt

    pub tested_fits : (test : Test) → AreFine (test_expressions test) → ((c : Call) → test ≡ TestCall c → CallHolds known (Some c)) → test_fits (scope_of known) test ≡ true → TestFits known test
    tested_fits (TestExpr e) fine holds h = truth_fits e fine.0 h
    tested_fits (TestCall c) fine holds h =
        let call = holds c refl in
        let is = known_call c call.function in
        let fits = fits_with c call is in
        let gives : (prototype fits.0.function).result ≡ GivesInt = ap (λ f. (prototype f).result) fits.1 ∙ is_tested is.function (sym (ap may_be_tested is.named) ∙ h) in
        record { fits = fits.0; result = subst (ResultFits Jint) (sym gives) refl }

    return_number : (t : Term) → NumberFits known t Jint → ReturnFits known t
    return_number (term.Named constants.Null) h = tt
    return_number (Read x) h = let there = read_variable h.ty in (record { ty = Jint; index = there.0 }, there.1, inr refl)
    return_number t h = h

    return_reference : (e : Expr) → (is_null e || is_ref (name_type (scope_of known) e)) ≡ true → ReturnFits known (term_of e)
    return_reference (tree.Named constants.Null) h = tt
    return_reference (tree.Variable x) h =
        let at = slot_of_name x known Ref (ref_is (type_in (scope_of known) x) h) in
        (record { ty = Ref; index = at.0 }, at.1, inl refl)
    return_reference e h = absurd (cc)

    pub returned_fits : (returns : ResultType) (e : Expr) → IsFine e → return_fits (scope_of known) returns e ≡ true → ReturnFits known (term_of e)
    returned_fits Void e fine h = absurd (cc)
    returned_fits IntResult e fine h = return_number (term_of e) (jint_fits e fine h)
    returned_fits (ReferenceResult r) e fine h = return_reference e h

pub size_fits : (size : ℕ) → (nat_le 1 size && nat_le size 1024) ≡ true → (0 < size) × (size ≤ 1024)
size_fits size h =
    let some = leb-true 1 size (first_so (nat_le 1 size) (nat_le size 1024) h) in
    let few = leb-true size 1024 (second_so (nat_le 1 size) (nat_le size 1024) h) in
    (omega (arith, some), few)
