-- The arguments of a call that fit by the rules of types, and whose names may be used, are operands that fit.
use Rattle.std.proofs.Common.{◌≡◌, Bool, true, false, not, ◌||◌, List, [], ◌∷◌, ◌++◌, map, length, Option, Some, None, refl, sym, ap, ◌∙◌}
use Rattle.std.specs.Prelude.{flat_map, zip}
use Rattle.std.specs.List.{list_any}
use Rattle.std.proofs.lemmas.Bool.{and_parts, or_parts}
use Rattle.std.proofs.lemmas.Grind.{flat_map-append}
use Rattle.base.specs.Bytes.{Identifier}
use Rattle.base.specs.declared.element.ElementType.{ElementType}
use Rattle.syntax.specs.Parts.{names_in, elements_in, argument_expressions}
use Rattle.syntax.specs.declared.expr.Constant.TheVariants.{Null}
use Rattle.syntax.specs.Tree.{Expr, Number, Named, Variable, Element, Prefix, Binary, Paren, Argument, Value, Text, AddressOf}
use Rattle.jni.specs.declared.access.Access.{Access}
use Rattle.jni.specs.declared.access.Access.TheVariants.{ElementsCopy, ArrayView, CharsCopy, CharsView}
use Rattle.jni.specs.declared.kinds.ParameterKind.{ParameterKind}
use Rattle.jni.specs.declared.kinds.ParameterKind.TheVariants.{Nullable, NonNull, AnyReference, ClassObject, AnyArray, ObjectArray, StringObject, NumberArray, LocalVariable, StaticVariable, WeakVariable, FieldID, MethodID, Passed, IntNumber, TextBytes, ArrayVariable, BufferVariable, Mode, IsCopy}
use Rattle.type_rules.specs.declared.ty.ExprType.{ExprType}
use Rattle.type_rules.specs.declared.ty.ExprType.TheVariants.{Jint, Ref, Global, Weak, Buffer}
use Rattle.type_rules.specs.ExprTypes.{type_in, type_of, is_jint, is_any_reference, is_reference, is_buffer_for, argument_fits, arguments_fit}
use Rattle.type_rules.specs.TypeRules.{is_mode, is_mode_parameter, modes_fit}
use Rattle.type_rules.proofs.TypeTests.{jint_is, flag_is, ref_is, global_is, weak_is, field_is, method_is, array_is}
use Rattle.region_rules.specs.RegionRules.{is_dead, is_untested, is_free}
use Rattle.region_rules.specs.RegionStates.{RegionState, state_of}
use Rattle.semantics.specs.Task.{NumberOperand, Given, operand}
use Rattle.semantics.specs.Term.{term_of}
use Rattle.semantics_safety.specs.Points as rule
use Rattle.semantics_safety.specs.Points.{Point, ReferenceFits, AnyReferenceFits, PassedFits, TakesReference, OperandFits, OperandsFit}
use Rattle.semantics_safety.proofs.ExpressionFits.{AreStated, MayRead, is_live, usable_if, expression_fits, none_of_both}

-- ---- expressions together

-- the expressions use no dead reference and no free buffer, and read an element of no untested one
pub record MayReadAll (regions : RegionState) (es : List Expr) : Type 0 where
  pub alive : list_any (λ x. is_dead (state_of regions x)) (flat_map names_in es) ≡ false
  pub unfree : list_any (λ x. is_free (state_of regions x)) (flat_map names_in es) ≡ false
  pub tested : list_any (λ x. is_untested (state_of regions x)) (flat_map elements_in es) ≡ false

-- the first of them, and the others
pub first_read : (regions : RegionState) (e : Expr) (es : List Expr) → MayReadAll regions (e ∷ es) → MayRead regions e × MayReadAll regions es
first_read regions e es h =
    let alive = none_of_both (λ x. is_dead (state_of regions x)) (names_in e) (flat_map names_in es) h.alive in
    let unfree = none_of_both (λ x. is_free (state_of regions x)) (names_in e) (flat_map names_in es) h.unfree in
    let tested = none_of_both (λ x. is_untested (state_of regions x)) (elements_in e) (flat_map elements_in es) h.tested in
    (record { alive = alive.0; unfree = unfree.0; tested = tested.0 }, record { alive = alive.1; unfree = unfree.1; tested = tested.1 })

parts_read : (p : Identifier → Bool) (f : Expr → List Identifier) (xs ys : List Expr) → list_any p (flat_map f (xs ++ ys)) ≡ false → (list_any p (flat_map f xs) ≡ false) × (list_any p (flat_map f ys) ≡ false)
parts_read p f xs ys h = none_of_both p (flat_map f xs) (flat_map f ys) (ap (list_any p) (sym (flat_map-append f xs ys)) ∙ h)

pub both_read : (regions : RegionState) (xs ys : List Expr) → MayReadAll regions (xs ++ ys) → MayReadAll regions xs × MayReadAll regions ys
both_read regions xs ys h =
    let alive = parts_read (λ x. is_dead (state_of regions x)) names_in xs ys h.alive in
    let unfree = parts_read (λ x. is_free (state_of regions x)) names_in xs ys h.unfree in
    let tested = parts_read (λ x. is_untested (state_of regions x)) elements_in xs ys h.tested in
    (record { alive = alive.0; unfree = unfree.0; tested = tested.0 }, record { alive = alive.1; unfree = unfree.1; tested = tested.1 })

-- ---- the tests, turned round

pub buffer_for : (access : Access) (o : Option ExprType) → is_buffer_for access o ≡ true → (t : ElementType) × (writable : Bool) × (o ≡ Some (Buffer t writable))
buffer_for (ElementsCopy t) (Some (Buffer u true)) h = (u, true, refl)
buffer_for ArrayView (Some (Buffer u true)) h = (u, true, refl)
buffer_for CharsCopy (Some (Buffer u false)) h = (u, false, refl)
buffer_for CharsView (Some (Buffer u false)) h = (u, false, refl)
buffer_for access o h = absurd (cc)

-- ---- one argument

-- the buffer that an argument is was tested
abbrev pub BufferTested : Point → ParameterKind → Argument → Type 0
BufferTested p (BufferVariable access) (Value (Variable x)) = is_untested (state_of p.regions x) ≡ false
BufferTested p parameter a = Unit {0}

-- a mode is one
abbrev IsRightMode : ParameterKind → Argument → Type 0
IsRightMode parameter a = (not (is_mode_parameter parameter) || is_mode a) ≡ true

module _ (p : Point) (stated : AreStated p) where
  reference_fits : (x : Identifier) (o : Option ExprType) → type_in p.names x ≡ o → is_reference o ≡ true → is_dead (state_of p.regions x) ≡ false → ReferenceFits p x o
  reference_fits x (Some Ref) e h alive = is_live p stated x e alive
  reference_fits x (Some Global) e h alive = tt
  reference_fits x o e h alive = absurd (cc)

  any_reference_fits : (x : Identifier) (o : Option ExprType) → type_in p.names x ≡ o → is_any_reference o ≡ true → is_dead (state_of p.regions x) ≡ false → AnyReferenceFits p x o
  any_reference_fits x (Some Ref) e h alive = is_live p stated x e alive
  any_reference_fits x (Some Global) e h alive = tt
  any_reference_fits x (Some Weak) e h alive = tt
  any_reference_fits x o e h alive = absurd (cc)

  alive_name : (x : Identifier) → MayReadAll p.regions (Variable x ∷ []) → is_dead (state_of p.regions x) ≡ false
  alive_name x h = (or_parts (is_dead (state_of p.regions x)) false h.alive).0

  unfree_name : (x : Identifier) → MayReadAll p.regions (Variable x ∷ []) → is_free (state_of p.regions x) ≡ false
  unfree_name x h = (or_parts (is_free (state_of p.regions x)) false h.unfree).0

  -- a parameter that takes references asks for the same as the others that do
  as_nullable : {parameter : ParameterKind} → TakesReference parameter → (a : Argument) → argument_fits p.names parameter a ≡ true → argument_fits p.names Nullable a ≡ true
  as_nullable rule.nullable a h = h
  as_nullable rule.non_null (Value e) h = h
  as_nullable rule.class_object (Value e) h = h
  as_nullable rule.any_array (Value e) h = h
  as_nullable rule.object_array (Value e) h = h
  as_nullable rule.string (Value e) h = h
  as_nullable rule.number_array (Value e) h = h
  as_nullable takes a h = absurd (cc)

  -- NULL or a reference
  reference_argument : {parameter : ParameterKind} → TakesReference parameter → (a : Argument) → argument_fits p.names parameter a ≡ true → MayReadAll p.regions (argument_expressions a) → OperandFits p parameter (Given a)
  reference_argument {parameter} takes a h read = null_or_reference a (as_nullable takes a h) read
    where
      null_or_reference : (a : Argument) → argument_fits p.names Nullable a ≡ true → MayReadAll p.regions (argument_expressions a) → OperandFits p parameter (Given a)
      null_or_reference (Value (Named Null)) h read = rule.reference takes rule.null
      null_or_reference (Value (Variable x)) h read = rule.reference takes (rule.named (reference_fits x (type_in p.names x) refl h (alive_name x read)))
      null_or_reference a h read = absurd (cc)

  -- the same, weak or not
  any_argument : (a : Argument) → argument_fits p.names AnyReference a ≡ true → MayReadAll p.regions (argument_expressions a) → OperandFits p AnyReference (Given a)
  any_argument (Value (Named Null)) h read = rule.any_reference rule.null
  any_argument (Value (Variable x)) h read = rule.any_reference (rule.named (any_reference_fits x (type_in p.names x) refl h (alive_name x read)))
  any_argument a h read = absurd (cc)

  mode_argument : (a : Argument) → IsRightMode Mode a → OperandFits p Mode (Given a)
  mode_argument (Value (Number n unsigned)) h = rule.mode_number
  mode_argument (Value (Named c)) h = rule.mode
  mode_argument a h = absurd (cc)

  local_argument : (a : Argument) → argument_fits p.names LocalVariable a ≡ true → MayReadAll p.regions (argument_expressions a) → OperandFits p LocalVariable (Given a)
  local_argument (Value (Variable x)) h read = rule.local (is_live p stated x (ref_is (type_in p.names x) h) (alive_name x read))
  local_argument a h read = absurd (cc)

  static_argument : (a : Argument) → argument_fits p.names StaticVariable a ≡ true → OperandFits p StaticVariable (Given a)
  static_argument (Value (Variable x)) h = rule.global (global_is (type_in p.names x) h)
  static_argument a h = absurd (cc)

  weak_argument : (a : Argument) → argument_fits p.names WeakVariable a ≡ true → OperandFits p WeakVariable (Given a)
  weak_argument (Value (Variable x)) h = rule.weak (weak_is (type_in p.names x) h)
  weak_argument a h = absurd (cc)

  field_argument : (a : Argument) → argument_fits p.names FieldID a ≡ true → OperandFits p FieldID (Given a)
  field_argument (Value (Named Null)) h = rule.field rule.null
  field_argument (Value (Variable x)) h = rule.field (rule.named (field_is (type_in p.names x) h))
  field_argument a h = absurd (cc)

  method_argument : (a : Argument) → argument_fits p.names MethodID a ≡ true → OperandFits p MethodID (Given a)
  method_argument (Value (Named Null)) h = rule.method rule.null
  method_argument (Value (Variable x)) h = rule.method (rule.named (method_is (type_in p.names x) h))
  method_argument a h = absurd (cc)

  array_argument : (t : ElementType) (a : Argument) → argument_fits p.names (ArrayVariable t) a ≡ true → OperandFits p (ArrayVariable t) (Given a)
  array_argument t (Value (Variable x)) h = rule.array (array_is t (type_in p.names x) h).1
  array_argument t a h = absurd (cc)

  no_access : (access : Access) → is_buffer_for access None ≡ true → ⊥
  no_access (ElementsCopy t) h = cc
  no_access ArrayView h = cc
  no_access CharsCopy h = cc
  no_access CharsView h = cc

  buffer_argument : (access : Access) (a : Argument) → argument_fits p.names (BufferVariable access) a ≡ true → MayReadAll p.regions (argument_expressions a) → BufferTested p (BufferVariable access) a → OperandFits p (BufferVariable access) (Given a)
  buffer_argument access (Value (Variable x)) h read tested =
      let is = buffer_for access (type_in p.names x) h in
      let found = stated.buffer x is.0 is.1 is.2 in
      rule.buffer (usable_if p x found.0 found.1 (unfree_name x read) tested)
  buffer_argument access (Value (Number n unsigned)) h read tested = absurd (no_access access h)
  buffer_argument access (Value (Named c)) h read tested = absurd (no_access access h)
  buffer_argument access (Value (Element x i)) h read tested = absurd (no_access access h)
  buffer_argument access (Value (Prefix op e)) h read tested = absurd (no_access access h)
  buffer_argument access (Value (Binary op e d)) h read tested = absurd (no_access access h)
  buffer_argument access (Value (Paren e)) h read tested = absurd (no_access access h)
  buffer_argument access (Text t) h read tested = absurd (cc)
  buffer_argument access (AddressOf x) h read tested = absurd (cc)

  copy_argument : (a : Argument) → argument_fits p.names IsCopy a ≡ true → OperandFits p IsCopy (Given a)
  copy_argument (Value (Named Null)) h = rule.not_told
  copy_argument (AddressOf x) h = rule.told (flag_is (type_in p.names x) h)
  copy_argument a h = absurd (cc)

  text_argument : (a : Argument) → argument_fits p.names TextBytes a ≡ true → OperandFits p TextBytes (Given a)
  text_argument (Text t) h = rule.text
  text_argument a h = absurd (cc)

  number_argument : (a : Argument) → argument_fits p.names IntNumber a ≡ true → MayReadAll p.regions (argument_expressions a) → OperandFits p IntNumber (operand (IntNumber, a))
  number_argument (Value e) h read = rule.number (expression_fits p stated e Jint (first_read p.regions e [] read).0 (jint_is (type_of p.names e) h) tt)
  number_argument a h read = absurd (cc)

  -- what a method is passed: NULL, a name, or a number
  no_reference : (b : Bool) → (b || false || false) ≡ true → b ≡ true
  no_reference true h = refl
  no_reference false h = absurd (cc)

  passed_number : (e : Expr) → is_jint (type_of p.names e) ≡ true → MayReadAll p.regions (e ∷ []) → OperandFits p Passed (NumberOperand (term_of e))
  passed_number e h read = rule.passed_number (expression_fits p stated e Jint (first_read p.regions e [] read).0 (jint_is (type_of p.names e) h) tt)

  passed_name : (x : Identifier) (o : Option ExprType) → type_in p.names x ≡ o → (is_jint o || false || is_reference o) ≡ true → is_dead (state_of p.regions x) ≡ false → PassedFits p x o
  passed_name x (Some Jint) e h alive = tt
  passed_name x (Some Ref) e h alive = is_live p stated x e alive
  passed_name x (Some Global) e h alive = tt
  passed_name x o e h alive = absurd (cc)

  passed_argument : (a : Argument) → argument_fits p.names Passed a ≡ true → MayReadAll p.regions (argument_expressions a) → OperandFits p Passed (operand (Passed, a))
  passed_argument (Value (Named Null)) h read = rule.passed_null
  passed_argument (Value (Variable x)) h read = rule.passed_name (passed_name x (type_in p.names x) refl h (alive_name x read))
  passed_argument (Value (Named c)) h read = passed_number (Named c) (no_reference _ h) read
  passed_argument (Value (Number n unsigned)) h read = passed_number (Number n unsigned) (no_reference _ h) read
  passed_argument (Value (Element x i)) h read = passed_number (Element x i) (no_reference _ h) read
  passed_argument (Value (Prefix op e)) h read = passed_number (Prefix op e) (no_reference _ h) read
  passed_argument (Value (Binary op e d)) h read = passed_number (Binary op e d) (no_reference _ h) read
  passed_argument (Value (Paren e)) h read = passed_number (Paren e) (no_reference _ h) read
  passed_argument (Text t) h read = absurd (cc)
  passed_argument (AddressOf x) h read = absurd (cc)

  argument_is : (parameter : ParameterKind) (a : Argument) → argument_fits p.names parameter a ≡ true → IsRightMode parameter a → MayReadAll p.regions (argument_expressions a) → BufferTested p parameter a → OperandFits p parameter (operand (parameter, a))
  argument_is Nullable a h mode read tested = reference_argument rule.nullable a h read
  argument_is NonNull a h mode read tested = reference_argument rule.non_null a h read
  argument_is ClassObject a h mode read tested = reference_argument rule.class_object a h read
  argument_is AnyArray a h mode read tested = reference_argument rule.any_array a h read
  argument_is ObjectArray a h mode read tested = reference_argument rule.object_array a h read
  argument_is StringObject a h mode read tested = reference_argument rule.string a h read
  argument_is (NumberArray u) a h mode read tested = reference_argument rule.number_array a h read
  argument_is LocalVariable a h mode read tested = local_argument a h read
  argument_is StaticVariable a h mode read tested = static_argument a h
  argument_is WeakVariable a h mode read tested = weak_argument a h
  argument_is AnyReference a h mode read tested = any_argument a h read
  argument_is FieldID a h mode read tested = field_argument a h
  argument_is MethodID a h mode read tested = method_argument a h
  argument_is Passed a h mode read tested = passed_argument a h read
  argument_is IntNumber a h mode read tested = number_argument a h read
  argument_is TextBytes a h mode read tested = text_argument a h
  argument_is (ArrayVariable t) a h mode read tested = array_argument t a h
  argument_is (BufferVariable access) a h mode read tested = buffer_argument access a h read tested
  argument_is Mode a h mode read tested = mode_argument a mode
  argument_is IsCopy a h mode read tested = copy_argument a h

  -- ---- all arguments

  -- each buffer was tested
  abbrev pub BuffersTested : List ParameterKind → List Argument → Type 0
  BuffersTested [] arguments = Unit {0}
  BuffersTested (parameter ∷ parameters) [] = Unit {0}
  BuffersTested (parameter ∷ parameters) (a ∷ arguments) = BufferTested p parameter a × BuffersTested parameters arguments

  pub operands_fit : (parameters : List ParameterKind) (arguments : List Argument) → length arguments ≡ length parameters → arguments_fit p.names parameters arguments ≡ true → modes_fit parameters arguments ≡ true
      → MayReadAll p.regions (flat_map argument_expressions arguments) → BuffersTested parameters arguments → OperandsFit p parameters (map operand (zip parameters arguments))
  operands_fit [] [] count fit modes read tested = rule.done
  operands_fit [] (a ∷ arguments) count fit modes read tested = absurd (cc)
  operands_fit (parameter ∷ parameters) [] count fit modes read tested = absurd (cc)
  operands_fit (parameter ∷ parameters) (a ∷ arguments) count fit modes read tested =
      let fits = and_parts (argument_fits p.names parameter a) (arguments_fit p.names parameters arguments) fit in
      let right = and_parts (not (is_mode_parameter parameter) || is_mode a) (modes_fit parameters arguments) modes in
      let reads = both_read p.regions (argument_expressions a) (flat_map argument_expressions arguments) read in
      let later : length arguments ≡ length parameters = cc in
      rule.next (argument_is parameter a fits.0 right.0 reads.0 tested.0) (operands_fit parameters arguments later fits.1 right.1 reads.1 tested.1)
