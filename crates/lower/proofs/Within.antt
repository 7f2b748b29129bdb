-- Each instruction of a body finds its slots.
use Rattle.std.specs.Prelude.{zip, None}
use Rattle.std.proofs.Common.{◌≡◌, ℕ, ◌+◌, ◌<◌, ◌⊎◌, inl, inr, Bool, true, false, if◌then◌else◌, List, [], ◌∷◌, ◌++◌, length, Option, Some, refl, sym, ap, ◌∙◌, subst, map}
use Rattle.std.specs.List.{list_all, AllZip}
use Rattle.std.proofs.lemmas.List.Folds.{list_all-append}
use Rattle.std.proofs.lemmas.Bool.{lt-ltb, le-leb}
use Rattle.base.specs.Bytes.{Identifier, lookup}
use Rattle.syntax.specs.Tree as tree
use Rattle.syntax.specs.declared.expr.Constant.TheVariants as constants
use Rattle.syntax.specs.declared.expr.PrefixOp.{PrefixOp}
use Rattle.syntax.specs.declared.expr.PrefixOp.TheVariants.{LogicalNot, Complement, ToWord, ToInt}
use Rattle.syntax.specs.declared.expr.BinaryOp.{BinaryOp}
use Rattle.syntax.specs.declared.expr.BinaryOp.TheVariants.{LogicalOr, LogicalAnd, BitOr, BitXor, BitAnd, Equal, NotEqual, Less, LessEqual, Greater, GreaterEqual, ShiftLeft, ShiftRight, Add, Subtract, Multiply, Divide, Remainder}
use Rattle.syntax.specs.Tree.{Expr, Argument, RightSide, FromExpr, FromCall, Test, TestExpr, TestCall, Stmt, Block, End, Next, Call}
use Rattle.type_rules.specs.declared.ty.ExprType.{ExprType}
use Rattle.type_rules.specs.declared.ty.ExprType.TheVariants.{Jint, Ref, Global, Weak, FieldId, MethodId, Buffer, Array}
use Rattle.type_rules.specs.ExprTypes.{is_jint}
use Rattle.type_rules.specs.declared.ty.ExprType.TheVariants as types
use Rattle.type_rules.specs.TypeRules.{declared_type}
use Rattle.type_rules.specs.TypeGroups.{IsNumberType}
use Rattle.base.specs.declared.element.ElementType.{ElementType}
use Rattle.code.specs.declared.instr.Operand.TheVariants as operand
use Rattle.code.specs.declared.instr.Target.{Target}
use Rattle.code.specs.declared.instr.Target.TheVariants as destination
use Rattle.jni.specs.declared.access.Access.{Access}
use Rattle.jni.specs.JniFunction.{function_named, prototype, parameters_for}
use Rattle.jni.specs.declared.kinds.ParameterKind.{ParameterKind}
use Rattle.jni.specs.declared.kinds.ParameterKind.TheVariants.{LocalVariable, StaticVariable, FieldID, MethodID, Passed, IntNumber, TextBytes, ArrayVariable, BufferVariable, Mode, IsCopy, AnyReference, WeakVariable}
use Rattle.jni.specs.declared.kinds.ResultKind.{ResultKind}
use Rattle.jni.specs.declared.kinds.ResultKind.TheVariants.{NewLocal, NewGlobal, GivesFlag, GivesInt, GivesField, GivesMethod, GivesBuffer, GivesNothing, NewWeak}
use Rattle.code.specs.declared.instr.Instr.{Instr}
use Rattle.code.specs.declared.instr.Instr.TheVariants as instr
use Rattle.code.specs.declared.slots.SlotCounts.{SlotCounts}
use Rattle.code.specs.Depth.{operand_within, within_slots, target_within}
use Rattle.semantics.specs.Term as term
use Rattle.semantics.specs.Term.{Term, Read, term_of}
use Rattle.code_meaning.specs.Layout.{Slot, Known, Layout, next_index, slots_after, new_slot, closed, layout_after, block_layout}
use Rattle.code_meaning.specs.Coding.{nullable_of, test_of, null_code, element_code, write_code, of_slot, load_code, prefix_code, operator_code, is_signed, skip_code, term_code, expr_code, variable_operand, operand_of, passed_variable, passed_code, passed_rest, number_code, address_operand, arguments_texts, result_target, operand_code, named_call_code, value_code, right_code, assign_code, returned_code, return_code, test_code, paths_code, turn_code, if_code, stmt_code, block_code, argument_code, arguments_code}
use Rattle.code_meaning.specs.Fits as rule
use Rattle.code_meaning.specs.Fits.{IsNullable, HasElements, TermHasType, NumberFits, IndexWithin, IsLaidOut, HasRoomFor, ArgumentFits, ValueFits, RightFits, TestFits, ReturnFits, StmtFits, BlockFits, CallFits, IsReferenceKind, NameFits, ReferenceFits, FieldFits, MethodFits, PassedFits, ArrayFits, BufferFits, ResultFits, AnyReferenceFits}
use Rattle.lower.proofs.Bodies.{value_is, buffer_type}
use Rattle.lower.proofs.Layouts.{SizeFits, index_more, room_before, room_at_least, declared_slot, laid_after, laid_more, declared_size, block_grows, stmt_grows}

-- ---- instructions in these slots

module _ (slots : SlotCounts) where
  abbrev pub AllWithin : List Instr → Type 0
  AllWithin code = list_all (within_slots slots) code ≡ true

  -- the slots of each known name are there
  abbrev pub AllThere : Known → Type 0
  AllThere known = (x : Identifier) (s : Slot) → lookup x known ≡ Some s → IndexWithin slots s.ty s.index

  pub both_within : (a b : List Instr) → AllWithin a → AllWithin b → AllWithin (a ++ b)
  both_within a b h k = list_all-append (within_slots slots) a b ∙ rw (h, k) refl

  cons_within : (i : Instr) (b : List Instr) → within_slots slots i ≡ true → AllWithin b → AllWithin (i ∷ b)
  cons_within i b h k = rw (h, k) refl

  number_there : (s : ExprType) (i : ℕ) → IsNumberType s → IndexWithin slots s i → i < slots.numbers
  number_there types.Word i n h = h
  number_there Jint i n h = h
  number_there types.Flag i n h = h
  number_there s i n h = absurd n

  load_within : (i : ℕ) → i < slots.numbers → AllWithin (instr.Load i ∷ [])
  load_within i h = rw (lt-ltb i slots.numbers h) refl

  null_within : (equal : Bool) (s : ExprType) (i : ℕ) → IsNullable s → IndexWithin slots s i → AllWithin (test_of equal (nullable_of s i))
  null_within equal Ref i n h = rw (lt-ltb i slots.references h) refl
  null_within equal Global i n h = rw (lt-ltb i slots.statics h) refl
  null_within equal Weak i n h = rw (lt-ltb i slots.statics h) refl
  null_within equal FieldId i n h = rw (lt-ltb i slots.field_ids h) refl
  null_within equal MethodId i n h = rw (lt-ltb i slots.field_ids h) refl
  null_within equal (Buffer t w) i n h = rw (lt-ltb i slots.buffers h) refl
  null_within equal s i n h = absurd n

  element_within : (line : ℕ) (s : ExprType) (i : ℕ) → HasElements s → IndexWithin slots s i → AllWithin (element_code line s i)
  element_within line (Array t n) i has h = rw (lt-ltb 0 n h.0, le-leb n 1024 h.1, le-leb (i + n) slots.numbers h.2) refl
  element_within line (Buffer t w) i has h = rw (lt-ltb i slots.buffers h) refl
  element_within line s i has h = absurd has

  written_within : (line : ℕ) (s : ExprType) (i : ℕ) → HasElements s → IndexWithin slots s i → AllWithin (write_code line s i)
  written_within line (Array t n) i has h = rw (lt-ltb 0 n h.0, le-leb n 1024 h.1, le-leb (i + n) slots.numbers h.2) refl
  written_within line (Buffer t w) i has h = rw (lt-ltb i slots.buffers h) refl
  written_within line s i has h = absurd has

  prefix_within : (op : PrefixOp) → AllWithin (prefix_code op ∷ [])
  prefix_within LogicalNot = refl
  prefix_within Complement = refl
  prefix_within ToWord = refl
  prefix_within ToInt = refl

  operator_within : (line : ℕ) (signed : Bool) (op : BinaryOp) → AllWithin (operator_code line signed op ∷ [])
  operator_within line signed LogicalOr = refl
  operator_within line signed LogicalAnd = refl
  operator_within line signed BitOr = refl
  operator_within line signed BitXor = refl
  operator_within line signed BitAnd = refl
  operator_within line signed Equal = refl
  operator_within line signed NotEqual = refl
  operator_within line true Less = refl
  operator_within line false Less = refl
  operator_within line true LessEqual = refl
  operator_within line false LessEqual = refl
  operator_within line true Greater = refl
  operator_within line false Greater = refl
  operator_within line true GreaterEqual = refl
  operator_within line false GreaterEqual = refl
  operator_within line signed ShiftLeft = refl
  operator_within line signed ShiftRight = refl
  operator_within line signed Add = refl
  operator_within line signed Subtract = refl
  operator_within line signed Multiply = refl
  operator_within line signed Divide = refl
  operator_within line signed Remainder = refl

  term_within : (known : Known) (line : ℕ) {t : Term} {s : ExprType} → AllThere known → TermHasType known t s → AllWithin (term_code known line t)
  term_within known line all (rule.read {x = x} {s = s} h) = subst AllWithin (sym (ap (of_slot load_code) h.1)) (load_within h.0 (number_there s h.0 h.2 (all x (record { ty = s; index = h.0 }) h.1)))
  term_within known line all (rule.element {x = x} {n = n} {t = t} at has index h) =
      both_within (term_code known line t) (of_slot (element_code line) (lookup x known)) (term_within known line all h)
      (subst AllWithin (sym (ap (of_slot (element_code line)) at)) (element_within line n.ty n.index has (all x n at)))
  term_within known line all (rule.null_test {equal = equal} {x = x} {n = n} at null) = subst AllWithin (sym (ap (null_code equal) at)) (null_within equal n.ty n.index null (all x n at))
  term_within known line all (rule.logical_not {t = t} h) = both_within (term_code known line t) (prefix_code LogicalNot ∷ []) (term_within known line all h) refl
  term_within known line all (rule.complement {t = t} h) = both_within (term_code known line t) (prefix_code Complement ∷ []) (term_within known line all h) refl
  term_within known line all (rule.to_word {t = t} i h) = both_within (term_code known line t) (prefix_code ToWord ∷ []) (term_within known line all h) refl
  term_within known line all (rule.to_int {t = t} i h) = both_within (term_code known line t) (prefix_code ToInt ∷ []) (term_within known line all h) refl
  term_within known line all (rule.both {a = a} {b = b} h k) =
      both_within (term_code known line a) (skip_code true (length (term_code known line b)) ∷ term_code known line b) (term_within known line all h) (cons_within (skip_code true (length (term_code known line b))) (term_code known line b) refl (term_within known line all k))
  term_within known line all (rule.either {a = a} {b = b} h k) =
      both_within (term_code known line a) (skip_code false (length (term_code known line b)) ∷ term_code known line b) (term_within known line all h) (cons_within (skip_code false (length (term_code known line b))) (term_code known line b) refl (term_within known line all k))
  term_within known line all (rule.operator {op = op} {a = a} {b = b} fits h k) =
      both_within (term_code known line a) (term_code known line b ++ operator_code line (is_signed known a) op ∷ []) (term_within known line all h)
      (both_within (term_code known line b) (operator_code line (is_signed known a) op ∷ []) (term_within known line all k) (operator_within line (is_signed known a) op))
  term_within known line all h = refl

  taken_within : (known : Known) (line : ℕ) (t : Term) (s : ExprType) (last : Instr) → AllThere known → NumberFits known t s → within_slots slots last ≡ true → AllWithin (term_code known line t ++ last ∷ [])
  taken_within known line t s last all h k = both_within (term_code known line t) (last ∷ []) (term_within known line all h.ty) (rw k refl)

  -- ---- statements

  slot_within : (s : ExprType) (i : ℕ) → IndexWithin slots s i → operand_within slots (variable_operand s i) ≡ true
  slot_within types.Word i h = refl
  slot_within Jint i h = refl
  slot_within types.Flag i h = refl
  slot_within types.Truth i h = refl
  slot_within Ref i h = lt-ltb i slots.references h
  slot_within Global i h = lt-ltb i slots.statics h
  slot_within Weak i h = lt-ltb i slots.statics h
  slot_within FieldId i h = lt-ltb i slots.field_ids h
  slot_within MethodId i h = lt-ltb i slots.field_ids h
  slot_within (Buffer t w) i h = lt-ltb i slots.buffers h
  slot_within (Array t n) i h = rw (lt-ltb 0 n h.0, le-leb n 1024 h.1, le-leb (i + n) slots.numbers h.2) refl

  -- the variable of a known name is there
  name_within : (known : Known) (x : Identifier) (s : Slot) → AllThere known → lookup x known ≡ Some s → operand_within slots (operand_of (lookup x known)) ≡ true
  name_within known x s all found = ap (λ (o : Option Slot). operand_within slots (operand_of o)) found ∙ slot_within s.ty s.index (all x s found)

  -- so is that of a name that a method is given
  passed_slot_within : (b : Bool) (s : ExprType) (i : ℕ) → IndexWithin slots s i → operand_within slots (if b then operand.Number else variable_operand s i) ≡ true
  passed_slot_within true s i h = refl
  passed_slot_within false s i h = slot_within s i h

  passed_name_within : (known : Known) (x : Identifier) (s : Slot) → AllThere known → lookup x known ≡ Some s → operand_within slots (passed_variable (lookup x known)) ≡ true
  passed_name_within known x s all found = ap (λ (o : Option Slot). operand_within slots (passed_variable o)) found ∙ passed_slot_within (is_jint (Some s.ty)) s.ty s.index (all x s found)

  passed_within : (known : Known) (e : Expr) → AllThere known → PassedFits known e → operand_within slots (passed_code known e) ≡ true
  passed_within known (tree.Named constants.Null) all h = refl
  passed_within known (tree.Variable x) all h = passed_name_within known x h.0 all h.1
  passed_within known e all h = refl

  reference_within : (known : Known) (p : ParameterKind) (e : Expr) → IsReferenceKind p → AllThere known → ReferenceFits known e → operand_within slots (operand_code known (p, tree.Value e)) ≡ true
  reference_within known IntNumber e kind all h = absurd kind
  reference_within known Mode e kind all h = absurd kind
  reference_within known Passed (tree.Named constants.Null) kind all h = refl
  reference_within known Passed (tree.Variable x) kind all h = passed_name_within known x h.0 all h.1
  reference_within known Passed e kind all h = absurd h
  reference_within known p (tree.Named constants.Null) kind all h = refl
  reference_within known p (tree.Variable x) kind all h = name_within known x h.0 all h.1
  reference_within known p e kind all h = absurd h

  any_within : (known : Known) (e : Expr) → AllThere known → AnyReferenceFits known e → operand_within slots (operand_code known (AnyReference, tree.Value e)) ≡ true
  any_within known (tree.Named constants.Null) all h = refl
  any_within known (tree.Variable x) all h = name_within known x h.0 all h.1
  any_within known e all h = absurd h

  named_within : (known : Known) (p : ParameterKind) (s : ExprType) (e : Expr) → IsReferenceKind p → AllThere known → NameFits known s e → operand_within slots (operand_code known (p, tree.Value e)) ≡ true
  named_within known IntNumber s e kind all h = absurd kind
  named_within known Mode s e kind all h = absurd kind
  named_within known Passed s (tree.Variable x) kind all h = passed_name_within known x (record { ty = s; index = h.0 }) all h.1
  named_within known Passed s e kind all h = absurd h
  named_within known p s (tree.Variable x) kind all h = name_within known x (record { ty = s; index = h.0 }) all h.1
  named_within known p s e kind all h = absurd h

  field_within : (known : Known) (e : Expr) → AllThere known → FieldFits known e → operand_within slots (operand_code known (FieldID, tree.Value e)) ≡ true
  field_within known (tree.Named constants.Null) all h = refl
  field_within known (tree.Variable x) all h = name_within known x (record { ty = FieldId; index = h.0 }) all h.1
  field_within known e all h = absurd h

  method_within : (known : Known) (e : Expr) → AllThere known → MethodFits known e → operand_within slots (operand_code known (MethodID, tree.Value e)) ≡ true
  method_within known (tree.Named constants.Null) all h = refl
  method_within known (tree.Variable x) all h = name_within known x (record { ty = MethodId; index = h.0 }) all h.1
  method_within known e all h = absurd h

  array_within : (known : Known) (t : ElementType) (e : Expr) → AllThere known → ArrayFits known t e → operand_within slots (operand_code known (ArrayVariable t, tree.Value e)) ≡ true
  array_within known t (tree.Variable x) all h = name_within known x (record { ty = Array t h.0; index = h.1 }) all h.2
  array_within known t e all h = absurd h

  buffer_within : (known : Known) (access : Access) (e : Expr) → AllThere known → BufferFits known access e → operand_within slots (operand_code known (BufferVariable access, tree.Value e)) ≡ true
  buffer_within known access (tree.Variable x) all h = name_within known x h.0 all h.1
  buffer_within known access e all h = absurd h

  operand_fits : (known : Known) (p : ParameterKind) (a : Argument) → AllThere known → ArgumentFits known p a → operand_within slots (operand_code known (p, a)) ≡ true
  operand_fits known IntNumber (tree.Value e) all h = refl
  operand_fits known FieldID (tree.Value e) all h = field_within known e all h
  operand_fits known MethodID (tree.Value e) all h = method_within known e all h
  operand_fits known Passed (tree.Value e) all h = passed_within known e all h
  operand_fits known TextBytes (tree.Text bytes) all h = refl
  operand_fits known TextBytes (tree.Value e) all h = absurd h
  operand_fits known (ArrayVariable t) (tree.Value e) all h = array_within known t e all h
  operand_fits known (BufferVariable access) (tree.Value e) all h = buffer_within known access e all h
  operand_fits known Mode (tree.Value e) all h = refl
  operand_fits known IsCopy (tree.Value e) all h = ap (λ (d : Expr). operand_within slots (operand_code known (IsCopy, tree.Value d))) h
  operand_fits known IsCopy (tree.AddressOf x) all h = ap (λ (o : Option Slot). operand_within slots (address_operand o)) h.1 ∙ lt-ltb h.0 slots.numbers (all x (record { ty = types.Flag; index = h.0 }) h.1)
  operand_fits known LocalVariable (tree.Value e) all h = named_within known LocalVariable Ref e tt all h
  operand_fits known StaticVariable (tree.Value e) all h = named_within known StaticVariable Global e tt all h
  operand_fits known WeakVariable (tree.Value e) all h = named_within known WeakVariable Weak e tt all h
  operand_fits known AnyReference (tree.Value e) all h = any_within known e all h
  operand_fits known p (tree.Value e) all h = reference_within known p e tt all h
  operand_fits known p a all h = absurd h

  number_within : (s : ExprType) (i : ℕ) → ((s ≡ Jint) ⊎ (s ≡ Ref) ⊎ (s ≡ Global)) → IndexWithin slots s i → AllWithin (number_code s i)
  number_within s i (inl e) h = subst (λ (r : ExprType). IndexWithin slots r i → AllWithin (number_code r i)) (sym e) (λ k. load_within i k) h
  number_within s i (inr (inl e)) h = subst (λ (r : ExprType). AllWithin (number_code r i)) (sym e) refl
  number_within s i (inr (inr e)) h = subst (λ (r : ExprType). AllWithin (number_code r i)) (sym e) refl

  passed_code_within : (known : Known) (line : ℕ) (e : Expr) → AllThere known → PassedFits known e → AllWithin (passed_rest known line e)
  passed_code_within known line (tree.Named constants.Null) all h = refl
  passed_code_within known line (tree.Variable x) all h = subst AllWithin (sym (ap (of_slot number_code) h.1)) (number_within h.0.ty h.0.index h.2 (all x h.0 h.1))
  passed_code_within known line e all h = term_within known line all h.ty

  argument_within : (known : Known) (line : ℕ) (p : ParameterKind) (a : Argument) → AllThere known → ArgumentFits known p a → AllWithin (argument_code known line (p, a))
  argument_within known line IntNumber (tree.Value e) all h = term_within known line all h.ty
  argument_within known line IntNumber a all h = absurd h
  argument_within known line Passed (tree.Value e) all h = passed_code_within known line e all h
  argument_within known line Passed a all h = absurd h
  argument_within known line p a all h = refl

  operands_fit : (known : Known) (parameters : List ParameterKind) (arguments : List Argument) → AllThere known → AllZip (ArgumentFits known) parameters arguments → list_all (operand_within slots) (map (operand_code known) (zip parameters arguments)) ≡ true
  operands_fit known [] [] all h = refl
  operands_fit known [] (a ∷ arguments) all h = absurd h
  operands_fit known (p ∷ parameters) [] all h = absurd h
  operands_fit known (p ∷ parameters) (a ∷ arguments) all h = rw (operand_fits known p a all h.0, operands_fit known parameters arguments all h.1) refl

  arguments_within : (known : Known) (line : ℕ) (parameters : List ParameterKind) (arguments : List Argument) → AllThere known → AllZip (ArgumentFits known) parameters arguments → AllWithin (arguments_code known line (zip parameters arguments))
  arguments_within known line [] [] all h = refl
  arguments_within known line [] (a ∷ arguments) all h = absurd h
  arguments_within known line (p ∷ parameters) [] all h = absurd h
  arguments_within known line (p ∷ parameters) (a ∷ arguments) all h =
      both_within (argument_code known line (p, a)) (arguments_code known line (zip parameters arguments)) (argument_within known line p a all h.0) (arguments_within known line parameters arguments all h.1)

  call_within : (known : Known) (line : ℕ) (target : Target) (c : Call) → target_within slots target ≡ true → AllThere known → CallFits known c → AllWithin (named_call_code known line target (function_named c.function) c.arguments)
  call_within known line target c there all h =
      let parameters = parameters_for h.function (length c.arguments) in
      let call : AllWithin (instr.Call (record { line = line; target = target; function = h.function; operands = map (operand_code known) (zip parameters c.arguments); texts = arguments_texts c.arguments }) ∷ []) = rw (there, operands_fit known parameters c.arguments all h.arguments) refl in
      subst (λ o. AllWithin (named_call_code known line target o c.arguments)) (sym h.named) (both_within (arguments_code known line (zip parameters c.arguments)) _ (arguments_within known line parameters c.arguments all h.arguments) call)

  value_within : (known : Known) (line : ℕ) (kind : ExprType) (i : ℕ) (e : Expr) → AllThere known → IndexWithin slots kind i → ValueFits known kind e → AllWithin (value_code known line (record { ty = kind; index = i }) e)
  value_within known line types.Word i e all there fits = subst AllWithin (sym (value_is known line (record { ty = types.Word; index = i }) e types.Word fits)) (taken_within known line (term_of e) types.Word (instr.Store i) all fits (lt-ltb i slots.numbers there))
  value_within known line Jint i e all there fits = subst AllWithin (sym (value_is known line (record { ty = Jint; index = i }) e Jint fits)) (taken_within known line (term_of e) Jint (instr.Store i) all fits (lt-ltb i slots.numbers there))
  value_within known line types.Flag i e all there fits = subst AllWithin (sym (value_is known line (record { ty = types.Flag; index = i }) e types.Flag fits)) (taken_within known line (term_of e) types.Flag (instr.Store i) all fits (lt-ltb i slots.numbers there))
  value_within known line types.Truth i e all there fits = absurd fits
  value_within known line Ref i e all there fits = subst (λ (d : Expr). AllWithin (value_code known line (record { ty = Ref; index = i }) d)) (sym fits) (rw (lt-ltb i slots.references there) refl)
  value_within known line Global i e all there fits = subst (λ (d : Expr). AllWithin (value_code known line (record { ty = Global; index = i }) d)) (sym fits) (rw (lt-ltb i slots.statics there) refl)
  value_within known line Weak i e all there fits = subst (λ (d : Expr). AllWithin (value_code known line (record { ty = Weak; index = i }) d)) (sym fits) (rw (lt-ltb i slots.statics there) refl)
  value_within known line FieldId i e all there fits = subst (λ (d : Expr). AllWithin (value_code known line (record { ty = FieldId; index = i }) d)) (sym fits) (rw (lt-ltb i slots.field_ids there) refl)
  value_within known line MethodId i e all there fits = subst (λ (d : Expr). AllWithin (value_code known line (record { ty = MethodId; index = i }) d)) (sym fits) (rw (lt-ltb i slots.field_ids there) refl)
  value_within known line (Buffer t w) i e all there fits = subst (λ (d : Expr). AllWithin (value_code known line (record { ty = Buffer t w; index = i }) d)) (sym fits) (rw (lt-ltb i slots.buffers there) refl)
  value_within known line (Array t n) i e all there fits = absurd fits

  -- the slot of a result is there
  target_there : (gives : ResultKind) (s : ExprType) (i : ℕ) → ResultFits s gives → IndexWithin slots s i → target_within slots (result_target s i) ≡ true
  target_there GivesInt s i e there = subst (λ (k : ExprType). IndexWithin slots k i → target_within slots (result_target k i) ≡ true) (sym e) (λ h. lt-ltb i slots.numbers h) there
  target_there GivesFlag s i e there = subst (λ (k : ExprType). IndexWithin slots k i → target_within slots (result_target k i) ≡ true) (sym e) (λ h. lt-ltb i slots.numbers h) there
  target_there NewLocal s i e there = subst (λ (k : ExprType). IndexWithin slots k i → target_within slots (result_target k i) ≡ true) (sym e) (λ h. lt-ltb i slots.references h) there
  target_there NewGlobal s i e there = subst (λ (k : ExprType). IndexWithin slots k i → target_within slots (result_target k i) ≡ true) (sym e) (λ h. lt-ltb i slots.statics h) there
  target_there NewWeak s i e there = subst (λ (k : ExprType). IndexWithin slots k i → target_within slots (result_target k i) ≡ true) (sym e) (λ h. lt-ltb i slots.statics h) there
  target_there GivesField s i e there = subst (λ (k : ExprType). IndexWithin slots k i → target_within slots (result_target k i) ≡ true) (sym e) (λ h. lt-ltb i slots.field_ids h) there
  target_there GivesMethod s i e there = subst (λ (k : ExprType). IndexWithin slots k i → target_within slots (result_target k i) ≡ true) (sym e) (λ h. lt-ltb i slots.field_ids h) there
  target_there (GivesBuffer access) s i e there =
      let is = buffer_type access s e in
      subst (λ (k : ExprType). IndexWithin slots k i → target_within slots (result_target k i) ≡ true) (sym is.2) (λ h. lt-ltb i slots.buffers h) there
  target_there GivesNothing s i e there = absurd e

  right_within : (known : Known) (line : ℕ) (s : Slot) (r : RightSide) → AllThere known → IndexWithin slots s.ty s.index → RightFits known s.ty r → AllWithin (right_code known line s r)
  right_within known line s (FromExpr e) all there fits = value_within known line s.ty s.index e all there fits
  right_within known line s (FromCall c) all there fits = call_within known line (result_target s.ty s.index) c (target_there (prototype fits.fits.function).result s.ty s.index fits.result there) all fits.fits

  return_within : (known : Known) (line : ℕ) (t : Term) → AllThere known → ReturnFits known t → AllWithin (return_code known line t)
  return_within known line (term.Named constants.Null) all fits = refl
  return_within known line (Read x) all (s, found, inl e) =
      let there : lookup x known ≡ Some (record { ty = Ref; index = s.index }) = found ∙ ap (λ (r : ExprType). Some (record { ty = r; index = s.index })) e in
      subst AllWithin (sym (ap (of_slot returned_code) there)) (rw (lt-ltb s.index slots.references (all x (record { ty = Ref; index = s.index }) there)) refl)
  return_within known line (Read x) all (s, found, inr e) =
      let there : lookup x known ≡ Some (record { ty = Jint; index = s.index }) = found ∙ ap (λ (r : ExprType). Some (record { ty = r; index = s.index })) e in
      subst AllWithin (sym (ap (of_slot returned_code) there)) (rw (lt-ltb s.index slots.numbers (all x (record { ty = Jint; index = s.index }) there)) refl)
  return_within known line t all fits = taken_within known line t Jint instr.ReturnJint all fits refl

  test_within : (known : Known) (line : ℕ) (test : Test) → AllThere known → TestFits known test → AllWithin (test_code known line test)
  test_within known line (TestExpr e) all fits = term_within known line all fits.ty
  test_within known line (TestCall c) all fits = call_within known line destination.Test c refl all fits.fits

  if_within : (known : Known) (line : ℕ) (test : Test) (then' else' : List Instr) → AllThere known → TestFits known test → AllWithin then' → AllWithin else' → AllWithin (if_code known line test then' else')
  if_within known line test then' else' all fits h k =
      let second = both_within else' (instr.Jump 0 ∷ []) k refl in
      both_within (test_code known line test) (paths_code then' (else' ++ instr.Jump 0 ∷ [])) (test_within known line test all fits)
      (cons_within (instr.JumpIfFalse (length then' + 1)) (then' ++ instr.Jump (length (else' ++ instr.Jump 0 ∷ [])) ∷ (else' ++ instr.Jump 0 ∷ [])) refl
      (both_within then' (instr.Jump (length (else' ++ instr.Jump 0 ∷ [])) ∷ (else' ++ instr.Jump 0 ∷ [])) h (cons_within (instr.Jump (length (else' ++ instr.Jump 0 ∷ []))) (else' ++ instr.Jump 0 ∷ []) refl second)))

  write_within : (l : Layout) (line : ℕ) (x : Identifier) (i e : Expr) → AllThere l.known → StmtFits l (tree.Plain line (tree.AssignElement x i e)) → AllWithin (stmt_code l (tree.Plain line (tree.AssignElement x i e)))
  write_within l line x i e all fits =
      both_within (expr_code l.known line i) (expr_code l.known line e ++ of_slot (write_code line) (lookup x l.known)) (term_within l.known line all fits.1.2.ty)
      (both_within (expr_code l.known line e) (of_slot (write_code line) (lookup x l.known)) (term_within l.known line all fits.2.ty)
      (subst AllWithin (sym (ap (of_slot (write_code line)) fits.0.1)) (written_within line fits.0.0.ty fits.0.0.index fits.0.2 (all x fits.0.0 fits.0.1))))

  -- the new slot of a declaration is there
  new_there : (s : ExprType) (l : Layout) (x : Identifier) → SizeFits s → IsLaidOut l.known l.slots → HasRoomFor slots (slots_after s l.slots) → IndexWithin slots s (next_index s l.slots)
  new_there s l x size laid room = (declared_slot (record { instrs = []; slots = slots }) s l x size laid room).within

  all_there : (l : Layout) → IsLaidOut l.known l.slots → HasRoomFor slots l.slots → AllThere l.known
  all_there l laid room x s at = index_more l.slots slots s.ty s.index (room_at_least slots l.slots room) (laid.within x s at)

  mutual
    stmt_within : (s : Stmt) (l : Layout) → StmtFits l s → IsLaidOut l.known l.slots → HasRoomFor slots (layout_after l s).slots → AllThere l.known → AllWithin (stmt_code l s)
    stmt_within (tree.Plain line (tree.Declare t x r)) l fits laid room all = right_within l.known line (new_slot (declared_type t) l) r all (new_there (declared_type t) l x (declared_size t) laid room) fits.1
    stmt_within (tree.Plain line (tree.DeclareArray t x size)) l fits laid room all =
        let there = new_there (Array t size) l x (fits.1, fits.2) laid room in
        rw (lt-ltb 0 size there.0, le-leb size 1024 there.1, le-leb (l.slots.numbers + size) slots.numbers there.2) refl
    stmt_within (tree.Plain line (tree.Assign x r)) l fits laid room all = subst (λ (o : Option Slot). AllWithin (assign_code l.known line o r)) (sym fits.1) (right_within l.known line fits.0 r all (all x fits.0 fits.1) fits.2)
    stmt_within (tree.Plain line (tree.AssignElement x i e)) l fits laid room all = write_within l line x i e all fits
    stmt_within (tree.Plain line (tree.Perform c)) l fits laid room all = call_within l.known line destination.Dropped c refl all fits.fits
    stmt_within (tree.Plain line (tree.PutJint e)) l fits laid room all = taken_within l.known line (term_of e) Jint instr.PutJint all fits refl
    stmt_within (tree.If line test then' tree.NoElse) l fits laid room all = if_within l.known line test (block_code l then') [] all fits.0 (block_within then' l fits.1 laid room) refl
    stmt_within (tree.If line test then' (tree.ElseBlock else')) l fits laid room all =
        let first = closed l (block_layout l then') in
        if_within l.known line test (block_code l then') (block_code first else') all fits.0
        (block_within then' l fits.1 laid (room_before slots first.slots (block_layout first else').slots (block_grows else' first) room))
        (block_within else' first fits.2 (laid_more l.known l.slots first.slots (block_grows then' l) laid) room)
    stmt_within (tree.While line test body) l fits laid room all =
        let T = expr_code l.known line test in
        let B = block_code l body in
        let back = instr.JumpBack (length T + 1 + length B) in
        both_within T (turn_code T B) (term_within l.known line all fits.0.ty)
        (cons_within (instr.JumpIfFalse (length B + 1)) (B ++ back ∷ []) refl (both_within B (back ∷ []) (block_within body l fits.1 laid room) refl))
    stmt_within (tree.Return line None) l fits laid room all = refl
    stmt_within (tree.Return line (Some e)) l fits laid room all = return_within l.known line (term_of e) all fits

    pub block_within : (b : Block) (l : Layout) → BlockFits l b → IsLaidOut l.known l.slots → HasRoomFor slots (block_layout l b).slots → AllWithin (block_code l b)
    block_within (End line) l fits laid room = refl
    block_within (Next s rest) l fits laid room =
        let next = layout_after l s in
        let enough = room_before slots next.slots (block_layout next rest).slots (block_grows rest next) room in
        let before = room_before slots l.slots next.slots (stmt_grows s l) enough in
        both_within (stmt_code l s) (block_code next rest) (stmt_within s l fits.0 laid enough (all_there l laid before)) (block_within rest next fits.1 (laid_after s l fits.0 laid) room)
