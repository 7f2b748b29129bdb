-- The code of a block stands for its statements, wherever it is.
use Rattle.code.specs.declared.instr.Instr.{Instr}
use Rattle.code.specs.Call as calls
use Rattle.lower.proofs.CallOperands.{untouched_are_begun, untouched_are_held}
use Rattle.std.specs.Prelude.{zip, None}
use Rattle.std.specs.List.{AllZip}
use Rattle.std.proofs.Common.{◌≡◌, ℕ, ◌+◌, ◌⊎◌, inl, inr, Bool, true, List, [], ◌∷◌, ◌++◌, length, Option, Some, refl, sym, ap, ◌∙◌, subst, arith, length-append, map, suc}
use Rattle.base.specs.Bytes.{Identifier, lookup}
use Rattle.base.specs.declared.element.ElementType.{ElementType}
use Rattle.syntax.specs.declared.declared_type.DeclaredType.{DeclaredType}
use Rattle.syntax.specs.declared.declared_type.DeclaredType.TheVariants.{Simple, Pointer, ConstChars}
use Rattle.syntax.specs.Tree as tree
use Rattle.syntax.specs.declared.declared_type.VariableType.TheVariants as variables
use Rattle.syntax.specs.declared.expr.Constant.TheVariants as constants
use Rattle.syntax.specs.declared.declared_type.VariableType.{VariableType}
use Rattle.syntax.specs.declared.expr.BinaryOp.TheVariants.{BitOr}
use Rattle.syntax.specs.Tree.{Expr, Argument, RightSide, FromExpr, FromCall, Test, TestExpr, TestCall, Stmt, Block, End, Next, Call}
use Rattle.jni.specs.declared.access.Access.{Access}
use Rattle.jni.specs.declared.access.Access.TheVariants.{ElementsCopy, ArrayView, CharsCopy, CharsView}
use Rattle.jni.specs.JniFunction.{function_named, prototype, parameters_for}
use Rattle.jni.specs.declared.kinds.ParameterKind.{ParameterKind}
use Rattle.jni.specs.declared.kinds.ParameterKind.TheVariants.{LocalVariable, StaticVariable, FieldID, MethodID, Passed, IntNumber, TextBytes, ArrayVariable, BufferVariable, Mode, IsCopy, AnyReference, WeakVariable}
use Rattle.jni.specs.declared.kinds.ResultKind.{ResultKind}
use Rattle.jni.specs.declared.kinds.ResultKind.TheVariants.{NewLocal, NewGlobal, GivesFlag, GivesInt, GivesField, GivesMethod, GivesBuffer, GivesNothing, NewWeak}
use Rattle.type_rules.specs.declared.ty.ExprType.{ExprType}
use Rattle.type_rules.specs.declared.ty.ExprType.TheVariants.{Jint, Ref, Global, Weak, FieldId, MethodId, Buffer, Array}
use Rattle.type_rules.specs.ExprTypes.{is_buffer_for}
use Rattle.type_rules.specs.declared.ty.ExprType.TheVariants as types
use Rattle.type_rules.specs.TypeRules.{variable_type, declared_type}
use Rattle.type_rules.specs.TypeGroups.{IsNumberType}
use Rattle.type_rules.proofs.CallParameters.{parameters_count}
use Rattle.code.specs.declared.instr.Target.{Target as Destination}
use Rattle.code.specs.declared.instr.NullableVariable.{NullableVariable}
use Rattle.code.specs.declared.instr.NullableVariable.TheVariants as nullable
use Rattle.code.specs.declared.instr.Target.TheVariants as destination
use Rattle.code.specs.declared.instr.Instr.TheVariants as instr
use Rattle.code.specs.Depth.{Listing}
use Rattle.code.specs.Effect.{truth_word}
use Rattle.semantics.specs.declared.value.Value.TheVariants.{Truth}
use Rattle.semantics.specs.Term as term
use Rattle.semantics.specs.Term.{Term, Done, Read, Binary, term_of}
use Rattle.semantics.specs.declared.variable_kind.VariableKind.{VariableKind}
use Rattle.semantics.specs.declared.variable_kind.VariableKind.TheVariants as kinds
use Rattle.semantics.specs.Task.{Task, SetScalar, Branch, ReturnValue, Target, Declared, Assigned, Tested, Dropped, variable_kind, kind_of, set_task, invocation, call_task, right_side_task, if_task, task_of, tasks_of, operand, passed_operand, PassedName, Given, Operand}
use Rattle.code_meaning.specs.Layout.{Slot, Known, Layout, new_slot, closed, layout_after, block_layout}
use Rattle.code_meaning.specs.Coding.{nullable_of, store_of, write_code, of_slot, operand_of, passed_variable, passed_code, passed_rest, address_operand, term_code, expr_code, value_code, right_code, assign_code, returned_code, return_code, paths_code, turn_code, loop_code, if_code, stmt_code, block_code, named_call_code, operand_code, argument_code, arguments_code, argument_text, arguments_texts, result_target}
use Rattle.code_meaning.specs.Slots as value
use Rattle.code_meaning.specs.Fits as rule
use Rattle.code_meaning.specs.Fits.{HasElements, IsUntouched, NumberFits, IndexWithin, IsLaidOut, HaveOwnSlots, HasRoomFor, IsVariable, TakesLocal, TakesGlobal, NameFits, ArrayFits, BufferFits, ArgumentFits, ValueFits, RightFits, TestFits, ReturnFits, StmtFits, BlockFits, CallFits, ReferenceFits, FieldFits, MethodFits, PassedFits, ResultFits, AnyReferenceFits, IsStaticType}
use Rattle.code_meaning.specs.Stands.{held, IsBegun, IsUnderWay, HasAt, AreAmong, IsSlotOf, kind_of_type, GoesTo, ResultStands, ResultGoes, StaticStands, TargetStands, operand_text, operands_texts, target_name, BlockStands, TasksStand, named_operand, OperandStands, AreUntouched, operand_rest, operands_rest}
use Rattle.code_meaning.proofs.SlotLaws.{known_among, known_again, all_among}
use Rattle.lower.proofs.CodePlaces.{has_front, has_back}
use Rattle.lower.proofs.TermSteps.{untouched_held, untouched_begun}
use Rattle.lower.proofs.Layouts.{block_grows, room_before, room_at_least, index_more, laid_more, declared_slot, declared_size, laid_after, known_after_stmt}

-- ---- expressions

pub number_begins : (known : Known) (t : Term) (s : ExprType) → NumberFits known t s → IsUnderWay known s t []
number_begins known t s h = record { ty = h.ty; begun = untouched_begun t h.untouched; operands = sym (untouched_held t h.untouched) }

-- a number for a variable is worked out before the variable is set
set_is : (known : Known) (line : ℕ) (target : Target) (x : Identifier) (e : Expr) (s : ExprType) → NumberFits known (term_of e) s → set_task line target x e ≡ SetScalar line x (term_of e)
set_is known line target x (tree.Named constants.Null) s h = elim h.ty [ ]
set_is known line target x e s h = refl

pub value_is : (known : Known) (line : ℕ) (slot : Slot) (e : Expr) (s : ExprType) → NumberFits known (term_of e) s → value_code known line slot e ≡ expr_code known line e ++ instr.Store slot.index ∷ []
value_is known line slot (tree.Named constants.Null) s h = elim h.ty [ ]
value_is known line slot e s h = refl

-- a buffer for an access is a buffer
pub buffer_type : (access : Access) (s : ExprType) → is_buffer_for access (Some s) ≡ true → (t : ElementType) × (writable : Bool) × (s ≡ Buffer t writable)
buffer_type access (Buffer t writable) h = (t, writable, refl)
buffer_type (ElementsCopy t) s h = absurd (cc)
buffer_type ArrayView s h = absurd (cc)
buffer_type CharsCopy s h = absurd (cc)
buffer_type CharsView s h = absurd (cc)

-- ---- right sides

-- The names known at the place, and what comes after: the rest of the tasks, where these names are known.
module _ (code : Listing) (known : Known) (line place : ℕ) (tail : List Task) where
  number_set : (target : Target) (x : Identifier) (slot : Slot) (e : Expr) (names : Known) → IsNumberType slot.ty → NumberFits known (term_of e) slot.ty → HasAt code.instrs place (value_code known line slot e) → IsSlotOf code known x slot → AreAmong names ((x, slot) ∷ known)
      → TasksStand code names (place + length (value_code known line slot e)) [] tail → TasksStand code known place [] (set_task line target x e ∷ tail)
  number_set target x slot e names n fits at own among further =
      let is = value_is known line slot e slot.ty fits in
      let size : place + length (value_code known line slot e) ≡ place + length (expr_code known line e) + 1 = omega (arith, ap length is, length-append (expr_code known line e) (instr.Store slot.index ∷ [])) in
      subst (λ task. TasksStand code known place [] (task ∷ tail)) (sym (set_is known line target x e slot.ty fits)) (record {
        slot = slot;
        number = n;
        value = (number_begins known (term_of e) slot.ty fits, subst (HasAt code.instrs place) is at);
        own = own;
        further = (names, among, subst (λ p. TasksStand code names p [] tail) size further);
      })

  null_set : (target : Target) (x : Identifier) (slot : Slot) (e : Expr) (variable : NullableVariable) (names : Known) → e ≡ tree.Named constants.Null → nullable_of slot.ty slot.index ≡ Some variable → target_name target ≡ Some x → GoesTo known slot target → HasAt code.instrs place (value_code known line slot e)
      → IsSlotOf code known x slot → AreAmong names ((x, slot) ∷ known) → TasksStand code names (place + length (value_code known line slot e)) [] tail → TasksStand code known place [] (set_task line target x e ∷ tail)
  null_set target x slot e variable names null same name goes at own among further =
      let is : value_code known line slot e ≡ instr.StoreNull variable ∷ [] = ap (λ (d : Expr). value_code known line slot d) null ∙ ap store_of same in
      let there = subst (HasAt code.instrs place) is at in
      let size : place + length (value_code known line slot e) ≡ place + 1 = omega (arith, ap length is) in
      subst (λ (d : Expr). TasksStand code known place [] (set_task line target x d ∷ tail)) (sym null) (record {
        empty = refl;
        name = x;
        is = name;
        slot = slot;
        variable = variable;
        nullable = same;
        takes = goes;
        at = there.0;
        own = own;
        further = (names, among, subst (λ p. TasksStand code names p [] tail) size further);
      })

  value_set : (target : Target) (x : Identifier) (kind : ExprType) (i : ℕ) (e : Expr) (names : Known) → ValueFits known kind e → target_name target ≡ Some x → GoesTo known (record { ty = kind; index = i }) target → HasAt code.instrs place (value_code known line (record { ty = kind; index = i }) e) → IsSlotOf code known x (record { ty = kind; index = i })
      → AreAmong names ((x, record { ty = kind; index = i }) ∷ known) → TasksStand code names (place + length (value_code known line (record { ty = kind; index = i }) e)) [] tail → TasksStand code known place [] (set_task line target x e ∷ tail)
  value_set target x types.Word i e names fits name goes at own among further = number_set target x (record { ty = types.Word; index = i }) e names tt fits at own among further
  value_set target x Jint i e names fits name goes at own among further = number_set target x (record { ty = Jint; index = i }) e names tt fits at own among further
  value_set target x types.Flag i e names fits name goes at own among further = number_set target x (record { ty = types.Flag; index = i }) e names tt fits at own among further
  value_set target x types.Truth i e names fits name goes at own among further = absurd fits
  value_set target x Ref i e names fits name goes at own among further = null_set target x (record { ty = Ref; index = i }) e (nullable.Local i) names fits refl name goes at own among further
  value_set target x Global i e names fits name goes at own among further = null_set target x (record { ty = Global; index = i }) e (nullable.Static i) names fits refl name goes at own among further
  value_set target x Weak i e names fits name goes at own among further = null_set target x (record { ty = Weak; index = i }) e (nullable.Static i) names fits refl name goes at own among further
  value_set target x FieldId i e names fits name goes at own among further = null_set target x (record { ty = FieldId; index = i }) e (nullable.FieldId i) names fits refl name goes at own among further
  value_set target x MethodId i e names fits name goes at own among further = null_set target x (record { ty = MethodId; index = i }) e (nullable.FieldId i) names fits refl name goes at own among further
  value_set target x (Buffer t w) i e names fits name goes at own among further = null_set target x (record { ty = Buffer t w; index = i }) e (nullable.Buffer i) names fits refl name goes at own among further
  value_set target x (Array t n) i e names fits name goes at own among further = absurd fits

  -- an argument is found where the instruction says
  local_stands : (p : ParameterKind) (x : Identifier) (i : ℕ) → TakesLocal p → lookup x known ≡ Some (record { ty = Ref; index = i }) → OperandStands known (operand_of (lookup x known)) (p, named_operand p x)
  local_stands p x i kind there = subst (λ o. OperandStands known (operand_of o) (p, named_operand p x)) (sym there) (x, kind, refl, there)

  static_stands : (p : ParameterKind) (x : Identifier) (s : ExprType) (i : ℕ) → IsStaticType s → TakesGlobal p → lookup x known ≡ Some (record { ty = s; index = i }) → OperandStands known (operand_of (lookup x known)) (p, named_operand p x)
  static_stands p x Global i is kind there = subst (λ o. OperandStands known (operand_of o) (p, named_operand p x)) (sym there) (x, kind, refl, (Global, tt, there))
  static_stands p x Weak i is kind there = subst (λ o. OperandStands known (operand_of o) (p, named_operand p x)) (sym there) (x, kind, refl, (Weak, tt, there))
  static_stands p x s i is kind there = absurd is

  reference_stands : (p : ParameterKind) (x : Identifier) (s : Slot) → TakesLocal p → TakesGlobal p → lookup x known ≡ Some s → ((s.ty ≡ Ref) ⊎ (s.ty ≡ Global)) → OperandStands known (operand_of (lookup x known)) (p, named_operand p x)
  reference_stands p x s local global found (inl e) = local_stands p x s.index local (found ∙ ap (λ (r : ExprType). Some (record { ty = r; index = s.index })) e)
  reference_stands p x s local global found (inr e) = static_stands p x Global s.index tt global (found ∙ ap (λ (r : ExprType). Some (record { ty = r; index = s.index })) e)

  -- a reference of any kind is found there too
  any_found : (e : Expr) → AnyReferenceFits known e → OperandStands known (operand_code known (AnyReference, tree.Value e)) (AnyReference, operand (AnyReference, tree.Value e))
  any_found (tree.Named constants.Null) h = record { kind = tt; is = refl }
  any_found (tree.Variable x) (s, found, inl e) = local_stands AnyReference x s.index tt (found ∙ ap (λ (r : ExprType). Some (record { ty = r; index = s.index })) e)
  any_found (tree.Variable x) (s, found, inr is) = static_stands AnyReference x s.ty s.index is tt found
  any_found e h = absurd h

  -- a parameter that takes no number
  abbrev TakesNoNumber : ParameterKind → Type 0
  TakesNoNumber Passed = ⊥
  TakesNoNumber p = Unit {0}

  reference_found : (p : ParameterKind) (e : Expr) → TakesLocal p → TakesGlobal p → TakesNoNumber p → ReferenceFits known e → OperandStands known (operand_code known (p, tree.Value e)) (p, operand (p, tree.Value e))
  reference_found IntNumber e local global plain h = absurd local
  reference_found FieldID e local global plain h = absurd local
  reference_found MethodID e local global plain h = absurd local
  reference_found Passed e local global plain h = absurd plain
  reference_found Mode e local global plain h = absurd local
  reference_found IsCopy e local global plain h = absurd local
  reference_found StaticVariable e local global plain h = absurd local
  reference_found WeakVariable e local global plain h = absurd local
  reference_found LocalVariable e local global plain h = absurd global
  reference_found p (tree.Named constants.Null) local global plain h = record { kind = local; is = refl }
  reference_found p (tree.Variable x) local global plain h = reference_stands p x h.0 local global h.1 h.2
  reference_found p e local global plain h = absurd h

  local_found : (e : Expr) → NameFits known Ref e → OperandStands known (operand_code known (LocalVariable, tree.Value e)) (LocalVariable, Given (tree.Value e))
  local_found (tree.Variable x) h = local_stands LocalVariable x h.0 tt h.1
  local_found e h = absurd h

  static_found : (e : Expr) → NameFits known Global e → OperandStands known (operand_code known (StaticVariable, tree.Value e)) (StaticVariable, Given (tree.Value e))
  static_found (tree.Variable x) h = static_stands StaticVariable x Global h.0 tt tt h.1
  static_found e h = absurd h

  weak_found : (e : Expr) → NameFits known Weak e → OperandStands known (operand_code known (WeakVariable, tree.Value e)) (WeakVariable, Given (tree.Value e))
  weak_found (tree.Variable x) h = static_stands WeakVariable x Weak h.0 tt tt h.1
  weak_found e h = absurd h

  number_found : (e : Expr) → NumberFits known (term_of e) Jint → OperandStands known (operand_code known (IntNumber, tree.Value e)) (IntNumber, operand (IntNumber, tree.Value e))
  number_found e h = inl (record { kind = inl refl; term = term_of e; is = refl; ty = h.ty })

  field_found : (e : Expr) → FieldFits known e → OperandStands known (operand_code known (FieldID, tree.Value e)) (FieldID, Given (tree.Value e))
  field_found (tree.Named constants.Null) h = record { kind = tt; is = refl }
  field_found (tree.Variable x) h = subst (λ o. OperandStands known (operand_of o) (FieldID, Given (tree.Value (tree.Variable x)))) (sym h.1) (x, refl, refl, h.1)
  field_found e h = absurd h

  method_found : (e : Expr) → MethodFits known e → OperandStands known (operand_code known (MethodID, tree.Value e)) (MethodID, Given (tree.Value e))
  method_found (tree.Named constants.Null) h = record { kind = tt; is = refl }
  method_found (tree.Variable x) h = subst (λ o. OperandStands known (operand_of o) (MethodID, Given (tree.Value (tree.Variable x)))) (sym h.1) (x, refl, refl, h.1)
  method_found e h = absurd h

  -- a slot by its type
  slot_is : (x : Identifier) (s : Slot) (r : ExprType) → lookup x known ≡ Some s → s.ty ≡ r → lookup x known ≡ Some (record { ty = r; index = s.index })
  slot_is x s r found e = found ∙ ap (λ (q : ExprType). Some (record { ty = q; index = s.index })) e

  passed_name : (x : Identifier) (s : Slot) → lookup x known ≡ Some s → ((s.ty ≡ Jint) ⊎ (s.ty ≡ Ref) ⊎ (s.ty ≡ Global)) → OperandStands known (passed_variable (lookup x known)) (Passed, PassedName x)
  passed_name x s found (inl e) =
      let there = slot_is x s Jint found e in
      subst (λ o. OperandStands known (passed_variable o) (Passed, PassedName x)) (sym there) (inr (record { kind = refl; name = x; is = refl; there = (s.index, there, tt) }))
  passed_name x s found (inr (inl e)) =
      let there = slot_is x s Ref found e in
      subst (λ o. OperandStands known (passed_variable o) (Passed, PassedName x)) (sym there) (x, tt, refl, there)
  passed_name x s found (inr (inr e)) =
      let there = slot_is x s Global found e in
      subst (λ o. OperandStands known (passed_variable o) (Passed, PassedName x)) (sym there) (x, tt, refl, (Global, tt, there))

  passed_found : (e : Expr) → PassedFits known e → OperandStands known (passed_code known e) (Passed, passed_operand e)
  passed_found (tree.Named constants.Null) h = record { kind = tt; is = refl }
  passed_found (tree.Variable x) h = passed_name x h.0 h.1 h.2
  passed_found e h = inl (record { kind = inr refl; term = term_of e; is = refl; ty = h.ty })

  array_found : (t : ElementType) (e : Expr) → ArrayFits known t e → OperandStands known (operand_code known (ArrayVariable t, tree.Value e)) (ArrayVariable t, Given (tree.Value e))
  array_found t (tree.Variable x) h =
      subst (λ o. OperandStands known (operand_of o) (ArrayVariable t, Given (tree.Value (tree.Variable x)))) (sym h.2) (record { type = t; kind = refl; name = x; is = refl; there = h.2 })
  array_found t e h = absurd h

  buffer_found : (access : Access) (e : Expr) → BufferFits known access e → OperandStands known (operand_code known (BufferVariable access, tree.Value e)) (BufferVariable access, Given (tree.Value e))
  buffer_found access (tree.Variable x) h =
      let is = buffer_type access h.0.ty h.2 in
      let there : lookup x known ≡ Some (record { ty = Buffer is.0 is.1; index = h.0.index }) = h.1 ∙ ap (λ (r : ExprType). Some (record { ty = r; index = h.0.index })) is.2 in
      subst (λ o. OperandStands known (operand_of o) (BufferVariable access, Given (tree.Value (tree.Variable x)))) (sym there)
      (record { access = access; kind = refl; name = x; is = refl; type = is.0; writable = is.1; there = there })
  buffer_found access e h = absurd h

  address_found : (x : Identifier) → (h : IsVariable known x types.Flag) → OperandStands known (address_operand (lookup x known)) (IsCopy, Given (tree.AddressOf x))
  address_found x h = subst (λ o. OperandStands known (address_operand o) (IsCopy, Given (tree.AddressOf x))) (sym h.1) (record { kind = refl; name = x; is = refl; there = h.1 })

  argument_found : (p : ParameterKind) (a : Argument) → ArgumentFits known p a → OperandStands known (operand_code known (p, a)) (p, operand (p, a))
  argument_found IntNumber (tree.Value e) h = number_found e h
  argument_found FieldID (tree.Value e) h = field_found e h
  argument_found MethodID (tree.Value e) h = method_found e h
  argument_found Passed (tree.Value e) h = passed_found e h
  argument_found TextBytes (tree.Text bytes) h = record { kind = refl; bytes = bytes; is = refl }
  argument_found TextBytes (tree.Value e) h = absurd h
  argument_found (ArrayVariable t) (tree.Value e) h = array_found t e h
  argument_found (BufferVariable access) (tree.Value e) h = buffer_found access e h
  argument_found Mode (tree.Value e) h = record { kind = refl; written = e; is = refl; same = refl }
  argument_found IsCopy (tree.Value e) h = subst (λ (d : Expr). OperandStands known (operand_code known (IsCopy, tree.Value d)) (IsCopy, Given (tree.Value d))) (sym h) (record { kind = tt; is = refl })
  argument_found IsCopy (tree.AddressOf x) h = address_found x h
  argument_found LocalVariable (tree.Value e) h = local_found e h
  argument_found StaticVariable (tree.Value e) h = static_found e h
  argument_found WeakVariable (tree.Value e) h = weak_found e h
  argument_found AnyReference (tree.Value e) h = any_found e h
  argument_found p (tree.Value e) h = reference_found p e tt tt tt h
  argument_found p a h = absurd h

  arguments_found : (parameters : List ParameterKind) (arguments : List Argument) → AllZip (ArgumentFits known) parameters arguments
      → AllZip (OperandStands known) (map (operand_code known) (zip parameters arguments)) (zip parameters (map operand (zip parameters arguments)))
  arguments_found [] [] h = tt
  arguments_found [] (a ∷ arguments) h = absurd h
  arguments_found (p ∷ parameters) [] h = absurd h
  arguments_found (p ∷ parameters) (a ∷ arguments) h = (argument_found p a h.0, arguments_found parameters arguments h.1)

  -- its code is what is to be worked out
  passed_same : (e : Expr) → passed_rest known line e ≡ operand_rest known line (passed_operand e)
  passed_same (tree.Named constants.Null) = refl
  passed_same (tree.Variable x) = refl
  passed_same e = refl

  same_rest : (p : ParameterKind) (a : Argument) → argument_code known line (p, a) ≡ operand_rest known line (operand (p, a))
  same_rest IntNumber (tree.Value e) = refl
  same_rest IntNumber (tree.Text t) = refl
  same_rest IntNumber (tree.AddressOf x) = refl
  same_rest Passed (tree.Value e) = passed_same e
  same_rest Passed (tree.Text t) = refl
  same_rest Passed (tree.AddressOf x) = refl
  same_rest p a = refl

  all_rest : (given : List (ParameterKind × Argument)) → arguments_code known line given ≡ operands_rest known line (map operand given)
  all_rest [] = refl
  all_rest (g ∷ given) = ap (λ (l : List Instr). l ++ arguments_code known line given) (same_rest g.0 g.1) ∙ ap (λ (l : List Instr). operand_rest known line (operand (g.0, g.1)) ++ l) (all_rest given)

  -- no number of it has its value yet
  passed_untouched : (e : Expr) (operands : List Operand) → PassedFits known e → AreUntouched operands → AreUntouched (passed_operand e ∷ operands)
  passed_untouched (tree.Named constants.Null) operands h more = more
  passed_untouched (tree.Variable x) operands h more = more
  passed_untouched e operands h more = (h.untouched, more)

  one_untouched : (p : ParameterKind) (a : Argument) (operands : List Operand) → ArgumentFits known p a → AreUntouched operands → AreUntouched (operand (p, a) ∷ operands)
  one_untouched IntNumber (tree.Value e) operands h more = (h.untouched, more)
  one_untouched IntNumber a operands h more = absurd h
  one_untouched Passed (tree.Value e) operands h more = passed_untouched e operands h more
  one_untouched Passed a operands h more = absurd h
  one_untouched p a operands h more = more

  all_untouched : (parameters : List ParameterKind) (arguments : List Argument) → AllZip (ArgumentFits known) parameters arguments → AreUntouched (map operand (zip parameters arguments))
  all_untouched [] [] h = tt
  all_untouched [] (a ∷ arguments) h = absurd h
  all_untouched (p ∷ parameters) [] h = absurd h
  all_untouched (p ∷ parameters) (a ∷ arguments) h =
      one_untouched p a (map operand (zip parameters arguments)) h.0 (all_untouched parameters arguments h.1)

  -- its texts are those of its arguments
  passed_text : (e : Expr) → [] ≡ operand_text (passed_operand e)
  passed_text (tree.Named constants.Null) = refl
  passed_text (tree.Variable x) = refl
  passed_text e = refl

  one_text : (p : ParameterKind) (a : Argument) → argument_text a ≡ operand_text (operand (p, a))
  one_text IntNumber (tree.Value e) = refl
  one_text IntNumber (tree.Text bytes) = refl
  one_text IntNumber (tree.AddressOf x) = refl
  one_text Passed (tree.Value e) = passed_text e
  one_text Passed (tree.Text bytes) = refl
  one_text Passed (tree.AddressOf x) = refl
  one_text p (tree.Value e) = refl
  one_text p (tree.Text bytes) = refl
  one_text p (tree.AddressOf x) = refl

  all_texts : (parameters : List ParameterKind) (arguments : List Argument) → AllZip (ArgumentFits known) parameters arguments → arguments_texts arguments ≡ operands_texts (map operand (zip parameters arguments))
  all_texts [] [] h = refl
  all_texts [] (a ∷ arguments) h = absurd h
  all_texts (p ∷ parameters) [] h = absurd h
  all_texts (p ∷ parameters) (a ∷ arguments) h =
      ap (λ (l : List (List ℕ)). l ++ arguments_texts arguments) (one_text p a) ∙ ap (λ (l : List (List ℕ)). operand_text (operand (p, a)) ++ l) (all_texts parameters arguments h.1)

  -- there are as many arguments as parameters
  operand_count : (parameters : List ParameterKind) (arguments : List Argument) → AllZip (ArgumentFits known) parameters arguments → length (map operand (zip parameters arguments)) ≡ length parameters
  operand_count [] arguments h = refl
  operand_count (p ∷ parameters) [] h = absurd h
  operand_count (p ∷ parameters) (a ∷ arguments) h = ap (λ n. suc n) (operand_count parameters arguments h.1)

  -- what is to be worked out for a call is at the place, and then its instruction, and what comes after it
  call_stands : (target : Target) (goes : Destination) (c : Call) → HaveOwnSlots known → (fits : CallFits known c) → HasAt code.instrs place (named_call_code known line goes (function_named c.function) c.arguments)
      → TargetStands code known (λ p names. TasksStand code names p [] tail) (place + length (named_call_code known line goes (function_named c.function) c.arguments)) line goes (prototype fits.function).result target → TasksStand code known place [] (call_task line target c ∷ tail)
  call_stands target goes c own_slots fits at stands =
      let parameters = parameters_for fits.function (length c.arguments) in
      let given = zip parameters c.arguments in
      let call : calls.Call = record { line = line; target = goes; function = fits.function; operands = map (operand_code known) given; texts = arguments_texts c.arguments } in
      let rest : arguments_code known line given ≡ operands_rest known line (map operand given) = all_rest given in
      let here : HasAt code.instrs place (arguments_code known line given ++ instr.Call call ∷ []) = subst (λ o. HasAt code.instrs place (named_call_code known line goes o c.arguments)) fits.named at in
      let size : place + length (named_call_code known line goes (function_named c.function) c.arguments) ≡ place + length (operands_rest known line (map operand given)) + 1 =
      omega (arith, ap (λ o. length (named_call_code known line goes o c.arguments)) fits.named, length-append (arguments_code known line given) (instr.Call call ∷ []), ap length rest) in
      let untouched = all_untouched parameters c.arguments fits.arguments in
      let as_many : length c.arguments ≡ length (map operand given) = parameters_count fits.function (length c.arguments) fits.count ∙ sym (operand_count parameters c.arguments fits.arguments) in
      subst (λ o. TasksStand code known place [] (invocation line target c o ∷ tail)) (sym fits.named) (record {
        call = call;
        at = subst (λ (l : List Instr). HasAt code.instrs place (l ++ instr.Call call ∷ [])) rest here;
        same_line = refl;
        same_function = refl;
        begun = untouched_are_begun known (map operand given) untouched;
        held = sym (untouched_are_held (map operand given) untouched);
        texts = all_texts parameters c.arguments fits.arguments;
        count = subst (λ n. n ≡ length (parameters_for fits.function n)) as_many (parameters_count fits.function (length c.arguments) fits.count);
        operands_stand = subst (λ n. AllZip (OperandStands known) (map (operand_code known) given) (zip (parameters_for fits.function n) (map operand given))) as_many (arguments_found parameters c.arguments fits.arguments);
        own_slots = own_slots;
        goes = subst (λ p. TargetStands code known (λ q names. TasksStand code names q [] tail) p line goes (prototype fits.function).result target) size stands;
      })

  -- a variable takes the result, a new one or the one that has the slot
  result_goes : (p : ℕ) (kind : VariableKind) (s : Slot) (target : Target) (x : Identifier) → kind_of_type s.ty ≡ Some kind → target_name target ≡ Some x → GoesTo known s target → ResultStands code known (λ q names. TasksStand code names q [] tail) p s x
      → ResultGoes code known (λ q names. TasksStand code names q [] tail) p s kind target
  result_goes p kind s (Declared declared y) x is name goes stands =
      let same : x ≡ y = cc in
      let declared_is : declared ≡ kind = let e : Some declared ≡ Some kind = sym goes ∙ is in cc in
      (declared_is, subst (λ (z : Identifier). ResultStands code known (λ q names. TasksStand code names q [] tail) p s z) same stands)
  result_goes p kind s (Assigned y) x is name goes stands =
      let same : x ≡ y = cc in
      (subst (λ (z : Identifier). ResultStands code known (λ q names. TasksStand code names q [] tail) p s z) same stands, goes)
  result_goes p kind s target x is name goes stands = absurd goes

  -- a static that is known takes it
  static_goes : (p i : ℕ) (k : ExprType) (target : Target) (x : Identifier) → IsStaticType k → target_name target ≡ Some x → GoesTo known (record { ty = k; index = i }) target → ResultStands code known (λ q names. TasksStand code names q [] tail) p (record { ty = k; index = i }) x
      → StaticStands known (λ q names. TasksStand code names q [] tail) p i target
  static_goes p i Global (Declared kind y) x is name goes stands = absurd (cc)
  static_goes p i Weak (Declared kind y) x is name goes stands = absurd (cc)
  static_goes p i k (Declared kind y) x is name goes stands = absurd is
  static_goes p i k (Assigned y) x is name goes stands =
      let same : y ≡ x = cc in
      let slot : Slot = record { ty = k; index = i } in
      let found = subst (λ (z : Identifier). lookup z known ≡ Some slot) same goes in
      record { name = y; is = refl; there = (k, is, goes); further = (stands.further.0, λ z t at. known_again x slot known found z t (stands.further.1 z t at), stands.further.2) }
  static_goes p i k target x is name goes stands = absurd goes

  -- the slot is one of what the function gives
  abbrev ResultComes : (p i : ℕ) → ResultKind → Target → Identifier → ExprType → Type 0
  ResultComes p i gives target x s =
      GoesTo known (record { ty = s; index = i }) target → ResultStands code known (λ q names. TasksStand code names q [] tail) p (record { ty = s; index = i }) x
      → TargetStands code known (λ q names. TasksStand code names q [] tail) p line (result_target s i) gives target

  result_comes : (p i : ℕ) (gives : ResultKind) (target : Target) (x : Identifier) (s : ExprType) → target_name target ≡ Some x → ResultFits s gives → ResultComes p i gives target x s
  result_comes p i GivesInt target x s name e = subst (ResultComes p i GivesInt target x) (sym e) (λ goes stands. (Jint, refl, result_goes p kinds.Number (record { ty = Jint; index = i }) target x refl name goes stands))
  result_comes p i GivesFlag target x s name e = subst (ResultComes p i GivesFlag target x) (sym e) (λ goes stands. (types.Flag, refl, result_goes p kinds.Number (record { ty = types.Flag; index = i }) target x refl name goes stands))
  result_comes p i NewLocal target x s name e = subst (ResultComes p i NewLocal target x) (sym e) (λ goes stands. (refl, result_goes p kinds.Reference (record { ty = Ref; index = i }) target x refl name goes stands))
  result_comes p i NewGlobal target x s name e = subst (ResultComes p i NewGlobal target x) (sym e) (λ goes stands. (tt, static_goes p i Global target x tt name goes stands))
  result_comes p i NewWeak target x s name e = subst (ResultComes p i NewWeak target x) (sym e) (λ goes stands. (tt, static_goes p i Weak target x tt name goes stands))
  result_comes p i GivesField target x s name e = subst (ResultComes p i GivesField target x) (sym e) (λ goes stands. (refl, result_goes p kinds.Field (record { ty = FieldId; index = i }) target x refl name goes stands))
  result_comes p i GivesMethod target x s name e = subst (ResultComes p i GivesMethod target x) (sym e) (λ goes stands. (refl, result_goes p kinds.Method (record { ty = MethodId; index = i }) target x refl name goes stands))
  result_comes p i (GivesBuffer access) target x s name e =
      let is = buffer_type access s e in
      subst (ResultComes p i (GivesBuffer access) target x) (sym is.2)
      (λ goes stands. ((access, refl), (is.0, is.1, refl, result_goes p (kinds.Buffer is.0) (record { ty = Buffer is.0 is.1; index = i }) target x refl name goes stands)))
  result_comes p i GivesNothing target x s name e = absurd e

  pub right_stands : (target : Target) (x : Identifier) (s : Slot) (r : RightSide) (names : Known) → HaveOwnSlots known → RightFits known s.ty r → target_name target ≡ Some x → GoesTo known s target → HasAt code.instrs place (right_code known line s r) → IsSlotOf code known x s
      → AreAmong names ((x, s) ∷ known) → TasksStand code names (place + length (right_code known line s r)) [] tail → TasksStand code known place [] (right_side_task line target x r ∷ tail)
  right_stands target x s (FromExpr e) names own_slots fits name goes at own among further = value_set target x s.ty s.index e names fits name goes at own among further
  right_stands target x s (FromCall c) names own_slots fits name goes at own among further =
      call_stands target (result_target s.ty s.index) c own_slots fits.fits at
      (result_comes (place + length (right_code known line s (FromCall c))) s.index (prototype fits.fits.function).result target x s.ty name fits.result goes (record { own = own; further = (names, among, further) }))

-- ---- statements

-- a declaration's name is known after it, and what was known before
self_among : (x : Identifier) (s : Slot) (known : Known) → AreAmong ((x, s) ∷ known) ((x, s) ∷ known)
self_among x s known = all_among ((x, s) ∷ known)

-- what a statement's code stands for, where the rest of the tasks comes after it
abbrev pub StmtBegins : Listing → Stmt → Type 0
StmtBegins code s =
    (l : Layout) (place : ℕ) (tail : List Task) → HasAt code.instrs place (stmt_code l s) → StmtFits l s → IsLaidOut l.known l.slots → HasRoomFor code.slots (layout_after l s).slots
    → TasksStand code (layout_after l s).known (place + length (stmt_code l s)) [] tail → TasksStand code l.known place [] (task_of s ∷ tail)

-- the code of both branches of an `if` after its test
branch_stands : (code : Listing) (line : ℕ) (t : Term) (stack : List ℕ) (then' else' : Block) (l : Layout) (slots_else : _) (place : ℕ) (tail : List Task)
    → HasAt code.instrs place (term_code l.known line t ++ paths_code (block_code l then') (block_code (record { known = l.known; slots = slots_else }) else' ++ instr.Jump 0 ∷ []))
    → IsUnderWay l.known types.Truth t stack → BlockFits l then' → BlockFits (record { known = l.known; slots = slots_else }) else' → IsLaidOut l.known l.slots → IsLaidOut l.known slots_else
    → HasRoomFor code.slots (block_layout l then').slots → HasRoomFor code.slots (block_layout (record { known = l.known; slots = slots_else }) else').slots
    → TasksStand code l.known (place + length (term_code l.known line t ++ paths_code (block_code l then') (block_code (record { known = l.known; slots = slots_else }) else' ++ instr.Jump 0 ∷ []))) [] tail
    → TasksStand code l.known place stack (Branch line t then' else' ∷ tail)
branch_stands code line t stack then' else' l slots_else place tail at test fits fits' laid laid' room room' further =
    let T = term_code l.known line t in
    let A = block_code l then' in
    let B = block_code (record { known = l.known; slots = slots_else }) else' in
    let paths = has_back code.instrs place T (paths_code A (B ++ instr.Jump 0 ∷ [])) at in
    let after = has_back code.instrs (place + length T + 1) A (instr.Jump (length (B ++ instr.Jump 0 ∷ [])) ∷ (B ++ instr.Jump 0 ∷ [])) paths.1 in
    let size : place + length (T ++ paths_code A (B ++ instr.Jump 0 ∷ [])) ≡ place + length T + 1 + length A + 1 + length B + 1 =
    omega (arith, length-append T (paths_code A (B ++ instr.Jump 0 ∷ [])), length-append A (instr.Jump (length (B ++ instr.Jump 0 ∷ [])) ∷ (B ++ instr.Jump 0 ∷ [])), length-append B (instr.Jump 0 ∷ [])) in
    record {
      slots = l.slots;
      slots_else = slots_else;
      test = test;
      then_code = A;
      then_is = refl;
      else_code = B;
      else_is = refl;
      at = at;
      first = record { at = has_front code.instrs (place + length T + 1) A (instr.Jump (length (B ++ instr.Jump 0 ∷ [])) ∷ (B ++ instr.Jump 0 ∷ [])) paths.1; fits = fits; laid = laid; room = room };
      second = record { at = has_front code.instrs (place + length T + 1 + length A + 1) B (instr.Jump 0 ∷ []) after.1; fits = fits'; laid = laid'; room = room' };
      further = subst (λ p. TasksStand code l.known p [] tail) size further;
    }

-- a function gives a `jint` where a variable of that type could take what it gives
jint_given : (gives : ResultKind) → ResultFits Jint gives → gives ≡ GivesInt
jint_given GivesInt e = refl
jint_given GivesFlag e = absurd (let c : Jint ≡ types.Flag = e in cc)
jint_given NewLocal e = absurd (let c : Jint ≡ Ref = e in cc)
jint_given NewGlobal e = absurd (let c : Jint ≡ Global = e in cc)
jint_given NewWeak e = absurd (let c : Jint ≡ Weak = e in cc)
jint_given GivesField e = absurd (let c : Jint ≡ FieldId = e in cc)
jint_given GivesMethod e = absurd (let c : Jint ≡ MethodId = e in cc)
jint_given (GivesBuffer access) e = absurd (let is = buffer_type access Jint e in let c : Jint ≡ Buffer is.0 is.1 = is.2 in cc)
jint_given GivesNothing e = absurd e

if_stands : (code : Listing) (line : ℕ) (test : Test) (then' else' : Block) (l : Layout) (slots_else : _) (place : ℕ) (tail : List Task)
    → HasAt code.instrs place (if_code l.known line test (block_code l then') (block_code (record { known = l.known; slots = slots_else }) else'))
    → TestFits l.known test → BlockFits l then' → BlockFits (record { known = l.known; slots = slots_else }) else' → IsLaidOut l.known l.slots → IsLaidOut l.known slots_else
    → HasRoomFor code.slots (block_layout l then').slots → HasRoomFor code.slots (block_layout (record { known = l.known; slots = slots_else }) else').slots
    → TasksStand code l.known (place + length (if_code l.known line test (block_code l then') (block_code (record { known = l.known; slots = slots_else }) else'))) [] tail
    → TasksStand code l.known place [] (if_task line test then' else' ∷ tail)
if_stands code line (TestExpr e) then' else' l slots_else place tail at test fits fits' laid laid' room room' further = branch_stands code line (term_of e) [] then' else' l slots_else place tail at (number_begins l.known (term_of e) types.Truth test) fits fits' laid laid' room room' further
if_stands code line (TestCall c) then' else' l slots_else place tail at test fits fits' laid laid' room room' further =
    let T = named_call_code l.known line destination.Test (function_named c.function) c.arguments in
    let W = paths_code (block_code l then') (block_code (record { known = l.known; slots = slots_else }) else' ++ instr.Jump 0 ∷ []) in
    let end : place + length (T ++ W) ≡ place + length T + length W = omega (arith, length-append T W) in
    let after = subst (λ p. TasksStand code l.known p [] tail) end further in
    call_stands code l.known line place tail (Tested then' else') destination.Test c laid.own test.fits (has_front code.instrs place T W at) (
      jint_given (prototype test.fits.function).result test.result,
      record {
        then' = then';
        else' = else';
        is = refl;
        paths = λ gave_zero.
            branch_stands code line (Done (Truth gave_zero)) (truth_word gave_zero ∷ []) then' else' l slots_else (place + length T) tail (has_back code.instrs place T W at) (record { ty = rule.done value.truth; begun = tt; operands = refl })
            fits fits' laid laid' room room' after;
      },
    )

loop_stands : (code : Listing) (line : ℕ) (test : Expr) (body : Block) → StmtBegins code (tree.While line test body)
loop_stands code line test body l place tail at fits laid room further =
    let T = expr_code l.known line test in
    let B = block_code l body in
    let back = instr.JumpBack (length T + 1 + length B) ∷ [] in
    let turn = has_back code.instrs place T (turn_code T B) at in
    let size : place + length (loop_code T B) ≡ place + length T + 1 + length B + 1 = omega (arith, length-append T (turn_code T B), length-append B back) in
    record {
      slots = l.slots;
      start = place;
      under_way = number_begins l.known (term_of test) types.Truth fits.0;
      fits = fits.0;
      test_code = T;
      test_is = refl;
      body_code = B;
      body_is = refl;
      whole = at;
      here = has_front code.instrs place T (turn_code T B) at;
      meets = refl;
      turn = record { at = has_front code.instrs (place + length T + 1) B back turn.1; fits = fits.1; laid = laid; room = room };
      further = subst (λ p. TasksStand code l.known p [] tail) size further;
    }

-- the slots of a known name are there
slot_within : (code : Listing) (l : Layout) (x : Identifier) (s : Slot) → lookup x l.known ≡ Some s → IsLaidOut l.known l.slots → HasRoomFor code.slots l.slots → IndexWithin code.slots s.ty s.index
slot_within code l x s found laid room = index_more l.slots code.slots s.ty s.index (room_at_least code.slots l.slots room) (laid.within x s found)

pair_begun : (a b : Term) → IsUntouched a → IsUntouched b → IsBegun (Binary BitOr a b)
pair_begun a b h k = untouched_begun (Binary BitOr a b) (h, k)

pair_held : (a b : Term) → IsUntouched a → IsUntouched b → [] ≡ held b ++ held a
pair_held a b h k = sym (untouched_held (Binary BitOr a b) (h, k))

-- an element is written by one instruction
pub one_write : (line : ℕ) (s : ExprType) (i : ℕ) → HasElements s → length (write_code line s i) ≡ 1
one_write line (Array t size) i has = refl
one_write line (Buffer t writable) i has = refl
one_write line s i has = absurd has

element_set_stands : (code : Listing) (line : ℕ) (x : Identifier) (i e : Expr) → StmtBegins code (tree.Plain line (tree.AssignElement x i e))
element_set_stands code line x i e l place tail at fits laid room further =
    let s = fits.0.0 in
    let I = expr_code l.known line i in
    let E = expr_code l.known line e in
    let is : of_slot (write_code line) (lookup x l.known) ≡ write_code line s.ty s.index = ap (of_slot (write_code line)) fits.0.1 in
    let one = one_write line s.ty s.index fits.0.2 in
    let there = subst (λ w. HasAt code.instrs place (I ++ (E ++ w))) is at in
    let count : place + length (I ++ (E ++ of_slot (write_code line) (lookup x l.known))) ≡ place + (length I + length E) + 1 =
    omega (arith, length-append I (E ++ of_slot (write_code line) (lookup x l.known)), length-append E (of_slot (write_code line) (lookup x l.known)), ap length is, one) in
    record {
      slot = s;
      there = fits.0.1;
      elements = fits.0.2;
      own = record { within = slot_within code l x s fits.0.1 laid room; own = laid.own x s fits.0.1 };
      index = (fits.1.0, fits.1.1, fits.1.2.ty);
      value = fits.2.ty;
      begun = pair_begun (term_of i) (term_of e) fits.1.2.untouched fits.2.untouched;
      operands = pair_held (term_of i) (term_of e) fits.1.2.untouched fits.2.untouched;
      at = there;
      further = subst (λ p. TasksStand code l.known p [] tail) count further;
    }

returned_stands : (code : Listing) (line : ℕ) (t : Term) (l : Layout) (place : ℕ) (tail : List Task) → HasAt code.instrs place (return_code l.known line t) → ReturnFits l.known t → TasksStand code l.known place [] (ReturnValue line t ∷ tail)
returned_stands code line (term.Named constants.Null) l place tail at fits = inr (inl (refl, at.0))
returned_stands code line (Read x) l place tail at (s, found, inl e) =
    let there : lookup x l.known ≡ Some (record { ty = Ref; index = s.index }) = found ∙ ap (λ (r : ExprType). Some (record { ty = r; index = s.index })) e in
    let one = subst (HasAt code.instrs place) (ap (of_slot returned_code) there) at in
    inr (inr (x, s.index, refl, there, one.0))
returned_stands code line (Read x) l place tail at (s, found, inr e) =
    let there : lookup x l.known ≡ Some (record { ty = Jint; index = s.index }) = found ∙ ap (λ (r : ExprType). Some (record { ty = r; index = s.index })) e in
    let load : term_code l.known line (Read x) ++ instr.ReturnJint ∷ [] ≡ of_slot returned_code (lookup x l.known) = rw there refl in
    inl (record { ty = rule.read (s.index, there, tt); begun = tt; operands = refl }, subst (HasAt code.instrs place) (sym load) at)
returned_stands code line t l place tail at fits = inl (number_begins l.known t Jint fits, at)

-- a new variable is of its slot's kind
variable_goes : (t : VariableType) (x : Identifier) (l : Layout) → GoesTo l.known (new_slot (variable_type t) l) (Declared (variable_kind t) x)
variable_goes variables.Uint32 x l = refl
variable_goes variables.Jint x l = refl
variable_goes variables.Jsize x l = refl
variable_goes variables.Jboolean x l = refl
variable_goes (variables.Reference type) x l = refl
variable_goes variables.JfieldId x l = refl
variable_goes variables.JmethodId x l = refl

declared_goes : (t : DeclaredType) (x : Identifier) (l : Layout) → GoesTo l.known (new_slot (declared_type t) l) (Declared (kind_of t) x)
declared_goes (Simple t) x l = variable_goes t x l
declared_goes (Pointer t) x l = refl
declared_goes ConstChars x l = refl

pub stmt_begins : (code : Listing) (s : Stmt) → StmtBegins code s
stmt_begins code (tree.Plain line (tree.Declare t x r)) l place tail at fits laid room further =
    right_stands code l.known line place tail (Declared (kind_of t) x) x (new_slot (declared_type t) l) r ((x, new_slot (declared_type t) l) ∷ l.known) laid.own fits.1 refl (declared_goes t x l) at (declared_slot code (declared_type t) l x (declared_size t) laid room) (self_among x (new_slot (declared_type t) l) l.known) further
stmt_begins code (tree.Plain line (tree.DeclareArray t x size)) l place tail at fits laid room further = record {
  empty = refl;
  start = l.slots.numbers;
  at = at.0;
  own = declared_slot code (Array t size) l x (fits.1, fits.2) laid room;
  further = ((x, new_slot (Array t size) l) ∷ l.known, self_among x (new_slot (Array t size) l) l.known, further);
}
stmt_begins code (tree.Plain line (tree.Assign x r)) l place tail at fits laid room further =
    let slot = fits.0 in
    let found = fits.1 in
    let there = subst (HasAt code.instrs place) (ap (λ (o : Option Slot). assign_code l.known line o r) found) at in
    let own : IsSlotOf code l.known x slot = record { within = slot_within code l x slot found laid room; own = laid.own x slot found } in
    right_stands code l.known line place tail (Assigned x) x slot r l.known laid.own fits.2 refl found there own (known_among x slot l.known found)
    (subst (λ c. TasksStand code l.known (place + length c) [] tail) (ap (λ (o : Option Slot). assign_code l.known line o r) found) further)
stmt_begins code (tree.Plain line (tree.AssignElement x i e)) l place tail at fits laid room further = element_set_stands code line x i e l place tail at fits laid room further
stmt_begins code (tree.Plain line (tree.Perform c)) l place tail at fits laid room further = call_stands code l.known line place tail Dropped destination.Dropped c laid.own fits.fits at (refl, fits.result, further)
stmt_begins code (tree.Plain line (tree.PutJint e)) l place tail at fits laid room further =
    let size : place + length (expr_code l.known line e ++ instr.PutJint ∷ []) ≡ place + length (expr_code l.known line e) + 1 = omega (arith, length-append (expr_code l.known line e) (instr.PutJint ∷ [])) in
    ((number_begins l.known (term_of e) Jint fits, at), subst (λ p. TasksStand code l.known p [] tail) size further)
stmt_begins code (tree.If line test then' tree.NoElse) l place tail at fits laid room further =
    let grown = block_grows then' l in
    if_stands code line test then' (End line) l (block_layout l then').slots place tail at fits.0 fits.1 tt laid (laid_more l.known l.slots (block_layout l then').slots grown laid) room room further
stmt_begins code (tree.If line test then' (tree.ElseBlock else')) l place tail at fits laid room further =
    let first = closed l (block_layout l then') in
    let grown = block_grows then' l in
    let grown' = block_grows else' first in
    if_stands code line test then' else' l first.slots place tail at fits.0 fits.1 fits.2 laid (laid_more l.known l.slots first.slots grown laid) (room_before code.slots first.slots (block_layout first else').slots grown' room) room further
stmt_begins code (tree.While line test body) l place tail at fits laid room further = loop_stands code line test body l place tail at fits laid room further
stmt_begins code (tree.Return line None) l place tail at fits laid room further = (refl, at.0)
stmt_begins code (tree.Return line (Some e)) l place tail at fits laid room further = returned_stands code line (term_of e) l place tail at fits

-- ---- blocks

-- Code at a place stands for its statements and what is to do after them, where all names are known that were
-- known in front of the block.
pub begins : (code : Listing) (b : Block) (l : Layout) (place : ℕ) (tail : List Task) → BlockStands code l place b
    → ((names : Known) → AreAmong l.known names → TasksStand code names (place + length (block_code l b)) [] tail) → TasksStand code l.known place [] (tasks_of b ++ tail)
begins code (End line) l place tail stands further =
    let e : place + 0 ≡ place = omega arith in
    subst (λ p. TasksStand code l.known p [] tail) e (further l.known (all_among l.known))
begins code (Next s rest) l place tail stands further =
    let own = stmt_code l s in
    let next = layout_after l s in
    let others = block_code next rest in
    let size : place + length own + length others ≡ place + length (own ++ others) = omega (arith, length-append own others) in
    stmt_begins code s l place (tasks_of rest ++ tail) (has_front code.instrs place own others stands.at) stands.fits.0 stands.laid (room_before code.slots next.slots (block_layout next rest).slots (block_grows rest next) stands.room)
    (begins code rest next (place + length own) tail
    (record { at = has_back code.instrs place own others stands.at; fits = stands.fits.1; laid = laid_after s l stands.fits.0 stands.laid; room = stands.room })
    (λ names among. subst (λ p. TasksStand code names p [] tail) (sym size) (further names (λ x t h. among x t (known_after_stmt s l stands.fits.0 x t h)))))
