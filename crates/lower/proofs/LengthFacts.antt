-- The code of an accepted function has one instruction for each step, and a return at its end.
use Rattle.std.proofs.Common.{◌≡◌, ℕ, ◌+◌, Bool, true, false, ◌||◌, List, [], ◌∷◌, ◌++◌, length, Option, Some, None, refl, sym, ap, ◌∙◌, subst, arith, length-append, map, if◌then◌else◌}
use Rattle.std.specs.Prelude.{zip}
use Rattle.std.specs.List.{AllZip, sum_by}
use Rattle.std.proofs.lemmas.List.Sums.{sum_by-cons}
use Rattle.base.specs.Bytes.{Identifier, lookup}
use Rattle.syntax.specs.Parts.{null_tested, names_declared, statements_of, statements_within}
use Rattle.syntax.specs.Tree as tree
use Rattle.syntax.specs.declared.expr.Constant.{Constant}
use Rattle.syntax.specs.declared.expr.Constant.TheVariants as constants
use Rattle.syntax.specs.declared.unit.ResultType.{ResultType}
use Rattle.syntax.specs.declared.unit.ResultType.TheVariants.{Void, Jint as IntResult, Reference as ReferenceResult}
use Rattle.syntax.specs.declared.expr.PrefixOp.TheVariants.{LogicalNot, Complement, ToWord, ToInt}
use Rattle.syntax.specs.declared.expr.BinaryOp.{BinaryOp}
use Rattle.syntax.specs.declared.expr.BinaryOp.TheVariants.{LogicalOr, LogicalAnd, Equal, NotEqual}
use Rattle.syntax.specs.Tree.{Expr, Argument, Call, RightSide, FromExpr, FromCall, Test, TestExpr, TestCall, Stmt, Block, End, Next}
use Rattle.jni.specs.JniFunction.{function_named, parameters_for}
use Rattle.jni.specs.declared.kinds.ParameterKind.{ParameterKind}
use Rattle.jni.specs.declared.kinds.ParameterKind.TheVariants.{IntNumber, Passed}
use Rattle.type_rules.specs.declared.ty.ExprType.{ExprType}
use Rattle.type_rules.specs.declared.ty.ExprType.TheVariants.{Jint, Ref, Global, Weak, FieldId, MethodId, Buffer, Array}
use Rattle.type_rules.specs.ExprTypes.{constant_type, type_in, type_of, is_jint, is_ref, is_null, name_type}
use Rattle.type_rules.specs.declared.ty.ExprType.TheVariants as types
use Rattle.type_rules.specs.TypeRules.{declared_type, return_fits, places_within, places_of}
use Rattle.code.specs.declared.instr.Target.{Target}
use Rattle.code.specs.declared.instr.Target.TheVariants as destination
use Rattle.code.specs.declared.instr.Instr.{Instr}
use Rattle.code.specs.declared.instr.Instr.TheVariants as instr
use Rattle.semantics.specs.Term as term
use Rattle.semantics.specs.Term.{Term, Done, Read, IsNull, Prefix, And, Or, Binary, binary_term, term_of}
use Rattle.code_meaning.specs.Layout.{Slot, Known, Layout, new_slot, closed, layout_after, block_layout}
use Rattle.code_meaning.specs.Coding.{arguments_texts, result_target, nullable_of, test_of, store_of, null_code, element_code, write_code, of_slot, load_code, prefix_code, operator_code, is_signed, skip_code, term_code, expr_code, named_call_code, value_code, right_code, assign_code, returned_code, return_code, test_code, paths_code, if_code, turn_code, loop_code, stmt_code, block_code, argument_code, arguments_code, passed_rest, number_code, operand_code}
use Rattle.code_meaning.specs.Fits as rule
use Rattle.code_meaning.specs.Fits.{IsNullable, HasElements, TermHasType, NumberFits, PassedFits, ArgumentFits, CallFits, ValueFits, RightFits, TestFits, ReturnFits, StmtFits, BlockFits}
use Rattle.code_meaning.specs.Length.{binary_steps, expr_steps, passed_steps, argument_steps, arguments_steps, call_steps, value_steps, right_steps, test_steps, return_steps, stmt_steps, block_steps}
use Rattle.lower.proofs.Bodies.{one_write}
use Rattle.lower.proofs.TypeFacts.{scope_of, slot_of_name}
use Rattle.type_rules.proofs.PlaceLists.{AreUnbroken}
use Rattle.type_rules.proofs.KeptPlaces.{own_kept, inside_kept, block_kept, paths_kept}
use Rattle.type_rules.proofs.TypeTests.{jint_is, ref_is}
use Rattle.lower.proofs.BodyFacts.{scope_after}
use Rattle.lower.proofs.NamesOnce.{IntsAgree, StmtsAgree, both_agree, own_agrees, agree_after}

-- ---- expressions

-- the steps of the parts that have no value yet
abbrev term_steps : Term → ℕ
term_steps (Done v) = 0
term_steps (term.Number n unsigned) = 1
term_steps (term.Named c) = 1
term_steps (Read x) = 1
term_steps (term.Element x t) = term_steps t + 1
term_steps (IsNull equal x) = 1
term_steps (Prefix op t) = term_steps t + 1
term_steps (And a b) = term_steps a + term_steps b + 1
term_steps (Or a b) = term_steps a + term_steps b + 1
term_steps (Binary op a b) = term_steps a + term_steps b + 1

equal_steps : (o : Option Identifier) (m n : ℕ) (a b : Term) → m ≡ term_steps a → n ≡ term_steps b → binary_steps o m n ≡ term_steps (binary_term Equal o a b)
equal_steps (Some x) m n a b left right = refl
equal_steps None m n a b left right = omega arith

unequal_steps : (o : Option Identifier) (m n : ℕ) (a b : Term) → m ≡ term_steps a → n ≡ term_steps b → binary_steps o m n ≡ term_steps (binary_term NotEqual o a b)
unequal_steps (Some x) m n a b left right = refl
unequal_steps None m n a b left right = omega arith

operator_steps : (op : BinaryOp) (a b : Expr) → expr_steps a ≡ term_steps (term_of a) → expr_steps b ≡ term_steps (term_of b) → expr_steps (tree.Binary op a b) ≡ term_steps (term_of (tree.Binary op a b))
operator_steps Equal a b left right = equal_steps (null_tested (tree.Binary Equal a b)) (expr_steps a) (expr_steps b) (term_of a) (term_of b) left right
operator_steps NotEqual a b left right = unequal_steps (null_tested (tree.Binary NotEqual a b)) (expr_steps a) (expr_steps b) (term_of a) (term_of b) left right
operator_steps op a b left right = omega arith

steps_of_term : (e : Expr) → expr_steps e ≡ term_steps (term_of e)
steps_of_term (tree.Number n unsigned) = refl
steps_of_term (tree.Named c) = refl
steps_of_term (tree.Variable x) = refl
steps_of_term (tree.Element x e) = let inside = steps_of_term e in omega arith
steps_of_term (tree.Prefix op e) = let inside = steps_of_term e in omega arith
steps_of_term (tree.Binary op a b) = operator_steps op a b (steps_of_term a) (steps_of_term b)
steps_of_term (tree.Paren e) = steps_of_term e

null_length : (equal : Bool) (s : ExprType) (i : ℕ) → IsNullable s → length (test_of equal (nullable_of s i)) ≡ 1
null_length equal Ref i h = refl
null_length equal Global i h = refl
null_length equal FieldId i h = refl
null_length equal MethodId i h = refl
null_length equal (Buffer t w) i h = refl
null_length equal s i h = absurd h

-- an element is read by one instruction
one_read : (line : ℕ) (s : ExprType) (i : ℕ) → HasElements s → length (element_code line s i) ≡ 1
one_read line (Array t n) i h = refl
one_read line (Buffer t w) i h = refl
one_read line s i h = absurd h

-- instructions after those of an operand, and between those of two
after_one : (a : List Instr) (last : Instr) (n : ℕ) → length a ≡ n → length (a ++ last ∷ []) ≡ n + 1
after_one a last n h = omega (arith, length-append a (last ∷ []))

after_two : (a b : List Instr) (last : Instr) (m n : ℕ) → length a ≡ m → length b ≡ n → length (a ++ (b ++ last ∷ [])) ≡ m + n + 1
after_two a b last m n left right = omega (arith, length-append a (b ++ last ∷ []), length-append b (last ∷ []))

between : (a b : List Instr) (middle : Instr) (m n : ℕ) → length a ≡ m → length b ≡ n → length (a ++ middle ∷ b) ≡ m + n + 1
between a b middle m n left right = omega (arith, length-append a (middle ∷ b))

term_length : (known : Known) (line : ℕ) {t : Term} {s : ExprType} → TermHasType known t s → length (term_code known line t) ≡ term_steps t
term_length known line (rule.read h) = ap (λ o. length (of_slot load_code o)) h.1
term_length known line (rule.element {x = x} {n = n} {t = t} at has index h) =
    let inside = term_length known line h in
    let last : length (of_slot (element_code line) (lookup x known)) ≡ 1 = ap (λ o. length (of_slot (element_code line) o)) at ∙ one_read line n.ty n.index has in
    omega (arith, length-append (term_code known line t) (of_slot (element_code line) (lookup x known)))
term_length known line (rule.null_test {equal = equal} {n = n} at null) = ap (λ o. length (null_code equal o)) at ∙ null_length equal n.ty n.index null
term_length known line (rule.logical_not {t = t} h) = after_one (term_code known line t) (prefix_code LogicalNot) (term_steps t) (term_length known line h)
term_length known line (rule.complement {t = t} h) = after_one (term_code known line t) (prefix_code Complement) (term_steps t) (term_length known line h)
term_length known line (rule.to_word {t = t} i h) = after_one (term_code known line t) (prefix_code ToWord) (term_steps t) (term_length known line h)
term_length known line (rule.to_int {t = t} i h) = after_one (term_code known line t) (prefix_code ToInt) (term_steps t) (term_length known line h)
term_length known line (rule.both {a = a} {b = b} h k) =
    between (term_code known line a) (term_code known line b) (skip_code true (length (term_code known line b))) (term_steps a) (term_steps b) (term_length known line h) (term_length known line k)
term_length known line (rule.either {a = a} {b = b} h k) =
    between (term_code known line a) (term_code known line b) (skip_code false (length (term_code known line b))) (term_steps a) (term_steps b) (term_length known line h) (term_length known line k)
term_length known line (rule.operator {op = op} {a = a} {b = b} fits h k) =
    after_two (term_code known line a) (term_code known line b) (operator_code line (is_signed known a) op) (term_steps a) (term_steps b) (term_length known line h) (term_length known line k)
term_length known line h = refl

expr_length : (known : Known) (line : ℕ) (e : Expr) (s : ExprType) → NumberFits known (term_of e) s → length (expr_code known line e) ≡ expr_steps e
expr_length known line e s h = term_length known line h.ty ∙ sym (steps_of_term e)

-- ---- right sides

number_length : (b : Bool) (s : ExprType) (i : ℕ) → length (if b then load_code s i else []) ≡ (if b then 1 else 0)
number_length true s i = refl
number_length false s i = refl

-- the names of `jint`s are these
module _ (ints : List Identifier) where
  passed_length : (known : Known) (line : ℕ) (e : Expr) → IntsAgree ints known → PassedFits known e → length (passed_rest known line e) ≡ passed_steps ints e
  passed_length known line (tree.Named constants.Null) agree h = refl
  passed_length known line (tree.Variable x) agree h =
      ap (λ o. length (of_slot number_code o)) h.1 ∙ number_length (is_jint (Some h.0.ty)) h.0.ty h.0.index ∙ ap (λ b. if b then 1 else 0) (sym (agree x h.0 h.1))
  passed_length known line e agree h = expr_length known line e Jint h

  argument_length : (known : Known) (line : ℕ) (p : ParameterKind) (a : Argument) → IntsAgree ints known → ArgumentFits known p a → length (argument_code known line (p, a)) ≡ argument_steps ints (p, a)
  argument_length known line IntNumber (tree.Value e) agree h = expr_length known line e Jint h
  argument_length known line IntNumber a agree h = absurd h
  argument_length known line Passed (tree.Value e) agree h = passed_length known line e agree h
  argument_length known line Passed a agree h = absurd h
  argument_length known line p a agree h = refl

  arguments_length : (known : Known) (line : ℕ) (parameters : List ParameterKind) (arguments : List Argument) → IntsAgree ints known → AllZip (ArgumentFits known) parameters arguments
      → length (arguments_code known line (zip parameters arguments)) ≡ sum_by (argument_steps ints) (zip parameters arguments)
  arguments_length known line [] [] agree h = refl
  arguments_length known line [] (a ∷ arguments) agree h = absurd h
  arguments_length known line (p ∷ parameters) [] agree h = absurd h
  arguments_length known line (p ∷ parameters) (a ∷ arguments) agree h =
      let one = argument_length known line p a agree h.0 in
      let others = arguments_length known line parameters arguments agree h.1 in
      omega (arith, one, others, sum_by-cons (argument_steps ints) (p, a) (zip parameters arguments), length-append (argument_code known line (p, a)) (arguments_code known line (zip parameters arguments)))

  call_length : (known : Known) (line : ℕ) (target : Target) (c : Call) → IntsAgree ints known → CallFits known c → length (named_call_code known line target (function_named c.function) c.arguments) ≡ call_steps ints c
  call_length known line target c agree h =
      let parameters = parameters_for h.function (length c.arguments) in
      let given = zip parameters c.arguments in
      let steps = arguments_length known line parameters c.arguments agree h.arguments in
      let call = instr.Call (record { line = line; target = target; function = h.function; operands = map (operand_code known) given; texts = arguments_texts c.arguments }) ∷ [] in
      ap (λ o. length (named_call_code known line target o c.arguments)) h.named
      ∙ omega (arith, steps, length-append (arguments_code known line given) call)
      ∙ sym (ap (λ o. arguments_steps ints o c.arguments + 1) h.named)

number_set : (known : Known) (line : ℕ) (slot : Slot) (e : Expr) (s : ExprType) → NumberFits known (term_of e) s → length (value_code known line slot e) ≡ value_steps e
number_set known line slot (tree.Named constants.Null) s h = elim h.ty [ ]
number_set known line slot e s h = after_one (expr_code known line e) (instr.Store slot.index) (expr_steps e) (expr_length known line e s h)

null_set : (known : Known) (line : ℕ) (slot : Slot) (e : Expr) → length (store_of (nullable_of slot.ty slot.index)) ≡ 1 → e ≡ tree.Named constants.Null → length (value_code known line slot e) ≡ value_steps e
null_set known line slot e one is = subst (λ (d : Expr). length (value_code known line slot d) ≡ value_steps d) (sym is) one

value_length : (known : Known) (line : ℕ) (s : ExprType) (i : ℕ) (e : Expr) → ValueFits known s e → length (value_code known line (record { ty = s; index = i }) e) ≡ value_steps e
value_length known line types.Word i e h = number_set known line (record { ty = types.Word; index = i }) e types.Word h
value_length known line Jint i e h = number_set known line (record { ty = Jint; index = i }) e Jint h
value_length known line types.Flag i e h = number_set known line (record { ty = types.Flag; index = i }) e types.Flag h
value_length known line Ref i e h = null_set known line (record { ty = Ref; index = i }) e refl h
value_length known line Global i e h = null_set known line (record { ty = Global; index = i }) e refl h
value_length known line Weak i e h = null_set known line (record { ty = Weak; index = i }) e refl h
value_length known line FieldId i e h = null_set known line (record { ty = FieldId; index = i }) e refl h
value_length known line MethodId i e h = null_set known line (record { ty = MethodId; index = i }) e refl h
value_length known line (Buffer t w) i e h = null_set known line (record { ty = Buffer t w; index = i }) e refl h
value_length known line s i e h = absurd h

right_length : (ints : List Identifier) (known : Known) (line : ℕ) (s : Slot) (r : RightSide) → IntsAgree ints known → RightFits known s.ty r → length (right_code known line s r) ≡ right_steps ints r
right_length ints known line s (FromExpr e) agree h = value_length known line s.ty s.index e h
right_length ints known line s (FromCall c) agree h = call_length ints known line (result_target s.ty s.index) c agree h.fits

-- ---- returns

no_jint : (c : Constant) → constant_type c ≡ Some Jint → ⊥
no_jint constants.True h = cc
no_jint constants.False h = cc
no_jint c h = cc

-- an operator's result is a number, and is returned as one
binary_returned : (known : Known) (line : ℕ) (op : BinaryOp) (o : Option Identifier) (a b : Term) → ReturnFits known (binary_term op o a b)
    → NumberFits known (binary_term op o a b) Jint × (return_code known line (binary_term op o a b) ≡ term_code known line (binary_term op o a b) ++ instr.ReturnJint ∷ [])
binary_returned known line LogicalAnd o a b h = (h, refl)
binary_returned known line LogicalOr o a b h = (h, refl)
binary_returned known line Equal (Some x) a b h = (h, refl)
binary_returned known line Equal None a b h = (h, refl)
binary_returned known line NotEqual (Some x) a b h = (h, refl)
binary_returned known line NotEqual None a b h = (h, refl)
binary_returned known line op o a b h = (h, refl)

number_returned : (known : Known) (line : ℕ) (e : Expr) → type_of (scope_of known) e ≡ Some Jint → ReturnFits known (term_of e) → length (return_code known line (term_of e)) ≡ expr_steps e + 1
number_returned known line (tree.Number n unsigned) h fits = refl
number_returned known line (tree.Named c) h fits = absurd (no_jint c h)
number_returned known line (tree.Variable x) h fits = let at = slot_of_name x known Jint h in ap (λ o. length (of_slot returned_code o)) at.1
number_returned known line (tree.Element x i) h fits = after_one (expr_code known line (tree.Element x i)) instr.ReturnJint (expr_steps (tree.Element x i)) (expr_length known line (tree.Element x i) Jint fits)
number_returned known line (tree.Prefix op a) h fits = after_one (expr_code known line (tree.Prefix op a)) instr.ReturnJint (expr_steps (tree.Prefix op a)) (expr_length known line (tree.Prefix op a) Jint fits)
number_returned known line (tree.Binary op a b) h fits =
    let e = tree.Binary op a b in
    let number = binary_returned known line op (null_tested e) (term_of a) (term_of b) fits in
    ap (λ (c : List Instr). length c) number.1 ∙ after_one (expr_code known line e) instr.ReturnJint (expr_steps e) (expr_length known line e Jint number.0)
number_returned known line (tree.Paren e) h fits = number_returned known line e h fits

reference_returned : (known : Known) (line : ℕ) (e : Expr) → (is_null e || is_ref (name_type (scope_of known) e)) ≡ true → length (return_code known line (term_of e)) ≡ 1
reference_returned known line (tree.Named constants.Null) h = refl
reference_returned known line (tree.Variable x) h =
    let at = slot_of_name x known Ref (ref_is (type_in (scope_of known) x) h) in
    ap (λ o. length (of_slot returned_code o)) at.1
reference_returned known line e h = absurd (cc)

return_length : (known : Known) (line : ℕ) (returns : ResultType) (e : Expr) → return_fits (scope_of known) returns e ≡ true → ReturnFits known (term_of e) → length (return_code known line (term_of e)) ≡ return_steps returns e
return_length known line Void e h fits = absurd (cc)
return_length known line IntResult e h fits = number_returned known line e (jint_is (type_of (scope_of known) e) h) fits
return_length known line (ReferenceResult r) e h fits = reference_returned known line e h

-- ---- statements

test_length : (ints : List Identifier) (known : Known) (line : ℕ) (test : Test) → IntsAgree ints known → TestFits known test → length (test_code known line test) + 1 ≡ test_steps ints test
test_length ints known line (TestExpr e) agree h = let inside = expr_length known line e types.Truth h in omega arith
test_length ints known line (TestCall c) agree h = ap (λ n. n + 1) (call_length ints known line destination.Test c agree h.fits)

if_length : (ints : List Identifier) (known : Known) (line : ℕ) (test : Test) (then' else' : List Instr) (m n : ℕ) → IntsAgree ints known → TestFits known test → length then' ≡ m → length else' ≡ n
    → length (if_code known line test then' else') ≡ test_steps ints test + (m + 1) + (n + 1)
if_length ints known line test then' else' m n agree h first second =
    let inside = test_length ints known line test agree h in
    let last = after_one else' (instr.Jump 0) n second in
    omega (arith, length-append (test_code known line test) (paths_code then' (else' ++ instr.Jump 0 ∷ [])), length-append then' (instr.Jump (length (else' ++ instr.Jump 0 ∷ [])) ∷ (else' ++ instr.Jump 0 ∷ [])))

loop_length : (test body : List Instr) (m n : ℕ) → length test ≡ m → length body ≡ n → length (loop_code test body) ≡ m + 1 + (n + 1)
loop_length test body m n first second =
    let last = after_one body (instr.JumpBack (length test + 1 + length body)) n second in
    omega (arith, length-append test (turn_code test body))

write_length : (l : Layout) (line : ℕ) (x : Identifier) (i e : Expr) → StmtFits l (tree.Plain line (tree.AssignElement x i e)) → length (stmt_code l (tree.Plain line (tree.AssignElement x i e))) ≡ expr_steps i + expr_steps e + 1
write_length l line x i e h =
    let index = expr_length l.known line i h.1.0 h.1.2 in
    let value = expr_length l.known line e Jint h.2 in
    let last : length (of_slot (write_code line) (lookup x l.known)) ≡ 1 = ap (λ o. length (of_slot (write_code line) o)) h.0.1 ∙ one_write line h.0.0.ty h.0.0.index h.0.2 in
    omega (arith, length-append (expr_code l.known line i) (expr_code l.known line e ++ of_slot (write_code line) (lookup x l.known)), length-append (expr_code l.known line e) (of_slot (write_code line) (lookup x l.known)))

module _ (ints : List Identifier) (returns : ResultType) where
  mutual
    stmt_length : (s : Stmt) (l : Layout) (taken : List Identifier) → IntsAgree ints l.known → StmtsAgree ints (statements_within s) → StmtFits l s → AreUnbroken (places_within returns (scope_of l.known) taken s) → length (stmt_code l s) ≡ stmt_steps ints returns s
    stmt_length (tree.Plain line (tree.Declare t x r)) l taken agree declared fits kept = right_length ints l.known line (new_slot (declared_type t) l) r agree fits.1
    stmt_length (tree.Plain line (tree.DeclareArray t x size)) l taken agree declared fits kept = refl
    stmt_length (tree.Plain line (tree.Assign x r)) l taken agree declared fits kept = ap (λ o. length (assign_code l.known line o r)) fits.1 ∙ right_length ints l.known line fits.0 r agree fits.2
    stmt_length (tree.Plain line (tree.AssignElement x i e)) l taken agree declared fits kept = write_length l line x i e fits
    stmt_length (tree.Plain line (tree.Perform c)) l taken agree declared fits kept = call_length ints l.known line destination.Dropped c agree fits.fits
    stmt_length (tree.Plain line (tree.PutJint e)) l taken agree declared fits kept = after_one (expr_code l.known line e) instr.PutJint (expr_steps e) (expr_length l.known line e Jint fits)
    stmt_length (tree.If line test then' tree.NoElse) l taken agree declared fits kept =
        let inside = block_length then' l taken agree declared.1 fits.1 (inside_kept returns (scope_of l.known) taken (tree.If line test then' tree.NoElse) kept) in
        if_length ints l.known line test (block_code l then') [] (block_steps ints returns then') 0 agree fits.0 inside refl
    stmt_length (tree.If line test then' (tree.ElseBlock else')) l taken agree declared fits kept =
        let both = paths_kept returns (scope_of l.known) taken line test then' else' kept in
        let paths = both_agree ints (statements_of then') (statements_of else') declared.1 in
        let first = block_length then' l taken agree paths.0 fits.1 both.0 in
        let second = block_length else' (closed l (block_layout l then')) (taken ++ names_declared (statements_of then')) agree paths.1 fits.2 both.1 in
        if_length ints l.known line test (block_code l then') (block_code (closed l (block_layout l then')) else') (block_steps ints returns then') (block_steps ints returns else') agree fits.0 first second
    stmt_length (tree.While line test body) l taken agree declared fits kept =
        let inside = block_length body l taken agree declared.1 fits.1 (inside_kept returns (scope_of l.known) taken (tree.While line test body) kept) in
        loop_length (expr_code l.known line test) (block_code l body) (expr_steps test) (block_steps ints returns body) (expr_length l.known line test types.Truth fits.0) inside
    stmt_length (tree.Return line None) l taken agree declared fits kept = refl
    stmt_length (tree.Return line (Some e)) l taken agree declared fits kept = return_length l.known line returns e (own_kept returns (scope_of l.known) taken (tree.Return line (Some e)) kept).fits fits

    pub block_length : (b : Block) (l : Layout) (taken : List Identifier) → IntsAgree ints l.known → StmtsAgree ints (statements_of b) → BlockFits l b → AreUnbroken (places_of returns (scope_of l.known) taken b) → length (block_code l b) ≡ block_steps ints returns b
    block_length (End line) l taken agree declared fits kept = refl
    block_length (Next s rest) l taken agree declared fits kept =
        let both = block_kept returns (scope_of l.known) taken s rest kept in
        let parts = both_agree ints (statements_within s) (statements_of rest) declared in
        let more = taken ++ names_declared (statements_within s) in
        let first = stmt_length s l taken agree parts.0 fits.0 both.0 in
        let second = block_length rest (layout_after l s) more (agree_after ints s l (own_agrees ints s parts.0) agree) parts.1 fits.1 (subst (λ scope. AreUnbroken (places_of returns scope more rest)) (scope_after s l) both.1) in
        omega (arith, length-append (stmt_code l s) (block_code (layout_after l s) rest))
