-- The code of a body keeps the stack in its range, and its jumps lead inside.
use Rattle.code.specs.declared.instr.Operand.{Operand as Where}
use Rattle.code.specs.declared.instr.Operand.TheVariants as operand
use Rattle.std.specs.List.{AllZip}
use Rattle.std.specs.Prelude.{zip, map}
use Rattle.jni.specs.declared.function.JniFunction.{JniFunction}
use Rattle.jni.specs.JniFunction.{function_named, parameters_for}
use Rattle.jni.specs.declared.kinds.ParameterKind.{ParameterKind}
use Rattle.jni.specs.declared.kinds.ParameterKind.TheVariants.{IntNumber, Mode, Passed}
use Rattle.std.proofs.Common.{◌≡◌, ℕ, suc, ◌+◌, ◌<◌, ◌≤◌, ◌⊎◌, inl, inr, Bool, true, false, List, [], ◌∷◌, ◌++◌, length, Option, Some, refl, sym, ap, ◌∙◌, subst, arith, None, ◌-◌}
use Rattle.std.proofs.lemmas.Bool.{lt-ltb, le-leb}
use Rattle.base.specs.Bytes.{Identifier, lookup}
use Rattle.syntax.specs.Tree as tree
use Rattle.syntax.specs.declared.expr.Constant.TheVariants as constants
use Rattle.syntax.specs.declared.expr.PrefixOp.{PrefixOp}
use Rattle.syntax.specs.declared.expr.PrefixOp.TheVariants.{LogicalNot, Complement, ToWord, ToInt}
use Rattle.syntax.specs.declared.expr.BinaryOp.{BinaryOp}
use Rattle.syntax.specs.declared.expr.BinaryOp.TheVariants.{LogicalOr, LogicalAnd, BitOr, BitXor, BitAnd, Equal, NotEqual, Less, LessEqual, Greater, GreaterEqual, ShiftLeft, ShiftRight, Add, Subtract, Multiply, Divide, Remainder}
use Rattle.syntax.specs.Tree.{Expr, Argument, RightSide, FromExpr, FromCall, Test, TestExpr, TestCall, Stmt, Block, End, Next, Call}
use Rattle.type_rules.specs.declared.ty.ExprType.{ExprType}
use Rattle.type_rules.specs.declared.ty.ExprType.TheVariants.{Jint, Ref, Global, Weak, FieldId, MethodId, Buffer, Array}
use Rattle.type_rules.specs.declared.ty.ExprType.TheVariants as types
use Rattle.type_rules.specs.TypeRules.{declared_type}
use Rattle.code.specs.declared.instr.Target.{Target}
use Rattle.code.specs.declared.instr.Target.TheVariants as destination
use Rattle.code.specs.declared.instr.Instr.{Instr}
use Rattle.code.specs.declared.instr.Instr.TheVariants as instr
use Rattle.code.specs.Depth.{depth_after, words_taken, with_result}
use Rattle.code.proofs.Pieces.{IsPiece, piece_none, piece_append, piece_one, piece_and, piece_or, piece_if, piece_end, piece_loop}
use Rattle.semantics.specs.Term as term
use Rattle.semantics.specs.Term.{Term, Read, term_of}
use Rattle.code_meaning.specs.Layout.{Slot, Known, Layout, new_slot, closed, layout_after, block_layout}
use Rattle.code_meaning.specs.Coding.{nullable_of, test_of, null_code, element_of, element_code, write_code, of_slot, load_code, prefix_code, operator_code, is_signed, skip_code, term_code, expr_code, named_call_code, value_code, right_code, assign_code, returned_code, return_code, test_code, paths_code, if_code, stmt_code, block_code, argument_code, arguments_code, operand_code, operand_of, passed_variable, passed_code, passed_rest, number_code, address_operand, variable_operand, arguments_texts, result_target}
use Rattle.code_meaning.specs.Fits as rule
use Rattle.code_meaning.specs.Fits.{IsNullable, HasElements, TermHasType, IsUntouched, term_height, NumberFits, ValueFits, RightFits, TestFits, ReturnFits, StmtFits, BlockFits, CallFits, PassedFits, ArgumentFits}
use Rattle.lower.proofs.Bodies.{value_is}
use Rattle.lower.proofs.CallCounts.{few_arguments}

-- ---- instructions

pushed : (n d : ℕ) → d < 64 → depth_after (instr.Push n) d ≡ Some (suc d)
pushed n d h = rw (lt-ltb d 64 h) refl

push_piece : (n d : ℕ) → d < 64 → IsPiece (instr.Push n ∷ []) d (suc d)
push_piece n d h = piece_one (instr.Push n) d (suc d) (pushed n d h) tt

load_piece : (i d : ℕ) → d < 64 → IsPiece (instr.Load i ∷ []) d (suc d)
load_piece i d h = piece_one (instr.Load i) d (suc d) (rw (lt-ltb d 64 h) refl) tt

null_piece : (equal : Bool) (s : ExprType) (i d : ℕ) → IsNullable s → d < 64 → IsPiece (test_of equal (nullable_of s i)) d (suc d)
null_piece equal Ref i d n h = piece_one (instr.TestNull _ equal) d (suc d) (rw (lt-ltb d 64 h) refl) tt
null_piece equal Global i d n h = piece_one (instr.TestNull _ equal) d (suc d) (rw (lt-ltb d 64 h) refl) tt
null_piece equal FieldId i d n h = piece_one (instr.TestNull _ equal) d (suc d) (rw (lt-ltb d 64 h) refl) tt
null_piece equal MethodId i d n h = piece_one (instr.TestNull _ equal) d (suc d) (rw (lt-ltb d 64 h) refl) tt
null_piece equal (Buffer t w) i d n h = piece_one (instr.TestNull _ equal) d (suc d) (rw (lt-ltb d 64 h) refl) tt
null_piece equal s i d n h = absurd n

element_piece : (line : ℕ) (s : ExprType) (i d : ℕ) → HasElements s → IsPiece (element_code line s i) (suc d) (suc d)
element_piece line (Array t n) i d h = piece_one (instr.LoadElement _ line) (suc d) (suc d) refl tt
element_piece line (Buffer t w) i d h = piece_one (instr.LoadBuffer i line) (suc d) (suc d) refl tt
element_piece line s i d h = absurd h

written_piece : (line : ℕ) (s : ExprType) (i : ℕ) → HasElements s → IsPiece (write_code line s i) 2 0
written_piece line (Array t n) i h = piece_one (instr.StoreElement (element_of t) _ line) 2 0 refl tt
written_piece line (Buffer t w) i h = piece_one (instr.StoreBuffer (element_of t) i line) 2 0 refl tt
written_piece line s i h = absurd h

prefix_piece : (op : PrefixOp) (d : ℕ) → IsPiece (prefix_code op ∷ []) (suc d) (suc d)
prefix_piece LogicalNot d = piece_one instr.Not (suc d) (suc d) refl tt
prefix_piece Complement d = piece_one instr.Complement (suc d) (suc d) refl tt
prefix_piece ToWord d = piece_one instr.Convert (suc d) (suc d) refl tt
prefix_piece ToInt d = piece_one instr.Convert (suc d) (suc d) refl tt

operator_piece : (line : ℕ) (signed : Bool) (op : BinaryOp) (d : ℕ) → IsPiece (operator_code line signed op ∷ []) (suc (suc d)) (suc d)
operator_piece line signed LogicalOr d = piece_one (operator_code line signed LogicalOr) (suc (suc d)) (suc d) refl tt
operator_piece line signed LogicalAnd d = piece_one (operator_code line signed LogicalAnd) (suc (suc d)) (suc d) refl tt
operator_piece line signed BitOr d = piece_one (operator_code line signed BitOr) (suc (suc d)) (suc d) refl tt
operator_piece line signed BitXor d = piece_one (operator_code line signed BitXor) (suc (suc d)) (suc d) refl tt
operator_piece line signed BitAnd d = piece_one (operator_code line signed BitAnd) (suc (suc d)) (suc d) refl tt
operator_piece line signed Equal d = piece_one (operator_code line signed Equal) (suc (suc d)) (suc d) refl tt
operator_piece line signed NotEqual d = piece_one (operator_code line signed NotEqual) (suc (suc d)) (suc d) refl tt
operator_piece line true Less d = piece_one (operator_code line true Less) (suc (suc d)) (suc d) refl tt
operator_piece line false Less d = piece_one (operator_code line false Less) (suc (suc d)) (suc d) refl tt
operator_piece line true LessEqual d = piece_one (operator_code line true LessEqual) (suc (suc d)) (suc d) refl tt
operator_piece line false LessEqual d = piece_one (operator_code line false LessEqual) (suc (suc d)) (suc d) refl tt
operator_piece line true Greater d = piece_one (operator_code line true Greater) (suc (suc d)) (suc d) refl tt
operator_piece line false Greater d = piece_one (operator_code line false Greater) (suc (suc d)) (suc d) refl tt
operator_piece line true GreaterEqual d = piece_one (operator_code line true GreaterEqual) (suc (suc d)) (suc d) refl tt
operator_piece line false GreaterEqual d = piece_one (operator_code line false GreaterEqual) (suc (suc d)) (suc d) refl tt
operator_piece line signed ShiftLeft d = piece_one (operator_code line signed ShiftLeft) (suc (suc d)) (suc d) refl tt
operator_piece line signed ShiftRight d = piece_one (operator_code line signed ShiftRight) (suc (suc d)) (suc d) refl tt
operator_piece line signed Add d = piece_one (operator_code line signed Add) (suc (suc d)) (suc d) refl tt
operator_piece line signed Subtract d = piece_one (operator_code line signed Subtract) (suc (suc d)) (suc d) refl tt
operator_piece line signed Multiply d = piece_one (operator_code line signed Multiply) (suc (suc d)) (suc d) refl tt
operator_piece line signed Divide d = piece_one (operator_code line signed Divide) (suc (suc d)) (suc d) refl tt
operator_piece line signed Remainder d = piece_one (operator_code line signed Remainder) (suc (suc d)) (suc d) refl tt

-- ---- expressions

pub term_piece : (known : Known) (line : ℕ) {t : Term} {s : ExprType} (d : ℕ) → TermHasType known t s → IsUntouched t → d + term_height t < 64 → IsPiece (term_code known line t) d (suc d)
term_piece known line d (rule.done well_typed) u h = absurd u
term_piece known line d (rule.word {n = n} fits) u h = push_piece n d (omega arith)
term_piece known line d (rule.int {n = n} fits) u h = push_piece n d (omega arith)
term_piece known line d rule.true_flag u h = push_piece 1 d (omega arith)
term_piece known line d rule.false_flag u h = push_piece 0 d (omega arith)
term_piece known line d (rule.read there) u h = subst (λ c. IsPiece c d (suc d)) (sym (ap (of_slot load_code) there.1)) (load_piece there.0 d (omega arith))
term_piece known line d (rule.element {x = x} {n = n} {t = t} there has index well_typed) u h =
    piece_append (term_code known line t) (of_slot (element_code line) (lookup x known)) d (suc d) (suc d) (term_piece known line d well_typed u (omega arith))
    (subst (λ c. IsPiece c (suc d) (suc d)) (sym (ap (of_slot (element_code line)) there)) (element_piece line n.ty n.index d has))
term_piece known line d (rule.null_test {equal = equal} {n = n} there null) u h =
    subst (λ c. IsPiece c d (suc d)) (sym (ap (null_code equal) there)) (null_piece equal n.ty n.index d null (omega arith))
term_piece known line d (rule.logical_not {t = t} well_typed) u h = piece_append (term_code known line t) (prefix_code LogicalNot ∷ []) d (suc d) (suc d) (term_piece known line d well_typed u (omega arith)) (prefix_piece LogicalNot d)
term_piece known line d (rule.complement {t = t} well_typed) u h = piece_append (term_code known line t) (prefix_code Complement ∷ []) d (suc d) (suc d) (term_piece known line d well_typed u (omega arith)) (prefix_piece Complement d)
term_piece known line d (rule.to_word {t = t} i well_typed) u h = piece_append (term_code known line t) (prefix_code ToWord ∷ []) d (suc d) (suc d) (term_piece known line d well_typed u (omega arith)) (prefix_piece ToWord d)
term_piece known line d (rule.to_int {t = t} i well_typed) u h = piece_append (term_code known line t) (prefix_code ToInt ∷ []) d (suc d) (suc d) (term_piece known line d well_typed u (omega arith)) (prefix_piece ToInt d)
term_piece known line d (rule.both {a = a} {b = b} left right) u h =
    piece_append (term_code known line a) (skip_code true (length (term_code known line b)) ∷ term_code known line b) d (suc d) (suc d) (term_piece known line d left u.0 (omega arith)) (piece_and (term_code known line b) d (term_piece known line d right u.1 (omega arith)))
term_piece known line d (rule.either {a = a} {b = b} left right) u h =
    piece_append (term_code known line a) (skip_code false (length (term_code known line b)) ∷ term_code known line b) d (suc d) (suc d) (term_piece known line d left u.0 (omega arith)) (piece_or (term_code known line b) d (term_piece known line d right u.1 (omega arith)))
term_piece known line d (rule.operator {op = op} {a = a} {b = b} fits left right) u h =
    let last = operator_code line (is_signed known a) op ∷ [] in
    piece_append (term_code known line a) (term_code known line b ++ last) d (suc d) (suc d) (term_piece known line d left u.0 (omega arith))
    (piece_append (term_code known line b) last (suc d) (suc (suc d)) (suc d) (term_piece known line (suc d) right u.1 (omega arith)) (operator_piece line (is_signed known a) op d))

-- an expression with this number of words in front of it
number_piece : (known : Known) (line : ℕ) (t : Term) (s : ExprType) (d : ℕ) → NumberFits known t s → d ≤ 31 → IsPiece (term_code known line t) d (suc d)
number_piece known line t s d h few = let low = h.low in term_piece known line d h.ty h.untouched (omega arith)

-- an expression and the instruction that takes its value
taken_piece : (known : Known) (line : ℕ) (t : Term) (s : ExprType) (last : Instr) → NumberFits known t s → IsPiece (last ∷ []) 1 0 → IsPiece (term_code known line t ++ last ∷ []) 0 0
taken_piece known line t s last h piece = piece_append (term_code known line t) (last ∷ []) 0 1 0 (number_piece known line t s 0 h (omega arith)) piece

-- ---- statements

-- the words that an argument puts onto the stack
abbrev one_word : Where → ℕ
one_word operand.Number = 1
one_word o = 0

words_first : (o : Where) (operands : List Where) → words_taken (o ∷ operands) ≡ one_word o + words_taken operands
words_first operand.Number operands = omega arith
words_first o operands = omega arith

one_at_most : (o : Where) → one_word o ≤ 1
one_at_most operand.Number = omega arith
one_at_most o = omega arith

-- no variable is a word
slot_word : (o : Option Slot) → one_word (operand_of o) ≡ 0
slot_word None = refl
slot_word (Some s) = on_type s.ty s.index
  where
    on_type : (s : ExprType) (i : ℕ) → one_word (variable_operand s i) ≡ 0
    on_type Ref i = refl
    on_type Global i = refl
    on_type Weak i = refl
    on_type FieldId i = refl
    on_type MethodId i = refl
    on_type (Array t n) i = refl
    on_type (Buffer t w) i = refl
    on_type s i = refl

-- and no address
address_word : (o : Option Slot) → one_word (address_operand o) ≡ 0
address_word None = refl
address_word (Some s) = refl

-- an argument that is no number
abbrev TakesNoNumber : ParameterKind → Type 0
TakesNoNumber IntNumber = ⊥
TakesNoNumber Passed = ⊥
TakesNoNumber p = Unit {0}

no_word : (known : Known) (p : ParameterKind) (a : Argument) → TakesNoNumber p → one_word (operand_code known (p, a)) ≡ 0
no_word known IntNumber a h = absurd h
no_word known Passed a h = absurd h
no_word known Mode (tree.Value e) h = refl
no_word known p (tree.Value (tree.Variable x)) h = slot_word (lookup x known)
no_word known p (tree.Value e) h = refl
no_word known p (tree.Text bytes) h = refl
no_word known p (tree.AddressOf x) h = address_word (lookup x known)

empty_piece : (d n : ℕ) → n ≡ 0 → IsPiece [] d (d + n)
empty_piece d n e = subst (IsPiece [] d) (let same : d ≡ d + n = omega (arith, e) in same) (piece_none d)

one_more : (code : List Instr) (d : ℕ) → IsPiece code d (suc d) → IsPiece code d (d + 1)
one_more code d h = subst (IsPiece code d) (let same : suc d ≡ d + 1 = omega arith in same) h

-- what a method is given is a number, or a reference that needs no instruction
passed_slot : (s : ExprType) (i d : ℕ) → ((s ≡ Jint) ⊎ (s ≡ Ref) ⊎ (s ≡ Global)) → d ≤ 31 → IsPiece (number_code s i) d (d + one_word (passed_variable (Some (record { ty = s; index = i }))))
passed_slot s i d (inl e) few =
    subst (λ (r : ExprType). IsPiece (number_code r i) d (d + one_word (passed_variable (Some (record { ty = r; index = i }))))) (sym e) (one_more (instr.Load i ∷ []) d (load_piece i d (omega (arith, few))))
passed_slot s i d (inr (inl e)) few = subst (λ (r : ExprType). IsPiece (number_code r i) d (d + one_word (passed_variable (Some (record { ty = r; index = i }))))) (sym e) (empty_piece d 0 refl)
passed_slot s i d (inr (inr e)) few = subst (λ (r : ExprType). IsPiece (number_code r i) d (d + one_word (passed_variable (Some (record { ty = r; index = i }))))) (sym e) (empty_piece d 0 refl)

passed_piece : (known : Known) (line : ℕ) (e : Expr) (d : ℕ) → PassedFits known e → d ≤ 31 → IsPiece (passed_rest known line e) d (d + one_word (passed_code known e))
passed_piece known line (tree.Named constants.Null) d h few = empty_piece d 0 refl
passed_piece known line (tree.Variable x) d h few = subst (λ o. IsPiece (of_slot number_code o) d (d + one_word (passed_variable o))) (sym h.1) (passed_slot h.0.ty h.0.index d h.2 few)
passed_piece known line e d h few = one_more (expr_code known line e) d (number_piece known line (term_of e) Jint d h few)

argument_piece : (known : Known) (line : ℕ) (p : ParameterKind) (a : Argument) (d : ℕ) → ArgumentFits known p a → d ≤ 31 → IsPiece (argument_code known line (p, a)) d (d + one_word (operand_code known (p, a)))
argument_piece known line IntNumber (tree.Value e) d h few = one_more (expr_code known line e) d (number_piece known line (term_of e) Jint d h few)
argument_piece known line IntNumber a d h few = absurd h
argument_piece known line Passed (tree.Value e) d h few = passed_piece known line e d h few
argument_piece known line Passed a d h few = absurd h
argument_piece known line p a d h few = empty_piece d (one_word (operand_code known (p, a))) (no_word known p a tt)

-- the arguments put as many words onto the stack as the call takes
arguments_piece : (known : Known) (line : ℕ) (parameters : List ParameterKind) (arguments : List Argument) (d : ℕ) → AllZip (ArgumentFits known) parameters arguments → d + length parameters ≤ 31
    → IsPiece (arguments_code known line (zip parameters arguments)) d (d + words_taken (map (operand_code known) (zip parameters arguments)))
arguments_piece known line [] [] d h few = empty_piece d 0 refl
arguments_piece known line [] (a ∷ arguments) d h few = absurd h
arguments_piece known line (p ∷ parameters) [] d h few = absurd h
arguments_piece known line (p ∷ parameters) (a ∷ arguments) d h few =
    let o = operand_code known (p, a) in
    let further = map (operand_code known) (zip parameters arguments) in
    let one = one_at_most o in
    let low : d + one_word o + length parameters ≤ 31 = omega (arith, few, one) in
    let whole : d + one_word o + words_taken further ≡ d + words_taken (o ∷ further) = omega (arith, words_first o further) in
    piece_append (argument_code known line (p, a)) (arguments_code known line (zip parameters arguments)) d (d + one_word o) (d + words_taken (o ∷ further)) (argument_piece known line p a d h.0 (omega (arith, few)))
    (subst (IsPiece (arguments_code known line (zip parameters arguments)) (d + one_word o)) whole (arguments_piece known line parameters arguments (d + one_word o) h.1 low))

call_instr : (line : ℕ) (target : Target) (f : JniFunction) (operands : List Where) (texts : List (List ℕ)) (n m : ℕ) → words_taken operands ≡ n → with_result target 0 ≡ Some m → IsPiece (instr.Call (record { line = line; target = target; function = f; operands = operands; texts = texts }) ∷ []) n m
call_instr line target f operands texts n m same gives =
    let none : n - n ≡ 0 = omega arith in
    piece_one (instr.Call _) n m (rw (same, le-leb n n (omega arith), none) gives) tt

-- a call, which leaves the truth on the stack if it is tested
call_piece : (known : Known) (line : ℕ) (target : Target) (c : Call) (m : ℕ) → CallFits known c → with_result target 0 ≡ Some m → IsPiece (named_call_code known line target (function_named c.function) c.arguments) 0 m
call_piece known line target c m fits gives =
    let parameters = parameters_for fits.function (length c.arguments) in
    let few = few_arguments fits.function (length c.arguments) fits.count in
    let given = zip parameters c.arguments in
    let operands = map (operand_code known) given in
    let call = instr.Call (record { line = line; target = target; function = fits.function; operands = operands; texts = arguments_texts c.arguments }) ∷ [] in
    let none : words_taken operands ≡ 0 + words_taken operands = omega arith in
    subst (λ o. IsPiece (named_call_code known line target o c.arguments) 0 m) (sym fits.named)
    (piece_append (arguments_code known line given) call 0 (0 + words_taken operands) m (arguments_piece known line parameters c.arguments 0 fits.arguments (omega (arith, few)))
    (call_instr line target fits.function operands (arguments_texts c.arguments) (0 + words_taken operands) m none gives))

value_piece : (known : Known) (line : ℕ) (kind : ExprType) (i : ℕ) (e : Expr) → ValueFits known kind e → IsPiece (value_code known line (record { ty = kind; index = i }) e) 0 0
value_piece known line types.Word i e fits = subst (λ c. IsPiece c 0 0) (sym (value_is known line (record { ty = types.Word; index = i }) e types.Word fits)) (taken_piece known line (term_of e) types.Word (instr.Store i) fits (piece_one (instr.Store i) 1 0 refl tt))
value_piece known line Jint i e fits = subst (λ c. IsPiece c 0 0) (sym (value_is known line (record { ty = Jint; index = i }) e Jint fits)) (taken_piece known line (term_of e) Jint (instr.Store i) fits (piece_one (instr.Store i) 1 0 refl tt))
value_piece known line types.Flag i e fits = subst (λ c. IsPiece c 0 0) (sym (value_is known line (record { ty = types.Flag; index = i }) e types.Flag fits)) (taken_piece known line (term_of e) types.Flag (instr.Store i) fits (piece_one (instr.Store i) 1 0 refl tt))
value_piece known line types.Truth i e fits = absurd fits
value_piece known line Ref i e fits = subst (λ (d : Expr). IsPiece (value_code known line (record { ty = Ref; index = i }) d) 0 0) (sym fits) (piece_one (instr.StoreNull _) 0 0 refl tt)
value_piece known line Global i e fits = subst (λ (d : Expr). IsPiece (value_code known line (record { ty = Global; index = i }) d) 0 0) (sym fits) (piece_one (instr.StoreNull _) 0 0 refl tt)
value_piece known line Weak i e fits = subst (λ (d : Expr). IsPiece (value_code known line (record { ty = Weak; index = i }) d) 0 0) (sym fits) (piece_one (instr.StoreNull _) 0 0 refl tt)
value_piece known line FieldId i e fits = subst (λ (d : Expr). IsPiece (value_code known line (record { ty = FieldId; index = i }) d) 0 0) (sym fits) (piece_one (instr.StoreNull _) 0 0 refl tt)
value_piece known line MethodId i e fits = subst (λ (d : Expr). IsPiece (value_code known line (record { ty = MethodId; index = i }) d) 0 0) (sym fits) (piece_one (instr.StoreNull _) 0 0 refl tt)
value_piece known line (Buffer t w) i e fits = subst (λ (d : Expr). IsPiece (value_code known line (record { ty = Buffer t w; index = i }) d) 0 0) (sym fits) (piece_one (instr.StoreNull _) 0 0 refl tt)
value_piece known line (Array t n) i e fits = absurd fits

right_piece : (known : Known) (line : ℕ) (s : Slot) (r : RightSide) → RightFits known s.ty r → IsPiece (right_code known line s r) 0 0
right_piece known line s (FromExpr e) fits = value_piece known line s.ty s.index e fits
right_piece known line s (FromCall c) fits = call_piece known line (result_target s.ty s.index) c 0 fits.fits (into_variable s.ty s.index)
  where
    into_variable : (s : ExprType) (i : ℕ) → with_result (result_target s i) 0 ≡ Some 0
    into_variable Ref i = refl
    into_variable Global i = refl
    into_variable Weak i = refl
    into_variable FieldId i = refl
    into_variable MethodId i = refl
    into_variable s i = refl

return_piece : (known : Known) (line : ℕ) (t : Term) → ReturnFits known t → IsPiece (return_code known line t) 0 0
return_piece known line (term.Named constants.Null) fits = piece_one (instr.ReturnReference _) 0 0 refl tt
return_piece known line (Read x) (s, found, inl e) =
    subst (λ c. IsPiece c 0 0) (sym (ap (of_slot returned_code) (found ∙ ap (λ (r : ExprType). Some (record { ty = r; index = s.index })) e))) (piece_one (instr.ReturnReference _) 0 0 refl tt)
return_piece known line (Read x) (s, found, inr e) =
    subst (λ c. IsPiece c 0 0) (sym (ap (of_slot returned_code) (found ∙ ap (λ (r : ExprType). Some (record { ty = r; index = s.index })) e)))
    (piece_append (instr.Load s.index ∷ []) (instr.ReturnJint ∷ []) 0 1 0 (load_piece s.index 0 (omega arith)) (piece_one instr.ReturnJint 1 0 refl tt))
return_piece known line t fits = taken_piece known line t Jint instr.ReturnJint fits (piece_one instr.ReturnJint 1 0 refl tt)

test_piece : (known : Known) (line : ℕ) (test : Test) → TestFits known test → IsPiece (test_code known line test) 0 1
test_piece known line (TestExpr e) fits = number_piece known line (term_of e) types.Truth 0 fits (omega arith)
test_piece known line (TestCall c) fits = call_piece known line destination.Test c 1 fits.fits refl

if_piece : (known : Known) (line : ℕ) (test : Test) (then' else' : List Instr) → TestFits known test → IsPiece then' 0 0 → IsPiece else' 0 0 → IsPiece (if_code known line test then' else') 0 0
if_piece known line test then' else' fits h k =
    piece_append (test_code known line test) (paths_code then' (else' ++ instr.Jump 0 ∷ [])) 0 1 0 (test_piece known line test fits) (piece_if then' (else' ++ instr.Jump 0 ∷ []) h (piece_append else' (instr.Jump 0 ∷ []) 0 0 0 k piece_end))

write_piece : (l : Layout) (line : ℕ) (x : Identifier) (i e : Expr) → StmtFits l (tree.Plain line (tree.AssignElement x i e)) → IsPiece (stmt_code l (tree.Plain line (tree.AssignElement x i e))) 0 0
write_piece l line x i e fits =
    piece_append (expr_code l.known line i) (expr_code l.known line e ++ of_slot (write_code line) (lookup x l.known)) 0 1 0 (number_piece l.known line (term_of i) fits.1.0 0 fits.1.2 (omega arith))
    (piece_append (expr_code l.known line e) (of_slot (write_code line) (lookup x l.known)) 1 2 0 (number_piece l.known line (term_of e) Jint 1 fits.2 (omega arith))
    (subst (λ c. IsPiece c 2 0) (sym (ap (of_slot (write_code line)) fits.0.1)) (written_piece line fits.0.0.ty fits.0.0.index fits.0.2)))

mutual
  pub stmt_piece : (s : Stmt) (l : Layout) → StmtFits l s → IsPiece (stmt_code l s) 0 0
  stmt_piece (tree.Plain line (tree.Declare t x r)) l fits = right_piece l.known line (new_slot (declared_type t) l) r fits.1
  stmt_piece (tree.Plain line (tree.DeclareArray t x size)) l fits = piece_one (instr.ClearArray _) 0 0 refl tt
  stmt_piece (tree.Plain line (tree.Assign x r)) l fits = subst (λ (o : Option Slot). IsPiece (assign_code l.known line o r) 0 0) (sym fits.1) (right_piece l.known line fits.0 r fits.2)
  stmt_piece (tree.Plain line (tree.AssignElement x i e)) l fits = write_piece l line x i e fits
  stmt_piece (tree.Plain line (tree.Perform c)) l fits = call_piece l.known line destination.Dropped c 0 fits.fits refl
  stmt_piece (tree.Plain line (tree.PutJint e)) l fits = taken_piece l.known line (term_of e) Jint instr.PutJint fits (piece_one instr.PutJint 1 0 refl tt)
  stmt_piece (tree.If line test then' tree.NoElse) l fits = if_piece l.known line test (block_code l then') [] fits.0 (block_piece then' l fits.1) (piece_none 0)
  stmt_piece (tree.If line test then' (tree.ElseBlock else')) l fits =
      if_piece l.known line test (block_code l then') (block_code (closed l (block_layout l then')) else') fits.0 (block_piece then' l fits.1) (block_piece else' (closed l (block_layout l then')) fits.2)
  stmt_piece (tree.While line test body) l fits = piece_loop (expr_code l.known line test) (block_code l body) (number_piece l.known line (term_of test) types.Truth 0 fits.0 (omega arith)) (block_piece body l fits.1)
  stmt_piece (tree.Return line None) l fits = piece_one instr.Return 0 0 refl tt
  stmt_piece (tree.Return line (Some e)) l fits = return_piece l.known line (term_of e) fits

  pub block_piece : (b : Block) (l : Layout) → BlockFits l b → IsPiece (block_code l b) 0 0
  block_piece (End line) l fits = piece_none 0
  block_piece (Next s rest) l fits = piece_append (stmt_code l s) (block_code (layout_after l s) rest) 0 0 0 (stmt_piece s l fits.0) (block_piece rest (layout_after l s) fits.1)
