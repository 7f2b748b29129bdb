-- What has a type uses no name that isn't known, and so a statement without a call that fits uses none.
use Rattle.std.proofs.lemmas.List.Folds.{list_any-append}
use Rattle.std.proofs.lemmas.Bool.{and_parts, or_cases}
use Rattle.std.proofs.Common.{◌≡◌, ◌⊎◌, is_none, Bool, true, false, not, ◌&&◌, ◌||◌, List, [], ◌++◌, Option, Some, None, is_some, refl, sym, ap, ◌∙◌, if◌then◌else◌, inl, inr}
use Rattle.std.specs.List.{list_any, list_all}
use Rattle.std.specs.Option.{option_or}
use Rattle.base.specs.Bytes.{Identifier}
use Rattle.base.specs.Options.{some_passes}
use Rattle.syntax.specs.Parts.{names_in, null_tested, own_call, own_expressions, assigned_name}
use Rattle.syntax.specs.declared.unit.ResultType.{ResultType}
use Rattle.syntax.specs.declared.unit.ResultType.TheVariants.{Void, Jint as IntResult, Reference as ReferenceResult}
use Rattle.syntax.specs.declared.expr.PrefixOp.{PrefixOp}
use Rattle.syntax.specs.declared.expr.PrefixOp.TheVariants.{LogicalNot, Complement, ToWord, ToInt}
use Rattle.syntax.specs.declared.expr.BinaryOp.{BinaryOp}
use Rattle.syntax.specs.declared.expr.BinaryOp.TheVariants.{Equal, NotEqual}
use Rattle.syntax.specs.declared.expr.Constant.TheVariants.{Null}
use Rattle.syntax.specs.declared.declared_type.DeclaredType.TheVariants.{Simple, Pointer, ConstChars}
use Rattle.syntax.specs.Tree.{Expr, Number, Named, Variable, Element, Prefix, Binary, Paren, FromExpr, FromCall, TestExpr, TestCall, Stmt, Plain, Declare, DeclareArray, Assign, AssignElement, Perform, PutJint, If, While, Return}
use Rattle.type_rules.specs.declared.ty.ExprType.{ExprType}
use Rattle.type_rules.specs.declared.ty.ExprType.TheVariants.{Word, Jint, Flag, Truth, Ref, Global, Weak, FieldId, MethodId, Buffer, Array}
use Rattle.type_rules.specs.ExprTypes.{Scope, type_of, type_in, prefix_type, binary_type, OperatorGroup, Logic, Equality, Order, OnWords, group, null_test_type, has_elements, is_index, is_word, is_jint, is_flag, is_truth, is_ref, is_null, name_type, is_nullable, is_unknown}
use Rattle.type_rules.specs.declared.rule.TypeRule.TheVariants.{TypeMisfit, UnknownName}
use Rattle.type_rules.specs.TypeRules.{is_formed, variable_type, value_sets, return_fits, statement_fits, breaks_type_rule}
use Rattle.type_rules.specs.Uses.{expr_uses, uses}
use Rattle.type_rules.proofs.TypeCases.{none_right}
use Rattle.types.proofs.FormedLemmas.{some_of}
use Rattle.types.proofs.StatementLemmas.{unknown_names}

-- ---- operators

prefix_operand : (op : PrefixOp) (o : Option ExprType) → is_some (prefix_type op o) ≡ true → is_some o ≡ true
prefix_operand op (Some s) h = refl
prefix_operand LogicalNot None h = absurd cc
prefix_operand Complement None h = absurd cc
prefix_operand ToWord None h = absurd cc
prefix_operand ToInt None h = absurd cc

binary_left : (g : OperatorGroup) (o r : Option ExprType) → is_some (binary_type g o r) ≡ true → is_some o ≡ true
binary_left g (Some s) r h = refl
binary_left Logic None r h = absurd cc
binary_left Equality None r h = absurd cc
binary_left Order None r h = absurd cc
binary_left OnWords None r h = absurd cc

binary_right : (g : OperatorGroup) (o r : Option ExprType) → is_some (binary_type g o r) ≡ true → is_some r ≡ true
binary_right g o (Some s) h = refl
binary_right g o None h = let f : true ≡ false = sym h ∙ ap is_some (none_right g o) in absurd cc

-- no null test, or one of a name
null_cases : (op : BinaryOp) (a b : Expr) → (null_tested (Binary op a b) ≡ None) ⊎ ((x : Identifier) × (a ≡ Variable x) × (b ≡ Named Null) × (null_tested (Binary op a b) ≡ Some x))
null_cases Equal (Variable x) (Named Null) = inr (x, refl, refl, refl)
null_cases NotEqual (Variable x) (Named Null) = inr (x, refl, refl, refl)
null_cases op a b = inl refl

-- ---- expressions

element_parts : (o r : Option ExprType) → is_some (if has_elements o && is_index r then Some Jint else None) ≡ true → (is_some o ≡ true) × (is_some r ≡ true)
element_parts (Some s) (Some u) h = (refl, refl)
element_parts None r h = absurd cc
element_parts (Some s) None h = index_missing (has_elements (Some s)) h
  where
    index_missing : (b : Bool) → is_some (if b && false then Some Jint else None) ≡ true → (true ≡ true) × (false ≡ true)
    index_missing true h = absurd cc
    index_missing false h = absurd cc

compared : (g : OperatorGroup) (o : Option ExprType) → is_some (option_or (if is_nullable o then Some Truth else None) (binary_type g o None)) ≡ true → is_some o ≡ true
compared g (Some s) h = refl
compared g None h = binary_left g None None h

known_name : (scope : Scope) (x : Identifier) → is_some (type_in scope x) ≡ true → is_unknown scope x ≡ false
known_name scope x h = on_type (type_in scope x) h
  where
    on_type : (o : Option ExprType) → is_some o ≡ true → is_none o ≡ false
    on_type (Some s) h = refl
    on_type None h = absurd cc

-- none among the names of both
in_both : (p : Identifier → Bool) (xs ys : List Identifier) → list_any p xs ≡ false → list_any p ys ≡ false → list_any p (xs ++ ys) ≡ false
in_both p xs ys h k = list_any-append p xs ys ∙ (λ i. h i || k i)

pub typed_known : (scope : Scope) (e : Expr) → is_some (type_of scope e) ≡ true → expr_uses (is_unknown scope) e ≡ false
typed_known scope (Number n unsigned) h = refl
typed_known scope (Named c) h = refl
typed_known scope (Variable x) h = ap (λ b. b || false) (known_name scope x h)
typed_known scope (Element x i) h =
    let parts = element_parts (type_in scope x) (type_of scope i) h in
    (λ j. known_name scope x parts.0 j || typed_known scope i parts.1 j)
typed_known scope (Prefix op a) h = typed_known scope a (prefix_operand op (type_of scope a) h)
typed_known scope (Paren a) h = typed_known scope a h
typed_known scope (Binary op a b) h = elim (null_cases op a b) [
  | inl none ↦
      let g = group op in
      let well_typed : is_some (binary_type g (type_of scope a) (type_of scope b)) ≡ true =
      ap (λ (o : Option Identifier). is_some (option_or (null_test_type scope o) (binary_type g (type_of scope a) (type_of scope b)))) (sym none) ∙ h in
      in_both (is_unknown scope) (names_in a) (names_in b) (typed_known scope a (binary_left g (type_of scope a) (type_of scope b) well_typed)) (typed_known scope b (binary_right g (type_of scope a) (type_of scope b) well_typed))
  | inr named ↦
      let x = named.0 in
      let g = group op in
      let well_typed : is_some (option_or (null_test_type scope (Some x)) (binary_type g (type_in scope x) None)) ≡ true =
      sym (λ i. is_some (option_or (null_test_type scope (named.3 i)) (binary_type g (type_of scope (named.1 i)) (type_of scope (named.2 i))))) ∙ h in
      (λ i. list_any (is_unknown scope) (names_in (named.1 i) ++ names_in (named.2 i))) ∙ ap (λ b. b || false) (known_name scope x (compared g (type_in scope x) well_typed))
]

-- ---- statements

on_type : (known : Scope) (p : Option ExprType → Bool) (e : Expr) → p None ≡ false → p (type_of known e) ≡ true → expr_uses (is_unknown known) e ≡ false
on_type known p e none h = typed_known known e (some_of p (type_of known e) none h)

null_known : (known : Scope) (e : Expr) → is_null e ≡ true → expr_uses (is_unknown known) e ≡ false
null_known known (Named c) h = refl
null_known known e h = absurd cc

name_known : (known : Scope) (p : Option ExprType → Bool) (e : Expr) → p None ≡ false → p (name_type known e) ≡ true → expr_uses (is_unknown known) e ≡ false
name_known known p (Variable x) none h = ap (λ b. b || false) (known_name known x (some_of p (type_in known x) none h))
name_known known p (Number n unsigned) none h = refl
name_known known p (Named c) none h = refl
name_known known p (Element x i) none h = let f : true ≡ false = sym h ∙ none in absurd cc
name_known known p (Prefix op a) none h = let f : true ≡ false = sym h ∙ none in absurd cc
name_known known p (Binary op a b) none h = let f : true ≡ false = sym h ∙ none in absurd cc
name_known known p (Paren a) none h = let f : true ≡ false = sym h ∙ none in absurd cc

value_known : (known : Scope) (o : Option ExprType) (e : Expr) → value_sets known o e ≡ true → expr_uses (is_unknown known) e ≡ false
value_known known (Some Word) e h = on_type known is_word e refl h
value_known known (Some Jint) e h = on_type known is_jint e refl h
value_known known (Some Flag) e h = on_type known is_flag e refl h
value_known known (Some Ref) e h = elim (or_cases (is_null e) (is_some (name_type known e)) h) [ inl w ↦ null_known known e w | inr w ↦ name_known known is_some e refl w ]
value_known known (Some Global) e h = null_known known e h
value_known known (Some Weak) e h = null_known known e h
value_known known (Some FieldId) e h = null_known known e h
value_known known (Some MethodId) e h = null_known known e h
value_known known (Some Truth) e h = absurd cc
value_known known (Some (Buffer t writable)) e h = absurd cc
value_known known (Some (Array t size)) e h = absurd cc
value_known known None e h = absurd cc

return_known : (known : Scope) (returns : ResultType) (e : Expr) → return_fits known returns e ≡ true → expr_uses (is_unknown known) e ≡ false
return_known known Void e h = absurd cc
return_known known IntResult e h = on_type known is_jint e refl h
return_known known (ReferenceResult r) e h = elim (or_cases (is_null e) (is_ref (name_type known e)) h) [ inl w ↦ null_known known e w | inr w ↦ name_known known is_ref e refl w ]

set_known : (known : Scope) (o : Option ExprType) (e : Expr) → value_sets known o e ≡ true → is_some o ≡ true
set_known known (Some s) e h = refl
set_known known None e h = absurd cc

elements_some : (o : Option ExprType) → has_elements o ≡ true → is_some o ≡ true
elements_some (Some s) h = refl
elements_some None h = absurd cc

-- the names that a statement without a call uses, or sets
pub fit_known : (known : Scope) (returns : ResultType) (s : Stmt) → own_call s ≡ None → statement_fits known returns s ≡ true → (uses (is_unknown known) s || some_passes (is_unknown known) (assigned_name s)) ≡ false
fit_known known returns (Plain line (Declare (Simple t) x (FromExpr e))) none h = ap (λ b. b || false) (value_known known (Some (variable_type t)) e h)
fit_known known returns (Plain line (Declare (Pointer t) x (FromExpr e))) none h = ap (λ b. b || false) (null_known known e h)
fit_known known returns (Plain line (Declare ConstChars x (FromExpr e))) none h = ap (λ b. b || false) (null_known known e h)
fit_known known returns (Plain line (DeclareArray t x size)) none h = refl
fit_known known returns (Plain line (Assign x (FromExpr e))) none h = (λ i. value_known known (type_in known x) e h i || known_name known x (set_known known (type_in known x) e h) i)
fit_known known returns (Plain line (AssignElement x i e)) none h =
    let p = and_parts (has_elements (type_in known x) && is_index (type_of known i)) (is_jint (type_of known e)) h in
    let q = and_parts (has_elements (type_in known x)) (is_index (type_of known i)) p.0 in
    (λ j. ((known_name known x (elements_some (type_in known x) q.0) j || on_type known is_index i refl q.1 j) || on_type known is_jint e refl p.1 j) || false)
fit_known known returns (Plain line (PutJint e)) none h = ap (λ b. b || false) (on_type known is_jint e refl h)
fit_known known returns (If line (TestExpr e) b d) none h = ap (λ b. b || false) (on_type known is_truth e refl h)
fit_known known returns (While line e b) none h = ap (λ b. b || false) (on_type known is_truth e refl h)
fit_known known returns (Return line None) none h = refl
fit_known known returns (Return line (Some e)) none h = ap (λ b. b || false) (return_known known returns e h)
fit_known known returns (Plain line (Declare t x (FromCall c))) none h = absurd cc
fit_known known returns (Plain line (Assign x (FromCall c))) none h = absurd cc
fit_known known returns (Plain line (Perform c)) none h = absurd cc
fit_known known returns (If line (TestCall c) b d) none h = absurd cc

-- a statement that breaks no rule of types and has no call names nothing unknown
pub none_unknown : (known : Scope) (returns : ResultType) (s : Stmt) → own_call s ≡ None → breaks_type_rule TypeMisfit known [] returns s ≡ false → breaks_type_rule UnknownName known [] Void s ≡ false
none_unknown known returns s none h = unknown_names known s ∙ fit_known known returns s none (fits (list_all (is_formed known) (own_expressions s)) (statement_fits known returns s) _ h)
  where
    fits : (a b c : Bool) → (not a || not b || c) ≡ false → b ≡ true
    fits a true c h = refl
    fits true false c h = absurd cc
    fits false false c h = absurd cc
