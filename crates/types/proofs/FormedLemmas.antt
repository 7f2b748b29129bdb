-- Where a statement fits, its expressions beside a call's arguments are bare or have types.
use Rattle.std.proofs.Common.{◌≡◌, Bool, true, false, not, ◌&&◌, ◌||◌, [], ◌∷◌, Option, Some, None, refl, sym, ap, ◌∙◌, inl, inr}
use Rattle.std.specs.List.{list_all}
use Rattle.std.specs.Prelude.{is_some}
use Rattle.std.proofs.lemmas.Bool.{and_parts, or_cases}
use Rattle.base.specs.Options.{some_passes}
use Rattle.syntax.specs.Parts.{own_call, own_expressions, call_expressions}
use Rattle.syntax.specs.declared.unit.ResultType.{ResultType}
use Rattle.syntax.specs.declared.unit.ResultType.TheVariants.{Void, Jint as IntResult, Reference as ReferenceResult}
use Rattle.syntax.specs.declared.declared_type.DeclaredType.TheVariants.{Simple, Pointer, ConstChars}
use Rattle.syntax.specs.Tree.{Expr, Number, Named, Variable, Element, Prefix, Binary, Paren, Call, FromExpr, FromCall, TestExpr, TestCall, Stmt, Plain, Declare, DeclareArray, Assign, AssignElement, Perform, PutJint, If, While, Return}
use Rattle.jni.specs.JniFunction.{function_named}
use Rattle.type_rules.specs.declared.ty.ExprType.{ExprType}
use Rattle.type_rules.specs.declared.ty.ExprType.TheVariants.{Word, Jint, Flag, Truth, Ref, Global, Weak, FieldId, MethodId, Buffer, Array}
use Rattle.type_rules.specs.ExprTypes.{Scope, type_in, type_of, has_elements, is_index, is_word, is_jint, is_flag, is_truth, is_ref, is_null, name_type, call_arguments_fit}
use Rattle.type_rules.specs.declared.rule.TypeRule.TheVariants.{TypeMisfit}
use Rattle.type_rules.specs.TypeRules.{is_formed, variable_type, value_sets, return_fits, statement_fits, breaks_type_rule}

-- ---- one expression

well_typed : (known : Scope) (e : Expr) → is_some (type_of known e) ≡ true → is_formed known e ≡ true
well_typed known (Number n unsigned) h = h
well_typed known (Named c) h = refl
well_typed known (Variable x) h = refl
well_typed known (Element x i) h = h
well_typed known (Prefix op a) h = h
well_typed known (Binary op a b) h = h
well_typed known (Paren a) h = h

pub some_of : (p : Option ExprType → Bool) (o : Option ExprType) → p None ≡ false → p o ≡ true → is_some o ≡ true
some_of p None none h = let f : true ≡ false = sym h ∙ none in absurd cc
some_of p (Some s) none h = refl

on_type : (known : Scope) (p : Option ExprType → Bool) (e : Expr) → p None ≡ false → p (type_of known e) ≡ true → is_formed known e ≡ true
on_type known p e none h = well_typed known e (some_of p (type_of known e) none h)

null_formed : (known : Scope) (e : Expr) → is_null e ≡ true → is_formed known e ≡ true
null_formed known (Number n unsigned) h = absurd cc
null_formed known (Named c) h = refl
null_formed known (Variable x) h = refl
null_formed known (Element x i) h = absurd cc
null_formed known (Prefix op a) h = absurd cc
null_formed known (Binary op a b) h = absurd cc
null_formed known (Paren a) h = absurd cc

name_formed : (known : Scope) (p : Option ExprType → Bool) (e : Expr) → p None ≡ false → p (name_type known e) ≡ true → is_formed known e ≡ true
name_formed known p (Number n unsigned) none h = let f : true ≡ false = sym h ∙ none in absurd cc
name_formed known p (Named c) none h = refl
name_formed known p (Variable x) none h = refl
name_formed known p (Element x i) none h = let f : true ≡ false = sym h ∙ none in absurd cc
name_formed known p (Prefix op a) none h = let f : true ≡ false = sym h ∙ none in absurd cc
name_formed known p (Binary op a b) none h = let f : true ≡ false = sym h ∙ none in absurd cc
name_formed known p (Paren a) none h = let f : true ≡ false = sym h ∙ none in absurd cc

value_formed : (known : Scope) (o : Option ExprType) (e : Expr) → value_sets known o e ≡ true → is_formed known e ≡ true
value_formed known (Some Word) e h = on_type known is_word e refl h
value_formed known (Some Jint) e h = on_type known is_jint e refl h
value_formed known (Some Flag) e h = on_type known is_flag e refl h
value_formed known (Some Ref) e h = elim (or_cases (is_null e) (is_some (name_type known e)) h) [ inl w ↦ null_formed known e w | inr w ↦ name_formed known is_some e refl w ]
value_formed known (Some Global) e h = null_formed known e h
value_formed known (Some Weak) e h = null_formed known e h
value_formed known (Some FieldId) e h = null_formed known e h
value_formed known (Some MethodId) e h = null_formed known e h
value_formed known (Some Truth) e h = absurd cc
value_formed known (Some (Buffer t writable)) e h = absurd cc
value_formed known (Some (Array t size)) e h = absurd cc
value_formed known None e h = absurd cc

return_formed : (known : Scope) (returns : ResultType) (e : Expr) → return_fits known returns e ≡ true → is_formed known e ≡ true
return_formed known Void e h = absurd cc
return_formed known IntResult e h = on_type known is_jint e refl h
return_formed known (ReferenceResult r) e h = elim (or_cases (is_null e) (is_ref (name_type known e)) h) [ inl w ↦ null_formed known e w | inr w ↦ name_formed known is_ref e refl w ]

-- ---- the expressions of a statement

one : (known : Scope) (e : Expr) → is_formed known e ≡ true → list_all (is_formed known) (e ∷ []) ≡ true
one known e h = rw h refl

two : (known : Scope) (e f : Expr) → is_formed known e ≡ true → is_formed known f ≡ true → list_all (is_formed known) (e ∷ f ∷ []) ≡ true
two known e f h k = rw (h, k) refl

-- those in a call's arguments
abbrev in_call : Scope → Option Call → Bool
in_call known None = true
in_call known (Some c) = list_all (is_formed known) (call_expressions c)

formed_is : (known : Scope) (returns : ResultType) (s : Stmt) → statement_fits known returns s ≡ true → list_all (is_formed known) (own_expressions s) ≡ in_call known (own_call s)
formed_is known returns (Plain line (Declare (Simple t) x (FromExpr e))) h = one known e (value_formed known (Some (variable_type t)) e h)
formed_is known returns (Plain line (Declare t x (FromCall c))) h = refl
formed_is known returns (Plain line (Declare (Pointer t) x (FromExpr e))) h = one known e (null_formed known e h)
formed_is known returns (Plain line (Declare ConstChars x (FromExpr e))) h = one known e (null_formed known e h)
formed_is known returns (Plain line (DeclareArray t x size)) h = refl
formed_is known returns (Plain line (Assign x (FromExpr e))) h = one known e (value_formed known (type_in known x) e h)
formed_is known returns (Plain line (Assign x (FromCall c))) h = refl
formed_is known returns (Plain line (AssignElement x i e)) h =
    let p = and_parts (has_elements (type_in known x) && is_index (type_of known i)) (is_jint (type_of known e)) h in
    let q = and_parts (has_elements (type_in known x)) (is_index (type_of known i)) p.0 in
    two known i e (on_type known is_index i refl q.1) (on_type known is_jint e refl p.1)
formed_is known returns (Plain line (Perform c)) h = refl
formed_is known returns (Plain line (PutJint e)) h = one known e (on_type known is_jint e refl h)
formed_is known returns (If line (TestExpr e) b d) h = one known e (on_type known is_truth e refl h)
formed_is known returns (If line (TestCall c) b d) h = refl
formed_is known returns (While line e b) h = one known e (on_type known is_truth e refl h)
formed_is known returns (Return line None) h = refl
formed_is known returns (Return line (Some e)) h = one known e (return_formed known returns e h)

abbrev fit : Scope → Call → Bool
fit known c = call_arguments_fit known c (function_named c.function)

with_formed : (known : Scope) (o : Option Call) → some_passes (λ c. not (list_all (is_formed known) (call_expressions c)) || not (fit known c)) o ≡ (not (in_call known o) || some_passes (λ c. not (fit known c)) o)
with_formed known None = refl
with_formed known (Some c) = refl

-- what doesn't fit of a statement whose own rule holds
pub misfits_is : (known : Scope) (returns : ResultType) (s : Stmt) → statement_fits known returns s ≡ true → some_passes (λ c. not (list_all (is_formed known) (call_expressions c)) || not (call_arguments_fit known c (function_named c.function))) (own_call s) ≡ breaks_type_rule TypeMisfit known [] returns s
misfits_is known returns s is =
    with_formed known (own_call s)
    ∙ ap (λ b. not b || some_passes (λ c. not (fit known c)) (own_call s)) (sym (formed_is known returns s is))
    ∙ besides (list_all (is_formed known) (own_expressions s)) (statement_fits known returns s) _ is
  where
    besides : (a b c : Bool) → b ≡ true → (not a || c) ≡ (not a || not b || c)
    besides true b c h = rw h refl
    besides false b c h = refl
