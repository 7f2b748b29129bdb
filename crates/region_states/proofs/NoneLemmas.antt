-- A statement uses and reads no name about which the answer is yes, where there is none.
use Rattle.std.proofs.Common.{◌≡◌, Bool, true, false, ◌||◌, if◌then◌else◌, List, [], ◌∷◌, Option, Some, None, refl, ◌∙◌}
use Rattle.std.specs.List.{list_any}
use Rattle.std.specs.Str.{bytes_eq}
use Rattle.std.proofs.lemmas.Bool.{or_parts}
use Rattle.base.specs.Bytes.{Identifier, lookup}
use Rattle.syntax.specs.Parts.{names_in, elements_in}
use Rattle.syntax.specs.Tree.{Expr, Argument, Value, Text, AddressOf, RightSide, FromExpr, FromCall, Test, TestExpr, TestCall, Stmt, Plain, Declare, DeclareArray, Assign, AssignElement, Perform, PutJint, If, While, Return}
use Rattle.type_rules.specs.Uses.{expr_uses, argument_uses, right_uses, test_uses, uses}
use Rattle.region_states.specs.Reads.{expr_reads, argument_reads, right_reads, test_reads, reads}
use Rattle.region_rules.specs.RegionStates.{RegionState, VariableState}
use Rattle.region_states.specs.StatesInMemory.{asks, any_asked, condition_holds}
use Rattle.region_states.specs.SameStates.{NamedState}
use Rattle.region_states.specs.declared.states.Condition.{Condition}
use Rattle.region_states.specs.declared.states.Condition.TheVariants as condition

-- the answer is no about a name that isn't known
unknown : (q : Condition) → condition_holds q None ≡ false
unknown condition.Dead = refl
unknown condition.Reference = refl
unknown condition.Untested = refl
unknown condition.Free = refl
unknown condition.Held = refl
unknown condition.Critical = refl

-- what is asked of one of two
one : (q : Condition) (b : Bool) (o r : Option VariableState) → condition_holds q o ≡ false → condition_holds q r ≡ false → condition_holds q (if b then o else r) ≡ false
one q true o r h k = h
one q false o r h k = k

found : (q : Condition) (x : Identifier) (vs : List NamedState) → list_any (λ (v : NamedState). condition_holds q (Some v.1)) vs ≡ false → condition_holds q (lookup x vs) ≡ false
found q x [] h = unknown q
found q x ((y, v) ∷ vs) h =
    let both = or_parts (condition_holds q (Some v)) (list_any (λ (w : NamedState). condition_holds q (Some w.1)) vs) h in
    one q (bytes_eq x y) (Some v) (lookup x vs) both.0 (found q x vs both.1)

module _ (q : Condition) (state : RegionState) (none : any_asked q state ≡ false) where
  no : (x : Identifier) → asks q state x ≡ false
  no x = found q x state.variables none

  all_no : (xs : List Identifier) → list_any (asks q state) xs ≡ false
  all_no [] = refl
  all_no (x ∷ xs) = (λ i. no x i || list_any (asks q state) xs) ∙ all_no xs

  -- ---- what is used

  expr_uses_no : (e : Expr) → expr_uses (asks q state) e ≡ false
  expr_uses_no e = all_no (names_in e)

  argument_uses_no : (a : Argument) → argument_uses (asks q state) a ≡ false
  argument_uses_no (Value e) = expr_uses_no e
  argument_uses_no (Text t) = refl
  argument_uses_no (AddressOf x) = no x

  call_uses_no : (args : List Argument) → list_any (argument_uses (asks q state)) args ≡ false
  call_uses_no [] = refl
  call_uses_no (a ∷ args) = (λ i. argument_uses_no a i || list_any (argument_uses (asks q state)) args) ∙ call_uses_no args

  right_uses_no : (r : RightSide) → right_uses (asks q state) r ≡ false
  right_uses_no (FromExpr e) = expr_uses_no e
  right_uses_no (FromCall c) = call_uses_no c.arguments

  test_uses_no : (t : Test) → test_uses (asks q state) t ≡ false
  test_uses_no (TestExpr e) = expr_uses_no e
  test_uses_no (TestCall c) = call_uses_no c.arguments

  pub none_uses : (s : Stmt) → uses (asks q state) s ≡ false
  none_uses (Plain line (Declare t x r)) = right_uses_no r
  none_uses (Plain line (DeclareArray t x size)) = refl
  none_uses (Plain line (Assign x r)) = right_uses_no r
  none_uses (Plain line (AssignElement x i e)) = (λ j. (no x j || expr_uses_no i j) || expr_uses_no e j)
  none_uses (Plain line (Perform c)) = call_uses_no c.arguments
  none_uses (Plain line (PutJint e)) = expr_uses_no e
  none_uses (If line test then' else') = test_uses_no test
  none_uses (While line test body) = expr_uses_no test
  none_uses (Return line None) = refl
  none_uses (Return line (Some e)) = expr_uses_no e

  -- ---- what is read

  expr_reads_no : (e : Expr) → expr_reads (asks q state) e ≡ false
  expr_reads_no e = all_no (elements_in e)

  argument_reads_no : (a : Argument) → argument_reads (asks q state) a ≡ false
  argument_reads_no (Value e) = expr_reads_no e
  argument_reads_no (Text t) = refl
  argument_reads_no (AddressOf x) = refl

  call_reads_no : (args : List Argument) → list_any (argument_reads (asks q state)) args ≡ false
  call_reads_no [] = refl
  call_reads_no (a ∷ args) = (λ i. argument_reads_no a i || list_any (argument_reads (asks q state)) args) ∙ call_reads_no args

  right_reads_no : (r : RightSide) → right_reads (asks q state) r ≡ false
  right_reads_no (FromExpr e) = expr_reads_no e
  right_reads_no (FromCall c) = call_reads_no c.arguments

  test_reads_no : (t : Test) → test_reads (asks q state) t ≡ false
  test_reads_no (TestExpr e) = expr_reads_no e
  test_reads_no (TestCall c) = call_reads_no c.arguments

  pub none_reads : (s : Stmt) → reads (asks q state) s ≡ false
  none_reads (Plain line (Declare t x r)) = right_reads_no r
  none_reads (Plain line (DeclareArray t x size)) = refl
  none_reads (Plain line (Assign x r)) = right_reads_no r
  none_reads (Plain line (AssignElement x i e)) = (λ j. (expr_reads_no i j || expr_reads_no e j) || no x j)
  none_reads (Plain line (Perform c)) = call_reads_no c.arguments
  none_reads (Plain line (PutJint e)) = expr_reads_no e
  none_reads (If line test then' else') = test_reads_no test
  none_reads (While line test body) = expr_reads_no test
  none_reads (Return line None) = refl
  none_reads (Return line (Some e)) = expr_reads_no e
