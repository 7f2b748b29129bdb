-- What is asked of the names of a statement part by part is asked of all of them.
use Rattle.std.proofs.Common.{◌≡◌, Bool, true, false, ◌||◌, List, [], ◌∷◌, ◌++◌, Some, refl, sym, ap, ◌∙◌, flat_map, append-nil, None}
use Rattle.std.specs.List.{list_any}
use Rattle.std.proofs.Math.Bool.{or_assoc}
use Rattle.std.proofs.lemmas.List.Folds.{list_any-append}
use Rattle.base.specs.Bytes.{Identifier}
use Rattle.syntax.specs.Parts.{argument_expressions, call_expressions, names_in, addresses_in, used_names}
use Rattle.syntax.specs.Tree.{Expr, Argument, Value, Text, AddressOf, Call, FromExpr, FromCall, TestExpr, TestCall, Stmt, Plain, Declare, DeclareArray, Assign, AssignElement, Perform, PutJint, If, While, Return}
use Rattle.type_rules.specs.Uses.{expr_uses, argument_uses, call_uses, uses}

or_swap : (a b c : Bool) → (a || (b || c)) ≡ (b || (a || c))
or_swap true true c = refl
or_swap true false c = refl
or_swap false b c = refl

-- ---- names

two : (p : Identifier → Bool) (xs ys zs : List Identifier) → list_any p ((xs ++ ys) ++ zs) ≡ ((list_any p xs || list_any p ys) || list_any p zs)
two p xs ys zs = list_any-append p (xs ++ ys) zs ∙ ap (λ b. b || list_any p zs) (list_any-append p xs ys)

one_uses : (p : Identifier → Bool) (e : Expr) → list_any p ((names_in e ++ []) ++ []) ≡ expr_uses p e
one_uses p e = ap (list_any p) (append-nil (names_in e ++ [])) ∙ ap (list_any p) (append-nil (names_in e))

arguments_use : (p : Identifier → Bool) (f : Identifier) (arguments : List Argument)
    → (list_any p (flat_map names_in (flat_map argument_expressions arguments)) || list_any p (addresses_in (Some (record { function = f; arguments = arguments })))) ≡ list_any (argument_uses p) arguments
arguments_use p f [] = refl
arguments_use p f (Value e ∷ arguments) =
    let names = flat_map names_in (flat_map argument_expressions arguments) in
    let addresses = addresses_in (Some (record { function = f; arguments = arguments })) in
    ap (λ b. b || list_any p addresses) (list_any-append p (names_in e) names)
    ∙ or_assoc (list_any p (names_in e)) (list_any p names) (list_any p addresses)
    ∙ ap (λ b. list_any p (names_in e) || b) (arguments_use p f arguments)
arguments_use p f (Text t ∷ arguments) = arguments_use p f arguments
arguments_use p f (AddressOf x ∷ arguments) =
    let names = flat_map names_in (flat_map argument_expressions arguments) in
    let addresses = addresses_in (Some (record { function = f; arguments = arguments })) in
    or_swap (list_any p names) (p x) (list_any p addresses) ∙ ap (λ b. p x || b) (arguments_use p f arguments)

call_use : (p : Identifier → Bool) (c : Call) → list_any p (flat_map names_in (call_expressions c) ++ addresses_in (Some c)) ≡ call_uses p c
call_use p c = list_any-append p (flat_map names_in (call_expressions c)) (addresses_in (Some c)) ∙ arguments_use p c.function c.arguments

element_use : (p : Identifier → Bool) (x : Identifier) (i e : Expr) → list_any p (((x ∷ []) ++ (names_in i ++ (names_in e ++ []))) ++ []) ≡ ((p x || expr_uses p i) || expr_uses p e)
element_use p x i e =
    ap (list_any p) (append-nil ((x ∷ []) ++ (names_in i ++ (names_in e ++ []))))
    ∙ ap (λ b. p x || b) (list_any-append p (names_in i) (names_in e ++ []) ∙ ap (λ b. expr_uses p i || b) (ap (list_any p) (append-nil (names_in e))))
    ∙ sym (or_assoc (p x) (expr_uses p i) (expr_uses p e))

pub uses_is : (p : Identifier → Bool) (s : Stmt) → list_any p (used_names s) ≡ uses p s
uses_is p (Plain line (Declare t x (FromExpr e))) = one_uses p e
uses_is p (Plain line (Declare t x (FromCall c))) = call_use p c
uses_is p (Plain line (DeclareArray t x size)) = refl
uses_is p (Plain line (Assign x (FromExpr e))) = one_uses p e
uses_is p (Plain line (Assign x (FromCall c))) = call_use p c
uses_is p (Plain line (AssignElement x i e)) = element_use p x i e
uses_is p (Plain line (Perform c)) = call_use p c
uses_is p (Plain line (PutJint e)) = one_uses p e
uses_is p (If line (TestExpr e) then' else') = one_uses p e
uses_is p (If line (TestCall c) then' else') = call_use p c
uses_is p (While line e body) = one_uses p e
uses_is p (Return line None) = refl
uses_is p (Return line (Some e)) = one_uses p e
