-- What is asked of the elements of a statement part by part is asked of all of them.
use Rattle.std.proofs.Common.{◌≡◌, Bool, true, false, ◌||◌, List, [], ◌∷◌, ◌++◌, refl, ap, ap₂, ◌∙◌, flat_map, Some, None}
use Rattle.std.specs.List.{list_any}
use Rattle.std.specs.Option.{option_to_list}
use Rattle.std.proofs.lemmas.List.Folds.{list_any-append}
use Rattle.base.specs.Bytes.{Identifier}
use Rattle.syntax.specs.Parts.{argument_expressions, call_expressions, own_expressions, elements_in, written_name}
use Rattle.syntax.specs.Tree.{Expr, Argument, Value, Text, AddressOf, Call, FromExpr, FromCall, TestExpr, TestCall, Stmt, Plain, Declare, DeclareArray, Assign, AssignElement, Perform, PutJint, If, While, Return}
use Rattle.region_states.specs.Reads.{expr_reads, argument_reads, call_reads, reads}

or_false : (a : Bool) → (a || false) ≡ a
or_false true = refl
or_false false = refl

any_end : (p : Identifier → Bool) (xs : List Identifier) → list_any p (xs ++ []) ≡ list_any p xs
any_end p xs = list_any-append p xs [] ∙ or_false (list_any p xs)

one_reads : (p : Identifier → Bool) (e : Expr) → list_any p ((elements_in e ++ []) ++ []) ≡ expr_reads p e
one_reads p e = any_end p (elements_in e ++ []) ∙ any_end p (elements_in e)

arguments_read : (p : Identifier → Bool) (arguments : List Argument) → list_any p (flat_map elements_in (flat_map argument_expressions arguments)) ≡ list_any (argument_reads p) arguments
arguments_read p [] = refl
arguments_read p (Value e ∷ arguments) =
    list_any-append p (elements_in e) (flat_map elements_in (flat_map argument_expressions arguments))
    ∙ ap (λ b. list_any p (elements_in e) || b) (arguments_read p arguments)
arguments_read p (Text t ∷ arguments) = arguments_read p arguments
arguments_read p (AddressOf x ∷ arguments) = arguments_read p arguments

call_read : (p : Identifier → Bool) (c : Call) → list_any p (flat_map elements_in (call_expressions c) ++ []) ≡ call_reads p c
call_read p c = any_end p (flat_map elements_in (call_expressions c)) ∙ arguments_read p c.arguments

element_read : (p : Identifier → Bool) (x : Identifier) (i e : Expr) → list_any p ((elements_in i ++ (elements_in e ++ [])) ++ (x ∷ [])) ≡ ((expr_reads p i || expr_reads p e) || p x)
element_read p x i e =
    list_any-append p (elements_in i ++ (elements_in e ++ [])) (x ∷ [])
    ∙ ap₂ (λ a b. a || b) (list_any-append p (elements_in i) (elements_in e ++ []) ∙ ap (λ b. expr_reads p i || b) (any_end p (elements_in e))) (or_false (p x))

pub reads_is : (p : Identifier → Bool) (s : Stmt) → list_any p (flat_map elements_in (own_expressions s) ++ option_to_list (written_name s)) ≡ reads p s
reads_is p (Plain line (Declare t x (FromExpr e))) = one_reads p e
reads_is p (Plain line (Declare t x (FromCall c))) = call_read p c
reads_is p (Plain line (DeclareArray t x size)) = refl
reads_is p (Plain line (Assign x (FromExpr e))) = one_reads p e
reads_is p (Plain line (Assign x (FromCall c))) = call_read p c
reads_is p (Plain line (AssignElement x i e)) = element_read p x i e
reads_is p (Plain line (Perform c)) = call_read p c
reads_is p (Plain line (PutJint e)) = one_reads p e
reads_is p (If line (TestExpr e) then' else') = one_reads p e
reads_is p (If line (TestCall c) then' else') = call_read p c
reads_is p (While line e body) = one_reads p e
reads_is p (Return line None) = refl
reads_is p (Return line (Some e)) = one_reads p e
