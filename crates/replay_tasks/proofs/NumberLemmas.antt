-- The operands of a call of which none needs a list, or only the last is a number.
use Rattle.std.proofs.Common.{◌≡◌, ◌+◌, Bool, true, false, List, [], ◌∷◌, ◌++◌, length, map, refl, sym, ap, ◌∙◌, length-append, arith}
use Rattle.std.specs.Prelude.{◌&&◌, zip}
use Rattle.std.specs.List.{list_all}
use Rattle.std.proofs.lemmas.List.{length-map, map-append}
use Rattle.std.proofs.lemmas.Bool.{and_parts}
use Rattle.jni.specs.declared.function.JniFunction.{JniFunction}
use Rattle.jni.specs.JniFunction.{parameters_for}
use Rattle.jni.specs.declared.kinds.ParameterKind.{ParameterKind}
use Rattle.jni.specs.declared.kinds.ParameterKind.TheVariants.{IntNumber, Passed}
use Rattle.syntax.specs.Limits.{numbers_in_range}
use Rattle.syntax.specs.Tree.{Argument, Expr, Value}
use Rattle.syntax.specs.Views.{argument_tree}
use Rattle.syntax.specs.declared.call.Argument.{Argument as ArgumentInMemory}
use Rattle.semantics.specs.Task.{Given, NumberOperand, Operand, operand}
use Rattle.semantics.specs.Term.{term_of}
use Rattle.replay_terms.specs.Views.{looked_up}
use Rattle.replay_tasks.specs.Numbers.{AreNumbers, is_looked_up, operands_for}
use Rattle.replay_tasks.specs.Tasks.{ArgumentsInRange, ExprInRange}
use Rattle.replay_tasks.specs.declared.call.Numbers.TheVariants as numbers
use Rattle.replay_tasks.proofs.RangeLemmas.{argument_parts}

operand_looked_up : (p : ParameterKind) (a : Argument) → is_looked_up p ≡ true → operand (p, a) ≡ Given a
operand_looked_up IntNumber a h = absurd (cc)
operand_looked_up Passed a h = absurd (cc)
operand_looked_up p a h = refl

all_looked_up : (ps : List ParameterKind) (args : List ArgumentInMemory) → length ps ≡ length args → list_all is_looked_up ps ≡ true → map operand (zip ps (map argument_tree args)) ≡ map looked_up args
all_looked_up [] [] long all = refl
all_looked_up [] (a ∷ args) long all = absurd (omega (arith, long))
all_looked_up (p ∷ ps) [] long all = absurd (omega (arith, long))
all_looked_up (p ∷ ps) (a ∷ args) long all =
    let parts = and_parts (is_looked_up p) (list_all is_looked_up ps) all in
    ap (λ (o : Operand). o ∷ map operand (zip ps (map argument_tree args))) (operand_looked_up p (argument_tree a) parts.0)
    ∙ ap (λ (l : List Operand). looked_up a ∷ l) (all_looked_up ps args (omega (arith, long)) parts.1)

-- each is looked up
pub given_are : (f : JniFunction) (args : List ArgumentInMemory) → AreNumbers (length args) (parameters_for f (length args)) numbers.Nowhere → map looked_up args ≡ operands_for f (map argument_tree args)
given_are f args h =
    sym (ap (λ n. map operand (zip (parameters_for f n) (map argument_tree args))) (length-map args argument_tree)
    ∙ all_looked_up (parameters_for f (length args)) args h.0 h.1)

zip_ends : {A B : Type 0} (xs : List A) (ys : List B) (x : A) (y : B) → length xs ≡ length ys → zip (xs ++ x ∷ []) (ys ++ y ∷ []) ≡ zip xs ys ++ (x, y) ∷ []
zip_ends [] [] x y long = refl
zip_ends [] (b ∷ ys) x y long = absurd (omega (arith, long))
zip_ends (a ∷ xs) [] x y long = absurd (omega (arith, long))
zip_ends {A = A} {B = B} (a ∷ xs) (b ∷ ys) x y long = ap (λ (l : List (A × B)). (a, b) ∷ l) (zip_ends xs ys x y (omega (arith, long)))

-- each is looked up but the last
pub last_are : (f : JniFunction) (args before : List ArgumentInMemory) (e : Expr) → AreNumbers (length args) (parameters_for f (length args)) numbers.Last
    → map argument_tree args ≡ map argument_tree before ++ Value e ∷ [] → map looked_up before ++ NumberOperand (term_of e) ∷ [] ≡ operands_for f (map argument_tree args)
last_are f args before e h ends =
    let ps = parameters_for f (length args) in
    let trees = map argument_tree before in
    let front = h.1.before in
    let count : length args ≡ length before + 1 =
    sym (length-map args argument_tree) ∙ ap length ends ∙ omega (arith, length-append trees (Value e ∷ []), length-map before argument_tree) in
    let long : length front ≡ length before =
    omega (arith, count, h.0, ap length h.1.is, length-append front (IntNumber ∷ [])) in
    let same_long : length front ≡ length trees = long ∙ sym (length-map before argument_tree) in
    sym (ap (λ n. map operand (zip (parameters_for f n) (map argument_tree args))) (length-map args argument_tree)
    ∙ ap (λ (l : List Argument). map operand (zip ps l)) ends
    ∙ ap (λ (l : List ParameterKind). map operand (zip l (trees ++ Value e ∷ []))) h.1.is
    ∙ ap (map operand) (zip_ends front trees IntNumber (Value e) same_long)
    ∙ map-append operand (zip front trees) ((IntNumber, Value e) ∷ [])
    ∙ ap (λ (l : List Operand). l ++ NumberOperand (term_of e) ∷ []) (all_looked_up front before long h.1.looked_up))

-- the last is in range
pub last_in_range : (xs : List Argument) (e : Expr) → ArgumentsInRange (xs ++ Value e ∷ []) → ExprInRange e
last_in_range [] e h = (and_parts (numbers_in_range e) true (argument_parts (Value e) [] h).0).0
last_in_range (x ∷ xs) e h = last_in_range xs e (argument_parts x (xs ++ Value e ∷ []) h).1
