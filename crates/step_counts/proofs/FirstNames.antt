-- Names that are taken one after another, where there is room.
use Rattle.std.proofs.Common.{◌≡◌, ℕ, zero, suc, ◌-◌, ◌<◌, ◌≤◌, Bool, ◌||◌, List, [], ◌∷◌, ◌++◌, length, get_or, map, take, drop, refl, sym, ap, ◌∙◌, arith, append_assoc, length-append}
use Rattle.std.specs.Prelude.{filter_map}
use Rattle.std.specs.List.{list_any}
use Rattle.std.proofs.lemmas.List.{append-nil}
use Rattle.std.proofs.lemmas.List.Elements.{filter_map-append}
use Rattle.base.specs.Bytes.{Identifier}
use Rattle.base.specs.Limits.{most_names}
use Rattle.syntax.specs.Parts.{statements_of}
use Rattle.syntax.specs.Tree.{Parameter, Stmt, Function}
use Rattle.syntax.specs.declared.unit.Parameter.{Parameter as ParameterInMemory}
use Rattle.syntax.specs.Views.{parameter_tree}
use Rattle.code_meaning.specs.Length.{int_parameter, int_declared, int_names}
use Rattle.step_counts.specs.Names.{HasFewNames, with_names}
use Rattle.step_counts.proofs.FewNames.{few_ints}
use Rattle.step_counts.specs.declared.int_names.Spelled.{Spelled}

take_none : {A : Type 0} (m : ℕ) → take {A = A} m [] ≡ []
take_none zero = refl
take_none (suc m) = refl

take_least : {A : Type 0} (m : ℕ) (xs : List A) → length xs ≤ m → take m xs ≡ xs
take_least zero [] h = refl
take_least zero (x ∷ xs) h = absurd (omega (arith, h))
take_least (suc m) [] h = refl
take_least (suc m) (x ∷ xs) h = ap (λ l. x ∷ l) (take_least m xs (omega (arith, h)))

take_both : {A : Type 0} (m : ℕ) (a b : List A) → take m a ++ take (m - length (take m a)) b ≡ take m (a ++ b)
take_both zero a b = refl
take_both (suc m) [] b = let same : suc m - 0 ≡ suc m = omega arith in ap (λ n. take n b) same
take_both (suc m) (x ∷ a) b =
    let less : suc m - suc (length (take m a)) ≡ m - length (take m a) = omega arith in
    ap (λ n. x ∷ (take m a ++ take n b)) less ∙ ap (λ l. x ∷ l) (take_both m a b)

pub with_none : (names : List Identifier) → with_names names [] ≡ names
unfolding with_names
with_none names = ap (λ (l : List Identifier). names ++ l) (take_none (most_names - length names)) ∙ append-nil names

pub with_both : (names a b : List Identifier) → with_names (with_names names a) b ≡ with_names names (a ++ b)
unfolding with_names
with_both names a b =
    let m = most_names - length names in
    let left : most_names - length (names ++ take m a) ≡ m - length (take m a) = omega (arith, length-append names (take m a)) in
    ap (λ n. (names ++ take m a) ++ take n b) left ∙ append_assoc names (take m a) (take (m - length (take m a)) b) ∙ ap (λ (l : List Identifier). names ++ l) (take_both m a b)

pub with_all : (names : List Identifier) → length names ≤ most_names → with_names [] names ≡ names
unfolding with_names
with_all names few = take_least most_names names few

-- ---- the names in memory

abbrev pub spelled : List Spelled → List Identifier
spelled names = map {B = Identifier} (λ name. name.bytes.now) names

spelled_both : (a b : List Spelled) → spelled (a ++ b) ≡ spelled a ++ spelled b
spelled_both [] b = refl
spelled_both (x ∷ a) b = ap (λ (l : List Identifier). x.bytes.now ∷ l) (spelled_both a b)

spelled_count : (names : List Spelled) → length (spelled names) ≡ length names
spelled_count [] = refl
spelled_count (x ∷ names) = ap (λ n. suc n) (spelled_count names)

pub with_room : (names : List Spelled) (one : Spelled) → length names < most_names → spelled (names ++ one ∷ []) ≡ with_names (spelled names) (one.bytes.now ∷ [])
unfolding with_names
with_room names one room =
    spelled_both names (one ∷ []) ∙ ap (λ (l : List Identifier). spelled names ++ l) (sym (take_least (most_names - length (spelled names)) (one.bytes.now ∷ []) (omega (arith, room, spelled_count names))))

pub without_room : (names : List Spelled) (x : Identifier) → most_names ≤ length names → with_names (spelled names) (x ∷ []) ≡ spelled names
unfolding with_names
without_room names x full =
    let none : most_names - length (spelled names) ≡ 0 = omega (arith, full, spelled_count names) in
    ap (λ n. spelled names ++ take n (x ∷ [])) none ∙ append-nil (spelled names)

pub any_spelled : (p : Identifier → Bool) (names : List Spelled) → list_any p (spelled names) ≡ list_any (λ other. p other.bytes.now) names
any_spelled p [] = refl
any_spelled p (x ∷ names) = ap (λ b. p x.bytes.now || b) (any_spelled p names)

-- the `jint`s of two lists of statements
pub ints_both : (front back : List Stmt) → filter_map int_declared (front ++ back) ≡ filter_map int_declared front ++ filter_map int_declared back
ints_both front back = filter_map-append int_declared front back

-- the `jint`s of a parameter and of those after it
pub parameters_both : (names : List Identifier) (p : Parameter) (ps : List Parameter)
    → with_names (with_names names (filter_map int_parameter (p ∷ []))) (filter_map int_parameter ps) ≡ with_names names (filter_map int_parameter (p ∷ ps))
parameters_both names p ps = with_both names (filter_map int_parameter (p ∷ [])) (filter_map int_parameter ps) ∙ ap (with_names names) (sym (filter_map-append int_parameter (p ∷ []) ps))

-- ---- parameters in memory

pub no_parameters : (names : List Identifier) (ps : List ParameterInMemory) → length ps < 1 → names ≡ with_names names (filter_map int_parameter (map parameter_tree ps))
no_parameters names [] none = sym (with_none names)
no_parameters names (p ∷ ps) none = absurd (omega (arith, none))

rest_is : (p : ParameterInMemory) (ps : List ParameterInMemory) → take (suc (length ps) - 1) ps ≡ ps
rest_is p ps = let count : suc (length ps) - 1 ≡ length ps = omega arith in ap (λ n. take n ps) count ∙ take_least (length ps) ps (omega arith)

pub next_parameter : (names mid : List Identifier) (ps : List ParameterInMemory) (p : ParameterInMemory) → 1 ≤ length ps → p ≡ get_or ps 0 p → mid ≡ with_names names (filter_map int_parameter (parameter_tree p ∷ []))
    → with_names mid (filter_map int_parameter (map parameter_tree (take (length ps - 1) (drop 1 ps)))) ≡ with_names names (filter_map int_parameter (map parameter_tree ps))
next_parameter names mid [] p low is e = absurd (omega (arith, low))
next_parameter names mid (q ∷ ps) p low is e =
    ap (λ (l : List ParameterInMemory). with_names mid (filter_map int_parameter (map parameter_tree l))) (rest_is q ps)
    ∙ ap (λ (l : List Identifier). with_names l (filter_map int_parameter (map parameter_tree ps))) e ∙ parameters_both names (parameter_tree p) (map parameter_tree ps)
    ∙ ap (λ (x : ParameterInMemory). with_names names (filter_map int_parameter (parameter_tree x ∷ map parameter_tree ps))) is

-- those of a whole function
pub all_names : (f : Function) (start mid : List Identifier) → start ≡ [] → mid ≡ with_names start (filter_map int_parameter f.parameters) → HasFewNames f → with_names mid (filter_map int_declared (statements_of f.body)) ≡ int_names f
all_names f start mid none e few =
    let parameters = filter_map int_parameter f.parameters in
    let statements = filter_map int_declared (statements_of f.body) in
    ap (λ (l : List Identifier). with_names l statements) (e ∙ ap (λ (l : List Identifier). with_names l parameters) none) ∙ with_both [] parameters statements ∙ with_all (int_names f) (few_ints f few)
