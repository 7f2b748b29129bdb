-- The arguments of a call with their parameters: what a method is given comes after the function's own.
use Rattle.std.proofs.Common.{◌≡◌, ◌-◌, Bool, true, false, List, [], ◌∷◌, ◌++◌, length, map, drop, refl, sym, ap, ◌∙◌, append-nil, arith}
use Rattle.std.specs.Prelude.{if◌then◌else◌, replicate, zip}
use Rattle.std.proofs.lemmas.List.{map-append}
use Rattle.jni.specs.declared.function.JniFunction.{JniFunction}
use Rattle.jni.specs.JniFunction.{calls_method, parameters_for, prototype}
use Rattle.jni.specs.declared.kinds.ParameterKind.{ParameterKind}
use Rattle.jni.specs.declared.kinds.ParameterKind.TheVariants.{Passed}
use Rattle.jni.proofs.MethodCalls.{own_are_two}

-- an argument that a method is given
abbrev pub as_passed : {A : Type 0} → A → ParameterKind × A
as_passed a = (Passed, a)

-- all of them are
all_passed : {A : Type 0} (args : List A) → zip (replicate (length args) Passed) args ≡ map as_passed args
all_passed [] = refl
all_passed {A = A} (a ∷ args) = ap (λ (l : List (ParameterKind × A)). as_passed a ∷ l) (all_passed args)

-- those after as many as there are parameters
passed_after : {A : Type 0} (own : List ParameterKind) (args : List A) → zip (own ++ replicate (length args - length own) Passed) args ≡ zip own args ++ map as_passed (drop (length own) args)
passed_after {A = A} [] args =
    let all : length args - 0 ≡ length args = omega arith in
    ap (λ n. zip (replicate n Passed) args) all ∙ all_passed args
passed_after {A = A} (p ∷ own) [] = refl
passed_after {A = A} (p ∷ own) (a ∷ args) =
    let fewer : length (a ∷ args) - length (p ∷ own) ≡ length args - length own = omega arith in
    ap (λ n. (p, a) ∷ zip (own ++ replicate n Passed) args) fewer
    ∙ ap (λ (l : List (ParameterKind × A)). (p, a) ∷ l) (passed_after own args)

-- either way
parted : {A : Type 0} (own : List ParameterKind) (args : List A) (b : Bool) → (b ≡ true → length own ≡ 2)
    → zip (own ++ (if b then replicate (length args - length own) Passed else [])) args ≡ zip own args ++ (if b then map as_passed (drop 2 args) else [])
parted {A = A} own args true two = passed_after own args ∙ ap (λ n. zip own args ++ map as_passed (drop n args)) (two refl)
parted {A = A} own args false two = ap (λ (ps : List ParameterKind). zip ps args) (append-nil own) ∙ sym (append-nil (zip own args))

-- a function's own arguments, and then what a method is given
pub arguments_parted : {A : Type 0} (f : JniFunction) (args : List A) → zip (parameters_for f (length args)) args ≡ zip (prototype f).parameters args ++ (if calls_method f then map as_passed (drop 2 args) else [])
arguments_parted {A = A} f args = parted (prototype f).parameters args (calls_method f) (own_are_two f)

-- what comes of arguments that are passed
of_passed : {B C : Type 0} (g : ParameterKind × B → C) (args : List B) → map g (map as_passed args) ≡ map (λ a. g (Passed, a)) args
of_passed g [] = refl
of_passed {C = C} g (a ∷ args) = ap (λ (l : List C). g (Passed, a) ∷ l) (of_passed g args)

by_test : {B C : Type 0} (g : ParameterKind × B → C) (args : List B) (b : Bool)
    → map g (if b then map as_passed args else []) ≡ (if b then map (λ a. g (Passed, a)) args else [])
by_test g args true = of_passed g args
by_test g args false = refl

-- what comes of all arguments comes of the function's own, and then of those that are passed
pub of_all : {B C : Type 0} (g : ParameterKind × B → C) (f : JniFunction) (args : List B)
    → map g (zip (parameters_for f (length args)) args) ≡ map g (zip (prototype f).parameters args) ++ (if calls_method f then map (λ a. g (Passed, a)) (drop 2 args) else [])
of_all {C = C} g f args =
    ap (map g) (arguments_parted f args)
    ∙ map-append g (zip (prototype f).parameters args) (if calls_method f then map as_passed (drop 2 args) else [])
    ∙ ap (λ (l : List C). map g (zip (prototype f).parameters args) ++ l) (by_test g (drop 2 args) (calls_method f))
