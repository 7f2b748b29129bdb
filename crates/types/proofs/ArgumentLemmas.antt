-- Arguments beside their parameters.
use Rattle.std.proofs.Common.{◌≡◌, ℕ, ◌-◌, Bool, true, false, not, ◌&&◌, ◌||◌, List, [], ◌∷◌, refl, sym, ap, ◌∙◌, map, length, replicate, ◌<◌, arith}
use Rattle.std.specs.List.{list_all}
use Rattle.syntax.specs.declared.call.Argument.{Argument}
use Rattle.syntax.specs.Tree.{Argument as Given}
use Rattle.syntax.specs.Views.{argument_tree}
use Rattle.jni.specs.declared.kinds.ParameterKind.{ParameterKind}
use Rattle.jni.specs.declared.kinds.ParameterKind.TheVariants.{Passed}
use Rattle.type_rules.specs.ExprTypes.{Scope, argument_fits, arguments_fit}
use Rattle.type_rules.specs.TypeRules.{modes_fit}
use Rattle.types.specs.Called.{with_passed}

-- no arguments fit all parameters
none_fit : (scope : Scope) (parameters : List ParameterKind) → arguments_fit scope parameters [] ≡ true
none_fit scope [] = refl
none_fit scope (p ∷ parameters) = refl

pub no-arguments : (scope : Scope) (parameters : List ParameterKind) (arguments : List Argument) → length arguments < 1 → true ≡ arguments_fit scope parameters (map argument_tree arguments)
no-arguments scope parameters [] few = sym (none_fit scope parameters)
no-arguments scope parameters (a ∷ arguments) few = absurd (omega (arith, few))

none_modes : (parameters : List ParameterKind) → modes_fit parameters [] ≡ true
none_modes [] = refl
none_modes (p ∷ parameters) = refl

pub no-modes : (parameters : List ParameterKind) (arguments : List Argument) → length arguments < 1 → true ≡ modes_fit parameters (map argument_tree arguments)
no-modes parameters [] few = sym (none_modes parameters)
no-modes parameters (a ∷ arguments) few = absurd (omega (arith, few))

-- behind the parameters, each argument is passed
all_passed : (scope : Scope) (given : List Given) → list_all (argument_fits scope Passed) given ≡ arguments_fit scope (replicate (length given) Passed) given
all_passed scope [] = refl
all_passed scope (a ∷ given) = ap (λ b. argument_fits scope Passed a && b) (all_passed scope given)

none_own : (n : ℕ) → n - 0 ≡ n
none_own n = omega (arith)

none_left : (scope : Scope) (given : List Given) → true ≡ arguments_fit scope [] given
none_left scope given = refl

pub passed-behind : (scope : Scope) (kinds : List ParameterKind) (passes : Bool) (given : List Given) → length kinds < 1
    → (not passes || list_all (argument_fits scope Passed) given) ≡ arguments_fit scope (with_passed kinds passes (length given)) given
passed-behind scope [] true given few = all_passed scope given ∙ ap (λ n. arguments_fit scope (replicate n Passed) given) (sym (none_own (length given)))
passed-behind scope [] false given few = none_left scope given
passed-behind scope (k ∷ kinds) passes given few = absurd (omega (arith, few))

pub ruleset argument_rules = (no-arguments, no-modes, passed-behind)
