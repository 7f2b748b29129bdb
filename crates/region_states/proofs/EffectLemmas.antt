-- What the rules see of a call is what its effect says.
use Rattle.std.proofs.Common.{◌≡◌, ◌<◌, not, ◌||◌, List, [], ◌∷◌, length, map, Option, Some, None, refl, ap, ap₂, ◌∙◌, arith}
use Rattle.std.specs.Option.{option_map}
use Rattle.base.specs.Bytes.{Identifier}
use Rattle.base.specs.Options.{some_passes}
use Rattle.syntax.specs.declared.call.Argument.{Argument as ArgumentInMemory}
use Rattle.syntax.specs.declared.expr.Constant.TheVariants.{Commit}
use Rattle.syntax.specs.Tree.{Named, Argument, Value, Call}
use Rattle.syntax.specs.Views.{argument_tree}
use Rattle.jni.specs.declared.access.Access.{Access}
use Rattle.jni.specs.declared.function.JniFunction.{JniFunction}
use Rattle.jni.specs.declared.function.JniFunction.TheVariants.{GetBuffer, ReleaseBuffer, DeleteLocalRef, PopLocalFrame}
use Rattle.jni.specs.JniFunction.{function_named}
use Rattle.jni.specs.declared.kinds.StateEffect.TheVariants.{Releases}
use Rattle.region_states.specs.StateEffects.{call_state_effect, got, released, deleted, popped, is_forbidden}
use Rattle.region_rules.specs.RegionRules.{is_critical_call}
use Rattle.region_rules.specs.RegionStates.{FunctionCall, call_of, get_of, release_of, deleted_name, pops, has_commit}

-- ---- a call by its effect

pub get_is : (call : Option FunctionCall) → get_of call ≡ got (option_map call_state_effect call)
get_is None = refl
get_is (Some (GetBuffer access, arguments)) = refl
get_is (Some (f, arguments)) = refl

pub release_is : (call : Option FunctionCall) → release_of call ≡ released (option_map call_state_effect call)
release_is None = refl
release_is (Some (ReleaseBuffer access, [])) = refl
release_is (Some (ReleaseBuffer access, object ∷ [])) = refl
release_is (Some (ReleaseBuffer access, object ∷ buffer ∷ modes)) = refl
release_is (Some (f, arguments)) = refl

pub deleted_is : (call : Option FunctionCall) → deleted_name call ≡ deleted (option_map call_state_effect call)
deleted_is None = refl
deleted_is (Some (DeleteLocalRef, arguments)) = refl
deleted_is (Some (f, arguments)) = refl

pub pops_is : (call : Option FunctionCall) → pops call ≡ popped (option_map call_state_effect call)
pops_is None = refl
pops_is (Some (PopLocalFrame, arguments)) = refl
pops_is (Some (f, arguments)) = refl

pub forbidden_is : (call : Option FunctionCall) → some_passes (λ c. not (is_critical_call c.0)) call ≡ is_forbidden (option_map call_state_effect call)
forbidden_is None = refl
forbidden_is (Some (GetBuffer access, arguments)) = refl
forbidden_is (Some (ReleaseBuffer access, arguments)) = refl
forbidden_is (Some (f, arguments)) = refl

-- ---- a call in memory

pub called_is : (o : Option Call) (k : Call) (f : Option JniFunction) (name : Identifier) (arguments : List Argument) → Some k ≡ o → f ≡ function_named name → name ≡ k.function → arguments ≡ k.arguments
    → option_map call_state_effect (option_map (λ g. (g, arguments)) f) ≡ option_map call_state_effect (call_of o)
called_is o k f name arguments e h n a =
    ap (λ (x : Option JniFunction). option_map call_state_effect (option_map (λ g. (g, arguments)) x)) h
    ∙ ap₂ (λ (x : Identifier) (xs : List Argument). option_map call_state_effect (option_map (λ g. (g, xs)) (function_named x))) n a
    ∙ ap (λ (x : Option Call). option_map call_state_effect (call_of x)) e

-- a release wants two arguments
pub few_released : (access : Access) (arguments : List ArgumentInMemory) → length arguments < 2 → released (Some (Releases access, map argument_tree arguments)) ≡ None
few_released access [] few = refl
few_released access (a ∷ []) few = refl
few_released access (a ∷ b ∷ arguments) few = absurd (omega (arith, few))

-- ---- modes

pub commit_first : (a : Argument) (rest : List Argument) → has_commit (a ∷ rest) ≡ (has_commit (a ∷ []) || has_commit rest)
commit_first (Value (Named Commit)) rest = refl
commit_first a rest = refl
