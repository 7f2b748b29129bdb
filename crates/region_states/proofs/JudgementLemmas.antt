-- The rules and the state after a statement, by what its call does, are those of the definitions.
use Rattle.std.proofs.Common.{◌≡◌, ◌-◌, Bool, not, ◌&&◌, ◌||◌, List, [], ◌∷◌, Option, Some, refl, ap, ap₂, ◌∙◌, if◌then◌else◌, find, is_some, nat_le, bytes_eq, None}
use Rattle.std.specs.Option.{option_map}
use Rattle.base.specs.Bytes.{Identifier}
use Rattle.jni.specs.Access.{is_critical}
use Rattle.base.specs.Options.{some_passes}
use Rattle.syntax.specs.Parts.{assigned_name, call_of_right_side}
use Rattle.syntax.specs.declared.declared_type.VariableType.TheVariants.{Reference as ReferenceVariable}
use Rattle.syntax.specs.declared.declared_type.DeclaredType.TheVariants.{Simple, Pointer, ConstChars}
use Rattle.syntax.specs.Tree.{RightSide, Stmt, Plain, Declare, Assign}
use Rattle.region_states.specs.declared.states.Condition.TheVariants as condition
use Rattle.region_states.specs.StateEffects.{EffectCall, call_state_effect, got, released, popped}
use Rattle.region_rules.specs.FirstFaults.{first_broken}
use Rattle.region_states.specs.Judgements.{judged, first_judged, is_wrong_release, effected, settled}
use Rattle.region_states.specs.VariableChanges.{set_from}
use Rattle.region_rules.specs.declared.rule.RegionRule.{RegionRule}
use Rattle.region_rules.specs.declared.rule.RegionRule.TheVariants.{CallWhileCritical, ReturnWithBuffer, HeldBuffer, UntestedBuffer, WrongBuffer, ReturnInFrame, PopLastFrame, DeadReference, ArrayInUse, PathsDiffer, WrongLevel, NoReturn}
use Rattle.region_rules.specs.RegionRules.{breaks_region_rule, own_rules, is_put_jint, is_array_in_use, is_level, is_reference_now}
use Rattle.region_rules.specs.RegionStates.{RegionState, VariableState, ReferenceAt, BufferIn, FunctionCall, state_of, function_called, call_of, deleted_name, with_new, with_changed, with_some_changed, after_pop, after_release, after_call, killed, buffer_from, set_to, with_set, state_after}
use Rattle.region_states.specs.StatesInMemory.{asks, holds_of}
use Rattle.region_states.proofs.EffectLemmas.{get_is, release_is, deleted_is, pops_is, forbidden_is}
use Rattle.region_states.proofs.StateLemmas.{holder_is}
use Rattle.type_rules.proofs.UseLemmas.{uses_is}
use Rattle.region_states.proofs.ReadLemmas.{reads_is}

-- after a statement without blocks
abbrev pub after_judged : RegionState → Stmt → Option EffectCall → RegionState
after_judged state s call = settled (effected state call) s call

in_use : (state : RegionState) (o : Option Identifier) → some_passes (is_array_in_use state) o ≡ some_passes (λ x. holds_of x state) o
in_use state None = refl
in_use state (Some x) = holder_is (λ held. bytes_eq held.1 x) state

judged_is : (rule : RegionRule) (state : RegionState) (s : Stmt) → breaks_region_rule rule state s ≡ judged rule state s (option_map call_state_effect (function_called s))
judged_is CallWhileCritical state s = ap₂ (λ a b. a && (is_put_jint s || b)) (holder_is (λ held. is_critical held.0) state) (forbidden_is (function_called s))
judged_is ReturnWithBuffer state s = refl
judged_is HeldBuffer state s = ap (λ g. is_some g && some_passes (asks condition.Held state) (assigned_name s)) (get_is (function_called s))
judged_is UntestedBuffer state s =
    ap₂ (λ a r. a || some_passes (λ release. some_passes (asks condition.Untested state) release.buffer) r) (reads_is (asks condition.Untested state) s) (release_is (function_called s))
judged_is WrongBuffer state s = ap₂ (λ a r. a || some_passes (is_wrong_release state) r) (uses_is (asks condition.Free state) s) (release_is (function_called s))
judged_is ReturnInFrame state s = refl
judged_is PopLastFrame state s = ap (λ b. b && nat_le state.frames 1) (pops_is (function_called s))
judged_is DeadReference state s = uses_is (asks condition.Dead state) s
judged_is ArrayInUse state s =
    let call = function_called s in
    ap₂ (λ a b. a || b)
    (ap₂ (λ a b. a || b)
    (ap₂ (λ a d. a || d) (in_use state (assigned_name s)) (in_use state (deleted_name call) ∙ ap (some_passes (λ x. holds_of x state)) (deleted_is call)))
    (ap₂ (λ p q. p && q) (pops_is call) (holder_is (λ held. is_level state.frames (state_of state held.1)) state)))
    (ap (some_passes (λ get. not (some_passes (asks condition.Reference state) get.1))) (get_is call))
judged_is WrongLevel state s =
    ap (λ b. some_passes (λ x. is_reference_now (state_of state x) && not (is_level (if b then state.frames - 1 else state.frames) (state_of state x))) (assigned_name s)) (pops_is (function_called s))
judged_is PathsDiffer state s = refl
judged_is NoReturn state s = refl

find_same : (p q : RegionRule → Bool) → ((rule : RegionRule) → p rule ≡ q rule) → (rules : List RegionRule) → find p rules ≡ find q rules
find_same p q h [] = refl
find_same p q h (rule ∷ rules) = ap₂ (λ b o. if b then Some rule else o) (h rule) (find_same p q h rules)

pub first_is : (state : RegionState) (s : Stmt) → first_broken state s ≡ first_judged state s (option_map call_state_effect (function_called s))
first_is state s = find_same (λ rule. breaks_region_rule rule state s) (λ rule. judged rule state s (option_map call_state_effect (function_called s))) (λ rule. judged_is rule state s) own_rules

-- ---- the state

effected_is : (state : RegionState) (call : Option FunctionCall) → after_call state call ≡ effected state (option_map call_state_effect call)
effected_is state call =
    ap₂ (λ b r. if b then after_pop state else with_some_changed (after_release state r) (deleted_name call) killed) (pops_is call) (release_is call)
    ∙ ap (λ d. if popped (option_map call_state_effect call) then after_pop state else with_some_changed (after_release state (released (option_map call_state_effect call))) d killed) (deleted_is call)

set_is : (r : RightSide) (v : VariableState) → set_to r v ≡ set_from (got (option_map call_state_effect (call_of (call_of_right_side (Some r))))) v
set_is r (ReferenceAt level live) = refl
set_is r (BufferIn b) = ap (λ g. BufferIn (buffer_from g)) (get_is (call_of (call_of_right_side (Some r))))

settled_is : (state : RegionState) (s : Stmt) → with_set state s ≡ settled state s (option_map call_state_effect (function_called s))
settled_is state (Plain line (Declare (Simple (ReferenceVariable t)) x r)) = refl
settled_is state (Plain line (Declare (Pointer t) x r)) = ap (λ g. with_new state x (BufferIn (buffer_from g))) (get_is (call_of (call_of_right_side (Some r))))
settled_is state (Plain line (Declare ConstChars x r)) = ap (λ g. with_new state x (BufferIn (buffer_from g))) (get_is (call_of (call_of_right_side (Some r))))
settled_is state (Plain line (Assign x r)) = λ i. with_changed state x (λ v. set_is r v i)
settled_is state s = refl

pub behind_is : (state : RegionState) (s : Stmt) → state_after state s ≡ after_judged state s (option_map call_state_effect (function_called s))
behind_is state s = ap (λ after. with_set after s) (effected_is state (function_called s)) ∙ settled_is (effected state (option_map call_state_effect (function_called s))) s
