-- The rules on one statement and the state after it, by what the statement's call does.
use Rattle.std.specs.Prelude.{ℕ, ◌-◌, Bool, true, false, not, ◌&&◌, ◌||◌, Option, nat_lt, nat_le, if◌then◌else◌, find}
use Rattle.std.specs.Option.{is_some}
use Rattle.base.specs.Bytes.{Identifier}
use Rattle.base.specs.Options.{some_passes}
use Rattle.syntax.specs.Parts.{assigned_name}
use Rattle.syntax.specs.declared.declared_type.VariableType.TheVariants.{Reference as ReferenceVariable}
use Rattle.syntax.specs.declared.declared_type.DeclaredType.{DeclaredType}
use Rattle.syntax.specs.declared.declared_type.DeclaredType.TheVariants.{Simple}
use Rattle.syntax.specs.Tree.{Stmt, Plain, Declare, Assign}
use Rattle.jni.specs.Access.{is_critical}
use Rattle.region_states.specs.declared.states.Condition.TheVariants as condition
use Rattle.region_states.specs.StateEffects.{EffectCall, got, released, deleted, popped, is_forbidden}
use Rattle.region_rules.specs.declared.rule.RegionRule.{RegionRule}
use Rattle.region_rules.specs.declared.rule.RegionRule.TheVariants.{CallWhileCritical, ReturnWithBuffer, HeldBuffer, UntestedBuffer, WrongBuffer, ReturnInFrame, PopLastFrame, DeadReference, ArrayInUse, WrongLevel}
use Rattle.region_rules.specs.RegionRules.{own_rules, is_return, is_put_jint, is_reference_now, is_mismatched, is_level, holds_buffer}
use Rattle.region_rules.specs.RegionStates.{RegionState, VariableState, ReferenceAt, BufferIn, Release, state_of, with_new, with_changed, with_some_changed, after_pop, after_release, killed, buffer_from}
use Rattle.region_states.specs.StatesInMemory.{asks, holds_critical, holds_of, has_young_array}
use Rattle.region_states.specs.VariableChanges.{set_from}
use Rattle.type_rules.specs.Uses.{uses}
use Rattle.region_states.specs.Reads.{reads}

-- a release of a held buffer that is not the one it wants, or that commits a view
abbrev pub is_wrong_release : RegionState → Release → Bool
is_wrong_release state release = (release.commits && is_critical release.access) || some_passes (λ x. is_mismatched release (state_of state x)) release.buffer

-- the array variable of a held buffer dies by a pop
abbrev pub pops_array : RegionState → Option EffectCall → Bool
pops_array state call = popped call && has_young_array state

-- a Get that is not of a local variable
abbrev pub gets_elsewhere : RegionState → Option EffectCall → Bool
gets_elsewhere state call = some_passes (λ get. not (some_passes (asks condition.Reference state) get.1)) (got call)

-- the number of frames after the call
abbrev pub frames_after : RegionState → Option EffectCall → ℕ
frames_after state call = if popped call then state.frames - 1 else state.frames

-- a reference of another level
abbrev pub is_other_level : ℕ → Option VariableState → Bool
is_other_level frames v = is_reference_now v && not (is_level frames v)

-- whether a statement with this call breaks a rule by itself
abbrev pub judged : RegionRule → RegionState → Stmt → Option EffectCall → Bool
judged CallWhileCritical state s call = holds_critical state && (is_put_jint s || is_forbidden call)
judged ReturnWithBuffer state s call = is_return s && holds_buffer state
judged HeldBuffer state s call = is_some (got call) && some_passes (asks condition.Held state) (assigned_name s)
judged UntestedBuffer state s call = reads (asks condition.Untested state) s
    || some_passes (λ release. some_passes (asks condition.Untested state) release.buffer) (released call)
judged WrongBuffer state s call = uses (asks condition.Free state) s || some_passes (is_wrong_release state) (released call)
judged ReturnInFrame state s call = is_return s && nat_lt 1 state.frames
judged PopLastFrame state s call = popped call && nat_le state.frames 1
judged DeadReference state s call = uses (asks condition.Dead state) s
judged ArrayInUse state s call =
    some_passes (λ x. holds_of x state) (assigned_name s) || some_passes (λ x. holds_of x state) (deleted call)
    || pops_array state call || gets_elsewhere state call
judged WrongLevel state s call = some_passes (λ x. is_other_level (frames_after state call) (state_of state x)) (assigned_name s)
judged rule state s call = false

-- the rule of least number that a statement with this call breaks
abbrev pub first_judged : RegionState → Stmt → Option EffectCall → Option RegionRule
first_judged state s call = find (λ rule. judged rule state s call) own_rules

-- ---- the state after a statement

-- after the call
abbrev pub effected : RegionState → Option EffectCall → RegionState
effected state call = if popped call then after_pop state else with_some_changed (after_release state (released call)) (deleted call) killed

-- after a variable of this type is declared
abbrev pub declared : RegionState → DeclaredType → Identifier → Option EffectCall → RegionState
declared state (Simple (ReferenceVariable t)) x call = with_new state x (ReferenceAt state.frames true)
declared state (Simple t) x call = state
declared state t x call = with_new state x (BufferIn (buffer_from (got call)))

-- after a variable is set or declared
abbrev pub settled : RegionState → Stmt → Option EffectCall → RegionState
settled state (Plain line (Declare t x r)) call = declared state t x call
settled state (Plain line (Assign x r)) call = with_changed state x (set_from (got call))
settled state s call = state
