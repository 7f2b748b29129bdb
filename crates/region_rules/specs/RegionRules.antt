-- The rules on buffers, references and frames that one statement can break.
use Rattle.std.specs.Prelude.{ℕ, Bool, true, false, not, ◌&&◌, ◌||◌, List, [], ◌∷◌, ◌++◌, Option, Some, bytes_eq, nat_lt, nat_le, ◌==◌, flat_map, IsTrue}
use Rattle.std.specs.List.{list_any, list_all}
use Rattle.std.specs.Option.{option_to_list, is_some}
use Rattle.base.specs.Bytes.{Identifier}
use Rattle.base.specs.Options.{some_passes}
use Rattle.syntax.specs.Parts.{own_expressions, used_names, written_name, assigned_name, elements_in}
use Rattle.syntax.specs.Tree.{Stmt, Plain, PutJint, Return}
use Rattle.jni.specs.Access.{is_critical, same_access}
use Rattle.jni.specs.declared.function.JniFunction.{JniFunction}
use Rattle.jni.specs.declared.function.JniFunction.TheVariants.{GetBuffer, ReleaseBuffer}
use Rattle.region_rules.specs.declared.rule.RegionRule.{RegionRule}
use Rattle.region_rules.specs.declared.rule.RegionRule.TheVariants.{CallWhileCritical, ReturnWithBuffer, HeldBuffer, UntestedBuffer, WrongBuffer, ReturnInFrame, PopLastFrame, DeadReference, ArrayInUse, PathsDiffer, WrongLevel, NoReturn}
use Rattle.region_rules.specs.RegionStates.{VariableState, RegionState, state_of, held_by, held_buffers, function_called, get_of, Release, release_of, deleted_name, pops, frame_count_after, Free, Untested, ReferenceAt, BufferIn}

-- ---- the rules on one statement

-- whether a statement returns
abbrev pub is_return : Stmt → Bool
is_return (Return line e) = true
is_return s = false

-- whether a statement prints
abbrev pub is_put_jint : Stmt → Bool
is_put_jint (Plain line (PutJint e)) = true
is_put_jint s = false

-- whether a call may be made while a buffer is critical
abbrev pub is_critical_call : JniFunction → Bool
is_critical_call (GetBuffer access) = is_critical access
is_critical_call (ReleaseBuffer access) = is_critical access
is_critical_call f = false

-- a dead reference
abbrev pub is_dead : Option VariableState → Bool
is_dead (Some (ReferenceAt level live)) = not live
is_dead s = false

-- a local reference
abbrev pub is_reference_now : Option VariableState → Bool
is_reference_now (Some (ReferenceAt level live)) = true
is_reference_now s = false

-- an untested buffer
abbrev pub is_untested : Option VariableState → Bool
is_untested (Some (BufferIn (Untested access array))) = true
is_untested s = false

-- a free buffer
abbrev pub is_free : Option VariableState → Bool
is_free (Some (BufferIn Free)) = true
is_free s = false

-- whether a release is not the one that a held buffer wants: of its own access, with its own array variable
abbrev pub is_mismatched : Release → Option VariableState → Bool
is_mismatched release (Some (BufferIn b)) = some_passes (λ held. not
    (same_access release.access held.0 && some_passes (bytes_eq held.1) release.object)) (held_by b)
is_mismatched release s = false

-- a buffer that is not free
abbrev pub is_held : Option VariableState → Bool
is_held (Some (BufferIn b)) = is_some (held_by b)
is_held s = false

-- whether some buffer is held, and whether one is of this variable's array
abbrev pub holds_buffer : RegionState → Bool
holds_buffer state = list_any (λ v. is_held (Some v.1)) state.variables

-- whether a variable is the array of a held buffer
abbrev pub is_array_in_use : RegionState → Identifier → Bool
is_array_in_use state x = list_any (λ held. bytes_eq held.1 x) (held_buffers state)

-- a reference of this level
abbrev pub is_level : ℕ → Option VariableState → Bool
is_level frames (Some (ReferenceAt level live)) = level == frames
is_level frames s = false

-- the number of the fault
abbrev pub region_rule_number : RegionRule → ℕ
region_rule_number CallWhileCritical = 31
region_rule_number ReturnWithBuffer = 32
region_rule_number HeldBuffer = 33
region_rule_number UntestedBuffer = 34
region_rule_number WrongBuffer = 35
region_rule_number ReturnInFrame = 36
region_rule_number PopLastFrame = 37
region_rule_number DeadReference = 38
region_rule_number ArrayInUse = 39
region_rule_number PathsDiffer = 40
region_rule_number WrongLevel = 41
region_rule_number NoReturn = 42

-- the rules that one statement can break by itself, the least number first
abbrev pub own_rules : List RegionRule
own_rules = CallWhileCritical ∷ ReturnWithBuffer ∷ HeldBuffer ∷ UntestedBuffer ∷ WrongBuffer ∷ ReturnInFrame ∷ PopLastFrame ∷ DeadReference ∷ ArrayInUse ∷ WrongLevel ∷ []

-- whether a statement breaks a rule by itself, with this state before it
abbrev pub breaks_region_rule : RegionRule → RegionState → Stmt → Bool
-- while a buffer is critical, or untested after a critical Get, put_jint or any other call
breaks_region_rule CallWhileCritical state s =
    list_any (λ held. is_critical held.0) (held_buffers state) && (is_put_jint s || some_passes (λ call. not (is_critical_call call.0)) (function_called s))
-- a return while a buffer is held
breaks_region_rule ReturnWithBuffer state s = is_return s && holds_buffer state
-- a Get into a buffer that is held
breaks_region_rule HeldBuffer state s = is_some (get_of (function_called s)) && some_passes (λ x. is_held (state_of state x)) (assigned_name s)
-- an untested buffer is read, written or released
breaks_region_rule UntestedBuffer state s =
    list_any (λ x. is_untested (state_of state x)) (flat_map elements_in (own_expressions s) ++ option_to_list (written_name s))
    || some_passes (λ release. some_passes (λ x. is_untested (state_of state x)) release.buffer) (release_of (function_called s))
-- a free buffer is tested, read, written or released; a held one is released wrongly
breaks_region_rule WrongBuffer state s =
    list_any (λ x. is_free (state_of state x)) (used_names s)
    || some_passes (λ release. (release.commits && is_critical release.access)
    || some_passes (λ x. is_mismatched release (state_of state x)) release.buffer) (release_of (function_called s))
breaks_region_rule ReturnInFrame state s = is_return s && nat_lt 1 state.frames
breaks_region_rule PopLastFrame state s = pops (function_called s) && nat_le state.frames 1
-- a dead reference is used
breaks_region_rule DeadReference state s = list_any (λ x. is_dead (state_of state x)) (used_names s)
-- the array variable of a held buffer is set, deleted or dies by a pop; a Get is of no local variable
breaks_region_rule ArrayInUse state s =
    some_passes (is_array_in_use state) (assigned_name s) || some_passes (is_array_in_use state) (deleted_name (function_called s))
    || (pops (function_called s) && list_any (λ held. is_level state.frames (state_of state held.1)) (held_buffers state))
    || some_passes (λ get. not (some_passes (λ x. is_reference_now (state_of state x)) get.1)) (get_of (function_called s))
-- a reference is set where the frames are not those of its declaration
breaks_region_rule WrongLevel state s =
    some_passes (λ x. is_reference_now (state_of state x) && not (is_level (frame_count_after state s) (state_of state x))) (assigned_name s)
breaks_region_rule rule state s = false

-- no rule is broken by the statement itself
abbrev pub Obeys : RegionState → Stmt → Type 0
Obeys state s = IsTrue (list_all (λ rule. not (breaks_region_rule rule state s)) own_rules)
