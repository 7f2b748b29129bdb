-- The names in scope: what leaves them as they are, and what adds to them.
use Rattle.std.proofs.Common.{◌≡◌, bytes_eq, Bool, true, false, if◌then◌else◌, List, [], ◌∷◌, ◌++◌, append-nil, map, Option, Some, None, refl, sym, ap, ◌∙◌}
use Rattle.std.specs.Prelude.{reverse}
use Rattle.std.proofs.lemmas.List.{reverse-append}
use Rattle.base.specs.Bytes.{Identifier}
use Rattle.syntax.specs.declared.declared_type.VariableType.TheVariants.{Reference as ReferenceVariable}
use Rattle.syntax.specs.declared.declared_type.DeclaredType.TheVariants.{Simple, Pointer, ConstChars}
use Rattle.syntax.specs.Tree.{Test, TestExpr, TestCall, Stmt, Plain, Declare, Assign}
use Rattle.syntax.specs.NullTests.{NullTest, null_test_of}
use Rattle.region_states.specs.Changes.{taught_true, taught_false}
use Rattle.region_rules.specs.RegionStates.{RegionState, VariableState, ReferenceAt, BufferIn, buffer_set_to, FunctionCall, Release, with_each, with_changed, with_some_changed, with_new, with_set, after_pop, after_release, after_call, release_of, deleted_name, pops, killed, killed_from, made_free, function_called, state_after}
use Rattle.region_rules.specs.Regions.{where_true, where_false}
use Rattle.region_states.specs.SameStates.{NamedState}
use Rattle.region_states.specs.StatesInMemory.{names_of}
use Rattle.region_states.specs.NewNames.{own_names}
use Rattle.region_states.specs.Judgements.{effected}
use Rattle.region_states.specs.StateEffects.{EffectCall, popped, released, deleted}
use Rattle.region_states.proofs.ChangeLemmas.{true_is, false_is}

-- ---- changes

firsts : (change : Identifier → VariableState → VariableState) (vs : List NamedState) → map (λ (v : NamedState). v.0) (map (λ v. (v.0, change v.0 v.1)) vs) ≡ map (λ v. v.0) vs
firsts change [] = refl
firsts change (v ∷ vs) = ap (λ (ns : List Identifier). v.0 ∷ ns) (firsts change vs)

each_names : (state : RegionState) (change : Identifier → VariableState → VariableState) → names_of (with_each state change) ≡ names_of state
each_names state change = ap reverse (firsts change state.variables)

changed_names : (state : RegionState) (x : Identifier) (change : VariableState → VariableState) → names_of (with_changed state x change) ≡ names_of state
changed_names state x change = each_names state (λ y old. if bytes_eq x y then change old else old)

some_names : (state : RegionState) (o : Option Identifier) (change : VariableState → VariableState) → names_of (with_some_changed state o change) ≡ names_of state
some_names state None change = refl
some_names state (Some x) change = changed_names state x change

-- ---- tests

true_names : (state : RegionState) (tested : Option NullTest) → names_of (taught_true state tested) ≡ names_of state
true_names state None = refl
true_names state (Some test) = changed_names state test.name _

false_names : (state : RegionState) (tested : Option NullTest) → names_of (taught_false state tested) ≡ names_of state
false_names state None = refl
false_names state (Some test) = changed_names state test.name _

pub where_true_names : (state : RegionState) (test : Test) → names_of (where_true state test) ≡ names_of state
where_true_names state (TestExpr e) = ap names_of (true_is state e) ∙ true_names state (null_test_of e)
where_true_names state (TestCall c) = refl

pub where_false_names : (state : RegionState) (test : Test) → names_of (where_false state test) ≡ names_of state
where_false_names state (TestExpr e) = ap names_of (false_is state e) ∙ false_names state (null_test_of e)
where_false_names state (TestCall c) = refl

-- ---- statements

release_names : (state : RegionState) (release : Option Release) → names_of (after_release state release) ≡ names_of state
release_names state None = refl
release_names state (Some release) = by release.commits
  where
    by : (b : Bool) → names_of (if b then state else with_some_changed state release.buffer made_free) ≡ names_of state
    by true = refl
    by false = some_names state release.buffer made_free

call_names : (state : RegionState) (call : Option FunctionCall) → names_of (after_call state call) ≡ names_of state
call_names state call = by (pops call)
  where
    by : (b : Bool) → names_of (if b then after_pop state else with_some_changed (after_release state (release_of call)) (deleted_name call) killed) ≡ names_of state
    by true = each_names state (λ x old. killed_from state.frames old)
    by false = some_names (after_release state (release_of call)) (deleted_name call) killed ∙ release_names state (release_of call)

new_names : (state : RegionState) (x : Identifier) (v : VariableState) → names_of (with_new state x v) ≡ names_of state ++ x ∷ []
new_names state x v = reverse-append (x ∷ []) (map (λ (w : NamedState). w.0) state.variables)

set_names : (state : RegionState) (s : Stmt) → names_of (with_set state s) ≡ names_of state ++ own_names s
set_names state (Plain line (Declare (Simple (ReferenceVariable t)) x r)) = new_names state x (ReferenceAt state.frames true)
set_names state (Plain line (Declare (Pointer t) x r)) = new_names state x (BufferIn (buffer_set_to r))
set_names state (Plain line (Declare ConstChars x r)) = new_names state x (BufferIn (buffer_set_to r))
set_names state (Plain line (Assign x r)) = changed_names state x _ ∙ sym (append-nil (names_of state))
set_names state s = sym (append-nil (names_of state))

-- a statement adds its own name
pub after_names : (state : RegionState) (s : Stmt) → names_of (state_after state s) ≡ names_of state ++ own_names s
after_names state s = set_names (after_call state (function_called s)) s ∙ ap (λ (ns : List Identifier). ns ++ own_names s) (call_names state (function_called s))

-- what a call does leaves the names
pub effected_names : (state : RegionState) (call : Option EffectCall) → names_of (effected state call) ≡ names_of state
effected_names state call = by (popped call)
  where
    by : (b : Bool) → names_of (if b then after_pop state else with_some_changed (after_release state (released call)) (deleted call) killed) ≡ names_of state
    by true = each_names state (λ x old. killed_from state.frames old)
    by false = some_names (after_release state (released call)) (deleted call) killed ∙ release_names state (released call)
