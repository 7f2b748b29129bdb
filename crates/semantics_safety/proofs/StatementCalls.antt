-- The call of a statement that keeps the rules, and what is known after it.
use Rattle.std.proofs.Common.{◌≡◌, ℕ, ◌+◌, ◌-◌, ◌<◌, ◌≤◌, arith, Bool, true, false, not, ◌&&◌, List, length, Option, Some, None, refl, sym, ap, ◌∙◌, subst, nat_le, if◌then◌else◌}
use Rattle.std.specs.Prelude.{flat_map}
use Rattle.std.specs.Option.{is_none, option_and_then, option_map}
use Rattle.std.proofs.lemmas.Bool.{not-false}
use Rattle.std.proofs.lemmas.Bool.Decides.{nat_tests}
use Rattle.base.specs.Bytes.{Identifier}
use Rattle.base.specs.Options.{some_passes}
use Rattle.syntax.specs.Parts.{argument_expressions, own_expressions, own_call}
use Rattle.syntax.specs.declared.unit.ResultType.{ResultType}
use Rattle.syntax.specs.Tree.{Call, TestCall, Stmt, If}
use Rattle.jni.specs.declared.function.JniFunction.{JniFunction}
use Rattle.jni.specs.declared.function.JniFunction.TheVariants.{PushLocalFrame}
use Rattle.jni.specs.JniFunction.{function_named, parameters_for, takes_count, prototype}
use Rattle.type_rules.specs.ExprTypes.{call_arguments_fit, arguments_fit}
use Rattle.type_rules.specs.TypeRules as rules
use Rattle.type_rules.specs.TypeRules.{has_wrong_count, has_wrong_mode, modes_fit, may_be_tested}
use Rattle.region_rules.specs.declared.rule.RegionRule.TheVariants.{PopLastFrame}
use Rattle.region_rules.specs.RegionRules.{Obeys}
use Rattle.region_rules.specs.RegionStates.{VariableState, ReferenceAt, BufferIn, RegionState, FunctionCall, function_called, Release, release_of, deleted_name, pops, made_free, killed, killed_from, with_some_changed, after_release, after_pop, after_call, get_of}
use Rattle.semantics.specs.Task.{Target, Tested, else_block, invocation}
use Rattle.semantics_safety.specs.Points.{Point}
use Rattle.semantics_safety.specs.Wanted.{CallFits, CallKeeps, ResultGoes, RunsPlain, RunsPush, call_seen, is_push, at}
use Rattle.semantics_safety.proofs.CallFits.{operands_of, after_same, get_same, call_rules, call_fits, unbroken}
use Rattle.type_rules.proofs.KeptPlaces.{IsKept}
use Rattle.type_rules.proofs.CallParameters.{parameters_count}
use Rattle.semantics_safety.proofs.KnownPoints.{IsKnown, Kin, kin_same, known_changed}
use Rattle.semantics_safety.proofs.PathsGive.{Pushes, free_kin, known_one}

-- a statement's call
pub record IsCalled (p : Point) (s : Stmt) (c : Call) : Type 0 where
  pub function : JniFunction
  pub is_named : function_named c.function ≡ Some function
  pub called : function_called s ≡ Some (function, c.arguments)
  pub count : length c.arguments ≡ length (parameters_for function (length c.arguments))
  pub fits : CallFits p function (operands_of function c.arguments)
  pub keeps : CallKeeps p function c.arguments

function_there : (o : Option JniFunction) → is_none o ≡ false → (f : JniFunction) × (o ≡ Some f)
function_there None h = absurd (cc)
function_there (Some f) h = (f, refl)

pub call_there : (p : Point) (taken : List Identifier) (returns : ResultType) (s : Stmt) (c : Call) → IsKnown p taken → IsKept p.names taken returns s → Obeys p.regions s → own_call s ≡ Some c → own_expressions s ≡ flat_map argument_expressions c.arguments → IsCalled p s c
call_there p taken returns s c known kept obeys own expressions =
    let found = function_there (function_named c.function) (ap (some_passes (λ (c : Call). is_none (function_named c.function))) (sym own) ∙ kept.there) in
    let f = found.0 in
    let called : function_called s ≡ Some (f, c.arguments) =
    ap (option_and_then (λ (c : Call). option_map (λ (f : JniFunction). (f, c.arguments)) (function_named c.function))) own ∙ ap (option_map (λ (f : JniFunction). (f, c.arguments))) found.1 in
    let right : has_wrong_count c (Some f) ≡ false = ap (has_wrong_count c) (sym found.1) ∙ ap (some_passes (λ (c : Call). has_wrong_count c (function_named c.function))) (sym own) ∙ kept.count in
    let takes = not-false (takes_count f (length c.arguments)) right in
    let fitted : not (call_arguments_fit p.names c (Some f)) ≡ false =
    ap (λ (o : Option JniFunction). not (call_arguments_fit p.names c o)) (sym found.1) ∙ ap (some_passes (λ (c : Call). not (call_arguments_fit p.names c (function_named c.function)))) (sym own) ∙ kept.arguments in
    let fit = not-false (arguments_fit p.names (parameters_for f (length c.arguments)) c.arguments) fitted in
    let moded : has_wrong_mode c (Some f) ≡ false = ap (has_wrong_mode c) (sym found.1) ∙ ap (some_passes (λ (c : Call). has_wrong_mode c (function_named c.function))) (sym own) ∙ kept.modes in
    let modes = not-false (modes_fit (prototype f).parameters c.arguments) moded in
    record {
      function = f;
      is_named = found.1;
      called = called;
      count = parameters_count f (length c.arguments) takes;
      fits = call_fits p known.stated s obeys f c.arguments called expressions takes fit modes;
      keeps = call_rules p known.stated s obeys f c.arguments called expressions takes fit modes;
    }

-- ---- what is known after a call

killed_kin : (p : Point) (taken : List Identifier) → IsKnown p taken → (x : Identifier) (u : VariableState) → Kin taken u u → Kin taken u (killed u)
killed_kin p taken k x (ReferenceAt level live) h = tt
killed_kin p taken k x (BufferIn b) h = h

from_kin : (taken : List Identifier) (level : ℕ) (u : VariableState) → Kin taken u u → Kin taken u (killed_from level u)
from_kin taken level (ReferenceAt l live) h = tt
from_kin taken level (BufferIn b) h = h

some_left : (n : ℕ) → nat_le n 1 ≡ false → 1 ≤ n - 1
some_left n h = let more : 1 < n = grind (arith, nat_tests, h) in omega (arith, more)

known_deleted : (p : Point) (taken : List Identifier) → IsKnown p taken → (o : Option Identifier) → IsKnown (at p (with_some_changed p.regions o killed)) taken
known_deleted p taken k None = k
known_deleted p taken k (Some x) = known_one p taken k x killed (λ y u e. killed_kin p taken k y u (kin_same p taken k y u e))

freed_if : (p : Point) (taken : List Identifier) → IsKnown p taken → (o : Option Identifier) → IsKnown (at p (with_some_changed p.regions o made_free)) taken
freed_if p taken k None = k
freed_if p taken k (Some x) = known_one p taken k x made_free (λ y u e. free_kin taken u)

known_released : (p : Point) (taken : List Identifier) → IsKnown p taken → (o : Option Release) → IsKnown (at p (after_release p.regions o)) taken
known_released p taken k None = k
known_released p taken k (Some release) = by_test release.commits
  where
    by_test : (b : Bool) → IsKnown (at p (if b then p.regions else with_some_changed p.regions release.buffer made_free)) taken
    by_test true = k
    by_test false = freed_if p taken k release.buffer

pub known_call : (p : Point) (taken : List Identifier) → IsKnown p taken → (call : Option FunctionCall) → (pops call && nat_le p.regions.frames 1) ≡ false → IsKnown (at p (after_call p.regions call)) taken
known_call p taken k call last = by_test (pops call) refl
  where
    later : IsKnown (at p (with_some_changed (after_release p.regions (release_of call)) (deleted_name call) killed)) taken
    later = known_deleted (at p (after_release p.regions (release_of call))) taken (known_released p taken k (release_of call)) (deleted_name call)

    popped : pops call ≡ true → IsKnown (at p (after_pop p.regions)) taken
    popped e =
        let more : nat_le p.regions.frames 1 ≡ false = ap (λ (b : Bool). b && nat_le p.regions.frames 1) (sym e) ∙ last in
        known_changed p taken k (λ x old. killed_from p.regions.frames old) (p.regions.frames - 1) (some_left p.regions.frames more) (λ x u at'. from_kin taken p.regions.frames u (kin_same p taken k x u at'))

    by_test : (b : Bool) → pops call ≡ b → IsKnown (at p (if b then after_pop p.regions else with_some_changed (after_release p.regions (release_of call)) (deleted_name call) killed)) taken
    by_test true e = popped e
    by_test false e = later

-- of a statement's call
pub known_called : (p : Point) (taken : List Identifier) (s : Stmt) → IsKnown p taken → Obeys p.regions s → IsKnown (at p (after_call p.regions (function_called s))) taken
known_called p taken s k obeys = known_call p taken k (function_called s) (unbroken p.regions s PopLastFrame obeys)

-- ---- tests

push_is : (f : JniFunction) → rules.is_push f ≡ true → f ≡ PushLocalFrame
push_is f h = grind (arith, h)

pushed_by : (p : Point) (s : Stmt) (line : ℕ) (target : Target) (c : Call) (on_true on_false : Point → Type 0) → IsCalled p s c → may_be_tested (function_named c.function) ≡ true → on_true (at p (record p.regions { frames = p.regions.frames + 1 })) → on_false p
    → RunsPush (invocation line target c (function_named c.function)) on_true on_false p
pushed_by p s line target c on_true on_false call tested h g =
    let pushes : rules.is_push call.function ≡ true = ap may_be_tested (sym call.is_named) ∙ tested in
    subst (λ (o : Option JniFunction). RunsPush (invocation line target c o) on_true on_false p) (sym call.is_named) (call.fits, push_is call.function pushes, h, g)

pub push_gives : Pushes
push_gives p taken returns line c then' else' known kept obeys on_true on_false h g =
    let s = If line (TestCall c) then' else' in
    pushed_by p s line (Tested then' (else_block line else')) c on_true on_false (call_there p taken returns s c known kept obeys refl refl) kept.fits h g

-- ---- results

no_push : (f : JniFunction) → not (rules.is_push f) ≡ true → is_push f ≡ false
no_push f h = grind (arith, h)

-- a call whose result goes where it may
pub call_runs : (p : Point) (s : Stmt) (line : ℕ) (target : Target) (c : Call) (k : Point → Type 0) (call : IsCalled p s c) → not (rules.is_push call.function) ≡ true
    → ResultGoes target (prototype call.function).result (get_of (function_called s)) k (at p (after_call p.regions (function_called s))) → RunsPlain (invocation line target c (function_named c.function)) k p
call_runs p s line target c k call plain goes =
    let f = call.function in
    let get = get_same c.arguments f call.count ∙ ap get_of (sym call.called) in
    let after = after_same c.arguments p.regions f call.count ∙ ap (after_call p.regions) (sym call.called) in
    subst (λ (o : Option JniFunction). RunsPlain (invocation line target c o) k p) (sym call.is_named)
    (call.fits, no_push f plain, subst (λ (g : _). ResultGoes target (prototype f).result g k (at p (after_call p.regions (call_seen f (operands_of f c.arguments))))) (sym get) (subst (λ (r : RegionState). ResultGoes target (prototype f).result (get_of (function_called s)) k (at p r)) (sym after) goes))
