-- What holds of each caller of a thread before a step holds of each after it.
use Rattle.std.proofs.Common.{◌≡◌, refl, ℕ, Bool, true, false, List, [], ◌∷◌, Option, Some, None, sym, ap, subst}
use Rattle.std.specs.List.{AllByRecursion}
use Rattle.std.specs.Option.{option_map}
use Rattle.class_rules.specs.Class.{Classes}
use Rattle.syntax.specs.Tree.{Function, SourceUnit}
use Rattle.semantics.specs.Activation.{class_of_function, enter, entered, entered_function, entry_advance, function_at}
use Rattle.semantics.specs.CallEffects.{CallResult}
use Rattle.semantics.specs.CallStep.{put, received}
use Rattle.semantics.specs.Effect.{Effect, Calls, effect_of}
use Rattle.semantics.specs.Return.{given_back, resumed_in, return_by}
use Rattle.semantics.specs.Task.{Task, Target}
use Rattle.semantics.specs.Arguments.{Actual}
use Rattle.jni.specs.declared.function.JniFunction.{JniFunction}
use Rattle.jni.specs.JniFunction.{calls_method, prototype}
use Rattle.semantics.specs.Thread.{Caller, Thread, Shared, BuffersInUse, Advance, Advances, NoAdvance, sight_of}
use Rattle.semantics.specs.ThreadStep.{after_effect, after_refused_effect, step_within, thread_step}
use Rattle.semantics.specs.World.{Invocation}
use Rattle.semantics_safety.proofs.CallLaws.{Path, Returning, Calling, Within, path_of}
use Rattle.semantics_safety.proofs.Pushes.{each_call, unrefused}
use Rattle.semantics_safety.proofs.KeptCalls.{Held, KeepsCalls, calls_kept, held, put_keeps, received_calls}

-- it holds of each caller that a step leaves
abbrev pub LeavesCallers : (Caller → Type 0) → Advance → Type 0
LeavesCallers P (Advances s t event) = AllByRecursion P t.callers
LeavesCallers P NoAdvance = Unit {0}

module _ (P : Caller → Type 0) where
  held_callers : (h : Held) → AllByRecursion P h.1 → (e : Advance) → KeepsCalls h e → LeavesCallers P e
  held_callers h all (Advances s t event) kept = subst (AllByRecursion P) (sym (ap (λ (x : Held). x.1) kept)) all
  held_callers h all NoAdvance kept = tt

  module _ (unit : SourceUnit) (classes : Classes) (in_use : BuffersInUse) (k : ℕ) (s : Shared) (t : Thread) (all : AllByRecursion P t.callers) where
    class_left : (f : Function) (call : Invocation) (calls : List Invocation) (o : Option ℕ) → LeavesCallers P (entry_advance s (option_map (λ c. entered t calls f c call.arguments) o))
    class_left f call calls None = tt
    class_left f call calls (Some c) = all

    function_left : (call : Invocation) (calls : List Invocation) (o : Option Function) → LeavesCallers P (entry_advance s (entered_function classes t call calls o))
    function_left call calls None = tt
    function_left call calls (Some f) = class_left f call calls (class_of_function classes f)

    entry_left : (calls : List Invocation) → LeavesCallers P (entry_advance s (enter unit classes t calls))
    entry_left [] = tt
    entry_left (call ∷ calls) = function_left call calls (function_at unit call.function)

    return_left : (given : CallResult) (callers : List Caller) → AllByRecursion P callers → LeavesCallers P (return_by k s t given callers)
    return_left given [] h = tt
    return_left given (c ∷ callers) h =
        let back = given_back t.pending c.result given in
        held_callers (t.calls, callers) h.1 (put c.target back s (received c.result back (resumed_in t c callers)))
        (put_keeps c.target back s (received c.result back (resumed_in t c callers)) (t.calls, callers) (received_calls c.result back (resumed_in t c callers)))

    -- what holds of the caller that a call of a method makes
    abbrev pub HoldsPushed : Option (List Task) → Type 0
    HoldsPushed o = (task : Task) (rest : List Task) (line : ℕ) (target : Target) (f : JniFunction) (args : List Actual) → o ≡ Some (task ∷ rest) → effect_of (sight_of s t) task ≡ Calls line target f args → calls_method f ≡ true
        → P (record { target = target; result = (prototype f).result; tasks = rest; variables = t.variables; frames = t.frames })

    within_left : (refused : Bool) (task : Task) (rest : List Task) → HoldsPushed (Some (task ∷ rest)) → Path (effect_of (sight_of s t) task) → LeavesCallers P (step_within unit classes in_use k s t refused (Some (task ∷ rest)))
    within_left false task rest pushed (Returning given is) = subst (λ (e : Effect). LeavesCallers P (after_effect unit classes in_use k s t rest e)) (sym is) (return_left given t.callers all)
    within_left true task rest pushed (Returning given is) = subst (λ (e : Effect). LeavesCallers P (after_refused_effect unit classes in_use k s t rest e)) (sym is) tt
    within_left false task rest pushed (Calling line target f args is method) =
        subst (λ (e : Effect). LeavesCallers P (after_effect unit classes in_use k s t rest e)) (sym is)
        (each_call unit classes in_use k s t line target f args rest method (LeavesCallers P) (λ trap. all) (λ m none given. (pushed task rest line target f args refl is method, all)))
    within_left true task rest pushed (Calling line target f args is method) =
        subst (λ (e : Effect). LeavesCallers P (after_refused_effect unit classes in_use k s t rest e)) (sym is)
        (unrefused unit classes in_use k s t line target f args rest method (LeavesCallers P) tt)
    within_left refused task rest pushed (Within away) = held_callers (held t) all (step_within unit classes in_use k s t refused (Some (task ∷ rest))) (calls_kept unit classes in_use k s t refused task rest away)

    step_left : (refused : Bool) (o : Option (List Task)) → HoldsPushed o → LeavesCallers P (step_within unit classes in_use k s t refused o)
    step_left true None pushed = tt
    step_left false None pushed = entry_left t.calls
    step_left true (Some []) pushed = tt
    step_left false (Some []) pushed = tt
    step_left refused (Some (task ∷ rest)) pushed = within_left refused task rest pushed (path_of (effect_of (sight_of s t) task))

    pub callers_left : HoldsPushed t.tasks → (refused : Bool) → LeavesCallers P (thread_step unit classes in_use k s t refused)
    callers_left pushed refused = step_left refused t.tasks pushed
