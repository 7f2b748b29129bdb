use Rattle.std.proofs.Common.{◌≡◌, ℕ, ◌+◌, true, Err, List, Some, length, map, refl, sym, ap, ◌∙◌, subst}
use Rattle.std.specs.Global.{Vec}
use Rattle.std.specs.List.{list_all}
use Rattle.std.specs.Option.{option_map}
use Rattle.std.specs.Prelude.{flat_map, slice_get}
use Rattle.std.proofs.lemmas.Result.{err_from_is_err_and}
use Rattle.std.proofs.lemmas.Option.{slice_get_read, slice_get-map}
use Rattle.syntax.specs.Views.{unit_tree}
use Rattle.world_values.proofs.LoadedWorlds.{calls_given, thread_calls}
use Rattle.world_values.specs.CallArguments.{are_arguments}
use Rattle.world_values.specs.SoundWorlds.{has_call}
use Rattle.semantics.specs.World.{Invocation, loaded_objects}
use Rattle.semantics.specs.Start.{waiting_thread}
use Rattle.semantics.specs.Load.{refused_calls}
use Rattle.semantics_safety.specs.Owners.{no_owners}
use Rattle.machine_threads.specs.declared.thread.Thread.{Thread}
use Rattle.machine_threads.specs.ThreadAgrees.{ThreadAgrees, ThreadsAgree}
use Rattle.machine_threads.specs.Loading.{IsFirstOf}
use Rattle.machine_threads.proofs.ThreadLoads.{AgreeSoFar, all_agree, loads_at, none_refused, one_more, refused_at}
use Rattle.machine_threads.proofs.load.load_all.Goals as goal

-- the calls of a thread
thread_at : (ts : List (Vec Invocation)) (threads : List (List Invocation)) (k : ℕ) (t : Vec Invocation) → map (λ (v : Vec Invocation). v.items) ts ≡ threads → slice_get ts k ≡ Some t → slice_get threads k ≡ Some t.items
thread_at ts threads k t is at =
    ap (λ (l : List (List Invocation)). slice_get l k) (sym is)
    ∙ slice_get-map (λ (v : Vec Invocation). v.items) ts k
    ∙ ap (option_map (λ (v : Vec Invocation). v.items)) at

pub returns-in_err-thread-clause-refused : goal.returns-in_err-thread-clause-refused
returns-in_err-thread-clause-refused c =
    let unit = unit_tree c.args.program.now.unit in
    let classes = c.args.world.now.classes in
    let items = c.threads-calls-items.result.now in
    let at = slice_get_read items (length items) c.loop-calls.calls-index c.calls-item.result refl c.loop-calls-test.true c.calls-item.is in
    let first = subst (λ (cs : List Invocation). IsFirstOf (refused_calls unit classes cs) c.in_err-thread.field-0.0) c.deref.ensures.value c.in_err-thread.ensures.refused in
    let p = err_from_is_err_and c.from_residual.result c.from_residual.ensures.1 in
    rw (p.1 ∙ ap Err p.2) (subst (λ (cs : List (List Invocation)). IsFirstOf (flat_map (refused_calls unit classes) cs) c.in_err-thread.field-0.0) c.threads-calls-items.ensures.calls
    (subst (λ (l : List Invocation). IsFirstOf l c.in_err-thread.field-0.0) (sym c.loop-calls.invariant.all) (refused_at unit classes items c.loop-calls.calls-index c.calls-item.result at c.in_err-thread.field-0.0 first)))

pub load_thread-requires-clause-some : goal.load_thread-requires-clause-some
load_thread-requires-clause-some c =
    let items = c.threads-calls-items.result.now in
    let k = c.loop-calls.calls-index in
    let at = slice_get_read items (length items) k c.calls-item.result refl c.loop-calls-test.true c.calls-item.is in
    let there = thread_at items c.args.world.now.threads k c.calls-item.result c.threads-calls-items.ensures.calls at in
    subst (λ (cs : List Invocation). has_call cs ≡ true) (sym c.deref.ensures.value) (thread_calls c.args.world.now k _ c.threads-calls-items.ensures.sound there)

pub load_thread-requires-clause-given : goal.load_thread-requires-clause-given
load_thread-requires-clause-given c =
    let made = length (loaded_objects c.args.world.now) in
    let items = c.threads-calls-items.result.now in
    let k = c.loop-calls.calls-index in
    let at = slice_get_read items (length items) k c.calls-item.result refl c.loop-calls-test.true c.calls-item.is in
    let there = thread_at items c.args.world.now.threads k c.calls-item.result c.threads-calls-items.ensures.calls at in
    subst (λ (cs : List Invocation). list_all (are_arguments made) cs ≡ true) (sym c.deref.ensures.value) (calls_given c.args.world.now k _ c.threads-calls-items.ensures.sound there)

pub returns-clause-agree : goal.returns-clause-agree
returns-clause-agree c space copies k shared =
    let w = c.args.world.now in
    let items = c.threads-calls-items.result.now in
    subst (λ (cs : List (List Invocation)). ThreadsAgree c.args.program.now w.classes space copies (length (loaded_objects w)) (λ j. no_owners) k shared c.loop-calls.threads.items (map waiting_thread cs)) c.threads-calls-items.ensures.calls
    (all_agree c.args.program.now w.classes space copies (length (loaded_objects w)) shared items c.loop-calls.calls-index c.loop-calls.threads.items c.loop-calls-test.false (c.loop-calls.invariant.agree space copies shared) k)

pub returns-clause-all : goal.returns-clause-all
returns-clause-all c =
    let unit = unit_tree c.args.program.now.unit in
    let classes = c.args.world.now.classes in
    let items = c.threads-calls-items.result.now in
    ap (λ (cs : List (List Invocation)). flat_map (refused_calls unit classes) cs) (sym c.threads-calls-items.ensures.calls)
    ∙ c.loop-calls.invariant.all ∙ none_refused unit classes items c.loop-calls.calls-index c.loop-calls-test.false

pub loop-calls-preserved : goal.loop-calls-preserved
loop-calls-preserved c =
    let p = c.args.program.now in
    let classes = c.args.world.now.classes in
    let made = length (loaded_objects c.args.world.now) in
    let items = c.threads-calls-items.result.now in
    let k = c.loop-calls.calls-index in
    let at = slice_get_read items (length items) k c.calls-item.result refl c.loop-calls-test.true c.calls-item.is in
    record {
      agree = λ space copies shared. subst (λ (ts : List Thread). AgreeSoFar p classes space copies made shared items (k + 1) ts) (sym c.in_ok-push.ensures.items)
          (one_more p classes space copies made shared items k c.calls-item.result c.in_ok-thread.thread c.loop-calls.threads.items at
          (λ j. subst (λ (cs : List Invocation). ThreadAgrees p classes space copies made j no_owners shared c.in_ok-thread.thread (waiting_thread cs)) c.deref.ensures.value (c.in_ok-thread.ensures.agrees space copies j shared))
          (c.loop-calls.invariant.agree space copies shared));
      all = c.loop-calls.invariant.all ∙ loads_at (unit_tree p.unit) classes items k c.calls-item.result at (ap (refused_calls (unit_tree p.unit) classes) (sym c.deref.ensures.value) ∙ c.in_ok-thread.ensures.all);
    }
