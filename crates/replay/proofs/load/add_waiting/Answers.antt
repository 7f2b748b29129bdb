use Rattle.std.proofs.Common.{◌≤◌, ◌++◌, ℕ, List, [], drop, length, refl, subst, arith}
use Rattle.std.specs.Global.{Vec}
use Rattle.std.proofs.lemmas.List.{append-nil}
use Rattle.std.proofs.lemmas.Option.{slice_get_read}
use Rattle.std.proofs.Math.ListN.{drop_of_length-le}
use Rattle.semantics.specs.World.{Invocation}
use Rattle.replay_threads.specs.declared.thread.Thread.{Thread}
use Rattle.replay.specs.Loading.{AddsWaiting, AreWaiting}
use Rattle.replay.proofs.LoadLemmas.{as_many_waiting, calls_of, more_waiting}
use Rattle.replay.proofs.load.add_waiting.Goals as goal

-- all threads are made
all : (items : List (Vec Invocation)) (i : ℕ) (threads : List Thread) → length items ≤ i
    → ((rest : List Thread) → AreWaiting rest (calls_of (drop i items)) → AreWaiting (threads ++ rest) (calls_of items))
    → AreWaiting threads (calls_of items)
all items i threads past h =
    let none : AreWaiting [] (calls_of (drop i items)) = rw (drop_of_length-le items past) tt in
    subst (λ ts. AreWaiting ts (calls_of items)) (append-nil threads) (h [] none)

pub loop-calls-preserved : goal.loop-calls-preserved
loop-calls-preserved c =
    let items = c.threads-calls-items.result.now in
    let at = slice_get_read items (length items) c.loop-calls.calls-index c.calls-item.result refl c.loop-calls-test.true c.calls-item.is in
    let adds = subst (λ (cs : List Invocation). AddsWaiting c.loop-calls.threads.items cs c.push_waiting.new.threads.items) c.deref.ensures.value c.in_ok-push_waiting.ensures in
    more_waiting items c.loop-calls.calls-index c.calls-item.result c.loop-calls.threads.items c.push_waiting.new.threads.items at adds c.loop-calls.invariant

pub returns-clause-waiting : goal.returns-clause-waiting
returns-clause-waiting c =
    subst (AreWaiting c.loop-calls.threads.items) c.threads-calls-items.ensures.calls
    (all c.threads-calls-items.result.now c.loop-calls.calls-index c.loop-calls.threads.items c.loop-calls-test.false c.loop-calls.invariant)

pub returns-clause-few : goal.returns-clause-few
returns-clause-few c =
    let made = as_many_waiting c.loop-calls.threads.items c.args.world.now.threads (returns-clause-waiting c) in
    let few : length c.args.world.now.threads ≤ 8 = c.threads-calls-items.ensures.sound.few_threads in
    omega (arith, made, few)
