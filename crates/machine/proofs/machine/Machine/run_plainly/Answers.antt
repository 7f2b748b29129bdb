use Rattle.std.proofs.Common.{◌≡◌, suc, ◌-◌, true, false, Option, Some, None, [], replicate, refl, sym, ◌∙◌, subst, arith, IsSome}
use Rattle.std.specs.Prelude.{slice_get, is_some}
use Rattle.semantics.specs.declared.schedule.ScheduleWord.TheVariants.{Turn as Word}
use Rattle.semantics.specs.Step.{is_unfinished}
use Rattle.std.proofs.lemmas.Option.{slice_get_within}
use Rattle.base.proofs.Lists.{get_set_same}
use Rattle.machine.specs.declared.turn.Turn.{Turn}
use Rattle.semantics.specs.declared.event.Stop.{Stop}
use Rattle.machine.specs.Run.{CanGoOn, Corresponds, Run, RunsAlong, WentOn, replay_of, seen}
use Rattle.machine.proofs.Runs.{none_yet}
use Rattle.semantics.proofs.Endings.{unfinished}
use Rattle.machine.proofs.Steps.{awake_here, counted_from, none_held, not_stopped, thread_there, threads_of}
use Rattle.machine.proofs.machine.Machine.run_plainly.Goals as goal
use Rattle.machine.proofs.machine.Machine.run_plainly.Goals.{After-index_mut-thread, After-is_some, After-take_plainly}

there : (c : After-index_mut-thread) → slice_get c.self.inside.threads.items (c.from-index.result - 1) ≡ Some c.index_mut-thread.result.now
there c = thread_there c.self.inside.threads.items c.args.k c.from-index.result _ c.index_mut-thread.result.now c.from-index.ensures c.requires.counted c.requires.is_thread (threads_of _ _ _ c.self.invariant.count c.self.view_is) c.index_mut-thread.ensures.value

number : (c : After-index_mut-thread) → c.args.k ≡ suc (c.from-index.result - 1)
number c = counted_from c.args.k c.from-index.result c.from-index.ensures c.requires.counted

runs : (c : After-index_mut-thread) → IsSome (replay_of c.args.self.now)
runs c = subst (λ (r : Run). IsSome (replay_of r)) c.self.view_is (rw c.self.invariant.replays refl)

none_is : (o : Option Turn) → is_some o ≡ false → o ≡ None
none_is None h = refl
none_is (Some t) h = absurd (cc)

-- ---- where the thread takes turns

free : (c : After-is_some) → is_some c.turn_at_rest.result ≡ false → (is_some c.self.inside.stop ≡ false) × (is_unfinished c.index_mut-thread.result.now.ending ≡ true)
free c none = none_held (is_some c.self.inside.stop) (is_unfinished c.index_mut-thread.result.now.ending) (sym c.turn_at_rest.ensures ∙ none_is c.turn_at_rest.result none)

-- the thread can go on
can_go_on : (c : After-is_some) → is_some c.turn_at_rest.result ≡ false → CanGoOn c.self.inside.program c.self.inside.world c.self.inside.store c.self.inside.threads.items (c.from-index.result - 1) c.self.inside.printed.items c.self.inside.journal.entries c.args.k c.index_mut-thread.result.now
can_go_on c none =
    let a = (goal.at.After-is_some c).After-index_mut-thread in
    let i = c.self.inside in
    record {
      stands = subst (λ (stop : Option Stop). Corresponds i.program i.world i.store i.threads.items i.printed.items stop i.journal.entries) (not_stopped i.stop (free c none).0) c.self.invariant;
      number = number a;
      at = there a;
      lives = unfinished c.index_mut-thread.result.now.ending (free c none).1;
    }

pub returns-then-is_some-clause-along : goal.returns-then-is_some-clause-along
returns-then-is_some-clause-along c = subst (λ (r : Run). RunsAlong c.args.self.now r []) (sym c.self.view_is) (none_yet c.args.self.now (runs (goal.at.returns-then-is_some-clause-along c).After-index_mut-thread))

pub take_plainly-requires-clause-stands : goal.take_plainly-requires-clause-stands
take_plainly-requires-clause-stands c =
    let i = c.self.inside in
    (i.threads.items, c.from-index.result - 1, i.printed.items, can_go_on (goal.at.take_plainly-requires-clause-stands c).After-is_some (sym c.is_some.ensures ∙ c.if-is_some.false))

pub take_plainly-requires-clause-goes : goal.take_plainly-requires-clause-goes
take_plainly-requires-clause-goes c = not_stopped c.self.inside.stop (free (goal.at.take_plainly-requires-clause-goes c).After-is_some (sym c.is_some.ensures ∙ c.if-is_some.false)).0

-- what it came to
went : (c : After-take_plainly) → WentOn c.self.inside.program c.self.inside.world c.self.inside.store c.take_plainly.new.store c.self.inside.threads.items (c.from-index.result - 1) c.self.inside.printed.items c.self.inside.journal.entries c.args.k c.take_plainly.result.taken c.take_plainly.new.thread c.take_plainly.new.stop c.take_plainly.new.journal.entries
went c =
    let i = c.self.inside in
    c.take_plainly.ensures.went i.threads.items (c.from-index.result - 1) i.printed.items (can_go_on (goal.at.After-take_plainly c).After-is_some (sym c.is_some.ensures ∙ c.if-is_some.false))

pub invariant_of-self-2 : goal.invariant_of-self-2
invariant_of-self-2 c = (went (goal.at.invariant_of-self-2 c).After-take_plainly).stands

pub returns-clause-along : goal.returns-clause-along
returns-clause-along c =
    subst (λ (r : Run). RunsAlong r (seen c.self.inside.program c.self.inside.world c.take_plainly.new.store c.take_plainly.new.journal.entries) (replicate c.take_plainly.result.taken (Word c.args.k))) c.self.view_is (went (goal.at.returns-clause-along c).After-take_plainly).along

pub returns-clause-ready : goal.returns-clause-ready
returns-clause-ready c is =
    let a = (goal.at.returns-clause-ready c).After-take_plainly in
    let at = (goal.at.After-take_plainly a).After-is_some in
    let t = (goal.at.After-is_some at).After-index_mut-thread in
    let w = went a in
    let h = c.take_plainly.ensures.ready is in
    let lives = unfinished c.index_mut-thread.result.now.ending (free at (sym c.is_some.ensures ∙ c.if-is_some.false)).1 in (
      omega (arith, h.0, c.most_steps-most.ensures.most),
      (
        h.3,
        (
          w.stands.state,
          w.stands.replays,
          awake_here _ _ _ _ _ _ _ w.stands c.args.k (c.from-index.result - 1) c.take_plainly.new.thread (number t)
              (get_set_same c.self.inside.threads.items (c.from-index.result - 1) c.take_plainly.new.thread (slice_get_within c.self.inside.threads.items (c.from-index.result - 1) c.index_mut-thread.result.now (there t))) h.1 (h.2 ∙ lives),
        ),
      ),
    )

pub returns-clause-runs : goal.returns-clause-runs
returns-clause-runs c = rw (went (goal.at.returns-clause-runs c).After-take_plainly).stands.replays refl
