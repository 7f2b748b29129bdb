use Rattle.std.proofs.Common.{◌≡◌, ℕ, suc, ◌-◌, Bool, true, false, Option, Some, None, get_or, refl, sym, ◌∙◌, subst}
use Rattle.std.specs.Prelude.{slice_get, is_some, IsSome}
use Rattle.std.specs.Option.{option_map}
use Rattle.std.proofs.lemmas.Bool.{leb-true, leb-false}
use Rattle.semantics.specs.State as state
use Rattle.semantics.specs.Step.{is_blocked, is_unfinished}
use Rattle.semantics.specs.declared.event.Ending.{Ending}
use Rattle.semantics.specs.declared.event.Ending.TheVariants.{Unfinished, Ended, Uncaught}
use Rattle.semantics.specs.declared.event.Stop.{Stop}
use Rattle.semantics.specs.EventViews.{stop_view}
use Rattle.machine_threads.specs.declared.thread.Thread.{Thread}
use Rattle.machine.specs.declared.turn.Turn.{Turn}
use Rattle.machine.specs.declared.turn.Turn.TheVariants as turn
use Rattle.machine.specs.Run.{Run, InState, TurnHolds, Waits, turn_at_rest, replay_of, can_turn}
use Rattle.machine.proofs.Standings.{waits_known}
use Rattle.semantics.proofs.Endings.{unfinished}
use Rattle.machine.proofs.Steps.{can_turn_here, counted_from, has_ended, none_held, not_stopped, thread_there, threads_of}
use Rattle.machine.proofs.machine.Machine.turn_without_step.Goals as goal
use Rattle.machine.proofs.machine.Machine.turn_without_step.Goals.{After-index}

is_over : (e : Ending) → is_unfinished e ≡ false → e ≡ Unfinished → ⊥
is_over Unfinished h same = absurd (cc)
is_over Ended h same = cc
is_over (Uncaught class) h same = cc

-- the machine has
stops : (o : Option Stop) (s : Option state.Stop) → s ≡ option_map stop_view o → is_some o ≡ true → IsSome s
stops None s same h = absurd (cc)
stops (Some x) s same h = rw same refl

-- ---- where no step is taken

held : (old : Run) (k : ℕ) (stopped unfinished : Bool) (t : Turn) → turn_at_rest stopped unfinished ≡ Some t → (stopped ≡ true → TurnHolds old k old turn.Stopped) → (stopped ≡ false → unfinished ≡ false → TurnHolds old k old turn.Ended) → TurnHolds old k old t
held old k true unfinished t is a b = let same : turn.Stopped ≡ t = cc in subst (λ (x : Turn). TurnHolds old k old x) same (a refl)
held old k false false t is a b = let same : turn.Ended ≡ t = cc in subst (λ (x : Turn). TurnHolds old k old x) same (b refl refl)
held old k false true t is a b = absurd (cc)

-- ---- what is known once thread k was looked at

there : (c : After-index) (t : Thread) → t ≡ get_or c.self.inside.threads.items (c.from-index.result - 1) t → slice_get c.self.inside.threads.items (c.from-index.result - 1) ≡ Some t
there c t h = thread_there c.self.inside.threads.items c.args.k c.from-index.result _ t c.from-index.ensures c.requires.counted c.requires.is_thread (threads_of _ _ _ c.self.invariant.count c.self.view_is) h

number : (c : After-index) → c.args.k ≡ suc (c.from-index.result - 1)
number c = counted_from c.args.k c.from-index.result c.from-index.ensures c.requires.counted

replays : (c : After-index) → replay_of c.args.self.now ≡ Some c.self.invariant.state
replays c = subst (λ (r : Run). replay_of r ≡ Some c.self.invariant.state) c.self.view_is c.self.invariant.replays

-- the thread waits for no monitor
abbrev IsFree : After-index → Type 0
IsFree c = is_blocked c.self.inside.world.classes c.self.invariant.state c.args.k ≡ false

is_free : (c : After-index) (waits : Bool) → Waits c.args.self.now c.args.k waits → waits ≡ false → IsFree c
is_free c waits told none = sym (waits_known _ _ _ _ _ _ _ c.self.invariant c.args.self.now c.self.view_is c.args.k waits told) ∙ none

-- it can step where the machine goes on, and it has not ended and doesn't wait
can_step : (c : After-index) → c.self.inside.stop ≡ None → c.index.result.now.ending ≡ Unfinished → IsFree c → InState c.args.self.now (λ s. can_turn c.args.self.now s c.args.k ≡ true)
can_step c running live free = (
  c.self.invariant.state,
  replays c,
  subst (λ (r : Run). can_turn r c.self.invariant.state c.args.k ≡ true) c.self.view_is
      (can_turn_here _ _ _ _ _ _ _ c.self.invariant c.args.k (c.from-index.result - 1) c.index.result.now (number c) (there c c.index.result.now c.index.ensures) running live free),
)

pub returns-in-Some-clause-some : goal.returns-in-Some-clause-some
returns-in-Some-clause-some c =
    let a = (goal.at.returns-in-Some-clause-some c).After-index in
    held c.args.self.now c.args.k (is_some c.self.inside.stop) (is_unfinished c.index.result.now.ending) c.in-Some.turn (sym c.turn_at_rest.ensures ∙ c.in-Some.is)
    (λ stopped. (refl, (c.self.invariant.state, replays a, stops c.self.inside.stop c.self.invariant.state.stop c.self.invariant.same_stop stopped)))
    (λ goes over. (refl, (c.self.invariant.state, replays a, has_ended _ _ _ _ _ _ _ c.self.invariant c.args.k (c.from-index.result - 1) c.index.result.now (number a) (there a c.index.result.now c.index.ensures) (not_stopped c.self.inside.stop goes) (is_over _ over))))

pub returns-then-is_full-clause-some : goal.returns-then-is_full-clause-some
returns-then-is_full-clause-some c =
    let a = (goal.at.returns-then-is_full-clause-some c).After-index in
    let none = none_held (is_some c.self.inside.stop) (is_unfinished c.index.result.now.ending) (sym c.turn_at_rest.ensures ∙ c.in_default.is) in
    (refl, leb-true 1000000 _ (sym c.is_full.ensures ∙ c.if-is_full.true), can_step a (not_stopped c.self.inside.stop none.0) (unfinished _ none.1) (is_free a c.waits.result c.waits.ensures c.if-waits.false))

pub returns-clause-none : goal.returns-clause-none
returns-clause-none c =
    let a = (goal.at.returns-clause-none c).After-index in
    let none = none_held (is_some c.self.inside.stop) (is_unfinished c.index.result.now.ending) (sym c.turn_at_rest.ensures ∙ c.in_default.is) in (
      leb-false 1000000 _ (sym c.is_full.ensures ∙ c.if-is_full.false),
      can_step a (not_stopped c.self.inside.stop none.0) (unfinished _ none.1) (is_free a c.waits.result c.waits.ensures c.if-waits.false),
    )
