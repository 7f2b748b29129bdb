use Rattle.std.proofs.Common.{◌≡◌, Some, true, false, refl, sym, ◌∙◌, subst}
use Rattle.semantics.specs.State.{State}
use Rattle.semantics.specs.Step.{is_blocked}
use Rattle.machine.specs.Run.{Run, is_finished, replay_of}
use Rattle.machine.proofs.Steps.{can_awake}
use Rattle.machine.proofs.machine.Machine.step_ready.Goals as goal

-- a journal leads to one state
same_state : (r : Run) (s t : State) → replay_of r ≡ Some s → replay_of r ≡ Some t → s ≡ t
same_state r s t a b = cc (sym a, b)

pub returns-then-waits-clause-turn : goal.returns-then-waits-clause-turn
returns-then-waits-clause-turn c =
    let r = c.args.self.now in
    let a = c.requires.ready.1 in
    let w = c.waits.ensures in
    let f = c.finished.ensures in (
      refl,
      (
        a.0,
        a.1,
        record {
          running = a.2.0;
          waits = subst (λ (s : State). is_blocked r.world.classes s c.args.k ≡ true) (same_state r w.0 a.0 w.1 a.1) (sym w.2 ∙ c.if-waits.true);
          others = subst (λ (s : State). c.finished.result ≡ is_finished r.world.classes s) (same_state r f.0 a.0 f.1 a.1) f.2;
        },
      ),
    )

pub returns-then-waits-clause-runs : goal.returns-then-waits-clause-runs
returns-then-waits-clause-runs c = rw c.requires.ready.1.1 refl

-- it can step where it doesn't wait
pub step_now-requires-clause-could : goal.step_now-requires-clause-could
step_now-requires-clause-could c =
    let r = c.args.self.now in
    let a = c.requires.ready.1 in
    let w = c.waits.ensures in (
      c.requires.ready.0,
      (
        a.0,
        a.1,
        can_awake r.world.classes a.0 c.args.k a.2.0 a.2.1 (subst (λ (s : State). is_blocked r.world.classes s c.args.k ≡ false) (same_state r w.0 a.0 w.1 a.1) (sym w.2 ∙ c.if-waits.false)),
      ),
    )
