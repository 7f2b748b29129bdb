use Rattle.std.proofs.Common.{◌≡◌, ◌≤◌, ℕ, ◌<◌, arith}
use Rattle.semantics.specs.Journal.{steps_in}
use Rattle.machine.specs.declared.turn.Turn.{Turn}
use Rattle.machine.specs.declared.turn.Turn.TheVariants as turn
use Rattle.machine.specs.Run.{Run, TurnHolds}
use Rattle.machine.proofs.Runs.{turned}
use Rattle.machine.proofs.machine.Machine.take_ready.Goals as goal

-- a turn for which the journal has room isn't refused as one that it has no room for
never_full : (old new : Run) (k : ℕ) (t : Turn) → steps_in old.journal < 1000000 → TurnHolds old k new t → t ≡ turn.Full → ⊥
never_full old new k turn.Full room h is = let many : 1000000 ≤ steps_in old.journal = h.1 in omega (arith, room, many)
never_full old new k t room h is = cc

pub returns-clause-ok : goal.returns-clause-ok
returns-clause-ok c =
    turned c.args.self.now c.step_ready.new.self c.args.k c.in_ok-step_ready.field-0 c.in_ok-step_ready.ensures.turn c.in_ok-step_ready.ensures.runs
    (never_full c.args.self.now c.step_ready.new.self c.args.k c.in_ok-step_ready.field-0 c.requires.ready.0 c.in_ok-step_ready.ensures.turn)

pub returns-clause-runs : goal.returns-clause-runs
returns-clause-runs c = c.in_ok-step_ready.ensures.runs
