use Rattle.machine.proofs.Runs.{turned}
use Rattle.machine.proofs.machine.Machine.take_turn.Goals as goal

pub returns-in_default : goal.returns-in_default
returns-in_default c = record {
  ok = turned c.args.self.now c.step.new.self c.args.k c.in_ok-step.field-0 c.in_ok-step.ensures.turn c.in_ok-step.ensures.runs c.in_default.not-Full;
  err = tt;
  runs = c.in_ok-step.ensures.runs;
}
