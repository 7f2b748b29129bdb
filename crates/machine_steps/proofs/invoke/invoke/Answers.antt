use Rattle.std.proofs.Common.{sym, ◌∙◌}
use Rattle.machine_steps.proofs.invoke.invoke.Goals as goal

pub change_at_once-requires-clause-at_call : goal.change_at_once-requires-clause-at_call
change_at_once-requires-clause-at_call c = (c.args.context.owner, c.requires.may.at_call)

pub change_at_once-requires-clause-place : goal.change_at_once-requires-clause-place
change_at_once-requires-clause-place c = c.requires.may.place

pub change_at_once-requires-clause-function : goal.change_at_once-requires-clause-function
change_at_once-requires-clause-function c = sym c.is_of_monitors.ensures ∙ c.if-is_of_monitors.true

pub returns-then-change_at_once : goal.returns-then-change_at_once
returns-then-change_at_once c = record {
  done = c.change_at_once.ensures.done c.if-change_at_once.true c.args.context.owner;
  hindered = tt;
  refuses = λ is. absurd (cc);
  calls = λ is. absurd (cc);
  kept = tt;
}
