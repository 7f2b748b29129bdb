use Rattle.std.proofs.Common.{sym, ◌∙◌}
use Rattle.machine_steps.proofs.CallsThere.{of_caller}
use Rattle.machine_steps.proofs.enter.enter_again.Goals as goal

pub begin_in_spare-requires : goal.begin_in_spare-requires
begin_in_spare-requires c = c.requires c.in-Some.entering (sym c.take.ensures.value ∙ c.in-Some.is)

pub returns-then-begin_in_spare-clause-calls : goal.returns-then-begin_in_spare-clause-calls
returns-then-begin_in_spare-clause-calls c =
    let made = c.begin_in_spare.ensures.begins c.if-begin_in_spare.true in
    λ is. record {
      entering = c.in-Some.entering;
      next = of_caller c.args.loaded.now c.args.thread.now.entering c.in-Some.entering c.args.thread.now.calls.items (sym c.take.ensures.value ∙ c.in-Some.is);
      activation = made.0;
      active = c.swap.ensures.x_after ∙ made.1;
      begins = made.2;
    }
