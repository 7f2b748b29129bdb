use Rattle.machine_steps.proofs.CallsThere.{of_caller}
use Rattle.machine_steps.proofs.enter.enter.Goals as goal

pub enter_again-requires : goal.enter_again-requires
enter_again-requires c entering is = c.requires.ready c.args.thread.now.calls.items entering (of_caller c.args.loaded.now c.args.thread.now.entering entering c.args.thread.now.calls.items is)

pub returns-then-enter_again-clause-calls : goal.returns-then-enter_again-clause-calls
returns-then-enter_again-clause-calls c = c.enter_again.ensures.calls c.if-enter_again.true
