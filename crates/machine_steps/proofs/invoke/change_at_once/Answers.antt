use Rattle.machine_steps.proofs.invoke.change_at_once.Goals as goal

pub finish_monitor-requires-clause-at_call : goal.finish_monitor-requires-clause-at_call
finish_monitor-requires-clause-at_call c = (c.args.pending, c.requires.at_call.0, c.requires.at_call.1)

pub returns-in-Some-clause-done : goal.returns-in-Some-clause-done
returns-in-Some-clause-done c = λ done owner. c.finish_monitor.ensures.done done c.args.pending owner c.in-Some.ensures.answer
