use Rattle.replay_terms.proofs.reduction.+reduce.Goals as goal

pub reduce_in-returns-in-Number-clause-step : goal.reduce_in-returns-in-Number-clause-step
reduce_in-returns-in-Number-clause-step g t c = c.replace_small.ensures.step c.args.statics.now (g.O.Objects.heap c.args.objects.now)

pub reduce_in-returns-in-Read-clause-step : goal.reduce_in-returns-in-Read-clause-step
reduce_in-returns-in-Read-clause-step g t c = c.replace_small-in-Read.ensures.step c.args.statics.now (g.O.Objects.heap c.args.objects.now)
