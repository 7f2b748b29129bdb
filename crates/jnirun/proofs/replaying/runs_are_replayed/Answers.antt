use Rattle.jnirun.proofs.ReplayLaws.{runs_replayed, works_replayed}
use Rattle.jnirun.proofs.replaying.runs_are_replayed.Goals as goal

pub returns-clause-runs : goal.returns-clause-runs
returns-clause-runs c = runs_replayed c.one_unit.ensures

pub returns-clause-works : goal.returns-clause-works
returns-clause-works c = works_replayed c.one_unit.ensures
