use Rattle.std.proofs.lemmas.Result.{IfOk-weaker}
use Rattle.replay_tasks.specs.declared.outcome.Outcome.TheVariants as outcome
use Rattle.replay_steps.proofs.FinishedTasks.{entered_set, finished, finished_range, left_alone}
use Rattle.replay_steps.proofs.activation.finish_test.Goals as goal

pub begin-requires : goal.begin-requires
begin-requires c =
    finished_range c.args.work.now c.enter_block.new.work (outcome.Enters c.args.block c.args.end) c.requires.settled (entered_set c.args.work.now c.enter_block.new.work c.requires.settled.task c.args.block c.args.end c.in_ok-enter_block.ensures) c.requires.range.range c.requires.entered

pub returns-clause-step : goal.returns-clause-step
returns-clause-step c =
    IfOk-weaker c.begin.result _ _ (λ u same. λ scene.
    finished c.args.work.now c.enter_block.new.work (outcome.Enters c.args.block c.args.end) c.requires.settled (entered_set c.args.work.now c.enter_block.new.work c.requires.settled.task c.args.block c.args.end c.in_ok-enter_block.ensures) scene scene.variables c.begin.new.work
    (left_alone scene) same)
    c.begin.ensures.tasks
