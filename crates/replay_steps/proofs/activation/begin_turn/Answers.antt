use Rattle.syntax.specs.Views.{expr_tree, block_tree}
use Rattle.semantics.specs.Task.{Loop}
use Rattle.semantics.specs.Term.{term_of}
use Rattle.replay_steps.proofs.ActivationLemmas.{begun_as}
use Rattle.replay_steps.proofs.activation.begin_turn.Goals as goal

pub returns : goal.returns
returns c =
    let test = expr_tree c.args.test.now in
    begun_as (Loop c.args.line test (term_of test) (block_tree c.args.body.now)) c.loop_task.new.place c.in_ok-loop_task.ensures.view c.in_ok-loop_task.ensures.range
