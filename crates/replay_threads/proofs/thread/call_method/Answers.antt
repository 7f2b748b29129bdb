use Rattle.std.proofs.Common.{subst, arith}
use Rattle.replay_arguments.specs.Shares.{shared_view}
use Rattle.replay_steps.specs.Callers.{MakesCaller}
use Rattle.replay_threads.proofs.ThreadLemmas.{stopped_so, waited_so}
use Rattle.replay_threads.proofs.thread.call_method.Goals as goal

pub returns-then-len-ge-MOST_ACTIVATIONS : goal.returns-then-len-ge-MOST_ACTIVATIONS
returns-then-len-ge-MOST_ACTIVATIONS c =
    let s = shared_view c.args.shared.now in
    let a = c.in-Some.activation in
    stopped_so s c.args.thread.now a c.args.line c.args.function.now c.in-Some-2.call c.in-Some.is
    (subst (MakesCaller s a c.args.line c.args.function.now) c.in-Some-2.is c.in_ok-call.ensures)
    (omega (arith, c.if-len-ge-MOST_ACTIVATIONS.true, c.len.ensures))

pub returns : goal.returns
returns c =
    let s = shared_view c.args.shared.now in
    let a = c.in-Some.activation in
    waited_so s c.args.thread.now a c.args.line c.args.function.now c.in-Some-2.call c.push_caller.new.thread c.in-Some.is
    (subst (MakesCaller s a c.args.line c.args.function.now) c.in-Some-2.is c.in_ok-call.ensures)
    (omega (arith, c.if-len-ge-MOST_ACTIVATIONS.false, c.len.ensures))
    (c.in_ok-push_caller.ensures a c.in-Some.is)
