use Rattle.std.proofs.Common.{Bool, List, sym, subst}
use Rattle.replay_arguments.specs.Shares.{shared_view}
use Rattle.semantics.specs.Thread.{Frame}
use Rattle.replay_steps.specs.declared.activation.Work.{Work}
use Rattle.replay_steps.specs.Activations.{Advances, AreSet, IsApplied, IsInRange}
use Rattle.replay_steps.specs.Steps.{Scene, scene_of}
use Rattle.replay_steps.proofs.ActivationLemmas.{fails, advances, range_after}
use Rattle.replay_steps.proofs.activation.go_on.Goals as goal

pub returns-then-not-branch-clause-step : goal.returns-then-not-branch-clause-step
returns-then-not-branch-clause-step c =
    let turn = c.args.turn in
    let begun = c.args.activation.now in
    let stepped = c.step_task.new.activation in
    let step = c.in_ok-outcome.ensures.step in
    let before : Scene = scene_of turn (shared_view c.args.shared.now) begun.locals c.args.pending.now in
    let between : Scene = scene_of turn (shared_view c.step_task.new.shared) stepped.locals c.step_task.new.pending in
    let never = subst (λ (b : Bool). IsApplied c.step_task.new.shared.statics c.step_task.new.shared.store stepped c.in_ok-outcome.outcome b c.apply.new.statics c.apply.new.store c.apply.new.activation) c.if-not-branch.true c.in_ok-apply.ensures in
    fails turn.refused before between c.apply.new.statics c.apply.new.store c.apply.new.activation.locals.variables begun.work step.task step.left c.apply.new.activation.work step.begun c.in_ok-outcome.outcome (record between { shared = record between.shared { statics = c.apply.new.statics; heap = c.apply.new.store }; variables = c.apply.new.activation.locals.variables; frames = c.apply.new.activation.locals.frames }) step.does never.0

pub returns-then-not-branch-clause-range : goal.returns-then-not-branch-clause-range
returns-then-not-branch-clause-range c =
    let step = c.in_ok-outcome.ensures.step in
    let known = c.requires.range in
    let never = subst (λ (b : Bool). IsApplied c.step_task.new.shared.statics c.step_task.new.shared.store c.step_task.new.activation c.in_ok-outcome.outcome b c.apply.new.statics c.apply.new.store c.apply.new.activation) c.if-not-branch.true c.in_ok-apply.ensures in
    let stood = subst IsInRange (sym step.is) (record { begun = step.range; rest = known.rest; outer = known.outer }) in
    subst IsInRange (sym never.2) stood

pub returns-clause-step : goal.returns-clause-step
returns-clause-step c =
    let turn = c.args.turn in
    let begun = c.args.activation.now in
    let stepped = c.step_task.new.activation in
    let new = c.apply.new.activation in
    let step = c.in_ok-outcome.ensures.step in
    let before : Scene = scene_of turn (shared_view c.args.shared.now) begun.locals c.args.pending.now in
    let between : Scene = scene_of turn (shared_view c.step_task.new.shared) stepped.locals c.step_task.new.pending in
    let done = subst (λ (b : Bool). IsApplied c.step_task.new.shared.statics c.step_task.new.shared.store stepped c.in_ok-outcome.outcome b c.apply.new.statics c.apply.new.store new) c.if-not-branch.false c.in_ok-apply.ensures in
    let set = subst (λ (w : Work). AreSet w c.in_ok-outcome.outcome new.work) step.is done.set in
    subst (λ (fs : List Frame). Advances turn.refused before begun.work c.in_ok-outcome.outcome (record between { shared = record between.shared { statics = c.apply.new.statics; heap = c.apply.new.store }; variables = new.locals.variables; frames = fs }) new.work) (sym done.frames)
    (advances turn.refused before between c.apply.new.statics c.apply.new.store new.locals.variables begun.work step.task step.left new.work step.begun c.in_ok-outcome.outcome step.does done.leaves set)

pub returns-clause-range : goal.returns-clause-range
returns-clause-range c =
    let step = c.in_ok-outcome.ensures.step in
    let new = c.apply.new.activation in
    let done = subst (λ (b : Bool). IsApplied c.step_task.new.shared.statics c.step_task.new.shared.store c.step_task.new.activation c.in_ok-outcome.outcome b c.apply.new.statics c.apply.new.store new) c.if-not-branch.false c.in_ok-apply.ensures in
    let set = subst (λ (w : Work). AreSet w c.in_ok-outcome.outcome new.work) step.is done.set in
    range_after c.args.activation.now.work new.work step.left c.requires.range step.range c.in_ok-outcome.outcome c.in_ok-outcome.ensures.range set
