use Rattle.std.proofs.Common.{ℤ, w32, sym, ap, ◌∙◌, subst, rules}
use Rattle.std.proofs.Math.Facts.{to_z-of_z}
use mir.Val.{SFits}
use Rattle.replay_tasks.specs.declared.outcome.Outcome.{Outcome}
use Rattle.replay_tasks.specs.declared.outcome.Outcome.TheVariants as outcome
use Rattle.replay_tasks.specs.Outcomes.{variable_step, LeavesIf}
use Rattle.replay_tasks.proofs.put.set_variables.Goals as goal

pub returns-in-SetsElement : goal.returns-in-SetsElement
returns-in-SetsElement c =
    let fits : SFits w32 c.in-SetsElement.number = search rules in
    let step = sym (c.in-SetsElement.is ∙ ap (λ (z : ℤ). outcome.SetsElement c.in-SetsElement.name c.in-SetsElement.index z) (sym (to_z-of_z {w = w32} fits))) in
    subst (λ (o : Outcome). LeavesIf c.args.frames c.args.statics.now c.args.store.now c.args.variables.now (variable_step o) c.write.result c.args.statics.now c.write.new.store c.write.new.variables) step
    (c.write.ensures c.args.statics.now c.args.frames)
