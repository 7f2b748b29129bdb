use Rattle.std.proofs.Common.{ℕ, Bool, true, false, refl, subst}
use Rattle.replay_tasks.specs.Outcomes.{variable_step, LeavesIf}
use Rattle.replay_steps.proofs.activation.apply.Goals as goal

pub returns-then-not-branch : goal.returns-then-not-branch
returns-then-not-branch c =
    let old = c.args.activation.now.locals in
    let told = subst (λ (b : Bool). LeavesIf c.len-frames.result c.args.statics.now c.args.store.now old.variables (variable_step c.args.outcome) b c.set_variables.new.statics c.set_variables.new.store c.set_variables.new.variables) c.if-not-branch.true c.in_ok-set_variables.ensures in
    (subst (λ (n : ℕ). LeavesIf n c.args.statics.now c.args.store.now old.variables (variable_step c.args.outcome) false c.set_variables.new.statics c.set_variables.new.store c.set_variables.new.variables) c.len-frames.ensures told, refl, refl)

pub returns : goal.returns
returns c =
    let old = c.args.activation.now.locals in
    let told = subst (λ (b : Bool). LeavesIf c.len-frames.result c.args.statics.now c.args.store.now old.variables (variable_step c.args.outcome) b c.set_variables.new.statics c.set_variables.new.store c.set_variables.new.variables) c.if-not-branch.false c.in_ok-set_variables.ensures in
    record {
      leaves = subst (λ (n : ℕ). LeavesIf n c.args.statics.now c.args.store.now old.variables (variable_step c.args.outcome) true c.set_variables.new.statics c.set_variables.new.store c.set_variables.new.variables) c.len-frames.ensures told;
      frames = refl;
      set = c.in_ok-set_tasks.ensures;
    }
