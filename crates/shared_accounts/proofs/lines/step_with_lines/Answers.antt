use Rattle.std.specs.Global.{Vec}
use Rattle.std.proofs.Common.{◌≡◌, ℤ, sym, ap, ◌∙◌, length}
use Rattle.shared_accounts.specs.Accounts.{more_of, number_at}
use Rattle.shared_accounts.proofs.Machines.{change, lines_follow}
use Rattle.shared_accounts.proofs.lines.step_with_lines.Goals.{then-len-capacity+in_default+in_ok-reserve, else-len-capacity}
use Rattle.shared_accounts.proofs.lines.step_with_lines.Goals as goal

pub returns-clause-lines : goal.returns-clause-lines
returns-clause-lines c h =
    let same : c.if-len-capacity.lines.items ≡ c.args.lines.now.items =
    elim c.if-len-capacity.branch [
      | then-len-capacity+in_default+in_ok-reserve w ↦ ap (λ (v : Vec ℤ). v.items) w.lines-is ∙ w.reserve.ensures.items
      | else-len-capacity w ↦ ap (λ (v : Vec ℤ). v.items) w.lines-is
    ] in
    lines_follow c.args.machine.now c.step.new.self c.args.k (change c.args.machine.now c.step.new.self c.args.k c.step.result c.step.ensures.turn c.step.ensures.err) c.lines-before.result.now c.lines.result.now c.lines-before.ensures c.lines.ensures c.args.lines.now.items h
    ∙ ap (λ l. more_of l (number_at c.lines.result.now (length c.lines-before.result.now))) (sym same) ∙ sym c.add_line.ensures
