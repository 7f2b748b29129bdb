use Rattle.std.proofs.Common.{sym, ◌∙◌, ap}
use Rattle.machine_scenes.specs.Given.{operand_at}
use Rattle.machine_scenes.proofs.OperandsThere.{address_of}
use Rattle.machine_scenes.proofs.operands.reference_at.Goals as goal

pub returns-clause-there : goal.returns-clause-there
returns-clause-there c space there a e =
    address_of space c.args.references.now c.args.operands.now c.args.place there a (sym (c.reference_in.ensures ∙ ap (operand_at c.args.references.now) c.operand_of.ensures) ∙ e)
