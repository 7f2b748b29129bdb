use Rattle.std.proofs.Common.{sym, ◌∙◌, ap}
use Rattle.machine_scenes.specs.Given.{field_at}
use Rattle.machine_scenes.proofs.OperandsThere.{handle_of}
use Rattle.machine_scenes.proofs.operands.handle_at.Goals as goal

pub returns-clause-there : goal.returns-clause-there
returns-clause-there c classes there h e =
    handle_of classes c.args.fields.now c.args.operands.now c.args.place there h (sym (c.field_in.ensures ∙ ap (field_at c.args.fields.now) c.operand_of.ensures) ∙ e)
