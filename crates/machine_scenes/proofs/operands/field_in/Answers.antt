use Rattle.std.proofs.Common.{Option, sym, ap, ◌∙◌}
use Rattle.std.specs.Prelude.{unwrap_or}
use Rattle.code.specs.declared.instr.Operand.{Operand}
use Rattle.machine_scenes.specs.FieldIds.{field_held}
use Rattle.machine_scenes.specs.declared.handle.Handle.{Handle}
use Rattle.machine_scenes.specs.Given.{field_at}
use Rattle.machine_scenes.proofs.LookUps.{held_found}
use Rattle.machine_scenes.proofs.operands.field_in.Goals as goal

pub returns-in-FieldId : goal.returns-in-FieldId
returns-in-FieldId c =
    c.field_held.ensures
    ∙ ap field_held (c.unwrap_or.ensures
    ∙ ap (λ (o : Option (Option Handle)). unwrap_or o _) c.copied.ensures
    ∙ held_found c.args.fields.now c.in-FieldId.slot c.get.result c.get.ensures.lookup)
    ∙ ap (λ (o : Operand). field_at c.args.fields.now o) (sym c.in-FieldId.is)
