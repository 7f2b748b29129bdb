use Rattle.std.proofs.Common.{Option, sym, ap, ◌∙◌}
use Rattle.std.specs.Prelude.{unwrap_or}
use Rattle.code.specs.declared.instr.Operand.{Operand}
use Rattle.machine_scenes.specs.FieldIds.{method_held}
use Rattle.machine_scenes.specs.declared.handle.Handle.{Handle}
use Rattle.machine_scenes.specs.Given.{method_at}
use Rattle.machine_scenes.proofs.LookUps.{held_found}
use Rattle.machine_scenes.proofs.operands.method_in.Goals as goal

pub returns-in-MethodId : goal.returns-in-MethodId
returns-in-MethodId c =
    c.method_held.ensures
    ∙ ap method_held (c.unwrap_or.ensures
    ∙ ap (λ (o : Option (Option Handle)). unwrap_or o _) c.copied.ensures
    ∙ held_found c.args.methods.now c.in-MethodId.slot c.get.result c.get.ensures.lookup)
    ∙ ap (λ (o : Operand). method_at c.args.methods.now o) (sym c.in-MethodId.is)
