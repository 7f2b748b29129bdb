use Rattle.std.proofs.Common.{◌≡◌, Option, Some, None, refl, ap, ◌∙◌}
use Rattle.std.specs.Prelude.{unwrap_or}
use Rattle.code.specs.declared.instr.Operand.{Operand}
use Rattle.code.specs.declared.instr.Operand.TheVariants.{Null}
use Rattle.std.specs.Option.{option_copied}
use Rattle.machine_scenes.specs.Given.{operand_or_null}
use Rattle.machine_scenes.proofs.LookUps.{copied_found}
use Rattle.machine_scenes.proofs.operands.operand_of.Goals as goal

null_past : (o : Option Operand) → unwrap_or o Null ≡ operand_or_null o
null_past None = refl
null_past (Some o) = refl

pub returns : goal.returns
returns c =
    c.unwrap_or.ensures
    ∙ ap (λ (o : Option Operand). unwrap_or o Null) c.copied.ensures
    ∙ null_past (option_copied c.get.result)
    ∙ ap operand_or_null (copied_found c.args.operands.now c.args.place c.get.result c.get.ensures.lookup)
