use Rattle.std.proofs.Common.{◌∙◌}
use Rattle.class_rules.proofs.MangledNames.{reads-some}
use Rattle.class_rules.proofs.mangling.is_mangled.Goals as goal

pub returns : goal.returns
returns c = c.reads_mangled.ensures ∙ reads-some c.args.name.now
