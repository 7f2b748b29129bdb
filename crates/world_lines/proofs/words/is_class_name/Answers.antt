use Rattle.std.proofs.Common.{◌∙◌, ap}
use Rattle.std.specs.Prelude.{◌==◌}
use Rattle.std.specs.List.{list_all}
use Rattle.class_rules.specs.Mangling.{is_simple_name}
use Rattle.world_schedules.proofs.PartLemmas.{slice_split-split_at}
use Rattle.world_lines.proofs.words.is_class_name.Goals as goal

pub returns : goal.returns
returns c =
    c.are_simple_names.ensures
    ∙ ap (list_all is_simple_name) c.new-parts.ensures.parts
    ∙ ap (list_all is_simple_name) (slice_split-split_at (λ b. b == 47) c.args.bytes.now)
