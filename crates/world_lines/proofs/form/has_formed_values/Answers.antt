use Rattle.std.proofs.Common.{sym, ap, ◌∙◌}
use Rattle.std.specs.List.{list_all}
use Rattle.std.proofs.lemmas.List.Folds.{list_all-map}
use Rattle.world_lines.specs.LineViews.{value_view}
use Rattle.world_values.specs.WorldRules.{is_formed_value}
use Rattle.world_lines.proofs.form.has_formed_values.Goals as goal

pub returns : goal.returns
returns c = c.are_formed.ensures ∙ sym (list_all-map is_formed_value value_view c.values_of.result.now) ∙ ap (list_all is_formed_value) c.values_of.ensures
