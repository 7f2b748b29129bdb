use Rattle.std.proofs.Common.{List, map, ap, ◌∙◌}
use Rattle.std.specs.Prelude.{filter_map}
use Rattle.syntax.specs.declared.unit.Parameter.{Parameter as ParameterInMemory}
use Rattle.syntax.specs.Views.{parameter_tree, function_tree}
use Rattle.code_meaning.specs.Length.{int_parameter}
use Rattle.step_counts.specs.Names.{with_names}
use Rattle.step_counts.proofs.FirstNames.{spelled, all_names}
use Rattle.step_counts.proofs.int_names.IntNames.enter.Goals as goal

pub returns : goal.returns
returns c =
    let start = spelled c.clear.new.self.items in
    c.take_block.ensures
    ∙ all_names (function_tree c.args.function.now) start c.take_parameters.new.self (ap spelled c.clear.ensures)
    (c.take_parameters.ensures ∙ ap (λ (ps : List ParameterInMemory). with_names start (filter_map int_parameter (map parameter_tree ps))) c.deref.ensures.value) c.requires
