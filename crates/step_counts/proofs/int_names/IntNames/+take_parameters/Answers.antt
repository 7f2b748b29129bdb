use Rattle.std.proofs.Common.{◌∙◌}
use Rattle.step_counts.proofs.FirstNames.{no_parameters, next_parameter}
use Rattle.step_counts.proofs.int_names.IntNames.+take_parameters.Goals as goal

pub returns-in-empty : goal.returns-in-empty
returns-in-empty t c = no_parameters c.args.self.now c.args.parameters.now c.in-empty.len_below

pub returns-in-len1-up : goal.returns-in-len1-up
returns-in-len1-up t c =
    c.take_parameters.ensures ∙ next_parameter c.args.self.now c.take_parameter.new.self c.args.parameters.now c.parameter-item.result c.in-len1-up.len_at_least c.parameter-item.is c.take_parameter.ensures
