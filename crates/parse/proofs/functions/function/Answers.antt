use Rattle.std.proofs.Common.{rules, arith}
use Rattle.std.proofs.lemmas.Grind.{common_steps}
use Rattle.parse.specs.Reading.{function_at}
use Rattle.parse.proofs.functions.function.Goals as goal

pub returns-in_err-heading : goal.returns-in_err-heading
unfolding function_at
returns-in_err-heading c = search rules

pub returns-in_err-parameters : goal.returns-in_err-parameters
unfolding function_at
returns-in_err-parameters c = search rules

pub returns-in_err-body : goal.returns-in_err-body
unfolding function_at
returns-in_err-body c = rw (c.in_ok-heading.ensures, c.in_ok-parameters.ensures.gives) (grind (arith, common_steps))

pub returns : goal.returns
unfolding function_at
returns c = rw (c.in_ok-heading.ensures, c.in_ok-parameters.ensures.gives) (grind (arith, common_steps))
