use Rattle.std.proofs.Common.{◌≡◌, true, sym, ap, ◌∙◌, subst}
use Rattle.std.specs.Option.{option_map}
use Rattle.std.specs.Prelude.{map}
use Rattle.syntax.specs.Views.{function_tree, parameter_tree}
use Rattle.machine_answers.specs.Checked.{takes_all}
use Rattle.machine_answers.proofs.at_once.calls_well_at_once.Goals as goal

pub returns-then-returns : goal.returns-then-returns
returns-then-returns c is = (
  function_tree c.in-Some.method.now,
  sym c.function_in.ensures ∙ ap (option_map (λ f. function_tree f.now)) c.in-Some.is,
  sym c.returns.ensures ∙ c.if-returns.true,
  subst (λ ps. takes_all (map parameter_tree ps) c.args.passed.now ≡ true) c.deref.ensures.value (c.takes_at_once.ensures.all is),
  c.takes_at_once.ensures.none is c.args.scene.now.references,
)
