use Rattle.std.proofs.Common.{sym, ap, ◌∙◌}
use Rattle.syntax.specs.Parts.{own_call}
use Rattle.syntax.specs.Tree.{Plain}
use Rattle.syntax.specs.Views.{plain_tree}
use Rattle.type_rules.specs.TypeRules.{may_be_dropped, plain_fits}
use Rattle.types.specs.Called.{function_in}
use Rattle.types.proofs.statements.plain_fits.Goals as goal

pub declaration_fits-requires : goal.declaration_fits-requires
declaration_fits-requires c = c.requires 0 ∙ ap (λ p. function_in (own_call (Plain 0 (plain_tree p)))) c.in-Declare.is

pub right_side_sets-requires : goal.right_side_sets-requires
right_side_sets-requires c = c.requires 0 ∙ ap (λ p. function_in (own_call (Plain 0 (plain_tree p)))) c.in-Assign.is

pub returns-in-Perform : goal.returns-in-Perform
returns-in-Perform c =
    c.may_be_dropped.ensures ∙ ap may_be_dropped (c.requires 0 ∙ ap (λ p. function_in (own_call (Plain 0 (plain_tree p)))) c.in-Perform.is)
    ∙ ap (λ p. plain_fits c.args.known.now (plain_tree p)) (sym c.in-Perform.is)
