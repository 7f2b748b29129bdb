use Rattle.std.proofs.Common.{ap, ◌∙◌}
use Rattle.syntax.specs.Parts.{own_call}
use Rattle.syntax.specs.Views.{form_tree}
use Rattle.types.specs.Called.{function_in}
use Rattle.types.proofs.CalledLemmas.{call_of_if}
use Rattle.types.proofs.statements.statement_fits.Goals as goal

pub plain_fits-requires : goal.plain_fits-requires
plain_fits-requires c = λ line. c.requires line ∙ ap (λ f. function_in (own_call (form_tree line f))) c.in-Plain.is

pub test_fits-requires : goal.test_fits-requires
test_fits-requires c = c.requires 0 ∙ ap (λ f. function_in (own_call (form_tree 0 f))) c.in-If.is ∙ ap function_in (call_of_if 0 _ _ _)
