use Rattle.std.proofs.Common.{sym, ◌∙◌}
use Rattle.syntax.specs.Views.{form_tree}
use Rattle.types.proofs.FormedLemmas.{misfits_is}
use Rattle.types.proofs.statements.misfits.Goals as goal

pub returns-else-not-statement_fits : goal.returns-else-not-statement_fits
returns-else-not-statement_fits c = λ line. c.call_misfits.ensures line ∙ misfits_is c.args.known.now c.args.returns (form_tree line c.args.form.now) (sym (c.statement_fits.ensures line) ∙ c.if-not-statement_fits.false)
