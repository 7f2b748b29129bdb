use Rattle.std.proofs.Common.{OnOk, take, subst, sym, ap, ◌∙◌}
use Rattle.syntax.specs.Views.{stmt_tree}
use Rattle.syntax.proofs.StatementLines.{line_is}
use Rattle.type_rules.specs.TypeRules.{typing_rules}
use Rattle.types.specs.Faults.{Tells, refused_of}
use Rattle.types.proofs.StatementLemmas.{statement-faults}
use Rattle.types.proofs.KeptLemmas.{tells-none}
use Rattle.types.proofs.JudgedLemmas.{judged-none}
use Rattle.types.proofs.statements.check_statement.Goals as goal

pub returns-in-Some : goal.returns-in-Some
returns-in-Some c =
    let returned = c.args.returns in
    let known = c.args.known.now in
    let taken = c.args.taken.now in
    let s = stmt_tree c.args.stmt.now in
    subst (λ broken. OnOk c.keep_broken.result (Tells c.args.faults.now c.keep_broken.new.faults (take 1 broken)))
    (sym (statement-faults returned known taken s ∙ ap (λ line. refused_of returned known taken s line typing_rules) (line_is c.args.stmt.now.line c.args.stmt.now.form)))
    (c.keep_broken.ensures _ (c.in-Some.ensures c.args.stmt.now.line))

pub returns-in-None : goal.returns-in-None
returns-in-None c =
    let returned = c.args.returns in
    let known = c.args.known.now in
    let taken = c.args.taken.now in
    let s = stmt_tree c.args.stmt.now in
    let line = c.args.stmt.now.line in
    let faults = c.args.faults.now in
    subst (λ broken. Tells faults faults (take 1 broken))
    (sym (statement-faults returned known taken s ∙ ap (λ line. refused_of returned known taken s line typing_rules) (line_is line c.args.stmt.now.form) ∙ judged-none line _ (c.in-None.ensures line)))
    (tells-none faults)
