use Rattle.std.proofs.Common.{Some, sym, ◌∙◌}
use Rattle.type_rules.specs.declared.rule.TypeRule.TheVariants as rules
use Rattle.types.proofs.JudgedLemmas.{Judges-first, Judges-later}
use Rattle.types.proofs.statements.first_broken.Goals as goal

pub names_unknown-requires : goal.names_unknown-requires
names_unknown-requires c = (c.args.returns, λ line. c.misfits-misfits.ensures line)

pub returns-then-names_unknown : goal.returns-then-names_unknown
returns-then-names_unknown c = λ line. Judges-first rules.UnknownName line _ _ (sym (c.if-names_unknown.ensures line))

pub returns-then-declares_taken : goal.returns-then-declares_taken
returns-then-declares_taken c = λ line.
    Judges-later (Some rules.DeclaredTwice) _ line _ _ (sym (c.if-names_unknown.ensures line)) (Judges-first rules.DeclaredTwice line _ _ (sym (c.if-declares_taken.ensures line)))

pub returns-then-misfits : goal.returns-then-misfits
returns-then-misfits c = λ line.
    Judges-later (Some rules.TypeMisfit) _ line _ _ (sym (c.if-names_unknown.ensures line))
    (Judges-later (Some rules.TypeMisfit) _ line _ _ (sym (c.if-declares_taken.ensures line))
    (Judges-first rules.TypeMisfit line _ _ (sym (c.misfits-misfits.ensures line) ∙ c.if-misfits.true)))

pub returns : goal.returns
returns c = λ line.
    Judges-later _ _ line _ _ (sym (c.if-names_unknown.ensures line))
    (Judges-later _ _ line _ _ (sym (c.if-declares_taken.ensures line))
    (Judges-later _ _ line _ _ (sym (c.misfits-misfits.ensures line) ∙ c.if-misfits.false) (c.miscalled.ensures c.args.returns c.args.taken.now line)))
