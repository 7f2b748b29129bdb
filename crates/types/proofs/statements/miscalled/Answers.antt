use Rattle.std.proofs.Common.{Some, sym}
use Rattle.type_rules.specs.declared.rule.TypeRule.TheVariants as rules
use Rattle.types.proofs.JudgedLemmas.{Judges-first, Judges-later}
use Rattle.types.proofs.statements.miscalled.Goals as goal

pub returns-then-calls_unknown : goal.returns-then-calls_unknown
returns-then-calls_unknown c = λ returns taken line. Judges-first rules.UnknownFunction line _ _ (sym (c.if-calls_unknown.ensures line))

pub returns-then-miscounts : goal.returns-then-miscounts
returns-then-miscounts c = λ returns taken line.
    Judges-later (Some rules.ArgumentCount) _ line _ _ (sym (c.if-calls_unknown.ensures line)) (Judges-first rules.ArgumentCount line _ _ (sym (c.if-miscounts.ensures line)))

pub returns : goal.returns
returns c = λ returns taken line.
    Judges-later _ _ line _ _ (sym (c.if-calls_unknown.ensures line))
    (Judges-later _ _ line _ _ (sym (c.if-miscounts.ensures line)) (c.misused.ensures returns taken line))
