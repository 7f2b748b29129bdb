use Rattle.std.proofs.Common.{Some, None, refl, sym}
use Rattle.type_rules.specs.declared.rule.TypeRule.TheVariants as rules
use Rattle.types.proofs.JudgedLemmas.{Judges-first, Judges-later}
use Rattle.types.proofs.statements.misused.Goals as goal

pub returns-then-copies_reference : goal.returns-then-copies_reference
returns-then-copies_reference c = λ returns taken line. Judges-first rules.ReferenceCopied line _ _ (sym (c.if-copies_reference.ensures line))

pub returns-then-has_bad_mode : goal.returns-then-has_bad_mode
returns-then-has_bad_mode c = λ returns taken line.
    Judges-later (Some rules.BadMode) _ line _ _ (sym (c.if-copies_reference.ensures line)) (Judges-first rules.BadMode line _ _ (sym (c.if-has_bad_mode.ensures line)))

pub returns-then-writes_read_only : goal.returns-then-writes_read_only
returns-then-writes_read_only c = λ returns taken line.
    Judges-later (Some rules.ReadOnlyWrite) _ line _ _ (sym (c.if-copies_reference.ensures line))
    (Judges-later (Some rules.ReadOnlyWrite) _ line _ _ (sym (c.if-has_bad_mode.ensures line)) (Judges-first rules.ReadOnlyWrite line _ _ (sym (c.if-writes_read_only.ensures line))))

pub returns : goal.returns
returns c = λ returns taken line.
    Judges-later None _ line _ _ (sym (c.if-copies_reference.ensures line))
    (Judges-later None _ line _ _ (sym (c.if-has_bad_mode.ensures line)) (Judges-later None _ line _ _ (sym (c.if-writes_read_only.ensures line)) refl))
