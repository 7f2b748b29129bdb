use Rattle.std.proofs.Common.{◌∙◌, sym, ap, ◌==◌, ◌&&◌}
use Rattle.classes.proofs.Signatures.{ended}
use Rattle.class_queries.proofs.arrays.is_ended.Goals as goal

pub returns-then-eq : goal.returns-then-eq
returns-then-eq c =
    ap (λ t. t && (c.in-Some.last.now == 59)) (sym c.if-eq.true ∙ c.eq.ensures)
    ∙ sym (ended c.args.name.now c.args.bytes.now c.in-Some.front.now c.in-Some.last.now c.in-Some.ensures.cases.0)

pub returns-else-eq : goal.returns-else-eq
returns-else-eq c =
    c.if-eq.false
    ∙ ap (λ t. t && (c.in-Some.last.now == 59)) (sym c.if-eq.false ∙ c.eq.ensures)
    ∙ sym (ended c.args.name.now c.args.bytes.now c.in-Some.front.now c.in-Some.last.now c.in-Some.ensures.cases.0)
