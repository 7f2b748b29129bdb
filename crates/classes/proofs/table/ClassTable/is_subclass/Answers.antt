use Rattle.std.proofs.Common.{◌≡◌, ◌+◌, ◌-◌, ◌<◌, ◌∙◌, sym, arith}
use Rattle.classes.proofs.Ancestry.{among-above}
use Rattle.classes.proofs.table.ClassTable.is_subclass.Goals as goal

pub loop-preserved : goal.loop-preserved
loop-preserved c =
    let below : c.loop.counter < c.len-end.result = omega arith in
    let left : c.len-end.result - c.loop.counter ≡ (c.len-end.result - (c.loop.counter + 1)) + 1 = omega arith in
    sym (among-above c.args.self.now c.loop.ancestor.number c.args.other.number (c.len-end.result - c.loop.counter) (c.len-end.result - (c.loop.counter + 1)) c.in-Some.above.number left (λ same. absurd (grind (arith, same, c.if-eq.ensures))) (sym c.in-Some.ensures))
    ∙ c.loop.invariant
