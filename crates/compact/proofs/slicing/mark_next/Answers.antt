use Rattle.std.proofs.Common.{◌≡◌, ℕ, suc, true, Bool, List, length, ap, subst, sym, arith}
use Rattle.heap.specs.Marks.{is_kept}
use Rattle.compact.proofs.Going.{UnderWay-next, fewer_unmarked}
use Rattle.compact.proofs.slicing.mark_next.Goals as goal

pub returns-in-Some-clause-under_way : goal.returns-in-Some-clause-under_way
returns-in-Some-clause-under_way c = UnderWay-next c.args.heap.now c.args.marking.now c.next.new.self c.note_references.new.marking c.in-Some.a c.requires.closed c.requires.under_way c.in-Some.ensures.0 c.in-Some.ensures.1 c.note_references.ensures.adds c.note_references.ensures.followed

pub returns-in-Some-clause-stays : goal.returns-in-Some-clause-stays
returns-in-Some-clause-stays c a k = c.note_references.ensures.adds.stays a (subst (λ (l : List Bool). is_kept l a ≡ true) (sym c.in-Some.ensures.1) k)

pub returns-in-Some-clause-waiting : goal.returns-in-Some-clause-waiting
returns-in-Some-clause-waiting c =
    let adds = c.note_references.ensures.adds in
    let fewer = fewer_unmarked c.next.new.self.kept c.note_references.new.marking.kept adds.count adds.stays in
    let work = adds.work in
    let first : length c.args.marking.now.waiting ≡ suc (length c.next.new.self.waiting) = ap (λ (l : List ℕ). length l) c.in-Some.ensures.0 in
    omega (arith, work, fewer, first)
