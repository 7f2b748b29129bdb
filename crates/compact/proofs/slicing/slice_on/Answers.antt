use Rattle.std.proofs.Common.{◌≡◌, ℕ, ◌+◌, ◌≤◌, Bool, true, List, length, Option, Some, None, refl, sym, ap, ◌∙◌, subst, arith}
use Rattle.heap.specs.Heap.{Space, bare}
use Rattle.heap.specs.Marks.{is_kept, Marks}
use Rattle.heap.specs.Marking.{unmarked}
use Rattle.compact.specs.Reach.{IsClosed}
use Rattle.compact.specs.Slices.{AreNoted, GoesOn, HasEnded, IsKeptBy, IsSliced, IsSlicedBy, IsWhole, count_of, slice_size}
use Rattle.compact.proofs.Going.{closed_of, kept_many, marks_are, of_bare, whole_of}
use Rattle.compact.proofs.slicing.slice_on.Goals as goal

pub mark_slice-requires-clause-closed : goal.mark_slice-requires-clause-closed
mark_slice-requires-clause-closed g c = closed_of c.args.heap.now c.take_marking.new.self (sym (ap bare c.take_marking.ensures.space)) c.requires.closed

pub compact-requires-clause-closed : goal.compact-requires-clause-closed
compact-requires-clause-closed g c a b k r =
    let w = subst (λ (l : List Bool). IsWhole c.take_marking.new.self (g.R.Roots.roots c.args.roots.now) l) (sym (c.deref_mut.ensures.value ∙ c.into_kept-kept.ensures.kept)) (c.mark_slice.ensures.whole c.if-mark_slice.true) in
    w.closed a b k r

pub returns-then-mark_slice-clause-sliced : goal.returns-then-mark_slice-clause-sliced
returns-then-mark_slice-clause-sliced g c = λ s h.
    let u = c.take_marking.new.self in
    let space : u ≡ bare s = c.take_marking.ensures.space ∙ ap bare h.heap in
    let is : h.marks ≡ c.in-Some.current = marks_are c.args.heap.now.marking c.take_marking.result c.in-Some.current h.marks c.take_marking.ensures.marking c.in-Some.is (ap (λ (x : Space). x.marking) h.heap) in
    let roots = g.R.Roots.roots c.args.roots.now in
    let kept = c.deref_mut.result.now in
    let same = c.deref_mut.ensures.value ∙ c.into_kept-kept.ensures.kept in
    let w = subst (λ (l : List Bool). IsWhole u roots l) (sym same) (c.mark_slice.ensures.whole c.if-mark_slice.true) in
    let before = ap (λ (m : Marks). m.marked) is in
    let was = h.marked in
    let up = c.mark_slice.ensures.up in
    let few : count_of s.marking + unmarked kept ≤ length kept = subst (λ (l : List Bool). count_of s.marking + unmarked l ≤ length l) (sym same) (omega (arith, before, was, up, c.into_kept-kept.ensures.few)) in
    let keeps : (a : ℕ) → IsKeptBy s.marking a → is_kept kept a ≡ true =
    λ a k. subst (λ (l : List Bool). is_kept l a ≡ true) (sym same) (c.mark_slice.ensures.stays a (subst (λ (m : Marks). is_kept m.kept a ≡ true) is (h.keeps a k))) in
    let moved = of_bare (λ a. is_kept kept a ≡ true) s u c.compact.new.heap roots (g.R.Roots.roots c.compact.new.roots) (g.W.Weak.weak c.args.weak.now) (g.W.Weak.weak c.compact.new.weak) space c.compact.ensures.same in
    let ended : HasEnded s c.compact.new.heap roots (g.R.Roots.roots c.compact.new.roots) (g.W.Weak.weak c.args.weak.now) (g.W.Weak.weak c.compact.new.weak) = record {
      kept = kept;
      whole = whole_of s u roots kept space w;
      keeps = keeps;
      same = moved;
      many = kept_many s c.compact.new.heap kept moved.same.to (count_of s.marking) (whole_of s u roots kept space w).blocks moved.same.blocks few;
    } in
    let sliced : IsSliced s c.compact.new.heap roots (g.R.Roots.roots c.compact.new.roots) (g.W.Weak.weak c.args.weak.now) (g.W.Weak.weak c.compact.new.weak) =
    subst (λ (o : Option Marks). IsSlicedBy o s c.compact.new.heap roots (g.R.Roots.roots c.compact.new.roots) (g.W.Weak.weak c.args.weak.now) (g.W.Weak.weak c.compact.new.weak)) (sym c.compact.ensures.none) ended in
    subst (λ (x : Space). IsSliced s x roots (g.R.Roots.roots c.compact.new.roots) (g.W.Weak.weak c.args.weak.now) (g.W.Weak.weak c.compact.new.weak)) (sym c.put_marks.ensures) sliced

pub returns-then-mark_slice-clause-closed : goal.returns-then-mark_slice-clause-closed
returns-then-mark_slice-clause-closed g c = subst (λ (x : Space). IsClosed x) (sym c.put_marks.ensures) c.compact.ensures.closed

pub returns-else-mark_slice-clause-closed : goal.returns-else-mark_slice-clause-closed
returns-else-mark_slice-clause-closed g c = closed_of c.args.heap.now c.put_marking.new.self (sym (ap bare (c.put_marking.ensures) ∙ ap bare c.take_marking.ensures.space)) c.requires.closed

pub returns-else-mark_slice-clause-sliced : goal.returns-else-mark_slice-clause-sliced
returns-else-mark_slice-clause-sliced g c = λ s h.
    let u = c.take_marking.new.self in
    let space : u ≡ bare s = c.take_marking.ensures.space ∙ ap bare h.heap in
    let is : h.marks ≡ c.in-Some.current = marks_are c.args.heap.now.marking c.take_marking.result c.in-Some.current h.marks c.take_marking.ensures.marking c.in-Some.is (ap (λ (x : Space). x.marking) h.heap) in
    let roots = g.R.Roots.roots c.args.roots.now in
    let m = c.mark_slice.new.marking in
    let before = ap (λ (x : Marks). x.marked) is in
    let was = h.marked in
    let on = c.mark_slice.ensures.goes_on c.if-mark_slice.false in
    let more : m.marked ≡ count_of s.marking + slice_size = omega (arith, before, was, on) in
    let stays : (a : ℕ) → is_kept h.marks.kept a ≡ true → is_kept m.kept a ≡ true = λ a k. c.mark_slice.ensures.stays a (subst (λ (x : Marks). is_kept x.kept a ≡ true) is k) in
    let begun : s.marking ≡ None → AreNoted s roots m.kept = λ none.
    let noted = h.begun none in
    record { pinned = λ a p. stays a (noted.pinned a p); rooted = λ a r. stays a (noted.rooted a r) } in
    let heap : ◌≡◌ {A = Space} c.put_marking.new.self (record s { marking = Some m }) = c.put_marking.ensures ∙ ap (λ (x : Space). let y : Space = record x { marking = Some m } in y) space in
    let goes : GoesOn s c.put_marking.new.self roots roots (g.W.Weak.weak c.args.weak.now) (g.W.Weak.weak c.args.weak.now) m =
    record { heap = heap; marked = more; keeps = λ a k. stays a (h.keeps a k); begun = begun; roots_stay = refl; weak_stay = refl } in
    subst (λ (o : Option Marks). IsSlicedBy o s c.put_marking.new.self roots roots (g.W.Weak.weak c.args.weak.now) (g.W.Weak.weak c.args.weak.now)) (sym (ap (λ (x : Space). x.marking) heap)) goes
