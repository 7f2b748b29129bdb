use Rattle.std.proofs.Common.{◌<◌, Some}
use Rattle.std.specs.List.{Contains}
use Rattle.std.proofs.lemmas.Bool.{not-true}
use Rattle.heap.specs.Heap.{pins_at}
use Rattle.heap.proofs.Lookups.{IsAddress-from_pins}
use Rattle.compact.proofs.Going.{UnderWay-more, whole}
use Rattle.compact.proofs.slicing.is_done.Goals as goal

pub returns-clause-under_way : goal.returns-clause-under_way
returns-clause-under_way g c =
    let s = c.args.heap.now in
    let second = UnderWay-more s (λ x. 0 < pins_at s x) c.args.marking.now c.note_pinned.new.marking c.requires.under_way c.note_pinned.ensures.adds (λ x p. IsAddress-from_pins s x p) in
    UnderWay-more s (λ x. Contains (g.R.Roots.roots c.args.roots.now) (Some x)) c.note_pinned.new.marking c.note_roots.new.marking second c.note_roots.ensures.adds (λ x k. c.requires.roots x k)

pub returns-clause-whole : goal.returns-clause-whole
returns-clause-whole g c e =
    let s = c.args.heap.now in
    let second = UnderWay-more s (λ x. 0 < pins_at s x) c.args.marking.now c.note_pinned.new.marking c.requires.under_way c.note_pinned.ensures.adds (λ x p. IsAddress-from_pins s x p) in
    let third = UnderWay-more s (λ x. Contains (g.R.Roots.roots c.args.roots.now) (Some x)) c.note_pinned.new.marking c.note_roots.new.marking second c.note_roots.ensures.adds (λ x k. c.requires.roots x k) in
    whole s (g.R.Roots.roots c.args.roots.now) c.note_roots.new.marking third (c.waits-2.ensures.none (not-true c.waits-2.result e)) (λ x p. c.note_roots.ensures.adds.stays x (c.note_pinned.ensures.all x p)) c.note_roots.ensures.all

pub returns-clause-stays : goal.returns-clause-stays
returns-clause-stays g c a k = c.note_roots.ensures.adds.stays a (c.note_pinned.ensures.adds.stays a k)
