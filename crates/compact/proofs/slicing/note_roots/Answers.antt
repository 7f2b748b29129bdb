use Rattle.std.proofs.Common.{◌≡◌, ℕ, Option, Some, ap, ◌∙◌, arith, sym}
use Rattle.std.specs.Prelude.{slice_get}
use Rattle.std.specs.List.{Contains}
use Rattle.std.proofs.lemmas.Option.{same_Some}
use Rattle.base.proofs.Lists.{Contains-from_get, get-from_contains}
use Rattle.heap.proofs.Places.{IsAddress-within}
use Rattle.compact.proofs.Adding.{Seen-more, Seen-none}
use Rattle.compact.proofs.Going.{noting}
use Rattle.compact.proofs.slicing.note_roots.Goals as goal
use Rattle.compact.proofs.slicing.note_roots.Goals.{in-Some, in_default}

pub note-requires : goal.note-requires
note-requires g c =
    let read : slice_get (g.R.Roots.roots c.args.roots.now) c.loop-place.place ≡ Some (Some c.in-Some.a) = c.root.ensures ∙ ap (λ (o : Option ℕ). Some o) c.in-Some.is in
    let there = c.requires.roots c.in-Some.a (Contains-from_get (g.R.Roots.roots c.args.roots.now) c.loop-place.place (Some c.in-Some.a) read) in
    let within = IsAddress-within c.args.heap.now c.in-Some.a c.requires.laid_out there in
    omega (arith, within, c.loop-place.invariant.adds.count, c.requires.count)

pub loop-place-preserved : goal.loop-place-preserved
loop-place-preserved g c =
    elim c.match-root.branch [
      | in-Some w ↦
          let read : slice_get (g.R.Roots.roots c.args.roots.now) c.loop-place.place ≡ Some (Some w.in-Some.a) = c.root.ensures ∙ ap (λ (o : Option ℕ). Some o) w.in-Some.is in
          let there = c.requires.roots w.in-Some.a (Contains-from_get (g.R.Roots.roots c.args.roots.now) c.loop-place.place (Some w.in-Some.a) read) in
          let within = IsAddress-within c.args.heap.now w.in-Some.a c.requires.laid_out there in
          let one = noting c.loop-place.marking w.note.new.self w.in-Some.a w.note.ensures (omega (arith, within, c.loop-place.invariant.adds.count, c.requires.count)) in
          let more = Seen-more (λ x. Contains (g.R.Roots.roots c.args.roots.now) (Some x)) (λ k x. slice_get (g.R.Roots.roots c.args.roots.now) k ≡ Some (Some x)) c.args.marking.now.kept c.args.marking.now.waiting c.loop-place.marking.kept c.loop-place.marking.waiting w.note.new.self.kept w.note.new.self.waiting c.loop-place.place w.in-Some.a c.loop-place.invariant.adds c.loop-place.invariant.seen (Contains-from_get (g.R.Roots.roots c.args.roots.now) c.loop-place.place (Some w.in-Some.a) read) (λ x e. same_Some x w.in-Some.a (same_Some (Some x) (Some w.in-Some.a) (sym e ∙ read))) one.adds one.kept in
          rw w.marking-is (record { adds = more.adds; seen = more.seen; marked = one.marked ∙ c.loop-place.invariant.marked })
      | in_default w ↦
          let more = Seen-none (λ x. Contains (g.R.Roots.roots c.args.roots.now) (Some x)) (λ k x. slice_get (g.R.Roots.roots c.args.roots.now) k ≡ Some (Some x)) c.args.marking.now.kept c.args.marking.now.waiting c.loop-place.marking.kept c.loop-place.marking.waiting c.loop-place.place c.loop-place.invariant.adds c.loop-place.invariant.seen (λ x e. w.in_default.not-Some x (same_Some c.root.result (Some x) (sym c.root.ensures ∙ e))) in
          rw w.marking-is (record { adds = more.adds; seen = more.seen; marked = c.loop-place.invariant.marked })
    ]

pub returns-clause-all : goal.returns-clause-all
returns-clause-all g c x k =
    c.loop-place.invariant.seen k.0 x (omega (arith, k.1, c.len-place-end.ensures)) (get-from_contains (g.R.Roots.roots c.args.roots.now) (Some x) k)
