use Rattle.std.proofs.Common.{◌≡◌, ◌<◌, Some, ◌∙◌, subst, arith}
use Rattle.std.specs.Prelude.{slice_get}
use Rattle.heap.specs.Heap.{pins_at, addresses}
use Rattle.heap.proofs.Lookups.{IsAddress-from_pins}
use Rattle.heap.proofs.Places.{IsAddress-within, place_of}
use Rattle.compact.proofs.Adding.{Seen-more, Seen-none}
use Rattle.compact.proofs.Blocks.{one_number}
use Rattle.compact.proofs.Going.{noting}
use Rattle.compact.proofs.slicing.note_pinned.Goals as goal
use Rattle.compact.proofs.slicing.note_pinned.Goals.{then-pins-gt0, else-pins-gt0}

pub note-requires : goal.note-requires
note-requires c =
    let many : 0 < pins_at c.args.heap.now c.address-a.result = omega (arith, c.pins.ensures, c.if-pins-gt0.true) in
    let within = IsAddress-within c.args.heap.now c.address-a.result c.count-place-end.ensures.laid_out (IsAddress-from_pins c.args.heap.now c.address-a.result many) in
    omega (arith, within, c.loop-place.invariant.adds.count, c.requires.count)

pub loop-place-preserved : goal.loop-place-preserved
loop-place-preserved c =
    elim c.if-pins-gt0.branch [
      | then-pins-gt0 w ↦
          let many : 0 < pins_at c.args.heap.now c.address-a.result = omega (arith, c.pins.ensures, w.if-pins-gt0.true) in
          let within = IsAddress-within c.args.heap.now c.address-a.result c.count-place-end.ensures.laid_out (IsAddress-from_pins c.args.heap.now c.address-a.result many) in
          let one = noting c.loop-place.marking w.note.new.self c.address-a.result w.note.ensures (omega (arith, within, c.loop-place.invariant.adds.count, c.requires.count)) in
          let more = Seen-more (λ x. 0 < pins_at c.args.heap.now x) (λ k x. (slice_get (addresses c.args.heap.now) k ≡ Some x) × (0 < pins_at c.args.heap.now x)) c.args.marking.now.kept c.args.marking.now.waiting c.loop-place.marking.kept c.loop-place.marking.waiting w.note.new.self.kept w.note.new.self.waiting c.loop-place.place c.address-a.result c.loop-place.invariant.adds (λ k x l v. c.loop-place.invariant.seen k x l v.0 v.1) many (λ x v. one_number x c.address-a.result (addresses c.args.heap.now) c.loop-place.place v.0 c.address-a.ensures.address) one.adds one.kept in
          rw w.marking-is (record { adds = more.adds; seen = λ k x l e p. more.seen k x l (e, p); marked = one.marked ∙ c.loop-place.invariant.marked })
      | else-pins-gt0 w ↦
          let more = Seen-none (λ x. 0 < pins_at c.args.heap.now x) (λ k x. (slice_get (addresses c.args.heap.now) k ≡ Some x) × (0 < pins_at c.args.heap.now x)) c.args.marking.now.kept c.args.marking.now.waiting c.loop-place.marking.kept c.loop-place.marking.waiting c.loop-place.place c.loop-place.invariant.adds (λ k x l v. c.loop-place.invariant.seen k x l v.0 v.1) (λ x v.
          let same : x ≡ c.address-a.result = one_number x c.address-a.result (addresses c.args.heap.now) c.loop-place.place v.0 c.address-a.ensures.address in
          let many : 0 < pins_at c.args.heap.now c.address-a.result = subst (λ n. 0 < pins_at c.args.heap.now n) same v.1 in
          absurd (omega (arith, c.pins.ensures, w.if-pins-gt0.false))) in
          rw w.marking-is (record { adds = more.adds; seen = λ k x l e p. more.seen k x l (e, p); marked = c.loop-place.invariant.marked })
    ]

pub returns-clause-all : goal.returns-clause-all
returns-clause-all c x p =
    let place = place_of c.args.heap.now x (IsAddress-from_pins c.args.heap.now x p) in
    c.loop-place.invariant.seen place.0 x (omega (arith, place.1, c.count-place-end.ensures.count)) place.2 p
