use Rattle.std.proofs.Common.{◌≡◌, ℕ, ap, ◌∙◌, subst}
use Rattle.std.specs.Prelude.{IsSome}
use Rattle.heap.specs.declared.value.Value.{Value}
use Rattle.heap.specs.declared.value.Value.TheVariants.{Block as Reference}
use Rattle.heap.specs.Heap.{Space, IsAddress}
use Rattle.heap.specs.Cells.{space_in}
use Rattle.heap.specs.Marks.{noted_in}
use Rattle.heap.proofs.UnderWay.{bare_view, held_noted, room_for, target_in, with_marking}
use Rattle.heap.proofs.heap.Heap.note.Goals as goal

same_target : (a b : ℕ) → ◌≡◌ {A = Value} (Reference a) (Reference b) → a ≡ b
same_target a b e = cc

only_there : (t : Space) (a : ℕ) → (IsSome t.marking → IsAddress t a) → IsSome t.marking → (b : ℕ) → ◌≡◌ {A = Value} (Reference a) (Reference b) → IsAddress t b
only_there t a h some b e = subst (λ i. IsAddress t i) (same_target a b e) (h some)

pub note_value-requires : goal.note_value-requires
note_value-requires c b e =
    let s = space_in c.self.inside.cells c.self.inside.pins.items c.self.inside.starts.items in
    let target = target_in s c.args.self.now c.self.inside.marking (Reference c.args.addr) c.self.view_is (only_there c.args.self.now c.args.addr c.requires) in
    room_for s c.self.inside.marking (Reference c.args.addr) c.self.invariant.under_way c.self.invariant.stored.laid_out target b e

pub invariant_of-self : goal.invariant_of-self
invariant_of-self c =
    let s = space_in c.self.inside.cells c.self.inside.pins.items c.self.inside.starts.items in
    let target = target_in s c.args.self.now c.self.inside.marking (Reference c.args.addr) c.self.view_is (only_there c.args.self.now c.args.addr c.requires) in
    record { stored = c.self.invariant.stored; under_way = held_noted s c.self.inside.marking c.note_value.new.marking (Reference c.args.addr) c.note_value.ensures c.self.invariant.under_way c.self.invariant.stored.laid_out target }

pub returns : goal.returns
returns c = with_marking (bare_view c.self.view_is) (c.note_value.ensures ∙ ap (λ (t : Space). noted_in (Reference c.args.addr) t.marking) c.self.view_is)
