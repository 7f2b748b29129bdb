use Rattle.std.proofs.Common.{◌≡◌, ◌<◌, ◌++◌, ◌∷◌, [], false, length, ap, sym, ◌∙◌, subst, arith}
use Rattle.std.proofs.lemmas.List.{get_or_read}
use Rattle.heap.specs.Marks.{is_kept, Marks}
use Rattle.heap.proofs.Marked.{room_to_note, HasRoom-noted}
use Rattle.heap.proofs.marking.Marking.note.Goals as goal

pub push_reserved-requires : goal.push_reserved-requires
push_reserved-requires c =
    let count : length c.self.inside.kept.items ≡ length c.args.self.now.kept = ap (λ (m : Marks). length m.kept) c.self.view_is in
    let within : c.args.addr < length c.self.inside.kept.items = omega (arith, c.requires) in
    let read = get_or_read c.self.inside.kept.items c.cell-index.result c.index.result.now (omega (arith, c.cell-index.ensures)) c.index.ensures false in
    let none : is_kept c.self.inside.kept.items c.args.addr ≡ false = subst (λ i. is_kept c.self.inside.kept.items i ≡ false) c.cell-index.ensures (sym read ∙ c.if-not-index.true) in
    let room = room_to_note c.self.inside.kept.items c.self.inside.list.items c.self.inside.taken c.self.inside.list.cap c.args.addr c.self.invariant within none in
    omega (arith, room)

pub invariant_of-self : goal.invariant_of-self
invariant_of-self c =
    let count : length c.self.inside.kept.items ≡ length c.args.self.now.kept = ap (λ (m : Marks). length m.kept) c.self.view_is in
    let within : c.args.addr < length c.self.inside.kept.items = omega (arith, c.requires) in
    let read = get_or_read c.self.inside.kept.items c.cell-index.result c.index.result.now (omega (arith, c.cell-index.ensures)) c.index.ensures false in
    let none : is_kept c.self.inside.kept.items c.args.addr ≡ false = subst (λ i. is_kept c.self.inside.kept.items i ≡ false) c.cell-index.ensures (sym read ∙ c.if-not-index.true) in
    let list : c.push_reserved.new.self.items ≡ c.self.inside.list.items ++ c.args.addr ∷ [] = c.push_reserved.ensures.items in
    rw (list, c.cell-index.ensures) (HasRoom-noted c.self.inside.kept.items c.self.inside.list.items c.self.inside.taken c.self.inside.list.cap c.push_reserved.new.self.cap c.args.addr c.self.invariant within none (omega (arith, c.push_reserved.ensures.capacity)))
