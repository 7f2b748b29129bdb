use Rattle.std.proofs.Common.{◌≡◌, ℕ, ◌-◌, drop, length, sym, ap, ◌∙◌}
use Rattle.std.proofs.lemmas.List.{length-map, drop-map}
use Rattle.base.specs.Bytes.{Identifier, ByName}
use Rattle.lower_statements.specs.declared.names.Slot.{Slot as SlotInMemory}
use Rattle.code_meaning.specs.Layout.{Slot, Known, Layout}
use Rattle.lower_statements.specs.Names.{slot_view, known_view}
use Rattle.lower_statements.proofs.names.Names.leave.Goals as goal

-- the earliest names, seen with their slots
earliest_seen : (known left : ByName SlotInMemory) (count : ℕ) → left ≡ drop (length known - count) known → known_view left ≡ drop (length (known_view known) - count) (known_view known)
earliest_seen known left count is =
    let view : Identifier × SlotInMemory → Identifier × Slot = λ k. (k.0, slot_view k.1) in
    ap known_view is ∙ sym (drop-map view (length known - count) known) ∙ sym (ap (λ n. drop (n - count) (known_view known)) (length-map known view))

pub returns : goal.returns
returns c =
    ap (λ (known : Known). record { known = known; slots = c.self.inside.slots }) (earliest_seen c.self.inside.known c.leave.new.self c.args.count c.leave.ensures)
    ∙ ap (λ (l : Layout). record { known = drop (length l.known - c.args.count) l.known; slots = l.slots }) c.self.view_is
