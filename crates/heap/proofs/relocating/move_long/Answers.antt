use Rattle.std.proofs.Common.{◌≡◌, ℕ, ◌+◌, ◌-◌, List, sym, ap, ◌∙◌, arith}
use Rattle.heap.specs.declared.value.Value.{Value}
use Rattle.heap.specs.Values.{cell_in}
use Rattle.heap.proofs.relocating.move_long.Goals as goal
use Rattle.heap.proofs.relocating.move_long.Goals.{then-target-from, else-target-from}

pub redirect-requires-clause-closed : goal.redirect-requires-clause-closed
redirect-requires-clause-closed c i b low high e =
    let place : ℕ = i - c.args.target in
    let at : c.args.target + place ≡ i = omega (arith, low) in
    let from : cell_in c.if-target-from.cells i ≡ cell_in c.args.cells.now (c.args.from + place) = elim c.if-target-from.branch [
      | then-target-from w ↦ ap (λ (l : List Value). cell_in l i) w.cells-is ∙ sym (ap (cell_in w.copy.new.self) at) ∙ w.copy.ensures.copied place (omega (arith, low, high))
      | else-target-from w ↦
          let same : c.args.from + place ≡ i = omega (arith, low, c.requires.down, w.if-target-from.false) in
          ap (λ (l : List Value). cell_in l i) w.cells-is ∙ sym (ap (cell_in c.args.cells.now) same)
    ] in
    c.requires.closed place b (omega (arith, low)) (omega (arith, low, high)) (sym from ∙ e)
