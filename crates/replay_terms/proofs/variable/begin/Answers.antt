use Rattle.std.proofs.Common.{ℤ, List, pos, get_or, w32, ap, ◌∙◌}
use Rattle.std.specs.Prelude.{slice_set}
use Rattle.std.proofs.Math.Facts.{to_z-of_z}
use Rattle.semantics.specs.declared.object_value.ObjectValue.TheVariants as object_value
use Rattle.replay_terms.specs.Views.{held_number}
use Rattle.replay_terms.proofs.VariableLemmas.{begun_next}
use Rattle.replay_terms.proofs.variable.begin.Goals as goal

pub loop-place-preserved : goal.loop-place-preserved
loop-place-preserved c =
    let place = c.loop-place.place in
    let values = c.args.values.now in
    let zero = object_value.Number (pos 0) in
    ap (λ (z : ℤ). slice_set c.loop-place.numbers place z) (to_z-of_z {w = w32} (record { sfits = c.held_number.type_inv }) ∙ c.held_number.ensures)
    ∙ ap (λ (l : List ℤ). slice_set l place (held_number (get_or values place zero))) c.loop-place.invariant
    ∙ begun_next held_number values c.args.numbers.now place zero c.loop-place-test.true c.requires
