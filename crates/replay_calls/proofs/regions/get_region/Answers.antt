use Rattle.std.proofs.Common.{◌≡◌, ℕ, ◌+◌, ◌-◌, ℤ, List, map, take, drop, sym, ap, ◌∙◌, arith}
use Rattle.std.proofs.lemmas.List.{drop-map, take-map}
use Rattle.std.proofs.lemmas.Simd.{map-map}
use Rattle.semantics.specs.CallEffects.{begun_with}
use Rattle.semantics.specs.Heap.{number_in, numbers_of}
use Rattle.semantics.specs.Object.{ObjectValue}
use Rattle.semantics.specs.Variable.{change}
use Rattle.semantics.specs.Views.{object_value_view}
use Rattle.replay_terms.specs.Views.{held_number, variables_view}
use Rattle.replay_calls.proofs.regions.get_region.Goals as goal

pub returns : goal.returns
returns c =
    let start = c.args.region.start in
    let count = c.args.region.count in
    let values = c.values_of-values.result.now in
    let counted : start + count - start ≡ count = omega arith in
    let numbers : map held_number values ≡ numbers_of c.args.store.now c.args.region.object.number = sym (map-map number_in object_value_view values) ∙ ap (λ (l : List ObjectValue). map number_in l) c.values_of-values.ensures.values in
    c.begin_array.ensures
    ∙ ap (λ (l : List ℤ). change c.args.array.now (begun_with l) (variables_view c.args.variables.now)) (
    ap (λ (n : ℕ). map held_number (take n (drop start values))) counted
    ∙ sym (take-map held_number count (drop start values))
    ∙ ap (λ (l : List ℤ). take count l) (sym (drop-map held_number start values))
    ∙ ap (λ (l : List ℤ). take count (drop start l)) numbers)
