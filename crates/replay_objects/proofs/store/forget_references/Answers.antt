use Rattle.std.proofs.Common.{◌≡◌, ◌<◌, ℕ, ◌+◌, ◌-◌, pos, List, [], ◌++◌, length, map, take, drop, get_or, sym, ap, ◌∙◌, arith}
use Rattle.std.specs.Prelude.{slice_set}
use Rattle.std.proofs.lemmas.List.{length-map, length-take-le, map-set, get_or-map, get_or-append_right, get_or-drop}
use Rattle.semantics.specs.declared.object_value.ObjectValue.TheVariants as object_value
use Rattle.semantics.specs.Object.{ObjectValue, Number}
use Rattle.semantics.specs.Views.{object_value_view}
use Rattle.replay_objects.specs.Stores.{as_number}
use Rattle.replay_objects.proofs.NumberLemmas.{next_in}
use Rattle.replay_objects.proofs.store.forget_references.Goals as goal

-- behind what is changed all is as before
unread : (front old : List ObjectValue) (i : ℕ) (d : ObjectValue) → length front ≡ i → get_or (front ++ drop i old) i d ≡ get_or old i d
unread front old i d counted =
    let none : i + (i - i) ≡ i = omega arith in
    get_or-append_right front (drop i old) i i d counted (omega arith)
    ∙ get_or-drop i old (i - i) d
    ∙ ap (λ (n : ℕ). get_or old n d) none

pub loop-value-preserved : goal.loop-value-preserved
loop-value-preserved c =
    let values = c.loop-value.values in
    let old = map object_value_view c.args.values.now in
    let i = c.loop-value.value-index in
    let zero = Number (pos 0) in
    let front = map as_number (take i old) in
    let low : i < length old = omega (arith, c.loop-value-test.true, length-map c.args.values.now object_value_view) in
    let counted : length front ≡ i = length-map (take i old) as_number ∙ length-take-le i old (omega (arith, low)) in
    let same : object_value_view (get_or values i (object_value.Number (pos 0))) ≡ get_or old i zero =
    sym (get_or-map object_value_view values i (object_value.Number (pos 0)) zero (omega (arith, c.loop-value-test.true, c.loop-value.auto.values)))
    ∙ ap (λ (l : List ObjectValue). get_or l i zero) c.loop-value.invariant
    ∙ unread front old i zero counted in
    map-set object_value_view values i c.as_number.result
    ∙ ap (slice_set (map object_value_view values) i) (c.as_number.ensures ∙ ap as_number same)
    ∙ ap (λ (l : List ObjectValue). slice_set l i (as_number (get_or old i zero))) c.loop-value.invariant
    ∙ next_in as_number [] old old i i zero (omega arith) low low
