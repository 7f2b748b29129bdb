use Rattle.std.proofs.Common.{◌≡◌, ℕ, suc, ◌+◌, ◌<◌, ◌≤◌, List, length, Some, sym, ap, subst, ◌∙◌, arith, ⊎_elim}
use Rattle.std.specs.Prelude.{slice_get, slice_index_or}
use Rattle.std.specs.Option.{option_map}
use Rattle.std.proofs.lemmas.Bool.{cases_lt}
use Rattle.std.proofs.lemmas.List.{length-map}
use Rattle.std.proofs.lemmas.Option.{slice_get-map, slice_get-get_or, slice_get_within}
use Rattle.class_rules.specs.BuiltIns.{string_class}
use Rattle.heap.specs.declared.value.Value.{Value}
use Rattle.heap.specs.declared.value.Value.TheVariants as value
use Rattle.heap.specs.declared.value.Value.TheVariants.{Null}
use Rattle.heap.specs.Marks.{noted_in}
use Rattle.heap.specs.Heap.{Space, end_of, fresh_block, with_block, with_value, values_at}
use Rattle.machine_calls.specs.Made.{next_block}
use Rattle.machine_scenes.specs.NewObjects.{units}
use Rattle.machine_scenes.proofs.FilledBlocks.{cells_all, filled_block, filled_fresh, filled_within, filled_more, marking_with}
use Rattle.machine_calls.proofs.make.allocate_text.Goals as goal

many : (bytes : List ℕ) → length (units bytes) ≡ length bytes
many bytes = length-map bytes (λ (b : ℕ). value.Number b)

-- the unit of a place
unit_at : (bytes : List ℕ) (i : ℕ) → i < length bytes → slice_get (units bytes) i ≡ Some (value.Number (slice_index_or bytes i 0))
unit_at bytes i l = slice_get-map (λ (b : ℕ). value.Number b) bytes i ∙ ap (option_map (λ (b : ℕ). value.Number b)) (slice_get-get_or bytes i 0 l)

pub loop-place-init : goal.loop-place-init
loop-place-init c =
    let s = c.args.heap.now in
    let bytes = c.args.bytes.now in (
      c.in-Ok.ensures.block
          ∙ ap (λ (a : ℕ). with_block s (fresh_block a string_class c.args.birth (length bytes) Null)) c.in-Ok.ensures.address
          ∙ filled_fresh s string_class c.args.birth (length bytes) (units bytes) (sym (many bytes)),
      λ i b below. absurd (omega arith),
    )

pub set-requires-clause-target : goal.set-requires-clause-target
set-requires-clause-target c under a e = absurd (let clash : value.Number (slice_index_or c.args.bytes.now c.loop-place.place 0) ≡ value.Block a = sym c.unit.ensures.unit ∙ e in cc)

pub set-requires-clause-place : goal.set-requires-clause-place
set-requires-clause-place c =
    let s = c.args.heap.now in
    let bytes = c.args.bytes.now in
    let there : length (values_at c.loop-place.heap c.in-Ok.addr) ≡ length (units bytes) =
    ap (λ (a : ℕ). length (values_at c.loop-place.heap a)) c.in-Ok.ensures.address
    ∙ ap (λ (t : Space). length (values_at t (end_of s))) c.loop-place.invariant.0
    ∙ filled_within s string_class c.args.birth (units bytes) c.loop-place.place c.count.ensures.laid_out in
    omega (arith, c.loop-place-test.true, many bytes)

pub loop-place-preserved : goal.loop-place-preserved
loop-place-preserved c =
    let s = c.args.heap.now in
    let bytes = c.args.bytes.now in
    let i = c.loop-place.place in
    let birth = c.args.birth in
    let next : suc i ≡ i + 1 = omega arith in (
      c.set.ensures
          ∙ ap (λ (t : Space). with_value t c.in-Ok.addr i c.unit.result) c.loop-place.invariant.0
          ∙ ap (λ (a : ℕ). with_value (with_block s (filled_block s string_class birth (units bytes) i)) a i c.unit.result) c.in-Ok.ensures.address
          ∙ filled_more s string_class birth (units bytes) i c.unit.result c.count.ensures.laid_out (unit_at bytes i c.loop-place-test.true ∙ ap (λ (v : Value). Some v) (sym c.unit.ensures.unit)) (ap (λ (v : Value). noted_in v (marking_with s)) c.unit.ensures.unit)
          ∙ ap (λ (k : ℕ). with_block s (filled_block s string_class birth (units bytes) k)) next,
      λ j b below at. ⊎_elim
          (λ (old : j < i). c.loop-place.invariant.1 j b old at)
          (λ (new : i ≤ j).
          let here : j ≡ i = omega (arith, below, new) in
          let same : Some (slice_index_or bytes i 0) ≡ Some b = sym (slice_get-get_or bytes i 0 c.loop-place-test.true) ∙ ap (slice_get bytes) (sym here) ∙ at in
          let is : slice_index_or bytes i 0 ≡ b = cc in
          subst (λ (n : ℕ). n < 256) is c.unit.ensures.small)
          (cases_lt j i),
    )

pub returns-after-loop-place-clause-made : goal.returns-after-loop-place-clause-made
returns-after-loop-place-clause-made c =
    let s = c.args.heap.now in
    let bytes = c.args.bytes.now in
    let all : filled_block s string_class c.args.birth (units bytes) c.loop-place.place ≡ next_block s string_class c.args.birth (units bytes) =
    ap (λ (l : List Value). next_block s string_class c.args.birth l) (cells_all (units bytes) c.loop-place.place (omega (arith, c.loop-place-test.false, many bytes))) in (
      c.loop-place.invariant.0 ∙ ap (with_block s) all,
      omega (arith, c.in-Ok.ensures.room, many bytes),
      c.in-Ok.ensures.address,
    )

pub returns-after-loop-place-clause-bytes : goal.returns-after-loop-place-clause-bytes
returns-after-loop-place-clause-bytes c i b at = c.loop-place.invariant.1 i b (omega (arith, slice_get_within c.args.bytes.now i b at, c.loop-place-test.false)) at
