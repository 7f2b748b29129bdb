use Rattle.std.proofs.Common.{◌≡◌, ℕ, suc, ◌+◌, List, length, Some, take, drop, w64, sym, ap, ◌∙◌, arith}
use Rattle.std.specs.Prelude.{slice_get, slice_index_or}
use Rattle.std.proofs.Math.Facts.{Fits-of_lt}
use Rattle.std.proofs.lemmas.List.{take_all, length-take}
use Rattle.std.proofs.lemmas.Option.{slice_get-get_or}
use Rattle.heap.specs.Heap.{Space, values_at, with_changed, with_value}
use Rattle.heap.specs.declared.value.Value.TheVariants as value
use Rattle.machine_answers.specs.Copies.{overlay, words_from}
use Rattle.machine_answers.proofs.CopiedRegions.{none_overlaid, one_overlaid, overlaid_count}
use Rattle.machine_answers.proofs.FewValues.{few_values}
use Rattle.machine_answers.proofs.Overlays.{get_part}
use Rattle.machine_answers.proofs.copies.copy_in.Goals as goal

pub loop-place-init : goal.loop-place-init
loop-place-init c = sym (none_overlaid c.args.heap.now c.args.region.now.object c.args.region.now.start)

pub overflow_add-region : goal.overflow_add-region
overflow_add-region c =
    let few = few_values c.args.heap.now c.args.region.now.object c.count.ensures.laid_out (omega arith) in
    Fits-of_lt {w = w64} (omega (arith, few, c.requires.within, c.loop-place-test.true))

pub set-requires-clause-place : goal.set-requires-clause-place
set-requires-clause-place c =
    let region = c.args.region.now in
    let there : length (values_at c.loop-place.heap region.object) ≡ length (values_at c.args.heap.now region.object) =
    ap (λ (t : Space). length (values_at t region.object)) c.loop-place.invariant
    ∙ overlaid_count c.args.heap.now region.object region.start (take c.loop-place.place (words_from c.args.numbers.now region)) in
    omega (arith, there, c.requires.within, c.loop-place-test.true)

pub loop-place-preserved : goal.loop-place-preserved
loop-place-preserved c =
    let s = c.args.heap.now in
    let numbers = c.args.numbers.now in
    let region = c.args.region.now in
    let words = words_from numbers region in
    let place = c.loop-place.place in
    let word = slice_index_or numbers (region.slot + place) 0 in
    let next : suc place ≡ place + 1 = omega arith in
    let at : slice_get words place ≡ Some word =
    get_part numbers region.slot region.count place c.loop-place-test.true ∙ slice_get-get_or numbers (region.slot + place) 0 (c.requires.slots place c.loop-place-test.true) in
    c.set.ensures
    ∙ ap (λ (t : Space). with_value t region.object (region.start + place) (value.Number word)) c.loop-place.invariant
    ∙ one_overlaid s region.object region.start words place word at
    ∙ ap (λ (k : ℕ). with_changed s region.object (overlay region.start (take k words))) next

pub returns : goal.returns
returns c =
    let s = c.args.heap.now in
    let region = c.args.region.now in
    let words = words_from c.args.numbers.now region in
    c.loop-place.invariant
    ∙ ap (λ (l : List ℕ). with_changed s region.object (overlay region.start l)) (take_all c.loop-place.place words (omega (arith, c.loop-place-test.false, length-take region.count (drop region.slot c.args.numbers.now))))
