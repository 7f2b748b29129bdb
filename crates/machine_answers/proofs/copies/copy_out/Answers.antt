use Rattle.std.proofs.Common.{◌≡◌, ℕ, suc, ◌+◌, List, Some, take, w64, refl, sym, ap, ◌∙◌, arith}
use Rattle.std.specs.Prelude.{slice_get, slice_set}
use Rattle.std.specs.Option.{option_map}
use Rattle.std.proofs.Math.Facts.{Fits-of_lt}
use Rattle.std.proofs.lemmas.Option.{slice_get-map}
use Rattle.heap.specs.Heap.{values_at}
use Rattle.machine_answers.specs.Copies.{overlaid, word_of, words_of}
use Rattle.machine_answers.proofs.FewValues.{few_values}
use Rattle.machine_answers.proofs.Overlays.{get_part, overlaid_more, overlaid_nothing}
use Rattle.machine_answers.proofs.copies.copy_out.Goals as goal

pub loop-place-init : goal.loop-place-init
loop-place-init c = sym (overlaid_nothing c.args.numbers.now c.args.region.now.slot)

pub overflow_add-region : goal.overflow_add-region
overflow_add-region c =
    let few = few_values c.args.heap.now c.args.region.now.object c.count.ensures.laid_out (omega arith) in
    Fits-of_lt {w = w64} (omega (arith, few, c.requires.within, c.loop-place-test.true))

pub loop-place-preserved : goal.loop-place-preserved
loop-place-preserved c =
    let region = c.args.region.now in
    let words = words_of c.args.heap.now region in
    let place = c.loop-place.place in
    let word = c.word_of-word.result in
    let next : suc place ≡ place + 1 = omega arith in
    let at : slice_get words place ≡ Some word =
    slice_get-map word_of _ place
    ∙ ap (option_map word_of) (get_part (values_at c.args.heap.now region.object) region.start region.count place c.loop-place-test.true ∙ c.get.ensures)
    ∙ ap (λ (n : ℕ). Some n) (sym c.word_of-word.ensures) in
    ap (λ (l : List ℕ). slice_set l (region.slot + place) word) c.loop-place.invariant
    ∙ overlaid_more c.args.numbers.now region.slot words place (region.slot + place) word refl at
    ∙ ap (λ (k : ℕ). overlaid c.args.numbers.now region.slot (take k words)) next
