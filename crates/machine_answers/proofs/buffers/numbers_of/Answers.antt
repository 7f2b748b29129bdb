use Rattle.std.proofs.Common.{rules, ◌≡◌, ℕ, pos, ◌<◌, ◌++◌, [], ◌∷◌, length, map, get_or, Some, sym, ap, ◌∙◌}
use Rattle.std.specs.Prelude.{slice_get}
use Rattle.std.specs.Int.{w32, cast_signed}
use Rattle.std.specs.Option.{option_map}
use Rattle.std.proofs.lemmas.List.{take_more}
use Rattle.std.proofs.lemmas.Option.{slice_get-get_or, slice_get-map, slice_get_within}
use Rattle.heap.specs.Heap.{values_at}
use Rattle.machine_answers.specs.Copies.{word_of, words_at}
use Rattle.machine_answers.proofs.buffers.numbers_of.Goals as goal

pub loop-place-preserved : goal.loop-place-preserved
loop-place-preserved c =
    let heap = c.args.heap.now in
    let object = c.args.object in
    let all = map (cast_signed w32) (words_at heap object) in
    let place = c.loop-place.place in
    let number = cast_signed w32 c.word_of.result in
    let at : slice_get all place ≡ Some number =
    slice_get-map (cast_signed w32) (words_at heap object) place
    ∙ ap (option_map (cast_signed w32)) (slice_get-map word_of (values_at heap object) place ∙ ap (option_map word_of) c.get.ensures ∙ ap (λ (n : ℕ). Some n) (sym c.word_of.ensures)) in
    let below : place < length all = slice_get_within all place number at in
    let same : number ≡ get_or all place (pos 0) = let both : Some number ≡ Some (get_or all place (pos 0)) = sym at ∙ slice_get-get_or all place (pos 0) below in cc in
    let pushed : c.push.new.self.items ≡ c.loop-place.numbers.items ++ number ∷ [] = search rules in
    pushed ∙ (λ i. c.loop-place.invariant i ++ same i ∷ []) ∙ sym (take_more all place (pos 0) below)
