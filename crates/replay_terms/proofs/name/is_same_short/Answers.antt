use Rattle.std.proofs.Common.{◌≡◌, ◌++◌, ◌∷◌, ℕ, List, [], take, slice_index_or, refl, sym, ap, ◌∙◌, arith}
use Rattle.std.proofs.lemmas.List.{take_all, take_more}
use Rattle.std.proofs.lemmas.Slice.Eq.{bytes_eq-Decides}
use Rattle.replay_terms.proofs.name.is_same_short.Goals as goal

pub loop-place-init : goal.loop-place-init
loop-place-init c = refl

pub loop-place-preserved : goal.loop-place-preserved
loop-place-preserved c =
    let name = c.args.name.now in
    let other = c.args.other.now in
    let i = c.loop-place.place in
    take_more name i 0 c.loop-place-test.true
    ∙ ap (λ (l : List ℕ). l ++ slice_index_or name i 0 ∷ []) c.loop-place.invariant
    ∙ ap (λ (byte : ℕ). take i other ++ byte ∷ []) c.if-name-place.false
    ∙ sym (take_more other i 0 (omega (arith, c.loop-place-test.true, c.requires)))

pub returns : goal.returns
returns c =
    let name = c.args.name.now in
    let other = c.args.other.now in
    let i = c.loop-place.place in
    let same : name ≡ other =
    sym (take_all i name c.loop-place-test.false)
    ∙ c.loop-place.invariant
    ∙ take_all i other (omega (arith, c.loop-place-test.false, c.requires)) in
    sym ((bytes_eq-Decides name other).1 same)
