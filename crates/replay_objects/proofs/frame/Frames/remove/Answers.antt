use Rattle.std.proofs.Common.{◌≡◌, ◌<◌, ◌+◌, ◌-◌, length, refl, ap, ◌∙◌, arith}
use Rattle.std.specs.Prelude.{min}
use Rattle.std.proofs.lemmas.Option.{slice_get_read}
use Rattle.semantics.specs.CallEffects.{without_local}
use Rattle.replay_objects.proofs.FrameLemmas.{removed_view, removed_total}
use Rattle.replay_objects.proofs.frame.Frames.remove.Goals as goal

pub invariant_of-self : goal.invariant_of-self
invariant_of-self c =
    let xs = c.self.inside.frames.items in
    let level = c.args.level.number in
    let p = c.min-place.result - 1 in
    let old = c.index_mut.result.now in
    let placed : p + 1 ≡ min level (length xs) = omega (arith, c.if-place-gt0.true, c.min-place.ensures, c.len.ensures) in
    let above : 0 < level = omega (arith, placed) in
    let at = slice_get_read xs (length xs) p old refl (omega (arith, placed)) c.index_mut.ensures.value in
    c.self.invariant ∙ removed_total xs level c.args.name.number p old c.remove_from.new.frame above placed at c.remove_from.ensures.capacity

pub returns-then-place-gt0 : goal.returns-then-place-gt0
returns-then-place-gt0 c =
    let xs = c.self.inside.frames.items in
    let level = c.args.level.number in
    let p = c.min-place.result - 1 in
    let old = c.index_mut.result.now in
    let placed : p + 1 ≡ min level (length xs) = omega (arith, c.if-place-gt0.true, c.min-place.ensures, c.len.ensures) in
    let above : 0 < level = omega (arith, placed) in
    let at = slice_get_read xs (length xs) p old refl (omega (arith, placed)) c.index_mut.ensures.value in
    removed_view xs level c.args.name.number p old c.remove_from.new.frame above placed at c.remove_from.ensures.view
    ∙ ap (without_local level c.args.name.number) c.self.view_is
