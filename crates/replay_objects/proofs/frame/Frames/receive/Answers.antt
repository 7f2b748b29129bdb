use Rattle.std.proofs.Common.{◌≡◌, ◌+◌, ◌-◌, length, refl, ap, ◌∙◌, arith}
use Rattle.std.proofs.lemmas.Option.{slice_get_read}
use Rattle.semantics.specs.CallEffects.{with_local}
use Rattle.std.proofs.lemmas.Result.{IfOk-weaker}
use Rattle.replay_objects.proofs.FrameLemmas.{received_total, received_view}
use Rattle.replay_objects.proofs.frame.Frames.receive.Goals as goal

pub invariant_of-self : goal.invariant_of-self
invariant_of-self c =
    let xs = c.self.inside.frames.items in
    let p = c.len-count.result - 1 in
    let x = c.index_mut.result.now in
    let counted : length xs ≡ p + 1 = omega (arith, c.len-count.ensures, c.if-count-eq0.false) in
    let at = slice_get_read xs (length xs) p x refl (omega (arith, counted)) c.index_mut.ensures.value in
    c.self.invariant ∙ received_total xs p x counted at c.receive_in.new.frame c.receive_in.ensures.capacity

pub returns : goal.returns
returns c =
    let xs = c.self.inside.frames.items in
    let p = c.len-count.result - 1 in
    let x = c.index_mut.result.now in
    let counted : length xs ≡ p + 1 = omega (arith, c.len-count.ensures, c.if-count-eq0.false) in
    let at = slice_get_read xs (length xs) p x refl (omega (arith, counted)) c.index_mut.ensures.value in
    IfOk-weaker c.receive_in.result _ _
    (λ done has. received_view xs p x counted at c.receive_in.new.frame c.args.name.number c.receive_in.ensures.capacity has ∙ ap (with_local c.args.name.number) c.self.view_is)
    c.receive_in.ensures.references
