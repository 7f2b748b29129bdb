use Rattle.std.proofs.Common.{◌≡◌, ℕ, ◌+◌, ◌-◌, length, refl, sym, ap, ◌∙◌, arith}
use Rattle.std.proofs.lemmas.Option.{slice_get_read}
use Rattle.semantics.specs.CallEffects.{with_capacity}
use Rattle.replay_objects.specs.declared.frame.Frame.{Frame as InMemory}
use Rattle.replay_objects.proofs.FrameLemmas.{reserved_total, reserved_view}
use Rattle.replay_objects.proofs.frame.Frames.reserve.Goals as goal

pub invariant_of-self : goal.invariant_of-self
invariant_of-self c =
    let xs = c.self.inside.frames.items in
    let p = c.len-count.result - 1 in
    let x = c.index-frame.result.now in
    let counted : length xs ≡ p + 1 = omega (arith, c.len-count.ensures, c.if-count-eq0.false) in
    let at = slice_get_read xs (length xs) p x refl (omega (arith, counted)) c.index-frame.ensures in
    ap (λ (n : ℕ). c.self.inside.total - x.capacity + n) (sym c.set_capacity.ensures.capacity)
    ∙ reserved_total xs p x counted at c.set_capacity.new.frame c.self.inside.total c.self.invariant

pub returns-then-needed-old : goal.returns-then-needed-old
returns-then-needed-old c =
    let xs = c.self.inside.frames.items in
    let p = c.len-count.result - 1 in
    let x = c.index-frame.result.now in
    let again = c.index_mut.result.now in
    let counted : length xs ≡ p + 1 = omega (arith, c.len-count.ensures, c.if-count-eq0.false) in
    let at = slice_get_read xs (length xs) p x refl (omega (arith, counted)) c.index-frame.ensures in
    let at_again = slice_get_read xs (length xs) p again refl (omega (arith, counted)) c.index_mut.ensures.value in
    let same : again ≡ x = cc in
    reserved_view xs p x counted at c.set_capacity.new.frame c.args.more
    (c.set_capacity.ensures.capacity ∙ ap (λ (n : ℕ). n + c.args.more) c.len.ensures)
    (omega (arith, c.if-needed-old.true, c.set_capacity.ensures.capacity))
    (c.set_capacity.ensures.references ∙ ap (λ (f : InMemory). f.references) same)
    ∙ ap (with_capacity c.args.more) c.self.view_is
