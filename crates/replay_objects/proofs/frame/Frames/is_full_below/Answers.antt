use Rattle.std.proofs.Common.{◌≡◌, ◌+◌, ◌-◌, List, length, drop, slice_get, refl, sym, ap, ◌∙◌, arith}
use Rattle.std.specs.Prelude.{nat_le}
use Rattle.std.proofs.lemmas.Option.{slice_get_read}
use Rattle.semantics.specs.CallSight.{is_full}
use Rattle.semantics.specs.Thread.{Frame}
use Rattle.replay_objects.proofs.FrameLemmas.{below_at}
use Rattle.replay_objects.proofs.frame.Frames.is_full_below.Goals as goal

pub returns : goal.returns
returns c =
    let xs = c.self.inside.frames.items in
    let p = c.len-count.result - 2 in
    let x = c.index-frame.result.now in
    let counted : length xs ≡ p + 2 = omega (arith, c.len-count.ensures, c.if-count-lt2.false) in
    let at = slice_get_read xs (length xs) p x refl (omega (arith, counted)) c.index-frame.ensures in
    ap (nat_le x.capacity) c.len.ensures
    ∙ ap is_full (sym (below_at xs p x counted at))
    ∙ ap (λ (fs : List Frame). is_full (slice_get (drop 1 fs) 0)) c.self.view_is
