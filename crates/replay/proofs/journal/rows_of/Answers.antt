use Rattle.std.proofs.Common.{length, refl, ap, ◌∙◌, arith}
use Rattle.std.proofs.lemmas.Result.{IfOk-weaker}
use Rattle.semantics.specs.Views.{names_of}
use Rattle.semantics.specs.World.{World}
use Rattle.replay.specs.Replays.{ShowsRows}
use Rattle.replay.proofs.RunLemmas.{rows_are}
use Rattle.replay.proofs.journal.rows_of.Goals as goal

pub returns : goal.returns
returns c =
    IfOk-weaker c.reached_rows.result _ (ShowsRows c.args.state.now) (λ rows told unit w s stands.
    rows_are unit w c.args.state.now s _ _ _ _ rows stands c.classes.ensures.classes refl
    (omega (arith, c.made_before.ensures.count, ap (λ os. length os) c.objects.ensures.objects, ap (λ (v : World). length v.classes) stands.world, ap (λ (v : World). length v.objects) stands.world))
    (ap names_of c.deref-2.ensures.value ∙ rw c.deref.ensures.value at c.in_ok-names.ensures) told) c.reached_rows.ensures
