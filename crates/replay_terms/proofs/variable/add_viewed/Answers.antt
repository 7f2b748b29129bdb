use Rattle.std.proofs.Common.{◌+◌, ◌++◌, ℕ, List, drop, ap, ◌∙◌}
use Rattle.std.specs.Prelude.{flat_map}
use Rattle.indexmap.specs.IndexMap.{values}
use Rattle.semantics.specs.Views.{names_of}
use Rattle.replay_terms.specs.Views.{viewed_by}
use Rattle.replay_terms.proofs.BufferLemmas.{flat_map_next}
use Rattle.replay_terms.proofs.variable.add_viewed.Goals as goal

pub loop-place-preserved : goal.loop-place-preserved
loop-place-preserved c =
    let all = values c.args.contents.now in
    let place = c.loop-place.place in
    ap (λ (l : List ℕ). l ++ flat_map viewed_by (drop (place + 1) all)) c.in_ok-push_viewed.ensures
    ∙ flat_map_next viewed_by all place c.index.result.now (names_of c.loop-place.names.items) c.index.ensures
    ∙ c.loop-place.invariant
