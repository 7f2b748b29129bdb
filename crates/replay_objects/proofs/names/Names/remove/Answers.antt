use Rattle.std.proofs.Common.{◌≡◌, ℕ, List, reverse, sym, ap, ◌∙◌}
use Rattle.std.specs.Prelude.{remove}
use Rattle.semantics.specs.CallEffects.{without_one}
use Rattle.semantics.specs.Views.{names_of}
use Rattle.semantics.specs.declared.object_id.ObjectId.{ObjectId}
use Rattle.replay_objects.proofs.Lists.{map_removed}
use Rattle.replay_objects.proofs.names.Names.remove.Goals as goal

pub returns-in-Some : goal.returns-in-Some
returns-in-Some c =
    let names = c.self.inside.names.items in
    let place = c.in-Some.place in
    let left : without_one c.args.name.number (reverse (names_of names)) ≡ reverse (remove (names_of names) place) = rw c.deref.ensures.value at c.in-Some.ensures.0 in
    ap (λ (l : List ObjectId). reverse (names_of l)) c.remove.ensures.items
    ∙ ap (λ (l : List ℕ). reverse l) (map_removed (λ (o : ObjectId). o.number) names place)
    ∙ sym left
    ∙ ap (without_one c.args.name.number) c.self.view_is
