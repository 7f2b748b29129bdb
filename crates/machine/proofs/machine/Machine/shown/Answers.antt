use Rattle.std.proofs.Common.{ℕ, List, ◌++◌, map, subst, sym, ap, ◌∙◌}
use Rattle.machine_threads.specs.declared.thread.Thread.{Thread}
use Rattle.tables.specs.References.{references_in}
use Rattle.machine_collections.specs.Roots.{root_places, pinned_names, AreAddresses, ThreadsAreStacked}
use Rattle.machine_scenes.specs.Given.{object_there}
use Rattle.machine.proofs.Reports.{are_shown, places_there}
use Rattle.machine.proofs.machine.Machine.shown.Goals as goal

pub root_names-requires : goal.root_names-requires
root_names-requires c =
    let i = c.self.inside in
    let stacked = subst (λ (ts : List Thread). ThreadsAreStacked ts) c.deref.ensures.value c.in_ok-roots.ensures.stacked in
    let same = c.in_ok-roots.ensures.places ∙ ap (λ (ts : List Thread). root_places i.store ts) c.deref.ensures.value in
    subst (λ l. AreAddresses i.store.heap (references_in l)) (sym same) (places_there _ _ _ _ _ _ _ c.self.invariant stacked)

pub returns : goal.returns
returns c =
    let i = c.self.inside in
    let agrees = c.self.invariant.store_agrees in
    let stacked = subst (λ (ts : List Thread). ThreadsAreStacked ts) c.deref.ensures.value c.in_ok-roots.ensures.stacked in
    let same = c.in_ok-roots.ensures.places ∙ ap (λ (ts : List Thread). root_places i.store ts) c.deref.ensures.value in
    let gathered = c.in_ok-names.ensures ∙ ap (λ l. map (object_there i.store.heap) (references_in l)) same in
    let names = c.in_ok-push_viewed.ensures ∙ ap (λ (l : List ℕ). l ++ pinned_names i.store.heap.blocks) gathered in
    are_shown _ _ _ _ _ _ _ c.self.invariant c.args.self.now c.self.view_is _ _ (c.in_ok-objects.ensures c.self.invariant.state.shared.heap agrees.heap agrees.births) names stacked
