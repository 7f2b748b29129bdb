use Rattle.std.proofs.Common.{ℕ, ◌+◌, ◌++◌, List, map, drop, sym, ap, ◌∙◌, arith, append_assoc, append-nil}
use Rattle.base.proofs.Lists.{drop_past}
use Rattle.tables.specs.References.{references_in}
use Rattle.semantics.specs.Views.{names_of}
use Rattle.machine_collections.specs.Roots.{reference_names}
use Rattle.machine_scenes.specs.Given.{object_there}
use Rattle.machine_collections.proofs.RootNames.{root_next, root_there}
use Rattle.machine_collections.proofs.roots.root_names.Goals as goal

pub push_name-requires : goal.push_name-requires
push_name-requires c = root_there c.args.heap.now c.args.roots.now.places.items c.loop-place.place c.root.result c.requires c.root.ensures

pub loop-place-preserved : goal.loop-place-preserved
loop-place-preserved c =
    let places = c.args.roots.now.places.items in
    let names = names_of c.loop-place.names.items in
    let further = map (object_there c.args.heap.now) (references_in (drop (c.loop-place.place + 1) places)) in
    ap (λ (l : List ℕ). l ++ further) c.in_ok-push_name.ensures
    ∙ append_assoc names (reference_names c.args.heap.now c.root.result) further
    ∙ ap (λ (l : List ℕ). names ++ l) (sym (root_next c.args.heap.now places c.loop-place.place c.root.result c.root.ensures))
    ∙ c.loop-place.invariant

pub returns : goal.returns
returns c =
    let places = c.args.roots.now.places.items in
    let names = names_of c.loop-place.names.items in
    sym (ap (λ (l : List ℕ). names ++ l) (ap (λ l. map (object_there c.args.heap.now) (references_in l)) (drop_past places c.loop-place.place (omega (arith, c.loop-place-test.false, c.len-place-end.ensures)))) ∙ append-nil names) ∙ c.loop-place.invariant
