use Rattle.std.proofs.Common.{◌≡◌, List, map, ap, ◌∙◌}
use Rattle.std.proofs.lemmas.Result.{IfOk-weaker}
use Rattle.syntax.specs.declared.unit.Item.{Item as ItemInMemory}
use Rattle.syntax.specs.Views.{item_tree, unit_tree}
use Rattle.regions.specs.AllFaults.{AreRegionFaults}
use Rattle.regions.specs.Findings.{RegionFault, fault_of, items_faults}
use Rattle.regions.proofs.OnceLemmas.{typed_once}
use Rattle.regions.proofs.UnitLemmas.{told-all, none-told, accepted-told, first-told, broken-told}
use Rattle.regions.proofs.checked.region_faults.Goals as goal

told : (given items : List ItemInMemory) (faults : List RegionFault) → given ≡ items → map fault_of faults ≡ items_faults (map item_tree given) → AreRegionFaults (unit_tree items) (map fault_of faults)
told given items faults same h = told-all (map item_tree items) faults (h ∙ ap (λ (xs : List ItemInMemory). items_faults (map item_tree xs)) same)

pub faults_of_items-requires : goal.faults_of_items-requires
faults_of_items-requires c = typed_once (unit_tree c.items.result.now) c.items.ensures.well_typed

pub returns-clause-all : goal.returns-clause-all
returns-clause-all c = IfOk-weaker c.faults_of_items.result _ _ (λ faults h. told c.items.result.now c.args.typed.now faults.items c.items.ensures.same h) c.faults_of_items.ensures

pub returns-clause-none : goal.returns-clause-none
returns-clause-none c =
    λ accepted.
    IfOk-weaker c.faults_of_items.result _ _
    (λ faults h. none-told (unit_tree c.args.typed.now) faults.items (told c.items.result.now c.args.typed.now faults.items c.items.ensures.same h) accepted)
    c.faults_of_items.ensures

pub returns-clause-accepted : goal.returns-clause-accepted
returns-clause-accepted c =
    IfOk-weaker c.faults_of_items.result _ _
    (λ faults h. accepted-told (unit_tree c.args.typed.now) faults.items (told c.items.result.now c.args.typed.now faults.items c.items.ensures.same h))
    c.faults_of_items.ensures

pub returns-clause-first : goal.returns-clause-first
returns-clause-first c =
    IfOk-weaker c.faults_of_items.result _ _
    (λ faults h. first-told (unit_tree c.args.typed.now) faults.items (told c.items.result.now c.args.typed.now faults.items c.items.ensures.same h))
    c.faults_of_items.ensures

pub returns-clause-broken : goal.returns-clause-broken
returns-clause-broken c =
    IfOk-weaker c.faults_of_items.result _ _
    (λ faults h. broken-told (map item_tree c.args.typed.now) faults.items (told c.items.result.now c.args.typed.now faults.items c.items.ensures.same h))
    c.faults_of_items.ensures
