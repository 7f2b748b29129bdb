use Rattle.std.proofs.Common.{◌≡◌, ◌+◌, ◌++◌, List, [], ◌∷◌, Option, Some, None, drop, map, subst, sym, ap, ◌∙◌, rules, append-nil, append_assoc}
use Rattle.std.proofs.lemmas.List.{drop_all}
use Rattle.std.specs.List.{AllByRecursion, cons_option}
use Rattle.std.specs.Option.{option_to_list}
use Rattle.syntax.specs.declared.unit.Item.{Item as ItemInMemory}
use Rattle.syntax.specs.Views.{item_tree}
use Rattle.regions.specs.Findings.{fault_of, item_fault, items_faults}
use Rattle.region_states.specs.NewNames.{ItemOnce}
use Rattle.regions.specs.Paths.{Found}
use Rattle.regions.proofs.PathLemmas.{item_next}
use Rattle.regions.proofs.walk.gather_each.Goals as goal

pub check_item-found-requires : goal.check_item-found-requires
check_item-found-requires c =
    let items = c.args.items.now in
    (subst (λ (xs : List ItemInMemory). AllByRecursion ItemOnce (map item_tree xs)) (item_next items c.loop-item.item-index c.item-item.result c.loop-item-test.true c.item-item.is) c.loop-item.invariant.once).0

-- one more is told, or none
told_more : (xs : List Found) (o : Option Found) (rest : List Found) → (xs ++ option_to_list o) ++ rest ≡ xs ++ cons_option o rest
told_more xs None rest = ap (λ ys. ys ++ rest) (append-nil xs)
told_more xs (Some x) rest = append_assoc xs (x ∷ []) rest

pub loop-item-preserved : goal.loop-item-preserved
loop-item-preserved c =
    let items = c.args.items.now in
    let i = c.loop-item.item-index in
    let item = c.item-item.result in
    let next = item_next items i item c.loop-item-test.true c.item-item.is in
    let rest = items_faults (map item_tree (drop (i + 1) items)) in
    let fault = item_fault (item_tree item) in
    record {
      once = (subst (λ (xs : List ItemInMemory). AllByRecursion ItemOnce (map item_tree xs)) next c.loop-item.invariant.once).1;
      told =
          ap (λ (xs : List Found). xs ++ rest) (c.in_ok-keep.ensures fault c.check_item-found.ensures)
          ∙ told_more (map fault_of c.loop-item.faults.items) fault rest
          ∙ sym (ap (λ (xs : List ItemInMemory). map fault_of c.loop-item.faults.items ++ items_faults (map item_tree xs)) next)
          ∙ c.loop-item.invariant.told;
    }

pub returns : goal.returns
returns c =
    sym (append-nil (map fault_of c.loop-item.faults.items))
    ∙ sym (ap (λ (xs : List ItemInMemory). map fault_of c.loop-item.faults.items ++ items_faults (map item_tree xs)) (drop_all c.loop-item.item-index c.args.items.now (search rules)))
    ∙ c.loop-item.invariant.told
