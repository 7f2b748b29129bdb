use Rattle.std.proofs.Common.{◌≡◌, ◌+◌, List, [], Result, Err, map, drop, sym, ap, ◌∙◌, subst}
use Rattle.std.proofs.lemmas.Result.{err_from_is_err_and}
use Rattle.syntax.specs.declared.unit.Item.{Item as ItemInMemory}
use Rattle.syntax.specs.Views.{item_tree, unit_tree}
use Rattle.code_meaning.specs.Length.{IsTooLong}
use Rattle.code_meaning.specs.Lowered.{AreCodesOf}
use Rattle.lower.specs.Listings.{listings_of}
use Rattle.lower.proofs.AcceptedFacts.{accepted_fits}
use Rattle.lower.proofs.ItemSteps.{AreLeft, none_done, item_fits, item_done, item_long, none_long, all_done, all_listed, next_item, last_item}
use Rattle.lower.proofs.lowering.lower.Goals as goal

pub loop-item-init : goal.loop-item-init
loop-item-init c =
    let items = c.items-item-items.result.now in
    let given = c.items-item-items.ensures in
    rw (c.new-names.ensures, c.new-codes.ensures.items) (none_done (map item_tree items) (accepted_fits (unit_tree items) given.tree given.well_typed given.regions))

pub lower_item-requires : goal.lower_item-requires
lower_item-requires c =
    let items = c.items-item-items.result.now in
    let i = c.loop-item.item-index in
    let next = next_item items i c.item-item.result c.loop-item-test.true c.item-item.is in
    item_fits (map item_tree items) c.loop-item.names.known (item_tree c.item-item.result) (map item_tree (drop (i + 1) items)) c.loop-item.codes.items
    (subst (λ rest. AreLeft (map item_tree items) c.loop-item.names.known rest c.loop-item.codes.items) next c.loop-item.invariant)

pub of-requires : goal.of-requires
of-requires c =
    let items = c.items-item-items.result.now in
    let statics = c.loop-item.names.known in
    let last = last_item items c.loop-item.item-index c.loop-item-test.false in
    let left = subst (λ rest. AreLeft (map item_tree items) statics rest c.loop-item.codes.items) last c.loop-item.invariant in
    subst (λ (all : List ItemInMemory). AreCodesOf [] (map item_tree all) c.loop-item.codes.items) c.items-item-items.ensures.same (all_done (map item_tree items) statics c.loop-item.codes.items left)

pub loop-item-preserved : goal.loop-item-preserved
loop-item-preserved c =
    let items = c.items-item-items.result.now in
    let i = c.loop-item.item-index in
    let all = map item_tree items in
    let statics = c.loop-item.names.known in
    let codes = c.loop-item.codes.items in
    let next = next_item items i c.item-item.result c.loop-item-test.true c.item-item.is in
    let left = subst (λ rest. AreLeft all statics rest codes) next c.loop-item.invariant in
    item_done all statics (item_tree c.item-item.result) (map item_tree (drop (i + 1) items)) codes _ _ left c.in_ok-lower_item.ensures.done

pub returns-clause-codes : goal.returns-clause-codes
returns-clause-codes c =
    let items = c.items-item-items.result.now in
    let statics = c.loop-item.names.known in
    let last = last_item items c.loop-item.item-index c.loop-item-test.false in
    let left = subst (λ rest. AreLeft (map item_tree items) statics rest c.loop-item.codes.items) last c.loop-item.invariant in
    c.of.ensures.codes ∙ subst (λ (all : List ItemInMemory). c.loop-item.codes.items ≡ listings_of [] (map item_tree all)) c.items-item-items.ensures.same (all_listed (map item_tree items) statics c.loop-item.codes.items left)

pub returns-clause-short : goal.returns-clause-short
returns-clause-short c =
    let items = c.items-item-items.result.now in
    let statics = c.loop-item.names.known in
    let last = last_item items c.loop-item.item-index c.loop-item-test.false in
    let left = subst (λ rest. AreLeft (map item_tree items) statics rest c.loop-item.codes.items) last c.loop-item.invariant in
    λ long. none_long (map item_tree items) statics c.loop-item.codes.items left (subst (λ (all : List ItemInMemory). IsTooLong (unit_tree all)) (sym c.items-item-items.ensures.same) long)

-- the same fault, of another type of answers
same_fault : {A B E : Type 0} (e f : E) → ◌≡◌ {A = Result A E} (Err e) (Err f) → ◌≡◌ {A = Result B E} (Err e) (Err f)
same_fault e f h = let same : e ≡ f = cc in ap (λ x. Err x) same

pub returns-in_err-lower_item-clause-too_long : goal.returns-in_err-lower_item-clause-too_long
returns-in_err-lower_item-clause-too_long c =
    let items = c.items-item-items.result.now in
    let next = next_item items c.loop-item.item-index c.item-item.result c.loop-item-test.true c.item-item.is in
    let left = subst (λ rest. AreLeft (map item_tree items) c.loop-item.names.known rest c.loop-item.codes.items) next c.loop-item.invariant in
    let p = err_from_is_err_and c.from_residual.result c.from_residual.ensures.1 in
    λ is. subst (λ (all : List ItemInMemory). IsTooLong (unit_tree all)) c.items-item-items.ensures.same
    (item_long (map item_tree items) c.loop-item.names.known (item_tree c.item-item.result) (map item_tree (drop (c.loop-item.item-index + 1) items)) c.loop-item.codes.items left (c.in_err-lower_item.ensures.too_long (same_fault _ _ (sym (p.1 ∙ ap (λ x. Err x) p.2) ∙ is))))
