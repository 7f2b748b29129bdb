use Rattle.std.proofs.Common.{◌+◌, List, [], map, drop, arith, subst}
use Rattle.syntax.specs.declared.unit.Item.{Item as ItemInMemory}
use Rattle.syntax.specs.Views.{item_tree, unit_tree, function_tree}
use Rattle.lower.proofs.AcceptedFacts.{accepted_fits}
use Rattle.lower.proofs.ItemSteps.{last_item}
use Rattle.lower.specs.Listings.{listings_of}
use Rattle.lower_parallel.specs.Shares.{IsShare}
use Rattle.lower_parallel.proofs.Walks.{AreLeft, none_done, first_left, static_done, other_passed, own_done, function_fits, all_done}
use Rattle.lower_parallel.proofs.share.lower_share.Goals as goal
use Rattle.lower_parallel.proofs.share.lower_share.Goals.{in-Static+in_ok-declare_static-in-Static, in-Function, then-number-workers+in_ok-push_code-in-Function, else-number-workers}

pub loop-item-init : goal.loop-item-init
loop-item-init g c =
    let items = c.items-item-items.result.now in
    let given = c.items-item-items.ensures in
    (rw (c.new-names.ensures, c.new-codes.ensures.items) (none_done c.args.workers c.args.worker (map item_tree items) (accepted_fits (unit_tree items) given.tree given.well_typed given.regions)), omega arith)

pub push_code-requires : goal.push_code-requires
push_code-requires g c =
    let items = c.items-item-items.result.now in
    let i = c.loop-item.item-index in
    function_fits c.args.workers c.args.worker (map item_tree items) c.loop-item.names.known c.loop-item.number (function_tree c.in-Function.function) (map item_tree (drop (i + 1) items)) c.loop-item.codes.items
    (first_left c.args.workers c.args.worker (map item_tree items) c.loop-item.names.known c.loop-item.number items i c.item-item.result _ c.loop-item.codes.items c.loop-item-test.true c.item-item.is c.in-Function.is c.loop-item.invariant.0)

pub returns-clause-share : goal.returns-clause-share
returns-clause-share g c =
    let items = c.items-item-items.result.now in
    let last = last_item items c.loop-item.item-index c.loop-item-test.false in
    let left = subst (λ rest. AreLeft c.args.workers c.args.worker (map item_tree items) c.loop-item.names.known c.loop-item.number rest c.loop-item.codes.items) last c.loop-item.invariant.0 in
    subst (λ (all : List ItemInMemory). IsShare c.args.workers c.args.worker (listings_of [] (map item_tree all)) c.loop-item.codes.items) c.items-item-items.ensures.same
    (all_done c.args.workers c.args.worker (map item_tree items) c.loop-item.names.known c.loop-item.number c.loop-item.codes.items left)

pub loop-item-preserved : goal.loop-item-preserved
loop-item-preserved g c =
    let items = c.items-item-items.result.now in
    let i = c.loop-item.item-index in
    let all = map item_tree items in
    let rest = map item_tree (drop (i + 1) items) in
    let statics = c.loop-item.names.known in
    let number = c.loop-item.number in
    let codes = c.loop-item.codes.items in
    elim c.match-item.branch [
      | in-Static+in_ok-declare_static-in-Static w ↦
          let left = first_left c.args.workers c.args.worker all statics number items i c.item-item.result _ codes c.loop-item-test.true c.item-item.is w.in-Static.is c.loop-item.invariant.0 in
          rw (w.names-is, w.codes-is, w.number-is, w.in_ok-declare_static-in-Static.ensures) (static_done c.args.workers c.args.worker all statics number _ rest codes left, omega (arith, c.loop-item.invariant.1))
      | in-Function w ↦
          let left = first_left c.args.workers c.args.worker all statics number items i c.item-item.result _ codes c.loop-item-test.true c.item-item.is w.in-Function.is c.loop-item.invariant.0 in
          elim w.if-number-workers.branch [
            | then-number-workers+in_ok-push_code-in-Function v ↦
                rw (w.names-is, w.codes-is, w.number-is, v.names-is, v.codes-is) (
                  (own_done c.args.workers c.args.worker all statics number _ rest codes _ _ left v.if-number-workers.true v.in_ok-push_code-in-Function.ensures.done),
                  (omega (arith, c.loop-item.invariant.1)),
                )
            | else-number-workers v ↦
                rw (w.names-is, w.codes-is, w.number-is, v.names-is, v.codes-is) (
                  (other_passed c.args.workers c.args.worker all statics number _ rest codes left v.if-number-workers.false),
                  (omega (arith, c.loop-item.invariant.1)),
                )
          ]
    ]
