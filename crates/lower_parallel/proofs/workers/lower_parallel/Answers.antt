use Rattle.std.proofs.Common.{◌<◌, List, [], length, map, arith, subst, sym}
use Rattle.std.proofs.lemmas.List.{length-map}
use Rattle.syntax.specs.declared.unit.Item.{Item as ItemInMemory}
use Rattle.syntax.specs.Views.{item_tree, unit_tree}
use Rattle.lower.proofs.AcceptedFacts.{AllFit, accepted_fits}
use Rattle.lower_parallel.proofs.Standing.{made_stands, not_long}
use Rattle.lower_parallel.proofs.workers.lower_parallel.Goals as goal

pub of-requires : goal.of-requires
of-requires g c =
    let given = c.items.ensures in
    let shares = c.in_ok-shares.shares.items in
    let some : 0 < length shares = omega (arith, c.requires.workers.0, c.in_ok-shares.ensures.workers, c.in_ok-shares.shares.ok.0) in
    made_stands c.args.checked.now c.in_ok-codes.codes.items (map (λ s. s.items) shares)
    (subst (λ (unit : List ItemInMemory). AllFit [] (map item_tree unit)) given.same (accepted_fits (unit_tree c.items.result.now) given.tree given.well_typed given.regions))
    (subst (λ n. 0 < n) (sym (length-map shares (λ s. s.items))) some) c.in_ok-shares.ensures.shares (c.in_ok-codes.ensures _ c.in_ok-shares.ensures.shares)

pub returns-clause-short : goal.returns-clause-short
returns-clause-short g c =
    let given = c.items.ensures in
    let shares = c.in_ok-shares.shares.items in
    let some : 0 < length shares = omega (arith, c.requires.workers.0, c.in_ok-shares.ensures.workers, c.in_ok-shares.shares.ok.0) in
    not_long (map item_tree c.args.checked.now) c.in_ok-codes.codes.items (made_stands c.args.checked.now c.in_ok-codes.codes.items (map (λ s. s.items) shares)
    (subst (λ (unit : List ItemInMemory). AllFit [] (map item_tree unit)) given.same (accepted_fits (unit_tree c.items.result.now) given.tree given.well_typed given.regions))
    (subst (λ n. 0 < n) (sym (length-map shares (λ s. s.items))) some) c.in_ok-shares.ensures.shares (c.in_ok-codes.ensures _ c.in_ok-shares.ensures.shares))
