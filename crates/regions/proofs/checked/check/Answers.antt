use Rattle.std.proofs.Common.{List, map, refl, sym, ap, subst, ◌∙◌}
use Rattle.std.proofs.lemmas.Result.{err_from_is_err_and}
use Rattle.syntax.specs.declared.unit.Item.{Item as ItemInMemory}
use Rattle.syntax.specs.Parts.{functions_of}
use Rattle.syntax.specs.Views.{item_tree, unit_tree}
use Rattle.regions.specs.Findings.{Refuses, items_fault, first_fault}
use Rattle.regions.proofs.OnceLemmas.{typed_once}
use Rattle.regions.proofs.UnitLemmas.{accepted-all, accepted-memory, fault-first, fault-broken, items-fault}
use Rattle.regions.proofs.checked.check.Goals as goal

pub check_items-requires : goal.check_items-requires
check_items-requires c = typed_once (unit_tree c.items.result.now) c.items.ensures.well_typed

pub of-requires : goal.of-requires
of-requires c =
    accepted-all (functions_of (unit_tree c.args.typed))
    (ap (λ (items : List ItemInMemory). first_fault (functions_of (unit_tree items))) (sym c.items.ensures.same) ∙ sym (items-fault (map item_tree c.items.result.now)) ∙ c.in_ok-check_items.ensures)

pub returns-in_err-check_items-clause-only : goal.returns-in_err-check_items-clause-only
returns-in_err-check_items-clause-only c =
    λ accepted.
    let e = c.in_err-check_items.field-0.0 in
    let refuses = subst (λ (items : List ItemInMemory). Refuses e (items_fault (map item_tree items))) c.items.ensures.same c.in_err-check_items.ensures in
    let memory = accepted-memory (map item_tree c.args.typed) e refuses accepted in
    let p = err_from_is_err_and c.from_residual.result c.from_residual.ensures.1 in
    rw (p.1, p.2, memory) refl

pub returns-in_err-check_items-clause-first : goal.returns-in_err-check_items-clause-first
returns-in_err-check_items-clause-first c =
    let e = c.in_err-check_items.field-0.0 in
    let refuses = subst (λ (items : List ItemInMemory). Refuses e (items_fault (map item_tree items))) c.items.ensures.same c.in_err-check_items.ensures in
    let p = err_from_is_err_and c.from_residual.result c.from_residual.ensures.1 in
    rw (p.1, p.2) (fault-first (map item_tree c.args.typed) e refuses)

pub returns-in_err-check_items-clause-broken : goal.returns-in_err-check_items-clause-broken
returns-in_err-check_items-clause-broken c =
    let e = c.in_err-check_items.field-0.0 in
    let refuses = subst (λ (items : List ItemInMemory). Refuses e (items_fault (map item_tree items))) c.items.ensures.same c.in_err-check_items.ensures in
    let p = err_from_is_err_and c.from_residual.result c.from_residual.ensures.1 in
    rw (p.1, p.2) (fault-broken (map item_tree c.args.typed) e refuses)
