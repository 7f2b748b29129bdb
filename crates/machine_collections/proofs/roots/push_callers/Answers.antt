use Rattle.std.proofs.Common.{ℕ, ◌+◌, ◌≤◌, ◌++◌, List, Option, length, drop, refl, sym, ap, ◌∙◌, subst, arith, append_assoc, append-nil}
use Rattle.std.specs.Prelude.{flat_map}
use Rattle.std.proofs.lemmas.List.Concat.{flat_map-cons}
use Rattle.std.proofs.lemmas.Option.{slice_get_read, slice_get_within}
use Rattle.base.proofs.Lists.{drop_next, drop_past}
use Rattle.tables.specs.Locals.{AreStacked}
use Rattle.machine_scenes.specs.declared.activation.Activation.{Activation}
use Rattle.machine_collections.specs.Roots.{call_places}
use Rattle.machine_collections.proofs.Counts.{counted_all, counted_next}
use Rattle.machine_collections.proofs.RootNames.{holds_more}
use Rattle.machine_collections.proofs.roots.push_callers.Goals as goal

pub push_locals-requires : goal.push_locals-requires
push_locals-requires c =
    let xs = c.args.callers.now in
    let i = c.loop-caller.caller-index in
    let x = c.caller-item.result in
    let next = counted_next call_places xs i x (slice_get_read xs (length xs) i x refl c.loop-caller-test.true c.caller-item.is) in
    let same = ap (λ (call : Activation). length (call_places call)) c.get.ensures in
    omega (arith, next, same, c.loop-caller.invariant.len, c.loop-caller.invariant.capacity, c.requires)

pub loop-caller-preserved : goal.loop-caller-preserved
loop-caller-preserved c =
    let xs = c.args.callers.now in
    let i = c.loop-caller.caller-index in
    let x = c.caller-item.result in
    let places = c.loop-caller.places.items in
    let at = slice_get_read xs (length xs) i x refl c.loop-caller-test.true c.caller-item.is in
    let next = counted_next call_places xs i x at in
    let further = flat_map call_places (drop (i + 1) xs) in
    record {
      places = ap (λ (l : List (Option ℕ)). l ++ further) (c.push_locals.ensures.places ∙ ap (λ (call : Activation). places ++ call_places call) c.get.ensures) ∙ append_assoc places (call_places x) further
          ∙ ap (λ (l : List (Option ℕ)). places ++ l) (sym (ap (flat_map call_places) (drop_next xs i x at) ∙ flat_map-cons call_places x (drop (i + 1) xs))) ∙ c.loop-caller.invariant.places;
      len = omega (arith, next, ap (λ (call : Activation). length (call_places call)) c.get.ensures, c.loop-caller.invariant.len, c.push_locals.ensures.len);
      capacity = c.push_locals.ensures.capacity ∙ c.loop-caller.invariant.capacity;
      stacked = holds_more (λ (call : Activation). AreStacked call.locals) xs i x at (subst (λ (call : Activation). AreStacked call.locals) c.get.ensures c.push_locals.ensures.stacked) c.loop-caller.invariant.stacked;
    }

pub returns-clause-places : goal.returns-clause-places
returns-clause-places c =
    let places = c.loop-caller.places.items in
    sym (ap (λ (l : List (Option ℕ)). places ++ l) (ap (flat_map call_places) (drop_past c.args.callers.now c.loop-caller.caller-index c.loop-caller-test.false)) ∙ append-nil places) ∙ c.loop-caller.invariant.places

pub returns-clause-len : goal.returns-clause-len
returns-clause-len c =
    let none = counted_all call_places c.args.callers.now c.loop-caller.caller-index c.loop-caller-test.false in
    omega (arith, none, c.loop-caller.invariant.len)

pub returns-clause-stacked : goal.returns-clause-stacked
returns-clause-stacked c = λ i x e.
    let less = slice_get_within c.args.callers.now i x e in
    let past : length c.args.callers.now ≤ c.loop-caller.caller-index = c.loop-caller-test.false in
    c.loop-caller.invariant.stacked i x (omega (arith, less, past)) e
