use Rattle.std.proofs.Common.{◌≡◌, ℕ, zero, suc, List, Option, Some, None, replicate, refl, sym, ap, ◌∙◌, arith, length, ◌≤◌}
use Rattle.std.specs.Prelude.{slice_get}
use Rattle.std.proofs.lemmas.List.{length-set}
use Rattle.machine.proofs.BlockObjects.{placed_none, placed_next, table_filled, table_seen, table_there, address_there}
use Rattle.machine_scenes.proofs.BlocksOfNames.{name_within}
use Rattle.machine.proofs.rows.named_blocks.Goals as goal

-- what is as none is none
only_none : (P : Option ℕ → Type 0) → ((x : ℕ) → P (Some x) → ⊥) → (y : Option ℕ) → P y → y ≡ None
only_none P other None h = refl
only_none P other (Some x) h = absurd (other x h)

-- a table of none
none_of : (xs : List (Option ℕ)) (n : ℕ) → xs ≡ replicate n None → (i : ℕ) (o : Option ℕ) → slice_get xs i ≡ Some o → o ≡ None
none_of xs n is i o at = in_nulls n i o (ap (λ (l : List (Option ℕ)). slice_get l i) (sym is) ∙ at)
  where
    in_nulls : (n i : ℕ) (o : Option ℕ) → slice_get (replicate n None) i ≡ Some o → o ≡ None
    in_nulls zero i o e = absurd (cc)
    in_nulls (suc n) zero o e = cc
    in_nulls (suc n) (suc i) o e = in_nulls n i o e

pub loop-place-init : goal.loop-place-init
loop-place-init c = record {
  counted = omega (arith, c.in_ok-addresses.ensures.len, c.in_ok-addresses.addresses.ok);
  placed = placed_none c.args.heap.now c.in_ok-addresses.addresses.items (none_of c.in_ok-addresses.addresses.items c.args.births (c.in_ok-addresses.ensures.items_if_clones_equal (only_none _ (λ x h. h))));
}

pub birth_of-requires : goal.birth_of-requires
birth_of-requires c = address_there c.args.heap.now c.requires.0 c.loop-place.place c.address-addr.result c.requires.1 c.address-addr.ensures.address c.address-addr.ensures.block

pub overflow_sub-birth_of : goal.overflow_sub-birth_of
overflow_sub-birth_of c =
    let within = name_within c.args.heap.now c.requires.0 c.address-addr.result c.birth_of.result c.requires.1 c.birth_of.ensures in
    omega (arith, within.0)

pub index_mut-requires : goal.index_mut-requires
index_mut-requires c =
    let within = name_within c.args.heap.now c.requires.0 c.address-addr.result c.birth_of.result c.requires.1 c.birth_of.ensures in
    omega (arith, within.0, within.1, c.requires.2, c.loop-place.invariant.counted, c.loop-place.addresses.ok)

pub loop-place-preserved : goal.loop-place-preserved
loop-place-preserved c = record {
  counted = length-set c.loop-place.addresses.items _ _ ∙ c.loop-place.invariant.counted;
  placed = placed_next c.args.heap.now c.requires.0 c.loop-place.addresses.items c.loop-place.place c.address-addr.result c.birth_of.result c.requires.1 (c.loop-place.invariant.counted ∙ c.requires.2) c.address-addr.ensures.address c.birth_of.ensures c.loop-place.invariant.placed;
}

pub invariant_of-result : goal.invariant_of-result
invariant_of-result c =
    let past : length (c.args.heap.now).blocks ≤ c.loop-place.place = omega (arith, c.loop-place-test.false, c.count-place-end.ensures.count) in
    table_there c.args.heap.now c.requires.0 c.loop-place.addresses.items c.requires.1 (table_filled c.args.heap.now c.loop-place.addresses.items c.loop-place.place c.loop-place.invariant.placed past)

pub returns : goal.returns
returns c objects agrees count =
    let past : length (c.args.heap.now).blocks ≤ c.loop-place.place = omega (arith, c.loop-place-test.false, c.count-place-end.ensures.count) in
    table_seen c.args.heap.now objects c.loop-place.addresses.items agrees (c.loop-place.invariant.counted ∙ count) (table_filled c.args.heap.now c.loop-place.addresses.items c.loop-place.place c.loop-place.invariant.placed past)
