-- What a collection may keep.
use Rattle.std.proofs.Common.{◌≡◌, ℕ, suc, ◌<◌, Bool, true, false, List, [], ◌∷◌, Option, Some, None, refl, sym, ap, ◌∙◌, subst, inl, inr, ◌⊎◌, Contains}
use Rattle.std.specs.Prelude.{slice_get, IsSome}
use Rattle.std.specs.Option.{option_map, option_map_or}
use Rattle.std.proofs.lemmas.Bool.{both_ways, false≢true}
use Rattle.heap.specs.declared.value.Value.{Value}
use Rattle.heap.specs.declared.value.Value.TheVariants.{Number, Null, Block as Address}
use Rattle.heap.specs.Heap.{Block, Space, IsAddress, block_at, name_at, pins_at}
use Rattle.heap.specs.Marks.{is_kept}
use Rattle.heap.proofs.Names.{one_address}
use Rattle.compact.specs.Reach.{AreAddresses, IsClosed, IsKept, Refers}
use Rattle.compact.specs.Reach.IsKept.{root, pinned, referred}
use Rattle.compact.specs.Slices.{IsWhole}
use Rattle.compact.proofs.Blocks.{IsAddress-from_kept}
use Rattle.semantics.specs.Reachable.{is_in, reachable, references_of, roots, Reachable, FromRoot, FromObject}
use Rattle.semantics.specs.State.{State}
use Rattle.semantics.specs.World.{World}
use Rattle.semantics.proofs.ShownNames.{from_listed, is_reachable}
use Rattle.machine_scenes.specs.HeapAgrees.{HeapAgrees}
use Rattle.machine_collections.specs.Kept.{HoldReachable}
use Rattle.machine_collections.proofs.KeptNames.{referred_kept}
use Rattle.machine_collections.proofs.KeptReferences.{HasKept, IsClosedUnder, ValueIsKept, ValuesAreKept}

-- Just blocks are kept, and it is decided which. Those that roots name and those that are pinned are, and all that these refer to.
pub record CanBeKept (Kept : ℕ → Type 0) (space : Space) (roots : List (Option ℕ)) : Type 0 where
  pub there : (a : ℕ) → Kept a → IsAddress space a
  pub rooted : (a : ℕ) → Contains roots (Some a) → Kept a
  pub pinned : (a : ℕ) → 0 < pins_at space a → Kept a
  pub closed : (a b : ℕ) → Kept a → Refers space a b → Kept b
  pub decides : (a : ℕ) → Kept a ⊎ ¬ (Kept a)

values_kept : (Kept : ℕ → Type 0) (vs : List Value) → ((place x : ℕ) → slice_get vs place ≡ Some (Address x) → Kept x) → ValuesAreKept Kept vs
values_kept Kept [] h = tt
values_kept Kept (v ∷ vs) h = (one v (λ x e. h 0 x (ap (λ (w : Value). Some w) e)), values_kept Kept vs (λ place x e. h (suc place) x e))
  where
    one : (v : Value) → ((x : ℕ) → v ≡ Address x → Kept x) → ValueIsKept Kept v
    one (Number n) h = tt
    one Null h = tt
    one (Address x) h = h x refl

module _ (Kept : ℕ → Type 0) (space : Space) (places : List (Option ℕ)) (can : CanBeKept Kept space places) where
  pub closed_under : IsClosedUnder Kept space
  closed_under = record {
    there = can.there;
    values = λ a b k at. values_kept Kept b.values (λ place x e. can.closed a x k (record {
      place = place;
      value = ap (λ (o : Option Block). slice_get (option_map_or (λ (y : Block). y.values) o []) place) at ∙ e;
    }));
  }

  -- what a whole collection keeps is
  pub least_kept : (a : ℕ) → IsKept space places a → Kept a
  least_kept a (root c) = can.rooted a c
  least_kept a (pinned c) = can.pinned a c
  least_kept b (referred {a = a} k r) = can.closed a b (least_kept a k) r

  -- where the objects of roots are, none is lost that can be reached
  pub hold_reachable : (w : World) (s : State) → HeapAgrees space s.shared.heap → ((n : ℕ) → Contains (roots w s) n → HasKept Kept space n) → HoldReachable w s (HasKept Kept space)
  hold_reachable w s agrees held = record { reachable = reached; closed = closed }
    where
      closed : (n m : ℕ) → HasKept Kept space n → Contains (references_of s.shared.heap n) m → HasKept Kept space m
      closed n m k c = referred_kept w s space agrees places Kept can.closed n m k c

      reached : (n : ℕ) → Reachable w s n → HasKept Kept space n
      reached n (FromRoot m name c) = held m c
      reached n (FromObject m q r name c) = closed m q (reached m r) c

-- what a marking keeps at its end can be
pub whole_can : (space : Space) (places : List (Option ℕ)) (kept : List Bool) → IsWhole space places kept → CanBeKept (λ a. is_kept kept a ≡ true) space places
whole_can space places kept h = record { there = h.blocks; rooted = h.rooted; pinned = h.pinned; closed = h.closed; decides = λ a. by_mark a (is_kept kept a) refl }
  where
    by_mark : (a : ℕ) (b : Bool) → is_kept kept a ≡ b → (is_kept kept a ≡ true) ⊎ ¬ (is_kept kept a ≡ true)
    by_mark a true e = inl e
    by_mark a false e = inr (λ k. both_ways (is_kept kept a) e k)

-- and what can be reached
module _ (w : World) (s : State) (space : Space) (agrees : HeapAgrees space s.shared.heap) (places : List (Option ℕ)) (is_closed : IsClosed space) (are : AreAddresses space places)
    (kept_reached : (a : ℕ) → IsKept space places a → (n : ℕ) × (name_at space a ≡ Some n) × Reachable w s n) (reached_kept : (n : ℕ) → Reachable w s n → HasKept (IsKept space places) space n) where
  there : (a : ℕ) → IsKept space places a → IsAddress space a
  there a k = IsAddress-from_kept space places is_closed are a k

  decides : (a : ℕ) → IsKept space places a ⊎ ¬ (IsKept space places a)
  decides a = by_block (block_at space a) refl
    where
      by_reach : (n : ℕ) → name_at space a ≡ Some n → (b : Bool) → is_in (reachable w s) n ≡ b → IsKept space places a ⊎ ¬ (IsKept space places a)
      by_reach n name true e = let r = reached_kept n (from_listed w s n e) in inl (subst (λ (x : ℕ). IsKept space places x) (one_address space r.0 a n agrees.unique r.1 name) r.2)
      by_reach n name false e =
          inr (λ k.
          let r = kept_reached a k in
          let same : r.0 ≡ n = let both : Some r.0 ≡ Some n = sym r.1 ∙ name in cc in
          both_ways (is_in (reachable w s) n) e (is_reachable w s n (subst (λ (m : ℕ). Reachable w s m) same r.2)))

      by_block : (o : Option Block) → block_at space a ≡ o → IsKept space places a ⊎ ¬ (IsKept space places a)
      by_block None at = inr (λ k. false≢true (subst (λ (o : Option Block). IsSome o) at (there a k)))
      by_block (Some b) at = by_reach b.birth (ap (option_map (λ (x : Block). x.birth)) at) (is_in (reachable w s) b.birth) refl

  pub reached_can : CanBeKept (IsKept space places) space places
  reached_can = record { there = there; rooted = λ a c. root c; pinned = λ a c. pinned c; closed = λ a b k r. referred k r; decides = decides }
