-- What a collection keeps is what can be reached.
use Rattle.std.proofs.Common.{◌≡◌, ℕ, zero, suc, ◌<◌, List, [], ◌∷◌, length, Option, Some, None, refl, sym, ap, ◌∙◌, subst, Contains, ⊎_elim}
use Rattle.std.specs.Prelude.{filter_map, slice_get}
use Rattle.std.specs.Option.{option_map_or}
use Rattle.std.proofs.lemmas.Bool.{false≢true}
use Rattle.heap.specs.declared.value.Value.{Value}
use Rattle.heap.specs.declared.value.Value.TheVariants.{Number as Word, Null, Block as Address}
use Rattle.heap.specs.Heap.{Block, Space, name_at, pins_at, values_at}
use Rattle.semantics.specs.Heap.{Heap, object_at, reference_in, values_of}
use Rattle.semantics.specs.Object.{Object, ObjectValue, Number, Refers as ToObject}
use Rattle.semantics.specs.Reachable.{references_of, roots, Reachable, FromRoot, FromObject}
use Rattle.semantics.specs.State.{State}
use Rattle.semantics.specs.World.{World}
use Rattle.semantics.proofs.ReachableLemmas.{In, contains_in, in_cases, in_head, in_tail, to_contains}
use Rattle.semantics.proofs.ShownRows.{from_one-contains}
use Rattle.machine_scenes.specs.HeapAgrees.{HeapAgrees, ValuesAgree}
use Rattle.machine_scenes.proofs.BlocksOfNames.{Named, named, name_within}
use Rattle.compact.specs.Reach.{IsKept, Refers}
use Rattle.compact.specs.Reach.IsKept.{root, pinned, referred}
use Rattle.machine_collections.proofs.KeptReferences.{HasKept}

-- an address among values that agree refers to an object of its name
pub referred_name : (space : Space) (ws : List Value) (vs : List ObjectValue) (place b : ℕ) → ValuesAgree space ws vs → slice_get ws place ≡ Some (Address b) → (n : ℕ) × (name_at space b ≡ Some n) × In (filter_map reference_in vs) n
referred_name space [] vs place b h at = absurd (cc)
referred_name space (w ∷ ws) [] place b h at = absurd h
referred_name space (Word x ∷ ws) (v ∷ vs) zero b h at = absurd (cc)
referred_name space (Null ∷ ws) (v ∷ vs) zero b h at = absurd (cc)
referred_name space (Address a ∷ ws) (Number z ∷ vs) zero b h at = absurd h.0
referred_name space (Address a ∷ ws) (ToObject None ∷ vs) zero b h at = absurd h.0
referred_name space (Address a ∷ ws) (ToObject (Some n) ∷ vs) zero b h at = let same : a ≡ b = cc in (n, ap (name_at space) (sym same) ∙ h.0, in_head n (filter_map reference_in vs))
referred_name space (w ∷ ws) (Number z ∷ vs) (suc place) b h at = referred_name space ws vs place b h.1 at
referred_name space (w ∷ ws) (ToObject None ∷ vs) (suc place) b h at = referred_name space ws vs place b h.1 at
referred_name space (w ∷ ws) (ToObject (Some m) ∷ vs) (suc place) b h at = let r = referred_name space ws vs place b h.1 at in (r.0, r.1, in_tail m (filter_map reference_in vs) r.0 r.2)

-- and the other way round
referred_address : (space : Space) (ws : List Value) (vs : List ObjectValue) (n : ℕ) → ValuesAgree space ws vs → In (filter_map reference_in vs) n → (place b : ℕ) × (slice_get ws place ≡ Some (Address b)) × (name_at space b ≡ Some n)
referred_address space [] [] n h k = absurd (false≢true k)
referred_address space [] (v ∷ vs) n h k = absurd h
referred_address space (w ∷ ws) [] n h k = absurd h
referred_address space (w ∷ ws) (Number z ∷ vs) n h k = let r = referred_address space ws vs n h.1 k in (suc r.0, r.1, r.2, r.3)
referred_address space (w ∷ ws) (ToObject None ∷ vs) n h k = let r = referred_address space ws vs n h.1 k in (suc r.0, r.1, r.2, r.3)
referred_address space (Word x ∷ ws) (ToObject (Some m) ∷ vs) n h k = absurd h.0
referred_address space (Null ∷ ws) (ToObject (Some m) ∷ vs) n h k = absurd h.0
referred_address space (Address a ∷ ws) (ToObject (Some m) ∷ vs) n h k =
    ⊎_elim
    (λ (same : m ≡ n). (0, a, refl, h.0 ∙ ap (λ (x : ℕ). Some x) same))
    (λ (l : In (filter_map reference_in vs) n). let r = referred_address space ws vs n h.1 l in (suc r.0, r.1, r.2, r.3))
    (in_cases m (filter_map reference_in vs) n k)

module _ (w : World) (s : State) (space : Space) (agrees : HeapAgrees space s.shared.heap) (places : List (Option ℕ)) where
  abbrev heap : Heap
  heap = s.shared.heap

  values_there : (a n : ℕ) (b : Named space heap a n) → (values_at space a ≡ b.block.values) × (values_of heap n ≡ b.agrees.object.values)
  values_there a n b = (
    ap (λ (o : Option Block). option_map_or (λ (x : Block). x.values) o []) b.at,
    ap (λ (o : Option Object). option_map_or (λ (x : Object). x.values) o []) (ap (object_at heap) (sym b.birth) ∙ b.agrees.is),
  )

  -- Where each root of the collection names a root of the source, and so does what is pinned, what is kept can be reached.
  pub kept_reachable : ((a : ℕ) → Contains places (Some a) → (n : ℕ) × (name_at space a ≡ Some n) × Contains (roots w s) n) → ((a : ℕ) → 0 < pins_at space a → (n : ℕ) × (name_at space a ≡ Some n) × Contains (roots w s) n) → (a : ℕ) → IsKept space places a → (n : ℕ) × (name_at space a ≡ Some n) × Reachable w s n
  kept_reachable names views x (root c) =
      let r = names x c in
      let low = name_within space heap x r.0 agrees r.1 in
      (r.0, r.1, FromRoot r.0 (from_one-contains (length heap) r.0 low.0 low.1) r.2)
  kept_reachable names views x (pinned c) =
      let r = views x c in
      let low = name_within space heap x r.0 agrees r.1 in
      (r.0, r.1, FromRoot r.0 (from_one-contains (length heap) r.0 low.0 low.1) r.2)
  kept_reachable names views y (referred {a = x} k c) =
      let r = kept_reachable names views x k in
      let b = named space heap x r.0 agrees r.1 in
      let v = values_there x r.0 b in
      let t = referred_name space b.block.values b.agrees.object.values c.place y b.agrees.values (sym (ap (λ (l : List Value). slice_get l c.place) v.0) ∙ c.value) in
      let low = name_within space heap y t.0 agrees t.1 in (
        t.0,
        t.1,
        FromObject r.0 t.0 r.2 (from_one-contains (length heap) t.0 low.0 low.1) (to_contains (references_of heap r.0) t.0 (subst (λ (vs : List ObjectValue). In (filter_map reference_in vs) t.0) (sym v.1) t.2)),
      )

  -- what an object with a kept block refers to has one, where kept blocks refer to kept ones alone
  pub referred_kept : (Kept : ℕ → Type 0) → ((a b : ℕ) → Kept a → Refers space a b → Kept b) → (m n : ℕ) → HasKept Kept space m → Contains (references_of heap m) n → HasKept Kept space n
  referred_kept Kept closed m n k c =
      let b = named space heap k.0 m agrees k.1 in
      let v = values_there k.0 m b in
      let t = referred_address space b.block.values b.agrees.object.values n b.agrees.values (subst (λ (vs : List ObjectValue). In (filter_map reference_in vs) n) v.1 (contains_in (references_of heap m) n c)) in
      (t.1, t.3, closed k.0 t.1 k.2 (record { place = t.0; value = ap (λ (l : List Value). slice_get l t.0) v.0 ∙ t.2 }))

  -- Where each root of the source is kept, as what is viewed is by its pins, so is what can be reached.
  pub reachable_kept : ((n : ℕ) → Contains (roots w s) n → HasKept (IsKept space places) space n) → (n : ℕ) → Reachable w s n → HasKept (IsKept space places) space n
  reachable_kept held n (FromRoot m a c) = held m c
  reachable_kept held n (FromObject m q r a c) = referred_kept (IsKept space places) (λ x y k f. referred k f) m q (reachable_kept held m r) c
