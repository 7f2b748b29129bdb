-- The table of weak references, once one more is made or one ends.
use Rattle.std.proofs.Common.{◌≡◌, ℕ, zero, suc, List, [], ◌∷◌, Option, Some, None, refl, sym, ap, ◌∙◌, subst, ⊎_elim, false, true}
use Rattle.std.specs.Prelude.{slice_get, slice_set, IsSome, ◌==◌}
use Rattle.std.proofs.lemmas.Bool.Decides.{eqb_tells}
use Rattle.heap.specs.Heap.{Space, name_at}
use Rattle.semantics.specs.declared.static_reference.StaticReference.TheVariants as static
use Rattle.tables.specs.Keys.{Gains, value_at, without_key}
use Rattle.machine_scenes.specs.Statics.{HaveKeys, HaveWeakKeys, StaticReference, all_held, held, held_weakly}
use Rattle.machine_scenes.specs.declared.references.Held.{Held}
use Rattle.machine_scenes.specs.declared.references.Held.TheVariants as memory
use Rattle.machine_scenes.specs.StoreAgrees.{AreWeaklyThere}

no_value : (o : Option (Option ℕ)) → o ≡ None → IsSome o → ⊥
no_value None e h = cc
no_value (Some b) e h = cc

-- A weak reference was made.
module _ (globals : List (Option ℕ)) (weaks weaks' : List (Option (Option ℕ))) (key a : ℕ) (put : Gains weaks key (Some a) weaks') where
  value_kept : (k : ℕ) → IsSome (value_at weaks k) → value_at weaks' k ≡ value_at weaks k
  value_kept k some = put.others k (λ e. no_value (value_at weaks k) (ap (value_at weaks) e ∙ put.was_free) some)

  module _ (statics : List StaticReference) (keys : HaveWeakKeys weaks statics) where
    -- no static holds it
    pub weak_key_fresh : (i : ℕ) → slice_get statics i ≡ Some (static.Weakly key) → ⊥
    weak_key_fresh i at = no_value (value_at weaks key) put.was_free (keys.live i key at)

    -- the statics keep their keys
    pub weak_keys_kept : HaveWeakKeys weaks' statics
    weak_keys_kept = record { live = λ i k at. subst (λ (o : Option (Option ℕ)). IsSome o) (sym (value_kept k (keys.live i k at))) (keys.live i k at); own = keys.own }

    -- and hold what they did
    pub weak_helds_kept : all_held globals weaks' statics ≡ all_held globals weaks statics
    weak_helds_kept = all_kept statics (λ i k at. value_kept k (keys.live i k at))
      where
        one_kept : (s : StaticReference) → ((k : ℕ) → s ≡ static.Weakly k → value_at weaks' k ≡ value_at weaks k) → held globals weaks' s ≡ held globals weaks s
        one_kept static.Empty h = refl
        one_kept (static.Live k) h = refl
        one_kept (static.Weakly k) h = ap held_weakly (h k refl)
        one_kept static.Cleared h = refl
        one_kept static.Deleted h = refl

        all_kept : (l : List StaticReference) → ((i k : ℕ) → slice_get l i ≡ Some (static.Weakly k) → value_at weaks' k ≡ value_at weaks k) → all_held globals weaks' l ≡ all_held globals weaks l
        all_kept [] h = refl
        all_kept (s ∷ l) h =
            let one = one_kept s (λ k e. h 0 k (ap (λ (t : StaticReference). Some t) e)) in
            let further = all_kept l (λ i k at. h (suc i) k at) in
            λ i. one i ∷ further i

  -- its object is there, so those of all are
  pub weaks_made : (space : Space) (m : ℕ) → name_at space a ≡ Some m → AreWeaklyThere space weaks → AreWeaklyThere space weaks'
  weaks_made space m named h k b at =
      ⊎_elim
      (λ (t : ((k == key) ≡ true) × (k ≡ key)).
      let here : ◌≡◌ {A = Option (Option ℕ)} (Some (Some b)) (Some (Some a)) = sym at ∙ ap (value_at weaks') t.1 ∙ put.has in
      let same : b ≡ a = cc in
      (m, ap (name_at space) same ∙ named))
      (λ (t : ((k == key) ≡ false) × (k ≡ key → ⊥)). h k b (sym (put.others k t.1) ∙ at))
      (eqb_tells k key)

-- ---- a static is marked as deleted

deleted_live : (l : List StaticReference) (n j k : ℕ) → slice_get (slice_set l n static.Deleted) j ≡ Some (static.Live k) → slice_get l j ≡ Some (static.Live k)
deleted_live [] n j k there = absurd (cc)
deleted_live (s ∷ l) zero zero k there = absurd (cc)
deleted_live (s ∷ l) zero (suc j) k there = there
deleted_live (s ∷ l) (suc n) zero k there = there
deleted_live (s ∷ l) (suc n) (suc j) k there = deleted_live l n j k there

deleted_weak : (l : List StaticReference) (n j k : ℕ) → slice_get (slice_set l n static.Deleted) j ≡ Some (static.Weakly k) → (slice_get l j ≡ Some (static.Weakly k)) × (j ≡ n → ⊥)
deleted_weak [] n j k there = absurd (cc)
deleted_weak (s ∷ l) zero zero k there = absurd (cc)
deleted_weak (s ∷ l) zero (suc j) k there = (there, λ e. cc)
deleted_weak (s ∷ l) (suc n) zero k there = (there, λ e. cc)
deleted_weak (s ∷ l) (suc n) (suc j) k there = let further = deleted_weak l n j k there in (further.0, λ e. further.1 (let same : j ≡ n = cc in same))

-- the keys of global references stay the statics' own
pub live_keys_marked : (globals : List (Option ℕ)) (statics : List StaticReference) (i : ℕ) → HaveKeys globals statics → HaveKeys globals (slice_set statics i static.Deleted)
live_keys_marked globals statics i keys = record {
  live = λ j k there. keys.live j k (deleted_live statics i j k there);
  own = λ j m k there also. keys.own j m k (deleted_live statics i j k there) (deleted_live statics i m k also);
}

-- and so do those of weak ones
pub weak_keys_stay : (weaks : List (Option (Option ℕ))) (statics : List StaticReference) (i : ℕ) → HaveWeakKeys weaks statics → HaveWeakKeys weaks (slice_set statics i static.Deleted)
weak_keys_stay weaks statics i keys = record {
  live = λ j k there. keys.live j k (deleted_weak statics i j k there).0;
  own = λ j m k there also. keys.own j m k (deleted_weak statics i j k there).0 (deleted_weak statics i m k also).0;
}

-- A weak reference ended.
module _ (globals : List (Option ℕ)) (weaks : List (Option (Option ℕ))) (key : ℕ) where
  value_elsewhere : (slots : List (Option (Option ℕ))) (place k : ℕ) → (k ≡ place → ⊥) → value_at (slice_set slots place None) k ≡ value_at slots k
  value_elsewhere [] place k other = refl
  value_elsewhere (x ∷ slots) zero zero other = absurd (other refl)
  value_elsewhere (x ∷ slots) zero (suc k) other = refl
  value_elsewhere (x ∷ slots) (suc place) zero other = refl
  value_elsewhere (x ∷ slots) (suc place) (suc k) other = value_elsewhere slots place k (λ e. other (ap suc e))

  weak_elsewhere : (s : StaticReference) → ((k : ℕ) → s ≡ static.Weakly k → k ≡ key → ⊥) → held globals (without_key weaks key) s ≡ held globals weaks s
  weak_elsewhere static.Empty h = refl
  weak_elsewhere (static.Live k) h = refl
  weak_elsewhere (static.Weakly k) h = ap held_weakly (value_elsewhere weaks key k (h k refl))
  weak_elsewhere static.Cleared h = refl
  weak_elsewhere static.Deleted h = refl

  weaks_elsewhere : (l : List StaticReference) → ((i k : ℕ) → slice_get l i ≡ Some (static.Weakly k) → k ≡ key → ⊥) → all_held globals (without_key weaks key) l ≡ all_held globals weaks l
  weaks_elsewhere [] h = refl
  weaks_elsewhere (s ∷ l) h =
      let one = weak_elsewhere s (λ k e. h 0 k (ap (λ (t : StaticReference). Some t) e)) in
      let further = weaks_elsewhere l (λ i k at. h (suc i) k at) in
      λ i. one i ∷ further i

  weak_marked : (l : List StaticReference) (i : ℕ) → ((j k : ℕ) → slice_get l j ≡ Some (static.Weakly k) → k ≡ key → j ≡ i) → all_held globals (without_key weaks key) (slice_set l i static.Deleted) ≡ slice_set (all_held globals weaks l) i memory.Deleted
  weak_marked [] i h = refl
  weak_marked (s ∷ l) zero h = ap (λ (helds : List Held). memory.Deleted ∷ helds) (weaks_elsewhere l (λ j k at e. let clash : suc j ≡ 0 = h (suc j) k at e in cc))
  weak_marked (s ∷ l) (suc i) h =
      let one = weak_elsewhere s (λ k e same. let clash : 0 ≡ suc i = h 0 k (ap (λ (t : StaticReference). Some t) e) same in cc) in
      let further = weak_marked l i (λ j k at e. let same : suc j ≡ suc i = h (suc j) k at e in cc) in
      λ n. one n ∷ further n

  -- those that are left have the objects that they had
  pub weaks_less : (space : Space) → AreWeaklyThere space weaks → AreWeaklyThere space (without_key weaks key)
  weaks_less space h k a at = h k a (by_slot weaks key k at)
    where
      by_slot : (slots : List (Option (Option ℕ))) (place j : ℕ) → value_at (slice_set slots place None) j ≡ Some (Some a) → value_at slots j ≡ Some (Some a)
      by_slot [] place j e = e
      by_slot (x ∷ slots) zero zero e = absurd (cc)
      by_slot (x ∷ slots) zero (suc j) e = e
      by_slot (x ∷ slots) (suc place) zero e = e
      by_slot (x ∷ slots) (suc place) (suc j) e = by_slot slots place j e

  module _ (statics : List StaticReference) (i : ℕ) (at : slice_get statics i ≡ Some (static.Weakly key)) (keys : HaveWeakKeys weaks statics) where
    -- what the statics hold then, of which this one is marked
    pub weak_helds_marked : all_held globals (without_key weaks key) (slice_set statics i static.Deleted) ≡ slice_set (all_held globals weaks statics) i memory.Deleted
    weak_helds_marked = weak_marked statics i (λ j k there same. keys.own j i key (there ∙ ap (λ (n : ℕ). Some (static.Weakly n)) same) at)

    -- the others keep their keys
    pub weak_keys_marked : HaveWeakKeys (without_key weaks key) (slice_set statics i static.Deleted)
    weak_keys_marked = record {
      live = λ j k there.
          let was = deleted_weak statics i j k there in
          subst (λ (o : Option (Option ℕ)). IsSome o) (sym (value_elsewhere weaks key k (λ e. was.1 (keys.own j i key (was.0 ∙ ap (λ (n : ℕ). Some (static.Weakly n)) e) at)))) (keys.live j k was.0);
      own = λ j m k there also. keys.own j m k (deleted_weak statics i j k there).0 (deleted_weak statics i m k also).0;
    }
