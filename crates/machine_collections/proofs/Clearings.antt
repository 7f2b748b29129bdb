-- A collection clears the weak references to what it doesn't keep, and to nothing else; a whole one those to what is lost.
use Rattle.std.proofs.Common.{◌≡◌, ℕ, zero, suc, Bool, true, false, List, [], ◌∷◌, length, Option, Some, None, refl, sym, ap, ◌∙◌, subst, arith, inl, inr, ◌⊎◌, ⊎_elim}
use Rattle.std.specs.Prelude.{slice_get, not, if◌then◌else◌, Contains}
use Rattle.std.specs.Option.{option_map}
use Rattle.std.proofs.lemmas.Bool.{both_ways, false≢true, false_from_ne_true}
use Rattle.base.specs.Bytes.{Identifier}
use Rattle.heap.specs.Heap.{AreNamesUnique, Space, name_at}
use Rattle.heap.proofs.Names.{one_address}
use Rattle.semantics.specs.declared.static_reference.StaticReference.TheVariants as static
use Rattle.semantics.specs.Reachable.{Reachable, from_one, is_in, reachable, rising}
use Rattle.semantics.specs.State.{State}
use Rattle.semantics.specs.Variable as source
use Rattle.semantics.specs.Variable.{Empty, Live, Weakly, Cleared, Deleted, Statics}
use Rattle.semantics.specs.WeakReferences.{cleared, cleared_statics, lost, weakly_held}
use Rattle.semantics.specs.World.{World}
use Rattle.semantics.proofs.ReachableLemmas.{In, contains_in, in_cases, in_head, in_tail, to_contains}
use Rattle.semantics.proofs.ShownNames.{from_listed, is_reachable}
use Rattle.semantics.proofs.ShownRows.{from_one-contains}
use Rattle.compact.specs.Same.{MovesBy}
use Rattle.tables.specs.Keys.{value_at}
use Rattle.tables.specs.References.{address_at}
use Rattle.machine_scenes.specs.declared.references.Held.TheVariants as held
use Rattle.machine_scenes.specs.HeapAgrees.{HeapAgrees}
use Rattle.machine_scenes.specs.Statics.{StaticReference, all_held, held_at, held_weakly}
use Rattle.machine_scenes.specs.Statics as memory
use Rattle.machine_scenes.specs.StoreAgrees.{HeldAgrees, StaticsAgree}
use Rattle.machine_scenes.proofs.BlocksOfNames.{name_within}
use Rattle.machine_collections.specs.Clearing.{AreCleared, WasCleared}
use Rattle.machine_collections.specs.Kept.{AreNotKept}
use Rattle.machine_collections.specs.Moving.{AreFollowed, moved_slots}
use Rattle.machine_collections.proofs.Collections.{address_moved, name_moved}
use Rattle.machine_collections.proofs.KeptReferences.{AllHeldAreKept, HasKept, HeldIsKept}
use Rattle.machine_collections.proofs.Rising.{from_one_rises, from_passed, in_passed, one_rising, rise_filter, rise_from}

-- ---- statics that hold weak references

module _ (space : Space) (globals : List (Option ℕ)) (weaks : List (Option (Option ℕ))) where
  -- where a static of the source holds an object weakly, one in memory has its address
  record HeldSo (statics : List StaticReference) (n : ℕ) : Type 0 where
    slot : ℕ
    key : ℕ
    address : ℕ
    of_static : slice_get statics slot ≡ Some (static.Weakly key)
    is : value_at weaks key ≡ Some (Some address)
    named : name_at space address ≡ Some n

  further : (x : StaticReference) (xs : List StaticReference) (n : ℕ) → HeldSo xs n → HeldSo (x ∷ xs) n
  further x xs n h = record { slot = suc h.slot; key = h.key; address = h.address; of_static = h.of_static; is = h.is; named = h.named }

  -- what a static in memory holds weakly stands for
  weak_found : (o : Option (Option ℕ)) (n : ℕ) → HeldAgrees space (held_weakly o) (Weakly n) → (a : ℕ) × (o ≡ Some (Some a)) × (name_at space a ≡ Some n)
  weak_found None n h = absurd h
  weak_found (Some None) n h = absurd h
  weak_found (Some (Some a)) n h = (a, refl, h)

  no_weak_at : (o : Option ℕ) (n : ℕ) → HeldAgrees space (held_at o) (Weakly n) → ⊥
  no_weak_at None n h = h
  no_weak_at (Some a) n h = h

  one_found : (x : StaticReference) (xs : List StaticReference) (n : ℕ) → HeldAgrees space (memory.held globals weaks x) (Weakly n) → HeldSo (x ∷ xs) n
  one_found static.Empty xs n h = absurd h
  one_found (static.Live key) xs n h = absurd (no_weak_at (address_at globals key) n h)
  one_found (static.Weakly key) xs n h = let f = weak_found (value_at weaks key) n h in record { slot = 0; key = key; address = f.0; of_static = refl; is = f.1; named = f.2 }
  one_found static.Cleared xs n h = absurd h
  one_found static.Deleted xs n h = absurd h

  all_found : (xs : List StaticReference) (statics : Statics) (n : ℕ) → StaticsAgree space (all_held globals weaks xs) statics → In (weakly_held statics) n → HeldSo xs n
  all_found [] [] n h k = absurd (false≢true k)
  all_found [] (s ∷ statics) n h k = absurd h
  all_found (x ∷ xs) [] n h k = absurd h
  all_found (x ∷ xs) ((y, Empty) ∷ statics) n h k = further x xs n (all_found xs statics n h.1 k)
  all_found (x ∷ xs) ((y, Live m) ∷ statics) n h k = further x xs n (all_found xs statics n h.1 k)
  all_found (x ∷ xs) ((y, Cleared) ∷ statics) n h k = further x xs n (all_found xs statics n h.1 k)
  all_found (x ∷ xs) ((y, Deleted) ∷ statics) n h k = further x xs n (all_found xs statics n h.1 k)
  all_found (x ∷ xs) ((y, Weakly m) ∷ statics) n h k =
      ⊎_elim
      (λ (e : m ≡ n). one_found x xs n (subst (λ (j : ℕ). HeldAgrees space (memory.held globals weaks x) (Weakly j)) e h.0))
      (λ (l : In (weakly_held statics) n). further x xs n (all_found xs statics n h.1 l))
      (in_cases m (weakly_held statics) n k)

  -- and the other way round
  weak_named : (o : Option (Option ℕ)) (a n : ℕ) (r : source.StaticReference) → o ≡ Some (Some a) → name_at space a ≡ Some n → HeldAgrees space (held_weakly o) r → r ≡ Weakly n
  weak_named None a n r is named h = absurd (cc)
  weak_named (Some None) a n r is named h = absurd (cc)
  weak_named (Some (Some b)) a n Empty is named h = absurd h
  weak_named (Some (Some b)) a n (Live m) is named h = absurd h
  weak_named (Some (Some b)) a n Cleared is named h = absurd h
  weak_named (Some (Some b)) a n Deleted is named h = absurd h
  weak_named (Some (Some b)) a n (Weakly m) is named h =
      let address : b ≡ a = cc in
      let both : Some m ≡ Some n = sym h ∙ ap (name_at space) address ∙ named in
      let same : m ≡ n = cc in
      ap (λ (j : ℕ). Weakly j) same

  held_here : (r : source.StaticReference) (y : Identifier) (statics : Statics) (n : ℕ) → r ≡ Weakly n → In (weakly_held ((y, r) ∷ statics)) n
  held_here r y statics n e = subst (λ (q : source.StaticReference). In (weakly_held ((y, q) ∷ statics)) n) (sym e) (in_head n (weakly_held statics))

  held_later : (r : source.StaticReference) (y : Identifier) (statics : Statics) (n : ℕ) → In (weakly_held statics) n → In (weakly_held ((y, r) ∷ statics)) n
  held_later Empty y statics n k = k
  held_later (Live m) y statics n k = k
  held_later (Weakly m) y statics n k = in_tail m (weakly_held statics) n k
  held_later Cleared y statics n k = k
  held_later Deleted y statics n k = k

  held_weakly_by : (xs : List StaticReference) (statics : Statics) (slot key a n : ℕ) → StaticsAgree space (all_held globals weaks xs) statics
      → slice_get xs slot ≡ Some (static.Weakly key) → value_at weaks key ≡ Some (Some a) → name_at space a ≡ Some n → In (weakly_held statics) n
  held_weakly_by [] statics slot key a n h at is named = absurd (cc)
  held_weakly_by (x ∷ xs) [] slot key a n h at is named = absurd h
  held_weakly_by (x ∷ xs) ((y, r) ∷ statics) zero key a n h at is named =
      let same : x ≡ static.Weakly key = cc in
      held_here r y statics n (weak_named (value_at weaks key) a n r is named (subst (λ (z : StaticReference). HeldAgrees space (memory.held globals weaks z) r) same h.0))
  held_weakly_by (x ∷ xs) ((y, r) ∷ statics) (suc slot) key a n h at is named = held_later r y statics n (held_weakly_by xs statics slot key a n h.1 at is named)

-- ---- what was cleared

module _ (space t : Space) (unique : AreNamesUnique space) (Kept : ℕ → Type 0) (to : ℕ → ℕ) (globals : List (Option ℕ)) (weaks after : List (Option (Option ℕ))) (f : AreFollowed Kept to weaks after) (xs : List StaticReference) (statics : Statics)
    (stands : StaticsAgree space (all_held globals weaks xs) statics) (names : List ℕ) (c : AreCleared space xs weaks after names) where
  was_held : (n : ℕ) → WasCleared space xs weaks after n → In (weakly_held statics) n
  was_held n h = held_weakly_by space globals weaks xs statics h.slot h.key h.address n stands h.of_static h.held h.named

  -- what was cleared has no block that is kept
  cleared_gone : (n : ℕ) → WasCleared space xs weaks after n → ¬ (HasKept Kept space n)
  cleared_gone n h k =
      let same : k.0 ≡ h.address = one_address space k.0 h.address n unique k.1 h.named in
      let stays : value_at after h.key ≡ Some (Some (to h.address)) = f.kept h.key h.address h.held (subst Kept same k.2) in
      let both : ◌≡◌ {A = Option (Option ℕ)} (Some (Some (to h.address))) (Some None) = sym stays ∙ h.gone in
      cc

  -- and what is held weakly and has none was cleared
  gone_cleared : (n : ℕ) → In (weakly_held statics) n → ¬ (HasKept Kept space n) → In names n
  gone_cleared n k out =
      let h = all_found space globals weaks xs statics n stands k in
      contains_in names n (c.complete n (record {
        slot = h.slot;
        key = h.key;
        address = h.address;
        of_static = h.of_static;
        held = h.is;
        named = h.named;
        gone = f.gone h.key h.address h.is (λ kept. out (h.address, h.named, kept));
      }))

  pub cleared_are : (s : State) → s.shared.statics ≡ statics → AreNotKept s (HasKept Kept space) names
  cleared_are s same = record {
    rising = c.rising;
    held = λ n k. subst (λ (l : Statics). Contains (weakly_held l) n) (sym same) (to_contains (weakly_held statics) n (was_held n (c.sound n k)));
    gone = λ n k. cleared_gone n (c.sound n k);
    all = λ n k out. to_contains names n (gone_cleared n (contains_in (weakly_held statics) n (subst (λ (l : Statics). Contains (weakly_held l) n) same k)) out);
  }

  -- where just what can be reached is kept, that is what is lost
  module _ (w : World) (s : State) (same_statics : s.shared.statics ≡ statics) (agrees : HeapAgrees space s.shared.heap) (kept_reached : (a : ℕ) → Kept a → (n : ℕ) × (name_at space a ≡ Some n) × Reachable w s n)
      (reached_kept : (n : ℕ) → Reachable w s n → HasKept Kept space n) where
    cleared_unlisted : (n : ℕ) → WasCleared space xs weaks after n → is_in (reachable w s) n ≡ false
    cleared_unlisted n h = false_from_ne_true (is_in (reachable w s) n) (λ e. cleared_gone n h (reached_kept n (from_listed w s n e)))

    unlisted_cleared : (n : ℕ) → In (weakly_held statics) n → is_in (reachable w s) n ≡ false → In names n
    unlisted_cleared n k out =
        gone_cleared n k (λ kept.
        let r = kept_reached kept.0 kept.2 in
        let same : r.0 ≡ n = let both : Some r.0 ≡ Some n = sym r.1 ∙ kept.1 in cc in
        both_ways (is_in (reachable w s) n) out (is_reachable w s n (subst (λ (j : ℕ). Reachable w s j) same r.2)))

    pub lost_is : names ≡ lost w s
    lost_is =
        one_rising 0 0 names (lost w s)
        (rise_from 0 names c.rising (λ n k.
        let h = c.sound n (to_contains names n k) in
        let low = name_within space s.shared.heap h.address n agrees h.named in
        omega (arith, low.0)))
        (rise_filter (λ n. not (is_in (reachable w s) n)) 0 (rising s.shared.heap (weakly_held s.shared.statics)) (rise_filter (is_in (weakly_held s.shared.statics)) 0 (from_one (length s.shared.heap)) (from_one_rises (length s.shared.heap))))
        (λ n k.
        let h = c.sound n (to_contains names n k) in
        let low = name_within space s.shared.heap h.address n agrees h.named in
        in_passed (λ j. not (is_in (reachable w s) j)) (rising s.shared.heap (weakly_held s.shared.statics)) n (ap not (cleared_unlisted n h))
        (in_passed (is_in (weakly_held s.shared.statics)) (from_one (length s.shared.heap)) n (subst (λ (l : Statics). In (weakly_held l) n) (sym same_statics) (was_held n h))
        (contains_in (from_one (length s.shared.heap)) n (from_one-contains (length s.shared.heap) n low.0 low.1))))
        (λ n k.
        let passed = from_passed (λ j. not (is_in (reachable w s) j)) (rising s.shared.heap (weakly_held s.shared.statics)) n k in
        let held = from_passed (is_in (weakly_held s.shared.statics)) (from_one (length s.shared.heap)) n passed.1 in
        unlisted_cleared n (subst (λ (l : Statics). In (weakly_held l) n) same_statics held.0) (not_true (is_in (reachable w s) n) passed.0))
      where
        not_true : (b : Bool) → not b ≡ true → b ≡ false
        not_true true e = absurd (false≢true e)
        not_true false e = refl

  -- ---- what the statics hold then

  module _ (m : MovesBy Kept to space t) (decides : (a : ℕ) → Kept a ⊎ ¬ (Kept a)) where
    -- a static's object is held weakly
    abbrev Tells : source.StaticReference → Type 0
    Tells r = (n : ℕ) → r ≡ Weakly n → In (weakly_held statics) n

    weak_cleared : (o o' : Option (Option ℕ)) (r : source.StaticReference) → (o ≡ None → o' ≡ None) → (o ≡ Some None → o' ≡ Some None) → ((a : ℕ) → o ≡ Some (Some a) → Kept a → o' ≡ Some (Some (to a)))
        → ((a : ℕ) → o ≡ Some (Some a) → ¬ (Kept a) → o' ≡ Some None) → Tells r → HeldAgrees space (held_weakly o) r → HeldAgrees t (held_weakly o') (cleared names r)
    weak_cleared None o' Empty free was kept gone tells h = subst (λ (q : Option (Option ℕ)). HeldAgrees t (held_weakly q) Empty) (sym (free refl)) tt
    weak_cleared None o' (Live n) free was kept gone tells h = absurd h
    weak_cleared None o' (Weakly n) free was kept gone tells h = absurd h
    weak_cleared None o' Cleared free was kept gone tells h = absurd h
    weak_cleared None o' Deleted free was kept gone tells h = absurd h
    weak_cleared (Some None) o' Empty free was kept gone tells h = absurd h
    weak_cleared (Some None) o' (Live n) free was kept gone tells h = absurd h
    weak_cleared (Some None) o' (Weakly n) free was kept gone tells h = absurd h
    weak_cleared (Some None) o' Cleared free was kept gone tells h = subst (λ (q : Option (Option ℕ)). HeldAgrees t (held_weakly q) Cleared) (sym (was refl)) tt
    weak_cleared (Some None) o' Deleted free was kept gone tells h = absurd h
    weak_cleared (Some (Some a)) o' Empty free was kept gone tells h = absurd h
    weak_cleared (Some (Some a)) o' (Live n) free was kept gone tells h = absurd h
    weak_cleared (Some (Some a)) o' Cleared free was kept gone tells h = absurd h
    weak_cleared (Some (Some a)) o' Deleted free was kept gone tells h = absurd h
    weak_cleared (Some (Some a)) o' (Weakly n) free was kept gone tells h = by_kept (decides a)
      where
        by_kept : Kept a ⊎ ¬ (Kept a) → HeldAgrees t (held_weakly o') (if is_in names n then Cleared else Weakly n)
        by_kept (inl k) =
            let still : is_in names n ≡ false = false_from_ne_true (is_in names n) (λ e. cleared_gone n (c.sound n (to_contains names n e)) (a, h, k)) in
            subst (λ (q : Option (Option ℕ)). HeldAgrees t (held_weakly q) (if is_in names n then Cleared else Weakly n)) (sym (kept a refl k))
            (subst (λ (b : Bool). HeldAgrees t (held.Weakly (to a)) (if b then Cleared else Weakly n)) (sym still) (name_moved Kept to space t m a n k h))
        by_kept (inr out) =
            let inside : is_in names n ≡ true = gone_cleared n (tells n refl) (λ k. out (subst Kept (one_address space k.0 a n unique k.1 h) k.2)) in
            subst (λ (q : Option (Option ℕ)). HeldAgrees t (held_weakly q) (if is_in names n then Cleared else Weakly n)) (sym (gone a refl out))
            (subst (λ (b : Bool). HeldAgrees t held.Cleared (if b then Cleared else Weakly n)) (sym inside) tt)

    at_cleared : (o : Option ℕ) (r : source.StaticReference) → HeldIsKept Kept (held_at o) → HeldAgrees space (held_at o) r → HeldAgrees t (held_at (option_map to o)) (cleared names r)
    at_cleared None Empty kept h = h
    at_cleared None (Live n) kept h = absurd h
    at_cleared None (Weakly n) kept h = absurd h
    at_cleared None Cleared kept h = absurd h
    at_cleared None Deleted kept h = absurd h
    at_cleared (Some a) Empty kept h = absurd h
    at_cleared (Some a) (Live n) kept h = name_moved Kept to space t m a n kept h
    at_cleared (Some a) (Weakly n) kept h = absurd h
    at_cleared (Some a) Cleared kept h = absurd h
    at_cleared (Some a) Deleted kept h = absurd h

    empty_cleared : (r : source.StaticReference) → HeldAgrees space held.Empty r → HeldAgrees t held.Empty (cleared names r)
    empty_cleared Empty h = h
    empty_cleared (Live n) h = absurd h
    empty_cleared (Weakly n) h = absurd h
    empty_cleared Cleared h = absurd h
    empty_cleared Deleted h = absurd h

    still_cleared : (r : source.StaticReference) → HeldAgrees space held.Cleared r → HeldAgrees t held.Cleared (cleared names r)
    still_cleared Empty h = absurd h
    still_cleared (Live n) h = absurd h
    still_cleared (Weakly n) h = absurd h
    still_cleared Cleared h = h
    still_cleared Deleted h = absurd h

    still_deleted : (r : source.StaticReference) → HeldAgrees space held.Deleted r → HeldAgrees t held.Deleted (cleared names r)
    still_deleted Empty h = absurd h
    still_deleted (Live n) h = absurd h
    still_deleted (Weakly n) h = absurd h
    still_deleted Cleared h = absurd h
    still_deleted Deleted h = h

    one_cleared : (x : StaticReference) (r : source.StaticReference) → HeldIsKept Kept (memory.held globals weaks x) → Tells r → HeldAgrees space (memory.held globals weaks x) r → HeldAgrees t (memory.held (moved_slots to globals) after x) (cleared names r)
    one_cleared static.Empty r kept tells h = empty_cleared r h
    one_cleared (static.Live key) r kept tells h =
        subst (λ (o : Option ℕ). HeldAgrees t (held_at o) (cleared names r)) (sym (address_moved to globals key)) (at_cleared (address_at globals key) r kept h)
    one_cleared (static.Weakly key) r kept tells h =
        weak_cleared (value_at weaks key) (value_at after key) r (f.free key) (f.cleared key) (f.kept key) (f.gone key) tells h
    one_cleared static.Cleared r kept tells h = still_cleared r h
    one_cleared static.Deleted r kept tells h = still_deleted r h

    all_cleared : (ys : List StaticReference) (ss : Statics) → AllHeldAreKept Kept (all_held globals weaks ys) → ((n : ℕ) → In (weakly_held ss) n → In (weakly_held statics) n) → StaticsAgree space (all_held globals weaks ys) ss
        → StaticsAgree t (all_held (moved_slots to globals) after ys) (cleared_statics names ss)
    all_cleared [] [] kept within h = h
    all_cleared [] (q ∷ ss) kept within h = absurd h
    all_cleared (y ∷ ys) [] kept within h = absurd h
    all_cleared (y ∷ ys) ((x, r) ∷ ss) kept within h = (
      one_cleared y r kept.0 (λ n e. within n (held_here space globals weaks r x ss n e)) h.0,
      all_cleared ys ss kept.1 (λ n k. within n (held_later space globals weaks r x ss n k)) h.1,
    )

    -- they stand for those of the source, of which what isn't kept is cleared
    pub statics_cleared : AllHeldAreKept Kept (all_held globals weaks xs) → StaticsAgree t (all_held (moved_slots to globals) after xs) (cleared_statics names statics)
    statics_cleared kept = all_cleared xs statics kept (λ n k. k) stands
