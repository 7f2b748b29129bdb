-- Heaps stay closed: a further block, another value, a pin.
use Rattle.std.proofs.Common.{◌≡◌, ℕ, arith, Bool, true, false, cond, eqb, List, [], ◌∷◌, ◌++◌, Option, Some, None, refl, sym, ap, ◌∙◌, subst, ⊎_elim, inl, inr, ◌⊎◌}
use Rattle.std.specs.Prelude.{find, slice_get, slice_set, IsSome, Result, Ok, Err, IfOk, OnOk, OnErr}
use Rattle.std.specs.Option.{option_map, option_map_or}
use Rattle.std.proofs.lemmas.Bool.Decides.{eqb_tells}
use Rattle.std.proofs.lemmas.List.{length-set}
use Rattle.heap.specs.declared.value.Value.{Value}
use Rattle.heap.specs.declared.value.Value.TheVariants.{Block as Reference}
use Rattle.heap.specs.Heap.{Block, Space, IsAddress, block_at, fresh_block, with_block, with_changed, with_noted, with_pins, with_value}
use Rattle.heap.proofs.Changes.{LeavesPlace, changed, changed_here, changed_elsewhere}
use Rattle.heap.proofs.Spaces.{block_at-changed}
use Rattle.heap.proofs.UnderWay.{set_cases, all_same}
use Rattle.compact.specs.Reach.{IsClosed, AreAddresses}

-- ---- no root

pub none_named : (s : Space) → AreAddresses s []
none_named s a m = absurd (omega (arith, m.1))

-- ---- a block noted

pub closed_noted : (s : Space) (v : Value) → IsClosed s → IsClosed (with_noted v s)
closed_noted s v closed a b some r = closed a b some (record { place = r.place; value = r.value })

-- ---- a further block

find_push : (p : Block → Bool) (xs : List Block) (b : Block) → ((find p (xs ++ b ∷ []) ≡ find p xs) × IsSome (find p xs)) ⊎ (find p (xs ++ b ∷ []) ≡ cond (p b) (Some b) None)
find_push p [] b = inr refl
find_push p (x ∷ xs) b = elim (p x) as (λ t. ((cond t (Some x) (find p (xs ++ b ∷ [])) ≡ cond t (Some x) (find p xs)) × IsSome (cond t (Some x) (find p xs))) ⊎ (cond t (Some x) (find p (xs ++ b ∷ [])) ≡ cond (p b) (Some b) None)) [
  | true ↦ inl (refl, refl)
  | false ↦ find_push p xs b
]

find_front : (p : Block → Bool) (xs : List Block) (b : Block) → IsSome (find p xs) → IsSome (find p (xs ++ b ∷ []))
find_front p [] b some = absurd (cc)
find_front p (x ∷ xs) b some = elim (p x) as (λ t. IsSome (cond t (Some x) (find p xs)) → IsSome (cond t (Some x) (find p (xs ++ b ∷ [])))) [
  | true ↦ λ h. refl
  | false ↦ λ h. find_front p xs b h
] some

still_address : (s : Space) (b : Block) (a : ℕ) → IsAddress s a → IsAddress (with_block s b) a
still_address s b a some = find_front (λ (c : Block). eqb c.address a) s.blocks b some

pub still_named : (s : Space) (b : Block) (roots : List (Option ℕ)) → AreAddresses s roots → AreAddresses (with_block s b) roots
still_named s b roots named a m = still_address s b a (named a m)

from_fresh : (t : Bool) (address class birth len : ℕ) (v : Value) (k b : ℕ) → slice_get (option_map_or (λ (c : Block). c.values) (cond t (Some (fresh_block address class birth len v)) None) []) k ≡ Some (Reference b) → v ≡ Reference b
from_fresh true address class birth len v k b e = all_same len k v (Reference b) e
from_fresh false address class birth len v k b e = absurd (cc)

pub closed_with_block : (s : Space) (address class birth len : ℕ) (v : Value) → IsClosed s → ((x : ℕ) → v ≡ Reference x → IsAddress s x) → IsClosed (with_block s (fresh_block address class birth len v))
closed_with_block s address class birth len v h value a b some r =
    let fresh : Block = fresh_block address class birth len v in
    let there : IsAddress s b = ⊎_elim
    (λ (t : (find (λ (c : Block). eqb c.address a) (s.blocks ++ fresh ∷ []) ≡ find (λ (c : Block). eqb c.address a) s.blocks) × IsSome (find (λ (c : Block). eqb c.address a) s.blocks)).
    h a b t.1 (record { place = r.place; value = subst (λ (o : Option Block). slice_get (option_map_or (λ (c : Block). c.values) o []) r.place ≡ Some (Reference b)) t.0 r.value }))
    (λ (t : find (λ (c : Block). eqb c.address a) (s.blocks ++ fresh ∷ []) ≡ cond (eqb address a) (Some fresh) None).
    let read = subst (λ (o : Option Block). slice_get (option_map_or (λ (c : Block). c.values) o []) r.place ≡ Some (Reference b)) t r.value in
    value b (from_fresh (eqb address a) address class birth len v r.place b read))
    (find_push (λ (c : Block). eqb c.address a) s.blocks fresh) in
    still_address s fresh b there

-- ---- a block changed

some_after : (f : Block → Block) (o : Option Block) → IsSome o → IsSome (option_map f o)
some_after f None h = absurd (cc)
some_after f (Some b) h = refl

some_before : (f : Block → Block) (o : Option Block) → IsSome (option_map f o) → IsSome o
some_before f None h = absurd (cc)
some_before f (Some b) h = refl

module _ (s : Space) (at : ℕ) (change : Block → Block) (leaves : LeavesPlace change) where
  changed_address : (x : ℕ) → IsAddress s x → IsAddress (with_changed s at change) x
  changed_address x some = subst (λ (o : Option Block). IsSome o) (sym (block_at-changed s at change x leaves)) (some_after (changed at change) (block_at s x) some)

  pub changed_named : (roots : List (Option ℕ)) → AreAddresses s roots → AreAddresses (with_changed s at change) roots
  changed_named roots named a m = changed_address a (named a m)

  pub closed_changed : ((b : Block) (k c : ℕ) → slice_get (change b).values k ≡ Some (Reference c) → (slice_get b.values k ≡ Some (Reference c)) ⊎ IsAddress s c) → IsClosed s → IsClosed (with_changed s at change)
  closed_changed each closed b c some r = changed_address c (by_block (block_at s b) refl read)
    where
      now : block_at (with_changed s at change) b ≡ option_map (changed at change) (block_at s b)
      now = block_at-changed s at change b leaves

      read : slice_get (option_map_or (λ (d : Block). d.values) (option_map (changed at change) (block_at s b)) []) r.place ≡ Some (Reference c)
      read = subst (λ (o : Option Block). slice_get (option_map_or (λ (d : Block). d.values) o []) r.place ≡ Some (Reference c)) now r.value

      here : IsAddress s b
      here = some_before (changed at change) (block_at s b) (subst (λ (o : Option Block). IsSome o) now some)

      from_old : (d : Block) → block_at s b ≡ Some d → slice_get d.values r.place ≡ Some (Reference c) → IsAddress s c
      from_old d e old = closed b c here (record { place = r.place; value = ap (λ (o : Option Block). slice_get (option_map_or (λ (x : Block). x.values) o []) r.place) e ∙ old })

      by_block : (o : Option Block) → block_at s b ≡ o → slice_get (option_map_or (λ (d : Block). d.values) (option_map (changed at change) o) []) r.place ≡ Some (Reference c) → IsAddress s c
      by_block None e h = absurd (cc)
      by_block (Some d) e h =
          ⊎_elim
          (λ (t : (eqb d.address at ≡ true) × (d.address ≡ at)).
          ⊎_elim
          (λ (old : slice_get d.values r.place ≡ Some (Reference c)). from_old d e old)
          (λ (there : IsAddress s c). there)
          (each d r.place c (subst (λ (x : Block). slice_get x.values r.place ≡ Some (Reference c)) (changed_here at change d t.1) h)))
          (λ (t : (eqb d.address at ≡ false) × (d.address ≡ at → ⊥)). from_old d e (subst (λ (x : Block). slice_get x.values r.place ≡ Some (Reference c)) (changed_elsewhere at change d t.1) h))
          (eqb_tells d.address at)

-- another value at a place
module _ (s : Space) (at place : ℕ) (v : Value) where
  abbrev change : Block → Block
  change b = record b { values = slice_set b.values place v }

  leaves : LeavesPlace change
  leaves = record { address = λ b. refl; count = λ b. length-set b.values place v }

  pub value_named : (roots : List (Option ℕ)) → AreAddresses s roots → AreAddresses (with_value s at place v) roots
  value_named = changed_named s at change leaves

  pub closed_with_value : ((x : ℕ) → v ≡ Reference x → IsAddress s x) → IsClosed s → IsClosed (with_value s at place v)
  closed_with_value value closed = closed_noted (with_changed s at change) v (closed_changed s at change leaves (λ b k c e. ⊎_elim (λ (old : slice_get b.values k ≡ Some (Reference c)). inl old) (λ (new : v ≡ Reference c). inr (value c new)) (set_cases b.values place k v (Reference c) e)) closed)

-- other pins
module _ (s : Space) (at n : ℕ) where
  abbrev pinned : Block → Block
  pinned b = record b { pins = n }

  stays : LeavesPlace pinned
  stays = record { address = λ b. refl; count = λ b. refl }

  pub pins_named : (roots : List (Option ℕ)) → AreAddresses s roots → AreAddresses (with_pins s at n) roots
  pins_named = changed_named s at pinned stays

  pub closed_with_pins : IsClosed s → IsClosed (with_pins s at n)
  closed_with_pins = closed_changed s at pinned stays (λ b k c e. inl e)

-- ---- by what a call answered

-- where there was room there is a further block, and else all is as it was
pub by_room : {E : Type 0} (P : Space → Type 0) (s t : Space) (change : ℕ → Space) (r : Result ℕ E) → IfOk r (λ a. t ≡ change a) → OnErr r (t ≡ s) → P s → ((a : ℕ) → P (change a)) → P t
by_room P s t change (Ok a) made same old new = subst P (sym made) (new a)
by_room P s t change (Err e) made same old new = subst P (sym same) old

pub closed_by_answer : {T E : Type 0} (s t : Space) (r : Result T E) → OnOk r (IsClosed t) → OnErr r (t ≡ s) → IsClosed s → IsClosed t
closed_by_answer s t (Ok x) ok same old = ok
closed_by_answer s t (Err e) ok same old = subst (λ (x : Space). IsClosed x) (sym same) old

pub named_by_answer : {T E : Type 0} (s t : Space) (before after : List (Option ℕ)) (r : Result T E) → OnOk r (AreAddresses t after) → OnErr r (t ≡ s) → OnErr r (after ≡ before) → AreAddresses s before → AreAddresses t after
named_by_answer s t before after (Ok x) ok same stay old = ok
named_by_answer s t before after (Err e) ok same stay old = subst (λ (x : Space). AreAddresses x after) (sym same) (subst (λ (l : List (Option ℕ)). AreAddresses s l) (sym stay) old)
