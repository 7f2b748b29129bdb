-- A marking that is under way while the heap changes.
use Rattle.std.proofs.Common.{◌≡◌, ℕ, zero, suc, ◌<◌, Bool, true, false, eqb, List, [], ◌∷◌, ◌++◌, length, set, replicate, Option, Some, None, refl, sym, ap, ◌∙◌, subst, arith, ⊎_elim, inl, inr, ◌⊎◌}
use Rattle.std.specs.Prelude.{slice_get, slice_set, IsSome, IfSome}
use Rattle.std.specs.Option.{option_map, option_map_or}
use Rattle.std.specs.List.{Contains}
use Rattle.std.proofs.lemmas.Bool.{cases_eq}
use Rattle.std.proofs.lemmas.Bool.Decides.{eqb_tells}
use Rattle.std.proofs.lemmas.List.{length-set, get_or-set_same, get_or-set_other}
use Rattle.std.proofs.lemmas.List.Elements.{Contains-push, Contains-append_left, Contains-push_cases}
use Rattle.heap.specs.declared.value.Value.{Value}
use Rattle.heap.specs.declared.value.Value.TheVariants.{Number, Null, Block as Reference}
use Rattle.heap.specs.Heap.{Block, Space, IsAddress, IsLaidOut, bare, block_at, end_of, fresh_block, values_at, with_block, with_changed, with_pins}
use Rattle.heap.specs.Marks.{Marks, noted, with_new, noted_in, is_kept}
use Rattle.heap.specs.Marking.{IsUnderWay}
use Rattle.heap.proofs.Changes.{LeavesPlace, changed, changed_here, changed_elsewhere}
use Rattle.heap.proofs.Places.{IsAddress-within}
use Rattle.heap.proofs.Writes.{written}
use Rattle.heap.proofs.Spaces.{block_at-changed, block_at-fresh, block_at-kept}

-- ---- a heap and its marking

pub bare_view : {s t : Space} → s ≡ t → bare s ≡ bare t
bare_view e = ap bare e

pub with_marking : {s t : Space} {j k : Option Marks} → s ≡ t → j ≡ k → ◌≡◌ {A = Space} (record s { marking = j }) (record t { marking = k })
with_marking {s = s} {t = t} {j = j} {k = k} e f = ap (λ (x : Space). let y : Space = record x { marking = j } in y) e ∙ ap (λ (n : Option Marks). let y : Space = record t { marking = n } in y) f

pub UnderWay-of : (s t : Space) (m : Marks) → bare s ≡ bare t → IsUnderWay s m → IsUnderWay t m
UnderWay-of s t m e h = record { count = g.count; blocks = g.blocks; waits = g.waits; each = g.each }
  where
    first : IsUnderWay (bare s) m
    first = record { count = h.count; blocks = h.blocks; waits = h.waits; each = h.each }

    g : IsUnderWay (bare t) m
    g = subst (λ (x : Space). IsUnderWay x m) e first

pub held_of : (s t : Space) (o : Option Marks) → bare s ≡ bare t → IfSome o (IsUnderWay s) → IfSome o (IsUnderWay t)
held_of s t None e h = tt
held_of s t (Some m) e h = UnderWay-of s t m e h

-- ---- what is noted

pub UnderWay-noted : (s : Space) (m : Marks) (a : ℕ) → IsUnderWay s m → IsLaidOut s → IsAddress s a → IsUnderWay s (noted m a) × (is_kept (noted m a).kept a ≡ true) × ((noted m a).marked ≡ m.marked)
UnderWay-noted s m a h laid some = by_mark (is_kept m.kept a) refl
  where
    within : a < length m.kept
    within = let low = IsAddress-within s a laid some in let count = h.count in omega arith

    now : is_kept (set m.kept a true) a ≡ true
    now = get_or-set_same m.kept a true false within

    stays : (x : ℕ) → is_kept m.kept x ≡ true → is_kept (set m.kept a true) x ≡ true
    stays x k = ⊎_elim
        (λ (e : x ≡ a). subst (λ i. is_kept (set m.kept a true) i ≡ true) (sym e) now)
        (λ (ne : x ≡ a → ⊥). get_or-set_other m.kept a x true false ne ∙ k)
        (cases_eq x a)

    was : (x : ℕ) → (x ≡ a → ⊥) → is_kept (set m.kept a true) x ≡ true → is_kept m.kept x ≡ true
    was x ne k = sym (get_or-set_other m.kept a x true false ne) ∙ k

    longer : Marks
    longer = record { kept = set m.kept a true; waiting = m.waiting ++ a ∷ []; marked = m.marked }

    more : IsUnderWay s (record { kept = set m.kept a true; waiting = m.waiting ++ a ∷ []; marked = m.marked })
    more = record {
      count = length-set m.kept a true ∙ h.count;
      blocks = λ x k. ⊎_elim
          (λ (e : x ≡ a). subst (λ i. IsAddress s i) (sym e) some)
          (λ (ne : x ≡ a → ⊥). h.blocks x (was x ne k))
          (cases_eq x a);
      waits = λ x c. ⊎_elim
          (λ (d : Contains m.waiting x). stays x (h.waits x d))
          (λ (e : a ≡ x). subst (λ i. is_kept (set m.kept a true) i ≡ true) e now)
          (Contains-push_cases m.waiting a x c);
      each = λ x k out p b v. ⊎_elim
          (λ (e : x ≡ a). absurd (out (subst (λ i. Contains (m.waiting ++ a ∷ []) i) (sym e) (Contains-push m.waiting a))))
          (λ (ne : x ≡ a → ⊥). stays b (h.each x (was x ne k) (λ c. out (Contains-append_left m.waiting (a ∷ []) x c)) p b v))
          (cases_eq x a);
    }

    by_mark : (t : Bool) → is_kept m.kept a ≡ t → IsUnderWay s (noted m a) × (is_kept (noted m a).kept a ≡ true) × ((noted m a).marked ≡ m.marked)
    by_mark true e = rw e (h, e, refl)
    by_mark false e = rw e (more, now, refl)

pub marked_noted : (m : Marks) (a : ℕ) → (noted m a).marked ≡ m.marked
marked_noted m a = by_mark (is_kept m.kept a) refl
  where
    by_mark : (t : Bool) → is_kept m.kept a ≡ t → (noted m a).marked ≡ m.marked
    by_mark true e = rw e refl
    by_mark false e = rw e refl

-- with the block noted that a value refers to
abbrev pub noted_value : Value → Marks → Marks
noted_value (Number n) m = m
noted_value Null m = m
noted_value (Reference a) m = noted m a

noted_none : (v : Value) → noted_in v None ≡ None
noted_none (Number n) = refl
noted_none Null = refl
noted_none (Reference a) = refl

noted_some : (v : Value) (m : Marks) → noted_in v (Some m) ≡ Some (noted_value v m)
noted_some (Number n) m = refl
noted_some Null m = refl
noted_some (Reference a) m = refl

pub UnderWay-value : (s : Space) (m : Marks) (v : Value) → IsUnderWay s m → IsLaidOut s → ((b : ℕ) → v ≡ Reference b → IsAddress s b) → IsUnderWay s (noted_value v m) × ((b : ℕ) → v ≡ Reference b → is_kept (noted_value v m).kept b ≡ true)
UnderWay-value s m (Number n) h laid target = (h, λ b e. absurd (cc))
UnderWay-value s m Null h laid target = (h, λ b e. absurd (cc))
UnderWay-value s m (Reference a) h laid target =
    let one = UnderWay-noted s m a h laid (target a refl) in
    (one.0, λ b e. let same : a ≡ b = cc in subst (λ i. is_kept (noted m a).kept i ≡ true) same one.1)

-- ---- a block changed

some_after : (f : Block → Block) (o : Option Block) → IsSome o → IsSome (option_map f o)
some_after f None h = absurd (cc)
some_after f (Some b) h = refl

module _ (s : Space) (at : ℕ) (change : Block → Block) (leaves : LeavesPlace change) where
  address_after : (x : ℕ) → IsAddress s x → IsAddress (with_changed s at change) x
  address_after x some = subst (λ (o : Option Block). IsSome o) (sym (block_at-changed s at change x leaves)) (some_after (changed at change) (block_at s x) some)

  value_before : (Q : ℕ → Type 0) → ((b : Block) (k c : ℕ) → slice_get (change b).values k ≡ Some (Reference c) → (slice_get b.values k ≡ Some (Reference c)) ⊎ Q c) → (x k c : ℕ) → slice_get (values_at (with_changed s at change) x) k ≡ Some (Reference c) → (slice_get (values_at s x) k ≡ Some (Reference c)) ⊎ Q c
  value_before Q each x k c e = by_block (block_at s x) read
    where
      now : block_at (with_changed s at change) x ≡ option_map (changed at change) (block_at s x)
      now = block_at-changed s at change x leaves

      read : slice_get (option_map_or (λ (d : Block). d.values) (option_map (changed at change) (block_at s x)) []) k ≡ Some (Reference c)
      read = subst (λ (o : Option Block). slice_get (option_map_or (λ (d : Block). d.values) o []) k ≡ Some (Reference c)) now e

      by_block : (o : Option Block) → slice_get (option_map_or (λ (d : Block). d.values) (option_map (changed at change) o) []) k ≡ Some (Reference c) → (slice_get (option_map_or (λ (d : Block). d.values) o []) k ≡ Some (Reference c)) ⊎ Q c
      by_block None h = absurd (cc)
      by_block (Some d) h =
          ⊎_elim
          (λ (t : (eqb d.address at ≡ true) × (d.address ≡ at)). each d k c (subst (λ (y : Block). slice_get y.values k ≡ Some (Reference c)) (changed_here at change d t.1) h))
          (λ (t : (eqb d.address at ≡ false) × (d.address ≡ at → ⊥)). inl (subst (λ (y : Block). slice_get y.values k ≡ Some (Reference c)) (changed_elsewhere at change d t.1) h))
          (eqb_tells d.address at)

  UnderWay-changed : (m : Marks) → ((b : Block) (k c : ℕ) → slice_get (change b).values k ≡ Some (Reference c) → (slice_get b.values k ≡ Some (Reference c)) ⊎ (is_kept m.kept c ≡ true)) → IsUnderWay s m → IsUnderWay (with_changed s at change) m
  UnderWay-changed m each h = record {
    count = h.count;
    blocks = λ x k. address_after x (h.blocks x k);
    waits = h.waits;
    each = λ x k out p b v. ⊎_elim
        (λ (old : slice_get (values_at s x) p ≡ Some (Reference b)). h.each x k out p b old)
        (λ (q : is_kept m.kept b ≡ true). q)
        (value_before (λ c. is_kept m.kept c ≡ true) each x p b v);
  }

pub set_cases : (xs : List Value) (place k : ℕ) (v w : Value) → slice_get (slice_set xs place v) k ≡ Some w → (slice_get xs k ≡ Some w) ⊎ (v ≡ w)
set_cases [] place k v w e = absurd (cc)
set_cases (x ∷ xs) zero zero v w e = inr (cc)
set_cases (x ∷ xs) zero (suc k) v w e = inl e
set_cases (x ∷ xs) (suc place) zero v w e = inl e
set_cases (x ∷ xs) (suc place) (suc k) v w e = set_cases xs place k v w e

-- another value at a place, which was noted
pub UnderWay-written : (s : Space) (m : Marks) (a place : ℕ) (v : Value) → IsUnderWay s m → IsLaidOut s → ((b : ℕ) → v ≡ Reference b → IsAddress s b) → IsUnderWay (written s a place v) (noted_value v m)
UnderWay-written s m a place v h laid target =
    let one = UnderWay-value s m v h laid target in
    UnderWay-changed s a (λ (b : Block). record b { values = slice_set b.values place v }) (record { address = λ b. refl; count = λ b. length-set b.values place v }) (noted_value v m) (λ b k c e. ⊎_elim
    (λ (old : slice_get b.values k ≡ Some (Reference c)). inl old)
    (λ (new : v ≡ Reference c). inr (one.1 c new))
    (set_cases b.values place k v (Reference c) e)) one.0

-- other pins
pub UnderWay-pinned : (s : Space) (m : Marks) (a n : ℕ) → IsUnderWay s m → IsUnderWay (with_pins s a n) m
UnderWay-pinned s m a n h = UnderWay-changed s a (λ (b : Block). record b { pins = n }) (record { address = λ b. refl; count = λ b. refl }) m (λ b k c e. inl e) h

-- ---- a further block

pub some_is : (o : Option Block) → IsSome o → (b : Block) × (o ≡ Some b)
some_is None some = absurd (cc)
some_is (Some b) some = (b, refl)

pub UnderWay-made : (s : Space) (m : Marks) (b : Block) → IsUnderWay s m → IsLaidOut s → b.address ≡ end_of s → b.address < s.cells → ((k c : ℕ) → slice_get b.values k ≡ Some (Reference c) → is_kept m.kept c ≡ true) → IsUnderWay (with_block s b) (with_new b.address m)
UnderWay-made s m b h laid at fits each = record {
  count = length-set m.kept b.address true ∙ h.count;
  blocks = λ x k. ⊎_elim
      (λ (e : x ≡ b.address). subst (λ i. IsAddress (with_block s b) i) (sym e) new)
      (λ (ne : x ≡ b.address → ⊥). there x (h.blocks x (was x ne k)))
      (cases_eq x b.address);
  waits = λ x c. stays x (h.waits x c);
  each = λ x k out p c v. ⊎_elim
      (λ (e : x ≡ b.address). stays c (each p c (read x e p c v)))
      (λ (ne : x ≡ b.address → ⊥). stays c (h.each x (was x ne k) out p c (before x (h.blocks x (was x ne k)) p c v)))
      (cases_eq x b.address);
}
  where
    is : block_at (with_block s b) b.address ≡ Some b
    is = block_at-fresh s b laid at

    new : IsAddress (with_block s b) b.address
    new = subst (λ (o : Option Block). IsSome o) (sym is) refl

    kept_at : (x : ℕ) → IsAddress s x → block_at (with_block s b) x ≡ block_at s x
    kept_at x some = let old = some_is (block_at s x) some in block_at-kept s b x old.0 old.1 ∙ sym old.1

    there : (x : ℕ) → IsAddress s x → IsAddress (with_block s b) x
    there x some = subst (λ (o : Option Block). IsSome o) (sym (kept_at x some)) some

    now : is_kept (set m.kept b.address true) b.address ≡ true
    now = let count = h.count in get_or-set_same m.kept b.address true false (omega arith)

    was : (x : ℕ) → (x ≡ b.address → ⊥) → is_kept (set m.kept b.address true) x ≡ true → is_kept m.kept x ≡ true
    was x ne k = sym (get_or-set_other m.kept b.address x true false ne) ∙ k

    stays : (x : ℕ) → is_kept m.kept x ≡ true → is_kept (set m.kept b.address true) x ≡ true
    stays x k = ⊎_elim
        (λ (e : x ≡ b.address). subst (λ i. is_kept (set m.kept b.address true) i ≡ true) (sym e) now)
        (λ (ne : x ≡ b.address → ⊥). get_or-set_other m.kept b.address x true false ne ∙ k)
        (cases_eq x b.address)

    read : (x : ℕ) → x ≡ b.address → (p c : ℕ) → slice_get (values_at (with_block s b) x) p ≡ Some (Reference c) → slice_get b.values p ≡ Some (Reference c)
    read x e p c v =
        let here : slice_get (values_at (with_block s b) b.address) p ≡ Some (Reference c) = subst (λ i. slice_get (values_at (with_block s b) i) p ≡ Some (Reference c)) e v in
        subst (λ (o : Option Block). slice_get (option_map_or (λ (d : Block). d.values) o []) p ≡ Some (Reference c)) is here

    before : (x : ℕ) → IsAddress s x → (p c : ℕ) → slice_get (values_at (with_block s b) x) p ≡ Some (Reference c) → slice_get (values_at s x) p ≡ Some (Reference c)
    before x some p c v = subst (λ (o : Option Block). slice_get (option_map_or (λ (d : Block). d.values) o []) p ≡ Some (Reference c)) (kept_at x some) v

-- ---- by whether a marking is under way

-- a block that is written is one, while a marking is under way
abbrev pub IsTarget : Space → Option Marks → Value → Type 0
IsTarget s o v = IsSome o → (b : ℕ) → v ≡ Reference b → IsAddress s b

-- as the caller says it of the heap and its marking
pub target_in : (s t : Space) (o : Option Marks) (v : Value) → ◌≡◌ {A = Space} (record s { marking = o }) t → (IsSome t.marking → (b : ℕ) → v ≡ Reference b → IsAddress t b) → IsTarget s o v
target_in s t o v e h some b q = subst (λ (x : Space). IsAddress x b) (sym e) (h (subst (λ (x : Space). IsSome x.marking) e some) b q)

pub room_for : (s : Space) (o : Option Marks) (v : Value) → IfSome o (IsUnderWay s) → IsLaidOut s → IsTarget s o v → (b : ℕ) → v ≡ Reference b → IfSome o (λ m. b < length m.kept)
room_for s None v h laid target b e = tt
room_for s (Some m) v h laid target b e = let low = IsAddress-within s b laid (target refl b e) in let count = h.count in omega arith

pub held_noted : (s : Space) (o after : Option Marks) (v : Value) → after ≡ noted_in v o → IfSome o (IsUnderWay s) → IsLaidOut s → IsTarget s o v → IfSome after (IsUnderWay s)
held_noted s None after v e h laid target = subst (λ (x : Option Marks). IfSome x (IsUnderWay s)) (sym (e ∙ noted_none v)) tt
held_noted s (Some m) after v e h laid target = subst (λ (x : Option Marks). IfSome x (IsUnderWay s)) (sym (e ∙ noted_some v m)) (UnderWay-value s m v h laid (target refl)).0

pub held_written : (s : Space) (o after : Option Marks) (a place : ℕ) (v : Value) → after ≡ noted_in v o → IfSome o (IsUnderWay s) → IsLaidOut s → IsTarget s o v → IfSome after (IsUnderWay (written s a place v))
held_written s None after a place v e h laid target = subst (λ (x : Option Marks). IfSome x (IsUnderWay (written s a place v))) (sym (e ∙ noted_none v)) tt
held_written s (Some m) after a place v e h laid target = subst (λ (x : Option Marks). IfSome x (IsUnderWay (written s a place v))) (sym (e ∙ noted_some v m)) (UnderWay-written s m a place v h laid (target refl))

pub held_number : (s : Space) (o : Option Marks) (a place n : ℕ) → IfSome o (IsUnderWay s) → IsLaidOut s → IfSome o (IsUnderWay (written s a place (Number n)))
held_number s None a place n h laid = tt
held_number s (Some m) a place n h laid = UnderWay-written s m a place (Number n) h laid (λ b e. absurd (cc))

pub held_pinned : (s : Space) (o : Option Marks) (a n : ℕ) → IfSome o (IsUnderWay s) → IfSome o (IsUnderWay (with_pins s a n))
held_pinned s None a n h = tt
held_pinned s (Some m) a n h = UnderWay-pinned s m a n h

pub all_same : (n k : ℕ) (v w : Value) → slice_get (replicate n v) k ≡ Some w → v ≡ w
all_same zero k v w e = absurd (cc)
all_same (suc n) zero v w e = cc
all_same (suc n) (suc k) v w e = all_same n k v w e

pub room_for_new : (s : Space) (o after : Option Marks) (v : Value) → after ≡ noted_in v o → IfSome o (IsUnderWay s) → IsLaidOut s → IsTarget s o v → (a : ℕ) → a < s.cells → IfSome after (λ m. a < length m.kept)
room_for_new s None after v e h laid target a fits = subst (λ (x : Option Marks). IfSome x (λ m. a < length m.kept)) (sym (e ∙ noted_none v)) tt
room_for_new s (Some m) after v e h laid target a fits =
    let one = (UnderWay-value s m v h laid (target refl)).0 in
    let count = one.count in
    subst (λ (x : Option Marks). IfSome x (λ m. a < length m.kept)) (sym (e ∙ noted_some v m)) (omega arith)

pub held_made : (s : Space) (o mid after : Option Marks) (class birth len : ℕ) (v : Value) → mid ≡ noted_in v o → after ≡ option_map (with_new (end_of s)) mid → IfSome o (IsUnderWay s) → IsLaidOut s → IsTarget s o v → end_of s < s.cells → IfSome after (IsUnderWay (with_block s (fresh_block (end_of s) class birth len v)))
held_made s None mid after class birth len v e f h laid target fits = subst (λ (x : Option Marks). IfSome x (IsUnderWay (with_block s (fresh_block (end_of s) class birth len v)))) (sym (f ∙ ap (option_map (with_new (end_of s))) (e ∙ noted_none v))) tt
held_made s (Some m) mid after class birth len v e f h laid target fits =
    let one = UnderWay-value s m v h laid (target refl) in
    subst (λ (x : Option Marks). IfSome x (IsUnderWay (with_block s (fresh_block (end_of s) class birth len v)))) (sym (f ∙ ap (option_map (with_new (end_of s))) (e ∙ noted_some v m))) (UnderWay-made s (noted_value v m) (fresh_block (end_of s) class birth len v) one.0 laid refl fits (λ k c q. one.1 c (all_same len k v (Reference c) q)))
