-- A marking that goes on.
use Rattle.std.proofs.Common.{◌≡◌, ℕ, zero, suc, ◌+◌, ◌<◌, ◌≤◌, Bool, true, false, cond, List, [], ◌∷◌, length, get_or, Option, Some, None, refl, sym, ap, ◌∙◌, subst, arith, ⊎_elim, inl, inr, ◌⊎◌}
use Rattle.std.specs.Prelude.{slice_get, IsSome}
use Rattle.std.specs.List.{Contains}
use Rattle.std.proofs.lemmas.Bool.{cases_eq, both_ways}
use Rattle.std.proofs.lemmas.List.{length-map}
use Rattle.base.proofs.Lists.{Contains-from_get, none_in}
use Rattle.heap.specs.declared.value.Value.TheVariants.{Block as Reference}
use Rattle.heap.specs.Heap.{Block, Space, IsAddress, bare, block_at, pins_at, values_at, addresses}
use Rattle.heap.specs.Marks.{Marks, noted, is_kept}
use Rattle.heap.specs.Marking.{unmarked, IsUnderWay}
use Rattle.heap.proofs.Counting.{marks_fit}
use Rattle.heap.proofs.Places.{place_of}
use Rattle.heap.proofs.UnderWay.{marked_noted, some_is}
use Rattle.compact.specs.Reach.{AreAddresses, Refers, IsClosed}
use Rattle.compact.specs.Marks.{Adds, IsFollowed}
use Rattle.compact.specs.Placing.{IsLowest}
use Rattle.compact.specs.Same.{IsSameWeakly, MovesBy}
use Rattle.compact.specs.Slices.{AreNoted, IsKeptBy, IsWhole, count_of}
use Rattle.compact.proofs.Adding.{Adds-noted, kept-noted}

-- ---- marks

-- where all marks stay there are no fewer of them
pub fewer_unmarked : (ms ns : List Bool) → length ns ≡ length ms → ((x : ℕ) → is_kept ms x ≡ true → is_kept ns x ≡ true) → unmarked ns ≤ unmarked ms
fewer_unmarked [] [] e stays = omega arith
fewer_unmarked [] (n ∷ ns) e stays = absurd (omega (arith, e))
fewer_unmarked (m ∷ ms) [] e stays = absurd (omega (arith, e))
fewer_unmarked (false ∷ ms) (n ∷ ns) e stays = by_first n (fewer_unmarked ms ns (omega (arith, e)) (λ x k. stays (suc x) k))
  where
    by_first : (b : Bool) → unmarked ns ≤ unmarked ms → unmarked (b ∷ ns) ≤ unmarked (false ∷ ms)
    by_first true rest = omega (arith, rest)
    by_first false rest = omega (arith, rest)
fewer_unmarked (true ∷ ms) (n ∷ ns) e stays =
    let now : n ≡ true = stays 0 refl in
    let rest = fewer_unmarked ms ns (omega (arith, e)) (λ x k. stays (suc x) k) in
    let none : cond {A = ℕ} n 0 1 ≡ 0 = ap (λ (b : Bool). cond {A = ℕ} b 0 1) now in
    omega (arith, rest, none)

-- ---- a list and what comes before it

head_in : (a : ℕ) (xs : List ℕ) → Contains (a ∷ xs) a
head_in a xs = (0, omega arith, refl)

tail_in : (a x : ℕ) (xs : List ℕ) → Contains xs x → Contains (a ∷ xs) x
tail_in a x xs c = let within : c.0 < length xs = c.1 in (suc c.0, omega arith, c.2)

cons_at : (a x : ℕ) (xs : List ℕ) (k : ℕ) → k < length (a ∷ xs) → get_or (a ∷ xs) k x ≡ x → (a ≡ x) ⊎ Contains xs x
cons_at a x xs zero l e = inl e
cons_at a x xs (suc k) l e = inr (k, omega arith, e)

-- ---- noting

-- a block that is noted
pub record Noting (m n : Marks) (b : ℕ) : Type 0 where
  pub adds : Adds (λ x. x ≡ b) m.kept m.waiting n.kept n.waiting
  pub kept : is_kept n.kept b ≡ true
  pub marked : n.marked ≡ m.marked

pub noting : (m n : Marks) (b : ℕ) → n ≡ noted m b → b < length m.kept → Noting m n b
noting m n b e within = subst (λ (x : Marks). Noting m x b) (sym e) (record {
  adds = Adds-noted m b within;
  kept = kept-noted m b within;
  marked = marked_noted m b;
})

-- ---- under way

pub UnderWay-new : (s : Space) (kept : List Bool) (m : Marks) → ((a : ℕ) → is_kept kept a ≡ false) → length kept ≡ s.cells → m ≡ record { kept = kept; waiting = []; marked = 0 } → IsUnderWay s m
UnderWay-new s kept m clear count e = subst (λ (x : Marks). IsUnderWay s x) (sym e) (record {
  count = count;
  blocks = λ a k. absurd (both_ways (is_kept kept a) (clear a) k);
  waits = λ a c. absurd (none_in a c);
  each = λ a k out. absurd (both_ways (is_kept kept a) (clear a) k);
})

-- more blocks are noted
pub UnderWay-more : (s : Space) (P : ℕ → Type 0) (m n : Marks) → IsUnderWay s m → Adds P m.kept m.waiting n.kept n.waiting → ((x : ℕ) → P x → IsAddress s x) → IsUnderWay s n
UnderWay-more s P m n h f are = record {
  count = f.count ∙ h.count;
  blocks = λ x k. ⊎_elim
      (λ (q : is_kept m.kept x ≡ true). h.blocks x q)
      (λ (q : P x × Contains n.waiting x). are x q.0)
      (f.fresh x k);
  waits = λ x c. ⊎_elim
      (λ (q : Contains m.waiting x). f.stays x (h.waits x q))
      (λ (q : P x × (is_kept n.kept x ≡ true)). q.1)
      (f.ours x c);
  each = λ x k out p b v. ⊎_elim
      (λ (q : is_kept m.kept x ≡ true). f.stays b (h.each x q (λ c. out (f.listed x c)) p b v))
      (λ (q : P x × Contains n.waiting x). absurd (out q.1))
      (f.fresh x k);
}

-- the next block of the list is marked
pub UnderWay-next : (s : Space) (m c n : Marks) (a : ℕ) → IsClosed s → IsUnderWay s m → m.waiting ≡ a ∷ c.waiting → c.kept ≡ m.kept → Adds (Refers s a) c.kept c.waiting n.kept n.waiting → IsFollowed s n.kept a → IsUnderWay s n
UnderWay-next s m c n a closed h e same f followed = record {
  count = f.count ∙ ap length same ∙ h.count;
  blocks = λ x k. ⊎_elim
      (λ (q : is_kept c.kept x ≡ true). h.blocks x (was x q))
      (λ (q : Refers s a x × Contains n.waiting x). closed a x here q.0)
      (f.fresh x k);
  waits = λ x w. ⊎_elim
      (λ (q : Contains c.waiting x). f.stays x (now x (h.waits x (subst (λ (l : List ℕ). Contains l x) (sym e) (tail_in a x c.waiting q)))))
      (λ (q : Refers s a x × (is_kept n.kept x ≡ true)). q.1)
      (f.ours x w);
  each = λ x k out p b v. ⊎_elim
      (λ (q : is_kept c.kept x ≡ true). ⊎_elim
      (λ (d : x ≡ a). followed b (record { place = p; value = subst (λ i. slice_get (values_at s i) p ≡ Some (Reference b)) d v }))
      (λ (ne : x ≡ a → ⊥). f.stays b (now b (h.each x (was x q) (λ w.
      let w' = subst (λ (l : List ℕ). Contains l x) e w in
      ⊎_elim
      (λ (d : a ≡ x). ne (sym d))
      (λ (d : Contains c.waiting x). out (f.listed x d))
      (cons_at a x c.waiting w'.0 w'.1 w'.2)) p b v)))
      (cases_eq x a))
      (λ (q : Refers s a x × Contains n.waiting x). absurd (out q.1))
      (f.fresh x k);
}
  where
    was : (x : ℕ) → is_kept c.kept x ≡ true → is_kept m.kept x ≡ true
    was x q = subst (λ (l : List Bool). is_kept l x ≡ true) same q

    now : (x : ℕ) → is_kept m.kept x ≡ true → is_kept c.kept x ≡ true
    now x q = subst (λ (l : List Bool). is_kept l x ≡ true) (sym same) q

    here : IsAddress s a
    here = h.blocks a (h.waits a (subst (λ (l : List ℕ). Contains l a) (sym e) (head_in a c.waiting)))

-- ---- the end

pub whole : (s : Space) (roots : List (Option ℕ)) (m : Marks) → IsUnderWay s m → m.waiting ≡ [] → ((x : ℕ) → 0 < pins_at s x → is_kept m.kept x ≡ true) → ((x : ℕ) → Contains roots (Some x) → is_kept m.kept x ≡ true) → IsWhole s roots m.kept
whole s roots m h e pinned rooted = record {
  count = h.count;
  blocks = h.blocks;
  pinned = pinned;
  rooted = rooted;
  closed = λ a b k r. h.each a k (λ c. none_in a (subst (λ (l : List ℕ). Contains l a) e c)) r.place b r.value;
}

-- the blocks that are kept are no fewer than the marks
pub kept_many : (s t : Space) (kept : List Bool) (f : ℕ → ℕ) (many : ℕ) → ((a : ℕ) → is_kept kept a ≡ true → IsAddress s a) → MovesBy (λ a. is_kept kept a ≡ true) f s t → many + unmarked kept ≤ length kept → many ≤ length t.blocks
kept_many s t kept f many blocks moves few =
    let fit = marks_fit (addresses t) kept f (λ a k.
    let b = some_is (block_at s a) (blocks a k) in
    let there : IsAddress t (f a) = subst (λ (o : Option Block). IsSome o) (sym (moves.kept a b.0 k b.1)) refl in
    let place = place_of t (f a) there in
    Contains-from_get (addresses t) place.0 (f a) place.2) moves.one_to_one in
    let count : length (addresses t) ≡ length t.blocks = length-map t.blocks (λ (b : Block). b.address) in
    omega arith

-- ---- a heap without its marking

pub refers_bare : (s : Space) (a b : ℕ) → Refers (bare s) a b → Refers s a b
refers_bare s a b r = record { place = r.place; value = r.value }

lowest_of : {f : ℕ → ℕ} (Kept : ℕ → Type 0) (s : Space) (a : ℕ) → IsLowest (bare s) Kept f a → IsLowest s Kept f a
lowest_of Kept s a h = record {
  start = h.start;
  begins = h.begins;
  past = h.past;
  from_on = h.from_on;
  taken = λ c l u. let t = h.taken c l u in record { address = t.address; pinned = t.pinned; above = t.above; below = t.below };
}

pub of_bare : (Kept : ℕ → Type 0) (s u t : Space) (roots after weak later : List (Option ℕ)) → u ≡ bare s → IsSameWeakly Kept u t roots after weak later → IsSameWeakly Kept s t roots after weak later
of_bare Kept s u t roots after weak later e h = of (subst (λ (x : Space). IsSameWeakly Kept x t roots after weak later) e h)
  where
    of : IsSameWeakly Kept (bare s) t roots after weak later → IsSameWeakly Kept s t roots after weak later
    of g =
        let m = g.same.blocks in
        record {
          same = record {
            to = g.same.to;
            blocks = record { cells = m.cells; laid_out = m.laid_out; kept = m.kept; only = m.only; one_to_one = m.one_to_one; pinned = m.pinned; down = m.down; packed = λ a loose. lowest_of Kept s a (m.packed a loose); lowest = m.lowest };
            places = g.same.places;
          };
          follow = g.follow;
        }

pub whole_of : (s u : Space) (roots : List (Option ℕ)) (kept : List Bool) → u ≡ bare s → IsWhole u roots kept → IsWhole s roots kept
whole_of s u roots kept e h = of (subst (λ (x : Space). IsWhole x roots kept) e h)
  where
    of : IsWhole (bare s) roots kept → IsWhole s roots kept
    of g = record { count = g.count; blocks = g.blocks; pinned = g.pinned; rooted = g.rooted; closed = λ a b k r. g.closed a b k (record { place = r.place; value = r.value }) }

pub refers_of : (s t : Space) (a b : ℕ) → bare s ≡ bare t → Refers s a b → Refers t a b
refers_of s t a b e r = record { place = r.place; value = subst (λ (x : Space). slice_get (values_at x a) r.place ≡ Some (Reference b)) e r.value }

pub closed_of : (s t : Space) → bare s ≡ bare t → IsClosed s → IsClosed t
closed_of s t e h a b there r = subst (λ (x : Space). IsAddress x b) e (h a b (subst (λ (x : Space). IsAddress x a) (sym e) there) (refers_of t s a b (sym e) r))

pub addresses_of : (s t : Space) (roots : List (Option ℕ)) → bare s ≡ bare t → AreAddresses s roots → AreAddresses t roots
addresses_of s t roots e h a m = subst (λ (x : Space). IsAddress x a) e (h a m)

-- ---- the marking that is taken up, or begun

pub count_is : (o x : Option Marks) (m : Marks) → x ≡ o → x ≡ Some m → m.marked ≡ count_of o
count_is o x m e is = ap count_of (sym is ∙ e)

pub count_none : (o x : Option Marks) → x ≡ o → x ≡ None → count_of o ≡ 0
count_none o x e is = ap count_of (sym e ∙ is)

pub keeps_on : (o x : Option Marks) (m : Marks) (kept : List Bool) → x ≡ o → x ≡ Some m → ((a : ℕ) → is_kept m.kept a ≡ true → is_kept kept a ≡ true) → (a : ℕ) → IsKeptBy o a → is_kept kept a ≡ true
keeps_on o x m kept e is h a k = h a (subst (λ (y : Option Marks). IsKeptBy y a) (sym e ∙ is) k)

pub none_before : (o x : Option Marks) (kept : List Bool) → x ≡ o → x ≡ None → (a : ℕ) → IsKeptBy o a → is_kept kept a ≡ true
none_before o x kept e is a k = absurd (subst (λ (y : Option Marks). IsKeptBy y a) (sym e ∙ is) k)

pub never_begun : (s : Space) (roots : List (Option ℕ)) (x : Option Marks) (m : Marks) (kept : List Bool) → x ≡ s.marking → x ≡ Some m → s.marking ≡ None → AreNoted s roots kept
never_begun s roots x m kept e is none = let both : ◌≡◌ {A = Option Marks} (Some m) None = sym is ∙ e ∙ none in absurd (cc)

pub noted_of : (s u : Space) (roots : List (Option ℕ)) (kept more : List Bool) → u ≡ bare s → ((a : ℕ) → 0 < pins_at u a → is_kept kept a ≡ true) → ((a : ℕ) → Contains roots (Some a) → is_kept kept a ≡ true) → ((a : ℕ) → is_kept kept a ≡ true → is_kept more a ≡ true) → AreNoted s roots more
noted_of s u roots kept more e pins rooted stays = record {
  pinned = λ a p. stays a (pins a (subst (λ (x : Space). 0 < pins_at x a) (sym e) p));
  rooted = λ a r. stays a (rooted a r);
}

-- the marking that is under way is the one that was handed out
pub marks_are : (o x : Option Marks) (m n : Marks) → x ≡ o → x ≡ Some m → o ≡ Some n → n ≡ m
marks_are o x m n e is held = let both : ◌≡◌ {A = Option Marks} (Some n) (Some m) = sym held ∙ sym e ∙ is in cc
