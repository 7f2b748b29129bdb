-- A layout is packed in one way.
use Rattle.std.proofs.Common.{◌≡◌, ℕ, zero, suc, ◌+◌, ◌<◌, ◌≤◌, ◌⊎◌, inl, inr, [], ◌∷◌, Some, refl, sym, ap, ◌∙◌, subst, arith, Contains, ⊎_elim}
use Rattle.std.specs.Prelude.{slice_get}
use Rattle.base.proofs.Lists.{Contains-from_get, get-from_contains}
use Rattle.heap.specs.Layout.{Extent, Layout, extent_end}
use Rattle.machine_collections.specs.Packing.{IsLoose, IsPacked, RiseFrom, moved_to}
use Rattle.machine_collections.proofs.PackedLayouts.{above_from, not_empty}

-- ---- numbers

-- no number below another, and the other way round
one_number : (x y : ℕ) → (x < y → ⊥) → (y < x → ⊥) → x ≡ y
one_number zero zero f g = refl
one_number zero (suc y) f g = absurd (f (omega arith))
one_number (suc x) zero f g = absurd (g (omega arith))
one_number (suc x) (suc y) f g = ap suc (one_number x y (λ l. f (omega (arith, l))) (λ l. g (omega (arith, l))))

-- ---- members of layouts that rise

-- a member is the first or a later one
cases : (d : Extent) (rest : Layout) (e : Extent) → Contains (d ∷ rest) e → (d ≡ e) ⊎ Contains rest e
cases d rest e c = by_place c.0 (get-from_contains (d ∷ rest) e c)
  where
    by_place : (i : ℕ) → slice_get (d ∷ rest) i ≡ Some e → (d ≡ e) ⊎ Contains rest e
    by_place zero at = inl (let same : d ≡ e = cc in same)
    by_place (suc i) at = inr (Contains-from_get rest i e at)

first : (d : Extent) (rest : Layout) → Contains (d ∷ rest) d
first d rest = Contains-from_get (d ∷ rest) 0 d refl

later : (d : Extent) (rest : Layout) (e : Extent) → Contains rest e → Contains (d ∷ rest) e
later d rest e c = Contains-from_get (d ∷ rest) (suc c.0) e (get-from_contains rest e c)

above : (from : ℕ) (layout : Layout) → RiseFrom from layout → (e : Extent) → Contains layout e → from ≤ e.address
above from layout rises e c = above_from from layout rises c.0 e (get-from_contains layout e c)

filled : (from : ℕ) (layout : Layout) → RiseFrom from layout → (e : Extent) → Contains layout e → 0 < e.size
filled from layout rises e c = not_empty from layout rises c.0 e (get-from_contains layout e c)

-- two that overlap are one
overlap : (from : ℕ) (layout : Layout) → RiseFrom from layout → (a b : Extent) → Contains layout a → Contains layout b → a.address < extent_end b → b.address < extent_end a → a ≡ b
overlap from [] rises a b in_a in_b left right = let less = in_a.1 in absurd (omega (arith, less))
overlap from (d ∷ rest) rises a b in_a in_b left right =
    ⊎_elim
    (λ (p : d ≡ a). ⊎_elim
    (λ (q : d ≡ b). sym p ∙ q)
    (λ (q : Contains rest b).
    let high = above (extent_end d) rest rises.2 b q in
    let end : extent_end d ≡ extent_end a = ap extent_end p in
    absurd (omega (arith, high, end, right)))
    (cases d rest b in_b))
    (λ (p : Contains rest a). ⊎_elim
    (λ (q : d ≡ b).
    let high = above (extent_end d) rest rises.2 a p in
    let end : extent_end d ≡ extent_end b = ap extent_end q in
    absurd (omega (arith, high, end, left)))
    (λ (q : Contains rest b). overlap (extent_end d) rest rises.2 a b p q left right)
    (cases d rest b in_b))
    (cases d rest a in_a)

-- layouts with the same members are one
pub same_members : (from to : ℕ) (xs ys : Layout) → RiseFrom from xs → RiseFrom to ys → ((e : Extent) → Contains xs e → Contains ys e) → ((e : Extent) → Contains ys e → Contains xs e) → xs ≡ ys
same_members from to [] [] rx ry f g = refl
same_members from to [] (y ∷ ys) rx ry f g = let less = (g y (first y ys)).1 in absurd (omega (arith, less))
same_members from to (x ∷ xs) [] rx ry f g = let less = (f x (first x xs)).1 in absurd (omega (arith, less))
same_members from to (x ∷ xs) (y ∷ ys) rx ry f g =
    let head = heads (cases y ys x (f x (first x xs))) (cases x xs y (g y (first y ys))) in
    let tail = same_members (extent_end x) (extent_end y) xs ys rx.2 ry.2
    (λ e c. ⊎_elim
    (λ (p : y ≡ e). let high = above (extent_end x) xs rx.2 e c in let same : x.address ≡ e.address = ap (λ (z : Extent). z.address) (head ∙ p) in let some : 0 < x.size = rx.1 in absurd (omega (arith, high, same, some)))
    (λ (q : Contains ys e). q)
    (cases y ys e (f e (later x xs e c))))
    (λ e c. ⊎_elim
    (λ (p : x ≡ e). let high = above (extent_end y) ys ry.2 e c in let same : y.address ≡ e.address = ap (λ (z : Extent). z.address) (sym head ∙ p) in let some : 0 < y.size = ry.1 in absurd (omega (arith, high, same, some)))
    (λ (q : Contains xs e). q)
    (cases x xs e (g e (later y ys e c)))) in
    ap (λ (z : Extent). z ∷ xs) head ∙ ap (λ (l : Layout). y ∷ l) tail
  where
    heads : (y ≡ x) ⊎ Contains ys x → (x ≡ y) ⊎ Contains xs y → x ≡ y
    heads (inl p) q = sym p
    heads (inr p) (inl q) = q
    heads (inr p) (inr q) =
        let high = above (extent_end y) ys ry.2 x p in
        let low = above (extent_end x) xs rx.2 y q in
        let some : 0 < x.size = rx.1 in
        absurd (omega (arith, high, low, some))

-- ---- where each goes

module _ (Kept Viewed : ℕ → Type 0) (old : Layout) (rises : RiseFrom 0 old) (decides : (n : ℕ) → Viewed n ⊎ ¬ (Viewed n)) (viewed_kept : (e : Extent) → Contains old e → Viewed e.name → Kept e.name) where
  module _ (a b : Layout) (p : IsPacked Kept Viewed old a) (q : IsPacked Kept Viewed old b) (e : Extent) (loose : IsLoose old Kept Viewed e) (before : (c : Extent) → c.address < e.address → IsLoose old Kept Viewed c → p.to c ≡ q.to c) where
    -- those before it end no higher in the one than in the other
    starts_below : (p.lowest e loose).start ≤ (q.lowest e loose).start
    starts_below =
        ⊎_elim
        (λ (z : (p.lowest e loose).start ≡ 0). omega (arith, z))
        (λ (z : (c : Extent) × (c.address < e.address) × IsLoose old Kept Viewed c × (p.to c + c.size ≡ (p.lowest e loose).start)).
        let same = before z.0 z.1 z.2 in
        let end : p.to z.0 + (z.0).size ≡ (p.lowest e loose).start = z.3 in
        let past = (q.lowest e loose).past z.0 z.1 z.2 in
        omega (arith, same, end, past))
        (p.lowest e loose).begins

    -- and it lies no lower: the lower cells meet one that is viewed
    no_lower : (q.lowest e loose).start ≤ (p.lowest e loose).start → p.to e < q.to e → ⊥
    no_lower starts less =
        let on : (p.lowest e loose).start ≤ p.to e = (p.lowest e loose).from_on in
        let m = (q.lowest e loose).taken (p.to e) (omega (arith, on, starts)) less in
        let here = p.kept e loose.0 loose.1 in
        let view : Contains a m.extent = subst (λ (x : Extent). Contains a x) (ap (moved_to m.extent) (p.viewed m.extent m.there m.viewed)) (p.kept m.extent m.there (viewed_kept m.extent m.there m.viewed)) in
        let up : (m.extent).address < p.to e + e.size = m.above in
        let down : p.to e < extent_end m.extent = m.below in
        let same = overlap 0 a p.rising (moved_to e (p.to e)) m.extent here view down up in
        loose.2 (subst Viewed (sym (ap (λ (x : Extent). x.name) same)) m.viewed)

  module _ (a b : Layout) (p : IsPacked Kept Viewed old a) (q : IsPacked Kept Viewed old b) where
    one_place : (bound : ℕ) (e : Extent) → e.address < bound → IsLoose old Kept Viewed e → p.to e ≡ q.to e
    one_place zero e below loose = absurd (omega (arith, below))
    one_place (suc bound) e below loose =
        let before : (c : Extent) → c.address < e.address → IsLoose old Kept Viewed c → p.to c ≡ q.to c = λ c less other. one_place bound c (omega (arith, below, less)) other in
        let back : (c : Extent) → c.address < e.address → IsLoose old Kept Viewed c → q.to c ≡ p.to c = λ c less other. sym (before c less other) in
        one_number (p.to e) (q.to e)
        (no_lower a b p q e loose before (starts_below b a q p e loose back))
        (no_lower b a q p e loose back (starts_below a b p q e loose before))

    places : (e : Extent) → Contains old e → Kept e.name → p.to e ≡ q.to e
    places e c kept =
        ⊎_elim
        (λ (viewed : Viewed e.name). p.viewed e c viewed ∙ sym (q.viewed e c viewed))
        (λ (other : ¬ (Viewed e.name)). one_place (suc e.address) e (omega arith) (c, kept, other))
        (decides e.name)

    members : (e : Extent) → Contains a e → Contains b e
    members e c =
        let o = p.only e c in
        subst (λ (x : Extent). Contains b x) (ap (moved_to o.0) (sym (places o.0 o.1 o.2)) ∙ sym o.3) (q.kept o.0 o.1 o.2)

  -- there is one packed layout
  pub packed_once : (a b : Layout) → IsPacked Kept Viewed old a → IsPacked Kept Viewed old b → a ≡ b
  packed_once a b p q = same_members 0 0 a b p.rising q.rising (members a b p q) (members b a q p)
