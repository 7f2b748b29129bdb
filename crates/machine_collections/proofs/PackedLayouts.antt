-- The layout that a collection leaves is a packed one.
use Rattle.std.proofs.Common.{◌≡◌, ℕ, zero, suc, ◌+◌, ◌<◌, ◌≤◌, ◌⊎◌, List, [], ◌∷◌, length, map, inl, inr, Option, Some, None, refl, sym, ap, ◌∙◌, subst, arith, IsSome, Contains, ⊎_elim}
use Rattle.std.specs.Prelude.{slice_get}
use Rattle.std.specs.Option.{option_map, option_map_or}
use Rattle.std.proofs.lemmas.List.{length-map}
use Rattle.std.proofs.lemmas.Option.{slice_get-map}
use Rattle.base.proofs.Lists.{Contains-from_get, get-from_contains, get_map}
use Rattle.heap.specs.Heap.{Block, Space, IsAddress, IsLaidOut, LieFrom, block_at, block_end, block_size, name_at, pins_at}
use Rattle.heap.specs.Layout.{Extent, Layout, extent_of, layout_of}
use Rattle.heap.specs.Places.{end_at, size_at}
use Rattle.heap.proofs.Lookups.{IsAddress-from_pins, block_at-place}
use Rattle.heap.proofs.Places.{place_of}
use Rattle.compact.specs.Placing as compact
use Rattle.compact.specs.Placing.{HasLowest, MeetPinned}
use Rattle.compact.specs.Same.{MovesBy, moved, moved_value}
use Rattle.compact.proofs.Tight.{some_block}
use Rattle.machine_collections.specs.Packing.{IsLoose, IsPacked, MeetViewed, RiseFrom, moved_to}

-- ---- blocks and their extents

-- the element that another is the image of
from_image : {X Y : Type 0} (g : X → Y) (o : Option X) (y : Y) → option_map g o ≡ Some y → (x : X) × (o ≡ Some x) × (y ≡ g x)
from_image g None y e = absurd (cc)
from_image g (Some x) y e = (x, refl, let same : y ≡ g x = cc in same)

-- an extent is that of a block
pub block_of : (s : Space) → IsLaidOut s → (e : Extent) → Contains (layout_of s) e → (b : Block) × (block_at s b.address ≡ Some b) × (e ≡ extent_of b)
block_of s laid e c =
    let b = from_image extent_of (slice_get s.blocks c.0) e (sym (slice_get-map extent_of s.blocks c.0) ∙ get-from_contains (layout_of s) e c) in
    (b.0, block_at-place s c.0 (b.0).address laid (get_map (λ (x : Block). x.address) s.blocks c.0 b.0 b.1) ∙ b.1, b.2)

address_of : (s : Space) (a : ℕ) (b : Block) → block_at s a ≡ Some b → IsAddress s a
address_of s a b at = subst (λ (o : Option Block). IsSome o) (sym at) refl

-- and a block has one
pub extent_there : (s : Space) → IsLaidOut s → (a : ℕ) (b : Block) → block_at s a ≡ Some b → Contains (layout_of s) (extent_of b)
extent_there s laid a b at =
    let place = place_of s a (address_of s a b at) in
    Contains-from_get (layout_of s) place.0 (extent_of b) (get_map extent_of s.blocks place.0 b (sym (block_at-place s place.0 a laid place.2) ∙ at))

-- what is known of the block at an address
named_at : (s : Space) (a : ℕ) (b : Block) → block_at s a ≡ Some b → name_at s a ≡ Some b.birth
named_at s a b at = ap (option_map (λ (x : Block). x.birth)) at

sized_at : (s : Space) (a : ℕ) (b : Block) → block_at s a ≡ Some b → size_at s a ≡ block_size b
sized_at s a b at = ap (λ (o : Option Block). 3 + length (option_map_or (λ (x : Block). x.values) o [])) at

-- blocks that lie apart rise
rise : (from : ℕ) (bs : List Block) (cells : ℕ) → LieFrom from bs cells → RiseFrom from (map extent_of bs)
rise from [] cells h = tt
rise from (b ∷ bs) cells h = (h.0, omega arith, rise (block_end b) bs cells h.1)

pub rising_layout : (s : Space) → IsLaidOut s → RiseFrom 0 (layout_of s)
rising_layout s laid = rise 0 s.blocks s.cells laid

extent_moved : (f : ℕ → ℕ) (b : Block) → extent_of (moved f b) ≡ moved_to (extent_of b) (f b.address)
extent_moved f b = ap (λ (n : ℕ). let e : Extent = record { name = b.birth; address = f b.address; size = 3 + n } in e) (length-map b.values (moved_value f))

-- ---- what has moved is packed

module _ (Kept : ℕ → Type 0) (f : ℕ → ℕ) (s t : Space) (laid : IsLaidOut s) (there : (a : ℕ) → Kept a → IsAddress s a) (h : MovesBy Kept f s t) (Named Viewed : ℕ → Type 0) (kept_named : (a n : ℕ) → name_at s a ≡ Some n → Kept a → Named n) (named_kept : (a n : ℕ) → name_at s a ≡ Some n → Named n → Kept a)
    (pinned_viewed : (a n : ℕ) → name_at s a ≡ Some n → 0 < pins_at s a → Viewed n) (viewed_pinned : (a n : ℕ) → name_at s a ≡ Some n → Viewed n → 0 < pins_at s a) where
  abbrev pub to : Extent → ℕ
  to e = f e.address

  unpinned : (a n : ℕ) → name_at s a ≡ Some n → ¬ (Viewed n) → pins_at s a ≡ 0
  unpinned a n name none = by_pins (pins_at s a) refl
    where
      by_pins : (p : ℕ) → pins_at s a ≡ p → p ≡ 0
      by_pins zero e = refl
      by_pins (suc p) e = absurd (none (pinned_viewed a n name (omega (arith, e))))

  not_viewed : (a n : ℕ) → name_at s a ≡ Some n → pins_at s a ≡ 0 → ¬ (Viewed n)
  not_viewed a n name none viewed = let some = viewed_pinned a n name viewed in omega (arith, none, some)

  -- blocks that may go elsewhere, and their extents
  loose_block : (b : Block) → block_at s b.address ≡ Some b → IsLoose (layout_of s) Named Viewed (extent_of b) → compact.IsLoose s Kept b.address
  loose_block b at loose = let name = named_at s b.address b at in (named_kept b.address b.birth name loose.1, unpinned b.address b.birth name loose.2)

  loose_extent : (a : ℕ) (b : Block) → block_at s a ≡ Some b → compact.IsLoose s Kept a → IsLoose (layout_of s) Named Viewed (extent_of b)
  loose_extent a b at loose = let name = named_at s a b at in (extent_there s laid a b at, kept_named a b.birth name loose.0, not_viewed a b.birth name loose.1)

  -- cells of a pinned block are those of one that is viewed
  meets : (from size : ℕ) → MeetPinned s from size → MeetViewed (layout_of s) Viewed from size
  meets from size m =
      let b = some_block s m.address (IsAddress-from_pins s m.address m.pinned) in
      let address : (b.0).address ≡ m.address = b.2 in
      let long : size_at s m.address ≡ block_size b.0 = sized_at s m.address b.0 b.1 in
      let above : m.address < from + size = m.above in
      let below : from < end_at s m.address = m.below in
      record {
        extent = extent_of b.0;
        there = extent_there s laid m.address b.0 b.1;
        viewed = pinned_viewed m.address (b.0).birth (named_at s m.address b.0 b.1) m.pinned;
        above = omega (arith, above, address);
        below = omega (arith, below, address, long);
      }

  lowest_of : (b : Block) → block_at s b.address ≡ Some b → IsLoose (layout_of s) Named Viewed (extent_of b)
      → HasLowest (λ (x : Extent). x.address) (λ (x : Extent). x.size) to (IsLoose (layout_of s) Named Viewed) (MeetViewed (layout_of s) Viewed) (extent_of b)
  lowest_of b at loose =
      let p = h.packed b.address (loose_block b at loose) in
      let long : size_at s b.address ≡ block_size b = sized_at s b.address b at in
      record {
        start = p.start;
        begins = ⊎_elim
            (λ (z : p.start ≡ 0). inl z)
            (λ (z : (a : ℕ) × (a < b.address) × compact.IsLoose s Kept a × (f a + size_at s a ≡ p.start)).
            let c = some_block s z.0 (there z.0 z.2.0) in
            let address : (c.0).address ≡ z.0 = c.2 in
            let size : size_at s z.0 ≡ block_size c.0 = sized_at s z.0 c.0 c.1 in
            let goes : f (c.0).address ≡ f z.0 = ap f address in
            let less : z.0 < b.address = z.1 in
            let end : f z.0 + size_at s z.0 ≡ p.start = z.3 in
            inr (extent_of c.0, omega (arith, address, less), loose_extent z.0 c.0 c.1 z.2, omega (arith, goes, size, end)))
            p.begins;
        past = λ e less q.
            let c = block_of s laid e q.0 in
            let same : e ≡ extent_of c.0 = c.2 in
            let address : e.address ≡ (c.0).address = ap (λ (x : Extent). x.address) same in
            let size : e.size ≡ block_size c.0 = ap (λ (x : Extent). x.size) same in
            let goes : f e.address ≡ f (c.0).address = ap f address in
            let there : size_at s (c.0).address ≡ block_size c.0 = sized_at s (c.0).address c.0 c.1 in
            let below : (c.0).address < b.address = omega (arith, less, address) in
            let end : f (c.0).address + size_at s (c.0).address ≤ p.start = p.past (c.0).address below (loose_block c.0 c.1 (subst (λ (x : Extent). IsLoose (layout_of s) Named Viewed x) same q)) in
            omega (arith, size, goes, there, end);
        from_on = p.from_on;
        taken = λ c low high. subst (λ (n : ℕ). MeetViewed (layout_of s) Viewed c n) long (meets c (size_at s b.address) (p.taken c low high));
      }

  pub packed_layout : IsPacked Named Viewed (layout_of s) (layout_of t)
  packed_layout = record {
    to = to;
    kept = λ e c named.
        let b = block_of s laid e c in
        let same : e ≡ extent_of b.0 = b.2 in
        let name : Named (b.0).birth = subst (λ (x : Extent). Named x.name) same named in
        let now = h.kept (b.0).address b.0 (named_kept (b.0).address (b.0).birth (named_at s (b.0).address b.0 b.1) name) b.1 in
        subst (λ (x : Extent). Contains (layout_of t) (moved_to x (f x.address))) (sym same)
        (subst (λ (x : Extent). Contains (layout_of t) x) (extent_moved f b.0) (extent_there t h.laid_out (f (b.0).address) (moved f b.0) now));
    only = λ e c.
        let d = block_of t h.laid_out e c in
        let old = h.only (d.0).address (address_of t (d.0).address d.0 d.1) in
        let b = some_block s old.0 (there old.0 old.1) in
        let now : block_at t (d.0).address ≡ Some (moved f b.0) = ap (block_at t) (sym old.2) ∙ h.kept old.0 b.0 old.1 b.1 in
        let same : d.0 ≡ moved f b.0 = let both : Some d.0 ≡ Some (moved f b.0) = sym d.1 ∙ now in cc in
        (extent_of b.0, extent_there s laid old.0 b.0 b.1, kept_named old.0 (b.0).birth (named_at s old.0 b.0 b.1) old.1, d.2 ∙ ap extent_of same ∙ extent_moved f b.0);
    rising = rising_layout t h.laid_out;
    viewed = λ e c view.
        let b = block_of s laid e c in
        let address : e.address ≡ (b.0).address = ap (λ (x : Extent). x.address) b.2 in
        let viewed : Viewed (b.0).birth = subst (λ (x : Extent). Viewed x.name) b.2 view in
        ap f address ∙ h.pinned (b.0).address (viewed_pinned (b.0).address (b.0).birth (named_at s (b.0).address b.0 b.1) viewed) ∙ sym address;
    lowest = λ e loose.
        let b = block_of s laid e loose.0 in
        subst (λ (x : Extent). HasLowest (λ (y : Extent). y.address) (λ (y : Extent). y.size) to (IsLoose (layout_of s) Named Viewed) (MeetViewed (layout_of s) Viewed) x) (sym b.2)
        (lowest_of b.0 b.1 (subst (λ (x : Extent). IsLoose (layout_of s) Named Viewed x) b.2 loose));
  }

-- ---- a packed layout is packed already

-- where they rise, none is below the first cell
pub above_from : (from : ℕ) (layout : Layout) → RiseFrom from layout → (i : ℕ) (e : Extent) → slice_get layout i ≡ Some e → from ≤ e.address
above_from from [] rises i e at = absurd (cc)
above_from from (d ∷ rest) rises zero e at = let same : d ≡ e = cc in let address : d.address ≡ e.address = ap (λ (x : Extent). x.address) same in let low : from ≤ d.address = rises.0 in omega (arith, low, address)
above_from from (d ∷ rest) rises (suc i) e at = let later = above_from (d.address + d.size) rest rises.2 i e at in let low : from ≤ d.address = rises.0 in omega (arith, later, low)

-- two extents at one address are one, where they rise
one_extent : (from : ℕ) (layout : Layout) → RiseFrom from layout → (i j : ℕ) (a b : Extent) → slice_get layout i ≡ Some a → slice_get layout j ≡ Some b → a.address ≡ b.address → a ≡ b
one_extent from [] rises i j a b at there same = absurd (cc)
one_extent from (e ∷ rest) rises zero zero a b at there same = cc
one_extent from (e ∷ rest) rises zero (suc j) a b at there same =
    let first : e ≡ a = cc in
    let above = above_from (e.address + e.size) rest rises.2 j b there in
    let some : 0 < e.size = rises.1 in
    let address : e.address ≡ a.address = ap (λ (x : Extent). x.address) first in
    absurd (omega (arith, above, some, address, same))
one_extent from (e ∷ rest) rises (suc i) zero a b at there same =
    let first : e ≡ b = cc in
    let above = above_from (e.address + e.size) rest rises.2 i a at in
    let some : 0 < e.size = rises.1 in
    let address : e.address ≡ b.address = ap (λ (x : Extent). x.address) first in
    absurd (omega (arith, above, some, address, same))
one_extent from (e ∷ rest) rises (suc i) (suc j) a b at there same = one_extent (e.address + e.size) rest rises.2 i j a b at there same

-- and none is empty
pub not_empty : (from : ℕ) (layout : Layout) → RiseFrom from layout → (i : ℕ) (e : Extent) → slice_get layout i ≡ Some e → 0 < e.size
not_empty from [] rises i e at = absurd (cc)
not_empty from (d ∷ rest) rises zero e at = let same : d ≡ e = cc in let size : d.size ≡ e.size = ap (λ (x : Extent). x.size) same in let some : 0 < d.size = rises.1 in omega (arith, some, size)
not_empty from (d ∷ rest) rises (suc i) e at = not_empty (d.address + d.size) rest rises.2 i e at

module _ (Kept Viewed : ℕ → Type 0) (old new : Layout) (rises : RiseFrom 0 old) (viewed_kept : (e : Extent) → Contains old e → Viewed e.name → Kept e.name) (h : IsPacked Kept Viewed old new) where
  -- where it was
  loose_before : (e : Extent) → IsLoose new Kept Viewed e → (b : Extent) × IsLoose old Kept Viewed b × (e ≡ moved_to b (h.to b))
  loose_before e loose =
      let b = h.only e loose.0 in
      let name : e.name ≡ (b.0).name = ap (λ (x : Extent). x.name) b.3 in
      (b.0, (b.1, b.2, λ viewed. loose.2 (subst Viewed (sym name) viewed)), b.3)

  filled : (e : Extent) → Contains old e → 0 < e.size
  filled e c = not_empty 0 old rises c.0 e (get-from_contains old e c)

  -- what goes lower was lower
  order : (c b : Extent) → IsLoose old Kept Viewed c → IsLoose old Kept Viewed b → h.to c < h.to b → c.address < b.address
  order c b loose_c loose_b less = by_order (compare c.address b.address)
    where
      compare : (x y : ℕ) → (x < y) ⊎ ((x ≡ y) ⊎ (y < x))
      compare zero zero = inr (inl refl)
      compare zero (suc y) = inl (omega arith)
      compare (suc x) zero = inr (inr (omega arith))
      compare (suc x) (suc y) =
          ⊎_elim (λ (l : x < y). inl (omega (arith, l)))
          (λ (r : (x ≡ y) ⊎ (y < x)). ⊎_elim (λ (e : x ≡ y). inr (inl (ap suc e))) (λ (g : y < x). inr (inr (omega (arith, g)))) r)
          (compare x y)

      by_order : (c.address < b.address) ⊎ ((c.address ≡ b.address) ⊎ (b.address < c.address)) → c.address < b.address
      by_order (inl l) = l
      by_order (inr (inl e)) =
          let same : c ≡ b = one_extent 0 old rises loose_c.0.0 loose_b.0.0 c b (get-from_contains old c loose_c.0) (get-from_contains old b loose_b.0) e in
          let equal : h.to c ≡ h.to b = ap h.to same in
          absurd (omega (arith, less, equal))
      by_order (inr (inr g)) =
          let p = h.lowest c loose_c in
          let end : h.to b + b.size ≤ p.start = p.past b g loose_b in
          let on : p.start ≤ h.to c = p.from_on in
          absurd (omega (arith, end, on, less))

  -- one that is viewed stays among them
  still_meets : (from size : ℕ) → MeetViewed old Viewed from size → MeetViewed new Viewed from size
  still_meets from size m =
      let now = h.kept m.extent m.there (viewed_kept m.extent m.there m.viewed) in
      let stays : moved_to m.extent (h.to m.extent) ≡ m.extent = ap (moved_to m.extent) (h.viewed m.extent m.there m.viewed) in
      record { extent = m.extent; there = subst (λ (x : Extent). Contains new x) stays now; viewed = m.viewed; above = m.above; below = m.below }

  lowest_still : (b : Extent) → IsLoose old Kept Viewed b → HasLowest (λ (x : Extent). x.address) (λ (x : Extent). x.size) (λ (x : Extent). x.address) (IsLoose new Kept Viewed) (MeetViewed new Viewed) (moved_to b (h.to b))
  lowest_still b loose =
      let p = h.lowest b loose in
      record {
        start = p.start;
        begins = ⊎_elim
            (λ (z : p.start ≡ 0). inl z)
            (λ (z : (c : Extent) × (c.address < b.address) × IsLoose old Kept Viewed c × (h.to c + c.size ≡ p.start)).
            let some : 0 < (z.0).size = filled z.0 z.2.0 in
            let end : h.to z.0 + (z.0).size ≡ p.start = z.3 in
            let on : p.start ≤ h.to b = p.from_on in
            inr (moved_to z.0 (h.to z.0), omega (arith, some, end, on), (h.kept z.0 z.2.0 z.2.1, z.2.1, z.2.2), z.3))
            p.begins;
        past = λ e less q.
            let c = loose_before e q in
            let address : e.address ≡ h.to c.0 = ap (λ (x : Extent). x.address) c.2 in
            let size : e.size ≡ (c.0).size = ap (λ (x : Extent). x.size) c.2 in
            let lower : h.to c.0 < h.to b = omega (arith, less, address) in
            let end : h.to c.0 + (c.0).size ≤ p.start = p.past c.0 (order c.0 b c.1 loose lower) c.1 in
            omega (arith, address, size, end);
        from_on = p.from_on;
        taken = λ c low high. still_meets c b.size (p.taken c low high);
      }

  -- so packing it again leaves it as it is
  pub packed_still : IsPacked Kept Viewed new new
  packed_still = record {
    to = λ e. e.address;
    kept = λ e c named. c;
    only = λ e c.
        let b = h.only e c in
        let name : (b.0).name ≡ e.name = sym (ap (λ (x : Extent). x.name) b.3) in
        (e, c, subst Kept name b.2, refl);
    rising = h.rising;
    viewed = λ e c view. refl;
    lowest = λ e loose.
        let b = loose_before e loose in
        subst (λ (x : Extent). HasLowest (λ (y : Extent). y.address) (λ (y : Extent). y.size) (λ (y : Extent). y.address) (IsLoose new Kept Viewed) (MeetViewed new Viewed) x) (sym b.2) (lowest_still b.0 b.1);
  }
