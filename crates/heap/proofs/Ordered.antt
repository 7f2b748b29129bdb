-- Blocks that move in order, and are listed as they move.
use Rattle.std.proofs.Common.{◌≡◌, ◌≢◌, ℕ, zero, suc, ◌+◌, ◌<◌, ◌≤◌, Bool, true, false, List, [], ◌∷◌, length, map, get_or, set, take, Some, refl, sym, ap, ◌∙◌, subst, arith, ⊎_elim}
use Rattle.std.specs.Prelude.{slice_get}
use Rattle.std.proofs.lemmas.Bool.{cases_eq, both_ways}
use Rattle.std.proofs.lemmas.List.{get_or-set_same, get_or-set_other, get_or-take, length-set, length-take-le, get_or_default}
use Rattle.std.proofs.lemmas.Option.{slice_get_within, same_Some}
use Rattle.heap.specs.declared.value.Value.{Value}
use Rattle.heap.specs.Heap.{Space, IsLaidOut, addresses, block_end, end_from, LieFrom}
use Rattle.heap.specs.Values.{AreForwarded, word_in}
use Rattle.heap.specs.Cells.{block_in, space_in}
use Rattle.heap.specs.Marks.{is_kept}
use Rattle.heap.specs.Places.{AreInOrder, IsPlacement}
use Rattle.heap.specs.Moves.{end_in, AreListed, AreMovedInOrder}
use Rattle.heap.proofs.WordLaws.{length-cells_from}
use Rattle.heap.proofs.Places.{rising, place_of}
use Rattle.heap.proofs.Moving.{IsMoving, moving_none, moving_skip, moving_step, moving_end, start_at, start_within}

-- ---- the loop

-- the first blocks have moved, and their new addresses are listed; `virtual` are the marks that `move_blocks` would leave
pub record IsMovingInOrder (s : Space) (cs : List Value) (ps : List ℕ) (kept : List Bool) (to : ℕ → ℕ) (was : List ℕ) (i : ℕ) (ds : List Value) (qs now : List ℕ) (marks : List Bool) (listed : ℕ) : Type 0 where
  pub virtual : List Bool
  pub moving : IsMoving s cs ps kept to i ds qs virtual
  pub starts : length now ≡ length was
  pub first : listed ≤ i
  pub starts_ahead : (k : ℕ) → i ≤ k → get_or now k 0 ≡ get_or was k 0
  pub only : (j : ℕ) → j < listed → (k : ℕ) × (a : ℕ) × (k < i) × (slice_get (addresses s) k ≡ Some a) × (is_kept kept a ≡ true) × (to a ≡ get_or now j 0)
  pub all : (k a : ℕ) → k < i → slice_get (addresses s) k ≡ Some a → is_kept kept a ≡ true → (j : ℕ) × (j < listed) × (get_or now j 0 ≡ to a)
  pub rises : (j k : ℕ) → j < k → k < listed → get_or now j 0 < get_or now k 0
  pub count : length marks ≡ length kept
  pub marks_ahead : (k a : ℕ) → i ≤ k → slice_get (addresses s) k ≡ Some a → is_kept marks a ≡ is_kept kept a
  pub clear : (x : ℕ) → is_kept marks x ≡ true → (k : ℕ) × (i ≤ k) × (slice_get (addresses s) k ≡ Some x)

pub ordered_none : (s : Space) (cs : List Value) (ps : List ℕ) (kept : List Bool) (to : ℕ → ℕ) (was : List ℕ) → IsPlacement s kept to → IsMovingInOrder s cs ps kept to was 0 cs ps was kept 0
ordered_none s cs ps kept to was h = record {
  virtual = kept;
  moving = moving_none s cs ps kept to h;
  starts = refl;
  first = omega arith;
  starts_ahead = λ k l. refl;
  only = λ j l. absurd (omega arith);
  all = λ k a l. absurd (omega arith);
  rises = λ j k l m. absurd (omega arith);
  count = refl;
  marks_ahead = λ k a l e. refl;
  clear = λ x m. let there = place_of s x (h.blocks x m) in (there.0, omega arith, there.2);
}

-- a block is gone
pub ordered_skip : (s : Space) (cs : List Value) (ps : List ℕ) (kept : List Bool) (to : ℕ → ℕ) (was : List ℕ) (i a : ℕ) (ds : List Value) (qs now : List ℕ) (marks : List Bool) (listed : ℕ) → IsMovingInOrder s cs ps kept to was i ds qs now marks listed → slice_get (addresses s) i ≡ Some a → is_kept marks a ≡ false → IsMovingInOrder s cs ps kept to was (i + 1) ds qs now marks listed
ordered_skip s cs ps kept to was i a ds qs now marks listed h at unmarked =
    let unkept : is_kept kept a ≡ false = sym (h.marks_ahead i a (omega arith) at) ∙ unmarked in
    let none : is_kept h.virtual a ≡ false = h.moving.marks_ahead i a a (omega arith) at (omega arith) ∙ unkept in
    let first : listed ≤ i = h.first in
    record {
      virtual = h.virtual;
      moving = moving_skip s cs ps kept to i a ds qs h.virtual h.moving at none;
      starts = h.starts;
      first = omega arith;
      starts_ahead = λ k l. h.starts_ahead k (omega arith);
      only = λ j l. let o = h.only j l in let below : o.0 < i = o.2 in (o.0, o.1, omega arith, o.3, o.4, o.5);
      all = λ k b l e m. ⊎_elim
          (λ (q : k ≡ i). absurd (both_ways (is_kept kept a) unkept (subst (λ n. is_kept kept n ≡ true) (same_Some b a (sym (subst (λ n. slice_get (addresses s) n ≡ Some b) q e) ∙ at)) m)))
          (λ (ne : k ≡ i → ⊥). h.all k b (omega arith) e m)
          (cases_eq k i);
      rises = h.rises;
      count = h.count;
      marks_ahead = λ k b l e. h.marks_ahead k b (omega arith) e;
      clear = λ x m.
          let o = h.clear x m in
          let from : i ≤ o.0 = o.1 in
          ⊎_elim
          (λ (q : o.0 ≡ i). absurd (both_ways (is_kept marks a) unmarked (subst (λ n. is_kept marks n ≡ true) (same_Some x a (sym (subst (λ n. slice_get (addresses s) n ≡ Some x) q o.2) ∙ at)) m)))
          (λ (ne : o.0 ≡ i → ⊥). (o.0, omega arith, o.2))
          (cases_eq o.0 i);
    }

-- a block moves
pub ordered_step : (cs : List Value) (ps starts : List ℕ) (s : Space) (kept : List Bool) (to : ℕ → ℕ) (was : List ℕ) (i a b : ℕ) (ds : List Value) (qs now : List ℕ) (marks : List Bool) (listed : ℕ) (es : List Value) → space_in cs ps starts ≡ s → IsLaidOut s → IsPlacement s kept to → AreInOrder kept to → length ps ≡ length cs → length kept ≡ length cs → IsMovingInOrder s cs ps kept to was i ds qs now marks listed → slice_get (addresses s) i ≡ Some a → is_kept marks a ≡ true → a < length kept → i < length was → b ≡ to a → get_or ps a 0 ≡ 0 → AreForwarded to ds es a (3 + word_in ds (a + 2)) b → IsMovingInOrder s cs ps kept to was (i + 1) es (set qs b 0) (set now listed b) (set marks a false) (listed + 1)
ordered_step cs ps starts s kept to was i a b ds qs now marks listed es e laid p order counted many h at mark within more goes loose copied =
    let stays : is_kept kept a ≡ true = sym (h.marks_ahead i a (omega arith) at) ∙ mark in
    let virtual : is_kept h.virtual a ≡ true = h.moving.marks_ahead i a a (omega arith) at (omega arith) ∙ stays in
    let pinned : 0 ≡ get_or qs a 0 = sym (h.moving.pins_ahead i a a (omega arith) at (omega arith) ∙ loose) in
    let first : listed ≤ i = h.first in
    let long : length now ≡ length was = h.starts in
    let wide : length marks ≡ length kept = h.count in
    let here : get_or (set now listed b) listed 0 ≡ b = get_or-set_same now listed b 0 (omega arith) in
    let other : (j : ℕ) → j ≢ listed → get_or (set now listed b) j 0 ≡ get_or now j 0 = λ j ne. get_or-set_other now listed j b 0 ne in
    record {
      virtual = set (set h.virtual a false) b true;
      moving = moving_step cs ps starts s kept to i a b ds qs h.virtual es 0 e laid p counted many h.moving at virtual goes pinned copied;
      starts = length-set now listed b ∙ h.starts;
      first = omega arith;
      starts_ahead = λ k l. other k (λ q. absurd (omega arith)) ∙ h.starts_ahead k (omega arith);
      only = λ j l. ⊎_elim
          (λ (q : j ≡ listed). (i, a, omega arith, at, stays, sym goes ∙ sym here ∙ ap (λ n. get_or (set now listed b) n 0) (sym q)))
          (λ (ne : j ≡ listed → ⊥). let o = h.only j (omega arith) in let below : o.0 < i = o.2 in (o.0, o.1, omega arith, o.3, o.4, o.5 ∙ sym (other j ne)))
          (cases_eq j listed);
      all = λ k c l f m. ⊎_elim
          (λ (q : k ≡ i).
          let one : c ≡ a = same_Some c a (sym (subst (λ n. slice_get (addresses s) n ≡ Some c) q f) ∙ at) in
          (listed, omega arith, here ∙ goes ∙ sym (ap to one)))
          (λ (ne : k ≡ i → ⊥). let o = h.all k c (omega arith) f m in let below : o.0 < listed = o.1 in (o.0, omega arith, other o.0 (λ q. absurd (omega arith)) ∙ o.2))
          (cases_eq k i);
      rises = λ j k l m.
          let low : get_or (set now listed b) j 0 ≡ get_or now j 0 = other j (λ q. absurd (omega arith)) in
          ⊎_elim
          (λ (q : k ≡ listed).
          let high : get_or (set now listed b) k 0 ≡ b = ap (λ n. get_or (set now listed b) n 0) q ∙ here in
          let o = h.only j (omega arith) in
          let end = rising s o.0 i o.1 a laid o.2 o.3 at in
          let up = order o.1 a o.4 stays (omega arith) in
          let is : to o.1 ≡ get_or now j 0 = o.5 in
          omega arith)
          (λ (ne : k ≡ listed → ⊥).
          let high : get_or (set now listed b) k 0 ≡ get_or now k 0 = other k ne in
          let up = h.rises j k l (omega arith) in
          omega arith)
          (cases_eq k listed);
      count = length-set marks a false ∙ h.count;
      marks_ahead = λ k c l f. let above = rising s i k a c laid (omega arith) at f in get_or-set_other marks a c false false (λ q. absurd (omega arith)) ∙ h.marks_ahead k c (omega arith) f;
      clear = λ x w. ⊎_elim
          (λ (q : x ≡ a). absurd (both_ways (is_kept (set marks a false) a) (get_or-set_same marks a false false (omega arith)) (subst (λ n. is_kept (set marks a false) n ≡ true) q w)))
          (λ (ne : x ≡ a → ⊥).
          let o = h.clear x (sym (get_or-set_other marks a x false false ne) ∙ w) in
          let from : i ≤ o.0 = o.1 in
          ⊎_elim
          (λ (r : o.0 ≡ i). absurd (ne (same_Some x a (sym (subst (λ n. slice_get (addresses s) n ≡ Some x) r o.2) ∙ at))))
          (λ (nr : o.0 ≡ i → ⊥). (o.0, omega arith, o.2))
          (cases_eq o.0 i))
          (cases_eq x a);
    }

-- the next block
pub next_start : (cs : List Value) (ps was : List ℕ) (kept : List Bool) (to : ℕ → ℕ) (i : ℕ) (ds : List Value) (qs now : List ℕ) (marks : List Bool) (listed : ℕ) → IsLaidOut (space_in cs ps was) → IsMovingInOrder (space_in cs ps was) cs ps kept to was i ds qs now marks listed → i < length was → (slice_get (addresses (space_in cs ps was)) i ≡ Some (get_or now i 0)) × (get_or now i 0 + (3 + word_in cs (get_or now i 0 + 2)) ≤ length cs)
next_start cs ps was kept to i ds qs now marks listed laid h l =
    let is : get_or now i 0 ≡ get_or was i 0 = h.starts_ahead i (omega arith) in
    (start_at cs ps was i l ∙ sym (ap (λ n. Some n) is), subst (λ n. n + (3 + word_in cs (n + 2)) ≤ length cs) (sym is) (start_within cs ps was i laid l))

-- all blocks have moved
pub ordered_end : (s : Space) (cs : List Value) (ps : List ℕ) (kept : List Bool) (to : ℕ → ℕ) (was : List ℕ) (i : ℕ) (ds : List Value) (qs now : List ℕ) (marks : List Bool) (listed : ℕ) → IsPlacement s kept to → IsMovingInOrder s cs ps kept to was i ds qs now marks listed → length (addresses s) ≤ i → i ≤ length was → AreMovedInOrder cs ps kept to ds qs now listed
ordered_end s cs ps kept to was i ds qs now marks listed p h all within =
    let moved = moving_end s cs ps kept to i ds qs h.virtual p h.moving all in
    let first : listed ≤ i = h.first in
    let long : length now ≡ length was = h.starts in
    record {
      marks = h.virtual;
      moved = moved;
      within = omega arith;
      listed = λ x m.
          let old = moved.only x m in
          let there = place_of s old.0 (p.blocks old.0 old.1) in
          let inside = slice_get_within (addresses s) there.0 old.0 there.2 in
          let o = h.all there.0 old.0 (omega arith) there.2 old.1 in
          (o.0, o.1, subst (λ n. get_or now o.0 0 ≡ n) old.2 o.2);
      only = λ j l. let o = h.only j l in subst (λ n. is_kept h.virtual n ≡ true) o.5 (moved.marked o.1 o.4);
      rising = h.rises;
    }

pub none_marked : (s : Space) (cs : List Value) (ps : List ℕ) (kept : List Bool) (to : ℕ → ℕ) (was : List ℕ) (i : ℕ) (ds : List Value) (qs now : List ℕ) (marks : List Bool) (listed x : ℕ) → IsMovingInOrder s cs ps kept to was i ds qs now marks listed → length (addresses s) ≤ i → is_kept marks x ≡ false
none_marked s cs ps kept to was i ds qs now marks listed x h all = by_mark (is_kept marks x) refl
  where
    by_mark : (b : Bool) → is_kept marks x ≡ b → is_kept marks x ≡ false
    by_mark false e = e
    by_mark true e =
        let o = h.clear x e in
        let from : i ≤ o.0 = o.1 in
        let within = slice_get_within (addresses s) o.0 x o.2 in
        absurd (omega arith)

-- ---- the list

-- blocks none of which overlaps a later one lie one after another
lie_in_order : (cs : List Value) (ps : List ℕ) (from : ℕ) (xs : List ℕ) → ((k : ℕ) → k < length xs → from ≤ get_or xs k 0) → ((j k : ℕ) → j < k → k < length xs → end_in cs (get_or xs j 0) ≤ get_or xs k 0) → ((k : ℕ) → k < length xs → end_in cs (get_or xs k 0) ≤ length cs) → from ≤ length cs → LieFrom from (map (block_in cs ps) xs) (length cs)
lie_in_order cs ps from [] low apart inside room = room
lie_in_order cs ps from (x ∷ xs) low apart inside room =
    let count = length-cells_from cs (x + 3) (word_in cs (x + 2)) in
    let first = inside 0 (omega arith) in (
      low 0 (omega arith),
      lie_in_order cs ps (block_end (block_in cs ps x)) xs
          (λ k l. let a = apart 0 (suc k) (omega arith) (omega arith) in omega arith)
          (λ j k l m. apart (suc j) (suc k) (omega arith) (omega arith))
          (λ k l. inside (suc k) (omega arith))
          (omega arith),
    )

end_of_list : (cs : List Value) (ps : List ℕ) (from : ℕ) (xs : List ℕ) (k : ℕ) → k + 1 ≡ length xs → end_from from (map (block_in cs ps) xs) ≡ end_in cs (get_or xs k 0)
end_of_list cs ps from [] k e = absurd (omega arith)
end_of_list cs ps from (x ∷ []) zero e = let count = length-cells_from cs (x + 3) (word_in cs (x + 2)) in omega arith
end_of_list cs ps from (x ∷ []) (suc k) e = absurd (omega arith)
end_of_list cs ps from (x ∷ y ∷ xs) zero e = absurd (omega arith)
end_of_list cs ps from (x ∷ y ∷ xs) (suc k) e = end_of_list cs ps (block_end (block_in cs ps x)) (y ∷ xs) k (omega arith)

ends_there : (cs : List Value) (ps xs : List ℕ) (end : ℕ) → (length xs ≡ 0 → end ≡ 0) → ((k : ℕ) → k + 1 ≡ length xs → end ≡ end_in cs (get_or xs k 0)) → end ≡ end_from 0 (map (block_in cs ps) xs)
ends_there cs ps [] end none last = none refl
ends_there cs ps (x ∷ xs) end none last = last (length xs) (omega arith) ∙ sym (end_of_list cs ps 0 (x ∷ xs) (length xs) (omega arith))

-- what is taken of a list
pub taken_count : (starts xs : List ℕ) (count : ℕ) → count ≤ length starts → xs ≡ take count starts → length xs ≡ count
taken_count starts xs count within is = ap length is ∙ length-take-le count starts within

pub taken_same : (starts xs : List ℕ) (count j : ℕ) → xs ≡ take count starts → j < count → get_or xs j 0 ≡ get_or starts j 0
taken_same starts xs count j is l = ap (λ (ys : List ℕ). get_or ys j 0) is ∙ get_or-take count starts j 0 l

-- the first of the list are the blocks
pub listed_in_order : (cs : List Value) (ps : List ℕ) (kept : List Bool) (to : ℕ → ℕ) (ds : List Value) (qs starts : List ℕ) (count : ℕ) (xs : List ℕ) (end : ℕ) (m : AreMovedInOrder cs ps kept to ds qs starts count) → length xs ≡ count → ((j : ℕ) → j < count → get_or xs j 0 ≡ get_or starts j 0) → ((x y : ℕ) → is_kept m.marks x ≡ true → is_kept m.marks y ≡ true → x < y → end_in ds x ≤ y) → ((x : ℕ) → is_kept m.marks x ≡ true → end_in ds x ≤ length ds) → (length xs ≡ 0 → end ≡ 0) → ((k : ℕ) → k + 1 ≡ length xs → end ≡ end_in ds (get_or xs k 0)) → AreListed ds m.marks xs end
listed_in_order cs ps kept to ds qs starts count xs end m long same apart inside none last =
    let marked : (j : ℕ) → j < count → is_kept m.marks (get_or xs j 0) ≡ true = λ j l. subst (λ n. is_kept m.marks n ≡ true) (sym (same j l)) (m.only j l) in
    record {
      laid_out = λ rs. lie_in_order ds rs 0 xs
          (λ k l. omega arith)
          (λ j k l u.
          let up = m.rising j k l (omega arith) in
          let one = same j (omega arith) in
          let two = same k (omega arith) in
          apart (get_or xs j 0) (get_or xs k 0) (marked j (omega arith)) (marked k (omega arith)) (omega arith))
          (λ k l. inside (get_or xs k 0) (marked k (omega arith)))
          (omega arith);
      after = λ rs. ends_there ds rs xs end none last;
      listed = λ x k. let o = m.listed x k in let below : o.0 < count = o.1 in (o.0, omega arith, get_or_default xs o.0 x 0 (omega arith) ∙ same o.0 o.1 ∙ o.2);
      only = λ x c.
          let below : c.0 < length xs = c.1 in
          subst (λ n. is_kept m.marks n ≡ true) (get_or_default xs c.0 0 x below ∙ c.2) (marked c.0 (omega arith));
    }
