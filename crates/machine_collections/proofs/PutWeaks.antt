-- Weak references that are put back, place by place.
use Rattle.std.proofs.Common.{◌≡◌, ℕ, zero, suc, ◌+◌, ◌<◌, ◌≤◌, true, false, List, [], ◌∷◌, length, get_or, Option, Some, None, refl, sym, ap, ◌∙◌, subst, arith, ⊎_elim}
use Rattle.std.specs.Prelude.{slice_get, ◌==◌}
use Rattle.std.specs.Option.{option_flatten, option_map}
use Rattle.std.proofs.lemmas.Bool.{cases_lt}
use Rattle.std.proofs.lemmas.Bool.Decides.{eqb_tells}
use Rattle.std.proofs.lemmas.List.{length-map}
use Rattle.std.proofs.lemmas.Option.{get_or_from_slice_get, slice_get_within}
use Rattle.compact.specs.Same as compact
use Rattle.semantics.proofs.ReachableLemmas.{in_head, to_contains}
use Rattle.tables.specs.Keys.{value_at}
use Rattle.tables.specs.Weaks.{weak_places, with_weak}
use Rattle.tables.proofs.Keys.{set_other}
use Rattle.heap.specs.Heap.{Space}
use Rattle.machine_scenes.specs.Statics.{StaticReference}
use Rattle.machine_collections.specs.Clearing.{AreCleared, ArePut}
use Rattle.machine_collections.specs.Moving.{AreFollowed}

-- ---- one is put

pub put_here : (slots : List (Option (Option ℕ))) (place : ℕ) (p : Option ℕ) → value_at (with_weak slots place p) place ≡ option_map (λ (held : Option ℕ). p) (value_at slots place)
put_here [] place p = refl
put_here (s ∷ slots) zero p = refl
put_here (s ∷ slots) (suc place) p = put_here slots place p

pub put_long : (slots : List (Option (Option ℕ))) (place : ℕ) (p : Option ℕ) → length (with_weak slots place p) ≡ length slots
put_long [] place p = refl
put_long (s ∷ slots) zero p = refl
put_long (s ∷ slots) (suc place) p = ap suc (put_long slots place p)

pub put_elsewhere : (slots : List (Option (Option ℕ))) (place other : ℕ) (p : Option ℕ) → (other ≡ place → ⊥) → value_at (with_weak slots place p) other ≡ value_at slots other
put_elsewhere slots place other p ne = set_other slots place other (option_map (λ (held : Option ℕ). p) (value_at slots place)) ne

-- ---- all are

value_past : (slots : List (Option (Option ℕ))) (key : ℕ) → length slots ≤ key → value_at slots key ≡ None
value_past [] key past = refl
value_past (s ∷ slots) zero past = absurd (omega (arith, past))
value_past (s ∷ slots) (suc key) past = value_past slots key (omega (arith, past))

pub place_of : (slots : List (Option (Option ℕ))) (key : ℕ) (held : Option ℕ) → value_at slots key ≡ Some held → slice_get (weak_places slots) key ≡ Some held
place_of [] key held at = absurd (cc)
place_of (s ∷ slots) zero held at = ap (λ (o : Option (Option ℕ)). Some (option_flatten o)) at
place_of (s ∷ slots) (suc key) held at = place_of slots key held at

some_place : (places : List (Option ℕ)) (key : ℕ) → key < length places → (p : Option ℕ) × (slice_get places key ≡ Some p)
some_place [] key less = absurd (omega (arith, less))
some_place (p ∷ places) zero less = (p, refl)
some_place (p ∷ places) (suc key) less = some_place places key (omega (arith, less))

-- what follows place by place does so key by key
pub follow_by_keys : (Kept : ℕ → Type 0) (to : ℕ → ℕ) (weaks : List (Option (Option ℕ))) (places : List (Option ℕ)) (after : List (Option (Option ℕ)))
    → compact.AreFollowed Kept to (weak_places weaks) places → ArePut weaks places after → AreFollowed Kept to weaks after
follow_by_keys Kept to weaks places after f h = record {
  free = λ key none.
      ⊎_elim
      (λ (l : key < length weaks).
      let p = some_place places key (omega (arith, l, f.count, length-map weaks (λ (o : Option (Option ℕ)). option_flatten o))) in
      h.put key p.0 p.1 ∙ ap (option_map (λ (held : Option ℕ). p.0)) none)
      (λ (l : length weaks ≤ key). value_past after key (omega (arith, l, h.count)))
      (cases_lt key (length weaks));
  cleared = λ key was. h.put key None (f.none key (place_of weaks key None was)) ∙ ap (option_map (λ (held : Option ℕ). None)) was;
  kept = λ key a was k. h.put key (Some (to a)) (f.kept key a (place_of weaks key (Some a) was) k) ∙ ap (option_map (λ (held : Option ℕ). Some (to a))) was;
  gone = λ key a was k. h.put key None (f.cleared key a (place_of weaks key (Some a) was) k) ∙ ap (option_map (λ (held : Option ℕ). None)) was;
}

-- ---- one place more

-- before a place each has what its place has, and from it on each is as it was
pub record PutTo (weaks : List (Option (Option ℕ))) (places : List (Option ℕ)) (now : List (Option (Option ℕ))) (place : ℕ) : Type 0 where
  pub count : length now ≡ length weaks
  pub done : (key : ℕ) (p : Option ℕ) → key < place → slice_get places key ≡ Some p → value_at now key ≡ option_map (λ (held : Option ℕ). p) (value_at weaks key)
  pub rest : (key : ℕ) → place ≤ key → value_at now key ≡ value_at weaks key

pub put_next : (weaks : List (Option (Option ℕ))) (places : List (Option ℕ)) (now after : List (Option (Option ℕ))) (place : ℕ) (q : Option ℕ) → PutTo weaks places now place → q ≡ get_or places place q → after ≡ with_weak now place q → PutTo weaks places after (place + 1)
put_next weaks places now after place q h is change = record {
  count = ap length change ∙ put_long now place q ∙ h.count;
  done = λ key p less at.
      ⊎_elim
      (λ (t : ((key == place) ≡ true) × (key ≡ place)).
      let here : slice_get places place ≡ Some p = ap (slice_get places) (sym t.1) ∙ at in
      let same : q ≡ p = is ∙ get_or_from_slice_get places place p q here in
      ap (value_at after) t.1 ∙ ap (λ (l : List (Option (Option ℕ))). value_at l place) change ∙ put_here now place q
      ∙ ap (λ (r : Option ℕ). option_map (λ (held : Option ℕ). r) (value_at now place)) same
      ∙ ap (option_map (λ (held : Option ℕ). p)) (h.rest place (omega arith) ∙ ap (value_at weaks) (sym t.1)))
      (λ (t : ((key == place) ≡ false) × (key ≡ place → ⊥)).
      ap (λ (l : List (Option (Option ℕ))). value_at l key) change ∙ put_elsewhere now place key q t.1 ∙ h.done key p (below key (omega (arith, less)) t.1) at)
      (eqb_tells key place);
  rest = λ key above. ap (λ (l : List (Option (Option ℕ))). value_at l key) change ∙ put_elsewhere now place key q (λ e. omega (arith, above, e)) ∙ h.rest key (omega (arith, above));
}
  where
    below : (key : ℕ) → key ≤ place → (key ≡ place → ⊥) → key < place
    below key le ne = ⊎_elim (λ (l : key < place). l) (λ (r : place ≤ key). absurd (ne (omega (arith, le, r)))) (cases_lt key place)

pub put_all : (weaks : List (Option (Option ℕ))) (places : List (Option ℕ)) (now : List (Option (Option ℕ))) (place : ℕ) → PutTo weaks places now place → length places ≤ place → ArePut weaks places now
put_all weaks places now place h past = record {
  count = h.count;
  put = λ key p at. h.done key p (let less = slice_get_within places key p at in omega (arith, less, past)) at;
}

-- ---- there are none

none_has : (weaks : List (Option (Option ℕ))) → weaks ≡ [] → (key : ℕ) → value_at weaks key ≡ None
none_has weaks none key = ap (λ (l : List (Option (Option ℕ))). value_at l key) none ∙ value_past [] key (omega arith)

-- none follows
pub none_followed : (Kept : ℕ → Type 0) (f : ℕ → ℕ) (weaks after : List (Option (Option ℕ))) → weaks ≡ [] → after ≡ [] → AreFollowed Kept f weaks after
none_followed Kept f weaks after before now = record {
  free = λ key h. none_has after now key;
  cleared = λ key h. absurd (let no = none_has weaks before key in cc (h, no));
  kept = λ key a h k. absurd (let no = none_has weaks before key in cc (h, no));
  gone = λ key a h k. absurd (let no = none_has weaks before key in cc (h, no));
}

-- and none is cleared
pub none_cleared : (space : Space) (statics : List StaticReference) (weaks after : List (Option (Option ℕ))) (names : List ℕ) → weaks ≡ [] → names ≡ [] → AreCleared space statics weaks after names
none_cleared space statics weaks after names none empty = subst (AreCleared space statics weaks after) (sym empty) (record {
  rising = λ k within. absurd (omega (arith, within));
  sound = λ n there. absurd (omega (arith, there.1));
  complete = λ n h. absurd (let no = none_has weaks none h.key in cc (h.held, no));
})

-- where each is as it was, none is cleared
pub none_gone : (space : Space) (statics : List StaticReference) (weaks : List (Option (Option ℕ))) (names : List ℕ) → AreCleared space statics weaks weaks names → names ≡ []
none_gone space statics weaks [] h = refl
none_gone space statics weaks (n ∷ names) h =
    let was = h.sound n (to_contains (n ∷ names) n (in_head n names)) in
    let both : ◌≡◌ {A = Option (Option ℕ)} (Some (Some was.address)) (Some None) = sym was.held ∙ was.gone in
    absurd (cc)
