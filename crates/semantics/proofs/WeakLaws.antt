-- What a clearing of weak references leaves, that what is lost may be cleared, and that there are no more clearings than steps.
use Rattle.std.specs.Prelude.{◌≡◌, ◌≢◌, ℕ, zero, suc, ◌+◌, ◌≤◌, Bool, true, false, not, ◌&&◌, nat_lt, cond, ◌⊎◌, List, [], ◌∷◌, ◌++◌, length, map, filter, Option, Some, None, IsSome, refl}
use Rattle.std.specs.List.{list_all, list_any, cons_option}
use Rattle.std.specs.Option.{option_map, option_and_then, option_map_or}
use Rattle.std.proofs.Common.{sym, ◌∙◌, ap, subst, inl, inr, arith}
use Rattle.std.proofs.lemmas.Bool.{false≢true, false_from_ne_true, and_from, and_parts, both_ways, not-true}
use Rattle.std.proofs.lemmas.Bool.Decides.{nat_tests}
use Rattle.std.proofs.lemmas.List.{append-nil}
use Rattle.std.proofs.lemmas.List.Elements.{filter-append}
use Rattle.std.proofs.lemmas.Option.{cond_some}
use Rattle.syntax.specs.Tree.{Static, SourceUnit}
use Rattle.semantics.specs.AccountLaws.{ClearingsStay, ClearingsAreFew, LostAreCleared}
use Rattle.semantics.specs.Heap.{Heap}
use Rattle.semantics.specs.Journal.{Step, Clearing, Journal, is_step_of, steps_in, clearings_in}
use Rattle.semantics.specs.Reachable.{from_one, roots, IsName, Reached, FromRoot, FromObject, Reachable, is_in, rising, reachable}
use Rattle.semantics.specs.Run.{replay, replay_from, account_at, entries_of, ending_of}
use Rattle.semantics.specs.Start.{start, null_static}
use Rattle.syntax.specs.Parts.{statics_of}
use Rattle.semantics.specs.State.{State}
use Rattle.semantics.specs.Step.{turn_step, clearing_step}
use Rattle.semantics.specs.declared.event.Ending.TheVariants.{Unfinished}
use Rattle.semantics.specs.Thread.{Thread}
use Rattle.semantics.specs.Variable.{StaticReference, Empty, Live, Weakly, Cleared, Deleted, Statics}
use Rattle.semantics.specs.WeakReferences.{weak_object, weakly_held, are_rising, held_beside, reached_with, may_clear, cleared, cleared_statics, with_cleared, lost}
use Rattle.semantics.specs.World.{World}
use Rattle.semantics.proofs.AccountLaws.{left_out}
use Rattle.semantics.proofs.ReachableLemmas.{In, in_head, in_tail, in_cases, in_append_cases, in_filter, from_filter, to_contains, contains_in, reached_lists, reachable_lists}
use Rattle.semantics.proofs.RunLaws.{replay_from-append}
use Rattle.semantics.proofs.StaticCounts.{held, held_is, turn_adds}
use Rattle.semantics.proofs.ClearedMade.{thread_stays}

-- ---- a clearing

-- where it is possible, this is what it leaves
pub clearing_leaves : (w : World) (s next : State) (names : List ℕ) → clearing_step w s names ≡ Some next → (may_clear w s names ≡ true) × (with_cleared names s ≡ next)
unfolding clearing_step
clearing_leaves w s next names h = cond_some (may_clear w s names) (with_cleared names s) next h

module _ (unit : SourceUnit) (w : World) (journal : Journal) (names : List ℕ) (k : ℕ) where
  longer : Journal
  longer = journal ++ Clearing names ∷ []

  same_part : (s : State) → account_at longer k (with_cleared names s) ≡ account_at journal k s
  unfolding longer
  same_part s =
      let entries : entries_of (journal ++ Clearing names ∷ []) k ≡ entries_of journal k = ap length (left_out (is_step_of k) journal (Clearing names) refl) in
      let ending : ending_of (with_cleared names s) k ≡ ending_of s k = ap (λ (o : Option Thread). option_map_or (λ (t : Thread). t.ending) o Unfinished) (thread_stays s names k) in
      rw (entries, ending) refl

  last : (s : State) (o : Option State) → clearing_step w s names ≡ o → IsSome (option_and_then (λ s'. replay_from unit w s' []) o)
      → option_map (account_at longer k) (option_and_then (λ s'. replay_from unit w s' []) o) ≡ Some (account_at journal k s)
  last s None is h = absurd (false≢true h)
  last s (Some next) is h = ap Some (subst (λ (x : State). account_at longer k x ≡ account_at journal k s) (clearing_leaves w s next names is).1 (same_part s))

  before : (o : Option State) → IsSome (option_and_then (λ s. replay_from unit w s (Clearing names ∷ [])) o)
      → option_map (account_at longer k) (option_and_then (λ s. replay_from unit w s (Clearing names ∷ [])) o) ≡ option_map (account_at journal k) o
  before None h = absurd (false≢true h)
  before (Some s) h = last s (clearing_step w s names) refl h

pub clearings_stay : ClearingsStay
unfolding longer
clearings_stay unit w journal names k some =
    let split = replay_from-append unit w (start unit w) journal (Clearing names ∷ []) in
    ap (option_map (account_at (journal ++ Clearing names ∷ []) k)) split
    ∙ before unit w journal names k (replay unit w journal) (subst (λ (o : Option State). IsSome o) split some)

-- ---- lists of names

pub all_of : (p : ℕ → Bool) (xs : List ℕ) → ((x : ℕ) → In xs x → p x ≡ true) → list_all p xs ≡ true
all_of p [] h = refl
all_of p (y ∷ ys) h = and_from (p y) (list_all p ys) (h y (in_head y ys)) (all_of p ys (λ x k. h x (in_tail y ys x k)))

pub none_of : (p : ℕ → Bool) (xs : List ℕ) → ((x : ℕ) → In xs x → p x ≡ false) → list_any p xs ≡ false
none_of p [] h = refl
none_of p (y ∷ ys) h = rw (h y (in_head y ys), none_of p ys (λ x k. h x (in_tail y ys x k))) refl

nothing_in : (xs : List ℕ) → ((x : ℕ) → In xs x → ⊥) → xs ≡ []
nothing_in [] h = refl
nothing_in (y ∷ ys) h = absurd (h y (in_head y ys))

pub in_from_one : (n x : ℕ) → In (from_one n) x → x ≤ n
in_from_one zero x h = absurd (false≢true h)
in_from_one (suc n) x h = by_part (in_append_cases (from_one n) (suc n ∷ []) x h) (in_from_one n x)
  where
    by_last : (suc n ≡ x) ⊎ In [] x → x ≤ suc n
    by_last (inl e) = omega (arith, e)
    by_last (inr k) = absurd (false≢true k)

    by_part : In (from_one n) x ⊎ In (suc n ∷ []) x → (In (from_one n) x → x ≤ n) → x ≤ suc n
    by_part (inl k) further = let low = further k in omega (arith, low)
    by_part (inr k) further = by_last (in_cases (suc n) [] x k)

-- the list is empty, or rises
abbrev Ascends : List ℕ → Type 0
Ascends xs = (xs ≡ []) ⊎ (are_rising xs ≡ true)

rising_further : (xs : List ℕ) (n : ℕ) → Ascends xs → list_all (λ m. nat_lt m n) xs ≡ true → are_rising (xs ++ n ∷ []) ≡ true
rising_further [] n h below = refl
rising_further (x ∷ []) n h below = and_from (nat_lt x n) true (and_parts (nat_lt x n) true below).0 refl
rising_further (x ∷ y ∷ xs) n (inl e) below = absurd (cc)
rising_further (x ∷ y ∷ xs) n (inr r) below =
    let parts = and_parts (nat_lt x y) (are_rising (y ∷ xs)) r in
    let under = and_parts (nat_lt x n) (list_all (λ m. nat_lt m n) (y ∷ xs)) below in
    and_from (nat_lt x y) (are_rising (y ∷ xs ++ n ∷ [])) parts.0 (rising_further (y ∷ xs) n (inr parts.1) under.1)

ascends : (p : ℕ → Bool) (n : ℕ) → Ascends (filter p (from_one n))
ascends p zero = inl refl
ascends p (suc n) = subst Ascends (sym (filter-append p (from_one n) (suc n ∷ []))) (by_last (p (suc n)) (ascends p n))
  where
    less : (x : ℕ) → In (filter p (from_one n)) x → nat_lt x (suc n) ≡ true
    less x k = let low = in_from_one n x (from_filter p (from_one n) x k).1 in grind (arith, nat_tests, low)

    by_last : (b : Bool) → Ascends (filter p (from_one n)) → Ascends (filter p (from_one n) ++ cond b (suc n ∷ []) [])
    by_last true front = inr (rising_further (filter p (from_one n)) (suc n) front (all_of (λ m. nat_lt m (suc n)) (filter p (from_one n)) less))
    by_last false front = subst Ascends (sym (append-nil (filter p (from_one n)))) front

filter_twice : (p q : ℕ → Bool) (xs : List ℕ) → filter p (filter q xs) ≡ filter (λ x. q x && p x) xs
filter_twice p q [] = refl
filter_twice p q (y ∷ ys) = by_first (q y) (filter_twice p q ys)
  where
    by_first : (b : Bool) → filter p (filter q ys) ≡ filter (λ x. q x && p x) ys
        → filter p (cond b (y ∷ filter q ys) (filter q ys)) ≡ cond (b && p y) (y ∷ filter (λ x. q x && p x) ys) (filter (λ x. q x && p x) ys)
    by_first true further = ap (λ l. cond (p y) (y ∷ l) l) further
    by_first false further = further

-- ---- the weak references that are left

weak_left : (names : List ℕ) (ss : Statics) → weakly_held (cleared_statics names ss) ≡ filter (λ n. not (is_in names n)) (weakly_held ss)
weak_left names [] = refl
weak_left names ((x, r) ∷ ss) = one r (weak_left names ss)
  where
    by_test : (n : ℕ) (b : Bool) (xs ys : List ℕ) → xs ≡ ys → cons_option (weak_object (cond b Cleared (Weakly n))) xs ≡ cond (not b) (n ∷ ys) ys
    by_test n true xs ys e = e
    by_test n false xs ys e = ap (λ l. n ∷ l) e

    one : (r : StaticReference) → weakly_held (cleared_statics names ss) ≡ filter (λ n. not (is_in names n)) (weakly_held ss)
        → cons_option (weak_object (cleared names r)) (weakly_held (cleared_statics names ss)) ≡ filter (λ n. not (is_in names n)) (cons_option (weak_object r) (weakly_held ss))
    one Empty e = e
    one (Live n) e = e
    one (Weakly n) e = by_test n (is_in names n) _ _ e
    one Cleared e = e
    one Deleted e = e

-- ---- what is lost may be cleared

module _ (w : World) (s : State) where
  abbrev objects : Heap
  objects = s.shared.heap

  abbrev weakly : List ℕ
  weakly = weakly_held s.shared.statics

  in_lost : (x : ℕ) → In (lost w s) x → (is_in (reachable w s) x ≡ false) × In weakly x × In (from_one (length objects)) x
  in_lost x k =
      let first = from_filter (λ n. not (is_in (reachable w s) n)) (rising objects weakly) x k in
      let second = from_filter (is_in weakly) (from_one (length objects)) x first.1 in
      (not-true (is_in (reachable w s) x) first.0, second.0, second.1)

  to_lost : (x : ℕ) → In (from_one (length objects)) x → In weakly x → is_in (reachable w s) x ≡ false → In (lost w s) x
  to_lost x name held_so e =
      in_filter (λ n. not (is_in (reachable w s) n)) (rising objects weakly) x (ap not e) (in_filter (is_in weakly) (from_one (length objects)) x held_so name)

  from_beside : (x : ℕ) → IsName objects x → In (held_beside s (lost w s)) x → (b : Bool) → is_in (reachable w s) x ≡ b → Reachable w s x
  from_beside x name k true e = (reachable_lists w s).sound x (to_contains (reachable w s) x e)
  from_beside x name k false e =
      let passed = from_filter (λ n. not (is_in (lost w s) n)) weakly x k in
      absurd (both_ways (is_in (lost w s) x) (not-true (is_in (lost w s) x) passed.0) (to_lost x (contains_in (from_one (length objects)) x name) passed.1 e))

  by_root : (x : ℕ) → IsName objects x → In (roots w s) x ⊎ In (held_beside s (lost w s)) x → Reachable w s x
  by_root x name (inl k) = FromRoot x name (to_contains (roots w s) x k)
  by_root x name (inr k) = from_beside x name k (is_in (reachable w s) x) refl

  -- the weak references that are left lead to nothing that can't be reached
  no_further : (n : ℕ) → Reached objects (roots w s ++ held_beside s (lost w s)) n → Reachable w s n
  no_further n (FromRoot x name c) = by_root x name (in_append_cases (roots w s) (held_beside s (lost w s)) x (contains_in (roots w s ++ held_beside s (lost w s)) x c))
  no_further n (FromObject m x r name c) = FromObject m x (no_further m r) name c

  unreached : (x : ℕ) → In (lost w s) x → is_in (reached_with w s (held_beside s (lost w s))) x ≡ false
  unreached x k =
      false_from_ne_true (is_in (reached_with w s (held_beside s (lost w s))) x)
      (λ e. let r = no_further x ((reached_lists objects (roots w s ++ held_beside s (lost w s))).sound x (to_contains (reached_with w s (held_beside s (lost w s))) x e)) in
      both_ways (is_in (reachable w s) x) (in_lost x k).0 (contains_in (reachable w s) x ((reachable_lists w s).complete x r)))

  lost_ascends : Ascends (lost w s)
  lost_ascends = subst Ascends (sym (filter_twice (λ n. not (is_in (reachable w s) n)) (is_in weakly) (from_one (length objects)))) (ascends (λ n. is_in weakly n && not (is_in (reachable w s) n)) (length objects))

  lost_rises : Ascends (lost w s) → lost w s ≢ [] → are_rising (lost w s) ≡ true
  lost_rises (inl e) some = absurd (some e)
  lost_rises (inr r) some = r

  -- all that is lost may be cleared
  pub may_clear_lost : lost w s ≢ [] → may_clear w s (lost w s) ≡ true
  may_clear_lost some =
      let rises = lost_rises lost_ascends some in
      let held_so = all_of (is_in weakly) (lost w s) (λ x k. (in_lost x k).1) in
      let out = none_of (is_in (reached_with w s (held_beside s (lost w s)))) (lost w s) unreached in
      rw (rises, held_so, out) refl

  -- and then nothing is
  none_lost : lost w (with_cleared (lost w s) s) ≡ []
  none_lost = nothing_in (lost w (with_cleared (lost w s) s)) (λ x k. still x k)
    where
      still : (x : ℕ) → In (lost w (with_cleared (lost w s) s)) x → ⊥
      still x k =
          let first = from_filter (λ n. not (is_in (reachable w s) n)) (rising objects (weakly_held (cleared_statics (lost w s) s.shared.statics))) x k in
          let second = from_filter (is_in (weakly_held (cleared_statics (lost w s) s.shared.statics))) (from_one (length objects)) x first.1 in
          let left = from_filter (λ n. not (is_in (lost w s) n)) weakly x (subst (λ l. In l x) (weak_left (lost w s) s.shared.statics) second.0) in
          both_ways (is_in (lost w s) x) (not-true (is_in (lost w s) x) left.0) (to_lost x second.1 left.1 (not-true (is_in (reachable w s) x) first.0))

  pub is_cleared : lost w s ≢ [] → clearing_step w s (lost w s) ≡ Some (with_cleared (lost w s) s)
  unfolding clearing_step
  is_cleared some = rw (may_clear_lost some) refl

pub lost_are_cleared : LostAreCleared
lost_are_cleared w s some = (with_cleared (lost w s) s, is_cleared w s some, none_lost w s)

-- ---- how many clearings there are

-- a list without an element that it has
one_out : (p : ℕ → Bool) (xs : List ℕ) (x : ℕ) → In xs x → p x ≡ false → length (filter p xs) + 1 ≤ length xs
one_out p [] x k e = absurd (false≢true k)
one_out p (y ∷ ys) x k e = by_first (p y) refl (in_cases y ys x k) (one_out p ys x) (most p ys)
  where
    most : (q : ℕ → Bool) (zs : List ℕ) → length (filter q zs) ≤ length zs
    most q [] = omega arith
    most q (z ∷ zs) = go (q z) (most q zs)
      where
        go : (b : Bool) → length (filter q zs) ≤ length zs → length (cond b (z ∷ filter q zs) (filter q zs)) ≤ length (z ∷ zs)
        go true h = omega (arith, h)
        go false h = omega (arith, h)

    by_first : (b : Bool) → p y ≡ b → (y ≡ x) ⊎ In ys x → (In ys x → p x ≡ false → length (filter p ys) + 1 ≤ length ys) → length (filter p ys) ≤ length ys
        → length (cond b (y ∷ filter p ys) (filter p ys)) + 1 ≤ length (y ∷ ys)
    by_first false f h further all = omega (arith, all)
    by_first true f (inr h) further all = let rest = further h e in omega (arith, rest)
    by_first true f (inl same) further all = absurd (both_ways (p x) e (subst (λ z. p z ≡ true) same f))

first_of : (names : List ℕ) → are_rising names ≡ true → (n : ℕ) × In names n
first_of [] h = absurd (false≢true h)
first_of (n ∷ names) h = (n, in_head n names)

all_in : (p : ℕ → Bool) (xs : List ℕ) (x : ℕ) → list_all p xs ≡ true → In xs x → p x ≡ true
all_in p [] x h k = absurd (false≢true k)
all_in p (y ∷ ys) x h k = by_first (in_cases y ys x k) (and_parts (p y) (list_all p ys) h) (all_in p ys x)
  where
    by_first : (y ≡ x) ⊎ In ys x → (p y ≡ true) × (list_all p ys ≡ true) → (list_all p ys ≡ true → In ys x → p x ≡ true) → p x ≡ true
    by_first (inl e) both further = subst (λ z. p z ≡ true) e both.0
    by_first (inr j) both further = further both.1 j

may_parts : (w : World) (s : State) (names : List ℕ) → may_clear w s names ≡ true → (are_rising names ≡ true) × (list_all (is_in (weakly_held s.shared.statics)) names ≡ true)
may_parts w s names h = parts (are_rising names) (list_all (is_in (weakly_held s.shared.statics)) names) _ h
  where
    parts : (x y z : Bool) → (x && y && z) ≡ true → (x ≡ true) × (y ≡ true)
    parts true true z h = (refl, refl)
    parts true false z h = absurd (false≢true h)
    parts false y z h = absurd (false≢true h)

-- a clearing clears one at least
fewer_held : (w : World) (s next : State) (names : List ℕ) → clearing_step w s names ≡ Some next → held next.shared.statics + 1 ≤ held s.shared.statics
fewer_held w s next names h =
    let leaves = clearing_leaves w s next names h in
    let parts = may_parts w s names leaves.0 in
    let first = first_of names parts.0 in
    let out = one_out (λ n. not (is_in names n)) (weakly_held s.shared.statics) first.0 (all_in (is_in (weakly_held s.shared.statics)) names first.0 parts.1 first.1) (ap not first.1) in
    let now : length (weakly_held (cleared_statics names s.shared.statics)) + 1 ≤ length (weakly_held s.shared.statics) = rw (weak_left names s.shared.statics) out in
    let after = held_is (cleared_statics names s.shared.statics) in
    let before_it = held_is s.shared.statics in
    subst (λ (x : State). held x.shared.statics + 1 ≤ held s.shared.statics) leaves.1 (omega (arith, now, after, before_it))

none_held : (gs : List Static) → held (map null_static gs) ≡ 0
none_held [] = refl
none_held (g ∷ gs) = let rest = none_held gs in omega (arith, rest)

module _ (unit : SourceUnit) (w : World) where
  clearings_few : (j : Journal) (s end : State) → replay_from unit w s j ≡ Some end → clearings_in j + held end.shared.statics ≤ steps_in j + held s.shared.statics
  clearings_few [] s end h = let e : s ≡ end = cc (h) in let no_more : held end.shared.statics ≤ held s.shared.statics = subst (λ (x : State). held x.shared.statics ≤ held s.shared.statics) e (omega arith) in omega (arith, no_more)
  clearings_few (Step k refused ∷ j) s end h = by_step (turn_step unit w.classes s k refused) refl (λ s'. clearings_few j s' end) h
    where
      by_step : (o : Option State) → turn_step unit w.classes s k refused ≡ o → ((s' : State) → replay_from unit w s' j ≡ Some end → clearings_in j + held end.shared.statics ≤ steps_in j + held s'.shared.statics)
          → option_and_then (λ s'. replay_from unit w s' j) o ≡ Some end → clearings_in (Step k refused ∷ j) + held end.shared.statics ≤ steps_in (Step k refused ∷ j) + held s.shared.statics
      by_step None is further g = let bad : None ≡ Some end = g in absurd (cc)
      by_step (Some s') is further g = let rest = further s' g in let one = turn_adds unit w.classes s s' k refused is in omega (arith, rest, one)
  clearings_few (Clearing names ∷ j) s end h = by_step (clearing_step w s names) refl (λ s'. clearings_few j s' end) h
    where
      by_step : (o : Option State) → clearing_step w s names ≡ o → ((s' : State) → replay_from unit w s' j ≡ Some end → clearings_in j + held end.shared.statics ≤ steps_in j + held s'.shared.statics)
          → option_and_then (λ s'. replay_from unit w s' j) o ≡ Some end → clearings_in (Clearing names ∷ j) + held end.shared.statics ≤ steps_in (Clearing names ∷ j) + held s.shared.statics
      by_step None is further g = let bad : None ≡ Some end = g in absurd (cc)
      by_step (Some s') is further g = let rest = further s' g in let one = fewer_held w s s' names is in omega (arith, rest, one)

pub clearings_are_few : ClearingsAreFew
clearings_are_few unit w journal some = by_end (replay unit w journal) refl some
  where
    by_end : (o : Option State) → replay unit w journal ≡ o → IsSome o → clearings_in journal ≤ steps_in journal
    by_end None is h = absurd (false≢true h)
    by_end (Some end) is h =
        let few = clearings_few unit w journal (start unit w) end is in
        let none = none_held (statics_of unit) in
        omega (arith, few, none)
