-- A path is kept just where it is the answer.
use Rattle.std.proofs.Common.{◌≡◌, ℕ, zero, suc, Bool, true, false, not, ◌&&◌, ◌⊎◌, List, [], ◌∷◌, Option, Some, None, Result, Ok, Err, refl, sym, ap, ◌∙◌, inl, inr, find, cond, true≢false}
use Rattle.std.specs.List.{AllByRecursion, list_all, slice_get}
use Rattle.syntax.specs.Tree.{Stmt, Plain, If, While, Return, Else, NoElse, ElseBlock, Block, End, Next}
use Rattle.region_rules.specs.FirstFaults.{first_broken}
use Rattle.region_rules.specs.declared.rule.RegionRule.{RegionRule}
use Rattle.region_rules.specs.declared.rule.RegionRule.TheVariants.{HeldBuffer, PathsDiffer}
use Rattle.region_rules.specs.RegionRules.{breaks_region_rule, own_rules, Obeys}
use Rattle.region_rules.specs.RegionStates.{RegionState}
use Rattle.region_rules.specs.Regions.{Path, On, Returned, Join, ComesBack, IsEnd, Keeps, KeepsElse, KeepsBlock, holds_own, left, where_true, where_false}
use Rattle.region_states.specs.SameStates.{same_state}
use Rattle.regions.specs.Paths.{Found, own_path, path_after, path_if, returned_before, join_paths, turn_path, path_of, path_of_else, path_of_block}
use Rattle.region_states.proofs.Same.{state_decides}

-- ---- the first rule of a list that is broken

pub find_none : {A : Type 0} (p : A → Bool) (xs : List A) → find p xs ≡ None → list_all (λ x. not (p x)) xs ≡ true
find_none p [] e = refl
find_none p (x ∷ xs) e = elim (p x) as (λ b. cond b (Some x) (find p xs) ≡ None → (not b && list_all (λ y. not (p y)) xs) ≡ true) [ true ↦ λ h. cc | false ↦ λ h. find_none p xs h ] e

pub all_none : {A : Type 0} (p : A → Bool) (xs : List A) → list_all (λ x. not (p x)) xs ≡ true → find p xs ≡ None
all_none p [] e = refl
all_none p (x ∷ xs) e = elim (p x) as (λ b. (not b && list_all (λ y. not (p y)) xs) ≡ true → cond b (Some x) (find p xs) ≡ None) [ true ↦ λ h. absurd (true≢false (sym h)) | false ↦ λ h. all_none p xs h ] e

pub find_some : {A : Type 0} (p : A → Bool) (xs : List A) (y : A) → find p xs ≡ Some y → p y ≡ true
find_some p [] y e = cc
find_some p (x ∷ xs) y e = elim (p x) as (λ b. p x ≡ b → cond b (Some x) (find p xs) ≡ Some y → p y ≡ true) [ true ↦ λ k h. ap p (some_is x y h) ∙ k | false ↦ λ k h. find_some p xs y h ] refl e
  where
    some_is : {B : Type 0} (a b : B) → Some a ≡ Some b → b ≡ a
    some_is a b h = cc

-- at this place of a list is the first of which p holds
abbrev pub IsFirst : {A : Type 0} → (A → Bool) → ℕ → List A → Type 0
IsFirst p n [] = ⊥
IsFirst p zero (x ∷ xs) = true ≡ p x
IsFirst p (suc n) (x ∷ xs) = (false ≡ p x) × IsFirst p n xs

pub first_at : {A : Type 0} (p : A → Bool) (n : ℕ) (xs : List A) → IsFirst p n xs → slice_get xs n ≡ find p xs
first_at p n [] h = absurd h
first_at p zero (x ∷ xs) h = ap (λ b. cond b (Some x) (find p xs)) h
first_at p (suc n) (x ∷ xs) h = first_at p n xs h.1 ∙ ap (λ b. cond b (Some x) (find p xs)) h.0

pub none_first : {A : Type 0} (p : A → Bool) (xs : List A) → AllByRecursion (λ x. false ≡ p x) xs → None ≡ find p xs
none_first p [] h = refl
none_first p (x ∷ xs) h = none_first p xs h.1 ∙ ap (λ b. cond b (Some x) (find p xs)) h.0

-- ---- a path is kept just where it is the answer

pub ok_is : (x y : Path) → ◌≡◌ {A = Result Path Found} (Ok x) (Ok y) → y ≡ x
ok_is x y e = cc

pub if_ok : (t : Bool) (a w : Path) (f : Found) → path_if t a f ≡ Ok w → (t ≡ true) × (w ≡ a)
if_ok true a w f e = (refl, ok_is a w e)
if_ok false a w f e = cc

pub if_true : (t : Bool) (a : Path) (f : Found) → t ≡ true → path_if t a f ≡ Ok a
if_true true a f e = refl
if_true false a f e = absurd (true≢false (sym e))

pub own_ok : (o : Option RegionRule) (line : ℕ) (go : Result Path Found) (w : Path) → own_path o line go ≡ Ok w → (o ≡ None) × (go ≡ Ok w)
own_ok None line go w h = (refl, h)
own_ok (Some rule) line go w h = cc

pub own_none : (o : Option RegionRule) (line : ℕ) (go : Result Path Found) (w : Path) → o ≡ None → go ≡ Ok w → own_path o line go ≡ Ok w
own_none None line go w e h = h
own_none (Some rule) line go w e h = cc

pub join_ok : (line : ℕ) (a b w : Path) → join_paths line (Ok a) (Ok b) ≡ Ok w → Join a b w
join_ok line Returned b w h = ok_is b w h
join_ok line (On a) Returned w h = ok_is (On a) w h
join_ok line (On a) (On b) w h =
    let both = if_ok (same_state a b) (On a) w (line, PathsDiffer) h in
    ((state_decides a b).0 both.0, both.1)

pub join_is : (line : ℕ) (a b w : Path) → Join a b w → join_paths line (Ok a) (Ok b) ≡ Ok w
join_is line Returned b w h = ap Ok (sym h)
join_is line (On a) Returned w h = ap Ok (sym h)
join_is line (On a) (On b) w h = if_true (same_state a b) (On a) (line, PathsDiffer) ((state_decides a b).1 h.0) ∙ ap Ok (sym h.1)

-- the two paths that were joined
pub joined : (line : ℕ) (r q : Result Path Found) (w : Path) → join_paths line r q ≡ Ok w → (a b : Path) × (r ≡ Ok a) × (q ≡ Ok b) × Join a b w
joined line (Err e) q w h = absurd (err_ok e w h)
  where
    err_ok : (f : Found) (y : Path) → ◌≡◌ {A = Result Path Found} (Err f) (Ok y) → ⊥
    err_ok f y e = cc
joined line (Ok a) (Err e) w h = elim a as (λ x. join_paths line (Ok x) (Err e) ≡ Ok w → (c b : Path) × (Ok x ≡ Ok c) × (Err e ≡ Ok b) × Join c b w) [ On s ↦ λ k. cc | Returned ↦ λ k. cc ] h
joined line (Ok a) (Ok b) w h = (a, b, refl, refl, join_ok line a b w h)

pub turned : (line : ℕ) (before : RegionState) (r : Result Path Found) (w : Path) → turn_path line before r ≡ Ok w → (turn : Path) × (r ≡ Ok turn) × ComesBack before turn × (w ≡ On before)
turned line before (Err e) w h = cc
turned line before (Ok Returned) w h = (Returned, refl, tt, ok_is (On before) w h)
turned line before (Ok (On after)) w h =
    let both = if_ok (same_state after before) (On before) w (line, PathsDiffer) h in
    (On after, refl, (state_decides after before).0 both.0, both.1)

pub turn_is : (line : ℕ) (before : RegionState) (turn : Path) → ComesBack before turn → turn_path line before (Ok turn) ≡ Ok (On before)
turn_is line before Returned h = refl
turn_is line before (On after) h = if_true (same_state after before) (On before) (line, PathsDiffer) ((state_decides after before).1 h)

-- the statement itself keeps the rules
pub obeys : (before : RegionState) (s : Stmt) → first_broken before s ≡ None → Obeys before s
obeys before s e = find_none (λ rule. breaks_region_rule rule before s) own_rules e

pub unbroken : (before : RegionState) (s : Stmt) → Obeys before s → first_broken before s ≡ None
unbroken before s h = all_none (λ rule. breaks_region_rule rule before s) own_rules h

-- of what is after a statement: its path goes on or has returned
pub after_ok : (r : Result Path Found) (go : RegionState → Result Path Found) (stop : Result Path Found) (w : Path) → path_after r go stop ≡ Ok w
    → ((middle : RegionState) × (r ≡ Ok (On middle)) × (go middle ≡ Ok w)) ⊎ ((r ≡ Ok Returned) × (stop ≡ Ok w))
after_ok (Err e) go stop w h = cc
after_ok (Ok (On middle)) go stop w h = inl (middle, refl, h)
after_ok (Ok Returned) go stop w h = inr (refl, h)

pub returned_ok : (rest : Block) (w : Path) → returned_before rest ≡ Ok w → IsEnd rest × (w ≡ Returned)
returned_ok (End line) w h = (tt, ok_is Returned w h)
returned_ok (Next s rest) w h = cc

pub returned_is : (rest : Block) → IsEnd rest → returned_before rest ≡ Ok Returned
returned_is (End line) h = refl
returned_is (Next s rest) h = absurd h

-- a statement with no block of its own
pub plain : (before : RegionState) (s : Stmt) (line : ℕ) (a w : Path) → own_path (first_broken before s) line (Ok a) ≡ Ok w → Obeys before s × (w ≡ a)
plain before s line a w h =
    let parts = own_ok (first_broken before s) line (Ok a) w h in
    (obeys before s parts.0, ok_is a w parts.1)

pub plain_is : (before : RegionState) (s : Stmt) (line : ℕ) (a w : Path) → Obeys before s × (w ≡ a) → own_path (first_broken before s) line (Ok a) ≡ Ok w
plain_is before s line a w h = own_none (first_broken before s) line (Ok a) w (unbroken before s h.0) (ap Ok (sym h.1))

mutual
  pub keeps : (before : RegionState) (s : Stmt) (w : Path) → path_of before s ≡ Ok w → Keeps before s w
  keeps before (If line test then' else') w h =
      let parts = own_ok (first_broken before (If line test then' else')) line _ w h in
      let two = joined line (path_of_block before (where_true before test) then') (path_of_else before (where_false before test) else') w parts.1 in
      (obeys before (If line test then' else') parts.0, two.0, two.1, keeps_block before (where_true before test) then' two.0 two.2, keeps_else before (where_false before test) else' two.1 two.3, two.4)
  keeps before (While line test body) w h =
      let parts = own_ok (first_broken before (While line test body)) line _ w h in
      let turn = turned line before (path_of_block before before body) w parts.1 in
      (obeys before (While line test body) parts.0, turn.0, keeps_block before before body turn.0 turn.1, turn.2, turn.3)
  keeps before (Return line e) w h = plain before (Return line e) line Returned w h
  keeps before (Plain line p) w h = plain before (Plain line p) line _ w h

  pub keeps_else : (outer before : RegionState) (b : Else) (w : Path) → path_of_else outer before b ≡ Ok w → KeepsElse outer before b w
  keeps_else outer before NoElse w h = ok_is (On before) w h
  keeps_else outer before (ElseBlock b) w h = keeps_block outer before b w h

  pub keeps_block : (outer before : RegionState) (b : Block) (w : Path) → path_of_block outer before b ≡ Ok w → KeepsBlock outer before b w
  keeps_block outer before (End line) w h = if_ok (not (holds_own outer before)) (On (left outer before)) w (line, HeldBuffer) h
  keeps_block outer before (Next s rest) w h =
      elim (after_ok (path_of before s) (λ middle. path_of_block outer middle rest) (returned_before rest) w h) [
        | inl on ↦ inl (on.0, keeps before s (On on.0) on.1, keeps_block outer on.0 rest w on.2)
        | inr stopped ↦ inr (keeps before s Returned stopped.0, (returned_ok rest w stopped.1).0, (returned_ok rest w stopped.1).1)
      ]

-- ---- what the rules give is the answer

pub joined_is : (line : ℕ) (r q : Result Path Found) (a b w : Path) → r ≡ Ok a → q ≡ Ok b → Join a b w → join_paths line r q ≡ Ok w
joined_is line r q a b w e f h = ap (λ x. join_paths line x q) e ∙ ap (λ x. join_paths line (Ok a) x) f ∙ join_is line a b w h

mutual
  pub answers : (before : RegionState) (s : Stmt) (w : Path) → Keeps before s w → path_of before s ≡ Ok w
  answers before (If line test then' else') w h =
      own_none (first_broken before (If line test then' else')) line _ w (unbroken before (If line test then' else') h.0)
      (joined_is line (path_of_block before (where_true before test) then') (path_of_else before (where_false before test) else') h.1 h.2 w
      (answers_block before (where_true before test) then' h.1 h.3) (answers_else before (where_false before test) else' h.2 h.4) h.5)
  answers before (While line test body) w h =
      own_none (first_broken before (While line test body)) line _ w (unbroken before (While line test body) h.0)
      (ap (turn_path line before) (answers_block before before body h.1 h.2) ∙ turn_is line before h.1 h.3 ∙ ap Ok (sym h.4))
  answers before (Return line e) w h = plain_is before (Return line e) line Returned w h
  answers before (Plain line p) w h = plain_is before (Plain line p) line _ w h

  pub answers_else : (outer before : RegionState) (b : Else) (w : Path) → KeepsElse outer before b w → path_of_else outer before b ≡ Ok w
  answers_else outer before NoElse w h = ap Ok (sym h)
  answers_else outer before (ElseBlock b) w h = answers_block outer before b w h

  pub answers_block : (outer before : RegionState) (b : Block) (w : Path) → KeepsBlock outer before b w → path_of_block outer before b ≡ Ok w
  answers_block outer before (End line) w h = if_true (not (holds_own outer before)) (On (left outer before)) (line, HeldBuffer) h.0 ∙ ap Ok (sym h.1)
  answers_block outer before (Next s rest) w h =
      elim h [
        | inl on ↦ ap (λ r. path_after r (λ middle. path_of_block outer middle rest) (returned_before rest)) (answers before s (On on.0) on.1) ∙ answers_block outer on.0 rest w on.2
        | inr stopped ↦ ap (λ r. path_after r (λ middle. path_of_block outer middle rest) (returned_before rest)) (answers before s Returned stopped.0) ∙ returned_is rest stopped.1 ∙ ap Ok (sym stopped.2)
      ]
