-- The first fault is the answer, and there is one at most.
use Rattle.std.proofs.Common.{◌≡◌, ℕ, Bool, true, false, not, ◌⊎◌, List, [], ◌∷◌, Option, Some, Result, Ok, Err, refl, sym, ap, ◌∙◌, inl, inr, true≢false}
use Rattle.std.specs.List.{AllByRecursion}
use Rattle.std.proofs.lemmas.Bool.{not-false, not_from_true}
use Rattle.syntax.specs.Parts.{line_of}
use Rattle.syntax.specs.Tree.{Stmt, Plain, If, While, Return, Else, NoElse, ElseBlock, Block, End, Next, Function}
use Rattle.region_rules.specs.FirstFaults.{FirstInFunction, FirstInFunctions, first_broken, FirstHere, FirstIn, FirstElse, FirstBlock}
use Rattle.region_rules.specs.declared.rule.RegionRule.{RegionRule}
use Rattle.region_rules.specs.declared.rule.RegionRule.TheVariants.{HeldBuffer, PathsDiffer, NoReturn}
use Rattle.region_rules.specs.RegionRules.{Obeys}
use Rattle.region_rules.specs.RegionStates.{RegionState, state_at_entry}
use Rattle.region_rules.specs.Regions.{Path, On, Returned, holds_own, left, where_true, where_false, Differ, BreaksAfter, AcceptedFunction}
use Rattle.region_rules.proofs.Returns.{goes_on}
use Rattle.region_states.specs.SameStates.{same_state}
use Rattle.regions.specs.Paths.{Found, own_path, path_after, path_if, returned_before, join_paths, turn_path, path_of, path_of_else, path_of_block}
use Rattle.region_states.proofs.Same.{state_decides}
use Rattle.regions.proofs.Paths.{obeys, unbroken, keeps, keeps_else, keeps_block, answers, answers_else, answers_block}
use Rattle.regions.specs.Findings.{end_line_of}
use Rattle.regions.proofs.FaultLemmas.{ok_err', err_is, if_err, own_err, join_err, turn_err, after_err, returned_err, one_end, end-line}

-- ---- the first fault is the answer

pub own_first : (o : Option RegionRule) (line : ℕ) (go : Result Path Found) (rule : RegionRule) (l : ℕ) → o ≡ Some rule → l ≡ line → own_path o line go ≡ Err (l, rule)
own_first o line go rule l e k = ap (λ p. own_path p line go) e ∙ ap (λ n. Err (n, rule)) (sym k)

pub own_later : (before : RegionState) (s : Stmt) (line : ℕ) (go : Result Path Found) (f : Found) → Obeys before s → go ≡ Err f → own_path (first_broken before s) line go ≡ Err f
own_later before s line go f h e = ap (λ p. own_path p line go) (unbroken before s h) ∙ e

pub differ_paths : (line : ℕ) (a b : Path) → Differ a b → join_paths line (Ok a) (Ok b) ≡ Err (line, PathsDiffer)
differ_paths line Returned b d = absurd d
differ_paths line (On a) Returned d = absurd d
differ_paths line (On a) (On b) d = if_false (same_state a b) (λ e. d ((state_decides a b).0 e))
  where
    if_false : (t : Bool) → (t ≡ true → ⊥) → path_if t (On a) (line, PathsDiffer) ≡ Err (line, PathsDiffer)
    if_false true k = absurd (k refl)
    if_false false k = refl

pub differ_turn : (line : ℕ) (before : RegionState) (turn : Path) → Differ turn (On before) → turn_path line before (Ok turn) ≡ Err (line, PathsDiffer)
differ_turn line before Returned d = absurd d
differ_turn line before (On after) d = if_false (same_state after before) (λ e. d ((state_decides after before).0 e))
  where
    if_false : (t : Bool) → (t ≡ true → ⊥) → path_if t (On before) (line, PathsDiffer) ≡ Err (line, PathsDiffer)
    if_false true k = absurd (k refl)
    if_false false k = refl

pub fault_of : (line : ℕ) (rule : RegionRule) (l : ℕ) → rule ≡ PathsDiffer → l ≡ line → ◌≡◌ {A = Result Path Found} (Err (line, PathsDiffer)) (Err (l, rule))
fault_of line rule l e k = ap (λ r. Err (line, r)) (sym e) ∙ ap (λ n. Err (n, rule)) (sym k)

pub second_fault : (line : ℕ) (a : Path) (f : Found) → join_paths line (Ok a) (Err f) ≡ Err f
second_fault line (On s) f = refl
second_fault line Returned f = refl

pub held_end : (t : Bool) (a : Path) (f : Found) → t ≡ false → path_if t a f ≡ Err f
held_end true a f e = absurd (true≢false e)
held_end false a f e = refl

pub after_of : (rest : Block) (rule : RegionRule) (l : ℕ) → BreaksAfter rule l rest → returned_before rest ≡ Err (l, rule)
after_of (End line) rule l b = absurd b
after_of (Next s rest) rule l b = ap (λ r. Err (line_of s, r)) (sym b.0) ∙ ap (λ n. Err (n, rule)) (sym b.1)

mutual
  pub first_is : (before : RegionState) (s : Stmt) (rule : RegionRule) (l : ℕ) → FirstIn rule l before s → path_of before s ≡ Err (l, rule)
  first_is before (If line test then' else') rule l b =
      let s = If line test then' else' in
      let yes = path_of_block before (where_true before test) then' in
      let no = path_of_else before (where_false before test) else' in
      elim b [
        | inl own ↦ own_first (first_broken before s) line _ rule l own.0 own.1
        | inr (inl inner) ↦ own_later before s line _ (l, rule) inner.0 (elim inner.1 [
          | inl one ↦ ap (λ r. join_paths line r no) (first_block_is before (where_true before test) then' rule l one)
          | inr two ↦ ap (λ r. join_paths line r no) (answers_block before (where_true before test) then' two.0 two.1)
              ∙ ap (join_paths line (Ok two.0)) (first_else_is before (where_false before test) else' rule l two.2) ∙ second_fault line two.0 (l, rule)
        ])
        | inr (inr paths) ↦ own_later before s line _ (l, rule) paths.0
            (ap (λ r. join_paths line r no) (answers_block before (where_true before test) then' (paths.3).0 (paths.3).2)
            ∙ ap (join_paths line (Ok (paths.3).0)) (answers_else before (where_false before test) else' (paths.3).1 (paths.3).3)
            ∙ differ_paths line (paths.3).0 (paths.3).1 (paths.3).4 ∙ fault_of line rule l paths.1 paths.2)
      ]
  first_is before (While line test body) rule l b =
      elim b [
        | inl own ↦ own_first (first_broken before (While line test body)) line _ rule l own.0 own.1
        | inr (inl inner) ↦ own_later before (While line test body) line _ (l, rule) inner.0 (ap (turn_path line before) (first_block_is before before body rule l inner.1))
        | inr (inr paths) ↦ own_later before (While line test body) line _ (l, rule) paths.0
            (ap (turn_path line before) (answers_block before before body (paths.3).0 (paths.3).1) ∙ differ_turn line before (paths.3).0 (paths.3).2 ∙ fault_of line rule l paths.1 paths.2)
      ]
  first_is before (Return line e) rule l b = own_first (first_broken before (Return line e)) line _ rule l b.0 b.1
  first_is before (Plain line p) rule l b = own_first (first_broken before (Plain line p)) line _ rule l b.0 b.1

  first_else_is : (outer before : RegionState) (b : Else) (rule : RegionRule) (l : ℕ) → FirstElse rule l outer before b → path_of_else outer before b ≡ Err (l, rule)
  first_else_is outer before NoElse rule l b = absurd b
  first_else_is outer before (ElseBlock d) rule l b = first_block_is outer before d rule l b

  pub first_block_is : (outer before : RegionState) (block : Block) (rule : RegionRule) (l : ℕ) → FirstBlock rule l outer before block → path_of_block outer before block ≡ Err (l, rule)
  first_block_is outer before (End line) rule l b =
      held_end (not (holds_own outer before)) (On (left outer before)) (line, HeldBuffer) (not_from_true (holds_own outer before) b.2)
      ∙ ap (λ r. Err (line, r)) (sym b.0) ∙ ap (λ n. Err (n, rule)) (sym b.1)
  first_block_is outer before (Next s rest) rule l b =
      elim b [
        | inl one ↦ ap (λ r. path_after r (λ middle. path_of_block outer middle rest) (returned_before rest)) (first_is before s rule l one)
        | inr (inl on) ↦ ap (λ r. path_after r (λ middle. path_of_block outer middle rest) (returned_before rest)) (answers before s (On on.0) on.1) ∙ first_block_is outer on.0 rest rule l on.2
        | inr (inr stopped) ↦ ap (λ r. path_after r (λ middle. path_of_block outer middle rest) (returned_before rest)) (answers before s Returned stopped.0) ∙ after_of rest rule l stopped.1
      ]

-- the fault of a join is the first path's, or the first path is kept
pub first_kept : (line : ℕ) (r q : Result Path Found) (f : Found) → q ≡ Err f → join_paths line r q ≡ Err f → (r ≡ Err f) ⊎ ((a : Path) × (r ≡ Ok a))
first_kept line (Err e) q f k h = inl h
first_kept line (Ok a) q f k h = inr (a, refl)

pub first_here : (before : RegionState) (s : Stmt) (line : ℕ) (rule : RegionRule) (f : Found) → line ≡ line_of s → first_broken before s ≡ Some rule → f ≡ (line, rule) → FirstHere f.1 f.0 before s
first_here before s line rule f k e h = (e ∙ ap (λ (g : Found). Some g.1) (sym h), ap (λ (g : Found). g.0) h ∙ k)

pub plain_first : (before : RegionState) (s : Stmt) (line : ℕ) (a : Path) (f : Found) → line ≡ line_of s → own_path (first_broken before s) line (Ok a) ≡ Err f → FirstHere f.1 f.0 before s
plain_first before s line a f k h =
    elim (own_err (first_broken before s) line (Ok a) f h) [ inl own ↦ first_here before s line own.0 f k own.1 own.2 | inr none ↦ absurd (ok_err' a f none.1) ]

mutual
  pub firsts : (before : RegionState) (s : Stmt) (f : Found) → path_of before s ≡ Err f → FirstIn f.1 f.0 before s
  firsts before (If line test then' else') f h =
      let s = If line test then' else' in
      let yes = path_of_block before (where_true before test) then' in
      let no = path_of_else before (where_false before test) else' in
      elim (own_err (first_broken before s) line _ f h) [
        | inl own ↦ inl (first_here before s line own.0 f refl own.1 own.2)
        | inr go ↦ let o = obeys before s go.0 in
            elim (join_err line yes no f go.1) [
              | inl first ↦ inr (inl (o, inl (firsts_block before (where_true before test) then' f first)))
              | inr (inl second) ↦ elim (first_kept line yes no f second go.1) [
                | inl first ↦ inr (inl (o, inl (firsts_block before (where_true before test) then' f first)))
                | inr one ↦ inr (inl (o, inr (one.0, keeps_block before (where_true before test) then' one.0 one.1, firsts_else before (where_false before test) else' f second)))
              ]
              | inr (inr two) ↦ inr (inr (
                o,
                ap (λ (g : Found). g.1) two.5,
                ap (λ (g : Found). g.0) two.5,
                (two.0, two.1, keeps_block before (where_true before test) then' two.0 two.2, keeps_else before (where_false before test) else' two.1 two.3, two.4),
              ))
            ]
      ]
  firsts before (While line test body) f h =
      elim (own_err (first_broken before (While line test body)) line _ f h) [
        | inl own ↦ inl (first_here before (While line test body) line own.0 f refl own.1 own.2)
        | inr go ↦ let o = obeys before (While line test body) go.0 in
            elim (turn_err line before (path_of_block before before body) f go.1) [
              | inl first ↦ inr (inl (o, firsts_block before before body f first))
              | inr two ↦ inr (inr (o, ap (λ (g : Found). g.1) two.3, ap (λ (g : Found). g.0) two.3, (two.0, keeps_block before before body two.0 two.1, two.2)))
            ]
      ]
  firsts before (Return line e) f h = plain_first before (Return line e) line Returned f refl h
  firsts before (Plain line p) f h = plain_first before (Plain line p) line _ f refl h

  firsts_else : (outer before : RegionState) (b : Else) (f : Found) → path_of_else outer before b ≡ Err f → FirstElse f.1 f.0 outer before b
  firsts_else outer before NoElse f h = ok_err' (On before) f h
  firsts_else outer before (ElseBlock d) f h = firsts_block outer before d f h

  pub firsts_block : (outer before : RegionState) (b : Block) (f : Found) → path_of_block outer before b ≡ Err f → FirstBlock f.1 f.0 outer before b
  firsts_block outer before (End line) f h =
      let e = if_err (not (holds_own outer before)) (On (left outer before)) (line, HeldBuffer) f h in
      (ap (λ (g : Found). g.1) e.1, ap (λ (g : Found). g.0) e.1, not-false (holds_own outer before) e.0)
  firsts_block outer before (Next s rest) f h =
      elim (after_err (path_of before s) (λ middle. path_of_block outer middle rest) (returned_before rest) f h) [
        | inl first ↦ inl (firsts before s f first)
        | inr (inl on) ↦ inr (inl (on.0, keeps before s (On on.0) on.1, firsts_block outer on.0 rest f on.2))
        | inr (inr stopped) ↦ inr (inr (keeps before s Returned stopped.0, returned_err rest f stopped.1))
      ]

-- so there is one first fault at most
pub one_first : (before : RegionState) (s : Stmt) (rule rule' : RegionRule) (l l' : ℕ) → FirstIn rule l before s → FirstIn rule' l' before s → ◌≡◌ {A = Found} (l, rule) (l', rule')
one_first before s rule rule' l l' h k = err_is (l', rule') (l, rule) (sym (first_is before s rule' l' k) ∙ first_is before s rule l h)

-- ---- units

-- a function is accepted or has a first fault
pub first_or_accepted : (f : Function) → AcceptedFunction f ⊎ ((rule : RegionRule) × (l : ℕ) × FirstInFunction rule l f)
first_or_accepted f = case (path_of_block (state_at_entry f) (state_at_entry f) f.body) refl
  where
    case : (r : Result Path Found) → path_of_block (state_at_entry f) (state_at_entry f) f.body ≡ r → AcceptedFunction f ⊎ ((rule : RegionRule) × (l : ℕ) × FirstInFunction rule l f)
    case (Err fault) h = inr (fault.1, fault.0, inl (firsts_block (state_at_entry f) (state_at_entry f) f.body fault h))
    case (Ok Returned) h = inl (keeps_block (state_at_entry f) (state_at_entry f) f.body Returned h)
    case (Ok (On end)) h = inr (NoReturn, end_line_of f.body, inr (refl, end-line f.body, (end, keeps_block (state_at_entry f) (state_at_entry f) f.body (On end) h)))

pub accepted_or_first : (functions : List Function) → AllByRecursion AcceptedFunction functions ⊎ ((rule : RegionRule) × (l : ℕ) × FirstInFunctions rule l functions)
accepted_or_first [] = inl tt
accepted_or_first (f ∷ functions) =
    elim (first_or_accepted f) [
      | inr fault ↦ inr (fault.0, fault.1, inl fault.2)
      | inl accepted ↦ elim (accepted_or_first functions) [
        | inl others ↦ inl (accepted, others)
        | inr fault ↦ inr (fault.0, fault.1, inr (accepted, fault.2))
      ]
    ]

-- an accepted function has no first fault
pub no_first : (f : Function) (rule : RegionRule) (l : ℕ) → FirstInFunction rule l f → AcceptedFunction f → ⊥
no_first f rule l b a =
    elim b [
      | inl inner ↦ ok_err' Returned (l, rule) (sym (answers_block (state_at_entry f) (state_at_entry f) f.body Returned a) ∙ first_block_is (state_at_entry f) (state_at_entry f) f.body rule l inner)
      | inr open' ↦ goes_on (open'.2).0 (one_end (state_at_entry f) (state_at_entry f) f.body (On (open'.2).0) Returned (open'.2).1 a)
    ]

pub no_first_in : (functions : List Function) (rule : RegionRule) (l : ℕ) → FirstInFunctions rule l functions → AllByRecursion AcceptedFunction functions → ⊥
no_first_in [] rule l b a = b
no_first_in (f ∷ functions) rule l b a = elim b [ inl own ↦ no_first f rule l own a.0 | inr later ↦ no_first_in functions rule l later.1 a.1 ]
