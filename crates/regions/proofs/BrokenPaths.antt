-- A first fault is of a rule that is broken, and where a rule is broken there is no path.
use Rattle.std.proofs.Common.{ℕ, ◌⊎◌, subst, inl, inr}
use Rattle.syntax.specs.Tree.{Stmt, Plain, If, While, Return, Else, NoElse, ElseBlock, Block, End, Next, Function}
use Rattle.region_rules.specs.FirstFaults.{FirstHere, FirstIn, FirstElse, FirstBlock, FirstInFunction}
use Rattle.region_rules.proofs.KeptRules.{kept, not_both}
use Rattle.region_rules.specs.declared.rule.RegionRule.{RegionRule}
use Rattle.region_rules.specs.RegionRules.{breaks_region_rule, own_rules}
use Rattle.region_rules.specs.RegionStates.{RegionState, state_at_entry}
use Rattle.region_rules.specs.Regions.{Path, On, Returned, Join, ComesBack, IsEnd, Keeps, KeepsElse, KeepsBlock, holds_own, where_true, where_false, Differ, BreaksAfter, BreaksHere, BreaksIn, BreaksElse, BreaksBlock, BreaksFunction, AcceptedFunction}
use Rattle.region_rules.proofs.Returns.{goes_on}
use Rattle.regions.proofs.Paths.{find_some}
use Rattle.regions.proofs.FaultLemmas.{one_path, one_else, one_end, on_is}
use Rattle.regions.proofs.FirstPaths.{first_or_accepted}

-- ---- a first fault is of a rule that is broken at its line

broken_here : (before : RegionState) (s : Stmt) (rule : RegionRule) (l : ℕ) → FirstHere rule l before s → BreaksHere rule l before s
broken_here before s rule l b = (find_some (λ r. breaks_region_rule r before s) own_rules rule b.0, b.1)

mutual
  pub broken_in : (before : RegionState) (s : Stmt) (rule : RegionRule) (l : ℕ) → FirstIn rule l before s → BreaksIn rule l before s
  broken_in before (If line test then' else') rule l b =
      elim b [
        | inl own ↦ inl (broken_here before (If line test then' else') rule l own)
        | inr (inl inner) ↦ inr (inl (
          inner.0,
          elim inner.1 [
            | inl one ↦ inl (broken_block before (where_true before test) then' rule l one)
            | inr two ↦ inr (broken_else before (where_false before test) else' rule l two.2)
          ],
        ))
        | inr (inr paths) ↦ inr (inr paths)
      ]
  broken_in before (While line test body) rule l b =
      elim b [
        | inl own ↦ inl (broken_here before (While line test body) rule l own)
        | inr (inl inner) ↦ inr (inl (inner.0, broken_block before before body rule l inner.1))
        | inr (inr paths) ↦ inr (inr paths)
      ]
  broken_in before (Return line e) rule l b = broken_here before (Return line e) rule l b
  broken_in before (Plain line p) rule l b = broken_here before (Plain line p) rule l b

  broken_else : (outer before : RegionState) (b : Else) (rule : RegionRule) (l : ℕ) → FirstElse rule l outer before b → BreaksElse rule l outer before b
  broken_else outer before NoElse rule l b = b
  broken_else outer before (ElseBlock d) rule l b = broken_block outer before d rule l b

  pub broken_block : (outer before : RegionState) (block : Block) (rule : RegionRule) (l : ℕ) → FirstBlock rule l outer before block → BreaksBlock rule l outer before block
  broken_block outer before (End line) rule l b = b
  broken_block outer before (Next s rest) rule l b =
      elim b [
        | inl one ↦ inl (broken_in before s rule l one)
        | inr (inl on) ↦ inr (inl (on.0, on.1, broken_block outer on.0 rest rule l on.2))
        | inr (inr stopped) ↦ inr (inr stopped)
      ]

pub function_broken : (f : Function) (rule : RegionRule) (l : ℕ) → FirstInFunction rule l f → BreaksFunction rule l f
function_broken f rule l b =
    elim b [ inl inner ↦ inl (broken_block (state_at_entry f) (state_at_entry f) f.body rule l inner) | inr open' ↦ inr open' ]

-- ---- where a rule is broken there is no path

-- paths that differ are not joined
pub apart : (a b w : Path) → Differ a b → Join a b w → ⊥
apart Returned b w d j = d
apart (On a) Returned w d j = d
apart (On a) (On b) w d j = d j.0

pub not_back : (turn : Path) (before : RegionState) → Differ turn (On before) → ComesBack before turn → ⊥
not_back Returned before d c = d
not_back (On after) before d c = d c

pub not_end : (rule : RegionRule) (l : ℕ) (rest : Block) → BreaksAfter rule l rest → IsEnd rest → ⊥
not_end rule l (End line) b e = b
not_end rule l (Next s rest) b e = e

mutual
  pub no_path : (before : RegionState) (s : Stmt) (rule : RegionRule) (l : ℕ) (w : Path) → BreaksIn rule l before s → Keeps before s w → ⊥
  no_path before (If line test then' else') rule l w b h =
      elim b [
        | inl own ↦ kept before (If line test then' else') rule h.0 own.0
        | inr (inl inner) ↦ elim inner.1 [
          | inl first ↦ no_end before (where_true before test) then' rule l h.1 first h.3
          | inr second ↦ no_other before (where_false before test) else' rule l h.2 second h.4
        ]
        | inr (inr paths) ↦ apart h.1 h.2 w
            (subst (λ y. Differ y h.2) (one_end before (where_true before test) then' (paths.3).0 h.1 (paths.3).2 h.3)
            (subst (λ n. Differ (paths.3).0 n) (one_else before (where_false before test) else' (paths.3).1 h.2 (paths.3).3 h.4) (paths.3).4)) h.5
      ]
  no_path before (While line test body) rule l w b h =
      elim b [
        | inl own ↦ kept before (While line test body) rule h.0 own.0
        | inr (inl inner) ↦ no_end before before body rule l h.1 inner.1 h.2
        | inr (inr paths) ↦ not_back h.1 before (subst (λ y. Differ y (On before)) (one_end before before body (paths.3).0 h.1 (paths.3).1 h.2) (paths.3).2) h.3
      ]
  no_path before (Return line e) rule l w b h = kept before (Return line e) rule h.0 b.0
  no_path before (Plain line p) rule l w b h = kept before (Plain line p) rule h.0 b.0

  no_other : (outer before : RegionState) (b : Else) (rule : RegionRule) (l : ℕ) (w : Path) → BreaksElse rule l outer before b → KeepsElse outer before b w → ⊥
  no_other outer before NoElse rule l w b h = b
  no_other outer before (ElseBlock d) rule l w b h = no_end outer before d rule l w b h

  pub no_end : (outer before : RegionState) (block : Block) (rule : RegionRule) (l : ℕ) (w : Path) → BreaksBlock rule l outer before block → KeepsBlock outer before block w → ⊥
  no_end outer before (End line) rule l w b h = not_both (holds_own outer before) h.0 b.2
  no_end outer before (Next s rest) rule l w b h =
      elim b [
        | inl here' ↦ elim h [ inl on ↦ no_path before s rule l (On on.0) here' on.1 | inr stopped ↦ no_path before s rule l Returned here' stopped.0 ]
        | inr (inl further) ↦ elim h [
          | inl on ↦ no_end outer on.0 rest rule l w (subst (λ m. BreaksBlock rule l outer m rest) (on_is on.0 further.0 (one_path before s (On on.0) (On further.0) on.1 further.1)) further.2) on.2
          | inr stopped ↦ goes_on further.0 (one_path before s (On further.0) Returned further.1 stopped.0)
        ]
        | inr (inr behind') ↦ elim h [
          | inl on ↦ goes_on on.0 (one_path before s (On on.0) Returned on.1 behind'.0)
          | inr stopped ↦ not_end rule l rest behind'.1 stopped.1
        ]
      ]

-- ---- functions

-- an accepted function breaks no rule
pub breaks_nothing : (f : Function) (rule : RegionRule) (l : ℕ) → AcceptedFunction f → BreaksFunction rule l f → ⊥
breaks_nothing f rule l a b =
    elim b [
      | inl inner ↦ no_end (state_at_entry f) (state_at_entry f) f.body rule l Returned inner a
      | inr open' ↦ goes_on (open'.2).0 (one_end (state_at_entry f) (state_at_entry f) f.body (On (open'.2).0) Returned (open'.2).1 a)
    ]

-- and a function that breaks none is accepted
pub accepted_or_broken : (f : Function) → AcceptedFunction f ⊎ ((rule : RegionRule) × (l : ℕ) × BreaksFunction rule l f)
accepted_or_broken f = elim (first_or_accepted f) [ inl accepted ↦ inl accepted | inr fault ↦ inr (fault.0, fault.1, function_broken f fault.0 fault.1 fault.2) ]
