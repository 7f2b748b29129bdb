-- Which fault of a unit is answered: the first in text order, and at one place the least number.
use Rattle.std.specs.Prelude.{◌≡◌, ℕ, ◌⊎◌, List, [], ◌∷◌, Option, Some, find, IsTrue}
use Rattle.syntax.specs.Parts.{line_of, functions_of}
use Rattle.syntax.specs.Tree.{Stmt, If, While, Else, NoElse, ElseBlock, Block, End, Next, Function, SourceUnit}
use Rattle.region_rules.specs.declared.rule.RegionRule.{RegionRule}
use Rattle.region_rules.specs.declared.rule.RegionRule.TheVariants.{HeldBuffer, PathsDiffer, NoReturn}
use Rattle.region_rules.specs.RegionRules.{breaks_region_rule, own_rules, Obeys}
use Rattle.region_rules.specs.RegionStates.{RegionState, state_at_entry}
use Rattle.region_rules.specs.Regions.{Path, On, Returned, Keeps, KeepsElse, KeepsBlock, AcceptedFunction, where_true, where_false, holds_own, Differ, EndLine, BreaksAfter, BreaksFunction, BreaksRegionRule, HasRegions}

-- the rule of least number that a statement breaks by itself
abbrev pub first_broken : RegionState → Stmt → Option RegionRule
first_broken state s = find (λ rule. breaks_region_rule rule state s) own_rules

-- the statement's own fault
abbrev pub FirstHere : RegionRule → ℕ → RegionState → Stmt → Type 0
FirstHere rule l before s = (first_broken before s ≡ Some rule) × (l ≡ line_of s)

-- a join's fault is first only where both paths keep the rules; a second path's only where the first one does
abbrev mutual
  pub FirstIn : RegionRule → ℕ → RegionState → Stmt → Type 0
  FirstIn rule l before (If line test then' else') =
      FirstHere rule l before (If line test then' else')
      ⊎ Obeys before (If line test then' else')
      × (FirstBlock rule l before (where_true before test) then'
      ⊎ ((yes : Path) × KeepsBlock before (where_true before test) then' yes
      × FirstElse rule l before (where_false before test) else'))
      ⊎ Obeys before (If line test then' else') × (rule ≡ PathsDiffer) × (l ≡ line)
      × ((yes no : Path) × KeepsBlock before (where_true before test) then' yes × KeepsElse before (where_false before test) else' no × Differ yes no)
  FirstIn rule l before (While line test body) =
      FirstHere rule l before (While line test body)
      ⊎ Obeys before (While line test body) × FirstBlock rule l before before body
      ⊎ Obeys before (While line test body) × (rule ≡ PathsDiffer) × (l ≡ line) × ((turn : Path) × KeepsBlock before before body turn × Differ turn (On before))
  FirstIn rule l before s = FirstHere rule l before s

  -- the same of the second block of an `if`, where it has one
  pub FirstElse : RegionRule → ℕ → RegionState → RegionState → Else → Type 0
  FirstElse rule l outer before NoElse = ⊥
  FirstElse rule l outer before (ElseBlock b) = FirstBlock rule l outer before b

  -- the same of the rest of a block
  pub FirstBlock : RegionRule → ℕ → RegionState → RegionState → Block → Type 0
  FirstBlock rule l outer before (End line) = (rule ≡ HeldBuffer) × (l ≡ line) × IsTrue (holds_own outer before)
  FirstBlock rule l outer before (Next s rest) =
      FirstIn rule l before s
      ⊎ ((middle : RegionState) × Keeps before s (On middle) × FirstBlock rule l outer middle rest)
      ⊎ Keeps before s Returned × BreaksAfter rule l rest

-- a function's first fault; that no path returns is the last of all, at its closing brace
abbrev pub FirstInFunction : RegionRule → ℕ → Function → Type 0
FirstInFunction rule l f =
    FirstBlock rule l (state_at_entry f) (state_at_entry f) f.body
    ⊎ (rule ≡ NoReturn) × EndLine f.body l × ((end : RegionState) × KeepsBlock (state_at_entry f) (state_at_entry f) f.body (On end))

-- the fault of the first function that is not accepted
abbrev pub FirstInFunctions : RegionRule → ℕ → List Function → Type 0
FirstInFunctions rule l [] = ⊥
FirstInFunctions rule l (f ∷ functions) = FirstInFunction rule l f ⊎ AcceptedFunction f × FirstInFunctions rule l functions

-- the fault that is answered for a unit
abbrev pub IsFirstRegionFault : RegionRule → ℕ → SourceUnit → Type 0
IsFirstRegionFault rule l unit = FirstInFunctions rule l (functions_of unit)

-- ---- what pins the rules from outside

-- a function that is accepted breaks no rule at any line
abbrev pub AcceptedBreaksNothing : Type 0
AcceptedBreaksNothing = (f : Function) (rule : RegionRule) (l : ℕ) → AcceptedFunction f → BreaksFunction rule l f → ⊥

-- one that is not accepted does
abbrev pub AcceptedOrBroken : Type 0
AcceptedOrBroken = (f : Function) → AcceptedFunction f ⊎ ((rule : RegionRule) × (l : ℕ) × BreaksFunction rule l f)

-- a unit's functions are all accepted, or there is a fault that is answered
abbrev pub AcceptedOrFirst : Type 0
AcceptedOrFirst = (unit : SourceUnit) → HasRegions unit ⊎ ((rule : RegionRule) × (l : ℕ) × IsFirstRegionFault rule l unit)

-- and not both
abbrev pub NotBoth : Type 0
NotBoth = (unit : SourceUnit) (rule : RegionRule) (l : ℕ) → IsFirstRegionFault rule l unit → HasRegions unit → ⊥

-- a statement has one first fault at most
abbrev pub OneFirst : Type 0
OneFirst = (before : RegionState) (s : Stmt) (rule rule' : RegionRule) (l l' : ℕ) → FirstIn rule l before s
    → FirstIn rule' l' before s → (l ≡ l') × (rule ≡ rule')

-- and so has a unit
abbrev pub OneFirstOfUnit : Type 0
OneFirstOfUnit = (unit : SourceUnit) (rule rule' : RegionRule) (l l' : ℕ) → IsFirstRegionFault rule l unit
    → IsFirstRegionFault rule' l' unit → (l ≡ l') × (rule ≡ rule')

-- the first fault of a unit is of a rule that is broken at its line
abbrev pub FirstIsBroken : Type 0
FirstIsBroken = (unit : SourceUnit) (rule : RegionRule) (l : ℕ) → IsFirstRegionFault rule l unit → BreaksRegionRule rule l unit
