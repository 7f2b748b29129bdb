-- Which units are accepted: each path through a function keeps the rules on buffers, references and frames.
use Rattle.std.specs.Prelude.{◌≡◌, ℕ, ◌+◌, Bool, not, ◌⊎◌, bytes_eq, filter, IsTrue, Contains}
use Rattle.std.specs.List.{list_any, AllByRecursion}
use Rattle.base.specs.Bytes.{Identifier}
use Rattle.syntax.specs.declared.expr.BinaryOp.TheVariants.{Equal, NotEqual}
use Rattle.syntax.specs.declared.expr.Constant.TheVariants.{Null}
use Rattle.syntax.specs.Parts.{line_of, functions_of}
use Rattle.syntax.specs.Tree.{Named, Variable, Binary, Test, TestExpr, TestCall, Stmt, Plain, If, While, Return, Else, NoElse, ElseBlock, Block, End, Next, Function, SourceUnit}
use Rattle.region_rules.specs.declared.rule.RegionRule.{RegionRule}
use Rattle.region_rules.specs.declared.rule.RegionRule.TheVariants.{HeldBuffer, PathsDiffer, NoReturn}
use Rattle.region_rules.specs.RegionRules.{holds_buffer, breaks_region_rule, Obeys}
use Rattle.region_rules.specs.RegionStates.{made_free, Untested, Usable, VariableState, BufferIn, RegionState, with_changed, state_after, state_at_entry}

-- ---- tests and blocks

-- on the path where it is not
abbrev pub made_usable : VariableState → VariableState
made_usable (BufferIn (Untested access array)) = BufferIn (Usable access array)
made_usable s = s

-- the state on the two branches of an if: a null test teaches, and PushLocalFrame makes a frame where it answers 0
abbrev pub where_true : RegionState → Test → RegionState
where_true state (TestExpr (Binary Equal (Variable x) (Named Null))) = with_changed state x made_free
where_true state (TestExpr (Binary NotEqual (Variable x) (Named Null))) = with_changed state x made_usable
where_true state (TestExpr e) = state
where_true state (TestCall c) = record state { frames = state.frames + 1 }

-- the state on the other way
abbrev pub where_false : RegionState → Test → RegionState
where_false state (TestExpr (Binary Equal (Variable x) (Named Null))) = with_changed state x made_usable
where_false state (TestExpr (Binary NotEqual (Variable x) (Named Null))) = with_changed state x made_free
where_false state test = state

-- whether a variable is one of a state
abbrev pub has_variable : RegionState → Identifier → Bool
has_variable state x = list_any (λ v. bytes_eq v.0 x) state.variables

-- a state without the variables that are not of the outer one
abbrev pub left : RegionState → RegionState → RegionState
left outer state = record state { variables = filter (λ v. has_variable outer v.0) state.variables }

-- a buffer of the block itself is not free
abbrev pub holds_own : RegionState → RegionState → Bool
holds_own outer state = holds_buffer (record state { variables = filter (λ v. not (has_variable outer v.0)) state.variables })

-- ---- the paths through a function

-- how a path goes on after a statement: with a state, or not at all
pub data Path : Type 0 where
  On : RegionState → Path
  Returned : Path

-- two paths become one: a path that returns joins nothing, and two that go on have equal states
abbrev pub Join : Path → Path → Path → Type 0
Join Returned second path = path ≡ second
Join (On a) Returned path = path ≡ On a
Join (On a) (On b) path = (a ≡ b) × (path ≡ On a)

-- a body comes back to the state in which it began, or not at all
abbrev pub ComesBack : RegionState → Path → Type 0
ComesBack state Returned = Unit {0}
ComesBack state (On after) = after ≡ state

-- no statement is left in a block
abbrev pub IsEnd : Block → Type 0
IsEnd (End line) = Unit {0}
IsEnd (Next s rest) = ⊥

abbrev mutual
  -- with this state before it, the statement keeps the rules, and this is its path after it
  pub Keeps : RegionState → Stmt → Path → Type 0
  Keeps before (If line test then' else') path =
      Obeys before (If line test then' else')
      × (yes no : Path) × KeepsBlock before (where_true before test) then' yes × KeepsElse before (where_false before test) else' no × Join yes no path
  Keeps before (While line test body) path =
      Obeys before (While line test body) × (turn : Path) × KeepsBlock before before body turn × ComesBack before turn × (path ≡ On before)
  Keeps before (Return line e) path = Obeys before (Return line e) × (path ≡ Returned)
  Keeps before (Plain line p) path = Obeys before (Plain line p) × (path ≡ On (state_after before (Plain line p)))

  -- the same of the second block of an `if`; without one the path goes on as it is
  pub KeepsElse : RegionState → RegionState → Else → Path → Type 0
  KeepsElse outer before NoElse path = path ≡ On before
  KeepsElse outer before (ElseBlock b) path = KeepsBlock outer before b path

  -- the same of the rest of a block; the variables of the outer state are not the block's own
  pub KeepsBlock : RegionState → RegionState → Block → Path → Type 0
  KeepsBlock outer before (End line) path = IsTrue (not (holds_own outer before)) × (path ≡ On (left outer before))
  KeepsBlock outer before (Next s rest) path =
      ((middle : RegionState) × Keeps before s (On middle) × KeepsBlock outer middle rest path)
      ⊎ (Keeps before s Returned × IsEnd rest × (path ≡ Returned))

-- each path through the function ends with a return
abbrev pub AcceptedFunction : Function → Type 0
AcceptedFunction f = KeepsBlock (state_at_entry f) (state_at_entry f) f.body Returned

-- each function of the unit is accepted
abbrev pub HasRegions : SourceUnit → Type 0
HasRegions unit = AllByRecursion AcceptedFunction (functions_of unit)

-- ---- which rule is broken where: a place is judged where the statements before it on its path keep the rules

-- the states of two paths differ
abbrev pub Differ : Path → Path → Type 0
Differ (On a) (On b) = a ≡ b → ⊥
Differ first second = ⊥

-- the line of a block's closing brace
abbrev pub EndLine : Block → ℕ → Type 0
EndLine (End line) l = l ≡ line
EndLine (Next s rest) l = EndLine rest l

-- a statement where no path goes
abbrev pub BreaksAfter : RegionRule → ℕ → Block → Type 0
BreaksAfter rule l (End line) = ⊥
BreaksAfter rule l (Next s rest) = (rule ≡ NoReturn) × (l ≡ line_of s)

-- the statement itself breaks the rule, at its own line
abbrev pub BreaksHere : RegionRule → ℕ → RegionState → Stmt → Type 0
BreaksHere rule l before s = IsTrue (breaks_region_rule rule before s) × (l ≡ line_of s)

abbrev mutual
  -- the rule is broken at this line, by the statement or inside it
  pub BreaksIn : RegionRule → ℕ → RegionState → Stmt → Type 0
  BreaksIn rule l before (If line test then' else') =
      BreaksHere rule l before (If line test then' else')
      ⊎ Obeys before (If line test then' else')
      × (BreaksBlock rule l before (where_true before test) then'
      ⊎ BreaksElse rule l before (where_false before test) else')
      ⊎ Obeys before (If line test then' else') × (rule ≡ PathsDiffer) × (l ≡ line)
      × ((yes no : Path) × KeepsBlock before (where_true before test) then' yes × KeepsElse before (where_false before test) else' no × Differ yes no)
  BreaksIn rule l before (While line test body) =
      BreaksHere rule l before (While line test body)
      ⊎ Obeys before (While line test body) × BreaksBlock rule l before before body
      ⊎ Obeys before (While line test body) × (rule ≡ PathsDiffer) × (l ≡ line) × ((turn : Path) × KeepsBlock before before body turn × Differ turn (On before))
  BreaksIn rule l before s = BreaksHere rule l before s

  -- the same of the second block of an `if`, where it has one
  pub BreaksElse : RegionRule → ℕ → RegionState → RegionState → Else → Type 0
  BreaksElse rule l outer before NoElse = ⊥
  BreaksElse rule l outer before (ElseBlock b) = BreaksBlock rule l outer before b

  -- the same of the rest of a block
  pub BreaksBlock : RegionRule → ℕ → RegionState → RegionState → Block → Type 0
  BreaksBlock rule l outer before (End line) = (rule ≡ HeldBuffer) × (l ≡ line) × IsTrue (holds_own outer before)
  BreaksBlock rule l outer before (Next s rest) =
      BreaksIn rule l before s
      ⊎ ((middle : RegionState) × Keeps before s (On middle) × BreaksBlock rule l outer middle rest)
      ⊎ Keeps before s Returned × BreaksAfter rule l rest

-- a function's end reached without a return breaks a rule at its closing brace
abbrev pub BreaksFunction : RegionRule → ℕ → Function → Type 0
BreaksFunction rule l f =
    BreaksBlock rule l (state_at_entry f) (state_at_entry f) f.body
    ⊎ (rule ≡ NoReturn) × EndLine f.body l × ((end : RegionState) × KeepsBlock (state_at_entry f) (state_at_entry f) f.body (On end))

-- the rule is broken at this line of the unit
abbrev pub BreaksRegionRule : RegionRule → ℕ → SourceUnit → Type 0
BreaksRegionRule rule l unit = (f : Function) × Contains (functions_of unit) f × BreaksFunction rule l f
