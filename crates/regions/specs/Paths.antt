-- The path after a statement or its first fault, as a function of the tree.
use Rattle.std.specs.Prelude.{ℕ, Bool, true, false, not, Option, Some, None, Result, Ok, Err}
use Rattle.syntax.specs.Tree.{Stmt, Plain, If, While, Return, Else, NoElse, ElseBlock, Block, End, Next}
use Rattle.syntax.specs.Parts.{line_of}
use Rattle.region_rules.specs.RegionStates.{RegionState, state_after}
use Rattle.region_rules.specs.declared.rule.RegionRule.{RegionRule}
use Rattle.region_rules.specs.declared.rule.RegionRule.TheVariants.{HeldBuffer, PathsDiffer, NoReturn}
use Rattle.region_states.specs.SameStates.{same_state}
use Rattle.region_rules.specs.Regions.{Path, On, Returned, holds_own, left, where_true, where_false}
use Rattle.region_rules.specs.FirstFaults.{first_broken}

-- a rule that is broken, with its line
abbrev pub Found : Type 0
Found = ℕ × RegionRule

-- a statement's own fault, or else how it goes on
abbrev pub own_path : Option RegionRule → ℕ → Result Path Found → Result Path Found
own_path None line go = go
own_path (Some rule) line go = Err (line, rule)

-- how a path goes on after a statement
abbrev pub path_after : Result Path Found → (RegionState → Result Path Found) → Result Path Found → Result Path Found
path_after (Err e) go stop = Err e
path_after (Ok (On middle)) go stop = go middle
path_after (Ok Returned) go stop = stop

-- the path where the test holds, and else the fault
abbrev pub path_if : Bool → Path → Found → Result Path Found
path_if true w fault = Ok w
path_if false w fault = Err fault

-- nothing comes after a return
abbrev pub returned_before : Block → Result Path Found
returned_before (End line) = Ok Returned
returned_before (Next s rest) = Err (line_of s, NoReturn)

-- two paths become one; where they go on with different states that is the fault
abbrev pub join_paths : ℕ → Result Path Found → Result Path Found → Result Path Found
join_paths line (Err e) b = Err e
join_paths line (Ok a) (Err e) = Err e
join_paths line (Ok Returned) (Ok b) = Ok b
join_paths line (Ok (On a)) (Ok Returned) = Ok (On a)
join_paths line (Ok (On a)) (Ok (On b)) = path_if (same_state a b) (On a) (line, PathsDiffer)

-- the path after a loop, whose body comes back to the state in which it began
abbrev pub turn_path : ℕ → RegionState → Result Path Found → Result Path Found
turn_path line before (Err e) = Err e
turn_path line before (Ok Returned) = Ok (On before)
turn_path line before (Ok (On after)) = path_if (same_state after before) (On before) (line, PathsDiffer)

abbrev mutual
  -- the path after a statement, or its first fault
  pub path_of : RegionState → Stmt → Result Path Found
  path_of before (If line test then' else') = own_path (first_broken before (If line test then' else')) line
      (join_paths line (path_of_block before (where_true before test) then') (path_of_else before (where_false before test) else'))
  path_of before (While line test body) = own_path (first_broken before (While line test body)) line (turn_path line before (path_of_block before before body))
  path_of before (Return line e) = own_path (first_broken before (Return line e)) line (Ok Returned)
  path_of before (Plain line p) = own_path (first_broken before (Plain line p)) line (Ok (On (state_after before (Plain line p))))

  -- the same of the second block of an `if`, where it has one
  pub path_of_else : RegionState → RegionState → Else → Result Path Found
  path_of_else outer before NoElse = Ok (On before)
  path_of_else outer before (ElseBlock b) = path_of_block outer before b

  -- the same of the rest of a block
  pub path_of_block : RegionState → RegionState → Block → Result Path Found
  path_of_block outer before (End line) = path_if (not (holds_own outer before)) (On (left outer before)) (line, HeldBuffer)
  path_of_block outer before (Next s rest) = path_after (path_of before s) (λ middle. path_of_block outer middle rest) (returned_before rest)
