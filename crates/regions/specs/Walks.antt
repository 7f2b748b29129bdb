-- The walk over the paths of a function, as the code takes it.
use Rattle.std.specs.Prelude.{◌≡◌, Result, Ok, Err}
use Rattle.syntax.specs.Tree.{Stmt, Plain, If, While, Return, Block}
use Rattle.regions.specs.declared.fault.CheckError.{CheckError}
use Rattle.regions.specs.declared.fault.CheckError.TheVariants.{Memory, Fault}
use Rattle.regions.specs.declared.joins.Path.{Path as PathInMemory}
use Rattle.regions.specs.declared.joins.Path.TheVariants as path
use Rattle.regions.specs.declared.joins.Branch.{Branch}
use Rattle.regions.specs.Findings.{fault_of}
use Rattle.region_rules.specs.RegionStates.{RegionState, state_after}
use Rattle.region_rules.specs.Regions.{Path, On, Returned, where_true, where_false}
use Rattle.region_states.specs.StatesInMemory.{names_of, IsSaved}
use Rattle.regions.specs.Paths.{Found, path_after, returned_before, join_paths, turn_path, path_of_block, path_of_else}

-- a path of the definitions, or the fault
abbrev pub PathOrFault : Type 0
PathOrFault = Result Path Found

-- the path of the definitions, where this is the state after it
abbrev pub path_value : PathInMemory → RegionState → Path
path_value path.On state = On state
path_value path.Returned state = Returned

-- memory ran out, or this is the fault
abbrev pub Stops : CheckError → PathOrFault → Type 0
Stops Memory expected = Unit {0}
Stops (Fault f) expected = expected ≡ Err (fault_of f)

-- this is the path, with this state after it, or the fault, unless memory ran out
abbrev pub Goes : Result PathInMemory CheckError → RegionState → PathOrFault → Type 0
Goes (Ok w) after expected = expected ≡ Ok (path_value w after)
Goes (Err e) after expected = Stops e expected

-- this is the path through the first branch of a test, and what is known after it, while the state is now this other one; or the fault, unless memory ran out
abbrev pub Branches : Result Branch CheckError → RegionState → PathOrFault → RegionState → Type 0
Branches (Ok b) now expected other = (s : RegionState) × IsSaved b.known s × (names_of s ≡ names_of now) × (expected ≡ Ok (path_value b.path s)) × (now ≡ other)
Branches (Err e) now expected other = Stops e expected

-- where there is a first branch, what is known after it is kept of the variables of this state
abbrev pub Awaits : Result Branch CheckError → RegionState → Type 0
Awaits (Ok b) now = (s : RegionState) × IsSaved b.known s × (names_of s ≡ names_of now)
Awaits (Err e) now = Unit {0}

-- the path through the rest of a block, after this path so far
abbrev pub go_on : RegionState → Path → Block → PathOrFault
go_on outer path rest = path_after (Ok path) (λ middle. path_of_block outer middle rest) (returned_before rest)

-- the path after a statement that keeps the rules itself
abbrev pub inner_path : RegionState → Stmt → PathOrFault
inner_path before (If line test then' else') =
    join_paths line (path_of_block before (where_true before test) then') (path_of_else before (where_false before test) else')
inner_path before (While line test body) = turn_path line before (path_of_block before before body)
inner_path before (Return line e) = Ok Returned
inner_path before (Plain line p) = Ok (On (state_after before (Plain line p)))
