-- What a check finds: the first fault, or none.
use Rattle.std.specs.Prelude.{◌≡◌, ℕ, List, [], ◌∷◌, Option, Some, None, Result, Ok, Err, filter_map}
use Rattle.std.specs.Option.{option_or}
use Rattle.syntax.specs.Tree.{Block, End, Next, Function, Item, StaticItem, FunctionItem}
use Rattle.places.specs.declared.fault.Fault.{Fault as FaultAt}
use Rattle.regions.specs.declared.fault.CheckError.{CheckError}
use Rattle.regions.specs.declared.fault.CheckError.TheVariants.{Memory, Fault}
use Rattle.region_rules.specs.declared.rule.RegionRule.{RegionRule}
use Rattle.region_rules.specs.declared.rule.RegionRule.TheVariants.{NoReturn}
use Rattle.region_rules.specs.RegionStates.{state_at_entry}
use Rattle.region_rules.specs.Regions.{Path, On, Returned}
use Rattle.regions.specs.Paths.{Found, path_of_block}

-- a rule that is broken, and the line
abbrev pub RegionFault : Type 0
RegionFault = FaultAt RegionRule ℕ

-- the line and the rule
abbrev pub fault_of : RegionFault → Found
fault_of f = (f.line, f.rule)

-- memory ran out, or this is the fault
abbrev pub Refuses : CheckError → Option Found → Type 0
Refuses Memory found = Unit {0}
Refuses (Fault f) found = found ≡ Some (fault_of f)

-- what a check found: nothing, or this fault, unless memory ran out
abbrev pub Finds : {A : Type 0} → Result A CheckError → Option Found → Type 0
Finds (Ok x) found = found ≡ None
Finds (Err e) found = Refuses e found

-- the fact of the fault, unless memory ran out
abbrev pub IfBroken : CheckError → (RegionFault → Type 0) → Type 0
IfBroken Memory P = Unit {0}
IfBroken (Fault f) P = P f

-- ---- functions

-- the line of a block's closing brace
abbrev pub end_line_of : Block → ℕ
end_line_of (End line) = line
end_line_of (Next s rest) = end_line_of rest

-- the fault where a function's body ends with this path
abbrev pub fault_at_end : Result Path Found → ℕ → Option Found
fault_at_end (Err e) line = Some e
fault_at_end (Ok (On state)) line = Some (line, NoReturn)
fault_at_end (Ok Returned) line = None

-- a function's first fault
abbrev pub function_fault : Function → Option Found
function_fault f = fault_at_end (path_of_block (state_at_entry f) (state_at_entry f) f.body) (end_line_of f.body)

-- the fault of an item
abbrev pub item_fault : Item → Option Found
item_fault (StaticItem s) = None
item_fault (FunctionItem f) = function_fault f

-- the first fault of items
abbrev pub items_fault : List Item → Option Found
items_fault [] = None
items_fault (item ∷ items) = let further = items_fault items in option_or (item_fault item) further

-- the fault of each item that has one
abbrev pub items_faults : List Item → List Found
items_faults items = filter_map item_fault items

-- the first fault of functions
abbrev pub first_fault : List Function → Option Found
first_fault [] = None
first_fault (f ∷ functions) = let further = first_fault functions in option_or (function_fault f) further
