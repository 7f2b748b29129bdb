-- The changes of what is known of a variable, as they lie in memory.
use Rattle.std.specs.Prelude.{ℕ, true, List, Option}
use Rattle.std.specs.Option.{option_map}
use Rattle.std.specs.Borrow.{Bor}
use Rattle.base.specs.Bytes.{Identifier}
use Rattle.jni.specs.declared.access.Access.{Access}
use Rattle.region_states.specs.declared.variables.Change.{Change}
use Rattle.region_states.specs.declared.variables.Change.TheVariants as change
use Rattle.region_rules.specs.RegionStates.{VariableState, ReferenceAt, BufferIn, killed, buffer_from}
use Rattle.region_rules.specs.Regions.{made_usable}

-- a Get in memory
abbrev pub get_value : Access × Option (Bor (List ℕ)) → Access × Option Identifier
get_value g = (g.0, option_map (λ x. x.now) g.1)

-- a change in memory
abbrev pub change_value : Change → VariableState → VariableState
change_value change.Usable = made_usable
change_value change.Kill = killed

-- a variable after it is set by a statement with this Get, if it has one
abbrev pub set_from : Option (Access × Option Identifier) → VariableState → VariableState
set_from get (ReferenceAt level live) = ReferenceAt level true
set_from get (BufferIn b) = BufferIn (buffer_from get)
