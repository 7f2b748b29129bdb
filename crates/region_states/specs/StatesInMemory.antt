-- What is known of variables, as it lies in memory.
use Rattle.std.specs.Prelude.{◌≡◌, ℕ, ◌+◌, not, ◌&&◌, Some, Bool, if◌then◌else◌, List, [], ◌∷◌, ◌++◌, reverse, length, map, Option, bytes_eq}
use Rattle.std.specs.Option.{option_and_then, unwrap_or}
use Rattle.std.specs.List.{list_any, zip}
use Rattle.base.specs.Bytes.{Identifier, ByName, lookup}
use Rattle.base.specs.Options.{some_passes}
use Rattle.jni.specs.declared.access.Access.{Access}
use Rattle.jni.specs.Access.{is_critical}
use Rattle.region_states.specs.declared.states.VariableState.{VariableState as VariableStateInMemory}
use Rattle.region_states.specs.declared.states.VariableState.TheVariants as known
use Rattle.region_states.specs.declared.states.Facts.{Facts}
use Rattle.region_states.specs.declared.tally.Tally.{Tally}
use Rattle.region_states.specs.declared.states.Condition.{Condition}
use Rattle.region_states.specs.declared.states.Condition.TheVariants as condition
use Rattle.region_rules.specs.RegionStates.{VariableState, ReferenceAt, BufferIn, Free, Untested, Usable, RegionState, state_of, buffer_of, held_by}
use Rattle.region_rules.specs.Regions.{has_variable}
use Rattle.region_rules.specs.RegionRules.{is_dead, is_reference_now, is_untested, is_free, is_held, is_level}

-- what is known of a variable
abbrev pub variable_state : VariableStateInMemory → VariableState
variable_state (known.Reference level live) = ReferenceAt level.number live
variable_state known.Free = BufferIn Free
variable_state (known.Untested a x) = BufferIn (Untested a x.now)
variable_state (known.Usable a x) = BufferIn (Usable a x.now)

-- variables of these names, the oldest first, with what is known of each
abbrev pub variables_value : List Identifier → List VariableStateInMemory → ByName VariableState
variables_value names variables = reverse (zip names (map variable_state variables))

-- the state of variables of these names
abbrev pub state_value : List Identifier → Facts → RegionState
state_value names facts = record { variables = variables_value names facts.variables.items; frames = facts.frames }

-- the names of the variables, the oldest first
abbrev pub names_of : RegionState → List Identifier
names_of state = reverse (map (λ v. v.0) state.variables)

-- there are more variables, after those that there were
abbrev pub Grows : RegionState → RegionState → Type 0
Grows old new = (own : List Identifier) × (names_of new ≡ names_of old ++ own)

-- a held buffer's access and the variable of its array or string
abbrev pub held_in : VariableState → Option (Access × Identifier)
held_in v = option_and_then held_by (buffer_of v)

-- a held buffer of which this holds
abbrev pub is_holder : (Access × Identifier → Bool) → VariableState → Bool
is_holder asked v = some_passes asked (held_in v)

-- what a question asks
abbrev pub condition_holds : Condition → Option VariableState → Bool
condition_holds condition.Dead = is_dead
condition_holds condition.Reference = is_reference_now
condition_holds condition.Untested = is_untested
condition_holds condition.Free = is_free
condition_holds condition.Held = is_held
condition_holds condition.Critical = some_passes (is_holder (λ held. is_critical held.0))

-- the answer about a variable
abbrev pub asks : Condition → RegionState → Identifier → Bool
asks question state x = condition_holds question (state_of state x)

-- the answer is yes about some variable
abbrev pub any_asked : Condition → RegionState → Bool
any_asked question state = list_any (λ v. condition_holds question (Some v.1)) state.variables

-- some variable is one
abbrev pub any_holder : (Access × Identifier → Bool) → RegionState → Bool
any_holder asked state = list_any (λ v. is_holder asked v.1) state.variables

-- a critical buffer is held
abbrev pub holds_critical : RegionState → Bool
holds_critical state = any_holder (λ held. is_critical held.0) state

-- a buffer that is not of the outer state is held
abbrev pub holds_other : RegionState → RegionState → Bool
holds_other outer state = list_any (λ v. not (has_variable outer v.0) && is_held (Some v.1)) state.variables

-- the array variable of a held buffer is of the level of the youngest frame
abbrev pub has_young_array : RegionState → Bool
has_young_array state = any_holder (λ held. is_level state.frames (state_of state held.1)) state

-- a buffer of this array variable is held
abbrev pub holds_of : Identifier → RegionState → Bool
holds_of x state = any_holder (λ held. bytes_eq held.1 x) state

-- ---- how many variables there are of which something holds

-- one, or none
abbrev pub one_if : (VariableState → Bool) → VariableState → ℕ
one_if asked v = if asked v then 1 else 0

-- how many of these there are
abbrev pub how_many : (VariableState → Bool) → List VariableState → ℕ
how_many asked [] = 0
how_many asked (v ∷ vs) = one_if asked v + how_many asked vs

-- ---- how many meet each condition

-- the answer to a question about a variable that there is
abbrev pub meets : Condition → VariableState → Bool
meets question v = condition_holds question (Some v)

-- the number of a condition
abbrev pub number_of : Tally → Condition → ℕ
number_of tally condition.Dead = tally.dead
number_of tally condition.Reference = tally.references
number_of tally condition.Untested = tally.untested
number_of tally condition.Free = tally.free
number_of tally condition.Held = tally.held
number_of tally condition.Critical = tally.critical

-- the numbers are those of these variables
abbrev pub IsTallied : Tally → List VariableState → Type 0
IsTallied tally vs = (q : Condition) → number_of tally q ≡ how_many (meets q) vs

-- ---- how many held buffers of each array variable there are

-- a held buffer of this array variable
abbrev pub is_of : Identifier → VariableState → Bool
is_of x v = is_holder (λ held. bytes_eq held.1 x) v

-- one, or none
abbrev pub one_of : Identifier → VariableState → ℕ
one_of x v = one_if (is_of x) v

-- how many of these variables are held buffers of this array variable
abbrev pub holders : Identifier → List VariableState → ℕ
holders x vs = how_many (is_of x) vs

-- the number of a name; one without a number has 0
abbrev pub count_of : ByName ℕ → Identifier → ℕ
count_of counts x = unwrap_or (lookup x counts) 0

-- the number of this name alone is larger by one
abbrev pub HasOneMore : Identifier → ByName ℕ → ByName ℕ → Type 0
HasOneMore name old new = (x : Identifier) → count_of new x ≡ (if bytes_eq name x then 1 else 0) + count_of old x

-- the numbers are those with this variable too
abbrev pub CountsMore : VariableState → ByName ℕ → ByName ℕ → Type 0
CountsMore v old new = (x : Identifier) → count_of new x ≡ one_of x v + count_of old x

-- the numbers are those of these variables
abbrev pub IsCounted : ByName ℕ → List VariableState → Type 0
IsCounted counts vs = (x : Identifier) → count_of counts x ≡ holders x vs

-- the same of facts in memory, and of the numbers of their conditions
abbrev pub HasCounts : Facts → Type 0
HasCounts facts = IsCounted facts.holders (map variable_state facts.variables.items) × IsTallied facts.tally (map variable_state facts.variables.items)

-- what was saved of a state: with its names it is the state
abbrev pub IsSaved : Facts → RegionState → Type 0
IsSaved facts state = (length facts.variables.items ≡ length (names_of state)) × (state_value (names_of state) facts ≡ state) × HasCounts facts
