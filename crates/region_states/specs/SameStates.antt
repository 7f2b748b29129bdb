-- When two region states are the same, as a test.
use Rattle.std.specs.Prelude.{Bool, true, false, ◌&&◌, ◌==◌, bytes_eq}
use lib.Pointwise.{pointwise}
use Rattle.base.specs.Bytes.{Identifier}
use Rattle.jni.specs.Access.{same_access}
use Rattle.region_rules.specs.RegionStates.{BufferState, Free, Untested, Usable, VariableState, ReferenceAt, BufferIn, RegionState}

-- both true or both false
abbrev pub same_flag : Bool → Bool → Bool
same_flag true true = true
same_flag false false = true
same_flag a b = false

-- the same buffer state
abbrev pub same_buffer : BufferState → BufferState → Bool
same_buffer Free Free = true
same_buffer (Untested a x) (Untested b y) = same_access a b && bytes_eq x y
same_buffer (Usable a x) (Usable b y) = same_access a b && bytes_eq x y
same_buffer a b = false

-- the same of a variable
abbrev pub same_variable : VariableState → VariableState → Bool
same_variable (ReferenceAt l v) (ReferenceAt m u) = l == m && same_flag v u
same_variable (BufferIn a) (BufferIn b) = same_buffer a b
same_variable a b = false

-- a variable with what is known of it
abbrev pub NamedState : Type 0
NamedState = Identifier × VariableState

-- the same name, and the same known of it
abbrev pub same_named : NamedState → NamedState → Bool
same_named v w = bytes_eq v.0 w.0 && same_variable v.1 w.1

-- the same variables in the same order, and as many frames
abbrev pub same_state : RegionState → RegionState → Bool
same_state a b = pointwise same_named a.variables b.variables && a.frames == b.frames
