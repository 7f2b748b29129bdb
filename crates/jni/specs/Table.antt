-- From memory to functions, and to what is known of each.
use Rattle.std.specs.Prelude.{ℕ, ◌+◌, ◌-◌, ◌*◌, ◌%◌, Bool, List, length, get_or, map, bytes_eq}
use Rattle.std.specs.Borrow.{Bor}
use Rattle.base.specs.Bytes.{Identifier}
use Rattle.jni.specs.JniFunction.{is_allowed_pending, prototype, all_functions}
use Rattle.jni.specs.Prototype.{Prototype}
use Rattle.jni.specs.StateEffect.{state_effect}
use Rattle.jni.specs.declared.kinds.Prototype.{Prototype as PrototypeInMemory}
use Rattle.jni.specs.declared.function.JniFunction.{JniFunction}
use Rattle.jni.specs.declared.kinds.StateEffect.{StateEffect}

-- all that the table says of a function
pub record Facts : Type 0 where
  pub prototype : Prototype
  pub effect : StateEffect
  pub pending : Bool

-- by the definitions
abbrev pub facts_of : JniFunction → Facts
facts_of f = record { prototype = prototype f; effect = state_effect f; pending = is_allowed_pending f }

-- of all functions, by the definitions
abbrev pub all_rows : List Facts
all_rows = map facts_of all_functions

-- in memory
abbrev pub facts : PrototypeInMemory → Facts
facts p = record {
  prototype = record {
    name = p.name.now;
    parameters = p.parameters.now;
    result = p.result;
  };
  effect = p.effect;
  pending = p.pending;
}

-- a number of a name, by its length, its first and its last byte
abbrev pub bucket : Identifier → ℕ
bucket name = (length name % 128 + 6 * get_or name 0 0 + 2 * get_or name (length name - 1) 0) % 128

-- a list of functions, out of its borrow
abbrev pub listed : Bor (List JniFunction) → List JniFunction
listed functions = functions.now

-- whether a name is the function's
unfoldable pub has_name : Identifier → JniFunction → Bool
has_name name f = bytes_eq (prototype f).name name
