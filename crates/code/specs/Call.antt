-- Calls as instructions have them.
use Rattle.std.specs.Prelude.{◌≡◌, ℕ, Bool, true, false, not, ◌||◌, List, map}
use Rattle.std.specs.List.{list_all, list_any}
use Rattle.jni.specs.declared.function.JniFunction.{JniFunction}
use Rattle.jni.specs.JniFunction.{prototype}
use Rattle.jni.specs.declared.kinds.ParameterKind.{ParameterKind}
use Rattle.jni.specs.declared.kinds.ParameterKind.TheVariants.{Nullable, LocalVariable}
use Rattle.code.specs.declared.instr.Call.{Call as InMemory}
use Rattle.code.specs.declared.instr.Operand.{Operand}
use Rattle.code.specs.declared.instr.Operand.TheVariants.{Static}
use Rattle.code.specs.declared.instr.Target.{Target}

-- the line, where the result goes, the function, and where its arguments are found
pub record Call : Type 0 where
  pub line : ℕ
  pub target : Target
  pub function : JniFunction
  pub operands : List Operand
  -- the texts among the arguments
  pub texts : List (List ℕ)

-- a call in memory
abbrev pub call_view : InMemory → Call
call_view c = record {
  line = c.line;
  target = c.target;
  function = c.function;
  operands = c.operands.items;
  texts = map (λ text. text.items) c.texts.items;
}

-- a parameter takes each local reference, and NULL
abbrev pub takes_any : ParameterKind → Bool
takes_any Nullable = true
takes_any LocalVariable = true
takes_any p = false

-- an argument is the global reference of a static
abbrev pub is_static : Operand → Bool
is_static (Static i) = true
is_static o = false

-- something has to be checked of the arguments of a call with these parameters
abbrev pub asks : List ParameterKind → List Operand → Bool
asks parameters operands = not (list_all takes_any parameters) || list_any is_static operands

-- a call in memory has what the table says of its function
pub record IsPrepared (c : InMemory) : Type 0 where
  pub result : c.result ≡ (prototype c.function).result
  pub asked : c.asks ≡ asks (prototype c.function).parameters c.operands.items
