-- Programs and journals in short.
use Rattle.std.specs.Prelude.{ℕ, Bool, false, List, [], ◌∷◌, codes, replicate}
use Rattle.base.specs.Bytes.{Identifier}
use Rattle.syntax.specs.declared.declared_type.ReferenceType.{ReferenceType}
use Rattle.syntax.specs.declared.declared_type.ParameterType.TheVariants.{Jint as IntParameter, Reference as ReferenceParameter}
use Rattle.syntax.specs.declared.declared_type.StaticType.TheVariants.{Reference as ReferenceStatic, Weak as WeakStatic}
use Rattle.syntax.specs.declared.unit.ResultType.{ResultType}
use Rattle.syntax.specs.Tree.{Argument, Call, Variable, Stmt, Block, End, Next, Parameter, Item, StaticItem, FunctionItem, SourceUnit}
use Rattle.semantics.specs.Journal.{Entry, Step, Clearing, Journal}

-- ---- programs

-- these items
abbrev pub unit_of : List Item → SourceUnit
unit_of items = record { items = items }

-- these statements, and the line of the brace after them
abbrev pub block : List Stmt → (end_line : ℕ) → Block
block [] end_line = End end_line
block (s ∷ rest) end_line = Next s (block rest end_line)

-- a native method, whose class is its parameter `cls`
abbrev pub native : (line : ℕ) → ResultType → Identifier → List Parameter → List Stmt → (end_line : ℕ) → Item
native line result name parameters statements end_line = FunctionItem (record {
  line = line;
  result = result;
  name = name;
  class_name = codes "cls";
  parameters = parameters;
  body = block statements end_line;
})

-- a file-scope reference
abbrev pub static_reference : (line : ℕ) → ReferenceType → Identifier → Item
static_reference line type name = StaticItem (record { line = line; type = ReferenceStatic type; name = name })

-- a file-scope weak reference
abbrev pub static_weak : (line : ℕ) → Identifier → Item
static_weak line name = StaticItem (record { line = line; type = WeakStatic; name = name })

-- a parameter of a reference type
abbrev pub reference_parameter : ReferenceType → Identifier → Parameter
reference_parameter type name = record { type = ReferenceParameter type; name = name }

-- a parameter `jint`
abbrev pub int_parameter : Identifier → Parameter
int_parameter name = record { type = IntParameter; name = name }

-- a call of a function of the JNI
abbrev pub call : Identifier → List Argument → Call
call function arguments = record { function = function; arguments = arguments }

-- a variable as an argument
abbrev pub given : Identifier → Argument
given x = Argument.Value (Variable x)

-- ---- journals

-- an entry
abbrev pub entry : (thread : ℕ) → Bool → Entry
entry thread refused = Step thread refused

-- that of a clearing
abbrev pub clearing : (names : List ℕ) → Entry
clearing names = Clearing names

-- this many entries of a thread, none refused
abbrev pub entries : (thread n : ℕ) → Journal
entries thread n = replicate n (entry thread false)
