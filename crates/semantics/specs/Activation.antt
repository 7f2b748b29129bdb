-- How a thread enters its next call.
use Rattle.std.specs.Prelude.{ℕ, ◌+◌, List, [], ◌∷◌, length, filter_map, find, zip, Option, Some, None}
use Rattle.std.specs.Option.{option_map, option_and_then}
use Rattle.std.specs.Str.{bytes_eq}
use Rattle.base.specs.Bytes.{Identifier}
use Rattle.syntax.specs.Parts.{functions_of}
use Rattle.syntax.specs.Tree.{Function, Parameter, SourceUnit}
use Rattle.class_rules.specs.Class.{Classes, class_named}
use Rattle.class_rules.specs.Mangling.{native_class}
use Rattle.semantics.specs.Object.{ObjectValue, Number, Refers}
use Rattle.semantics.specs.World.{Invocation}
use Rattle.semantics.specs.Task.{tasks_of}
use Rattle.semantics.specs.declared.event.Event.TheVariants.{Quiet}
use Rattle.semantics.specs.Thread.{Frame, Thread, Shared, Advance, Advances, NoAdvance}
use Rattle.semantics.specs.declared.value.Value.TheVariants.{Int}
use Rattle.semantics.specs.Variable.{Variable, Scalar, LocalRef, Variables}

-- ---- entry

-- the function of this name
abbrev pub function_at : SourceUnit → Identifier → Option Function
function_at unit name = find (λ (f : Function). bytes_eq f.name name) (functions_of unit)

-- the class whose native method a function is
abbrev pub class_of_function : Classes → Function → Option ℕ
class_of_function classes f = option_and_then (class_named classes) (native_class f.name)

-- a parameter with its argument; its level is 1
abbrev pub parameter_variable : Parameter × ObjectValue → Identifier × Variable
parameter_variable (p, Number z) = (p.name, Scalar (Int z))
parameter_variable (p, Refers r) = (p.name, LocalRef 1 r)

-- the variables of all parameters
abbrev pub parameter_variables : List (Parameter × ObjectValue) → Variables
parameter_variables [] = []
parameter_variables (p ∷ rest) = parameter_variable p ∷ parameter_variables rest

-- the object of an argument that is a reference but NULL
abbrev pub named_object : ObjectValue → Option ℕ
named_object (Number z) = None
named_object (Refers r) = r

-- the class and the arguments that aren't NULL, and room for 16 more
abbrev pub entry_frame : List ℕ → Frame
entry_frame references = record { capacity = length references + 16; references = references }

-- the thread at the first statement of a function
abbrev pub entered : Thread → List Invocation → Function → (class : ℕ) → List ObjectValue → Thread
entered t calls f class arguments = record t {
  calls = calls;
  tasks = Some (tasks_of f.body);
  variables = (f.class_name, LocalRef 1 (Some class)) ∷ parameter_variables (zip f.parameters arguments);
  frames = entry_frame (class ∷ filter_map named_object arguments) ∷ [];
}

-- the thread after its entry, where the function and its class are there
abbrev pub entered_function : Classes → Thread → Invocation → List Invocation → Option Function → Option Thread
entered_function classes t call calls None = None
entered_function classes t call calls (Some f) = option_map (λ c. entered t calls f c call.arguments) (class_of_function classes f)

-- the thread after the entry of its next call
abbrev pub enter : SourceUnit → Classes → Thread → List Invocation → Option Thread
enter unit classes t [] = None
enter unit classes t (call ∷ calls) = entered_function classes t call calls (function_at unit call.function)

-- a step into a call, where it is possible
abbrev pub entry_advance : Shared → Option Thread → Advance
entry_advance s None = NoAdvance
entry_advance s (Some t) = Advances s t Quiet

-- the entry into the next call
abbrev pub entry_step : SourceUnit → Classes → Shared → Thread → Advance
entry_step unit classes s t = entry_advance s (enter unit classes t t.calls)
