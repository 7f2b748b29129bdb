-- Which worlds go with a unit.
use Rattle.std.specs.Prelude.{ℕ, Bool, true, false, not, ◌&&◌, ◌||◌, if◌then◌else◌, List, [], ◌∷◌, ◌++◌, filter, flat_map, map, is_some, slice_get, Option, IsTrue}
use Rattle.std.specs.List.{list_all, list_any}
use Rattle.std.specs.Str.{bytes_eq}
use Rattle.base.specs.Options.{some_passes}
use Rattle.syntax.specs.Parts.{functions_of, statements_of, own_call}
use Rattle.syntax.specs.declared.declared_type.ParameterType.{ParameterType}
use Rattle.syntax.specs.declared.declared_type.ParameterType.TheVariants.{Jint as IntParameter, Reference as ReferenceParameter}
use Rattle.syntax.specs.Tree.{Call, Parameter, Function, SourceUnit}
use Rattle.class_rules.specs.Class.{Classes}
use Rattle.jni.specs.declared.function.JniFunction.TheVariants.{GetStaticMethodID}
use Rattle.jni.specs.JniFunction.{prototype}
use Rattle.semantics.specs.Object.{ObjectValue, Number, Refers}
use Rattle.semantics.specs.World.{Invocation, World}
use Rattle.semantics.specs.Activation.{function_at, class_of_function}

-- a number for `jint`, and NULL or any object for a reference type
abbrev pub fits_parameter : ParameterType → ObjectValue → Bool
fits_parameter IntParameter (Number z) = true
fits_parameter (ReferenceParameter type) (Refers r) = true
fits_parameter type v = false

-- as many arguments as parameters, each of its kind
abbrev pub fit_parameters : List Parameter → List ObjectValue → Bool
fit_parameters [] [] = true
fit_parameters (p ∷ ps) (v ∷ vs) = fits_parameter p.type v && fit_parameters ps vs
fit_parameters ps vs = false

-- the function's class is in the table, and the arguments fit
abbrev pub is_callable : Classes → List ObjectValue → Function → Bool
is_callable classes arguments f = is_some (class_of_function classes f) && fit_parameters f.parameters arguments

-- the function is there, its class too, and the arguments fit
abbrev pub call_loads : SourceUnit → Classes → Invocation → Bool
call_loads unit classes call = some_passes (is_callable classes call.arguments) (function_at unit call.function)

-- GetStaticMethodID is called somewhere in the unit
abbrev pub asks_methods : SourceUnit → Bool
asks_methods unit =
    list_any (λ (f : Function). list_any (λ s. some_passes (λ (c : Call). bytes_eq c.function (prototype GetStaticMethodID).name) (own_call s)) (statements_of f.body))
    (functions_of unit)

-- where methods are asked for, the world allows them
abbrev pub methods_load : SourceUnit → World → Bool
methods_load unit w = not (asks_methods unit) || w.methods

-- methods are allowed where they are asked for, and each call of each thread loads
abbrev pub Loads : SourceUnit → World → Type 0
Loads unit w = IsTrue (methods_load unit w) × IsTrue (list_all (list_all (call_loads unit w.classes)) w.threads)

-- the calls that don't
abbrev pub refused_calls : SourceUnit → Classes → List Invocation → List Invocation
refused_calls unit classes calls = filter (λ c. not (call_loads unit classes c)) calls

-- the lines of what doesn't load, in text order
abbrev pub load_faults : SourceUnit → World → List ℕ
load_faults unit w =
    (if methods_load unit w then [] else w.heap_line ∷ []) ++ map (λ (c : Invocation). c.line) (flat_map (refused_calls unit w.classes) w.threads)

-- the line of the fault that is answered
abbrev pub first_load_fault : SourceUnit → World → Option ℕ
first_load_fault unit w = slice_get (load_faults unit w) 0
