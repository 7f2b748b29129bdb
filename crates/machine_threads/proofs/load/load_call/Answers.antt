use Rattle.std.proofs.Common.{◌≡◌, ℕ, ◌≤◌, Bool, List, map, length, sym, ap, ◌∙◌, subst, arith}
use Rattle.std.specs.Option.{option_and_then}
use Rattle.syntax.specs.declared.unit.Function.{Function}
use Rattle.syntax.specs.declared.unit.Parameter.{Parameter as ParameterInMemory}
use Rattle.syntax.specs.Views.{function_tree, parameter_tree}
use Rattle.class_rules.specs.Class.{Classes, class_named}
use Rattle.class_rules.specs.ClassIds.{number_of}
use Rattle.class_rules.specs.Mangling.{native_class}
use Rattle.semantics.specs.Object.{ObjectValue}
use Rattle.world_values.specs.Views.{object_value_view}
use Rattle.semantics.specs.World.{loaded_objects}
use Rattle.semantics.proofs.ShownRows.{length-loaded}
use Rattle.semantics.specs.Load.{fit_parameters}
use Rattle.code_meaning.specs.Lowered.{Lowered}
use Rattle.machine_threads.specs.Loading.{IsNumberOf}
use Rattle.machine_threads.proofs.LoadLemmas.{call_found, no_fit}
use Rattle.machine_threads.proofs.load.load_call.Goals as goal

-- the test of the arguments, of the function's parameters
tested : (f : Function) (parameters : List ParameterInMemory) (given arguments : List ObjectValue) (answer : Bool)
    → parameters ≡ f.parameters.items → given ≡ arguments → answer ≡ fit_parameters (map parameter_tree parameters) given → fit_parameters (function_tree f).parameters arguments ≡ answer
tested f parameters given arguments answer e g a =
    ap (λ (l : List ParameterInMemory). fit_parameters (map parameter_tree l) arguments) (sym e) ∙ ap (fit_parameters (map parameter_tree parameters)) (sym g) ∙ sym a

-- the function's number, by its name in the call
renamed : (p : Lowered) (a b : List ℕ) (number : ℕ) (f : Function) → a ≡ b → IsNumberOf p a number f → IsNumberOf p b number f
renamed p a b number f same n = subst (λ (name : List ℕ). IsNumberOf p name number f) same n

pub returns-then-not-arguments_fit : goal.returns-then-not-arguments_fit
returns-then-not-arguments_fit c =
    let f = c.in-Some.found.function.now in
    let number = renamed c.args.program.now c.function.result.now c.args.call.now.function c.in-Some.found.number f c.function.ensures c.in-Some.ensures.found in
    let fit = tested f c.deref.result.now (map object_value_view c.arguments.result.now) c.args.call.now.arguments c.arguments_fit.result c.deref.ensures.value c.arguments.ensures c.arguments_fit.ensures in
    no_fit c.args.program.now c.args.world.now.classes c.args.call.now c.in-Some.found.number f number (fit ∙ c.if-not-arguments_fit.true)

pub returns : goal.returns
returns c =
    let w = c.args.world.now in
    let f = c.in-Some.found.function.now in
    let number = renamed c.args.program.now c.function.result.now c.args.call.now.function c.in-Some.found.number f c.function.ensures c.in-Some.ensures.found in
    let fit = tested f c.deref.result.now (map object_value_view c.arguments.result.now) c.args.call.now.arguments c.arguments_fit.result c.deref.ensures.value c.arguments.ensures c.arguments_fit.ensures in
    let few : length w.classes ≤ length (loaded_objects w) = omega (arith, length-loaded w) in
    let known = ap (λ (n : List ℕ). option_and_then (class_named w.classes) (native_class n)) (sym c.function-2.ensures)
    ∙ ap (λ (t : Classes). option_and_then (class_named t) (native_class c.function-2.result.now)) (sym c.classes.ensures.classes)
    ∙ sym c.in_ok-class.ensures ∙ ap number_of c.in-Some-2.is in
    let given = ap (map object_value_view) c.in_ok-from_slice.ensures.items ∙ c.arguments-2.ensures in
    call_found c.args.program.now w.classes (length (loaded_objects w)) c.args.call.now f (record { function = c.in-Some.found.number; class = c.in-Some-2.class; arguments = c.in_ok-from_slice.field-0 }) c.function_named.ensures.tree number few known given c.requires.given (fit ∙ c.if-not-arguments_fit.false)
