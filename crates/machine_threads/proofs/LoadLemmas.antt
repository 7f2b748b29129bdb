-- Calls that load, and calls that don't.
use Rattle.std.proofs.Common.{◌≡◌, ℕ, ℤ, pos, negsuc, suc, ◌+◌, ◌<◌, ◌≤◌, Bool, true, false, List, [], ◌∷◌, ◌++◌, length, drop, map, Option, Some, None, refl, sym, ap, ◌∙◌, subst, arith, append_assoc, append-nil, length-append}
use Rattle.std.specs.Prelude.{IfSome, IfNone, slice_get, is_some, nat_le, ◌&&◌, FitsSigned}
use Rattle.std.specs.Int.{w32}
use Rattle.std.specs.List.{list_all}
use Rattle.std.specs.Option.{option_and_then, option_map}
use Rattle.std.proofs.lemmas.Bool.{and_from, and_parts}
use Rattle.std.proofs.lemmas.List.{length-map}
use Rattle.std.proofs.lemmas.Bool.Decides.{nat_tests}
use Rattle.std.proofs.Math.ListN.{drop_of_length-le}
use Rattle.base.specs.Bytes.{Identifier}
use Rattle.base.specs.declared.element.ElementType.TheVariants.{Int as JInt}
use Rattle.base.specs.Options.{some_passes}
use Rattle.base.proofs.Lists.{all_at, drop_next}
use Rattle.functions.specs.declared.functions.NumberedFunction.{NumberedFunction}
use Rattle.syntax.specs.declared.unit.Function.{Function as FunctionInMemory}
use Rattle.syntax.specs.declared.unit.Item.{Item}
use Rattle.syntax.specs.declared.declared_type.ParameterType.{ParameterType}
use Rattle.syntax.specs.declared.declared_type.ParameterType.TheVariants.{Jint as IntParameter, Reference as ReferenceParameter}
use Rattle.syntax.specs.Tree.{SourceUnit, Function, Parameter}
use Rattle.syntax.specs.Limits.{IsTree}
use Rattle.syntax.specs.Parts.{functions_of, names_declared, parameter_names, statements_of}
use Rattle.syntax.specs.Views.{unit_tree, function_tree}
use Rattle.class_rules.specs.Class.{Classes, class_named}
use Rattle.class_rules.specs.Mangling.{native_class}
use Rattle.world_values.specs.CallArguments.{is_argument, are_arguments}
use Rattle.semantics.specs.Object.{ObjectValue, Number, Refers}
use Rattle.semantics.specs.World.{Invocation}
use Rattle.world_values.specs.SoundWorlds.{has_call}
use Rattle.world_values.specs.Views.{object_value_view}
use Rattle.world_values.specs.WorldRules.{is_in_range}
use Rattle.world_values.proofs.LoadedWorlds.{class_within}
use Rattle.semantics.specs.Activation.{class_of_function, function_at}
use Rattle.semantics.specs.Load.{call_loads, is_callable, fits_parameter, fit_parameters, refused_calls}
use Rattle.code_meaning.specs.Lowered.{Lowered}
use Rattle.code_meaning.specs.Slots.{ArgumentFits, ArgumentsFit}
use Rattle.machine_threads.specs.declared.thread.PendingCall.{PendingCall}
use Rattle.machine_threads.specs.ThreadAgrees.{CallAgrees, CallsAgree}
use Rattle.machine_threads.specs.Loading.{IsNumberOf, IsCallOf}

-- ---- functions

pub numbered_found : (p : Lowered) (items : List Item) (name : Identifier) (r : Option NumberedFunction) → items ≡ p.unit → option_map (λ (f : NumberedFunction). function_tree f.function.now) r ≡ function_at (unit_tree items) name
    → IfSome r (λ f. slice_get (functions_of (unit_tree items)) f.number ≡ Some (function_tree f.function.now)) → IfSome r (λ f. f.function.now.name ≡ name)
    → IfSome r (λ f. IsNumberOf p name f.number f.function.now)
numbered_found p items name None same named numbered has = tt
numbered_found p items name (Some f) same named numbered has = record {
  named = sym (named ∙ ap (λ (is : List Item). function_at (unit_tree is) name) same);
  numbered = subst (λ (is : List Item). slice_get (functions_of (unit_tree is)) f.number ≡ Some (function_tree f.function.now)) same numbered;
  has_name = has;
}

pub none_found : (p : Lowered) (items : List Item) (name : Identifier) (r : Option NumberedFunction) → items ≡ p.unit → option_map (λ (f : NumberedFunction). function_tree f.function.now) r ≡ function_at (unit_tree items) name
    → IfNone r (function_at (unit_tree p.unit) name ≡ None)
none_found p items name None same named = sym (named ∙ ap (λ (is : List Item). function_at (unit_tree is) name) same)
none_found p items name (Some f) same named = tt

-- ---- arguments

pub in_range : (z : ℤ) → is_in_range JInt z ≡ true → FitsSigned w32 z
in_range (pos n) h = let low : n < 2147483648 = grind (arith, nat_tests, h) in record { sfits = low }
in_range (negsuc n) h = let low : n < 2147483648 = grind (arith, nat_tests, h) in record { sfits = low }

argument_fits : (made : ℕ) (t : ParameterType) (v : ObjectValue) → fits_parameter t v ≡ true → is_argument made v ≡ true → ArgumentFits t v
argument_fits made IntParameter (Number z) h k = in_range z k
argument_fits made IntParameter (Refers r) h k = absurd (cc)
argument_fits made (ReferenceParameter type) (Number z) h k = absurd (cc)
argument_fits made (ReferenceParameter type) (Refers r) h k = tt

arguments_fit : (made : ℕ) (ps : List Parameter) (vs : List ObjectValue) → fit_parameters ps vs ≡ true → list_all (is_argument made) vs ≡ true → ArgumentsFit ps vs
arguments_fit made [] [] h k = tt
arguments_fit made [] (v ∷ vs) h k = absurd (cc)
arguments_fit made (p ∷ ps) [] h k = absurd (cc)
arguments_fit made (p ∷ ps) (v ∷ vs) h k =
    let a = and_parts (fits_parameter p.type v) (fit_parameters ps vs) h in
    let b = and_parts (is_argument made v) (list_all (is_argument made) vs) k in
    (argument_fits made p.type v a.0 b.0, arguments_fit made ps vs a.1 b.1)

-- as many arguments as parameters
arguments_count : (ps : List Parameter) (vs : List ObjectValue) → fit_parameters ps vs ≡ true → length vs ≡ length ps
arguments_count [] [] h = refl
arguments_count [] (v ∷ vs) h = absurd (cc)
arguments_count (p ∷ ps) [] h = absurd (cc)
arguments_count (p ∷ ps) (v ∷ vs) h = ap suc (arguments_count ps vs (and_parts (fits_parameter p.type v) (fit_parameters ps vs) h).1)

-- a function has at most 256 names, of which the parameters are some
few_parameters : (f : Function) (more : List Identifier) → nat_le (length (parameter_names f ++ more)) 256 ≡ true → length f.parameters ≤ 256
few_parameters f more h =
    let most : length (parameter_names f ++ more) ≤ 256 = grind (arith, nat_tests, h) in
    let whole = length-append (parameter_names f) more in
    let own : length (map (λ (p : Parameter). p.name) f.parameters) ≡ length f.parameters = length-map f.parameters (λ (p : Parameter). p.name) in
    omega (arith, most, whole, own)

-- so a call of a function of the unit has few arguments
few_arguments : (unit : SourceUnit) (n : ℕ) (f : Function) (vs : List ObjectValue) → IsTree unit → slice_get (functions_of unit) n ≡ Some f → fit_parameters f.parameters vs ≡ true → length vs ≤ 256
few_arguments unit n f vs tree at fits =
    let few = few_parameters f (names_declared (statements_of f.body))
    (all_at (λ (g : Function). nat_le (length (parameter_names g ++ names_declared (statements_of g.body))) 256) (functions_of unit) n f tree.few_names at) in
    let count = arguments_count f.parameters vs fits in
    omega (arith, few, count)

-- ---- calls

class_made : (classes : Classes) (made : ℕ) (o : Option Identifier) (c : ℕ) → length classes ≤ made → option_and_then (class_named classes) o ≡ Some c → (0 < c) × (c ≤ made)
class_made classes made None c few h = absurd (cc)
class_made classes made (Some name) c few h = let w = class_within classes name c h in (w.0, omega (arith, w.1))

-- a call whose function and class are there, and whose arguments fit
pub call_found : (p : Lowered) (classes : Classes) (made : ℕ) (call : Invocation) (f : FunctionInMemory) (next : PendingCall) → IsTree (unit_tree p.unit) → IsNumberOf p call.function next.function f → length classes ≤ made → option_and_then (class_named classes) (native_class call.function) ≡ Some next.class.number
    → map object_value_view next.arguments.items ≡ call.arguments → are_arguments made call ≡ true → fit_parameters (function_tree f).parameters call.arguments ≡ true → IsCallOf p classes made call (Some next)
call_found p classes made call f next tree n few known arguments given fits =
    let function : Function = function_tree f in
    let class : class_of_function classes function ≡ Some next.class.number = ap (λ name. option_and_then (class_named classes) (native_class name)) n.has_name ∙ known in (
      record {
        function = function;
        named = n.named;
        numbered = n.numbered;
        of_class = class;
        class_made = class_made classes made (native_class call.function) next.class.number few known;
        arguments = arguments;
        given = given;
        fit = arguments_fit made function.parameters call.arguments fits given;
        few = few_arguments (unit_tree p.unit) next.function function call.arguments tree n.numbered fits;
      },
      ap (some_passes (is_callable classes call.arguments)) n.named ∙ and_from (is_some (class_of_function classes function)) (fit_parameters function.parameters call.arguments) (ap is_some class) fits,
    )

-- a call whose class isn't there
pub no_class : (p : Lowered) (classes : Classes) (call : Invocation) (number : ℕ) (f : FunctionInMemory) → IsNumberOf p call.function number f → option_and_then (class_named classes) (native_class call.function) ≡ None → call_loads (unit_tree p.unit) classes call ≡ false
no_class p classes call number f n none =
    let function : Function = function_tree f in
    let class : class_of_function classes function ≡ None = ap (λ name. option_and_then (class_named classes) (native_class name)) n.has_name ∙ none in
    ap (some_passes (is_callable classes call.arguments)) n.named ∙ ap (λ (o : Option ℕ). is_some o && fit_parameters function.parameters call.arguments) class

-- a call whose arguments don't fit
pub no_fit : (p : Lowered) (classes : Classes) (call : Invocation) (number : ℕ) (f : FunctionInMemory) → IsNumberOf p call.function number f → fit_parameters (function_tree f).parameters call.arguments ≡ false → call_loads (unit_tree p.unit) classes call ≡ false
no_fit p classes call number f n none =
    let function : Function = function_tree f in
    ap (some_passes (is_callable classes call.arguments)) n.named ∙ ap (λ (b : Bool). is_some (class_of_function classes function) && b) none ∙ and_none (is_some (class_of_function classes function))
  where
    and_none : (b : Bool) → (b && false) ≡ false
    and_none true = refl
    and_none false = refl

module _ (unit : SourceUnit) (classes : Classes) where
  next_loads : (x : Invocation) (rest : List Invocation) → call_loads unit classes x ≡ true → refused_calls unit classes (x ∷ rest) ≡ refused_calls unit classes rest
  next_loads x rest h = rw h refl

  next_refused : (x : Invocation) (rest : List Invocation) → call_loads unit classes x ≡ false → refused_calls unit classes (x ∷ rest) ≡ x ∷ refused_calls unit classes rest
  next_refused x rest h = rw h refl

  pub loads_at : (calls : List Invocation) (i : ℕ) (x : Invocation) → slice_get calls i ≡ Some x → call_loads unit classes x ≡ true → refused_calls unit classes (drop i calls) ≡ refused_calls unit classes (drop (i + 1) calls)
  loads_at calls i x h l = ap (refused_calls unit classes) (drop_next calls i x h) ∙ next_loads x (drop (i + 1) calls) l

  pub refused_at : (calls : List Invocation) (i : ℕ) (x : Invocation) → slice_get calls i ≡ Some x → call_loads unit classes x ≡ false → refused_calls unit classes (drop i calls) ≡ x ∷ refused_calls unit classes (drop (i + 1) calls)
  refused_at calls i x h l = ap (refused_calls unit classes) (drop_next calls i x h) ∙ next_refused x (drop (i + 1) calls) l

-- the calls so far agree, and so do those that are still to come
abbrev pub AgreeSoFar : Lowered → Classes → (made : ℕ) → List Invocation → (i : ℕ) → List PendingCall → Type 0
AgreeSoFar p classes made calls i nexts = (rest : List PendingCall) → CallsAgree p classes made rest (drop i calls) → CallsAgree p classes made (nexts ++ rest) calls

pub one_more : (p : Lowered) (classes : Classes) (made : ℕ) (calls : List Invocation) (i : ℕ) (x : Invocation) (n : PendingCall) (nexts : List PendingCall) → slice_get calls i ≡ Some x → CallAgrees p classes made n x → AgreeSoFar p classes made calls i nexts → AgreeSoFar p classes made calls (i + 1) (nexts ++ n ∷ [])
one_more p classes made calls i x n nexts at a so_far rest h =
    subst (λ (l : List PendingCall). CallsAgree p classes made l calls) (sym (append_assoc nexts (n ∷ []) rest))
    (so_far (n ∷ rest) (subst (λ (cs : List Invocation). CallsAgree p classes made (n ∷ rest) cs) (sym (drop_next calls i x at)) (a, h)))

pub all_agree : (p : Lowered) (classes : Classes) (made : ℕ) (calls : List Invocation) (i : ℕ) (nexts : List PendingCall) → length calls ≤ i → AgreeSoFar p classes made calls i nexts → CallsAgree p classes made nexts calls
all_agree p classes made calls i nexts past so_far =
    let none : CallsAgree p classes made [] (drop i calls) = rw (drop_of_length-le calls past) tt in
    subst (λ (n : List PendingCall). CallsAgree p classes made n calls) (append-nil nexts) (so_far [] none)

pub none_refused : (unit : SourceUnit) (classes : Classes) (calls : List Invocation) (i : ℕ) → length calls ≤ i → refused_calls unit classes (drop i calls) ≡ []
none_refused unit classes calls i past = ap (refused_calls unit classes) (drop_of_length-le calls past)

pub some_call : (calls : List Invocation) → has_call calls ≡ true → calls ≡ [] → ⊥
some_call [] h e = cc
some_call (c ∷ calls) h e = cc
