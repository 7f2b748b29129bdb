-- A thread is at the point before the first statement of a function.
use Rattle.std.proofs.Common.{◌≡◌, ◌≢◌, ℕ, ◌≤◌, arith, Bool, true, false, ◌&&◌, List, [], ◌∷◌, ◌++◌, map, filter, length, Option, Some, None, refl, sym, ap, ◌∙◌, subst, if◌then◌else◌}
use Rattle.std.specs.Prelude.{filter_map, zip, ◌==◌}
use Rattle.std.specs.List.{cons_option}
use Rattle.std.specs.Str.{bytes_eq}
use Rattle.std.proofs.lemmas.Bool.{and_parts, or_parts}
use Rattle.std.proofs.lemmas.Bool.Decides.{Decides-eqb}
use Rattle.std.proofs.lemmas.Slice.Eq.{bytes_eq-Decides}
use Rattle.base.specs.Bytes.{Identifier, ByName, lookup}
use Rattle.base.specs.declared.element.ElementType.{ElementType}
use Rattle.syntax.specs.Parts.{parameter_names}
use Rattle.syntax.specs.declared.declared_type.ParameterType.{ParameterType}
use Rattle.syntax.specs.declared.declared_type.ParameterType.TheVariants.{Jint as IntParameter, Reference as ReferenceParameter}
use Rattle.syntax.specs.Tree.{Parameter, Function}
use Rattle.type_rules.specs.declared.ty.ExprType.{ExprType}
use Rattle.type_rules.specs.declared.ty.ExprType.TheVariants.{Ref, Global, Weak}
use Rattle.type_rules.specs.ExprTypes.{Scope, type_in}
use Rattle.type_rules.specs.TypeRules.{parameter_type, has_name, has_repeated}
use Rattle.region_rules.specs.RegionStates.{VariableState, ReferenceAt, BufferIn, parameter_state, state_at_entry}
use Rattle.semantics.specs.Activation.{parameter_variable, parameter_variables, named_object, entry_frame}
use Rattle.semantics.specs.Load.{fits_parameter, fit_parameters}
use Rattle.semantics.specs.Object.{ObjectValue, Number, Refers, Reference}
use Rattle.semantics.specs.Thread.{Frame}
use Rattle.semantics.specs.declared.value.Value.TheVariants.{Int}
use Rattle.semantics.specs.Variable.{Variable, Scalar, LocalRef, FieldHandle, MethodHandle, Elements, LocalArray, Buffer, StaticReference, Variables, Statics}
use Rattle.semantics_safety.specs.Owners.{holders, level_held}
use Rattle.semantics_safety.specs.Points.{Point, AreOnce, is_copy, owns}
use Rattle.semantics_safety.specs.Stands.{VariableFits, Shows, copies, Stands}
use Rattle.semantics_safety.specs.StepSafe.{references_at}
use Rattle.semantics_safety.specs.WeakNames.{WeakNames, AreOfKind, HoldWeakly, IsOfKind}
use Rattle.semantics_safety.proofs.NameLaws.{front_same, front_other}
use Rattle.semantics_safety.proofs.SetLaws.{none_some, kinds_named}
use Rattle.semantics_safety.proofs.FrameLaws.{turned}

-- ---- the point

-- the names known there, after the statics above the function
abbrev pub entry_scope : Function → Scope → Scope
entry_scope f statics = (f.class_name, Ref) ∷ map {B = Identifier × ExprType} (λ p. (p.name, parameter_type p.type)) f.parameters ++ statics

-- the point at the first statement
abbrev pub entry_point : Function → Scope → Point
entry_point f statics = record { names = entry_scope f statics; regions = state_at_entry f }

-- the types of statics
abbrev pub IsStaticType : ExprType → Type 0
IsStaticType Global = Unit {0}
IsStaticType Weak = Unit {0}
IsStaticType s = ⊥

-- the statics above the function are there
abbrev pub SeesStatics : Scope → Statics → Type 0
SeesStatics scope ss = (x : Identifier) (s : ExprType) → type_in scope x ≡ Some s → IsStaticType s × ((r : StaticReference) × (lookup x ss ≡ Some r))

-- no name occurs twice
abbrev pub HasNamesOnce : Function → Scope → Type 0
HasNamesOnce f scope = has_repeated (parameter_names f ++ map (λ s. s.0) scope) ≡ false

-- ---- the variables

-- an argument as a variable
abbrev argument_variable : ObjectValue → Variable
argument_variable (Number z) = Scalar (Int z)
argument_variable (Refers r) = LocalRef 1 r

abbrev listed : List Parameter → List ObjectValue → Variables
listed [] vs = []
listed (p ∷ ps) [] = []
listed (p ∷ ps) (v ∷ vs) = (p.name, argument_variable v) ∷ listed ps vs

named_variable : (p : Parameter) (v : ObjectValue) → parameter_variable (p, v) ≡ (p.name, argument_variable v)
named_variable p (Number z) = refl
named_variable p (Refers r) = refl

listed_is : (ps : List Parameter) (vs : List ObjectValue) → parameter_variables (zip ps vs) ≡ listed ps vs
listed_is [] vs = refl
listed_is (p ∷ ps) [] = refl
listed_is (p ∷ ps) (v ∷ vs) =
    ap (λ (h : Identifier × Variable). h ∷ parameter_variables (zip ps vs)) (named_variable p v)
    ∙ ap (λ (l : Variables). (p.name, argument_variable v) ∷ l) (listed_is ps vs)

-- ---- what is known of them

abbrev pub known_at : Identifier → ParameterType → Option (Identifier × VariableState)
known_at x IntParameter = None
known_at x (ReferenceParameter r) = Some (x, ReferenceAt 1 true)

abbrev pub known : List Parameter → ByName VariableState
known [] = []
known (p ∷ ps) = cons_option (known_at p.name p.type) (known ps)

state_is : (x : Identifier) (type : ParameterType) → elim type [ IntParameter ↦ None | ReferenceParameter r ↦ Some (x, ReferenceAt 1 true) ] ≡ known_at x type
state_is x IntParameter = refl
state_is x (ReferenceParameter r) = refl

pub known_is : (ps : List Parameter) → filter_map parameter_state ps ≡ known ps
known_is [] = refl
known_is (p ∷ ps) =
    ap (λ (o : Option (Identifier × VariableState)). cons_option o (filter_map parameter_state ps)) (state_is p.name p.type)
    ∙ ap (cons_option (known_at p.name p.type)) (known_is ps)

-- ---- names once

absent_first : {A : Type 0} (x y : Identifier) (v : A) (vs : ByName A) → bytes_eq x y ≡ false → lookup x vs ≡ None → lookup x ((y, v) ∷ vs) ≡ None
absent_first x y v vs e h = ap (λ (b : Bool). if b then Some v else lookup x vs) e ∙ h

absent_listed : (x : Identifier) (ps : List Parameter) (vs : List ObjectValue) (more : List Identifier) → has_name (map (λ p. p.name) ps ++ more) x ≡ false → lookup x (listed ps vs) ≡ None
absent_listed x [] vs more h = refl
absent_listed x (p ∷ ps) [] more h = refl
absent_listed x (p ∷ ps) (v ∷ vs) more h =
    let both = or_parts (bytes_eq x p.name) (has_name (map (λ p. p.name) ps ++ more) x) h in
    absent_first x p.name (argument_variable v) (listed ps vs) both.0 (absent_listed x ps vs more both.1)

pub absent_known : (x : Identifier) (ps : List Parameter) (more : List Identifier) → has_name (map (λ p. p.name) ps ++ more) x ≡ false → lookup x (known ps) ≡ None
absent_known x [] more h = refl
absent_known x (p ∷ ps) more h = let both = or_parts (bytes_eq x p.name) (has_name (map (λ p. p.name) ps ++ more) x) h in by_type p.type both.0 (absent_known x ps more both.1)
  where
    by_type : (type : ParameterType) → bytes_eq x p.name ≡ false → lookup x (known ps) ≡ None → lookup x (cons_option (known_at p.name type) (known ps)) ≡ None
    by_type IntParameter e later = later
    by_type (ReferenceParameter r) e later = absent_first x p.name (ReferenceAt 1 true) (known ps) e later

once_listed : (ps : List Parameter) (vs : List ObjectValue) (more : List Identifier) → has_repeated (map (λ p. p.name) ps ++ more) ≡ false → AreOnce (listed ps vs)
once_listed [] vs more h = tt
once_listed (p ∷ ps) [] more h = tt
once_listed (p ∷ ps) (v ∷ vs) more h =
    let both = or_parts (has_name (map (λ p. p.name) ps ++ more) p.name) (has_repeated (map (λ p. p.name) ps ++ more)) h in
    (absent_listed p.name ps vs more both.0, once_listed ps vs more both.1)

pub once_known : (ps : List Parameter) (more : List Identifier) → has_repeated (map (λ p. p.name) ps ++ more) ≡ false → AreOnce (known ps)
once_known [] more h = tt
once_known (p ∷ ps) more h =
    let both = or_parts (has_name (map (λ p. p.name) ps ++ more) p.name) (has_repeated (map (λ p. p.name) ps ++ more)) h in
    by_type p.type (absent_known p.name ps more both.0) (once_known ps more both.1)
  where
    by_type : (type : ParameterType) → lookup p.name (known ps) ≡ None → AreOnce (known ps) → AreOnce (cons_option (known_at p.name type) (known ps))
    by_type IntParameter none later = later
    by_type (ReferenceParameter r) none later = (none, later)

-- ---- each variable is found

abbrev HasEach : Variables → Variables → Type 0
HasEach vs [] = Unit {0}
HasEach vs ((x, v) ∷ rest) = (lookup x vs ≡ Some v) × HasEach vs rest

parted : {A : Type 0} (x y : Identifier) (v : A) (rest : ByName A) → lookup x ((y, v) ∷ rest) ≡ None → (y ≢ x) × (lookup x rest ≡ None)
parted {A = A} x y v rest h = by_test (bytes_eq x y) refl h
  where
    by_test : (b : Bool) → bytes_eq x y ≡ b → (if b then Some v else lookup x rest) ≡ None → (y ≢ x) × (lookup x rest ≡ None)
    by_test true e g = absurd (cc)
    by_test false e g = (λ same. let t : bytes_eq x y ≡ true = (bytes_eq-Decides x y).1 (sym same) in let c : true ≡ false = sym t ∙ e in cc, g)

each_further : (y : Identifier) (w : Variable) (vs l : Variables) → lookup y l ≡ None → HasEach vs l → HasEach ((y, w) ∷ vs) l
each_further y w vs [] h g = tt
each_further y w vs ((x, v) ∷ rest) h g = let apart = parted y x v rest h in (front_other y x w vs apart.0 ∙ g.0, each_further y w vs rest apart.1 g.1)

each_there : (vs : Variables) → AreOnce vs → HasEach vs vs
each_there [] h = tt
each_there ((x, v) ∷ rest) h = (front_same x v rest, each_further x v rest rest h.0 (each_there rest h.1))

pub found_further : {A : Type 0} (x y : Identifier) (w v : A) (vs : ByName A) → lookup y vs ≡ None → lookup x vs ≡ Some v → lookup x ((y, w) ∷ vs) ≡ Some v
found_further x y w v vs none found = front_other y x w vs (λ same. none_some (lookup x vs) v (ap (λ (z : Identifier). lookup z vs) same ∙ none) found) ∙ found

-- ---- types

first_fits : (b : Bool) (s t : ExprType) (v : Variable) (inner : Option ExprType) (o : Option Variable) (g : Option StaticReference) → (if b then Some t else inner) ≡ Some s → VariableFits t (Some v) g → (inner ≡ Some s → VariableFits s o g)
    → VariableFits s (if b then Some v else o) g
first_fits true s t v inner o g e here later = let same : t ≡ s = cc in subst (λ (r : ExprType). VariableFits r (Some v) g) same here
first_fits false s t v inner o g e here later = later e

one_fits : (type : ParameterType) (v : ObjectValue) (g : Option StaticReference) → fits_parameter type v ≡ true → VariableFits (parameter_type type) (Some (argument_variable v)) g
one_fits IntParameter (Number z) g h = (Int z, refl, refl)
one_fits IntParameter (Refers r) g h = absurd (cc)
one_fits (ReferenceParameter t) (Number z) g h = absurd (cc)
one_fits (ReferenceParameter t) (Refers r) g h = (1, r, refl)

module _ (ss : Statics) (scope : Scope) (sees : SeesStatics scope ss) where
  static_fits : (x : Identifier) (s : ExprType) → type_in scope x ≡ Some s → VariableFits s None (lookup x ss)
  static_fits x s e = let found = sees x s e in on_type s found.0 found.1
    where
      on_type : (t : ExprType) → IsStaticType t → ((r : StaticReference) × (lookup x ss ≡ Some r)) → VariableFits t None (lookup x ss)
      on_type Global h there = (refl, (there.0, there.1))
      on_type Weak h there = (refl, (there.0, there.1))
      on_type t h there = absurd h

  parameters_fit : (ps : List Parameter) (vs : List ObjectValue) → fit_parameters ps vs ≡ true → (x : Identifier) (s : ExprType) → type_in (map {B = Identifier × ExprType} (λ p. (p.name, parameter_type p.type)) ps ++ scope) x ≡ Some s
      → VariableFits s (lookup x (listed ps vs)) (lookup x ss)
  parameters_fit [] [] h x s e = static_fits x s e
  parameters_fit [] (v ∷ vs) h x s e = absurd (cc)
  parameters_fit (p ∷ ps) [] h x s e = absurd (cc)
  parameters_fit (p ∷ ps) (v ∷ vs) h x s e =
      let both = and_parts (fits_parameter p.type v) (fit_parameters ps vs) h in
      first_fits (bytes_eq x p.name) s (parameter_type p.type) (argument_variable v) (type_in (map {B = Identifier × ExprType} (λ p. (p.name, parameter_type p.type)) ps ++ scope) x) (lookup x (listed ps vs)) (lookup x ss) e
      (one_fits p.type v (lookup x ss) both.0) (parameters_fit ps vs both.1 x s)

-- ---- references

-- a live reference of level 1
abbrev IsReference : VariableState → Option Variable → Type 0
IsReference v o = (v ≡ ReferenceAt 1 true) × ((r : Reference) × (o ≡ Some (LocalRef 1 r)))

first_shown : (b : Bool) (v : VariableState) (r : Reference) (inner : Option VariableState) (o : Option Variable) → (if b then Some (ReferenceAt 1 true) else inner) ≡ Some v → (inner ≡ Some v → IsReference v o)
    → IsReference v (if b then Some (LocalRef 1 r) else o)
first_shown true v r inner o e later = (let same : v ≡ ReferenceAt 1 true = cc in same, (r, refl))
first_shown false v r inner o e later = later e

one_shown : (type : ParameterType) (w : ObjectValue) (y : Identifier) (states : ByName VariableState) (vs : Variables) → fits_parameter type w ≡ true → lookup y vs ≡ None → (x : Identifier) (v : VariableState)
    → lookup x (cons_option (known_at y type) states) ≡ Some v → (lookup x states ≡ Some v → IsReference v (lookup x vs)) → IsReference v (lookup x ((y, argument_variable w) ∷ vs))
one_shown IntParameter w y states vs h none x v e later = let is = later e in (is.0, (is.1.0, found_further x y (argument_variable w) (LocalRef 1 is.1.0) vs none is.1.1))
one_shown (ReferenceParameter t) (Number z) y states vs h none x v e later = absurd (cc)
one_shown (ReferenceParameter t) (Refers r) y states vs h none x v e later = first_shown (bytes_eq x y) v r (lookup x states) (lookup x vs) e later

parameters_shown : (ps : List Parameter) (vs : List ObjectValue) → fit_parameters ps vs ≡ true → AreOnce (listed ps vs) → (x : Identifier) (v : VariableState) → lookup x (known ps) ≡ Some v → IsReference v (lookup x (listed ps vs))
parameters_shown [] vs h once x v e = absurd (cc)
parameters_shown (p ∷ ps) [] h once x v e = absurd (cc)
parameters_shown (p ∷ ps) (w ∷ vs) h once x v e =
    let both = and_parts (fits_parameter p.type w) (fit_parameters ps vs) h in
    one_shown p.type w p.name (known ps) (listed ps vs) both.0 once.0 x v e (parameters_shown ps vs both.1 once.1 x v)

shown : (vs : Variables) (v : VariableState) (o : Option Variable) → IsReference v o → Shows vs v o
shown vs v o (is, (r, e)) = subst (λ (w : VariableState). Shows vs w o) (sym is) (r, e)

-- ---- no buffer, and one level

abbrev IsEntryVariable : Variable → Type 0
IsEntryVariable (Scalar n) = Unit {0}
IsEntryVariable (LocalRef level r) = level ≡ 1
IsEntryVariable v = ⊥

entry_argument : (v : ObjectValue) → IsEntryVariable (argument_variable v)
entry_argument (Number z) = tt
entry_argument (Refers r) = refl

first_entry : (b : Bool) (v w : Variable) (o : Option Variable) → (if b then Some v else o) ≡ Some w → IsEntryVariable v → (o ≡ Some w → IsEntryVariable w) → IsEntryVariable w
first_entry true v w o e h later = let same : v ≡ w = cc in subst IsEntryVariable same h
first_entry false v w o e h later = later e

entry_listed : (ps : List Parameter) (vs : List ObjectValue) (x : Identifier) (w : Variable) → lookup x (listed ps vs) ≡ Some w → IsEntryVariable w
entry_listed [] vs x w e = absurd (cc)
entry_listed (p ∷ ps) [] x w e = absurd (cc)
entry_listed (p ∷ ps) (v ∷ vs) x w e = first_entry (bytes_eq x p.name) (argument_variable v) w (lookup x (listed ps vs)) e (entry_argument v) (entry_listed ps vs x w)

-- ---- copies

count_more : {A B : Type 0} (b c : Bool) (e : A) (l : List A) (g : B) (m : List B) → b ≡ c → length l ≤ length m → length (if b then e ∷ l else l) ≤ length (if c then g ∷ m else m)
count_more true true e l g m h le = omega (arith, le)
count_more false false e l g m h le = le
count_more true false e l g m h le = absurd (cc)
count_more false true e l g m h le = absurd (cc)

count_none : {A : Type 0} (b : Bool) (e : A) (l : List A) (n : ℕ) → b ≡ false → length l ≤ n → length (if b then e ∷ l else l) ≤ n
count_none true e l n h le = absurd (cc)
count_none false e l n h le = le

one_backed : (vs : Variables) (n : ℕ) (type : ParameterType) (v : ObjectValue) (x : Identifier) (states : ByName VariableState) (more : List ObjectValue) → fits_parameter type v ≡ true → lookup x vs ≡ Some (argument_variable v)
    → length (filter (owns vs 1 n) states) ≤ copies (filter_map named_object more) n → length (filter (owns vs 1 n) (cons_option (known_at x type) states)) ≤ copies (filter_map named_object (v ∷ more)) n
one_backed vs n IntParameter (Number z) x states more h at le = le
one_backed vs n IntParameter (Refers r) x states more h at le = absurd (cc)
one_backed vs n (ReferenceParameter t) (Number z) x states more h at le = absurd (cc)
one_backed vs n (ReferenceParameter t) (Refers None) x states more h at le =
    count_none (is_copy 1 n (lookup x vs)) (x, ReferenceAt 1 true) (filter (owns vs 1 n) states) (copies (filter_map named_object more) n) (ap (is_copy 1 n) at) le
one_backed vs n (ReferenceParameter t) (Refers (Some m)) x states more h at le =
    count_more (is_copy 1 n (lookup x vs)) (n == m) (x, ReferenceAt 1 true) (filter (owns vs 1 n) states) m (filter (λ j. n == j) (filter_map named_object more)) (ap (is_copy 1 n) at ∙ turned m n) le

known_backed : (vs : Variables) (n : ℕ) (ps : List Parameter) (arguments : List ObjectValue) → fit_parameters ps arguments ≡ true → HasEach vs (listed ps arguments) → length (filter (owns vs 1 n) (known ps)) ≤ copies (filter_map named_object arguments) n
known_backed vs n [] arguments h each = omega arith
known_backed vs n (p ∷ ps) [] h each = absurd (cc)
known_backed vs n (p ∷ ps) (v ∷ arguments) h each =
    let both = and_parts (fits_parameter p.type v) (fit_parameters ps arguments) h in
    one_backed vs n p.type v p.name (known ps) arguments both.0 each.0 (known_backed vs n ps arguments both.1 each.1)

-- no reference is of another level
none_copied : (level n : ℕ) (o : Option Variable) → (1 == level) ≡ false → ((w : Variable) → o ≡ Some w → IsEntryVariable w) → is_copy level n o ≡ false
none_copied level n None h each = refl
none_copied level n (Some (Scalar v)) h each = refl
none_copied level n (Some (LocalRef l None)) h each = refl
none_copied level n (Some (LocalRef l (Some m))) h each = ap (λ (i : ℕ). i == level && m == n) (each (LocalRef l (Some m)) refl) ∙ ap (λ (b : Bool). b && m == n) h
none_copied level n (Some (FieldHandle f)) h each = refl
none_copied level n (Some (MethodHandle f)) h each = refl
none_copied level n (Some (Elements u b)) h each = refl
none_copied level n (Some (LocalArray u zs)) h each = refl

none_owned : (vs : Variables) (level n : ℕ) (states : ByName VariableState) → (1 == level) ≡ false → ((x : Identifier) (w : Variable) → lookup x vs ≡ Some w → IsEntryVariable w) → length (filter (owns vs level n) states) ≤ 0
none_owned vs level n [] h each = omega arith
none_owned vs level n ((x, v) ∷ states) h each = count_none (owns vs level n (x, v)) (x, v) (filter (owns vs level n) states) 0 (by_state v) (none_owned vs level n states h each)
  where
    by_state : (v : VariableState) → owns vs level n (x, v) ≡ false
    by_state (ReferenceAt l true) = none_copied level n (lookup x vs) h (each x)
    by_state (ReferenceAt l false) = refl
    by_state (BufferIn b) = refl

-- ---- the whole

parameter_kind : (weak : Bool) (type : ParameterType) → IsOfKind weak (parameter_type type)
parameter_kind weak IntParameter = tt
parameter_kind weak (ReferenceParameter r) = tt

parameters_kinds : (weak : WeakNames) (ps : List Parameter) (scope : Scope) → AreOfKind weak scope → AreOfKind weak (map {B = Identifier × ExprType} (λ p. (p.name, parameter_type p.type)) ps ++ scope)
parameters_kinds weak [] scope kinds = kinds
parameters_kinds weak (p ∷ ps) scope kinds =
    kinds_named weak p.name (parameter_type p.type) (map {B = Identifier × ExprType} (λ p. (p.name, parameter_type p.type)) ps ++ scope) (parameter_kind (weak p.name) p.type) (parameters_kinds weak ps scope kinds)

module _ (weak : WeakNames) (ss : Statics) (scope : Scope) (f : Function) (class : ℕ) (arguments : List ObjectValue) (sees : SeesStatics scope ss) (kinds : AreOfKind weak scope) (only : HoldWeakly weak ss) (fits : fit_parameters f.parameters arguments ≡ true) (once : HasNamesOnce f scope) where
  abbrev entry_variables : Variables
  entry_variables = (f.class_name, LocalRef 1 (Some class)) ∷ listed f.parameters arguments

  abbrev entry_known : ByName VariableState
  entry_known = (f.class_name, ReferenceAt 1 true) ∷ known f.parameters

  abbrev entry_frames : List Frame
  entry_frames = entry_frame (class ∷ filter_map named_object arguments) ∷ []

  names_apart : (has_name (map (λ p. p.name) f.parameters ++ map (λ s. s.0) scope) f.class_name ≡ false) × (has_repeated (map (λ p. p.name) f.parameters ++ map (λ s. s.0) scope) ≡ false)
  names_apart = or_parts (has_name (map (λ p. p.name) f.parameters ++ map (λ s. s.0) scope) f.class_name) (has_repeated (map (λ p. p.name) f.parameters ++ map (λ s. s.0) scope)) once

  variables_once : AreOnce entry_variables
  variables_once = (absent_listed f.class_name f.parameters arguments (map (λ s. s.0) scope) names_apart.0, once_listed f.parameters arguments (map (λ s. s.0) scope) names_apart.1)

  entry_each : (x : Identifier) (w : Variable) → lookup x entry_variables ≡ Some w → IsEntryVariable w
  entry_each x w e = first_entry (bytes_eq x f.class_name) (LocalRef 1 (Some class)) w (lookup x (listed f.parameters arguments)) e refl (entry_listed f.parameters arguments x w)

  no_buffer : (u : ElementType) (b : Buffer) → IsEntryVariable (Elements u b) → ⊥
  no_buffer u b h = h

  backed_at : (level n : ℕ) (b : Bool) → (1 == level) ≡ b → length (filter (owns entry_variables level n) entry_known) ≤ copies (references_at level entry_frames) n
  backed_at level n false e = let none = none_owned entry_variables level n entry_known e entry_each in omega (arith, none)
  backed_at level n true e =
      let same : 1 ≡ level = (Decides-eqb 1 level).0 e in
      let each = each_there entry_variables variables_once in
      subst (λ (l : ℕ). length (filter (owns entry_variables l n) entry_known) ≤ copies (references_at l entry_frames) n) same
      (count_more (is_copy 1 n (lookup f.class_name entry_variables)) (n == class) (f.class_name, ReferenceAt 1 true) (filter (owns entry_variables 1 n) (known f.parameters)) class (filter (λ j. n == j) (filter_map named_object arguments))
      (ap (is_copy 1 n) each.0 ∙ turned class n) (known_backed entry_variables n f.parameters arguments fits each.1))

  stands_so : Stands weak (holders entry_variables) ss entry_variables entry_frames (record { names = entry_scope f scope; regions = record { variables = entry_known; frames = 1 } })
  stands_so = record {
    types = λ x s e.
        first_fits (bytes_eq x f.class_name) s Ref (LocalRef 1 (Some class)) (type_in (map {B = Identifier × ExprType} (λ p. (p.name, parameter_type p.type)) f.parameters ++ scope) x) (lookup x (listed f.parameters arguments)) (lookup x ss) e
        (1, Some class, refl) (parameters_fit ss scope sees f.parameters arguments fits x s);
    shows = λ x v e.
        shown entry_variables v (lookup x entry_variables)
        (first_shown (bytes_eq x f.class_name) v (Some class) (lookup x (known f.parameters)) (lookup x (listed f.parameters arguments)) e (parameters_shown f.parameters arguments fits variables_once.1 x v));
    held = λ x u b e. absurd (no_buffer u b (entry_each x (Elements u b) e));
    once = variables_once;
    known_once = (absent_known f.class_name f.parameters (map (λ s. s.0) scope) names_apart.0, once_known f.parameters (map (λ s. s.0) scope) names_apart.1);
    depth = refl;
    backed = λ level n. backed_at level n (1 == level) refl;
    owned = λ x level l n e h. ap level_held h;
    kinds = kinds_named weak f.class_name Ref (map {B = Identifier × ExprType} (λ p. (p.name, parameter_type p.type)) f.parameters ++ scope) tt (parameters_kinds weak f.parameters scope kinds);
    only = only;
  }

  -- the thread is at the first statement with what is known there
  pub stands_at_entry : Stands weak (holders ((f.class_name, LocalRef 1 (Some class)) ∷ parameter_variables (zip f.parameters arguments))) ss ((f.class_name, LocalRef 1 (Some class)) ∷ parameter_variables (zip f.parameters arguments)) entry_frames (entry_point f scope)
  stands_at_entry =
      subst (λ (vs : Variables). Stands weak (holders ((f.class_name, LocalRef 1 (Some class)) ∷ vs)) ss ((f.class_name, LocalRef 1 (Some class)) ∷ vs) entry_frames (entry_point f scope)) (sym (listed_is f.parameters arguments))
      (subst (λ (states : ByName VariableState). Stands weak (holders entry_variables) ss entry_variables entry_frames (record { names = entry_scope f scope; regions = record { variables = (f.class_name, ReferenceAt 1 true) ∷ states; frames = 1 } })) (sym (known_is f.parameters)) stands_so)
