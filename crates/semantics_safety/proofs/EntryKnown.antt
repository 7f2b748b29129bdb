-- What is known of the names at a function's entry.
use Rattle.std.proofs.Common.{◌≡◌, arith, ◌||◌, Bool, true, false, List, [], ◌∷◌, ◌++◌, map, Option, Some, None, refl, sym, ap, ◌∙◌, subst, if◌then◌else◌}
use Rattle.std.specs.List.{cons_option}
use Rattle.std.specs.Str.{bytes_eq}
use Rattle.std.proofs.lemmas.Bool.{or_parts}
use Rattle.base.specs.Bytes.{Identifier, ByName, lookup}
use Rattle.syntax.specs.declared.declared_type.ReferenceType.TheVariants.{Class as JClass}
use Rattle.syntax.specs.declared.declared_type.ParameterType.{ParameterType}
use Rattle.syntax.specs.declared.declared_type.ParameterType.TheVariants.{Jint as IntParameter, Reference as ReferenceParameter}
use Rattle.syntax.specs.Tree.{Parameter, Function}
use Rattle.type_rules.specs.declared.ty.ExprType.{ExprType}
use Rattle.type_rules.specs.declared.ty.ExprType.TheVariants.{Jint, Ref, Global, Weak, Truth, Buffer}
use Rattle.type_rules.specs.ExprTypes.{Scope, type_in}
use Rattle.type_rules.specs.TypeRules.{parameter_type, has_name, has_repeated}
use Rattle.region_rules.specs.RegionStates.{VariableState, BufferState, ReferenceAt, BufferIn}
use Rattle.semantics_safety.proofs.Accepted.{AreStatics}
use Rattle.semantics_safety.proofs.EntryPoints.{known, known_at, known_is, once_known, absent_known, entry_scope, entry_point, IsStaticType, HasNamesOnce}
use Rattle.semantics_safety.proofs.KnownPoints.{IsKnown, held_of}
use Rattle.semantics_safety.specs.Points.{Point}
use Rattle.syntax.specs.Parts.{parameter_names}
use Rattle.jni.specs.declared.access.Access.{Access}
use Rattle.semantics_safety.proofs.NameLaws.{front_other}
use Rattle.semantics_safety.proofs.SetLaws.{none_some}

abbrev scope_of : List Parameter → Scope → Scope
scope_of ps scope = map {B = Identifier × ExprType} (λ p. (p.name, parameter_type p.type)) ps ++ scope

one_reference : (type : ParameterType) (x y : Identifier) (inner : Option ExprType) (states : ByName VariableState) (b : Bool) → bytes_eq x y ≡ b → (if b then Some (parameter_type type) else inner) ≡ Some Ref → (inner ≡ Some Ref → lookup x states ≡ Some (ReferenceAt 1 true))
    → lookup x (cons_option (known_at y type) states) ≡ Some (ReferenceAt 1 true)
one_reference IntParameter x y inner states true e at later = absurd (cc)
one_reference IntParameter x y inner states false e at later = later at
one_reference (ReferenceParameter r) x y inner states true e at later = ap (λ (b : Bool). if b then Some (ReferenceAt 1 true) else lookup x states) e
one_reference (ReferenceParameter r) x y inner states false e at later = ap (λ (b : Bool). if b then Some (ReferenceAt 1 true) else lookup x states) e ∙ later at

-- a reference has its state
pub reference_known : (ps : List Parameter) (scope : Scope) (x : Identifier) → AreStatics scope → type_in (scope_of ps scope) x ≡ Some Ref → lookup x (known ps) ≡ Some (ReferenceAt 1 true)
reference_known [] scope x statics e = absurd (statics x Ref e)
reference_known (p ∷ ps) scope x statics e = one_reference p.type x p.name (type_in (scope_of ps scope) x) (known ps) (bytes_eq x p.name) refl e (reference_known ps scope x statics)

one_taken : (b : Bool) (s t : ExprType) (inner : Option ExprType) (c : Bool) → (if b then Some t else inner) ≡ Some s → (inner ≡ Some s → c ≡ true) → (b || c) ≡ true
one_taken true s t inner c e later = refl
one_taken false s t inner c e later = later e

scope_taken : (scope : Scope) (x : Identifier) (s : ExprType) → type_in scope x ≡ Some s → has_name (map (λ s. s.0) scope) x ≡ true
scope_taken [] x s e = absurd (cc)
scope_taken ((y, t) ∷ scope) x s e = one_taken (bytes_eq x y) s t (type_in scope x) (has_name (map (λ s. s.0) scope) x) e (scope_taken scope x s)

-- each known name is taken
pub names_taken : (ps : List Parameter) (scope : Scope) (x : Identifier) (s : ExprType) → type_in (scope_of ps scope) x ≡ Some s → has_name (map (λ p. p.name) ps ++ map (λ s. s.0) scope) x ≡ true
names_taken [] scope x s e = scope_taken scope x s e
names_taken (p ∷ ps) scope x s e = one_taken (bytes_eq x p.name) s (parameter_type p.type) (type_in (scope_of ps scope) x) (has_name (map (λ p. p.name) ps ++ map (λ s. s.0) scope) x) e (names_taken ps scope x s)

one_state : (type : ParameterType) (x y : Identifier) (v : VariableState) (inner : Scope) (states : ByName VariableState) → lookup y states ≡ None → lookup x (cons_option (known_at y type) states) ≡ Some v → (lookup x states ≡ Some v → (v ≡ ReferenceAt 1 true) × (type_in inner x ≡ Some Ref))
    → (v ≡ ReferenceAt 1 true) × (type_in ((y, parameter_type type) ∷ inner) x ≡ Some Ref)
one_state IntParameter x y v inner states none e later =
    let is = later e in
    (is.0, front_other y x Jint inner (λ same. none_some (lookup x states) v (ap (λ (z : Identifier). lookup z states) same ∙ none) e) ∙ is.1)
one_state (ReferenceParameter r) x y v inner states none e later = by_test (bytes_eq x y) e
  where
    by_test : (b : Bool) → (if b then Some (ReferenceAt 1 true) else lookup x states) ≡ Some v → (v ≡ ReferenceAt 1 true) × ((if b then Some Ref else type_in inner x) ≡ Some Ref)
    by_test true g = (cc, refl)
    by_test false g = later g

-- each state is a live reference's
pub state_named : (ps : List Parameter) (scope : Scope) (x : Identifier) (v : VariableState) → has_repeated (map (λ p. p.name) ps ++ map (λ s. s.0) scope) ≡ false → lookup x (known ps) ≡ Some v → (v ≡ ReferenceAt 1 true) × (type_in (scope_of ps scope) x ≡ Some Ref)
state_named [] scope x v h e = absurd (cc)
state_named (p ∷ ps) scope x v h e =
    let both = or_parts (has_name (map (λ p. p.name) ps ++ map (λ s. s.0) scope) p.name) (has_repeated (map (λ p. p.name) ps ++ map (λ s. s.0) scope)) h in
    one_state p.type x p.name v (scope_of ps scope) (known ps) (absent_known p.name ps (map (λ s. s.0) scope) both.0) e (state_named ps scope x v both.1)

-- the types at an entry
abbrev pub IsEntryType : ExprType → Type 0
IsEntryType Jint = Unit {0}
IsEntryType Ref = Unit {0}
IsEntryType Global = Unit {0}
IsEntryType Weak = Unit {0}
IsEntryType s = ⊥

parameter_entry : (type : ParameterType) → IsEntryType (parameter_type type)
parameter_entry IntParameter = tt
parameter_entry (ReferenceParameter r) = tt

one_entry : (b : Bool) (s t : ExprType) (inner : Option ExprType) → (if b then Some t else inner) ≡ Some s → IsEntryType t → (inner ≡ Some s → IsEntryType s) → IsEntryType s
one_entry true s t inner e h later = let same : t ≡ s = cc in subst IsEntryType same h
one_entry false s t inner e h later = later e

static_entry : (s : ExprType) → IsStaticType s → IsEntryType s
static_entry Global h = tt
static_entry Weak h = tt
static_entry s h = absurd h

pub entry_type : (ps : List Parameter) (scope : Scope) (x : Identifier) (s : ExprType) → AreStatics scope → type_in (scope_of ps scope) x ≡ Some s → IsEntryType s
entry_type [] scope x s statics e = static_entry s (statics x s e)
entry_type (p ∷ ps) scope x s statics e = one_entry (bytes_eq x p.name) s (parameter_type p.type) (type_in (scope_of ps scope) x) e (parameter_entry p.type) (entry_type ps scope x s statics)

no_held : (access : Access) (a : Identifier) (b : BufferState) → BufferIn b ≡ ReferenceAt 1 true → ⊥
no_held access a b e = cc

-- what is known at the entry of a function
pub entry_known : (f : Function) (scope : Scope) → AreStatics scope → HasNamesOnce f scope → IsKnown (entry_point f scope) (parameter_names f ++ map (λ s. s.0) scope)
entry_known f scope statics once =
    let ps : List Parameter = record { type = ReferenceParameter JClass; name = f.class_name } ∷ f.parameters in
    subst (λ (states : ByName VariableState). IsKnown (record { names = entry_scope f scope; regions = record { variables = (f.class_name, ReferenceAt 1 true) ∷ states; frames = 1 } }) (parameter_names f ++ map (λ s. s.0) scope)) (sym (known_is f.parameters)) (record {
      stated = record {
        no_truth = λ x e. entry_type ps scope x Truth statics e;
        reference = λ x e. (1, true, reference_known ps scope x statics e);
        buffer = λ x t writable e. absurd (entry_type ps scope x (Buffer t writable) statics e);
      };
      named_taken = names_taken ps scope;
      known_taken = λ x v e. names_taken ps scope x Ref (state_named ps scope x v once e).1;
      arrays_taken = λ x access a h. let p : Point = record { names = entry_scope f scope; regions = record { variables = known ps; frames = 1 } } in let held = held_of p x access a h in absurd (no_held access a held.0 (state_named ps scope x (BufferIn held.0) once held.1).0);
      stateful = λ x v e. (Ref, (state_named ps scope x v once e).1, tt);
      framed = omega arith;
      once = once_known ps (map (λ s. s.0) scope) once;
    })
