-- An accepted unit is safe: from the entry of each of its functions the tasks break no rule.
use Rattle.std.proofs.Common.{◌≡◌, ℕ, Bool, true, false, List, [], ◌∷◌, ◌++◌, find, map, Option, Some, refl, sym, ap, ◌∙◌, subst, if◌then◌else◌}
use Rattle.std.specs.Prelude.{flat_map}
use Rattle.std.specs.List.{list_any, AllByRecursion}
use Rattle.std.specs.Str.{bytes_eq}
use Rattle.std.proofs.lemmas.Bool.{or_parts}
use Rattle.std.proofs.lemmas.Slice.Eq.{bytes_eq-Decides}
use Rattle.base.specs.Bytes.{Identifier, lookup}
use Rattle.syntax.specs.Parts.{functions_of, statics_of, parameter_names}
use Rattle.syntax.specs.declared.declared_type.StaticType.{StaticType}
use Rattle.syntax.specs.declared.declared_type.StaticType.TheVariants.{Reference as ReferenceStatic, Weak as WeakStatic}
use Rattle.syntax.specs.declared.unit.ResultType.TheVariants.{Void}
use Rattle.syntax.specs.Tree.{Static, Function, Item, StaticItem, FunctionItem, SourceUnit}
use Rattle.type_rules.specs.declared.ty.ExprType.{ExprType}
use Rattle.type_rules.specs.ExprTypes.{Scope, is_weak, type_in}
use Rattle.type_rules.specs.declared.rule.TypeRule.{TypeRule}
use Rattle.type_rules.specs.declared.rule.TypeRule.TheVariants.{UnknownName, DeclaredTwice, TypeMisfit, UnknownFunction, ArgumentCount, ReferenceCopied, BadMode, ReadOnlyWrite}
use Rattle.type_rules.specs.TypeRules.{typing_rules, Place, StaticForm, HeadForm, has_name, has_repeated, breaks, broken_at, places_of, function_places, item_places, IsWellTyped, static_type}
use Rattle.region_rules.specs.Regions.{AcceptedFunction, HasRegions}
use Rattle.semantics.specs.Journal.{Journal}
use Rattle.semantics.specs.Load.{Loads}
use Rattle.semantics.specs.Run.{replay}
use Rattle.semantics.specs.Start.{null_static, null_statics}
use Rattle.semantics.specs.State.{State, thread_at}
use Rattle.semantics.specs.Task.{tasks_of}
use Rattle.semantics.specs.Thread.{Thread}
use Rattle.semantics.specs.Variable.{StaticReference, Empty, Statics}
use Rattle.semantics.specs.World.{World}
use Rattle.semantics_safety.specs.Owners.{owners_after}
use Rattle.semantics_safety.specs.Stands.{IsSound}
use Rattle.semantics_safety.specs.StepSafe.{HasCalls, AcceptedIsSafe}
use Rattle.semantics_safety.specs.Wanted.{GoesOn}
use Rattle.semantics_safety.specs.WeakNames.{WeakNames, IsOfKind, AreOfKind, static_types, weak_names}
use Rattle.semantics_safety.proofs.EntryPoints.{entry_scope, entry_point, IsStaticType, SeesStatics, HasNamesOnce}
use Rattle.semantics_safety.proofs.NameLaws.{front_same}
use Rattle.semantics_safety.proofs.SetLaws.{kinds_named}
use Rattle.type_rules.proofs.PlaceLists.{AreUnbroken, first_empty, second_empty, front_unbroken, back_unbroken, none_broken}
use Rattle.semantics_safety.proofs.Runs.{Enters, FindsCallable, runs_are_safe, threads_are_sound}
use Rattle.semantics_safety.proofs.MethodsFound.{found_is_callable}
use Rattle.semantics.specs.Activation.{function_at}
use Rattle.class_rules.specs.Class.{Classes}
use Rattle.class_rules.specs.Mangling.{IsInverse}

-- ---- heads

-- the place of a function's head
abbrev head_place : List Identifier → Scope → Function → Place
head_place taken scope f = record { line = f.line; known = scope; taken = taken; returns = f.result; form = HeadForm f }

-- the rules after the first two
abbrev other_rules : List TypeRule
other_rules = TypeMisfit ∷ UnknownFunction ∷ ArgumentCount ∷ ReferenceCopied ∷ BadMode ∷ ReadOnlyWrite ∷ []

names_once : (taken : List Identifier) (scope : Scope) (f : Function) → broken_at (head_place taken scope f) ≡ [] → HasNamesOnce f scope
names_once taken scope f none =
    let place = head_place taken scope f in
    let p : TypeRule → Bool = λ rule. breaks rule place place.form in
    let twice = (or_parts (p UnknownName) (list_any p (DeclaredTwice ∷ other_rules)) (none_broken p f.line typing_rules none)).1 in
    (or_parts (has_name taken f.name) (has_repeated (parameter_names f ++ map (λ s. s.0) scope)) ((or_parts (p DeclaredTwice) (list_any p other_rules) twice).0)).1

-- ---- statics

-- the static is there
abbrev IsThere : Statics → Static → Type 0
IsThere ss g = (r : StaticReference) × (lookup g.name ss ≡ Some r)

found_or_first : (b : Bool) (r : StaticReference) (o : Option StaticReference) → (q : StaticReference) × (o ≡ Some q) → (q : StaticReference) × ((if b then Some r else o) ≡ Some q)
found_or_first true r o h = (r, refl)
found_or_first false r o h = h

there_further : (y : Identifier) (r : StaticReference) (ss : Statics) (gs : List Static) → AllByRecursion (IsThere ss) gs → AllByRecursion (IsThere ((y, r) ∷ ss)) gs
there_further y r ss [] h = tt
there_further y r ss (g ∷ gs) h = (found_or_first (bytes_eq g.name y) r (lookup g.name ss) h.0, there_further y r ss gs h.1)

all_there : (gs : List Static) → AllByRecursion (IsThere (map null_static gs)) gs
all_there [] = tt
all_there (g ∷ gs) = ((Empty, front_same g.name Empty (map null_static gs)), there_further g.name Empty (map null_static gs) gs (all_there gs))

static_typed : (type : StaticType) → IsStaticType (static_type type)
static_typed (ReferenceStatic r) = tt
static_typed WeakStatic = tt

sees_more : (ss : Statics) (scope : Scope) (g : Static) → IsThere ss g → SeesStatics scope ss → SeesStatics ((g.name, static_type g.type) ∷ scope) ss
sees_more ss scope g there sees x s e = by_test (bytes_eq x g.name) refl e
  where
    by_test : (b : Bool) → bytes_eq x g.name ≡ b → (if b then Some (static_type g.type) else type_in scope x) ≡ Some s → IsStaticType s × ((r : StaticReference) × (lookup x ss ≡ Some r))
    by_test true same at = (let is : static_type g.type ≡ s = cc in subst IsStaticType is (static_typed g.type), (there.0, ap (λ (y : Identifier). lookup y ss) ((bytes_eq-Decides x g.name).0 same) ∙ there.1))
    by_test false other at = sees x s at

-- ---- functions

-- each known name is a static
abbrev pub AreStatics : Scope → Type 0
AreStatics scope = (x : Identifier) (s : ExprType) → type_in scope x ≡ Some s → IsStaticType s

-- an accepted function's tasks break no rule from its entry on
abbrev pub GivesWanted : Function → Scope → Type 0
GivesWanted f scope =
    AreStatics scope → HasNamesOnce f scope → AreUnbroken (places_of f.result (entry_scope f scope) (parameter_names f ++ map (λ s. s.0) scope) f.body) → AcceptedFunction f → GoesOn (tasks_of f.body) (entry_point f scope)

-- the functions and the statics of these items
abbrev functions_in : List Item → List Function
functions_in items = functions_of (record { items = items })

abbrev statics_in : List Item → List Static
statics_in items = statics_of (record { items = items })

-- the place of a static
abbrev static_place : List Identifier → Scope → Static → Place
static_place taken scope g = record { line = g.line; known = scope; taken = taken; returns = Void; form = StaticForm g }

static_new : (taken : List Identifier) (scope : Scope) (g : Static) → broken_at (static_place taken scope g) ≡ [] → has_name taken g.name ≡ false
static_new taken scope g none =
    let place = static_place taken scope g in
    let p : TypeRule → Bool = λ rule. breaks rule place place.form in
    let twice = (or_parts (p UnknownName) (list_any p (DeclaredTwice ∷ other_rules)) (none_broken p g.line typing_rules none)).1 in
    (or_parts (p DeclaredTwice) (list_any p other_rules) twice).0

static_kind : (weak : Bool) (type : StaticType) → weak ≡ is_weak (Some (static_type type)) → IsOfKind weak (static_type type)
static_kind weak (ReferenceStatic r) e = e
static_kind weak WeakStatic e = e

-- which of these are weak
abbrev weak_in : List Static → WeakNames
weak_in all x = is_weak (type_in (static_types all) x)

-- a name that isn't taken yet has the type that it has among the items that are left
abbrev AreLeft : List Static → List Identifier → List Item → Type 0
AreLeft all taken items = (x : Identifier) → has_name taken x ≡ false → type_in (static_types all) x ≡ type_in (static_types (statics_in items)) x

left_static : (all : List Static) (taken : List Identifier) (g : Static) (items : List Item) → AreLeft all taken (StaticItem g ∷ items) → AreLeft all (g.name ∷ taken) items
left_static all taken g items left x new =
    let both = or_parts (bytes_eq x g.name) (has_name taken x) new in
    left x both.1 ∙ ap (λ (b : Bool). if b then Some (static_type g.type) else type_in (static_types (statics_in items)) x) both.0

left_function : (all : List Static) (taken : List Identifier) (f : Function) (items : List Item) → AreLeft all taken (FunctionItem f ∷ items) → AreLeft all (f.name ∷ taken) items
left_function all taken f items left x new = left x (or_parts (bytes_eq x f.name) (has_name taken x) new).1

-- ---- functions by their names

-- the name is new among those that are taken, and the function is the first that has it
abbrev IsFirst : List Identifier → List Item → Function → Type 0
IsFirst taken items f = (has_name taken f.name ≡ false) × (find (λ (g : Function). bytes_eq g.name f.name) (functions_in items) ≡ Some f)

function_new : (taken : List Identifier) (scope : Scope) (f : Function) → broken_at (head_place taken scope f) ≡ [] → has_name taken f.name ≡ false
function_new taken scope f none =
    let place = head_place taken scope f in
    let p : TypeRule → Bool = λ rule. breaks rule place place.form in
    let twice = (or_parts (p UnknownName) (list_any p (DeclaredTwice ∷ other_rules)) (none_broken p f.line typing_rules none)).1 in
    (or_parts (has_name taken f.name) (has_repeated (parameter_names f ++ map (λ s. s.0) scope)) ((or_parts (p DeclaredTwice) (list_any p other_rules) twice).0)).0

-- a name is no other's
other_path : (x y : Identifier) → bytes_eq y x ≡ false → bytes_eq x y ≡ false
other_path x y e = by_test (bytes_eq x y) refl
  where
    by_test : (b : Bool) → bytes_eq x y ≡ b → b ≡ false
    by_test true h = absurd (let same : x ≡ y = (bytes_eq-Decides x y).0 h in let no : true ≡ false = sym ((bytes_eq-Decides y x).1 (sym same)) ∙ e in cc)
    by_test false h = refl

first_after_static : (taken : List Identifier) (g : Static) (items : List Item) (fs : List Function) → AllByRecursion (IsFirst (g.name ∷ taken) items) fs → AllByRecursion (IsFirst taken (StaticItem g ∷ items)) fs
first_after_static taken g items [] h = tt
first_after_static taken g items (f ∷ fs) h = (((or_parts (bytes_eq f.name g.name) (has_name taken f.name) h.0.0).1, h.0.1), first_after_static taken g items fs h.1)

first_after_function : (taken : List Identifier) (g : Function) (items : List Item) (fs : List Function) → AllByRecursion (IsFirst (g.name ∷ taken) items) fs → AllByRecursion (IsFirst taken (FunctionItem g ∷ items)) fs
first_after_function taken g items [] h = tt
first_after_function taken g items (f ∷ fs) h =
    let both = or_parts (bytes_eq f.name g.name) (has_name taken f.name) h.0.0 in
    let skips = ap (λ (b : Bool). if b then Some g else find (λ (f' : Function). bytes_eq f'.name f.name) (functions_in items)) (other_path g.name f.name both.0) in
    ((both.1, skips ∙ h.0.1), first_after_function taken g items fs h.1)

all_first : (items : List Item) (taken : List Identifier) (scope : Scope) → AreUnbroken (item_places taken scope items) → AllByRecursion (IsFirst taken items) (functions_in items)
all_first [] taken scope well_typed = tt
all_first (StaticItem g ∷ items) taken scope well_typed =
    first_after_static taken g items (functions_in items)
    (all_first items (g.name ∷ taken) ((g.name, static_type g.type) ∷ scope) (second_empty (broken_at (static_place taken scope g)) (flat_map broken_at (item_places (g.name ∷ taken) ((g.name, static_type g.type) ∷ scope) items)) well_typed))
all_first (FunctionItem f ∷ items) taken scope well_typed =
    let further = item_places (f.name ∷ taken) scope items in
    let body = places_of f.result (entry_scope f scope) (parameter_names f ++ map (λ s. s.0) scope) f.body in
    let own : AreUnbroken (head_place taken scope f ∷ body) = front_unbroken (function_places taken scope f) further well_typed in
    let new = function_new taken scope f (first_empty (broken_at (head_place taken scope f)) (flat_map broken_at body) own) in (
      (new, ap (λ (b : Bool). if b then Some f else find (λ (g : Function). bytes_eq g.name f.name) (functions_in items)) ((bytes_eq-Decides f.name f.name).1 refl)),
      first_after_function taken f items (functions_in items) (all_first items (f.name ∷ taken) scope (back_unbroken (function_places taken scope f) further well_typed)),
    )

found_by_name : (unit : SourceUnit) (fs : List Function) → AllByRecursion (IsFirst [] unit.items) fs → AllByRecursion (λ (f : Function). function_at unit f.name ≡ Some f) fs
found_by_name unit [] h = tt
found_by_name unit (f ∷ fs) h = (h.0.1, found_by_name unit fs h.1)

-- each function of a well-typed unit is found by its name
functions_once : (unit : SourceUnit) → IsWellTyped unit → AllByRecursion (λ (f : Function). function_at unit f.name ≡ Some f) (functions_of unit)
functions_once unit well_typed = found_by_name unit (functions_of unit) (all_first unit.items [] [] well_typed)

module _ (gives : (f : Function) (scope : Scope) → GivesWanted f scope) where
  all_enter : (ss : Statics) (all : List Static) (items : List Item) (taken : List Identifier) (scope : Scope) → SeesStatics scope ss → AreOfKind (weak_in all) scope → AreLeft all taken items → AllByRecursion (IsThere ss) (statics_in items) → AreUnbroken (item_places taken scope items) → AllByRecursion AcceptedFunction (functions_in items)
      → AllByRecursion (Enters (weak_in all) ss) (functions_in items)
  all_enter ss all [] taken scope sees kinds left there well_typed regions = tt
  all_enter ss all (StaticItem g ∷ items) taken scope sees kinds left there well_typed regions =
      let new = static_new taken scope g (first_empty (broken_at (static_place taken scope g)) (flat_map broken_at (item_places (g.name ∷ taken) ((g.name, static_type g.type) ∷ scope) items)) well_typed) in
      all_enter ss all items (g.name ∷ taken) ((g.name, static_type g.type) ∷ scope) (sees_more ss scope g there.0 sees)
      (kinds_named (weak_in all) g.name (static_type g.type) scope (static_kind (weak_in all g.name) g.type (ap is_weak (left g.name new ∙ front_same g.name (static_type g.type) (static_types (statics_in items))))) kinds)
      (left_static all taken g items left) there.1
      (second_empty (broken_at (static_place taken scope g)) (flat_map broken_at (item_places (g.name ∷ taken) ((g.name, static_type g.type) ∷ scope) items)) well_typed) regions
  all_enter ss all (FunctionItem f ∷ items) taken scope sees kinds left there well_typed regions =
      let further = item_places (f.name ∷ taken) scope items in
      let body = places_of f.result (entry_scope f scope) (parameter_names f ++ map (λ s. s.0) scope) f.body in
      let own : AreUnbroken (head_place taken scope f ∷ body) = front_unbroken (function_places taken scope f) further well_typed in
      let once = names_once taken scope f (first_empty (broken_at (head_place taken scope f)) (flat_map broken_at body) own) in (
        (scope, sees, kinds, once, gives f scope (λ x s e. (sees x s e).0) once (second_empty (broken_at (head_place taken scope f)) (flat_map broken_at body) own) regions.0),
        all_enter ss all items (f.name ∷ taken) scope sees kinds (left_function all taken f items left) there (back_unbroken (function_places taken scope f) further well_typed) regions.1,
      )

  no_names : (ss : Statics) → SeesStatics [] ss
  no_names ss x s e = absurd (cc)

  no_kinds : (weak : WeakNames) → AreOfKind weak []
  no_kinds weak x s e = absurd (cc)

  accepted_enters : (unit : SourceUnit) → IsWellTyped unit → HasRegions unit → AllByRecursion (Enters (weak_names unit) (null_statics unit)) (functions_of unit)
  accepted_enters unit well_typed regions =
      all_enter (null_statics unit) (statics_of unit) unit.items [] [] (no_names (null_statics unit)) (no_kinds (weak_names unit)) (λ x e. refl) (all_there (statics_of unit)) well_typed regions

  -- what GetStaticMethodID finds in a well-typed unit can be called
  typed_finds : IsInverse → (unit : SourceUnit) (classes : Classes) → IsWellTyped unit → FindsCallable unit classes
  typed_finds inverse unit classes well_typed = found_is_callable inverse classes unit (functions_once unit well_typed)

  -- after each journal, each thread is at a point from which its tasks break no rule, or before an entry
  pub accepted_are_sound : IsInverse → (unit : SourceUnit) (w : World) → IsWellTyped unit → HasRegions unit → Loads unit w → HasCalls w → (journal : Journal) (s : State) (k : ℕ) (t : Thread) → replay unit w journal ≡ Some s → thread_at s k ≡ Some t
      → IsSound unit w.classes (owners_after unit w journal k) s.shared.statics t
  accepted_are_sound inverse unit w well_typed regions loads has = threads_are_sound unit w (accepted_enters unit well_typed regions) (typed_finds inverse unit w.classes well_typed) loads has

  -- an accepted unit is safe in each world that goes with it
  pub accepted_is_safe : IsInverse → AcceptedIsSafe
  accepted_is_safe inverse unit w well_typed regions loads has = runs_are_safe unit w (accepted_enters unit well_typed regions) (typed_finds inverse unit w.classes well_typed) loads has
