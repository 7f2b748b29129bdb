-- In an accepted unit no two statics and no two parameters of a function have one name, so each is assigned at a place of its own.
use Rattle.std.proofs.Common.{◌≡◌, ℕ, Bool, true, false, cond, List, [], ◌∷◌, ◌++◌, map, Option, Some, None, refl, sym, ap, ◌∙◌, subst, append_assoc, append-nil}
use Rattle.std.specs.Prelude.{find, flat_map, zip}
use Rattle.std.specs.List.{AllByRecursion}
use Rattle.std.specs.Str.{bytes_eq}
use Rattle.std.proofs.lemmas.Cmp.{nat_list_eq_equiv}
use Rattle.std.proofs.lemmas.List.{map-append}
use Rattle.base.specs.Bytes.{Identifier, ByName, lookup}
use Rattle.syntax.specs.Parts.{functions_of, parameter_names}
use Rattle.syntax.specs.declared.unit.ResultType.TheVariants.{Void}
use Rattle.syntax.specs.Tree.{Parameter, Function, Item, StaticItem, FunctionItem, SourceUnit}
use Rattle.type_rules.specs.declared.ty.ExprType.TheVariants.{Ref}
use Rattle.type_rules.specs.ExprTypes.{Scope}
use Rattle.type_rules.specs.TypeRules.{Place, StaticForm, HeadForm, has_name, has_repeated, broken_at, parameter_type, places_of, function_places, item_places, IsWellTyped, static_type}
use Rattle.semantics.specs.Activation.{function_at, parameter_variables}
use Rattle.semantics.specs.Object.{ObjectValue, Number, Refers}
use Rattle.semantics.specs.Start.{null_statics}
use Rattle.semantics.specs.declared.value.Value.TheVariants.{Int}
use Rattle.semantics.specs.Variable.{Variable, Scalar, LocalRef, Variables, StaticReference, Empty, Statics, assign}
use Rattle.type_rules.proofs.PlaceLists.{AreUnbroken, first_empty, second_empty, front_unbroken, back_unbroken, first_false, second_false, not_twice}
use Rattle.replay_terms.specs.Views.{assign_all}

-- ---- a name that is new

-- a new name goes last
assign_new : {A : Type 0} (x : Identifier) (v : A) (vs : ByName A) → lookup x vs ≡ None → assign x v vs ≡ vs ++ (x, v) ∷ []
assign_new x v [] none = refl
assign_new {A} x v ((y, w) ∷ vs) none = by_test (bytes_eq x y) none (assign_new x v vs)
  where
    by_test : (b : Bool) → cond b (Some w) (lookup x vs) ≡ None → (lookup x vs ≡ None → assign x v vs ≡ vs ++ (x, v) ∷ []) → cond b ((x, v) ∷ vs) ((y, w) ∷ assign x v vs) ≡ (y, w) ∷ vs ++ (x, v) ∷ []
    by_test true none further = absurd (cc)
    by_test false none further = ap (λ (l : ByName A). (y, w) ∷ l) (further none)

-- one new name, and then others
one_more : {A : Type 0} (before : ByName A) (x : Identifier) (v : A) (more : ByName A) → lookup x before ≡ None → assign_all more (before ++ (x, v) ∷ []) ≡ (before ++ (x, v) ∷ []) ++ more → assign_all ((x, v) ∷ more) before ≡ before ++ (x, v) ∷ more
one_more before x v more none further = ap (assign_all more) (assign_new x v before none) ∙ further ∙ append_assoc before ((x, v) ∷ []) more

-- ---- parameters

abbrev names : Variables → List Identifier
names vs = map (λ (v : Identifier × Variable). v.0) vs

not_among : (xs : List Identifier) (x y : Identifier) (more : List Identifier) → has_name (xs ++ x ∷ more) y ≡ false → bytes_eq y x ≡ false
not_among [] x y more h = first_false (bytes_eq y x) (has_name more y) h
not_among (z ∷ xs) x y more h = not_among xs x y more (second_false (bytes_eq y z) (has_name (xs ++ x ∷ more) y) h)

-- a name that occurs once isn't among those before it
absent : (before : Variables) (x : Identifier) (more : List Identifier) → has_repeated (names before ++ x ∷ more) ≡ false → lookup x before ≡ None
absent [] x more h = refl
absent ((y, w) ∷ before) x more h =
    let other : bytes_eq x y ≡ false = nat_list_eq_equiv.symm x y ∙ not_among (names before) x y more (first_false (has_name (names before ++ x ∷ more) y) (has_repeated (names before ++ x ∷ more)) h) in
    ap (λ (b : Bool). cond b (Some w) (lookup x before)) other
    ∙ absent before x more (second_false (has_name (names before ++ x ∷ more) y) (has_repeated (names before ++ x ∷ more)) h)

names_further : (before : Variables) (x : Identifier) (v : Variable) (more : List Identifier) → has_repeated (names before ++ x ∷ more) ≡ false → has_repeated (names (before ++ (x, v) ∷ []) ++ more) ≡ false
names_further before x v more h =
    ap (λ (xs : List Identifier). has_repeated (xs ++ more)) (map-append (λ (u : Identifier × Variable). u.0) before ((x, v) ∷ []))
    ∙ ap has_repeated (append_assoc (names before) (x ∷ []) more)
    ∙ h

-- the variables of parameters are assigned after those that are there
all_assigned : (before : Variables) (ps : List Parameter) (vs : List ObjectValue) (more : List Identifier) → has_repeated (names before ++ (map (λ p. p.name) ps ++ more)) ≡ false
    → assign_all (parameter_variables (zip ps vs)) before ≡ before ++ parameter_variables (zip ps vs)
all_assigned before [] vs more h = sym (append-nil before)
all_assigned before (p ∷ ps) [] more h = sym (append-nil before)
all_assigned before (p ∷ ps) (Number z ∷ vs) more h =
    let v = Scalar (Int z) in
    let further = map (λ (q : Parameter). q.name) ps ++ more in
    one_more before p.name v (parameter_variables (zip ps vs)) (absent before p.name further h) (all_assigned (before ++ (p.name, v) ∷ []) ps vs more (names_further before p.name v further h))
all_assigned before (p ∷ ps) (Refers r ∷ vs) more h =
    let v = LocalRef 1 r in
    let further = map (λ (q : Parameter). q.name) ps ++ more in
    one_more before p.name v (parameter_variables (zip ps vs)) (absent before p.name further h) (all_assigned (before ++ (p.name, v) ∷ []) ps vs more (names_further before p.name v further h))

-- ---- functions

-- the names of its parameters occur once each
abbrev HasNamesOnce : Function → Type 0
HasNamesOnce f = (more : List Identifier) × (has_repeated (parameter_names f ++ more) ≡ false)

abbrev body_places : List Identifier → Scope → Function → List Place
body_places taken scope f = places_of f.result ((f.class_name, Ref) ∷ map (λ p. (p.name, parameter_type p.type)) f.parameters ++ scope) (parameter_names f ++ map (λ s. s.0) scope) f.body

abbrev head_place : List Identifier → Scope → Function → Place
head_place taken scope f = record { line = f.line; known = scope; taken = taken; returns = f.result; form = HeadForm f }

functions_once : (items : List Item) (taken : List Identifier) (scope : Scope) → AreUnbroken (item_places taken scope items) → AllByRecursion HasNamesOnce (functions_of (record { items = items }))
functions_once [] taken scope well_typed = tt
functions_once (StaticItem g ∷ items) taken scope well_typed =
    functions_once items (g.name ∷ taken) ((g.name, static_type g.type) ∷ scope)
    (second_empty (broken_at (record { line = g.line; known = scope; taken = taken; returns = Void; form = StaticForm g })) (flat_map broken_at (item_places (g.name ∷ taken) ((g.name, static_type g.type) ∷ scope) items)) well_typed)
functions_once (FunctionItem f ∷ items) taken scope well_typed =
    let further = item_places (f.name ∷ taken) scope items in
    let head = head_place taken scope f in
    let own = front_unbroken (function_places taken scope f) further well_typed in
    let once = not_twice head (first_empty (broken_at head) (flat_map broken_at (body_places taken scope f)) own) in (
      (map (λ s. s.0) scope, second_false (has_name taken f.name) (has_repeated (parameter_names f ++ map (λ s. s.0) scope)) once),
      functions_once items (f.name ∷ taken) scope (back_unbroken (function_places taken scope f) further well_typed),
    )

found_holds : {A : Type 0} (p : A → Bool) (P : A → Type 0) (xs : List A) (x : A) → find p xs ≡ Some x → AllByRecursion P xs → P x
found_holds p P [] x e h = absurd (cc)
found_holds {A} p P (y ∷ ys) x e h = by_test (p y) e (λ later. found_holds p P ys x later h.1)
  where
    by_test : (b : Bool) → cond b (Some y) (find p ys) ≡ Some x → (find p ys ≡ Some x → P x) → P x
    by_test true is further = let same : y ≡ x = cc in subst P same h.0
    by_test false is further = further is

-- the variables with which a call of a function begins
pub entry_once : (unit : SourceUnit) → IsWellTyped unit → (x : Identifier) (f : Function) → function_at unit x ≡ Some f → (class : ℕ) (vs : List ObjectValue)
    → assign_all ((f.class_name, LocalRef 1 (Some class)) ∷ parameter_variables (zip f.parameters vs)) [] ≡ (f.class_name, LocalRef 1 (Some class)) ∷ parameter_variables (zip f.parameters vs)
entry_once unit well_typed x f found class vs =
    let once = found_holds (λ (g : Function). bytes_eq g.name x) HasNamesOnce (functions_of unit) f found (functions_once unit.items [] [] well_typed) in
    all_assigned ((f.class_name, LocalRef 1 (Some class)) ∷ []) f.parameters vs once.0 once.1

-- ---- statics

abbrev statics_in : List Item → Statics
statics_in items = null_statics (record { items = items })

-- a name that isn't taken has no static
abbrev AreTaken : Statics → List Identifier → Type 0
AreTaken ss taken = (x : Identifier) → has_name taken x ≡ false → lookup x ss ≡ None

one_taken : (ss : Statics) (taken : List Identifier) (y : Identifier) → AreTaken ss taken → AreTaken (ss ++ (y, Empty) ∷ []) (y ∷ taken)
one_taken ss taken y are x h = past ss (are x (second_false (bytes_eq x y) (has_name taken x) h))
  where
    by_test : (b : Bool) (o p : Option StaticReference) (r : StaticReference) → cond b (Some r) o ≡ None → (o ≡ None → p ≡ None) → cond b (Some r) p ≡ None
    by_test true o p r none further = absurd (cc)
    by_test false o p r none further = further none

    past : (rs : Statics) → lookup x rs ≡ None → lookup x (rs ++ (y, Empty) ∷ []) ≡ None
    past [] none = ap (λ (b : Bool). cond b (Some Empty) None) (first_false (bytes_eq x y) (has_name taken x) h)
    past ((z, r) ∷ rs) none = by_test (bytes_eq x z) (lookup x rs) (lookup x (rs ++ (y, Empty) ∷ [])) r none (past rs)

all_statics : (before : Statics) (items : List Item) (taken : List Identifier) (scope : Scope) → AreTaken before taken → AreUnbroken (item_places taken scope items) → assign_all (statics_in items) before ≡ before ++ statics_in items
all_statics before [] taken scope are well_typed = sym (append-nil before)
all_statics before (StaticItem g ∷ items) taken scope are well_typed =
    let place : Place = record { line = g.line; known = scope; taken = taken; returns = Void; form = StaticForm g } in
    let further = flat_map broken_at (item_places (g.name ∷ taken) ((g.name, static_type g.type) ∷ scope) items) in
    one_more before g.name Empty (statics_in items) (are g.name (not_twice place (first_empty (broken_at place) further well_typed)))
    (all_statics (before ++ (g.name, Empty) ∷ []) items (g.name ∷ taken) ((g.name, static_type g.type) ∷ scope) (one_taken before taken g.name are) (second_empty (broken_at place) further well_typed))
all_statics before (FunctionItem f ∷ items) taken scope are well_typed =
    all_statics before items (f.name ∷ taken) scope (λ x h. are x (second_false (bytes_eq x f.name) (has_name taken x) h))
    (back_unbroken (function_places taken scope f) (item_places (f.name ∷ taken) scope items) well_typed)

-- the statics with which a run begins
pub statics_once : (unit : SourceUnit) → IsWellTyped unit → assign_all (null_statics unit) [] ≡ null_statics unit
statics_once unit well_typed = all_statics [] unit.items [] [] (λ x h. refl) well_typed
