-- What the rules on types say of a unit's names: none that is in scope is declared again.
use Rattle.std.proofs.Common.{◌≡◌, true, false, ◌||◌, List, [], ◌∷◌, ◌++◌, map, Option, Some, None, refl, ap₂, ◌∙◌, bytes_eq}
use Rattle.std.specs.Prelude.{filter_map, flat_map}
use Rattle.std.specs.List.{AllByRecursion, IsDistinct, cons_option}
use Rattle.std.proofs.lemmas.List.Folds.{list_any-append}
use Rattle.std.proofs.lemmas.Map.Keys.{IsDistinct-cons}
use Rattle.base.specs.Bytes.{Identifier}
use Rattle.base.specs.Options.{some_passes}
use Rattle.syntax.specs.Parts.{line_of, statements_of, statements_within, declared_name, names_declared, parameter_names}
use Rattle.syntax.specs.declared.declared_type.ParameterType.{ParameterType}
use Rattle.syntax.specs.declared.declared_type.ParameterType.TheVariants.{Jint as IntParameter, Reference as ReferenceParameter}
use Rattle.syntax.specs.declared.declared_type.VariableType.TheVariants.{Reference as ReferenceVariable}
use Rattle.syntax.specs.declared.unit.ResultType.{ResultType}
use Rattle.syntax.specs.declared.unit.ResultType.TheVariants.{Void}
use Rattle.syntax.specs.declared.declared_type.DeclaredType.TheVariants.{Simple, Pointer, ConstChars}
use Rattle.syntax.specs.Tree.{Parameter, Stmt, Plain, Declare, If, NoElse, ElseBlock, While, Block, End, Next, Function, Item, StaticItem, FunctionItem, SourceUnit}
use Rattle.type_rules.specs.declared.ty.ExprType.TheVariants.{Ref}
use Rattle.type_rules.specs.ExprTypes.{Scope}
use Rattle.type_rules.specs.TypeRules.{Place, StaticForm, HeadForm, StatementForm, has_name, has_repeated, broken_at, places_within, places_of, function_places, item_places, with_declared, parameter_type, IsWellTyped, static_type}
use Rattle.region_states.specs.NewNames.{own_names, AreNew, DeclaresNew, DeclareNew, DeclaresOnce, ItemOnce}
use Rattle.region_rules.specs.RegionStates.{ReferenceAt, parameter_state, state_at_entry}
use Rattle.region_states.specs.SameStates.{NamedState}
use Rattle.region_states.specs.StatesInMemory.{names_of}
use Rattle.type_rules.proofs.NameLists.{both_none}
use Rattle.type_rules.proofs.PlaceLists.{AreUnbroken, first_empty, second_empty, front_unbroken, back_unbroken, first_false, second_false, not_twice}
use Rattle.region_states.proofs.ScopeLemmas.{any_reverse}
use Rattle.region_states.proofs.StateLemmas.{none_alike}

-- ---- names among others

-- what isn't among the first isn't among the second
abbrev Covers : List Identifier → List Identifier → Type 0
Covers taken names = (x : Identifier) → has_name taken x ≡ false → has_name names x ≡ false

covers_more : (taken names more own : List Identifier) → Covers taken names → Covers more own → Covers (taken ++ more) (names ++ own)
covers_more taken names more own h k x none =
    let both = both_none taken more x none in
    list_any-append (bytes_eq x) names own ∙ ap₂ (λ a b. a || b) (h x both.0) (k x both.1)

own_new : (s : Stmt) (taken names : List Identifier) → Covers taken names → some_passes (has_name taken) (declared_name s) ≡ false → AreNew names (own_names s)
own_new (Plain line (Declare (Simple (ReferenceVariable t)) x r)) taken names covers none = (covers x none, tt)
own_new (Plain line (Declare (Pointer t) x r)) taken names covers none = (covers x none, tt)
own_new (Plain line (Declare ConstChars x r)) taken names covers none = (covers x none, tt)
own_new s taken names covers none = tt

names_after : (s : Stmt) (taken names : List Identifier) → Covers taken names → Covers (taken ++ names_declared (statements_within s)) (names ++ own_names s)
names_after (Plain line (Declare (Simple (ReferenceVariable t)) y r)) taken names covers = covers_more taken names (y ∷ []) (y ∷ []) covers (λ x h. h)
names_after (Plain line (Declare (Pointer t) y r)) taken names covers = covers_more taken names (y ∷ []) (y ∷ []) covers (λ x h. h)
names_after (Plain line (Declare ConstChars y r)) taken names covers = covers_more taken names (y ∷ []) (y ∷ []) covers (λ x h. h)
names_after s taken names covers = covers_more taken names (names_declared (statements_within s)) [] covers (λ x h. refl)

-- ---- statements and blocks

module _ (returns : ResultType) where
  abbrev own_place : Scope → List Identifier → Stmt → Place
  own_place known taken s = record { line = line_of s; known = known; taken = taken; returns = returns; form = StatementForm s }

  mutual
    stmt_new : (s : Stmt) (known : Scope) (taken names : List Identifier) → Covers taken names → AreUnbroken (places_within returns known taken s) → DeclaresNew names s
    stmt_new (If line test then' NoElse) known taken names covers h =
        (block_new then' known taken names covers (second_empty (broken_at (own_place known taken (If line test then' NoElse))) (flat_map broken_at (places_of returns known taken then')) h), tt)
    stmt_new (If line test then' (ElseBlock else')) known taken names covers h =
        let first = places_of returns known taken then' in
        let second = places_of returns known (taken ++ names_declared (statements_of then')) else' in
        let inner = second_empty (broken_at (own_place known taken (If line test then' (ElseBlock else')))) (flat_map broken_at (first ++ second)) h in (
          block_new then' known taken names covers (front_unbroken first second inner),
          block_new else' known (taken ++ names_declared (statements_of then')) names (λ x none. covers x (both_none taken (names_declared (statements_of then')) x none).0) (back_unbroken first second inner),
        )
    stmt_new (While line test body) known taken names covers h =
        block_new body known taken names covers (second_empty (broken_at (own_place known taken (While line test body))) (flat_map broken_at (places_of returns known taken body)) h)
    stmt_new s known taken names covers h = own_new s taken names covers (not_twice (own_place known taken s) (first_empty (broken_at (own_place known taken s)) [] h))

    block_new : (b : Block) (known : Scope) (taken names : List Identifier) → Covers taken names → AreUnbroken (places_of returns known taken b) → DeclareNew names b
    block_new (End line) known taken names covers h = tt
    block_new (Next s rest) known taken names covers h =
        let more = taken ++ names_declared (statements_within s) in
        let later = places_of returns (with_declared known s) more rest in (
          stmt_new s known taken names covers (front_unbroken (places_within returns known taken s) later h),
          block_new rest (with_declared known s) more (names ++ own_names s) (names_after s taken names covers) (back_unbroken (places_within returns known taken s) later h),
        )

-- ---- functions

abbrev parameter_variables : List Parameter → List NamedState
parameter_variables ps = filter_map parameter_state ps

abbrev named : List NamedState → List Identifier
named vs = map (λ v. v.0) vs

-- a parameter's variable, if it has one
abbrev variable_at : Identifier → ParameterType → Option NamedState
variable_at x t = elim t [ IntParameter ↦ None | ReferenceParameter r ↦ Some (x, ReferenceAt 1 true) ]

-- a name that no parameter has
no_parameter : (ps : List Parameter) (x : Identifier) (others : List Identifier) → has_name (map (λ p. p.name) ps ++ others) x ≡ false → AllByRecursion (λ y. bytes_eq x y ≡ false) (named (parameter_variables ps))
no_parameter [] x others h = tt
no_parameter (p ∷ ps) x others h =
    let rest = has_name (map (λ (q : Parameter). q.name) ps ++ others) x in
    by p.type (first_false (bytes_eq x p.name) rest h) (no_parameter ps x others (second_false (bytes_eq x p.name) rest h))
  where
    by : (t : ParameterType) → bytes_eq x p.name ≡ false → AllByRecursion (λ y. bytes_eq x y ≡ false) (named (parameter_variables ps))
        → AllByRecursion (λ y. bytes_eq x y ≡ false) (named (cons_option (variable_at p.name t) (parameter_variables ps)))
    by IntParameter own later = later
    by (ReferenceParameter r) own later = (own, later)

distinct_parameters : (ps : List Parameter) (others : List Identifier) → has_repeated (map (λ p. p.name) ps ++ others) ≡ false → IsDistinct bytes_eq (named (parameter_variables ps))
distinct_parameters [] others h = none_alike
distinct_parameters (p ∷ ps) others h =
    let names = map (λ (q : Parameter). q.name) ps ++ others in
    by p.type (first_false (has_name names p.name) (has_repeated names) h) (distinct_parameters ps others (second_false (has_name names p.name) (has_repeated names) h))
  where
    by : (t : ParameterType) → has_name (map (λ (q : Parameter). q.name) ps ++ others) p.name ≡ false → IsDistinct bytes_eq (named (parameter_variables ps))
        → IsDistinct bytes_eq (named (cons_option (variable_at p.name t) (parameter_variables ps)))
    by IntParameter none later = later
    by (ReferenceParameter r) none later = IsDistinct-cons bytes_eq p.name (named (parameter_variables ps)) (no_parameter ps p.name others none) later

-- none of these is a name
all_differ : (names : List Identifier) (x : Identifier) → AllByRecursion (λ y. bytes_eq x y ≡ false) names → has_name names x ≡ false
all_differ [] x h = refl
all_differ (y ∷ names) x h = ap₂ (λ a b. a || b) h.0 (all_differ names x h.1)

entry_covers : (f : Function) (others : List Identifier) → Covers (parameter_names f ++ others) (names_of (state_at_entry f))
entry_covers f others x none =
    let rest = has_name (map (λ (q : Parameter). q.name) f.parameters ++ others) x in
    any_reverse (bytes_eq x) (named (state_at_entry f).variables)
    ∙ ap₂ (λ a b. a || b) (first_false (bytes_eq x f.class_name) rest none)
    (all_differ (named (parameter_variables f.parameters)) x (no_parameter f.parameters x others (second_false (bytes_eq x f.class_name) rest none)))

function_once : (taken : List Identifier) (statics : Scope) (f : Function) → AreUnbroken (function_places taken statics f) → DeclaresOnce f
function_once taken statics f h =
    let others = map (λ s. s.0) statics in
    let head : Place = record { line = f.line; known = statics; taken = taken; returns = f.result; form = HeadForm f } in
    let known : Scope = (f.class_name, Ref) ∷ map (λ p. (p.name, parameter_type p.type)) f.parameters ++ statics in
    let body = places_of f.result known (parameter_names f ++ others) f.body in
    let once = second_false (has_name taken f.name) (has_repeated (parameter_names f ++ others)) (not_twice head (first_empty (broken_at head) (flat_map broken_at body) h)) in
    let names = map (λ (q : Parameter). q.name) f.parameters ++ others in (
      IsDistinct-cons bytes_eq f.class_name (named (parameter_variables f.parameters)) (no_parameter f.parameters f.class_name others (first_false (has_name names f.class_name) (has_repeated names) once))
          (distinct_parameters f.parameters others (second_false (has_name names f.class_name) (has_repeated names) once)),
      block_new f.result f.body known (parameter_names f ++ others) (names_of (state_at_entry f)) (entry_covers f others) (second_empty (broken_at head) (flat_map broken_at body) h),
    )

-- ---- units

items_once : (items : List Item) (taken : List Identifier) (statics : Scope) → AreUnbroken (item_places taken statics items) → AllByRecursion ItemOnce items
items_once [] taken statics h = tt
items_once (StaticItem g ∷ items) taken statics h =
    let place : Place = record { line = g.line; known = statics; taken = taken; returns = Void; form = StaticForm g } in
    (tt, items_once items (g.name ∷ taken) ((g.name, static_type g.type) ∷ statics) (second_empty (broken_at place) (flat_map broken_at (item_places (g.name ∷ taken) ((g.name, static_type g.type) ∷ statics) items)) h))
items_once (FunctionItem f ∷ items) taken statics h =
    let own = function_places taken statics f in
    let later = item_places (f.name ∷ taken) statics items in
    (function_once taken statics f (front_unbroken own later h), items_once items (f.name ∷ taken) statics (back_unbroken own later h))

-- in a well-typed unit no name that is in scope is declared again
pub typed_once : (unit : SourceUnit) → IsWellTyped unit → AllByRecursion ItemOnce unit.items
typed_once unit well_typed = items_once unit.items [] [] well_typed
