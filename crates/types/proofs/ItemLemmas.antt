-- What is refused at an item, and at the items after it.
use Rattle.std.proofs.Common.{◌≡◌, ℕ, suc, ◌+◌, ◌<◌, not, ◌||◌, List, [], ◌∷◌, ◌++◌, Option, Some, None, map, drop, take, length, get_or, refl, sym, ap, ap₂, ◌∙◌, add-one, append-nil, drop-cons}
use Rattle.std.specs.Option.{is_some, is_none}
use Rattle.base.specs.Bytes.{Identifier, ByName}
use Rattle.class_rules.specs.Mangling.{unmangle}
use Rattle.syntax.specs.declared.unit.Parameter.{Parameter as ParameterInMemory}
use Rattle.syntax.specs.declared.unit.Function.{Function as FunctionInMemory}
use Rattle.syntax.specs.declared.unit.Static.{Static as StaticInMemory}
use Rattle.syntax.specs.declared.unit.Item.{Item as ItemInMemory}
use Rattle.syntax.specs.Parts.{parameter_names, item_name}
use Rattle.syntax.specs.declared.unit.ResultType.TheVariants.{Void}
use Rattle.syntax.specs.Tree.{Item, StaticItem, FunctionItem}
use Rattle.syntax.specs.Views.{parameter_tree, function_tree, static_tree, item_tree, block_tree}
use Rattle.type_rules.specs.declared.ty.ExprType.{ExprType}
use Rattle.type_rules.specs.declared.ty.ExprType.TheVariants.{Ref}
use Rattle.type_rules.specs.ExprTypes.{Scope}
use Rattle.type_rules.specs.declared.rule.TypeRule.TheVariants.{UnknownName, DeclaredTwice}
use Rattle.type_rules.specs.TypeRules.{Place, StaticForm, HeadForm, has_name, has_repeated, breaks, broken_at, parameter_type, places_of, function_places, item_places}
use Rattle.types.specs.AllFaults.{told_at}
use Rattle.types.specs.Faults.{broken_if, found, entry_scope, head_faults, own_places, with_static}
use Rattle.types.proofs.RuleLemmas.{listed}
use Rattle.types.proofs.PlaceLemmas.{found-none, found-append, found-next}

-- ---- what is known and taken at a function's beginning

known_names : (known : ByName ExprType) → map {B = Identifier} (λ v. v.0) known ≡ map {B = Identifier} (λ k. k.0) known
known_names [] = refl
known_names (k ∷ known) = ap (λ names. k.0 ∷ names) (known_names known)

entry_types : (parameters : List ParameterInMemory) → map {B = Identifier × ExprType} (λ p. (p.name, parameter_type p.type)) (map parameter_tree parameters) ≡ map {B = Identifier × ExprType} (λ p. (p.name, parameter_type p.kind)) parameters
entry_types [] = refl
entry_types (p ∷ parameters) = ap (λ xs. (p.name, parameter_type p.kind) ∷ xs) (entry_types parameters)

entry_names : (parameters : List ParameterInMemory) (statics : Scope)
    → map {B = Identifier} (λ v. v.0) (map {B = Identifier × ExprType} (λ p. (p.name, parameter_type p.kind)) parameters ++ statics) ≡ map (λ p. p.name) (map parameter_tree parameters) ++ map (λ s. s.0) statics
entry_names [] statics = refl
entry_names (p ∷ parameters) statics = ap (λ names. p.name ∷ names) (entry_names parameters statics)

taken_names : (statics : Scope) (f : FunctionInMemory) (known : ByName ExprType) → known ≡ entry_scope statics f → parameter_names (function_tree f) ++ map (λ s. s.0) statics ≡ map {B = Identifier} (λ k. k.0) known
taken_names statics f known e =
    sym (ap (λ names. f.class_name ∷ names) (entry_names f.parameters.items statics)) ∙ sym (ap (λ (scope : Scope). map {B = Identifier} (λ v. v.0) scope) e) ∙ known_names known

-- ---- functions

none_is : {A : Type 0} (o : Option A) → is_none o ≡ not (is_some o)
none_is None = refl
none_is (Some x) = refl

head_place : List Identifier → Scope → FunctionInMemory → Place
head_place taken statics f = record { line = f.line; known = statics; taken = taken; returns = f.result; form = HeadForm (function_tree f) }

head : (taken : List Identifier) (statics : Scope) (f : FunctionInMemory) (entry : List Identifier) → parameter_names (function_tree f) ++ map (λ s. s.0) statics ≡ entry → broken_at (head_place taken statics f) ≡ head_faults taken entry f
unfolding head_place
head taken statics f entry e =
    listed (λ rule. breaks rule (head_place taken statics f) (HeadForm (function_tree f))) f.line
    ∙ ap₂ (λ a names. broken_if a UnknownName f.line ++ (broken_if (has_name taken f.name || has_repeated names) DeclaredTwice f.line ++ [])) (none_is (unmangle f.name)) e
    ∙ ap (λ xs. broken_if (not (is_some (unmangle f.name))) UnknownName f.line ++ xs) (append-nil _)

-- what is refused in a function where these names are known at its beginning
pub found-function : (taken : List Identifier) (statics : Scope) (f : FunctionInMemory) (known : ByName ExprType) → known ≡ entry_scope statics f
    → found (function_places taken statics (function_tree f)) ≡ take 1 (head_faults taken (map {B = Identifier} (λ k. k.0) known) f) ++ found (places_of f.result known (map {B = Identifier} (λ k. k.0) known) (block_tree f.body))
unfolding head_place
found-function taken statics f known e =
    let names = taken_names statics f known e in
    found-next (head_place taken statics f) _
    ∙ ap₂ (λ xs ys. xs ++ ys) (ap (take 1) (head taken statics f (map {B = Identifier} (λ k. k.0) known) names))
    (ap₂ (λ scope all. found (places_of f.result scope all (block_tree f.body))) (ap (λ xs. (f.class_name, Ref) ∷ xs ++ statics) (entry_types f.parameters.items) ∙ sym e) names)

-- ---- statics

static_place : List Identifier → Scope → StaticInMemory → Place
static_place taken statics s = record { line = s.line; known = statics; taken = taken; returns = Void; form = StaticForm (static_tree s) }

pub found-static : (taken : List Identifier) (statics : Scope) (s : StaticInMemory) → found (own_places taken statics (StaticItem (static_tree s))) ≡ take 1 (broken_if (has_name taken s.name) DeclaredTwice s.line)
unfolding static_place
found-static taken statics s =
    found-next (static_place taken statics s) [] ∙ ap (λ xs. told_at (static_place taken statics s) ++ xs) found-none ∙ append-nil (told_at (static_place taken statics s))
    ∙ ap (take 1) (listed (λ rule. breaks rule (static_place taken statics s) (StaticForm (static_tree s))) s.line ∙ append-nil (broken_if (has_name taken s.name) DeclaredTwice s.line))

-- ---- items

one_item : (taken : List Identifier) (statics : Scope) (item : Item) (rest : List Item) → found (item_places taken statics (item ∷ rest)) ≡ found (own_places taken statics item) ++ found (item_places (item_name item ∷ taken) (with_static statics item) rest)
one_item taken statics (StaticItem s) rest = found-append (own_places taken statics (StaticItem s)) _
one_item taken statics (FunctionItem f) rest = found-append (own_places taken statics (FunctionItem f)) _

-- the first of those that are left
pub item_next : {A : Type 0} (items : List A) (i : ℕ) (item : A) → i < length items → item ≡ get_or items i item → drop i items ≡ item ∷ drop (i + 1) items
item_next items i item h e = rw add-one (drop-cons items i item h ∙ ap (λ x. x ∷ drop (suc i) items) (sym e))

-- what is refused at an item and after it
pub found-item : (taken : List Identifier) (statics : Scope) (items : List ItemInMemory) (i : ℕ) (item : ItemInMemory) → i < length items → item ≡ get_or items i item
    → found (item_places taken statics (map item_tree (drop i items)))
    ≡ found (own_places taken statics (item_tree item)) ++ found (item_places (item_name (item_tree item) ∷ taken) (with_static statics (item_tree item)) (map item_tree (drop (i + 1) items)))
found-item taken statics items i item h e = ap (λ rest. found (item_places taken statics (map item_tree rest))) (item_next items i item h e) ∙ one_item taken statics (item_tree item) _
