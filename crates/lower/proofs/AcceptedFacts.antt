-- Each function of an accepted unit fits.
use Rattle.std.proofs.Common.{◌≡◌, ℕ, ◌+◌, ◌≤◌, true, false, List, [], ◌∷◌, ◌++◌, length, map, nat_le, Some, None, refl, ap, ◌∙◌, subst, arith, leb-true, length-append}
use Rattle.std.specs.Cmp.{first_so, second_so}
use Rattle.std.specs.Prelude.{IsTrue}
use Rattle.std.specs.List.{list_all, AllByRecursion}
use Rattle.std.specs.Str.{bytes_eq}
use Rattle.std.proofs.lemmas.Bool.{or_parts}
use Rattle.base.specs.Bytes.{Identifier, lookup}
use Rattle.syntax.specs.Limits.{numbers_in_range, block_height, block_well_formed, IsTree}
use Rattle.syntax.specs.Parts.{functions_of, statements_of, own_expressions, parameter_names}
use Rattle.syntax.specs.declared.declared_type.ParameterType.{ParameterType}
use Rattle.syntax.specs.declared.declared_type.ParameterType.TheVariants.{Jint as IntParameter, Reference as ReferenceParameter}
use Rattle.syntax.specs.declared.unit.ResultType.TheVariants.{Void}
use Rattle.syntax.specs.Tree.{Parameter, Function, Item, StaticItem, FunctionItem, SourceUnit}
use Rattle.type_rules.specs.declared.ty.ExprType.{ExprType}
use Rattle.type_rules.specs.declared.ty.ExprType.TheVariants.{Jint, Ref, Global, Weak}
use Rattle.type_rules.specs.ExprTypes.{Scope}
use Rattle.type_rules.specs.TypeRules.{IsWellTyped, Place, StaticForm, HeadForm, has_name, has_repeated, parameter_type, places_of, function_places, item_places, static_type}
use Rattle.code.specs.declared.instr.Instr.TheVariants as instr
use Rattle.region_rules.specs.Regions.{AcceptedFunction, HasRegions}
use Rattle.code_meaning.specs.Layout.{Slot, Known, with_static, parameter_slot, parameter_slots, numbers_after, references_after, entry_layout}
use Rattle.code_meaning.specs.Coding.{block_code, function_code}
use Rattle.code_meaning.specs.Fits.{AreStatics, FunctionFits, IsStaticType}
use Rattle.code_meaning.specs.Length.{function_steps, int_names}
use Rattle.code_meaning.specs.Stands.{block_returns}
use Rattle.code_meaning.proofs.SlotLaws.{first_or_after}
use Rattle.lower.proofs.EntryLayouts.{no_statics, one_static_more}
use Rattle.lower.proofs.TypeFacts.{scope_of, HasNoTruth}
use Rattle.type_rules.proofs.PlaceLists.{AreUnbroken, first_unbroken, front_unbroken, back_unbroken, rest_unbroken}
use Rattle.type_rules.proofs.KeptPlaces.{static_kept}
use Rattle.lower.proofs.NameFacts.{AreTaken, taken_first}
use Rattle.lower.proofs.BodyFacts.{AreInRange, block_fits}
use Rattle.lower.proofs.LengthFacts.{block_length}
use Rattle.lower.proofs.NamesOnce.{head_once, entry_agrees, body_agrees}
use Rattle.lower.proofs.RegionFacts.{function_returns}

-- each function satisfies what lowering asks for, after the statics before it
abbrev pub AllFit : (statics : Known) → List Item → Type 0
AllFit statics [] = Unit {0}
AllFit statics (StaticItem s ∷ items) = (lookup s.name statics ≡ None) × AllFit (with_static s statics) items
AllFit statics (FunctionItem f ∷ items) = AreStatics statics × FunctionFits statics f × IsTrue (block_returns f.body) × (length (function_code statics f) ≡ function_steps f + 1) × AllFit statics items

-- ---- the names at a function's beginning

slot_type : (type : ParameterType) (n r : ℕ) → parameter_type type ≡ (parameter_slot type n r).ty
slot_type IntParameter n r = refl
slot_type (ReferenceParameter t) n r = refl

parameter_scope : (ps : List Parameter) (n r : ℕ) (statics : Known) → map {B = Identifier × ExprType} (λ p. (p.name, parameter_type p.type)) ps ++ scope_of statics ≡ scope_of (parameter_slots ps n r ++ statics)
parameter_scope [] n r statics = refl
parameter_scope (p ∷ ps) n r statics =
    ap (λ (s : ExprType). (p.name, s) ∷ (map {B = Identifier × ExprType} (λ p. (p.name, parameter_type p.type)) ps ++ scope_of statics)) (slot_type p.type n r)
    ∙ ap (λ (scope : Scope). (p.name, (parameter_slot p.type n r).ty) ∷ scope) (parameter_scope ps (numbers_after p.type n) (references_after p.type r) statics)

statics_taken : (statics : Known) → AreTaken (map (λ s. s.0) (scope_of statics)) statics
statics_taken [] x h = refl
statics_taken ((y, slot) ∷ statics) x h = taken_first (map (λ s. s.0) (scope_of statics)) statics y slot (statics_taken statics) x h

parameters_taken : (ps : List Parameter) (n r : ℕ) (statics : Known) → AreTaken (map (λ p. p.name) ps ++ map (λ s. s.0) (scope_of statics)) (parameter_slots ps n r ++ statics)
parameters_taken [] n r statics = statics_taken statics
parameters_taken (p ∷ ps) n r statics =
    let further_n = numbers_after p.type n in
    let further_r = references_after p.type r in
    taken_first (map (λ p. p.name) ps ++ map (λ s. s.0) (scope_of statics)) (parameter_slots ps further_n further_r ++ statics) p.name (parameter_slot p.type n r) (parameters_taken ps further_n further_r statics)

-- the types that names have there
abbrev IsEntryType : ExprType → Type 0
IsEntryType Jint = Unit {0}
IsEntryType Ref = Unit {0}
IsEntryType Global = Unit {0}
IsEntryType Weak = Unit {0}
IsEntryType s = ⊥

abbrev HaveEntryTypes : Known → Type 0
HaveEntryTypes known = (x : Identifier) (s : Slot) → lookup x known ≡ Some s → IsEntryType s.ty

entry_type_first : (x : Identifier) (slot : Slot) (known : Known) → IsEntryType slot.ty → HaveEntryTypes known → HaveEntryTypes ((x, slot) ∷ known)
entry_type_first x slot known new h y s at =
    first_or_after x y slot s known (IsEntryType s.ty) (λ same is. subst (λ (t : Slot). IsEntryType t.ty) is new) (λ other found. h y s found) at

parameter_entry_type : (type : ParameterType) (n r : ℕ) → IsEntryType (parameter_slot type n r).ty
parameter_entry_type IntParameter n r = tt
parameter_entry_type (ReferenceParameter t) n r = tt

static_entry_type : (s : ExprType) → IsStaticType s → IsEntryType s
static_entry_type Global h = tt
static_entry_type Weak h = tt
static_entry_type s h = absurd h

parameter_types : (ps : List Parameter) (n r : ℕ) (statics : Known) → AreStatics statics → HaveEntryTypes (parameter_slots ps n r ++ statics)
parameter_types [] n r statics h x s at = static_entry_type s.ty (h x s at).0
parameter_types (p ∷ ps) n r statics h x s at =
    let further_n = numbers_after p.type n in
    let further_r = references_after p.type r in
    entry_type_first p.name (parameter_slot p.type n r) (parameter_slots ps further_n further_r ++ statics) (parameter_entry_type p.type n r) (parameter_types ps further_n further_r statics h) x s at

entry_types : (statics : Known) (f : Function) → AreStatics statics → HaveEntryTypes (entry_layout statics f).known
entry_types statics f h = entry_type_first f.class_name (record { ty = Ref; index = 0 }) (parameter_slots f.parameters 0 1 ++ statics) tt (parameter_types f.parameters 0 1 statics h)

entry_no_truth : (known : Known) → HaveEntryTypes known → HasNoTruth known
entry_no_truth known h x s at e = subst IsEntryType e (h x s at)

-- ---- functions

module _ (statics : Known) (f : Function) (known : AreStatics statics) where
  -- the types of the body, after the class and the parameters
  abbrev BodyIsKept : Type 0
  BodyIsKept = AreUnbroken (places_of f.result (scope_of (entry_layout statics f).known) (parameter_names f ++ map (λ s. s.0) (scope_of statics)) f.body)

  body_kept : (names : List Identifier) → AreUnbroken (function_places names (scope_of statics) f) → BodyIsKept
  body_kept names well_typed =
      let taken = parameter_names f ++ map (λ s. s.0) (scope_of statics) in
      let scope : Scope = (f.class_name, Ref) ∷ (map {B = Identifier × ExprType} (λ p. (p.name, parameter_type p.type)) f.parameters ++ scope_of statics) in
      let inside : AreUnbroken (places_of f.result scope taken f.body) = rest_unbroken (record { line = f.line; known = scope_of statics; taken = names; returns = f.result; form = HeadForm f }) (places_of f.result scope taken f.body) well_typed in
      let same : scope ≡ scope_of (entry_layout statics f).known = ap (λ (further : Scope). (f.class_name, Ref) ∷ further) (parameter_scope f.parameters 0 1 statics) in
      subst (λ (s : Scope). AreUnbroken (places_of f.result s taken f.body)) same inside

  -- the names that are known at the body's beginning are taken
  entry_taken : AreTaken (parameter_names f ++ map (λ s. s.0) (scope_of statics)) (entry_layout statics f).known
  entry_taken = taken_first (map (λ p. p.name) f.parameters ++ map (λ s. s.0) (scope_of statics)) (parameter_slots f.parameters 0 1 ++ statics) f.class_name (record { ty = Ref; index = 0 }) (parameters_taken f.parameters 0 1 statics)

  function_counted : FunctionFits statics f → BodyIsKept → has_repeated (parameter_names f ++ map (λ s. s.0) (scope_of statics)) ≡ false → length (function_code statics f) ≡ function_steps f + 1
  function_counted fits kept once =
      let l = entry_layout statics f in
      let body = block_length (int_names f) f.result f.body l (parameter_names f ++ map (λ s. s.0) (scope_of statics)) (entry_agrees statics f known once entry_taken kept) (body_agrees statics f known once entry_taken kept) fits kept in
      omega (arith, length-append (block_code l f.body) (instr.Return ∷ []))

  function_fits : BodyIsKept → AreInRange (statements_of f.body) → block_well_formed f.body ≡ true → block_height f.body ≤ 32 → FunctionFits statics f
  function_fits well_typed numbers formed low =
      let l = entry_layout statics f in
      let types = entry_types statics f known in
      let taken = parameter_names f ++ map (λ s. s.0) (scope_of statics) in
      block_fits f.body l taken f.result (record {
        well_typed = well_typed;
        numbers = numbers;
        formed = formed;
        low = low;
        names = entry_taken;
        no_truth = entry_no_truth l.known types;
      })

-- ---- items

-- the functions of these items
abbrev functions_in : List Item → List Function
functions_in items = functions_of (record { items = items })

-- what the limits and the paths of an accepted unit say of its functions
record HoldAll (items : List Item) : Type 0 where
  numbers : list_all (λ f. list_all (λ s. list_all numbers_in_range (own_expressions s)) (statements_of f.body)) (functions_in items) ≡ true
  formed : list_all (λ f. block_well_formed f.body) (functions_in items) ≡ true
  low : list_all (λ f. nat_le (block_height f.body) 32) (functions_in items) ≡ true
  regions : AllByRecursion AcceptedFunction (functions_in items)

all_fit : (items : List Item) (names : List Identifier) (statics : Known) → AreStatics statics → AreTaken names statics → AreUnbroken (item_places names (scope_of statics) items) → HoldAll items → AllFit statics items
all_fit [] names statics known taken well_typed h = tt
all_fit (StaticItem s ∷ items) names statics known taken well_typed h =
    let place : Place = record { line = s.line; known = scope_of statics; taken = names; returns = Void; form = StaticForm s } in
    let further = item_places (s.name ∷ names) (scope_of (with_static s statics)) items in (
      taken s.name (static_kept s.line (scope_of statics) names Void s (first_unbroken place further well_typed)),
      all_fit items (s.name ∷ names) (with_static s statics) (one_static_more s statics known) (taken_first names statics s.name (record { ty = static_type s.type; index = length statics }) taken) (rest_unbroken place further well_typed)
          (record { numbers = h.numbers; formed = h.formed; low = h.low; regions = h.regions }),
    )
all_fit (FunctionItem f ∷ items) names statics known taken well_typed h =
    let further = item_places (f.name ∷ names) (scope_of statics) items in
    let all = functions_in items in
    let whole = front_unbroken (function_places names (scope_of statics) f) further well_typed in
    let kept = body_kept statics f known names whole in
    let fits = function_fits statics f known kept
    (first_so _ (list_all (λ f. list_all (λ s. list_all numbers_in_range (own_expressions s)) (statements_of f.body)) all) h.numbers)
    (first_so _ (list_all (λ f. block_well_formed f.body) all) h.formed)
    (leb-true (block_height f.body) 32 (first_so _ (list_all (λ f. nat_le (block_height f.body) 32) all) h.low)) in (
      known,
      fits,
      function_returns f h.regions.0,
      function_counted statics f known fits kept (head_once names (scope_of statics) f whole),
      all_fit items (f.name ∷ names) statics known (λ x none. taken x (or_parts (bytes_eq x f.name) (has_name names x) none).1) (back_unbroken (function_places names (scope_of statics) f) further well_typed) (record {
        numbers = second_so (list_all (λ s. list_all numbers_in_range (own_expressions s)) (statements_of f.body)) _ h.numbers;
        formed = second_so (block_well_formed f.body) _ h.formed;
        low = second_so (nat_le (block_height f.body) 32) _ h.low;
        regions = h.regions.1;
      }),
    )

pub accepted_fits : (unit : SourceUnit) → IsTree unit → IsWellTyped unit → HasRegions unit → AllFit [] unit.items
accepted_fits unit tree well_typed regions = all_fit unit.items [] [] no_statics (λ x none. refl) well_typed (record { numbers = tree.numbers; formed = tree.forms; low = tree.low; regions = regions })
