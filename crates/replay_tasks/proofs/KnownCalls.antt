-- In a well-typed unit each call is of a function that is there.
use Rattle.std.proofs.Common.{◌≡◌, Bool, true, not, List, [], ◌∷◌, ◌++◌, map, refl, ap, ◌∙◌}
use Rattle.std.specs.Prelude.{flat_map}
use Rattle.std.specs.List.{list_any, list_all}
use Rattle.std.proofs.lemmas.Bool.{and_from}
use Rattle.std.proofs.lemmas.List.Folds.{list_all-append}
use Rattle.base.specs.Bytes.{Identifier}
use Rattle.syntax.specs.Parts.{functions_of, line_of, names_declared, parameter_names, statements_inside, statements_of, statements_within}
use Rattle.syntax.specs.declared.unit.ResultType.{ResultType}
use Rattle.syntax.specs.declared.unit.ResultType.TheVariants.{Void}
use Rattle.syntax.specs.Tree.{Stmt, If, NoElse, ElseBlock, While, Block, End, Next, Function, Item, StaticItem, FunctionItem, SourceUnit}
use Rattle.type_rules.specs.declared.ty.ExprType.TheVariants.{Ref}
use Rattle.type_rules.specs.ExprTypes.{Scope}
use Rattle.type_rules.specs.declared.rule.TypeRule.{TypeRule}
use Rattle.type_rules.specs.declared.rule.TypeRule.TheVariants.{UnknownName, DeclaredTwice, TypeMisfit, UnknownFunction, ArgumentCount, ReferenceCopied, BadMode, ReadOnlyWrite}
use Rattle.type_rules.specs.TypeRules.{typing_rules, Place, StaticForm, HeadForm, breaks, broken_at, parameter_type, with_declared, statement_place, places_inside, places_within, places_of, function_places, item_places, IsWellTyped, static_type}
use Rattle.type_rules.proofs.PlaceLists.{AreUnbroken, first_empty, second_empty, front_unbroken, back_unbroken, none_broken, first_false, second_false}
use Rattle.replay_tasks.specs.Tasks.{calls_known}

-- the rules after that on functions, and so on
abbrev after_functions : List TypeRule
after_functions = ArgumentCount ∷ ReferenceCopied ∷ BadMode ∷ ReadOnlyWrite ∷ []

abbrev after_types : List TypeRule
after_types = UnknownFunction ∷ after_functions

abbrev after_twice : List TypeRule
after_twice = TypeMisfit ∷ after_types

-- a statement that breaks no rule
here : (returns : ResultType) (known : Scope) (taken : List Identifier) (s : Stmt) → broken_at (statement_place returns known taken s) ≡ [] → calls_known s ≡ true
here returns known taken s none =
    let place = statement_place returns known taken s in
    let p : TypeRule → Bool = λ rule. breaks rule place place.form in
    let names = second_false (p UnknownName) (list_any p (DeclaredTwice ∷ after_twice)) (none_broken p (line_of s) typing_rules none) in
    let twice = second_false (p DeclaredTwice) (list_any p after_twice) names in
    let types = second_false (p TypeMisfit) (list_any p after_types) twice in
    ap not (first_false (p UnknownFunction) (list_any p after_functions) types)

joined : (xs ys : List Stmt) → list_all calls_known xs ≡ true → list_all calls_known ys ≡ true → list_all calls_known (xs ++ ys) ≡ true
joined xs ys h k = list_all-append calls_known xs ys ∙ and_from (list_all calls_known xs) (list_all calls_known ys) h k

mutual
  inner : (returns : ResultType) (known : Scope) (taken : List Identifier) (s : Stmt) → AreUnbroken (places_inside returns known taken s) → list_all calls_known (statements_inside s) ≡ true
  inner returns known taken (If line test then' NoElse) h = block returns known taken then' h
  inner returns known taken (If line test then' (ElseBlock else')) h =
      let front = places_of returns known taken then' in
      let back = places_of returns known (taken ++ names_declared (statements_of then')) else' in
      joined (statements_of then') (statements_of else')
      (block returns known taken then' (front_unbroken front back h))
      (block returns known (taken ++ names_declared (statements_of then')) else' (back_unbroken front back h))
  inner returns known taken (While line test body) h = block returns known taken body h
  inner returns known taken s h = refl

  block : (returns : ResultType) (known : Scope) (taken : List Identifier) (b : Block) → AreUnbroken (places_of returns known taken b) → list_all calls_known (statements_of b) ≡ true
  block returns known taken (End line) h = refl
  block returns known taken (Next s rest) h =
      let front = places_within returns known taken s in
      let back = places_of returns (with_declared known s) (taken ++ names_declared (statements_within s)) rest in
      let place = statement_place returns known taken s in
      let own = front_unbroken front back h in
      let inside = flat_map broken_at (places_inside returns known taken s) in
      joined (statements_within s) (statements_of rest)
      (and_from (calls_known s) (list_all calls_known (statements_inside s)) (here returns known taken s (first_empty (broken_at place) inside own)) (inner returns known taken s (second_empty (broken_at place) inside own)))
      (block returns (with_declared known s) (taken ++ names_declared (statements_within s)) rest (back_unbroken front back h))

-- ---- functions

body : (taken : List Identifier) (statics : Scope) (f : Function) → AreUnbroken (function_places taken statics f) → list_all calls_known (statements_of f.body) ≡ true
body taken statics f h =
    let head : Place = record { line = f.line; known = statics; taken = taken; returns = f.result; form = HeadForm f } in
    let known : Scope = (f.class_name, Ref) ∷ map (λ p. (p.name, parameter_type p.type)) f.parameters ++ statics in
    let names = parameter_names f ++ map (λ s. s.0) statics in
    block f.result known names f.body (second_empty (broken_at head) (flat_map broken_at (places_of f.result known names f.body)) h)

abbrev all_known : List Function → Bool
all_known fs = list_all (λ (f : Function). list_all calls_known (statements_of f.body)) fs

items_known : (items : List Item) (taken : List Identifier) (statics : Scope) → AreUnbroken (item_places taken statics items) → all_known (functions_of (record { items = items })) ≡ true
items_known [] taken statics h = refl
items_known (StaticItem g ∷ items) taken statics h =
    let place : Place = record { line = g.line; known = statics; taken = taken; returns = Void; form = StaticForm g } in
    let further = item_places (g.name ∷ taken) ((g.name, static_type g.type) ∷ statics) items in
    items_known items (g.name ∷ taken) ((g.name, static_type g.type) ∷ statics) (second_empty (broken_at place) (flat_map broken_at further) h)
items_known (FunctionItem f ∷ items) taken statics h =
    let own = function_places taken statics f in
    let further = item_places (f.name ∷ taken) statics items in
    and_from (list_all calls_known (statements_of f.body)) (all_known (functions_of (record { items = items })))
    (body taken statics f (front_unbroken own further h))
    (items_known items (f.name ∷ taken) statics (back_unbroken own further h))

pub known_calls : (unit : SourceUnit) → IsWellTyped unit → all_known (functions_of unit) ≡ true
known_calls unit well_typed = items_known unit.items [] [] well_typed
