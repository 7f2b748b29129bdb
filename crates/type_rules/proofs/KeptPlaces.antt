-- What is known of a statement that breaks no rule of types, and of the statements inside it.
use Rattle.std.proofs.Common.{◌≡◌, ℕ, Bool, true, false, not, ◌||◌, List, [], ◌∷◌, ◌++◌, refl}
use Rattle.std.specs.Prelude.{flat_map}
use Rattle.std.specs.List.{list_any, list_all}
use Rattle.std.specs.Option.{is_none}
use Rattle.std.proofs.lemmas.Bool.{or_parts}
use Rattle.base.specs.Bytes.{Identifier}
use Rattle.base.specs.Options.{some_passes}
use Rattle.syntax.specs.Parts.{statements_of, statements_within, line_of, declared_name, right_side, own_call, own_expressions, names_declared}
use Rattle.syntax.specs.declared.unit.ResultType.{ResultType}
use Rattle.syntax.specs.Tree.{Static, Test, Stmt, If, ElseBlock, Block, Next}
use Rattle.jni.specs.JniFunction.{function_named}
use Rattle.type_rules.specs.ExprTypes.{Scope, call_arguments_fit}
use Rattle.type_rules.specs.declared.rule.TypeRule.{TypeRule}
use Rattle.type_rules.specs.declared.rule.TypeRule.TheVariants.{UnknownName, DeclaredTwice, TypeMisfit, UnknownFunction, ArgumentCount, ReferenceCopied, BadMode, ReadOnlyWrite}
use Rattle.type_rules.specs.TypeRules.{typing_rules, StaticForm, has_name, is_formed, statement_fits, has_wrong_count, has_wrong_mode, copies_reference, set_type, breaks, broken_at, with_declared, statement_place, places_inside, places_within, places_of}
use Rattle.type_rules.proofs.PlaceLists.{AreUnbroken, first_empty, second_empty, front_unbroken, back_unbroken, none_broken, not_twice}

-- what a statement that breaks no rule is known for
pub record IsKept (known : Scope) (taken : List Identifier) (returns : ResultType) (s : Stmt) : Type 0 where
  pub new : some_passes (has_name taken) (declared_name s) ≡ false
  pub fits : statement_fits known returns s ≡ true
  pub arguments : some_passes (λ c. not (call_arguments_fit known c (function_named c.function))) (own_call s) ≡ false
  pub there : some_passes (λ c. is_none (function_named c.function)) (own_call s) ≡ false
  pub count : some_passes (λ c. has_wrong_count c (function_named c.function)) (own_call s) ≡ false
  pub uncopied : copies_reference known (set_type known s) (right_side s) ≡ false
  pub modes : some_passes (λ c. has_wrong_mode c (function_named c.function)) (own_call s) ≡ false

fitting : (a b c : Bool) → (not a || not b || c) ≡ false → (b ≡ true) × (c ≡ false)
fitting true true c h = (refl, h)
fitting a b c h = absurd (cc)

-- the rules after others
abbrev after_copies : List TypeRule
after_copies = BadMode ∷ ReadOnlyWrite ∷ []

abbrev after_counts : List TypeRule
after_counts = ReferenceCopied ∷ after_copies

abbrev after_functions : List TypeRule
after_functions = ArgumentCount ∷ after_counts

abbrev after_types : List TypeRule
after_types = UnknownFunction ∷ after_functions

abbrev after_twice : List TypeRule
after_twice = TypeMisfit ∷ after_types

abbrev after_names : List TypeRule
after_names = DeclaredTwice ∷ after_twice

is_kept : (returns : ResultType) (known : Scope) (taken : List Identifier) (s : Stmt) → broken_at (statement_place returns known taken s) ≡ [] → IsKept known taken returns s
is_kept returns known taken s none =
    let place = statement_place returns known taken s in
    let p : TypeRule → Bool = λ rule. breaks rule place place.form in
    let names = (or_parts (p UnknownName) (list_any p after_names) (none_broken p (line_of s) typing_rules none)).1 in
    let twice = (or_parts (p DeclaredTwice) (list_any p after_twice) names).1 in
    let types = (or_parts (p TypeMisfit) (list_any p after_types) twice).1 in
    let functions = (or_parts (p UnknownFunction) (list_any p after_functions) types).1 in
    let counts = (or_parts (p ArgumentCount) (list_any p after_counts) functions).1 in
    let copies = (or_parts (p ReferenceCopied) (list_any p after_copies) counts).1 in
    let fit = fitting (list_all (is_formed known) (own_expressions s)) (statement_fits known returns s) (some_passes (λ c. not (call_arguments_fit known c (function_named c.function))) (own_call s)) ((or_parts (p TypeMisfit) (list_any p after_types) twice).0) in
    record {
      new = (or_parts (p DeclaredTwice) (list_any p after_twice) names).0;
      fits = fit.0;
      arguments = fit.1;
      there = (or_parts (p UnknownFunction) (list_any p after_functions) types).0;
      count = (or_parts (p ArgumentCount) (list_any p after_counts) functions).0;
      uncopied = (or_parts (p ReferenceCopied) (list_any p after_copies) counts).0;
      modes = (or_parts (p BadMode) (list_any p (ReadOnlyWrite ∷ [])) copies).0;
    }

-- ---- places inside

pub own_kept : (returns : ResultType) (known : Scope) (taken : List Identifier) (s : Stmt) → AreUnbroken (places_within returns known taken s) → IsKept known taken returns s
own_kept returns known taken s h =
    is_kept returns known taken s (first_empty (broken_at (statement_place returns known taken s)) (flat_map broken_at (places_inside returns known taken s)) h)

pub inside_kept : (returns : ResultType) (known : Scope) (taken : List Identifier) (s : Stmt) → AreUnbroken (places_within returns known taken s) → AreUnbroken (places_inside returns known taken s)
inside_kept returns known taken s h = second_empty (broken_at (statement_place returns known taken s)) (flat_map broken_at (places_inside returns known taken s)) h

-- the first statement of a block, and those after it
pub block_kept : (returns : ResultType) (known : Scope) (taken : List Identifier) (s : Stmt) (rest : Block) → AreUnbroken (places_of returns known taken (Next s rest))
    → AreUnbroken (places_within returns known taken s) × AreUnbroken (places_of returns (with_declared known s) (taken ++ names_declared (statements_within s)) rest)
block_kept returns known taken s rest h =
    let after = places_of returns (with_declared known s) (taken ++ names_declared (statements_within s)) rest in
    (front_unbroken (places_within returns known taken s) after h, back_unbroken (places_within returns known taken s) after h)

-- both blocks of an if-else
pub paths_kept : (returns : ResultType) (known : Scope) (taken : List Identifier) (line : ℕ) (test : Test) (then' else' : Block) → AreUnbroken (places_within returns known taken (If line test then' (ElseBlock else')))
    → AreUnbroken (places_of returns known taken then') × AreUnbroken (places_of returns known (taken ++ names_declared (statements_of then')) else')
paths_kept returns known taken line test then' else' h =
    let second = places_of returns known (taken ++ names_declared (statements_of then')) else' in
    let both = inside_kept returns known taken (If line test then' (ElseBlock else')) h in
    (front_unbroken (places_of returns known taken then') second both, back_unbroken (places_of returns known taken then') second both)

-- the name of a static that breaks no rule isn't taken
pub static_kept : (line : ℕ) (known : Scope) (taken : List Identifier) (returns : ResultType) (g : Static) → broken_at (record { line = line; known = known; taken = taken; returns = returns; form = StaticForm g }) ≡ [] → has_name taken g.name ≡ false
static_kept line known taken returns g none = not_twice (record { line = line; known = known; taken = taken; returns = returns; form = StaticForm g }) none
