-- The names of a function's `jint`s are among its names, of which an accepted unit's functions have few.
use Rattle.std.proofs.Common.{◌≡◌, ℕ, zero, suc, ◌<◌, ◌≤◌, Bool, true, false, ◌&&◌, List, [], ◌∷◌, ◌++◌, length, get_or, map, refl, ap, ◌∙◌, arith, length-append}
use Rattle.std.specs.Prelude.{filter_map, nat_le}
use Rattle.std.specs.List.{list_all}
use Rattle.std.proofs.lemmas.Bool.{and_parts}
use Rattle.base.specs.Limits.{most_names}
use Rattle.syntax.specs.Parts.{functions_of, statements_of, parameter_names, names_declared}
use Rattle.syntax.specs.declared.declared_type.ParameterType.{ParameterType}
use Rattle.syntax.specs.declared.declared_type.ParameterType.TheVariants.{Jint as IntParameter, Reference as ReferenceParameter}
use Rattle.syntax.specs.declared.declared_type.VariableType.TheVariants.{Jint as JIntVariable, Jsize as JSize}
use Rattle.syntax.specs.declared.declared_type.DeclaredType.TheVariants.{Simple, Pointer, ConstChars}
use Rattle.syntax.specs.Tree.{Parameter, Stmt, Plain, Declare, DeclareArray, Function, Item, StaticItem, FunctionItem}
use Rattle.syntax.specs.declared.unit.Item.{Item as ItemInMemory}
use Rattle.syntax.specs.Views.{item_tree}
use Rattle.code_meaning.specs.Length.{int_parameter, int_declared, int_names}
use Rattle.step_counts.specs.Names.{HasFewNames, has_few_names}

-- ---- a function's `jint`s

ints_of_parameters : (ps : List Parameter) → length (filter_map int_parameter ps) ≤ length (map (λ p. p.name) ps)
ints_of_parameters [] = omega arith
ints_of_parameters (p ∷ ps) = by_type p.type (ints_of_parameters ps)
  where
    by_type : (type : ParameterType) → length (filter_map int_parameter ps) ≤ length (map (λ p. p.name) ps) → length (filter_map int_parameter (record { type = type; name = p.name } ∷ ps)) ≤ suc (length (map (λ p. p.name) ps))
    by_type IntParameter further = omega (arith, further)
    by_type (ReferenceParameter r) further = omega (arith, further)

declared_ints : (statements : List Stmt) → length (filter_map int_declared statements) ≤ length (names_declared statements)
declared_ints [] = omega arith
declared_ints (Plain line (Declare (Simple JIntVariable) x r) ∷ rest) = omega (arith, declared_ints rest)
declared_ints (Plain line (Declare (Simple JSize) x r) ∷ rest) = omega (arith, declared_ints rest)
declared_ints (Plain line (Declare (Simple t) x r) ∷ rest) = omega (arith, declared_ints rest)
declared_ints (Plain line (Declare (Pointer t) x r) ∷ rest) = omega (arith, declared_ints rest)
declared_ints (Plain line (Declare ConstChars x r) ∷ rest) = omega (arith, declared_ints rest)
declared_ints (Plain line (DeclareArray t x size) ∷ rest) = omega (arith, declared_ints rest)
declared_ints (s ∷ rest) = declared_ints rest

pub few_ints : (f : Function) → HasFewNames f → length (int_names f) ≤ most_names
few_ints f few = omega (arith, few, ints_of_parameters f.parameters, declared_ints (statements_of f.body), length-append (parameter_names f) (names_declared (statements_of f.body)), length-append (filter_map int_parameter f.parameters) (filter_map int_declared (statements_of f.body)))

-- ---- the functions of a unit

abbrev few : Function → Bool
few f = nat_le (length (parameter_names f ++ names_declared (statements_of f.body))) most_names

and_alike : (a b c : Bool) → (b ≡ true → c ≡ true) → (a && b) ≡ true → (a && c) ≡ true
and_alike true b c f h = f h
and_alike false b c f h = h

pub few_items : (items : List Item) → list_all (λ f. nat_le (length (parameter_names f ++ names_declared (statements_of f.body))) most_names) (functions_of (record { items = items })) ≡ true → list_all has_few_names items ≡ true
few_items [] h = refl
few_items (StaticItem s ∷ items) h = few_items items h
few_items (FunctionItem f ∷ items) h = and_alike (few f) _ (list_all has_few_names items) (few_items items) h

pub few_at : (items : List ItemInMemory) (i : ℕ) (x : ItemInMemory) → i < length items → x ≡ get_or items i x → list_all has_few_names (map item_tree items) ≡ true → has_few_names (item_tree x) ≡ true
few_at [] i x below is h = absurd (omega (arith, below))
few_at (y ∷ items) zero x below is h = ap (λ z. has_few_names (item_tree z)) is ∙ (and_parts (has_few_names (item_tree y)) (list_all has_few_names (map item_tree items)) h).0
few_at (y ∷ items) (suc i) x below is h = few_at items i x (omega (arith, below)) is (and_parts (has_few_names (item_tree y)) (list_all has_few_names (map item_tree items)) h).1
