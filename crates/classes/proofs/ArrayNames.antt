-- Where there is a class of arrays of objects, there is the class of the elements.
use Rattle.std.proofs.Common.{◌≡◌, ℕ, ◌+◌, Bool, true, false, List, [], ◌∷◌, ◌++◌, map, refl, sym, ap, ◌∙◌, codes}
use Rattle.std.specs.Prelude.{◌||◌}
use Rattle.std.specs.List.{list_all, enumerate_from}
use Rattle.std.specs.Str.{bytes_eq}
use Rattle.std.proofs.lemmas.List.{append_cancel_right}
use Rattle.std.proofs.lemmas.List.Folds.{list_any-append}
use Rattle.std.proofs.lemmas.Slice.Eq.{bytes_eq-Decides}
use Rattle.std.proofs.lemmas.Bool.{or_right, and_parts}
use Rattle.base.specs.Bytes.{Identifier}
use Rattle.classes.specs.declared.built_ins.BuiltIn.{BuiltIn}
use Rattle.class_rules.specs.Class.{Class, Classes, array_name}
use Rattle.class_rules.specs.BuiltIns.{number_array_classes, object_array_class}
use Rattle.classes.specs.BuiltInList.{listed_class, array_classes, listed_classes}
use Rattle.class_rules.specs.Mangling.{is_class_name}
use Rattle.classes.specs.Tables.{ArraysHaveElements}
use Rattle.classes.proofs.DistinctNames.{has_name}
use Rattle.class_rules.proofs.MangledNames.{array_name-no_class}

pub is_same : (a b : Identifier) → a ≡ b → bytes_eq a b ≡ true
is_same a b e = (bytes_eq-Decides a b).1 e

-- the name of a class is told by that of its arrays
pub element_name : (a b : Identifier) → array_name a ≡ array_name b → a ≡ b
element_name a b e =
    let inner : a ++ codes ";" ≡ b ++ codes ";" = cc in
    append_cancel_right a b (codes ";") inner

pub cases : {P : Type 0} (a b : Bool) → (a || b) ≡ true → (a ≡ true → P) → (b ≡ true → P) → P
cases true b h f g = f refl
cases false b h f g = g h

-- a class name is no array's
pub no_array : (name element : Identifier) → is_class_name name ≡ true → bytes_eq name (array_name element) ≡ true → ⊥
no_array name element is h =
    let e = (bytes_eq-Decides name (array_name element)).0 h in
    let no : is_class_name name ≡ false = ap is_class_name e ∙ array_name-no_class element in
    absurd (cc)

none-plain : (list : List BuiltIn) (name : Identifier) → list_all (λ b. is_class_name b.name.now) list ≡ true → has_name (map listed_class list) (array_name name) ≡ true → ⊥
none-plain [] name all h = absurd (cc)
none-plain (b ∷ list) name all h =
    let p = and_parts (is_class_name b.name.now) (list_all (λ b. is_class_name b.name.now) list) all in
    cases (bytes_eq b.name.now (array_name name)) (has_name (map listed_class list) (array_name name)) h
    (no_array b.name.now name p.0)
    (none-plain list name p.1)

element-there : (n : ℕ) (P : Classes) (name : Identifier) → has_name (map object_array_class (enumerate_from n P)) (array_name name) ≡ true → has_name P name ≡ true
element-there n [] name h = h
element-there n (c ∷ P) name h =
    cases (bytes_eq (array_name c.name) (array_name name)) (has_name (map object_array_class (enumerate_from (n + 1) P)) (array_name name)) h
    (λ q. ap (λ b. b || has_name P name) (is_same c.name name (element_name c.name name ((bytes_eq-Decides (array_name c.name) (array_name name)).0 q))))
    (λ q. or_right (bytes_eq c.name name) (has_name P name) (element-there (n + 1) P name q))

pub either-append : (T U : Classes) (name : Identifier) → has_name (T ++ U) name ≡ (has_name T name || has_name U name)
either-append T U name = list_any-append (λ (c : Class). bytes_eq c.name name) T U

pub first_of_both : (T U : Classes) (name : Identifier) → has_name T name ≡ true → has_name (T ++ U) name ≡ true
first_of_both T U name h = either-append T U name ∙ ap (λ b. b || has_name U name) h

pub second_of_both : (T U : Classes) (name : Identifier) → has_name U name ≡ true → has_name (T ++ U) name ≡ true
second_of_both T U name h = either-append T U name ∙ or_right (has_name T name) (has_name U name) h

pub listed-elements : (list : List BuiltIn) → list_all (λ b. is_class_name b.name.now) list ≡ true → ArraysHaveElements (listed_classes list)
listed-elements list all name h =
    let P = map listed_class list in
    let O = array_classes P in
    cases (has_name (P ++ number_array_classes) (array_name name)) (has_name O (array_name name)) (sym (either-append (P ++ number_array_classes) O (array_name name)) ∙ h)
    (λ q. cases (has_name P (array_name name)) (has_name number_array_classes (array_name name)) (sym (either-append P number_array_classes (array_name name)) ∙ q)
    (λ r. absurd (none-plain list name all r))
    (λ r. absurd (let none : has_name number_array_classes (array_name name) ≡ false = refl in cc)))
    (λ q. first_of_both (P ++ number_array_classes) O name (first_of_both P number_array_classes name (element-there 1 P name q)))
