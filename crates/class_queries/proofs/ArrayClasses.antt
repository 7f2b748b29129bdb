-- The class of arrays with elements of a class, found by the names of classes.
use Rattle.std.proofs.Common.{◌≡◌, ℕ, suc, ◌+◌, ◌<◌, Bool, true, false, cond, [], get_or, length, nat_lt, Option, Some, None, sym, ap, ◌∙◌, arith}
use Rattle.std.specs.List.{position_or_len}
use Rattle.std.specs.Option.{option_map, option_map_or}
use Rattle.std.specs.Str.{bytes_eq}
use Rattle.std.proofs.lemmas.Bool.Decides.{nat_tests}
use Rattle.std.proofs.lemmas.List.Sums.{position_or_len_is}
use Rattle.std.proofs.lemmas.Option.{slice_get-get_or}
use Rattle.base.specs.Bytes.{Identifier}
use Rattle.classes.proofs.Places.{same_bytes}
use Rattle.class_rules.specs.Class.{Class, Classes, Plain, class_name, class_named}

module _ (classes : Classes) (name : Identifier) where
  -- whether a class has the name
  abbrev wanted : Class → Bool
  wanted d = bytes_eq d.name name

  no_class : Class
  no_class = record { name = []; superclass = None; kind = Plain; fields = []; statics = [] }

  -- so does the class of a number
  abbrev pub IsNamed : ℕ → Bool → Type 0
  IsNamed c b = bytes_eq name (class_name classes c) ≡ b

  at_place : (i : ℕ) (b : Bool) → i < length classes → IsNamed (i + 1) b → wanted (get_or classes i no_class) ≡ b
  at_place i b within is =
      let next : suc i ≡ i + 1 = omega arith in
      ap (λ (o : Option Class). bytes_eq (option_map_or (λ (d : Class). d.name) o []) name) (sym (slice_get-get_or classes i no_class within))
      ∙ ap (λ (c : ℕ). bytes_eq (class_name classes c) name) next
      ∙ same_bytes (class_name classes (i + 1)) name
      ∙ is

  -- the first that has it
  pub first_named : (i : ℕ) → i < length classes → ((k : ℕ) → k < i → IsNamed (k + 1) false) → IsNamed (i + 1) true → class_named classes name ≡ Some (i + 1)
  first_named i within before is =
      let place : position_or_len wanted classes ≡ i = position_or_len_is wanted classes i no_class (omega (arith, within)) (λ k below. at_place k false (omega (arith, below, within)) (before k below)) (λ l. at_place i true within is) in
      let less : nat_lt i (length classes) ≡ true = grind (arith, nat_tests, within) in
      ap (λ (n : ℕ). option_map (λ (j : ℕ). j + 1) (cond (nat_lt n (length classes)) (Some n) None)) place
      ∙ ap (λ (b : Bool). option_map (λ (j : ℕ). j + 1) (cond b (Some i) None)) less

  -- none has it
  pub none_named : ((k : ℕ) → k < length classes → IsNamed (k + 1) false) → class_named classes name ≡ None
  none_named all =
      let place : position_or_len wanted classes ≡ length classes = position_or_len_is wanted classes (length classes) no_class (omega arith) (λ k below. at_place k false below (all k below)) (λ l. absurd (omega (arith, l))) in
      let less : nat_lt (length classes) (length classes) ≡ false = grind (arith, nat_tests) in
      ap (λ (n : ℕ). option_map (λ (j : ℕ). j + 1) (cond (nat_lt n (length classes)) (Some n) None)) place
      ∙ ap (λ (b : Bool). option_map (λ (j : ℕ). j + 1) (cond b (Some (length classes)) None)) less
