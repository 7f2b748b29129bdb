-- Methods that are looked for in a class and then in its superclasses.
use Rattle.std.proofs.Common.{◌≡◌, ℕ, zero, suc, ◌+◌, ◌<◌, Bool, true, false, List, [], ◌∷◌, ◌++◌, drop, subst, length, flat_map, filter, nat_eq, Option, Some, None, is_some, refl, sym, ap, ◌∙◌, arith, true≢false}
use Rattle.std.specs.Prelude.{◌&&◌, ◌==◌, not, slice_get, codes, if◌then◌else◌}
use Rattle.std.specs.List.{list_all}
use Rattle.std.specs.Option.{IsSome, option_map, option_map_or, option_and_then}
use Rattle.std.specs.Str.{bytes_eq}
use Rattle.std.proofs.lemmas.Bool.{and_from, and_parts, and_right}
use Rattle.std.proofs.lemmas.Bool.Decides.{nat_tests}
use Rattle.std.proofs.lemmas.Iterator.Adapters.{position_from-zero}
use Rattle.std.proofs.lemmas.Slice.Eq.{bytes_eq-Decides}
use Rattle.base.specs.Bytes.{Identifier}
use Rattle.base.proofs.Truths.{same_truth}
use Rattle.class_rules.specs.ClassIds.{number_of}
use Rattle.class_rules.specs.declared.class_id.ClassId.{ClassId}
use Rattle.class_rules.specs.Class.{Class, Classes, class_name, class_named, superclass, above, ancestry_within}
use Rattle.class_rules.specs.Mangling.{is_class_name, is_simple_name, mangle, escaped_byte, slash, unescaped, after_first, split_last, is_unmangled, unmangle, IsInverse}
use Rattle.class_rules.proofs.FoundClasses.{found_from}
use Rattle.class_rules.proofs.Unescaping.{unmangle-parts}
use Rattle.syntax.specs.Parts.{functions_of}
use Rattle.syntax.specs.Tree.{Function, SourceUnit}
use Rattle.semantics.specs.Activation.{class_of_function}
use Rattle.semantics.specs.Method.{is_method_of, method_signature}

-- ---- names

-- a path of two parts is divided at its last slash
none_in : (m : List ℕ) → list_all (λ b. not (b == 47)) m ≡ true → split_last m ≡ None
none_in [] h = refl
none_in (c ∷ rest) h = let parts = and_parts (not (c == 47)) (list_all (λ b. not (b == 47)) rest) h in
    ap (λ o. after_first c o rest) (none_in rest parts.1) ∙ other (c == 47) parts.0
  where
    other : (b : Bool) → not b ≡ true → ◌≡◌ {A = Option (List ℕ × List ℕ)} (if b then Some ([], rest) else None) None
    other true k = absurd (true≢false (sym k))
    other false k = refl

joined : (c m : List ℕ) → list_all (λ b. not (b == 47)) m ≡ true → split_last (c ++ 47 ∷ m) ≡ Some (c, m)
joined [] m h = ap (λ o. after_first 47 o m) (none_in m h)
joined (x ∷ rest) m h = ap (λ o. after_first x o (rest ++ 47 ∷ m)) (joined rest m h)

-- the parts that a path is divided into
abbrev IsParted : List ℕ → List ℕ × List ℕ → Type 0
IsParted path parts = (path ≡ parts.0 ++ 47 ∷ parts.1) × (list_all (λ b. not (b == 47)) parts.1 ≡ true)

undivided : (path : List ℕ) → split_last path ≡ None → list_all (λ b. not (b == 47)) path ≡ true
undivided [] h = refl
undivided (c ∷ rest) h = by_rest (split_last rest) refl h (undivided rest)
  where
    by_rest : (o : Option (List ℕ × List ℕ)) → split_last rest ≡ o → after_first c o rest ≡ None → (split_last rest ≡ None → list_all (λ b. not (b == 47)) rest ≡ true) → list_all (λ b. not (b == 47)) (c ∷ rest) ≡ true
    by_rest (Some inner) e q further = absurd (cc)
    by_rest None e q further = by_byte (c == 47) refl q
      where
        by_byte : (b : Bool) → (c == 47) ≡ b → ◌≡◌ {A = Option (List ℕ × List ℕ)} (if b then Some ([], rest) else None) None → list_all (λ x. not (x == 47)) (c ∷ rest) ≡ true
        by_byte true t p = absurd (cc)
        by_byte false t p = ap (λ b. not b && list_all (λ x. not (x == 47)) rest) t ∙ further e

parted : (path : List ℕ) (parts : List ℕ × List ℕ) → split_last path ≡ Some parts → IsParted path parts
parted [] parts h = absurd (cc)
parted (c ∷ rest) parts h = by_rest (split_last rest) refl h (parted rest)
  where
    by_rest : (o : Option (List ℕ × List ℕ)) → split_last rest ≡ o → after_first c o rest ≡ Some parts → ((inner : List ℕ × List ℕ) → split_last rest ≡ Some inner → IsParted rest inner) → IsParted (c ∷ rest) parts
    by_rest (Some inner) e q further =
        let inside = further inner e in
        let is : ◌≡◌ {A = List ℕ × List ℕ} (c ∷ inner.0, inner.1) parts = cc in
        subst (IsParted (c ∷ rest)) is (ap (λ xs. c ∷ xs) inside.0, inside.1)
    by_rest None e q further = by_byte (c == 47) refl q
      where
        by_byte : (b : Bool) → (c == 47) ≡ b → ◌≡◌ {A = Option (List ℕ × List ℕ)} (if b then Some ([], rest) else None) (Some parts) → IsParted (c ∷ rest) parts
        by_byte true t p =
            let is : ◌≡◌ {A = List ℕ × List ℕ} ([], rest) parts = cc in
            let slash : c ≡ 47 = grind (arith, nat_tests, t) in
            subst (IsParted (c ∷ rest)) is (ap (λ n. n ∷ rest) slash, undivided rest e)
        by_byte false t p = absurd (cc)

-- a mangled name that stands for this path, whose method has no slash
pub is_name : IsInverse → (name path c m : List ℕ) → drop 5 name ≡ path
    → ((bytes_eq (unescaped path) (c ++ 47 ∷ m) && list_all (λ b. not (b == 47)) m) && is_some (unmangle name)) ≡ is_unmangled name (c, m)
is_name inverse name path c m after = same_truth _ _ forward backward
  where
    A : Bool
    A = bytes_eq (unescaped path) (c ++ 47 ∷ m)

    B : Bool
    B = list_all (λ b. not (b == 47)) m

    C : Bool
    C = is_some (unmangle name)

    forward : ((A && B) && C) ≡ true → is_unmangled name (c, m) ≡ true
    forward h =
        let first = and_parts (A && B) C h in
        let second = and_parts A B first.0 in
        let is : unescaped path ≡ c ++ 47 ∷ m = (bytes_eq-Decides (unescaped path) (c ++ 47 ∷ m)).0 second.0 in
        let made = (inverse name c m).0 (unmangle-parts name first.1 ∙ ap (λ p. split_last (unescaped p)) after ∙ ap split_last is ∙ joined c m second.1) in
        and_from (is_class_name c && is_simple_name m) (bytes_eq (mangle c m) name) (and_from (is_class_name c) (is_simple_name m) made.0 made.1) ((bytes_eq-Decides (mangle c m) name).1 (sym made.2))

    backward : is_unmangled name (c, m) ≡ true → ((A && B) && C) ≡ true
    backward h =
        let first = and_parts (is_class_name c && is_simple_name m) (bytes_eq (mangle c m) name) h in
        let second = and_parts (is_class_name c) (is_simple_name m) first.0 in
        let found : unmangle name ≡ Some (c, m) = (inverse name c m).1 (second.0, second.1, sym ((bytes_eq-Decides (mangle c m) name).0 first.1)) in
        let there : is_some (unmangle name) ≡ true = ap is_some found in
        let parts = parted (unescaped path) (c, m) (ap (λ p. split_last (unescaped p)) (sym after) ∙ sym (unmangle-parts name there) ∙ found) in
        and_from (A && B) C (and_from A B ((bytes_eq-Decides (unescaped path) (c ++ 47 ∷ m)).1 parts.0) parts.1) there

-- a name without the prefix is no mangled one
pub no_name : (name c m : List ℕ) → ((xs : List ℕ) → bytes_eq (codes "Java_" ++ xs) name ≡ false) → is_unmangled name (c, m) ≡ false
no_name name c m none =
    ap (λ t. (is_class_name c && is_simple_name m) && t) (none (flat_map escaped_byte (c ++ 47 ∷ m)))
    ∙ and_right (is_class_name c && is_simple_name m) false refl

-- what comes after the prefix
pub after_prefix : (name path : List ℕ) → ((xs : List ℕ) → bytes_eq (codes "Java_" ++ xs) name ≡ bytes_eq xs path) → drop 5 name ≡ path
after_prefix name path is = ap (drop 5) (sym ((bytes_eq-Decides (codes "Java_" ++ path) name).0 (is path ∙ (bytes_eq-Decides path path).1 refl)))

-- ---- methods

-- those of a class and its ancestors, of which there are at most this many
abbrev pub named_within : ℕ → SourceUnit → Classes → ℕ → Identifier → List ℕ → List Function
named_within n unit T c name text = flat_map (λ d. filter (is_method_of T d name text) (functions_of unit)) (ancestry_within n T c)

first-some : {A : Type 0} (xs ys : List A) (x : A) → slice_get xs 0 ≡ Some x → slice_get (xs ++ ys) 0 ≡ Some x
first-some [] ys x h = absurd (cc)
first-some (y ∷ xs) ys x h = h

first-none : {A : Type 0} (xs ys : List A) → slice_get xs 0 ≡ None → slice_get (xs ++ ys) 0 ≡ slice_get ys 0
first-none [] ys h = refl
first-none (y ∷ xs) ys h = absurd (cc)

module _ (unit : SourceUnit) (T : Classes) (c : ℕ) (name : Identifier) (text : List ℕ) where
  abbrev own : List Function
  own = filter (is_method_of T c name text) (functions_of unit)

  abbrev further : ℕ → Option ℕ → List Function
  further n o = flat_map (λ d. filter (is_method_of T d name text) (functions_of unit)) (above (ancestry_within n T) o)

  pub named-here : (n : ℕ) (f : Function) → 0 < n → slice_get own 0 ≡ Some f → slice_get (named_within n unit T c name text) 0 ≡ Some f
  named-here zero f h e = absurd (omega arith)
  named-here (suc n) f h e = first-some own (further n (superclass T c)) f e

  pub named-above : (n m d : ℕ) → n ≡ m + 1 → slice_get own 0 ≡ None → superclass T c ≡ Some d → slice_get (named_within n unit T c name text) 0 ≡ slice_get (named_within m unit T d name text) 0
  named-above zero m d e h q = absurd (omega arith)
  named-above (suc n) m d e h q =
      let same : n ≡ m = omega arith in
      first-none own (further n (superclass T c)) h
      ∙ ap (λ o. slice_get (further n o) 0) q
      ∙ ap (λ k. slice_get (named_within k unit T d name text) 0) same

  pub named-top : (n : ℕ) → slice_get own 0 ≡ None → superclass T c ≡ None → slice_get (named_within n unit T c name text) 0 ≡ None
  named-top zero h q = refl
  named-top (suc n) h q =
      first-none own (further n (superclass T c)) h
      ∙ ap (λ o. slice_get (further n o) 0) q

-- ---- the class of a method

-- a class that has a number is there
pub numbered : (o : Option ClassId) → IsSome (number_of o) → IsSome o
numbered None h = h
numbered (Some c) h = h

-- a class is found by its name
pub named : (cs : Classes) (d : ℕ) → is_class_name (class_name cs d) ≡ true → IsSome (class_named cs (class_name cs d))
named cs zero h = absurd (cc)
named cs (suc i) h = by_place (slice_get cs i) refl h
  where
    by_place : (o : Option Class) → slice_get cs i ≡ o → is_class_name (option_map_or (λ (c : Class). c.name) o []) ≡ true
        → IsSome (class_named cs (option_map_or (λ (c : Class). c.name) (slice_get cs i) []))
    by_place None e g = absurd (cc)
    by_place (Some c) e g =
        let test = λ (d : Class). bytes_eq d.name c.name in
        let found = found_from test 0 cs i c e ((bytes_eq-Decides c.name c.name).1 refl) in
        subst (λ (o : Option Class). IsSome (class_named cs (option_map_or (λ (k : Class). k.name) o []))) (sym e)
        (subst (λ (o : Option ℕ). IsSome (option_map (λ j. j + 1) o)) (sym (position_from-zero test cs ∙ found.1)) refl)

-- a method of a class is a native method of its namesake
module _ (inverse : IsInverse) (T : Classes) (f : Function) (c : ℕ) (name : Identifier) (text : List ℕ) (is : is_method_of T c name text f ≡ true) where
  abbrev parts : ((is_class_name (class_name T c) && is_simple_name name) ≡ true) × (bytes_eq (mangle (class_name T c) name) f.name ≡ true)
  parts = and_parts (is_class_name (class_name T c) && is_simple_name name) (bytes_eq (mangle (class_name T c) name) f.name) (and_parts (is_unmangled f.name (class_name T c, name)) (bytes_eq (method_signature f) text) is).0

  pub is_named : is_class_name (class_name T c) ≡ true
  is_named = (and_parts (is_class_name (class_name T c)) (is_simple_name name) parts.0).0

  pub of_namesake : (d : ℕ) → class_named T (class_name T c) ≡ Some d → class_of_function T f ≡ Some d
  of_namesake d found =
      let unmangled : unmangle f.name ≡ Some (class_name T c, name) = (inverse f.name (class_name T c) name).1 (is_named, (and_parts (is_class_name (class_name T c)) (is_simple_name name) parts.0).1, sym ((bytes_eq-Decides (mangle (class_name T c) name) f.name).0 parts.1)) in
      ap (λ (o : Option (Identifier × Identifier)). option_and_then (class_named T) (option_map (λ (p : Identifier × Identifier). p.0) o)) unmangled ∙ found

-- nothing was found
pub none_found : {A B : Type 0} (f : A → B) (o : Option A) (p : Option B) → o ≡ None → option_map f o ≡ p → p ≡ None
none_found f o p h e = sym e ∙ ap (option_map f) h

-- no path is left where no byte is
pub no_path : (bytes : List ℕ) → nat_eq (length bytes) 0 ≡ bytes_eq (unescaped bytes) []
no_path [] = refl
no_path (c ∷ []) = refl
no_path (c ∷ d ∷ rest) = let some : nat_eq (suc (suc (length rest))) 0 ≡ false = grind (arith, nat_tests) in some ∙ by_test (c == 95 && d == 49)
  where
    by_test : (b : Bool) → false ≡ bytes_eq (if b then 95 ∷ unescaped rest else (if c == 95 then slash else c) ∷ unescaped (d ∷ rest)) []
    by_test true = refl
    by_test false = refl
