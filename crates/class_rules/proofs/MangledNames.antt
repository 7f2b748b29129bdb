-- The test of a name reads exactly the mangled names.
use Rattle.std.proofs.Common.{◌≡◌, ℕ, Bool, true, false, eqb, ◌&&◌, ◌⊎◌, inl, inr, List, [], ◌∷◌, ◌++◌, refl, ap, sym, ◌∙◌, subst, append_assoc, is_some, if◌then◌else◌, ◌==◌, flat_map, arith}
use Rattle.std.specs.Cmp.{first_so, second_so}
use Rattle.std.specs.Cmp.Derive.{one_truth}
use Rattle.std.proofs.lemmas.Bool.Decides.{nat_tests}
use Rattle.std.proofs.lemmas.Grind.{flat_map-append}
use Rattle.std.specs.List.{list_all}
use Rattle.std.proofs.Math.Bool.{and_assoc}
use Rattle.std.proofs.lemmas.Bool.{eqb-true}
use Rattle.base.specs.Bytes.{is_letter, is_name_part, with_first, split_at}
use Rattle.class_rules.specs.Class.{array_name}
use Rattle.class_rules.specs.Mangling.{is_simple_name, is_class_name, escaped_byte, mangle, unmangle}
use Rattle.class_rules.specs.MangledNames.{is_word, reads_name, reads_underscore, reads_first, reads_after, reads_mangled}
use Rattle.class_rules.proofs.Mangled.{inverse}
use Rattle.class_rules.proofs.Unescaping.{some_of}

abbrev escaped : List ℕ → List ℕ
escaped p = flat_map escaped_byte p

-- a class name, byte by byte
abbrev mutual
  begins_part : List ℕ → Bool
  begins_part [] = false
  begins_part (b ∷ bs) = is_letter b && goes_on bs

  goes_on : List ℕ → Bool
  goes_on [] = true
  goes_on (b ∷ bs) = if b == 47 then begins_part bs else (is_name_part b && goes_on bs)

abbrev is_method_name : List ℕ → Bool
is_method_name [] = false
is_method_name (b ∷ bs) = is_letter b && list_all is_name_part bs

-- what comes between parts
abbrev is_slash : ℕ → Bool
is_slash c = c == 47

-- a test that is known either way
tested : {P : Type 0} (b : Bool) → (b ≡ true → P) → (b ≡ false → P) → P
tested true t f = t refl
tested false t f = f refl

word-no_slash : (b : ℕ) → is_word b ≡ true → eqb b 47 ≡ false
word-no_slash b h = grind (arith, nat_tests)

word-no_underscore : (b : ℕ) → is_word b ≡ true → eqb b 95 ≡ false
word-no_underscore b h = grind (arith, nat_tests)

word-part : (b : ℕ) → is_word b ≡ true → is_name_part b ≡ true
word-part b h = grind (arith, nat_tests)

part-word : (b : ℕ) → is_name_part b ≡ true → eqb b 95 ≡ false → is_word b ≡ true
part-word b h k = grind (arith, nat_tests)

letter-word : (b : ℕ) → is_letter b ≡ true → is_word b ≡ true
letter-word b h = rw h refl

escape-word : (b : ℕ) → is_word b ≡ true → escaped_byte b ≡ b ∷ []
escape-word b h = rw (word-no_slash b h, word-no_underscore b h) refl

-- What reads as the rest of a name: one part, after a separator, or parts, a separator and a method.
abbrev Parts : List ℕ → Bool → Type 0
Parts bs s =
    ((s ≡ true) × ((p : List ℕ) × (list_all is_name_part p ≡ true) × (bs ≡ escaped p)))
    ⊎ ((c m : List ℕ) × (goes_on c ≡ true) × (is_method_name m ≡ true) × (bs ≡ escaped c ++ (95 ∷ escaped m)))

grow : (b : ℕ) (bs : List ℕ) (s : Bool) → is_name_part b ≡ true → eqb b 47 ≡ false → Parts bs s → Parts (escaped_byte b ++ bs) s
grow b bs s ok no_slash (inl h) = inl (h.0, (b ∷ h.1.0, rw (ok, h.1.1) refl, ap (λ xs. escaped_byte b ++ xs) h.1.2))
grow b bs s ok no_slash (inr h) =
    inr (b ∷ h.0, h.1, rw (no_slash, ok, h.2) refl, h.3, ap (λ xs. escaped_byte b ++ xs) h.4 ∙ sym (append_assoc (escaped_byte b) (escaped h.0) (95 ∷ escaped h.1)))

separated : (b : ℕ) (bs : List ℕ) (s : Bool) → is_letter b ≡ true → Parts bs true → Parts (95 ∷ b ∷ bs) s
separated b bs s is (inl h) =
    inr ([], b ∷ h.1.0, refl, rw (is, h.1.1) refl, rw (escape-word b (letter-word b is)) (ap (λ xs. 95 ∷ b ∷ xs) h.1.2))
separated b bs s is (inr h) =
    inr (47 ∷ b ∷ h.0, h.1, rw (is, h.2) refl, h.3, rw (escape-word b (letter-word b is)) (ap (λ xs. 95 ∷ b ∷ xs) h.4))

mutual
  parts : (bs : List ℕ) (s : Bool) → reads_name bs s ≡ true → Parts bs s
  parts [] s h = inl (h, ([], refl, refl))
  parts (b ∷ bs) s h =
      tested (eqb b 95)
      (λ is. let inside : reads_underscore bs s ≡ true = rw is at h in
      subst (λ x. Parts (x ∷ bs) s) (sym (eqb-true b 95 is)) (underscore bs s inside))
      (λ no. let inside : (is_word b && reads_name bs s) ≡ true = rw no at h in
      let word = first_so _ _ inside in
      subst (λ xs. Parts (xs ++ bs) s) (escape-word b word)
      (grow b bs s (word-part b word) (word-no_slash b word) (parts bs s (second_so _ _ inside))))

  underscore : (bs : List ℕ) (s : Bool) → reads_underscore bs s ≡ true → Parts (95 ∷ bs) s
  underscore [] s h = absurd cc
  underscore (b ∷ bs) s h =
      tested (is_letter b)
      (λ is. let inside : reads_name bs true ≡ true = rw is at h in separated b bs s is (parts bs true inside))
      (λ no. let inside : (eqb b 49 && reads_name bs s) ≡ true = rw no at h in
      subst (λ x. Parts (95 ∷ x ∷ bs) s) (sym (eqb-true b 49 (first_so _ _ inside)))
      (grow 95 bs s refl refl (parts bs s (second_so _ _ inside))))

reads-after : (ps name : List ℕ) → reads_after ps name ≡ true → (rest : List ℕ) × (name ≡ ps ++ rest) × (reads_first rest ≡ true)
reads-after [] name h = (name, refl, h)
reads-after (p ∷ ps) [] h = absurd cc
reads-after (p ∷ ps) (b ∷ bs) h =
    let head = eqb-true b p (first_so _ _ h) in
    let tail = reads-after ps bs (second_so (eqb b p) _ h) in
    (tail.0, ap (λ x. x ∷ bs) head ∙ ap (λ xs. p ∷ xs) tail.1, tail.2)

from-parts : (b : ℕ) (bs : List ℕ) → is_letter b ≡ true → Parts bs false → (class method : List ℕ) × (begins_part class ≡ true) × (is_method_name method ≡ true) × (b ∷ bs ≡ escaped class ++ (95 ∷ escaped method))
from-parts b bs letter (inl k) = absurd (let e = k.0 in cc)
from-parts b bs letter (inr k) =
    (b ∷ k.0, k.1, rw (letter, k.2) refl, k.3, rw (escape-word b (letter-word b letter)) (ap (λ xs. b ∷ xs) k.4))

first-parts : (rest : List ℕ) → reads_first rest ≡ true → (class method : List ℕ) × (begins_part class ≡ true) × (is_method_name method ≡ true) × (rest ≡ escaped class ++ (95 ∷ escaped method))
first-parts [] h = absurd cc
first-parts (b ∷ bs) h = from-parts b bs (first_so (is_letter b) _ h) (parts bs false (second_so (is_letter b) _ h))

-- a class and a method that make a name
abbrev Made : List ℕ → Type 0
Made name = (class method : List ℕ) × (begins_part class ≡ true) × (is_method_name method ≡ true) × (name ≡ 74 ∷ 97 ∷ 118 ∷ 97 ∷ 95 ∷ (escaped class ++ (95 ∷ escaped method)))

made-from : (name : List ℕ) → reads_mangled name ≡ true → Made name
made-from name h =
    let cut = reads-after (74 ∷ 97 ∷ 118 ∷ 97 ∷ 95 ∷ []) name h in
    let made = first-parts cut.0 cut.2 in
    (made.0, made.1, made.2, made.3, cut.1 ∙ ap (λ xs. 74 ∷ 97 ∷ 118 ∷ 97 ∷ 95 ∷ xs) made.4)

reads-part : (p : List ℕ) → list_all is_name_part p ≡ true → reads_name (escaped p) true ≡ true
reads-part [] h = refl
reads-part (b ∷ p) h =
    let rest = reads-part p (second_so (is_name_part b) _ h) in
    tested (eqb b 95)
    (λ is. subst (λ x. reads_name (escaped (x ∷ p)) true ≡ true) (sym (eqb-true b 95 is)) rest)
    (λ no. let word : is_word b ≡ true = part-word b (first_so (is_name_part b) _ h) no in
    rw (escape-word b word, no, word) rest)

reads-method : (m : List ℕ) → is_method_name m ≡ true → (t : Bool) → reads_name (95 ∷ escaped m) t ≡ true
reads-method [] h t = absurd cc
reads-method (b ∷ m) h t =
    let letter = first_so _ _ h in
    rw (escape-word b (letter-word b letter), letter) (reads-part m (second_so (is_letter b) _ h))

mutual
  reads-goes : (c : List ℕ) (s : Bool) (tail : List ℕ) → goes_on c ≡ true → ((t : Bool) → reads_name tail t ≡ true) → reads_name (escaped c ++ tail) s ≡ true
  reads-goes [] s tail h k = k s
  reads-goes (b ∷ c) s tail h k =
      tested (eqb b 47)
      (λ is. let inside : begins_part c ≡ true = rw is at h in
      subst (λ x. reads_name (escaped (x ∷ c) ++ tail) s ≡ true) (sym (eqb-true b 47 is)) (reads-begins c s tail inside k))
      (λ no. let inside : (is_name_part b && goes_on c) ≡ true = rw no at h in
      let rest = reads-goes c s tail (second_so (is_name_part b) _ inside) k in
      tested (eqb b 95)
      (λ is. subst (λ x. reads_name (escaped (x ∷ c) ++ tail) s ≡ true) (sym (eqb-true b 95 is)) rest)
      (λ other. let word : is_word b ≡ true = part-word b (first_so (is_name_part b) _ inside) other in
      rw (escape-word b word, other, word) rest))

  reads-begins : (c : List ℕ) (s : Bool) (tail : List ℕ) → begins_part c ≡ true → ((t : Bool) → reads_name tail t ≡ true) → reads_underscore (escaped c ++ tail) s ≡ true
  reads-begins [] s tail h k = absurd cc
  reads-begins (b ∷ c) s tail h k =
      let letter = first_so _ _ h in
      rw (escape-word b (letter-word b letter), letter) (reads-goes c true tail (second_so (is_letter b) _ h) k)

reads-class : (c tail : List ℕ) → begins_part c ≡ true → ((t : Bool) → reads_name tail t ≡ true) → reads_first (escaped c ++ tail) ≡ true
reads-class [] tail h k = absurd cc
reads-class (b ∷ c) tail h k =
    let letter = first_so _ _ h in
    rw (escape-word b (letter-word b letter), letter) (reads-goes c false tail (second_so (is_letter b) _ h) k)

made-reads : (name : List ℕ) → Made name → reads_mangled name ≡ true
made-reads name h =
    subst (λ n. reads_mangled n ≡ true) (sym h.4) (reads-class h.0 (95 ∷ escaped h.1) h.2 (reads-method h.1 h.3))

-- ---- the names of the definition

simple : (p : List ℕ) → is_method_name p ≡ is_simple_name p
simple [] = refl
simple (b ∷ p) = tested (is_letter b) (λ is. rw is refl) (λ no. rw no refl)

-- the first of the pieces, and the others
some_pieces : (p : List ℕ) → (first : List ℕ) × (others : List (List ℕ)) × (split_at is_slash p ≡ first ∷ others)
some_pieces [] = ([], [], refl)
some_pieces (c ∷ rest) = let inner = some_pieces rest in
    elim (c == 47) as (λ b. (first : List ℕ) × (others : List (List ℕ)) × ((if b then [] ∷ split_at is_slash rest else with_first c (split_at is_slash rest)) ≡ first ∷ others)) [
      | true ↦ ([], split_at is_slash rest, refl)
      | false ↦ (c ∷ inner.0, inner.1, ap (with_first c) inner.2)
    ]

-- the pieces of a class name after its first letter
abbrev go_on : List (List ℕ) → Bool
go_on [] = true
go_on (q ∷ qs) = list_all is_name_part q && list_all is_simple_name qs

part-goes : (b : ℕ) (p : List ℕ) → (is_name_part b && go_on (split_at is_slash p)) ≡ go_on (with_first b (split_at is_slash p))
part-goes b p = let inner = some_pieces p in
    subst (λ qs. (is_name_part b && go_on qs) ≡ go_on (with_first b qs)) (sym inner.2) (sym (and_assoc (is_name_part b) (list_all is_name_part inner.0) (list_all is_simple_name inner.1)))

first-goes : (b : ℕ) (qs : List ℕ) (others : List (List ℕ)) → (is_letter b && go_on (qs ∷ others)) ≡ list_all is_simple_name (with_first b (qs ∷ others))
first-goes b qs others = tested (is_letter b) (λ is. rw is refl) (λ no. rw no refl)

slash-no_letter : (b : ℕ) → eqb b 47 ≡ true → is_letter b ≡ false
slash-no_letter b h = grind (arith, nat_tests)

mutual
  goes : (p : List ℕ) → goes_on p ≡ go_on (split_at is_slash p)
  goes [] = refl
  goes (b ∷ p) =
      tested (eqb b 47)
      (λ is. rw is (begins p))
      (λ no. rw no (ap (λ t. is_name_part b && t) (goes p) ∙ part-goes b p))

  begins : (p : List ℕ) → begins_part p ≡ is_class_name p
  begins [] = refl
  begins (b ∷ p) =
      tested (eqb b 47)
      (λ is. rw (is, slash-no_letter b is) refl)
      (λ no. let inner = some_pieces p in
      rw no (ap (λ t. is_letter b && t) (goes p) ∙ subst (λ qs. (is_letter b && go_on qs) ≡ list_all is_simple_name (with_first b qs)) (sym inner.2) (first-goes b inner.0 inner.1)))

-- the underscore between class and method
mangle-parts : (c m : List ℕ) → mangle c m ≡ 74 ∷ 97 ∷ 118 ∷ 97 ∷ 95 ∷ (escaped c ++ (95 ∷ escaped m))
mangle-parts c m = ap (λ xs. 74 ∷ 97 ∷ 118 ∷ 97 ∷ 95 ∷ xs) (flat_map-append escaped_byte c (47 ∷ m))

read-some : (name : List ℕ) → reads_mangled name ≡ true → is_some (unmangle name) ≡ true
read-some name h =
    let made = made-from name h in
    ap is_some ((inverse name made.0 made.1).1 (sym (begins made.0) ∙ made.2, sym (simple made.1) ∙ made.3, made.4 ∙ sym (mangle-parts made.0 made.1)))

some-read : (name : List ℕ) → is_some (unmangle name) ≡ true → reads_mangled name ≡ true
some-read name h =
    let found = some_of (unmangle name) h in
    let made = (inverse name found.0.0 found.0.1).0 found.1 in
    made-reads name (found.0.0, found.0.1, begins found.0.0 ∙ made.0, simple found.0.1 ∙ made.1, made.2 ∙ mangle-parts found.0.0 found.0.1)

-- a name reads as a mangled one exactly where a class and a method have it
pub reads-some : (name : List ℕ) → reads_mangled name ≡ is_some (unmangle name)
reads-some name = one_truth (reads_mangled name) (is_some (unmangle name)) (read-some name) (some-read name)

-- a class of arrays has no class name
pub array_name-no_class : (element : List ℕ) → is_class_name (array_name element) ≡ false
array_name-no_class element = sym (begins (array_name element))
