-- What the operands of a function of regions give: two numbers, a local array, and an object that holds nothing but numbers.
use Rattle.std.proofs.Common.{◌≡◌, ℕ, ℤ, zero, suc, ◌+◌, ◌<◌, ◌≤◌, List, [], ◌∷◌, length, map, take, drop, Option, Some, None, refl, sym, ap, ◌∙◌, subst, arith}
use Rattle.std.specs.Prelude.{slice_get, FitsSigned}
use Rattle.std.specs.Int.{w32, cast_unsigned}
use Rattle.std.specs.List.{AllZip}
use Rattle.std.proofs.lemmas.List.{drop-map, take-map}
use Rattle.std.proofs.lemmas.Option.{slice_get-get_or, slice_get_within}
use Rattle.base.specs.Bytes.{Identifier, lookup}
use Rattle.base.specs.declared.element.ElementType.{ElementType}
use Rattle.syntax.specs.Tree.{SourceUnit}
use Rattle.class_rules.specs.BuiltIns.{number_array}
use Rattle.class_rules.specs.Class.{Classes, NumberField}
use Rattle.class_rules.specs.Grown.{IsGrown}
use Rattle.code.specs.declared.instr.LocalArray.{LocalArray as ArraySlots}
use Rattle.code.specs.declared.instr.Operand.{Operand}
use Rattle.code.specs.declared.instr.Operand.TheVariants as operand
use Rattle.code_meaning.specs.Does.{AllTogether}
use Rattle.heap.specs.Heap.{Space}
use Rattle.heap.specs.declared.value.Value.{Value}
use Rattle.heap.specs.declared.value.Value.TheVariants.{Number as Word, Null, Block as Address}
use Rattle.jni.specs.declared.kinds.ParameterKind.{ParameterKind}
use Rattle.jni.specs.declared.kinds.ParameterKind.TheVariants.{ArrayVariable}
use Rattle.semantics.specs.Arguments.{Actual, variable_given, variable_in_actual}
use Rattle.semantics.specs.Heap.{Heap, number_in, numbers_of, values_of}
use Rattle.semantics.specs.Object.{ObjectValue, Number, Refers}
use Rattle.semantics.specs.Variable.{Variables}
use Rattle.semantics_typing.specs.Objects.{AreTypedObjects, HasNumbers, PlaceFits, ValueFits, elements_by_kind, element_type_of, type_at}
use Rattle.semantics_typing.proofs.TableKinds.{kind_numbers}
use Rattle.semantics_typing.proofs.Heaps.{values_there}
use Rattle.machine_answers.specs.Answers.{AreWordsOf}
use Rattle.machine_answers.specs.Copies.{word_of as word_in_cell}
use Rattle.machine_scenes.specs.Given as given
use Rattle.machine_scenes.specs.Given.{HasArray, HasElements, IsGiven, operand_of, operand_or_null}
use Rattle.machine_scenes.specs.Statics.{References}
use Rattle.machine_scenes.specs.declared.handle.Handle.{Handle}
use Rattle.machine_scenes.specs.HeapAgrees.{ValueAgrees, ValuesAgree}
use Rattle.machine_answers.proofs.Overlays.{get_drop}
use Rattle.machine_answers.proofs.ArgumentPlaces.{at_kind, with_each}

-- ---- numbers

-- ---- a local array

-- the fourth argument is a local array, which has these elements
pub record GivenArray (numbers : List ℕ) (vs : Variables) (operands : List Operand) (args : List Actual) : Type 0 where
  pub array : ArraySlots
  pub at : operand_of operands 3 ≡ operand.Array array
  pub has : HasElements numbers array (lookup (variable_given args 3) vs)

module _ {unit : SourceUnit} {classes : Classes} {space : Space} {references : References} {fields : List (Option Handle)} {t : ElementType} {operands : List Operand} {args : List Actual} (numbers : List ℕ) (vs : Variables) where
  of_array : {o : Operand} {a : Actual} → slice_get operands 3 ≡ Some o → slice_get args 3 ≡ Some a → IsGiven unit classes space references fields (ArrayVariable t) o a → HasArray numbers vs o a → GivenArray numbers vs operands args
  of_array at is (given.array {slots = slots}) (x, named, has) =
      let name : variable_given args 3 ≡ x = ap variable_in_actual is ∙ ap (λ (y : Actual). variable_in_actual (Some y)) named in
      record { array = slots; at = ap operand_or_null at; has = subst (λ (y : Identifier). HasElements numbers slots (lookup y vs)) (sym name) has }
  of_array at is (given.reference kind there) has = absurd kind

  pub local_array : {ps : List ParameterKind} → AllTogether (IsGiven unit classes space references fields) ps operands args → AllZip (HasArray numbers vs) operands args → slice_get ps 3 ≡ Some (ArrayVariable t) → GivenArray numbers vs operands args
  local_array all has is = let fourth = at_kind 3 (with_each all has) is in of_array fourth.at fourth.is fourth.given.0 fourth.given.1

-- the first words of its slots are those of its first elements
words_taken : (numbers : List ℕ) (elements : List ℤ) (n : ℕ) → n ≤ length elements → ((i : ℕ) (z : ℤ) → slice_get elements i ≡ Some z → FitsSigned w32 z × (slice_get numbers i ≡ Some (cast_unsigned w32 z))) → AreWordsOf (take n numbers) (take n elements)
words_taken numbers elements zero few words = record { fit = tt; same = refl }
words_taken numbers [] (suc n) few words = absurd (omega (arith, few))
words_taken [] (z ∷ elements) (suc n) few words = absurd (let e = (words 0 z refl).1 in cc)
words_taken (w ∷ numbers) (z ∷ elements) (suc n) few words =
    let later = words_taken numbers elements n (omega (arith, few)) (λ i y at. words (suc i) y at) in
    let here = words 0 z refl in
    let word : w ≡ cast_unsigned w32 z = let e = here.1 in cc in
    record { fit = (here.0, later.fit); same = λ i. word i ∷ later.same i }

module _ (numbers : List ℕ) (array : ArraySlots) (elements : List ℤ) (words : (i : ℕ) (z : ℤ) → slice_get elements i ≡ Some z → FitsSigned w32 z × (slice_get numbers (array.start + i) ≡ Some (cast_unsigned w32 z))) where
  pub words_brought : (n : ℕ) → n ≤ length elements → AreWordsOf (take n (drop array.start numbers)) (take n elements)
  words_brought n few = words_taken (drop array.start numbers) elements n few (λ i z at. ((words i z at).0, get_drop numbers array.start i (array.start + i) refl ∙ (words i z at).1))

  -- which are there
  pub slots_there : (i : ℕ) → i < length elements → array.start + i < length numbers
  slots_there i below =
      let at = slice_get-get_or elements i (ℤ.pos 0) below in
      slice_get_within numbers (array.start + i) _ (words i _ at).1

-- ---- an object of numbers

module _ (space : Space) where
  drop_agree : (n : ℕ) (ws : List Value) (us : List ObjectValue) → ValuesAgree space ws us → ValuesAgree space (drop n ws) (drop n us)
  drop_agree zero ws us h = h
  drop_agree (suc n) [] [] h = tt
  drop_agree (suc n) [] (u ∷ us) h = absurd h
  drop_agree (suc n) (w ∷ ws) [] h = absurd h
  drop_agree (suc n) (w ∷ ws) (u ∷ us) h = drop_agree n ws us h.1

  one_word : (w : Value) (u : ObjectValue) → ValueAgrees space w u → FitsSigned w32 (number_in u) × (word_in_cell w ≡ cast_unsigned w32 (number_in u))
  one_word (Word n) (Number z) h = h
  one_word (Word n) (Refers r) h = absurd h
  one_word Null (Number z) h = absurd h
  one_word Null (Refers r) h = (record { sfits = omega arith }, refl)
  one_word (Address a) (Number z) h = absurd h
  one_word (Address a) (Refers r) h = (record { sfits = omega arith }, refl)

  words_read : (n : ℕ) (ws : List Value) (us : List ObjectValue) → ValuesAgree space ws us → AreWordsOf (map word_in_cell (take n ws)) (map number_in (take n us))
  words_read zero ws us h = record { fit = tt; same = refl }
  words_read (suc n) [] [] h = record { fit = tt; same = refl }
  words_read (suc n) [] (u ∷ us) h = absurd h
  words_read (suc n) (w ∷ ws) [] h = absurd h
  words_read (suc n) (w ∷ ws) (u ∷ us) h =
      let later = words_read n ws us h.1 in
      let here = one_word w u h.0 in
      record { fit = (here.0, later.fit); same = λ i. here.1 i ∷ later.same i }

  -- the words of an object
  pub all_words : (ws : List Value) (us : List ObjectValue) → ValuesAgree space ws us → AreWordsOf (map word_in_cell ws) (map number_in us)
  all_words [] [] h = record { fit = tt; same = refl }
  all_words [] (u ∷ us) h = absurd h
  all_words (w ∷ ws) [] h = absurd h
  all_words (w ∷ ws) (u ∷ us) h =
      let later = all_words ws us h.1 in
      let here = one_word w u h.0 in
      record { fit = (here.0, later.fit); same = λ i. here.1 i ∷ later.same i }

  -- the words of a part of an object
  pub words_there : (start n : ℕ) (ws : List Value) (us : List ObjectValue) → ValuesAgree space ws us → AreWordsOf (map word_in_cell (take n (drop start ws))) (take n (drop start (map number_in us)))
  words_there start n ws us h =
      subst (λ (zs : List ℤ). AreWordsOf (map word_in_cell (take n (drop start ws))) zs) (sym (ap (take n) (drop-map number_in start us) ∙ take-map number_in n (drop start us)))
      (words_read n (drop start ws) (drop start us) (drop_agree start ws us h))

-- values that fit places of numbers are numbers
all_numbers : (classes : Classes) (heap : Heap) (t : ElementType) (us : List ObjectValue) → ((i : ℕ) (v : ObjectValue) → slice_get us i ≡ Some v → ValueFits classes heap (NumberField t) v) → us ≡ map Number (map number_in us)
all_numbers classes heap t [] fit = refl
all_numbers classes heap t (Number z ∷ us) fit = ap (λ (l : List ObjectValue). Number z ∷ l) (all_numbers classes heap t us (λ i v at. fit (suc i) v at))
all_numbers classes heap t (Refers r ∷ us) fit = absurd (fit 0 (Refers r) refl)

pub numbers_alone : (classes : Classes) (heap : Heap) → AreTypedObjects classes heap → (n : ℕ) (t : ElementType) → HasNumbers classes heap t n → values_of heap n ≡ map Number (numbers_of heap n)
numbers_alone classes heap typed n t (o, at, is) =
    subst (λ (us : List ObjectValue). us ≡ map Number (map number_in us)) (sym (values_there heap n o at))
    (all_numbers classes heap t o.values (λ i v e. let h : PlaceFits classes heap (type_at classes n o.class i) v = (typed.objects n o at).values i v e in rw is at h))

pub array_numbers : (classes : Classes) → IsGrown classes → (t : ElementType) → element_type_of classes (number_array t) ≡ Some (NumberField t)
array_numbers classes grown t = ap (elements_by_kind (number_array t)) (kind_numbers classes grown t)
