-- What stands in memory for a region that is copied: its numbers are those of the object or of the local array.
use Rattle.std.proofs.Common.{◌≡◌, ℕ, ℤ, ◌+◌, ◌<◌, ◌≤◌, false, true, List, [], ◌∷◌, drop, length, map, slice_get, take, Option, Some, refl, sym, ap, ◌∙◌, subst, arith}
use Rattle.std.specs.Prelude.{◌==◌, ◌&&◌, is_some, nat_le}
use Rattle.std.specs.Option.{option_map_or}
use Rattle.std.proofs.lemmas.Bool.{and_parts, eqb-true, leb-true}
use Rattle.base.specs.declared.element.ElementType.{ElementType}
use Rattle.base.specs.declared.element.ElementType.TheVariants.{Char as JChar}
use Rattle.class_rules.specs.BuiltIns.{number_array, string_class}
use Rattle.class_rules.specs.Class.{NumberField}
use Rattle.class_queries.specs.Kinds.{class_misfits}
use Rattle.code.specs.declared.instr.LocalArray.{LocalArray}
use Rattle.heap.specs.Heap.{Space, block_at, name_at, values_at}
use Rattle.jni.specs.declared.function.JniFunction.{JniFunction}
use Rattle.jni.specs.JniFunction.{parameters_for}
use Rattle.jni.specs.declared.kinds.ParameterKind.{ParameterKind}
use Rattle.jni.specs.declared.kinds.ParameterKind.TheVariants.{ArrayVariable, NumberArray, StringObject}
use Rattle.jni.specs.declared.kinds.ResultKind.TheVariants.{GivesNothing}
use Rattle.semantics.specs.Answer as source
use Rattle.semantics.specs.Arguments.{name_or_zero}
use Rattle.semantics.specs.CallEffects.{local_array}
use Rattle.semantics.specs.Heap.{numbers_of, values_of}
use Rattle.semantics.specs.Object.{Number, Object}
use Rattle.semantics.proofs.AnswerFacts.{OfArray, OfString, Takes, TakesNumbers}
use Rattle.semantics_typing.specs.Objects.{element_type_of, elements_by_kind}
use Rattle.semantics_typing.proofs.TableKinds.{kind_string}
use Rattle.code_meaning.specs.Fits.{IsReferenceKind}
use Rattle.machine_scenes.specs.declared.array_region.ArrayRegion.{ArrayRegion}
use Rattle.machine_scenes.specs.Given.{class_there, operand_of}
use Rattle.machine_answers.specs.declared.answer.Answer.TheVariants as replies
use Rattle.machine_answers.specs.Answers.{AreWordsOf}
use Rattle.machine_answers.specs.Answers as row
use Rattle.machine_answers.specs.AnswersSeen.{named, region_seen, region_there}
use Rattle.machine_answers.specs.Checked.{may_be_null, some_misfit}
use Rattle.machine_answers.specs.Copies.{words_from}
use Rattle.machine_answers.specs.Sights.{array_in, name_seen}
use Rattle.machine_answers.proofs.CallOperands.{of_kind, same_number}
use Rattle.machine_answers.proofs.CallTraps.{none_unfit}
use Rattle.machine_answers.proofs.FieldValues.{values_there}
use Rattle.machine_answers.proofs.KindAnswers.{Stands, first_name}
use Rattle.machine_answers.proofs.RegionOperands.{GivenArray, array_numbers, numbers_alone, slots_there, words_brought, words_there, local_array as given_array}
use Rattle.machine_answers.proofs.SightParts.{object_there_is}
use Rattle.machine_answers.specs.Answered.{TwoCalls, Passes, Asked, unit}
use Rattle.machine_answers.proofs.TwoCalls.{all, at, fields, object_given_at, object_of, references}

-- where a region lies
record LiesIn (space : Space) (array : LocalArray) (r : ArrayRegion) : Type 0 where
  within : r.start + r.count ≤ length (values_at space r.object)
  slot : r.slot ≡ array.start
  few : r.count ≤ array.len

lies_in : (space : Space) (array : LocalArray) (r : ArrayRegion) → region_there space array r ≡ true → LiesIn space array r
lies_in space array r there =
    let object = is_some (block_at space r.object) in
    let within = nat_le (r.start + r.count) (length (values_at space r.object)) in
    let slot = r.slot == array.start in
    let few = nat_le r.count array.len in
    let all = and_parts (object && within && slot) few there in
    let slots = and_parts (object && within) slot all.0 in
    let part = and_parts object within slots.0 in
    record {
      within = leb-true (r.start + r.count) (length (values_at space r.object)) part.1;
      slot = eqb-true r.slot array.start slots.1;
      few = leb-true r.count array.len all.1;
    }

module _ (both : TwoCalls) (f : JniFunction) (h : Asked both f) where
  open both use {p, w, store, pending, activation, call, others, k, owner, shared, s, target, sound, args}

  -- the local array of the fourth argument
  abbrev Fourth : Type 0
  Fourth = GivenArray activation.slots.numbers.items s.variables call.operands args

  array_given : {T : ElementType} → Takes f 3 (ArrayVariable T) → Fourth
  array_given takes = given_array activation.slots.numbers.items s.variables h.given h.arrays (takes (length args))

  module _ (r : ArrayRegion) (there : name_at store.heap r.object ≡ Some (named store.heap r.object)) (lies : region_there store.heap (array_in (operand_of call.operands 3)) r ≡ true) where
    lies_here : (g : Fourth) → LiesIn store.heap g.array r
    lies_here g = lies_in store.heap g.array r (subst (λ (array : LocalArray). region_there store.heap array r ≡ true) (ap array_in g.at) lies)

    slots_within : (g : Fourth) (i : ℕ) → i < r.count → r.slot + i < length activation.slots.numbers.items
    slots_within g i below =
        let it = lies_here g in
        let within = slots_there activation.slots.numbers.items g.array g.has.elements g.has.words i (omega (arith, below, it.few, g.has.count)) in omega (arith, within, it.slot)

    -- numbers of the object are read
    pub copied_out : {T : ElementType} → Takes f 3 (ArrayVariable T) → Stands both (replies.CopiesOut r) GivesNothing (source.GetsRegion (region_seen store.heap r))
    copied_out takes =
        let g = array_given takes in
        let it = lies_here g in
        row.copies_out (record {
          name = named store.heap r.object;
          there = there;
          array = g.array;
          given = g.at;
          slot = it.slot;
          few = it.few;
          slots = slots_within g;
          within = it.within;
          words = words_there store.heap r.start r.count (values_at store.heap r.object) (values_of shared.heap (named store.heap r.object)) (values_there p w store shared (all both) h.store_agrees r.object (named store.heap r.object) there);
        })

    -- numbers of the local array are written, where the object holds nothing else
    pub copied_in : {T : ElementType} → Takes f 3 (ArrayVariable T) → values_of shared.heap (named store.heap r.object) ≡ map Number (numbers_of shared.heap (named store.heap r.object))
        → Stands both (replies.CopiesIn r) GivesNothing (source.SetsRegion (region_seen store.heap r))
    copied_in takes alone =
        let g = array_given takes in
        let it = lies_here g in
        let numbers = activation.slots.numbers.items in
        row.copies_in (record {
          name = named store.heap r.object;
          there = there;
          slots = slots_within g;
          within = it.within;
          all_numbers = alone;
          words = subst (λ (zs : List ℤ). AreWordsOf (words_from numbers r) (take r.count zs)) (sym (ap local_array g.has.is))
              (subst (λ (i : ℕ). AreWordsOf (take r.count (drop i numbers)) (take r.count g.has.elements)) (sym it.slot)
              (words_brought numbers g.array g.has.elements g.has.words r.count (omega (arith, it.few, g.has.count))));
        })

  -- an object holds nothing but numbers, where its class says so
  module _ (free : Passes both) where
    abbrev first : ℕ
    first = name_or_zero (name_seen store.heap (at both 0))

    of_class : (q : ParameterKind) (c : ℕ) (T : ElementType) → IsReferenceKind q → may_be_null q ≡ false → ((class : ℕ) → class_misfits w.classes q class ≡ false → class ≡ c) → element_type_of w.classes c ≡ Some (NumberField T) → Takes f 0 q
        → values_of shared.heap first ≡ map Number (numbers_of shared.heap first)
    of_class q c T kind never fits numbers takes = by_parameters (parameters_for f (length args)) refl (takes (length args))
      where
        by_parameters : (ps : List ParameterKind) → parameters_for f (length args) ≡ ps → slice_get ps 0 ≡ Some q → values_of shared.heap first ≡ map Number (numbers_of shared.heap first)
        by_parameters [] are is = absurd (cc)
        by_parameters (r ∷ ps) are is =
            let same : r ≡ q = cc in
            let given : parameters_for f (length args) ≡ q ∷ ps = are ∙ ap (λ (x : ParameterKind). x ∷ ps) same in
            let g = object_given_at both f [] q ps kind never given h free in
            let there : name_at store.heap g.address ≡ Some first = first_name both g in
            let object = object_of both f h g.address first there in
            let class : class_there store.heap g.address ≡ c =
            fits (class_there store.heap g.address)
            (of_kind (unit both) w.classes store.heap (references both) (fields both) [] q ps call.operands g.address g.at
            (subst (λ (l : List ParameterKind). some_misfit w.classes store.heap (references both) l call.operands ≡ false) given (none_unfit p w store pending activation call others k owner shared s target f args h free))) in
            let named : object.0.class ≡ c =
            sym (ap (λ (o : Option Object). option_map_or (λ (x : Object). x.class) o 0) object.1)
            ∙ sym (ap (λ (x : Object). x.class) (object_there_is store.heap shared.heap h.store_agrees.heap g.address first there)) ∙ class in
            numbers_alone w.classes shared.heap h.typed first T (object.0, object.1, ap (element_type_of w.classes) named ∙ numbers)

    -- as that of the first argument, an array of numbers or a string
    pub numbers_are : {T : ElementType} → TakesNumbers f T → values_of shared.heap first ≡ map Number (numbers_of shared.heap first)
    numbers_are (OfArray T takes) = of_class (NumberArray T) (number_array T) T tt refl (λ class fits. same_number class (number_array T) fits) (array_numbers w.classes sound.grown T) takes
    numbers_are (OfString takes) =
        of_class StringObject string_class JChar tt refl (λ class fits. same_number class string_class fits) (ap (elements_by_kind string_class) (kind_string w.classes sound.grown)) takes
