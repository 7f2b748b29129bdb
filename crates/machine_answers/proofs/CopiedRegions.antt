-- A store in which numbers were copied into an object stands for the source's heap in which they were.
use Rattle.std.proofs.Common.{◌≡◌, ℕ, zero, suc, ℤ, ◌+◌, ◌≤◌, Bool, true, false, cond, eqb, List, [], ◌∷◌, length, map, take, drop, Option, Some, None, refl, sym, ap, ◌∙◌, subst, arith}
use Rattle.std.specs.Prelude.{slice_get, slice_set, FitsSigned}
use Rattle.std.specs.Int.{w32, cast_unsigned}
use Rattle.std.specs.List.{AllByRecursion}
use Rattle.std.specs.Option.{option_map, option_map_or}
use Rattle.std.proofs.lemmas.List.{length-map, length-take, take-map}
use Rattle.std.proofs.lemmas.Option.{slice_get-map}
use Rattle.heap.specs.Heap.{Block, Space, block_at, values_at, with_changed, with_value}
use Rattle.heap.specs.declared.value.Value.{Value}
use Rattle.heap.specs.declared.value.Value.TheVariants as value
use Rattle.heap.proofs.Changes.{changed}
use Rattle.heap.proofs.Spaces.{part-changed}
use Rattle.base.specs.Bytes.{lookup}
use Rattle.semantics.specs.Arguments.{variable_given}
use Rattle.semantics.specs.CallEffects.{local_array, overwritten}
use Rattle.semantics.specs.Heap.{numbers_of, values_of, number_in, object_at, with_numbers}
use Rattle.semantics.specs.Object.{Object, ObjectValue, Number}
use Rattle.semantics.specs.Thread.{Shared, Thread}
use Rattle.semantics.specs.World.{World}
use Rattle.code_meaning.specs.Lowered.{Lowered}
use Rattle.machine_scenes.specs.declared.array_region.ArrayRegion.{ArrayRegion}
use Rattle.machine_scenes.specs.declared.store.Store.{Store}
use Rattle.machine_answers.specs.Answers.{Brought, IsCopiedIn}
use Rattle.machine_scenes.specs.Buffers.{Acquired}
use Rattle.machine_answers.specs.Copies.{overlaid, overlay, space_with, words_from}
use Rattle.machine_scenes.specs.HeapAgrees.{ValuesAgree}
use Rattle.machine_scenes.specs.StoreAgrees.{Keeps, StoreAgrees}
use Rattle.machine_scenes.proofs.BlocksOfNames.{Named, named}
use Rattle.machine_scenes.proofs.Loaded.{agree_length}
use Rattle.machine_answers.proofs.Overlays.{length_overlaid, map_overlaid, overlaid_is, overlaid_more, overlaid_nothing}
use Rattle.machine_answers.proofs.Writes.{values_agree, values_keep}

-- ---- blocks

-- two changes, one after the other
changed_twice : (a : ℕ) (first second both : Block → Block) → ((b : Block) → (first b).address ≡ b.address) → ((b : Block) → second (first b) ≡ both b) → (bs : List Block) → map (changed a second) (map (changed a first) bs) ≡ map (changed a both) bs
changed_twice a first second both place is [] = refl
changed_twice a first second both place is (b ∷ bs) = (λ i. one i ∷ changed_twice a first second both place is bs i)
  where
    one : changed a second (changed a first b) ≡ changed a both b
    one = by_test (eqb b.address a) refl
      where
        by_test : (t : Bool) → eqb b.address a ≡ t → changed a second (cond t (first b) b) ≡ cond t (both b) b
        by_test true e = ap (λ (n : ℕ). cond (eqb n a) (second (first b)) (first b)) (place b) ∙ ap (λ (t : Bool). cond t (second (first b)) (first b)) e ∙ is b
        by_test false e = ap (λ (t : Bool). cond t (second b) b) e

-- one that changes nothing
changed_nothing : (a : ℕ) (change : Block → Block) → ((b : Block) → change b ≡ b) → (bs : List Block) → map (changed a change) bs ≡ bs
changed_nothing a change same [] = refl
changed_nothing a change same (b ∷ bs) = (λ i. one (eqb b.address a) i ∷ changed_nothing a change same bs i)
  where
    one : (t : Bool) → cond t (change b) b ≡ b
    one true = same b
    one false = refl

-- ---- one word after another

pub none_overlaid : (s : Space) (a start : ℕ) → with_changed s a (overlay start []) ≡ s
none_overlaid s a start = ap (λ (bs : List Block). let t : Space = record s { blocks = bs } in t) (changed_nothing a (overlay start []) (λ b. ap (λ (vs : List Value). let c : Block = record b { values = vs } in c) (overlaid_nothing b.values start)) s.blocks)

pub one_overlaid : (s : Space) (a start : ℕ) (words : List ℕ) (k word : ℕ) → slice_get words k ≡ Some word
    → with_value (with_changed s a (overlay start (take k words))) a (start + k) (value.Number word) ≡ with_changed s a (overlay start (take (suc k) words))
one_overlaid s a start words k word at =
    ap (λ (bs : List Block). let t : Space = record s { blocks = bs } in t)
    (changed_twice a (overlay start (take k words)) (λ b. record b { values = slice_set b.values (start + k) (value.Number word) }) (overlay start (take (suc k) words)) (λ b. refl) more s.blocks)
  where
    more : (b : Block) → record b { values = slice_set (overlaid b.values start (map value.Number (take k words))) (start + k) (value.Number word) } ≡ overlay start (take (suc k) words) b
    more b =
        ap (λ (vs : List Value). let c : Block = record b { values = vs } in c)
        (ap (λ (new : List Value). slice_set (overlaid b.values start new) (start + k) (value.Number word)) (sym (take-map value.Number k words))
        ∙ overlaid_more b.values start (map value.Number words) k (start + k) (value.Number word) refl (slice_get-map value.Number words k ∙ ap (option_map value.Number) at)
        ∙ ap (overlaid b.values start) (take-map value.Number (suc k) words))

-- as many values as before
pub overlaid_count : (s : Space) (a start : ℕ) (words : List ℕ) → length (values_at (with_changed s a (overlay start words)) a) ≡ length (values_at s a)
overlaid_count s a start words = by_part (block_at (with_changed s a (overlay start words)) a) (block_at s a)
    (part-changed (λ (b : Block). length b.values) s a (overlay start words) a (record { address = λ b. refl; count = λ b. length_overlaid b.values start (map value.Number words) }) (λ b. length_overlaid b.values start (map value.Number words)))
  where
    by_part : (o p : Option Block) → option_map (λ (b : Block). length b.values) o ≡ option_map (λ (b : Block). length b.values) p → length (option_map_or (λ (b : Block). b.values) o []) ≡ length (option_map_or (λ (b : Block). b.values) p [])
    by_part None None e = refl
    by_part None (Some b) e = absurd (cc)
    by_part (Some b) None e = absurd (cc)
    by_part (Some b) (Some c) e = cc

-- ---- values

-- words are the numbers' cells
pub words_agree : (space : Space) (zs : List ℤ) → AllByRecursion (FitsSigned w32) zs → ValuesAgree space (map value.Number (map (cast_unsigned w32) zs)) (map Number zs)
words_agree space [] fit = tt
words_agree space (z ∷ zs) fit = ((fit.0, refl), words_agree space zs fit.1)

overlaid_agree : (space : Space) (ws : List Value) (us : List ObjectValue) (i : ℕ) (new : List Value) (news : List ObjectValue) → ValuesAgree space ws us → ValuesAgree space new news → ValuesAgree space (overlaid ws i new) (overlaid us i news)
overlaid_agree space ws us zero [] [] h g = h
overlaid_agree space ws us zero [] (n ∷ news) h g = absurd g
overlaid_agree space ws us zero (m ∷ new) [] h g = absurd g
overlaid_agree space [] [] zero (m ∷ new) (n ∷ news) h g = tt
overlaid_agree space [] (u ∷ us) zero (m ∷ new) (n ∷ news) h g = absurd h
overlaid_agree space (w ∷ ws) [] zero (m ∷ new) (n ∷ news) h g = absurd h
overlaid_agree space (w ∷ ws) (u ∷ us) zero (m ∷ new) (n ∷ news) h g = (g.0, overlaid_agree space ws us zero new news h.1 g.1)
overlaid_agree space [] [] (suc i) new news h g = tt
overlaid_agree space [] (u ∷ us) (suc i) new news h g = absurd h
overlaid_agree space (w ∷ ws) [] (suc i) new news h g = absurd h
overlaid_agree space (w ∷ ws) (u ∷ us) (suc i) new news h g = (h.0, overlaid_agree space ws us i new news h.1 g)

-- ---- the store

module _ (p : Lowered) (w : World) (store : Store) (shared : Shared) (t : Thread) (brought : Brought) (region : ArrayRegion) (all : Acquired) (h : StoreAgrees p w store shared all) (it : IsCopiedIn brought store.heap shared t region) where
  abbrev words : List ℕ
  words = words_from brought.numbers region

  abbrev numbers : List ℤ
  numbers = take region.count (local_array (lookup (variable_given brought.args 3) t.variables))

  abbrev before : List ℤ
  before = numbers_of shared.heap it.name

  abbrev after : List ℤ
  after = overwritten before region.start numbers

  -- as many numbers as words, and no more than are asked for
  few : length numbers ≤ region.count
  few =
      let many : length words ≡ length numbers = ap length it.words.same ∙ length-map numbers (cast_unsigned w32) in
      omega (arith, many, length-take region.count (drop region.slot brought.numbers))

  -- the object has as many values in memory
  count : length (values_at store.heap region.object) ≡ length before
  count =
      let block : Named store.heap shared.heap region.object it.name = named store.heap shared.heap region.object it.name h.heap it.there in
      let is : object_at shared.heap it.name ≡ Some block.agrees.object = ap (object_at shared.heap) (sym block.birth) ∙ block.agrees.is in
      ap (λ (o : Option Block). length (option_map_or (λ (b : Block). b.values) o [])) block.at
      ∙ agree_length store.heap block.block.values block.agrees.object.values block.agrees.values
      ∙ sym (ap (λ (o : Option Object). length (option_map_or (λ (x : Object). x.values) o [])) is)
      ∙ sym (length-map (values_of shared.heap it.name) number_in)

  after_is : after ≡ overlaid before region.start numbers
  after_is = sym (overlaid_is before region.start numbers (region.start + length numbers) refl (omega (arith, few, count, it.within)))

  many : length (map Number after) ≡ length (values_of shared.heap it.name)
  many =
      length-map after Number
      ∙ ap length after_is
      ∙ length_overlaid before region.start numbers
      ∙ length-map (values_of shared.heap it.name) number_in

  keeps : (ws : List Value) → length (overlaid ws region.start (map value.Number words)) ≡ length ws
  keeps ws = length_overlaid ws region.start (map value.Number words)

  agrees : (ws : List Value) → ValuesAgree store.heap ws (values_of shared.heap it.name) → ValuesAgree store.heap (overlaid ws region.start (map value.Number words)) (map Number after)
  agrees ws agree =
      subst (λ (us : List ObjectValue). ValuesAgree store.heap (overlaid ws region.start (map value.Number words)) us)
      (sym (ap (λ (zs : List ℤ). map Number zs) after_is ∙ map_overlaid Number before region.start numbers))
      (overlaid_agree store.heap ws (map Number before) region.start (map value.Number words) (map Number numbers) (subst (λ (us : List ObjectValue). ValuesAgree store.heap ws us) it.all_numbers agree)
      (subst (λ (l : List ℕ). ValuesAgree store.heap (map value.Number l) (map Number numbers)) (sym it.words.same) (words_agree store.heap numbers it.words.fit)))

  pub copied_agrees : StoreAgrees p w (record store { heap = space_with store.heap region brought.numbers }) (record shared { heap = with_numbers shared.heap it.name after }) all
  copied_agrees = values_agree p w store shared region.object (λ ws. overlaid ws region.start (map value.Number words)) it.name (map Number after) all h it.there keeps many agrees

  pub copied_keeps : Keeps store.heap shared (space_with store.heap region brought.numbers) (record shared { heap = with_numbers shared.heap it.name after })
  copied_keeps = values_keep p w store shared region.object (λ ws. overlaid ws region.start (map value.Number words)) it.name (map Number after) all h it.there keeps many
