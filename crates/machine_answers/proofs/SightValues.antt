-- The values of an object as they are seen: each by itself, and as many; what is read of one and what is written.
use Rattle.std.proofs.Common.{◌≡◌, ℕ, Bool, true, false, List, [], length, Option, Some, None, refl, sym, ap, ◌∙◌, arith}
use Rattle.std.specs.Prelude.{◌&&◌, if◌then◌else◌, is_some, map, nat_lt, slice_get}
use Rattle.std.specs.Int.{w32, cast_signed}
use Rattle.std.specs.Option.{option_map, option_map_or}
use Rattle.std.proofs.lemmas.Bool.{ltb-true}
use Rattle.std.proofs.lemmas.List.{length-map}
use Rattle.std.proofs.lemmas.Option.{slice_get-map}
use Rattle.code.specs.Call.{Call}
use Rattle.heap.specs.Heap.{Block, Space, block_at, values_at}
use Rattle.heap.specs.declared.value.Value.{Value}
use Rattle.heap.specs.declared.value.Value.TheVariants as cell
use Rattle.jni.specs.declared.kinds.ResultKind.TheVariants.{GivesNothing}
use Rattle.semantics.specs.Answer as source
use Rattle.semantics.specs.AnswerTable.{value_in}
use Rattle.semantics.specs.Arguments.{name_or_zero}
use Rattle.semantics.specs.Heap.{number_in, reference_in, value_or_zero}
use Rattle.machine_scenes.specs.Scenes.{Scene}
use Rattle.machine_answers.specs.AnswersSeen.{CellsAreThere, answer_seen, answer_there, reference_there, value_there as cell_there}
use Rattle.machine_answers.specs.declared.answer.Answer.TheVariants.{Gives, Writes}
use Rattle.machine_answers.specs.declared.answer.Given.TheVariants.{Nothing}
use Rattle.machine_answers.specs.Sights.{name_seen, object_seen, value_seen, values_seen}
use Rattle.machine_answers.specs.WorkedOut.{address_in, value_there, word_in, writes_there}

pub value_at : (space : Space) (vs : List Value) (i : ℕ) → slice_get (map (value_seen space) vs) i ≡ option_map (value_seen space) (slice_get vs i)
value_at space vs i = slice_get-map (value_seen space) vs i

pub count_of : (space : Space) (vs : List Value) → length (map (value_seen space) vs) ≡ length vs
count_of space vs = length-map vs (value_seen space)

-- ---- what is read

module _ (space : Space) where
  -- a value of an object
  held : (r : Option ℕ) (i : ℕ) → value_or_zero (option_map (value_seen space) (value_there space r i)) ≡ value_in (object_seen space r) i
  held None i = refl
  held (Some a) i = ap value_or_zero (sym (value_at space (values_at space a) i))

  one_number : (o : Option Value) → cast_signed w32 (word_in o) ≡ number_in (value_or_zero (option_map (value_seen space) o))
  one_number None = refl
  one_number (Some (cell.Number word)) = refl
  one_number (Some cell.Null) = refl
  one_number (Some (cell.Block a)) = refl

  one_reference : (o : Option Value) → name_seen space (address_in o) ≡ reference_in (value_or_zero (option_map (value_seen space) o))
  one_reference None = refl
  one_reference (Some (cell.Number word)) = refl
  one_reference (Some cell.Null) = refl
  one_reference (Some (cell.Block a)) = refl

  -- its number, and its reference
  pub number_held : (r : Option ℕ) (i : ℕ) → cast_signed w32 (word_in (value_there space r i)) ≡ number_in (value_in (object_seen space r) i)
  number_held r i = one_number (value_there space r i) ∙ ap number_in (held r i)

  pub reference_held : (r : Option ℕ) (i : ℕ) → name_seen space (address_in (value_there space r i)) ≡ reference_in (value_in (object_seen space r) i)
  reference_held r i = one_reference (value_there space r i) ∙ ap reference_in (held r i)

  -- which is there
  pub address_held : CellsAreThere space → (r : Option ℕ) (i : ℕ)
      → reference_there space (address_in (value_there space r i)) ≡ true
  address_held there None i = refl
  address_held there (Some a) i = by_value (slice_get (values_at space a) i) (there a i)
    where
      by_value : (o : Option Value) → ((b : ℕ) → o ≡ Some (cell.Block b) → is_some (block_at space b) ≡ true) → reference_there space (address_in o) ≡ true
      by_value None there = refl
      by_value (Some (cell.Number word)) there = refl
      by_value (Some cell.Null) there = refl
      by_value (Some (cell.Block b)) there = there b refl

-- ---- what is written

module _ (scene : Scene) (call : Call) where
  -- a value of an object, where the object has it
  pub written_seen : (r : Option ℕ) (i : ℕ) (v : Value) → nat_lt i (length (values_seen scene.space r)) ≡ true
      → answer_seen scene call GivesNothing (writes_there scene.space r i v) ≡ source.Writes (name_or_zero (name_seen scene.space r)) i (value_seen scene.space v)
  written_seen None i v inside = absurd (let low = ltb-true i 0 inside in omega (arith, low))
  written_seen (Some a) i v inside =
      let within : nat_lt i (length (values_at scene.space a)) ≡ true = ap (nat_lt i) (sym (count_of scene.space (values_at scene.space a))) ∙ inside in
      rw within refl

  pub written_there : (r : Option ℕ) (i : ℕ) (v : Value) → cell_there scene.space v ≡ true → answer_there scene call GivesNothing (writes_there scene.space r i v) ≡ true
  written_there None i v there = refl
  written_there (Some a) i v there = by_test (nat_lt i (length (values_at scene.space a))) refl
    where
      -- a block that has a value is there
      some_block : (o : Option Block) → nat_lt i (length (option_map_or (λ (b : Block). b.values) o [])) ≡ true → is_some o ≡ true
      some_block None inside = absurd (let low = ltb-true i 0 inside in omega (arith, low))
      some_block (Some b) inside = refl

      by_test : (b : Bool) → nat_lt i (length (values_at scene.space a)) ≡ b → answer_there scene call GivesNothing (if b then Writes a i v else Gives Nothing) ≡ true
      by_test true e = let block = some_block (block_at scene.space a) e in (λ j. block j && e j && there j)
      by_test false e = refl
