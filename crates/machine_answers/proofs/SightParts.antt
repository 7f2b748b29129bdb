-- What is seen in memory of references, values and objects is what they are in the source.
use Rattle.std.proofs.Common.{◌≡◌, ℕ, zero, suc, List, [], ◌∷◌, ◌++◌, Option, Some, None, refl, sym, ap, ◌∙◌}
use Rattle.std.specs.Prelude.{map, slice_get, unwrap_or}
use Rattle.std.specs.Int.{w32, cast_signed}
use Rattle.std.specs.Option.{option_map, option_map_or}
use Rattle.std.proofs.Math.Facts.{to_z-of_z}
use Rattle.heap.specs.Heap.{Block, Space, name_at}
use Rattle.heap.specs.declared.value.Value.{Value}
use Rattle.heap.specs.declared.value.Value.TheVariants.{Number as Word, Null, Block as Address}
use Rattle.jni.specs.declared.kinds.ParameterKind.{ParameterKind}
use Rattle.semantics.specs.Arguments.{name_or_zero}
use Rattle.semantics.specs.CallSight as source
use Rattle.semantics.specs.Heap.{Heap, object_at}
use Rattle.semantics.specs.Object.{Object, ObjectValue, Number, Reference, Refers}
use Rattle.machine_scenes.specs.Given.{name_there}
use Rattle.machine_scenes.specs.HeapAgrees.{HeapAgrees, ReferenceAgrees, ValueAgrees, ValuesAgree}
use Rattle.machine_scenes.proofs.BlocksOfNames.{named}
use Rattle.machine_answers.specs.Sights.{name_seen, object_seen, value_seen}

-- a reference
pub name_seen_is : (space : Space) (o : Option ℕ) (r : Reference) → ReferenceAgrees space o r → name_seen space o ≡ r
name_seen_is space None None h = refl
name_seen_is space None (Some n) h = absurd h
name_seen_is space (Some a) None h = absurd h
name_seen_is space (Some a) (Some n) h = h

-- a value
pub value_seen_is : (space : Space) (v : Value) (u : ObjectValue) → ValueAgrees space v u → value_seen space v ≡ u
value_seen_is space (Word word) (Number z) h = ap Number (ap (cast_signed w32) h.1 ∙ to_z-of_z {w = w32} h.0)
value_seen_is space (Word word) (Refers r) h = absurd h
value_seen_is space Null (Number z) h = absurd h
value_seen_is space Null (Refers r) h = ap Refers (name_seen_is space None r h)
value_seen_is space (Address a) (Number z) h = absurd h
value_seen_is space (Address a) (Refers r) h = ap Refers (name_seen_is space (Some a) r h)

values_seen_are : (space : Space) (vs : List Value) (us : List ObjectValue) → ValuesAgree space vs us → map (value_seen space) vs ≡ us
values_seen_are space [] [] h = refl
values_seen_are space [] (u ∷ us) h = absurd h
values_seen_are space (v ∷ vs) [] h = absurd h
values_seen_are space (v ∷ vs) (u ∷ us) h = ap (λ (w : ObjectValue). w ∷ map (value_seen space) vs) (value_seen_is space v u h.0) ∙ ap (λ (ws : List ObjectValue). u ∷ ws) (values_seen_are space vs us h.1)

-- an object, whose block is at an address
module _ (space : Space) (heap : Heap) (agrees : HeapAgrees space heap) where
  pub object_there_is : (a n : ℕ) → name_at space a ≡ Some n → object_seen space (Some a) ≡ source.object_seen heap n
  object_there_is a n there =
      let b = named space heap a n agrees there in
      let object : object_at heap n ≡ Some b.agrees.object = ap (object_at heap) (sym b.birth) ∙ b.agrees.is in
      ap (λ (o : Option Block). let x : Object = record { class = unwrap_or (option_map (λ (c : Block). c.class) o) 0; values = map (value_seen space) (option_map_or (λ (c : Block). c.values) o []) } in x) b.at
      ∙ ap (λ (c : ℕ). let x : Object = record { class = c; values = map (value_seen space) b.block.values } in x) b.agrees.class
      ∙ ap (λ (vs : List ObjectValue). let x : Object = record { class = b.agrees.object.class; values = vs } in x) (values_seen_are space b.block.values b.agrees.object.values b.agrees.values)
      ∙ sym (ap (λ (o : Option Object). let x : Object = record { class = option_map_or (λ (y : Object). y.class) o 0; values = option_map_or (λ (y : Object). y.values) o [] } in x) object)

  pub object_seen_is : (o : Option ℕ) (r : Reference) → ReferenceAgrees space o r → object_seen space o ≡ source.object_seen heap (name_or_zero r)
  object_seen_is None None h = refl
  object_seen_is None (Some n) h = absurd h
  object_seen_is (Some a) None h = absurd h
  object_seen_is (Some a) (Some n) h = object_there_is a n h

-- the name of an object, and 0 for NULL
pub name_is : (space : Space) (o : Option ℕ) → name_there space o ≡ name_or_zero (name_seen space o)
name_is space None = refl
name_is space (Some a) = by_name (name_at space a)
  where
    by_name : (n : Option ℕ) → unwrap_or n 0 ≡ name_or_zero n
    by_name None = refl
    by_name (Some n) = refl

-- a kind among the first parameters is that of the argument
pub still_kind : (ps more : List ParameterKind) (i : ℕ) (p : ParameterKind) → slice_get ps i ≡ Some p → slice_get (ps ++ more) i ≡ Some p
still_kind [] more i p h = absurd (cc)
still_kind (q ∷ ps) more zero p h = h
still_kind (q ∷ ps) more (suc i) p h = still_kind ps more i p h
