-- The values of an object to be made stand for those of the source's.
use Rattle.std.proofs.Common.{◌+◌, ◌≡◌, ℕ, zero, suc, ◌<◌, List, [], ◌∷◌, length, map, replicate, Some, refl, sym, ap, ◌∙◌, subst, arith, pos}
use Rattle.std.specs.Prelude.{slice_set}
use Rattle.std.proofs.lemmas.List.{length-map, length-replicate, length-set}
use Rattle.class_rules.specs.Class.{Classes, FieldType, NumberField, ReferenceField}
use Rattle.class_rules.specs.declared.class_id.ClassId.{ClassId}
use Rattle.class_rules.specs.Fields.{FieldId, layout}
use Rattle.heap.specs.Heap.{Space}
use Rattle.heap.specs.declared.value.Value.{Value}
use Rattle.semantics.specs.Object.{Object, ObjectValue, Number, Refers}
use Rattle.semantics.specs.World.{fresh_object, initial}
use Rattle.machine_scenes.specs.declared.new_object.New.{New}
use Rattle.machine_scenes.specs.declared.new_object.New.TheVariants.{Fresh, Array, Text, Exception}
use Rattle.machine_scenes.specs.HeapAgrees.{ValueAgrees, ValuesAgree}
use Rattle.machine_scenes.specs.NewObjects.{cells_of_new, initial_values, values_of_exception, AreBytes, IsObject, IsOfBytes, class_of_new, initial_value, text_in, units, values_of_new}

-- zero and NULL
initial_agree : (space : Space) (fields : List FieldId) → ValuesAgree space (map (λ (f : FieldId). initial_value f.field.type) fields) (map (λ (f : FieldId). initial f.field.type) fields)
initial_agree space [] = tt
initial_agree space (f ∷ fields) = (one f.field.type, initial_agree space fields)
  where
    one : (type : FieldType) → ValueAgrees space (initial_value type) (initial type)
    one (NumberField t) = (record { sfits = omega arith }, refl)
    one (ReferenceField c) = tt

-- equal elements
equal_agree : (space : Space) (v : Value) (u : ObjectValue) (n : ℕ) → ValueAgrees space v u → ValuesAgree space (replicate n v) (replicate n u)
equal_agree space v u zero h = tt
equal_agree space v u (suc n) h = (h, equal_agree space v u n h)

-- the units of a string
units_agree : (space : Space) (bytes : List ℕ) → AreBytes bytes → ValuesAgree space (units bytes) (map (λ (b : ℕ). Number (pos b)) bytes)
units_agree space [] h = tt
units_agree space (b ∷ bytes) h = let small : b < 256 = h 0 b refl in ((record { sfits = omega (arith, small) }, refl), units_agree space bytes (λ i c at. h (suc i) c at))

-- the fields of an exception
first_agrees : (space : Space) (ws : List Value) (vs : List ObjectValue) (w : Value) (v : ObjectValue) → ValueAgrees space w v → ValuesAgree space ws vs → ValuesAgree space (slice_set ws 0 w) (slice_set vs 0 v)
first_agrees space [] [] w v one h = tt
first_agrees space [] (y ∷ vs) w v one h = absurd h
first_agrees space (x ∷ ws) [] w v one h = absurd h
first_agrees space (x ∷ ws) (y ∷ vs) w v one h = (one, h.1)

-- each value stands for the source's
pub new_agree : (classes : Classes) (texts : List (List ℕ)) (space : Space) (new : New) (o : Object) → IsObject classes texts space new o → IsOfBytes texts new → ValuesAgree space (values_of_new classes texts new) o.values
new_agree classes texts space (Fresh class) o is bytes = subst (λ (x : Object). ValuesAgree space (values_of_new classes texts (Fresh class)) x.values) (sym is) (initial_agree space (layout classes class.number))
new_agree classes texts space (Array array) o is bytes = subst (λ (x : Object). ValuesAgree space (replicate array.count array.value) x.values) (sym is.2) (equal_agree space array.value is.0 array.count is.1)
new_agree classes texts space (Text place) o is bytes = subst (λ (x : Object). ValuesAgree space (units (text_in texts place)) x.values) (sym is) (units_agree space (text_in texts place) bytes)
new_agree classes texts space (Exception class message) o is bytes =
    subst (λ (x : Object). ValuesAgree space (values_of_exception classes class.number message) x.values) (sym is.2)
    (first_agrees space (initial_values classes class.number) (fresh_object classes class.number).values (Value.Block message) (Refers (Some is.0)) is.1 (initial_agree space (layout classes class.number)))

-- there are as many
pub as_many : (classes : Classes) (texts : List (List ℕ)) (space : Space) (new : New) (o : Object) → IsObject classes texts space new o → length (values_of_new classes texts new) ≡ length o.values
as_many classes texts space (Fresh class) o is =
    length-map (layout classes class.number) (λ (f : FieldId). initial_value f.field.type)
    ∙ sym (length-map (layout classes class.number) (λ (f : FieldId). initial f.field.type))
    ∙ ap (λ (x : Object). length x.values) (sym is)
as_many classes texts space (Array array) o is = length-replicate array.count array.value ∙ sym (length-replicate array.count is.0) ∙ ap (λ (x : Object). length x.values) (sym is.2)
as_many classes texts space (Text place) o is = length-map (text_in texts place) (λ (b : ℕ). Value.Number b) ∙ sym (length-map (text_in texts place) (λ (b : ℕ). Number (pos b))) ∙ ap (λ (x : Object). length x.values) (sym is)
as_many classes texts space (Exception class message) o is =
    length-set (initial_values classes class.number) 0 (Value.Block message)
    ∙ length-map (layout classes class.number) (λ (f : FieldId). initial_value f.field.type)
    ∙ sym (length-map (layout classes class.number) (λ (f : FieldId). initial f.field.type))
    ∙ sym (length-set (fresh_object classes class.number).values 0 (Refers (Some is.0)))
    ∙ ap (λ (x : Object). length x.values) (sym is.2)

-- an exception takes the cells of a fresh one
pub same_cells : (classes : Classes) (texts : List (List ℕ)) (class : ClassId) (message : ℕ) → cells_of_new classes texts (Exception class message) ≡ cells_of_new classes texts (Fresh class)
same_cells classes texts class message = ap (λ (n : ℕ). 3 + n) (length-set (initial_values classes class.number) 0 (Value.Block message))

-- it is of the same class
pub same_class : (classes : Classes) (texts : List (List ℕ)) (space : Space) (new : New) (o : Object) → IsObject classes texts space new o → class_of_new new ≡ o.class
same_class classes texts space (Fresh class) o is = ap (λ (x : Object). x.class) (sym is)
same_class classes texts space (Array array) o is = ap (λ (x : Object). x.class) (sym is.2)
same_class classes texts space (Text place) o is = ap (λ (x : Object). x.class) (sym is)
same_class classes texts space (Exception class message) o is = ap (λ (x : Object). x.class) (sym is.2)
