-- A reference fits a class or a field by the heap as by what is seen of it.
use Rattle.std.proofs.Common.{refl}
use Rattle.std.specs.Prelude.{◌≡◌, ℕ, List, Some, None, slice_get}
use Rattle.class_rules.specs.Class.{Classes, FieldType, NumberField, ReferenceField}
use Rattle.semantics.specs.AnswerTable.{fits}
use Rattle.semantics.specs.Arguments.{Actual, reference_given}
use Rattle.semantics.specs.CallSight.{argument_seen}
use Rattle.semantics.specs.Checks.{fits_field}
use Rattle.semantics.specs.Heap.{fits_class, fits_type}
use Rattle.semantics.specs.Object.{Reference}
use Rattle.semantics.specs.Thread.{Shared, Thread}

-- NULL and an object fit a class alike
pub fits_alike : (classes : Classes) (s : Shared) (t : Thread) (args : List Actual) (i c : ℕ) (r : Reference) → reference_given args i ≡ r
    → fits_class classes s.heap (reference_given args i) c ≡ fits classes (argument_seen s.heap (slice_get args i)) c
fits_alike classes s t args i c None is = cc
fits_alike classes s t args i c (Some n) is = cc

-- and a field
pub fits_field_alike : (classes : Classes) (s : Shared) (t : Thread) (args : List Actual) (i : ℕ) (type : FieldType)
    → fits_type classes s.heap (reference_given args i) type ≡ fits_field classes (argument_seen s.heap (slice_get args i)) type
fits_field_alike classes s t args i (NumberField T) = refl
fits_field_alike classes s t args i (ReferenceField c) = fits_alike classes s t args i c (reference_given args i) refl
