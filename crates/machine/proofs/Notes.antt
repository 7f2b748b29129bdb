-- The entries of a journal, as a machine notes them, and how many of them are steps, and how many are clearings.
use Rattle.std.proofs.Common.{◌≡◌, ℕ, zero, suc, ◌+◌, ◌<◌, Bool, true, false, List, [], ◌∷◌, ◌++◌, length, Some, refl, ap, arith}
use Rattle.std.specs.Prelude.{slice_get, take}
use Rattle.std.specs.Global.{Vec}
use Rattle.semantics.specs.Journal.{Entry, Step, Clearing, Journal, steps_in, clearings_in}
use Rattle.semantics.specs.Views.{names_of}
use Rattle.semantics.specs.declared.object_id.ObjectId.{ObjectId}
use Rattle.machine_collections.specs.Clearing.{clearing_of}
use Rattle.machine.specs.declared.journal.Note.{Note}
use Rattle.machine.specs.declared.journal.Note.TheVariants as note
use Rattle.machine.specs.Writing.{entries_of, note_of_step}

-- each is one or the other
pub all_counted : (journal : Journal) → steps_in journal + clearings_in journal ≡ length journal
all_counted [] = refl
all_counted (Step k refused ∷ journal) = omega (arith, all_counted journal)
all_counted (Clearing names ∷ journal) = omega (arith, all_counted journal)

-- a step more
pub steps_more : (journal : Journal) (k : ℕ) (refused : Bool) → steps_in (journal ++ Step k refused ∷ []) ≡ steps_in journal + 1
steps_more [] k refused = refl
steps_more (Step j other ∷ journal) k refused = omega (arith, steps_more journal k refused)
steps_more (Clearing names ∷ journal) k refused = steps_more journal k refused

pub no_clearing_more : (journal : Journal) (k : ℕ) (refused : Bool) → clearings_in (journal ++ Step k refused ∷ []) ≡ clearings_in journal
no_clearing_more [] k refused = refl
no_clearing_more (Step j other ∷ journal) k refused = no_clearing_more journal k refused
no_clearing_more (Clearing names ∷ journal) k refused = ap suc (no_clearing_more journal k refused)

-- a clearing more
pub clearing_more : (journal : Journal) (names : List ℕ) → clearings_in (journal ++ Clearing names ∷ []) ≡ clearings_in journal + 1
clearing_more [] names = refl
clearing_more (Step j other ∷ journal) names = clearing_more journal names
clearing_more (Clearing first ∷ journal) names = omega (arith, clearing_more journal names)

-- there is an entry for each note
pub as_many : (notes : List Note) (cleared : List (Vec ObjectId)) → length (entries_of notes cleared) ≡ length notes
as_many [] cleared = refl
as_many (note.Step k ∷ notes) cleared = ap suc (as_many notes cleared)
as_many (note.RefusedStep k ∷ notes) cleared = ap suc (as_many notes cleared)
as_many (note.Clearing ∷ notes) (objects ∷ cleared) = ap suc (as_many notes cleared)
as_many (note.Clearing ∷ notes) [] = ap suc (as_many notes [])

-- the steps are the notes but for those of clearings
pub notes_counted : (notes : List Note) (cleared : List (Vec ObjectId)) → clearings_in (entries_of notes cleared) ≡ length cleared
    → steps_in (entries_of notes cleared) + length cleared ≡ length notes
notes_counted notes cleared all = omega (arith, all_counted (entries_of notes cleared), as_many notes cleared, all)

-- a note of a step more
pub step_noted : (notes : List Note) (cleared : List (Vec ObjectId)) (k : ℕ) (refused : Bool)
    → entries_of (notes ++ note_of_step k refused ∷ []) cleared ≡ entries_of notes cleared ++ Step k refused ∷ []
step_noted [] cleared k true = refl
step_noted [] cleared k false = refl
step_noted (note.Step j ∷ notes) cleared k refused = ap (λ (l : List Entry). Step j false ∷ l) (step_noted notes cleared k refused)
step_noted (note.RefusedStep j ∷ notes) cleared k refused = ap (λ (l : List Entry). Step j true ∷ l) (step_noted notes cleared k refused)
step_noted (note.Clearing ∷ notes) (objects ∷ cleared) k refused = ap (λ (l : List Entry). Clearing (names_of objects.items) ∷ l) (step_noted notes cleared k refused)
step_noted (note.Clearing ∷ notes) [] k refused = ap (λ (l : List Entry). Clearing [] ∷ l) (step_noted notes [] k refused)

-- a note of a clearing more, and its objects
pub clearing_noted : (notes : List Note) (cleared : List (Vec ObjectId)) (objects : Vec ObjectId) → clearings_in (entries_of notes cleared) ≡ length cleared
    → entries_of (notes ++ note.Clearing ∷ []) (cleared ++ objects ∷ []) ≡ entries_of notes cleared ++ Clearing (names_of objects.items) ∷ []
clearing_noted [] [] objects all = refl
clearing_noted [] (first ∷ cleared) objects all = absurd (cc)
clearing_noted (note.Step k ∷ notes) cleared objects all = ap (λ (l : List Entry). Step k false ∷ l) (clearing_noted notes cleared objects all)
clearing_noted (note.RefusedStep k ∷ notes) cleared objects all = ap (λ (l : List Entry). Step k true ∷ l) (clearing_noted notes cleared objects all)
clearing_noted (note.Clearing ∷ notes) (first ∷ cleared) objects all =
    ap (λ (l : List Entry). Clearing (names_of first.items) ∷ l) (clearing_noted notes cleared objects (omega (arith, all)))
clearing_noted (note.Clearing ∷ notes) [] objects all = absurd (omega (arith, all))

-- a note of a step is one
pub step_at : (notes : List Note) (cleared : List (Vec ObjectId)) (i k : ℕ) (refused : Bool) → slice_get notes i ≡ Some (note_of_step k refused) → slice_get (entries_of notes cleared) i ≡ Some (Step k refused)
step_at [] cleared i k refused at = absurd (cc)
step_at (note.Step j ∷ notes) cleared zero k true at = absurd (cc)
step_at (note.Step j ∷ notes) cleared zero k false at = cc
step_at (note.Step j ∷ notes) cleared (suc i) k refused at = step_at notes cleared i k refused at
step_at (note.RefusedStep j ∷ notes) cleared zero k true at = cc
step_at (note.RefusedStep j ∷ notes) cleared zero k false at = absurd (cc)
step_at (note.RefusedStep j ∷ notes) cleared (suc i) k refused at = step_at notes cleared i k refused at
step_at (note.Clearing ∷ notes) cleared zero k true at = absurd (cc)
step_at (note.Clearing ∷ notes) cleared zero k false at = absurd (cc)
step_at (note.Clearing ∷ notes) (objects ∷ cleared) (suc i) k refused at = step_at notes cleared i k refused at
step_at (note.Clearing ∷ notes) [] (suc i) k refused at = step_at notes [] i k refused at

-- a note of a clearing is that of the next objects, as many lists on as there are clearings before it
pub record IsClearingAt (notes : List Note) (cleared : List (Vec ObjectId)) (i : ℕ) : Type 0 where
  pub objects : Vec ObjectId
  pub listed : slice_get cleared (clearings_in (take i (entries_of notes cleared))) ≡ Some objects
  pub is : slice_get (entries_of notes cleared) i ≡ Some (Clearing (names_of objects.items))

pub clearing_at : (notes : List Note) (cleared : List (Vec ObjectId)) (i : ℕ) → clearings_in (entries_of notes cleared) ≡ length cleared → slice_get notes i ≡ Some note.Clearing → IsClearingAt notes cleared i
clearing_at [] cleared i all at = absurd (cc)
clearing_at (note.Step j ∷ notes) cleared zero all at = absurd (cc)
clearing_at (note.Step j ∷ notes) cleared (suc i) all at = let h = clearing_at notes cleared i all at in record { objects = h.objects; listed = h.listed; is = h.is }
clearing_at (note.RefusedStep j ∷ notes) cleared zero all at = absurd (cc)
clearing_at (note.RefusedStep j ∷ notes) cleared (suc i) all at = let h = clearing_at notes cleared i all at in record { objects = h.objects; listed = h.listed; is = h.is }
clearing_at (note.Clearing ∷ notes) (objects ∷ cleared) zero all at = record { objects = objects; listed = refl; is = refl }
clearing_at (note.Clearing ∷ notes) (first ∷ cleared) (suc i) all at =
    let h = clearing_at notes cleared i (omega (arith, all)) at in record { objects = h.objects; listed = h.listed; is = h.is }
clearing_at (note.Clearing ∷ notes) [] i all at = absurd (omega (arith, all))

-- the entry of a clearing, where some were cleared
pub is_told : (objects : List ObjectId) → 0 < length objects → clearing_of (names_of objects) ≡ Clearing (names_of objects) ∷ []
is_told [] some = absurd (omega (arith, some))
is_told (o ∷ objects) some = refl
