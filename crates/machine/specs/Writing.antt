-- A journal as a machine writes it.
use Rattle.std.specs.Prelude.{ℕ, Bool, true, false, List, [], ◌∷◌}
use Rattle.std.specs.Global.{Vec}
use Rattle.semantics.specs.Journal.{Entry, Step, Clearing}
use Rattle.semantics.specs.Views.{names_of}
use Rattle.semantics.specs.declared.object_id.ObjectId.{ObjectId}
use Rattle.machine.specs.declared.journal.Note.{Note}
use Rattle.machine.specs.declared.journal.Note.TheVariants as note

-- its entries, for how many more it has memory, and for the objects of how many more clearings
pub record Writing : Type 0 where
  pub entries : List Entry
  pub room : ℕ
  pub lists : ℕ

-- the entries of notes, where each clearing cleared the next of these objects; there are as many lists as clearings
abbrev pub entries_of : List Note → List (Vec ObjectId) → List Entry
entries_of [] cleared = []
entries_of (note.Step thread ∷ notes) cleared = Step thread false ∷ entries_of notes cleared
entries_of (note.RefusedStep thread ∷ notes) cleared = Step thread true ∷ entries_of notes cleared
entries_of (note.Clearing ∷ notes) (objects ∷ cleared) = Clearing (names_of objects.items) ∷ entries_of notes cleared
entries_of (note.Clearing ∷ notes) [] = Clearing [] ∷ entries_of notes []

-- the note of a step, whose allocation was refused or not
abbrev pub note_of_step : ℕ → Bool → Note
note_of_step thread false = note.Step thread
note_of_step thread true = note.RefusedStep thread
