use Rattle.std.proofs.Common.{◌≡◌, ◌<◌, ℕ, Bool, true, false, List, length, Some, refl, sym, ap, ◌∙◌, arith}
use Rattle.std.specs.Prelude.{slice_get, take}
use Rattle.std.specs.Global.{Vec}
use Rattle.std.proofs.lemmas.Option.{get_or_from_slice_get, slice_get_read, slice_get_within}
use Rattle.semantics.specs.Journal.{Step, Clearing, clearings_in}
use Rattle.semantics.specs.Views.{names_of}
use Rattle.semantics.specs.declared.object_id.ObjectId.{ObjectId}
use Rattle.machine.specs.declared.journal.Note.{Note}
use Rattle.machine.specs.Writing.{Writing, note_of_step}
use Rattle.machine.proofs.Notes.{IsClearingAt, as_many, clearing_at, step_at}
use Rattle.machine.proofs.journal.JournalEntries.entry.Goals.{After-index, In-Clearing}
use Rattle.machine.proofs.journal.JournalEntries.entry.Goals as goal

pub index-requires : goal.index-requires
index-requires c =
    let j = c.self.inside in
    omega (arith, c.requires.inside, j.notes.ok, as_many j.notes.items j.cleared.items, ap (λ (w : Writing). length w.entries) c.self.view_is)

-- where a clearing stands among those
at_clearing : (c : In-Clearing) → IsClearingAt c.self.inside.notes.items c.self.inside.cleared.items c.args.place
at_clearing c =
    let j = c.self.inside in
    let inside : c.args.place < length j.notes.items = omega (arith, c.requires.inside, as_many j.notes.items j.cleared.items, ap (λ (w : Writing). length w.entries) c.self.view_is) in
    clearing_at j.notes.items j.cleared.items c.args.place c.self.invariant
    (slice_get_read j.notes.items (length j.notes.items) c.args.place c.index.result.now refl inside c.index.ensures ∙ ap (λ (n : Note). Some n) c.in-Clearing.is)

-- the list that is asked for is its
its_list : (c : In-Clearing) → slice_get c.self.inside.cleared.items c.args.clearings ≡ Some (at_clearing c).objects
its_list c =
    ap (λ (n : ℕ). slice_get c.self.inside.cleared.items n) (c.requires.before ∙ ap (λ (w : Writing). clearings_in (take c.args.place w.entries)) (sym c.self.view_is)) ∙ (at_clearing c).listed

pub index-requires-in-Clearing : goal.index-requires-in-Clearing
index-requires-in-Clearing c =
    let a = (goal.at.index-requires-in-Clearing c).In-Clearing in
    omega (arith, slice_get_within c.self.inside.cleared.items c.args.clearings (at_clearing a).objects (its_list a), c.self.inside.cleared.ok)

-- the place is among the notes
noted : (c : After-index) → c.args.place < length c.self.inside.notes.items
noted c =
    let j = c.self.inside in
    omega (arith, c.requires.inside, as_many j.notes.items j.cleared.items, ap (λ (w : Writing). length w.entries) c.self.view_is)

-- a step noted there is the entry
steps : (c : After-index) (k : ℕ) (refused : Bool) → c.index.result.now ≡ note_of_step k refused → slice_get c.args.self.now.entries c.args.place ≡ Some (Step k refused)
steps c k refused is =
    let j = c.self.inside in
    ap (λ (w : Writing). slice_get w.entries c.args.place) (sym c.self.view_is)
    ∙ step_at j.notes.items j.cleared.items c.args.place k refused
    (slice_get_read j.notes.items (length j.notes.items) c.args.place c.index.result.now refl (noted c) c.index.ensures ∙ ap (λ (n : Note). Some n) is)

pub returns-in-Step : goal.returns-in-Step
returns-in-Step c = steps (goal.at.returns-in-Step c).After-index c.in-Step.thread false c.in-Step.is

pub returns-in-RefusedStep : goal.returns-in-RefusedStep
returns-in-RefusedStep c = steps (goal.at.returns-in-RefusedStep c).After-index c.in-RefusedStep.thread true c.in-RefusedStep.is

pub returns-in-Clearing : goal.returns-in-Clearing
returns-in-Clearing c =
    let a = (goal.at.returns-in-Clearing c).In-Clearing in
    let objects : Vec ObjectId = (at_clearing a).objects in
    let same : objects ≡ c.index-in-Clearing.result.now =
    sym (get_or_from_slice_get c.self.inside.cleared.items c.args.clearings objects c.index-in-Clearing.result.now (its_list a)) ∙ sym c.index-in-Clearing.ensures in
    ap (λ (w : Writing). slice_get w.entries c.args.place) (sym c.self.view_is) ∙ (at_clearing a).is
    ∙ ap (λ (v : Vec ObjectId). Some (Clearing (names_of v.items))) same ∙ ap (λ (l : List ObjectId). Some (Clearing (names_of l))) (sym c.deref.ensures.value)
