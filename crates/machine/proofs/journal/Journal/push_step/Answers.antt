use Rattle.std.proofs.Common.{List, [], ◌∷◌, ◌++◌, ap, ◌∙◌}
use Rattle.semantics.specs.Journal.{Step, clearings_in}
use Rattle.machine.specs.declared.journal.Note.{Note}
use Rattle.machine.specs.Writing.{Writing, entries_of}
use Rattle.machine.proofs.Notes.{no_clearing_more, step_noted}
use Rattle.machine.proofs.journal.Journal.push_step.Goals as goal

pub invariant_of-self : goal.invariant_of-self
invariant_of-self c =
    let j = c.self.inside in
    let notes = c.push_reserved.ensures.items ∙ ap (λ (n : Note). j.notes.items ++ n ∷ []) c.note_of_step.ensures in
    ap (λ (l : List Note). clearings_in (entries_of l j.cleared.items)) notes
    ∙ ap clearings_in (step_noted j.notes.items j.cleared.items c.args.k c.args.refused)
    ∙ no_clearing_more (entries_of j.notes.items j.cleared.items) c.args.k c.args.refused ∙ c.self.invariant

pub returns-clause-entries : goal.returns-clause-entries
returns-clause-entries c =
    let j = c.self.inside in
    let notes = c.push_reserved.ensures.items ∙ ap (λ (n : Note). j.notes.items ++ n ∷ []) c.note_of_step.ensures in
    ap (λ (l : List Note). entries_of l j.cleared.items) notes ∙ step_noted j.notes.items j.cleared.items c.args.k c.args.refused
    ∙ ap (λ (w : Writing). w.entries ++ Step c.args.k c.args.refused ∷ []) c.self.view_is
