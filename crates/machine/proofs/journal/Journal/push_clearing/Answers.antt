use Rattle.std.proofs.Common.{◌≡◌, ◌+◌, ◌<◌, List, [], ◌∷◌, ◌++◌, length, sym, ap, ◌∙◌, arith}
use Rattle.std.specs.Global.{Vec}
use Rattle.std.proofs.lemmas.List.{length-append}
use Rattle.base.proofs.Numbers.{positive}
use Rattle.semantics.specs.Journal.{Entry, Clearing, clearings_in}
use Rattle.semantics.specs.Views.{names_of}
use Rattle.semantics.specs.declared.object_id.ObjectId.{ObjectId}
use Rattle.machine.specs.declared.journal.Note.{Note}
use Rattle.machine.specs.Writing.{Writing, entries_of}
use Rattle.machine.proofs.Notes.{clearing_more, clearing_noted, is_told}
use Rattle.machine.proofs.journal.Journal.push_clearing.Goals.{After-push_reserved-then-not-is_empty}
use Rattle.machine.proofs.journal.Journal.push_clearing.Goals as goal

-- the entries are those before and the clearing
noted : (c : After-push_reserved-then-not-is_empty) → entries_of c.push_reserved.new.self.items c.push_reserved-then-not-is_empty.new.self.items
    ≡ entries_of c.self.inside.notes.items c.self.inside.cleared.items ++ Clearing (names_of c.args.objects.items) ∷ []
noted c =
    let j = c.self.inside in
    ap (λ (l : List Note). entries_of l c.push_reserved-then-not-is_empty.new.self.items) c.push_reserved.ensures.items
    ∙ ap (λ (l : List (Vec ObjectId)). entries_of (j.notes.items ++ _ ∷ []) l) c.push_reserved-then-not-is_empty.ensures.items
    ∙ clearing_noted j.notes.items j.cleared.items c.args.objects c.self.invariant

pub invariant_of-self : goal.invariant_of-self
invariant_of-self c =
    let a = (goal.at.invariant_of-self c).After-push_reserved-then-not-is_empty in
    let j = c.self.inside in
    let more : clearings_in (entries_of c.push_reserved.new.self.items c.push_reserved-then-not-is_empty.new.self.items) ≡ clearings_in (entries_of j.notes.items j.cleared.items) + 1 =
    ap clearings_in (noted a) ∙ clearing_more (entries_of j.notes.items j.cleared.items) (names_of c.args.objects.items) in
    let longer : length c.push_reserved-then-not-is_empty.new.self.items ≡ length j.cleared.items + 1 =
    ap (λ (l : List (Vec ObjectId)). length l) c.push_reserved-then-not-is_empty.ensures.items ∙ length-append j.cleared.items (c.args.objects ∷ []) in
    omega (arith, more, longer, c.self.invariant)

pub returns-then-not-is_empty-clause-entries : goal.returns-then-not-is_empty-clause-entries
returns-then-not-is_empty-clause-entries c =
    let a = (goal.at.returns-then-not-is_empty-clause-entries c).After-push_reserved-then-not-is_empty in
    let some : 0 < length c.args.objects.items = omega (arith, positive _ (sym c.if-not-is_empty.ensures), c.args.objects.ok) in
    noted a ∙ ap (λ (w : Writing). w.entries ++ Clearing (names_of c.args.objects.items) ∷ []) c.self.view_is
    ∙ ap (λ (l : List Entry). c.args.self.now.entries ++ l) (sym (is_told c.args.objects.items some))
