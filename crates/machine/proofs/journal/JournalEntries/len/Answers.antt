use Rattle.std.proofs.Common.{length, ap, arith}
use Rattle.machine.specs.Writing.{Writing}
use Rattle.machine.proofs.Notes.{as_many}
use Rattle.machine.proofs.journal.JournalEntries.len.Goals as goal

pub returns : goal.returns
returns c =
    let j = c.self.inside in
    omega (arith, c.len.ensures, j.notes.ok, as_many j.notes.items j.cleared.items, ap (λ (w : Writing). length w.entries) c.self.view_is)
