use Rattle.std.proofs.Common.{◌≡◌, sym, ap, arith}
use Rattle.semantics.specs.Journal.{steps_in}
use Rattle.machine.specs.Writing.{Writing, entries_of}
use Rattle.machine.proofs.Notes.{notes_counted}
use Rattle.machine.proofs.journal.Journal.most_steps.Goals as goal

pub overflow_sub-left : goal.overflow_sub-left
overflow_sub-left c = omega (arith, c.self.inside.notes.ok, c.len-notes.ensures, c.capacity-capacity.ensures)

pub overflow_cast-room : goal.overflow_cast-room
overflow_cast-room c =
    let j = c.self.inside in
    omega (arith, notes_counted j.notes.items j.cleared.items c.self.invariant, c.len-notes.ensures, c.len.ensures, j.notes.ok, j.cleared.ok, c.room_left-room.ensures.room)

pub returns-then-capacity-le-MOST_ENTRIES-clause-room : goal.returns-then-capacity-le-MOST_ENTRIES-clause-room
returns-then-capacity-le-MOST_ENTRIES-clause-room c = λ some.
    let j = c.self.inside in
    let same : steps_in c.args.self.now.entries ≡ steps_in (entries_of j.notes.items j.cleared.items) = ap (λ (w : Writing). steps_in w.entries) (sym c.self.view_is) in
    omega (arith, some, notes_counted j.notes.items j.cleared.items c.self.invariant, c.len-notes.ensures, j.notes.ok, c.min.ensures, same)

pub returns-clause-room : goal.returns-clause-room
returns-clause-room c = λ some.
    let j = c.self.inside in
    let same : steps_in c.args.self.now.entries ≡ steps_in (entries_of j.notes.items j.cleared.items) = ap (λ (w : Writing). steps_in w.entries) (sym c.self.view_is) in
    omega (arith, some, notes_counted j.notes.items j.cleared.items c.self.invariant, c.len-notes.ensures, c.len.ensures, j.notes.ok, j.cleared.ok, c.room_left-room.ensures.room, c.min-2.ensures, same)
