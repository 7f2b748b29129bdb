use Rattle.std.proofs.Common.{◌≡◌, ◌-◌, ◌<◌, ℕ, false, sym, ap, ◌∙◌, arith}
use Rattle.std.specs.Prelude.{nat_le}
use Rattle.semantics.specs.Journal.{steps_in}
use Rattle.machine.specs.Writing.{Writing, entries_of}
use Rattle.machine.proofs.Notes.{notes_counted}
use Rattle.machine.proofs.journal.Journal.is_full.Goals as goal

pub overflow_sub-result : goal.overflow_sub-result
overflow_sub-result c =
    let j = c.self.inside in
    omega (arith, notes_counted j.notes.items j.cleared.items c.self.invariant, c.len-then-len-ge-MOST_ENTRIES.ensures, c.len-then-len-ge-MOST_ENTRIES-2.ensures, j.notes.ok, j.cleared.ok)

pub returns-then-len-ge-MOST_ENTRIES : goal.returns-then-len-ge-MOST_ENTRIES
returns-then-len-ge-MOST_ENTRIES c =
    let j = c.self.inside in
    let same : steps_in c.args.self.now.entries ≡ steps_in (entries_of j.notes.items j.cleared.items) = ap (λ (w : Writing). steps_in w.entries) (sym c.self.view_is) in
    let left : c.len-then-len-ge-MOST_ENTRIES.result - c.len-then-len-ge-MOST_ENTRIES-2.result ≡ steps_in c.args.self.now.entries =
    omega (arith, notes_counted j.notes.items j.cleared.items c.self.invariant, c.len-then-len-ge-MOST_ENTRIES.ensures, c.len-then-len-ge-MOST_ENTRIES-2.ensures, j.notes.ok, j.cleared.ok, same) in
    ap (nat_le 1000000) left

-- a number below the limit
below : (n : ℕ) → n < 1000000 → nat_le 1000000 n ≡ false
below n h = grind arith

pub returns-else-len-ge-MOST_ENTRIES : goal.returns-else-len-ge-MOST_ENTRIES
returns-else-len-ge-MOST_ENTRIES c =
    let j = c.self.inside in
    let same : steps_in c.args.self.now.entries ≡ steps_in (entries_of j.notes.items j.cleared.items) = ap (λ (w : Writing). steps_in w.entries) (sym c.self.view_is) in
    let long : c.len.result < 1000000 = omega (arith, c.if-len-ge-MOST_ENTRIES.false) in
    let few : steps_in c.args.self.now.entries < 1000000 = omega (arith, long, notes_counted j.notes.items j.cleared.items c.self.invariant, c.len.ensures, j.notes.ok, same) in
    below c.len.result long ∙ sym (below (steps_in c.args.self.now.entries) few)
