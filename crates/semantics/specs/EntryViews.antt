-- Entries of journals as they are held in memory.
use Rattle.semantics.specs.declared.journal.EntryKind.{EntryKind}
use Rattle.semantics.specs.declared.journal.EntryKind.TheVariants as held
use Rattle.semantics.specs.Journal.{Entry, Step, Clearing}
use Rattle.semantics.specs.Views.{names_of}

-- an entry
abbrev pub kind_view : EntryKind → Entry
kind_view (held.Step thread refused) = Step thread refused
kind_view (held.Clearing names) = Clearing (names_of names.items)
