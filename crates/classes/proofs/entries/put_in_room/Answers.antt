use Rattle.std.proofs.Common.{◌∙◌, ap}
use Rattle.indexmap.proofs.CallerLemmas.{insert_entry-new}
use Rattle.classes.specs.Views.{classes_view}
use Rattle.classes.proofs.Places.{lookup-new, classes_view-more}
use Rattle.classes.proofs.entries.put_in_room.Goals as goal

pub returns-clause-classes : goal.returns-clause-classes
returns-clause-classes c =
    let es = c.args.classes.now.entries in
    let grown = rw c.unwrap.ensures at c.insert.ensures.entries in
    ap classes_view (grown ∙ insert_entry-new _ c.args.classes.now c.args.name c.args.entry (lookup-new c.args.name.items es c.requires.new))
    ∙ classes_view-more es (c.args.name, c.args.entry)
