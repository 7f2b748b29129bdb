use Rattle.std.proofs.Common.{◌∙◌, sym, ap, slice_get}
use Rattle.std.specs.Option.{option_map}
use Rattle.std.proofs.lemmas.Option.{slice_get-map}
use Rattle.classes.specs.Views.{class_view}
use Rattle.classes.proofs.Places.{class_view-looked_up}
use Rattle.classes.proofs.entries.Entries.get.Goals as goal

pub returns : goal.returns
returns c =
    class_view-looked_up c.get_index.result
    ∙ ap (option_map class_view) c.get_index.ensures.entry
    ∙ sym (slice_get-map class_view c.self.inside.classes.entries c.args.place)
    ∙ ap (λ t. slice_get t c.args.place) c.self.view_is
