use Rattle.std.proofs.Common.{◌++◌, ◌∷◌, [], ◌∙◌, ap}
use Rattle.classes.specs.Views.{class_view, classes_view}
use Rattle.classes.proofs.entries.Entries.put.Goals as goal

pub returns-clause-ok : goal.returns-clause-ok
returns-clause-ok c =
    c.put_in_room.ensures.classes
    ∙ ap (λ T. T ++ class_view (c.args.name, c.args.entry) ∷ []) (ap classes_view c.in_ok-reserve.ensures.entries ∙ c.self.view_is)
