use Rattle.std.proofs.Common.{◌+◌, ◌∙◌, sym, ap}
use Rattle.std.specs.Option.{option_map}
use Rattle.class_rules.specs.Class.{class_named}
use Rattle.classes.proofs.Places.{class_named-view}
use Rattle.classes.proofs.entries.Entries.find.Goals as goal

pub returns-in-Some : goal.returns-in-Some
returns-in-Some c =
    ap (option_map (λ i. i + 1)) (c.in-Some.ensures.index)
    ∙ sym (class_named-view c.args.name.now c.self.inside.classes.entries)
    ∙ ap (λ t. class_named t c.args.name.now) c.self.view_is

pub returns-in-None : goal.returns-in-None
returns-in-None c =
    ap (option_map (λ i. i + 1)) (c.in-None.ensures.index)
    ∙ sym (class_named-view c.args.name.now c.self.inside.classes.entries)
    ∙ ap (λ t. class_named t c.args.name.now) c.self.view_is
