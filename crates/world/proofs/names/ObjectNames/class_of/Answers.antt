use Rattle.std.proofs.Common.{◌∙◌, sym, ap}
use Rattle.class_rules.specs.ClassIds.{number_of}
use Rattle.base.specs.Bytes.{lookup}
use Rattle.world.proofs.NamesInMemory.{lookup-view}
use Rattle.world.proofs.names.ObjectNames.class_of.Goals as goal

pub returns-in-Some : goal.returns-in-Some
returns-in-Some c =
    ap number_of c.in-Some.ensures.value ∙ sym (lookup-view c.args.name.now c.self.inside.classes.entries) ∙ ap (lookup c.args.name.now) c.self.view_is

pub returns-in-None : goal.returns-in-None
returns-in-None c =
    ap number_of c.in-None.ensures.value ∙ sym (lookup-view c.args.name.now c.self.inside.classes.entries) ∙ ap (lookup c.args.name.now) c.self.view_is
