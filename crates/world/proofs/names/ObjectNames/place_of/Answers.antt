use Rattle.std.proofs.Common.{◌∙◌, ap, ℕ, position}
use Rattle.std.specs.Str.{bytes_eq}
use Rattle.base.specs.Bytes.{Identifier}
use Rattle.world.proofs.NamesInMemory.{place-view}
use Rattle.world.proofs.names.ObjectNames.place_of.Goals as goal

pub returns : goal.returns
returns c =
    c.get_index_of.ensures.index
    ∙ place-view c.args.name.now c.self.inside.classes.entries
    ∙ ap (position (λ (o : Identifier × ℕ). bytes_eq o.0 c.args.name.now)) c.self.view_is
