use Rattle.std.proofs.Common.{ap, ◌∙◌}
use Rattle.std.specs.Option.{option_map}
use Rattle.base.specs.Bytes.{lookup}
use Rattle.type_rules.proofs.KnownDeclarations.{lookup-seen}
use Rattle.code_meaning.specs.Layout.{Layout}
use Rattle.lower_statements.specs.Names.{slot_view}
use Rattle.lower_statements.proofs.names.Names.slot_of.Goals as goal

pub returns : goal.returns
returns c =
    ap (option_map slot_view) c.get.ensures
    ∙ lookup-seen slot_view c.args.name.now c.self.inside.known
    ∙ ap (λ (l : Layout). lookup c.args.name.now l.known) c.self.view_is
