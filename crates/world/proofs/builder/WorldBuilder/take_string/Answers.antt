use Rattle.std.proofs.Common.{ap, length, arith, pos}
use Rattle.std.proofs.lemmas.List.{length-map}
use Rattle.semantics.specs.Object.{Number}
use Rattle.world.specs.GatheredViews.{gathered_of}
use Rattle.world_values.specs.Views.{object_value_view}
use Rattle.world_values.specs.WorldLines.{StringLine}
use Rattle.world.proofs.KeptRules.{keeps}
use Rattle.world.proofs.builder.WorldBuilder.take_string.Goals as goal

pub put_object-requires-clause-room : goal.put_object-requires-clause-room
put_object-requires-clause-room c =
    let k = keeps (gathered_of c.args.self.now) (StringLine c.args.name.now c.args.text.now) c.requires in
    omega (arith, k.room, ap length c.in_ok-units.ensures, length-map c.in_ok-units.units.items object_value_view, length-map c.args.text.now (λ b. Number (pos b)))
