use Rattle.std.proofs.Common.{ap, ◌∙◌, map, pos}
use Rattle.std.proofs.lemmas.List.{map-append, take_all}
use Rattle.semantics.specs.Object.{Number}
use Rattle.world_values.specs.Views.{object_value_view}
use Rattle.world.proofs.ValuesInMemory.{mapped_more}
use Rattle.world.proofs.additions.units.Goals as goal

pub loop-byte-init : goal.loop-byte-init
loop-byte-init c = ap (map object_value_view) c.new-units.ensures.items

pub loop-byte-preserved : goal.loop-byte-preserved
loop-byte-preserved c =
    ap (map object_value_view) c.in_ok-push.ensures.items
    ∙ map-append object_value_view c.loop-byte.units.items _
    ∙ mapped_more (λ b. Number (pos b)) c.args.text.now c.loop-byte.byte-index 0 (map object_value_view c.loop-byte.units.items) (object_value_view c.unit.result) c.loop-byte-test.true c.loop-byte.invariant c.unit.ensures

pub returns : goal.returns
returns c = c.loop-byte.invariant ∙ ap (map (λ b. Number (pos b))) (take_all c.loop-byte.byte-index c.args.text.now c.loop-byte-test.false)
