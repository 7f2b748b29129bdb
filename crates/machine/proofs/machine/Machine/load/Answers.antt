use Rattle.std.proofs.Common.{◌≡◌, ◌+◌, ap, arith}
use Rattle.heap.specs.Layout.{layout_of, top_of}
use Rattle.machine_scenes.proofs.ObjectExtents.{top_laid}
use Rattle.machine_scenes.specs.Layouts.{laid_from}
use Rattle.semantics.specs.Object.{sizes}
use Rattle.semantics.specs.World.{loaded_objects}
use Rattle.machine.proofs.machine.Machine.load.Goals as goal

pub invariant_of-result : goal.invariant_of-result
invariant_of-result c = rw (c.new.ensures.items, c.new-2.ensures) c.in_ok-store.ensures.begins

pub returns-clause-left : goal.returns-clause-left
returns-clause-left c =
    let objects = loaded_objects c.args.world in
    let laid : top_of (layout_of c.in_ok-store.store.heap) ≡ top_of (laid_from 1 0 objects) = ap top_of c.in_ok-store.ensures.laid in
    let top : top_of (laid_from 1 0 objects) ≡ 0 + sizes objects = top_laid 1 0 objects in
    omega (arith, laid, top)
