use Rattle.std.proofs.Common.{refl, arith}
use Rattle.machine_collections.proofs.PutWeaks.{put_all, put_next}
use Rattle.machine_collections.proofs.weak.put_weak.Goals as goal

pub loop-place-init : goal.loop-place-init
loop-place-init c = record { count = refl; done = λ key p less at. absurd (omega (arith, less)); rest = λ key above. refl }

pub loop-place-preserved : goal.loop-place-preserved
loop-place-preserved c = put_next c.args.weaks.now c.args.list.now.places.items c.loop-place.weaks c.set_weak.new.self c.loop-place.place c.index.result.now c.loop-place.invariant c.index.ensures c.set_weak.ensures

pub returns : goal.returns
returns c = put_all c.args.weaks.now c.args.list.now.places.items c.loop-place.weaks c.loop-place.place c.loop-place.invariant (omega (arith, c.requires, c.loop-place-test.false, c.len-place-end.ensures))
