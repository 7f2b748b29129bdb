use Rattle.machine_collections.proofs.PutWeaks.{PutTo}
use Rattle.machine_collections.proofs.weak.put_weak.Given as goal

abbrev pub invariant-loop-place : goal.invariant-loop-place
invariant-loop-place l = PutTo l.fn.weaks l.list.places.items l.weaks l.place
