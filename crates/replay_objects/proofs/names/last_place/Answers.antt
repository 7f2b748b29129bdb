use Rattle.std.proofs.Common.{◌≡◌, ◌+◌, ◌-◌, ◌<◌, length, sym, arith}
use Rattle.std.proofs.lemmas.List.{length-map}
use Rattle.semantics.specs.declared.object_id.ObjectId.{ObjectId}
use Rattle.replay_objects.proofs.FrameLemmas.{found, passed}
use Rattle.replay_objects.proofs.names.last_place.Goals as goal

pub returns-then-eq : goal.returns-then-eq
returns-then-eq c =
    let all = c.args.names.now in
    let q = length all - c.loop-done.done in
    let p = length all - 1 - c.loop-done.done in
    let next : q ≡ p + 1 = omega (arith, c.loop-done-test.true) in
    let low : p < length all = omega (arith, c.loop-done-test.true) in (
      found c.args.name.number all p q next low (sym c.if-eq.ensures) c.loop-done.invariant,
      omega (arith, low, length-map all (λ (o : ObjectId). o.number)),
    )

pub loop-done-preserved : goal.loop-done-preserved
loop-done-preserved c =
    let all = c.args.names.now in
    let q = length all - c.loop-done.done in
    let p = length all - 1 - c.loop-done.done in
    let same : length all - (c.loop-done.done + 1) ≡ p = omega arith in
    let next : q ≡ p + 1 = omega (arith, c.loop-done-test.true) in
    let low : p < length all = omega (arith, c.loop-done-test.true) in
    rw same (passed c.args.name.number all p q next low (sym c.if-eq.ensures) c.loop-done.invariant)
