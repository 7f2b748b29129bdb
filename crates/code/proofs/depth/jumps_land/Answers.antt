use Rattle.std.proofs.Common.{length, refl, arith}
use Rattle.std.proofs.lemmas.Option.{slice_get_read}
use Rattle.code.proofs.Depths.{lands_more, all_land}
use Rattle.code.proofs.depth.jumps_land.Goals as goal

pub loop-place-preserved : goal.loop-place-preserved
loop-place-preserved c =
    let instrs = c.args.instrs.now in
    let at = slice_get_read instrs (length instrs) c.loop-place.place c.index-instrs-place.result refl c.loop-place-test.true c.index-instrs-place.is in
    lands_more instrs c.args.table.now c.loop-place.place c.index-instrs-place.result at (((c.lands.ensures instrs c.requires).0) c.if-not-lands.false) c.loop-place.invariant

pub returns : goal.returns
returns c = (λ t. all_land c.args.instrs.now c.args.table.now c.loop-place.place c.requires (omega (arith, c.loop-place-test.false)) c.loop-place.invariant, λ u. refl)
