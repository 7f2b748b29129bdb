use Rattle.std.proofs.Common.{◌<◌, length, refl, sym, subst}
use Rattle.std.proofs.lemmas.Option.{slice_get_read}
use Rattle.code.specs.Depth.{Listing}
use Rattle.code.specs.Running.{RunsAt}
use Rattle.code.proofs.Runs.{runs_at}
use Rattle.code.proofs.code.Code.instr_at.Goals as goal

pub returns-clause-runs : goal.returns-clause-runs
returns-clause-runs c =
    let code : Listing = record { instrs = c.self.inside.instrs.items; slots = c.self.inside.slots } in
    let inside = subst (λ (l : Listing). c.args.place < length l.instrs) (sym c.self.view_is) c.requires in
    let there = slice_get_read code.instrs (length code.instrs) c.args.place c.index.result.now refl inside c.index.ensures in
    subst (λ (l : Listing). RunsAt l c.args.place c.index.result.now) c.self.view_is (runs_at code c.self.invariant c.args.place c.index.result.now there)
