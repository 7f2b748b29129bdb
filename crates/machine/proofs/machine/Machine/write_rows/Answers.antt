use Rattle.std.proofs.Common.{List, map, refl, subst, sym}
use Rattle.report.specs.declared.thread_status.ThreadStatus.{ThreadStatus}
use Rattle.report.specs.ThreadStatus.{standing_view}
use Rattle.machine.specs.Run.{ShowsStandings}
use Rattle.machine.proofs.Reports.{writes_run}
use Rattle.machine.proofs.machine.Machine.write_rows.Goals as goal

pub returns-in-Ok-clause-run : goal.returns-in-Ok-clause-run
returns-in-Ok-clause-run g c =
    let told = subst (λ (l : List ThreadStatus). ShowsStandings c.args.self.now (map standing_view l)) (sym c.as_slice.ensures.value) c.standings-standings.ensures in
    writes_run _ _ _ _ _ _ _ c.self.invariant c.args.self.now c.self.view_is _ _ _ _ _ _ _ c.deref.ensures.value told c.requires.rows refl c.in-Ok.ensures.text

pub returns-in-Err-clause-run : goal.returns-in-Err-clause-run
returns-in-Err-clause-run g c =
    let told = subst (λ (l : List ThreadStatus). ShowsStandings c.args.self.now (map standing_view l)) (sym c.as_slice.ensures.value) c.standings-standings.ensures in
    writes_run _ _ _ _ _ _ _ c.self.invariant c.args.self.now c.self.view_is _ _ _ _ _ _ _ c.deref.ensures.value told c.requires.rows refl c.in-Err.ensures.text
