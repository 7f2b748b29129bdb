use Rattle.std.proofs.Common.{◌++◌, subst, Contains}
use Rattle.semantics.specs.Reachable.{from_one}
use Rattle.semantics.specs.Views.{names_of}
use Rattle.report_objects.specs.Names.{AreRoots}
use Rattle.report_objects.proofs.ReachedNames.{closed, marks_reached}
use Rattle.report_objects.proofs.rows.reached_marks.Goals as goal

pub close-requires-clause-closed : goal.close-requires-clause-closed
close-requires-clause-closed g c = closed (g.O.Objects.heap c.args.objects.now)

pub returns : goal.returns
returns g c =
    let from = from_one c.args.loaded ++ names_of c.args.names.now in
    let marked = subst (λ n. AreRoots n (Contains from) c.in_ok-roots.roots) c.len.ensures.len c.in_ok-roots.ensures in
    marks_reached (g.O.Objects.heap c.args.objects.now) from c.in_ok-roots.roots marked c.in_ok-reached.reached.items c.in_ok-reached.ensures
