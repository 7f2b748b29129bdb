use Rattle.std.proofs.Common.{◌+◌, ◌++◌, ap, subst, Contains}
use Rattle.semantics.specs.Reachable.{from_one}
use Rattle.semantics.specs.Views.{names_of}
use Rattle.report_objects.specs.Names.{AreRoots}
use Rattle.report_objects.proofs.ReachedNames.{closed, are_reported}
use Rattle.report_objects.proofs.rows.reached_rows.Goals as goal

pub close-requires-clause-closed : goal.close-requires-clause-closed
close-requires-clause-closed g c = closed (g.O.Objects.heap c.args.objects.now)

pub returns : goal.returns
returns g c =
    let marked = subst (λ n. AreRoots n (Contains (from_one c.args.loaded ++ names_of c.args.names.now)) c.in_ok-roots.roots) c.len-count.ensures.len c.in_ok-roots.ensures in
    are_reported c.args.classes.now (g.O.Objects.heap c.args.objects.now) c.args.loaded (names_of c.args.names.now) c.in_ok-roots.roots c.in_ok-reached.reached.items (c.len.result + 2) (c.len-count.result + 1) marked c.in_ok-reached.ensures (ap (λ n. n + 2) c.len.ensures.len) (ap (λ n. n + 1) c.len-count.ensures.len)
