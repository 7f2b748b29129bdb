use Rattle.std.proofs.Common.{◌≡◌, List, length, subst, arith}
use Rattle.semantics.specs.declared.object_id.ObjectId.{ObjectId}
use Rattle.semantics.specs.Views.{names_of}
use Rattle.report_objects.specs.Rows.{AreReported}
use Rattle.machine.proofs.Reports.{shows_objects}
use Rattle.machine.proofs.machine.Machine.report.Goals as goal

pub write_rows-requires-clause-rows : goal.write_rows-requires-clause-rows
write_rows-requires-clause-rows g c =
    let loaded : c.len-loaded.result ≡ length c.self.inside.store.loaded.items = omega (arith, c.len-loaded.ensures, c.self.inside.store.loaded.ok) in
    shows_objects _ _ _ _ _ _ _ c.self.invariant c.args.self.now c.self.view_is _ _ _ _ _ c.classes.ensures.classes loaded c.in_ok-objects.ensures
    (subst (λ (ns : List ObjectId). AreReported c.classes.result.now c.in_ok-objects.objects c.len-loaded.result (names_of ns) c.in_ok-rows.rows) c.deref.ensures.value c.in_ok-rows.ensures)
