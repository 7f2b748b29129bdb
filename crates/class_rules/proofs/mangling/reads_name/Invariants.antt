use Rattle.std.proofs.Common.{◌≡◌, false, cond, drop}
use Rattle.class_rules.specs.MangledNames.{reads_name, reads_underscore}
use Rattle.class_rules.proofs.mangling.reads_name.Given as goal

abbrev pub invariant-loop-b : goal.invariant-loop-b
invariant-loop-b l =
    cond l.underscore (reads_underscore (drop l.b-index l.bytes) l.separated) (reads_name (drop l.b-index l.bytes) l.separated)
    ≡ reads_name l.bytes false
