use Rattle.std.proofs.Common.{◌≡◌, false, ◌==◌, arith}
use Rattle.std.proofs.lemmas.Bool.Decides.{nat_tests}
use Rattle.classes.proofs.Signatures.{not_ended}
use Rattle.classes.proofs.fields.ended_name.Goals as goal

pub returns-else-last-eq59 : goal.returns-else-last-eq59
returns-else-last-eq59 c = λ name.
    let other : (c.in-Some.last.now == 59) ≡ false = grind (arith, nat_tests) in
    not_ended name c.args.bytes.now c.in-Some.name.now c.in-Some.last.now c.in-Some.ensures.cases.0 other
