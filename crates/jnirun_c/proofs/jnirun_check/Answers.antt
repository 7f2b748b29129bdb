use Rattle.std.proofs.Common.{◌≡◌, Err, refl, subst}
use Rattle.program_check.specs.Checks.{ChecksText}
use Rattle.places.specs.declared.place.Place.TheVariants.{Line}
use Rattle.program_check.specs.declared.fault.RunError.TheVariants.{Fault}
use Rattle.jnirun_c.specs.Answers.{is_accepted, is_refused, lacks_memory}
use Rattle.jnirun_c.proofs.Places.{in_program}
use Rattle.jnirun_c.proofs.jnirun_check.Goals as goal

pub returns-in-Ok-clause-answers : goal.returns-in-Ok-clause-answers
returns-in-Ok-clause-answers c = is_accepted c.in-Ok.ensures.check (record { number = refl; line = refl })

pub returns-in-Line-clause-answers : goal.returns-in-Line-clause-answers
returns-in-Line-clause-answers c =
    let f = c.in-Err-Fault in
    let p = c.in-Line in
    let same : f.field-0 ≡ Fault f.number (Line p._text p.line) = cc (f.field-0-is, c.place.ensures, p.is) in
    is_refused (in_program c.args.text.now f.number p._text p.line (subst (λ e. ChecksText c.args.text.now (Err e)) same f.ensures.check))

pub returns-in-Err-Memory-clause-answers : goal.returns-in-Err-Memory-clause-answers
returns-in-Err-Memory-clause-answers c = lacks_memory (record { number = refl; line = refl })
