use Rattle.std.proofs.Common.{Err, refl, ap}
use Rattle.jnirun.specs.Serve.{cannot_read, has_no_file}
use Rattle.jnirun.proofs.serving.read_or_tell.Goals as goal

pub returns-in-Err-Memory-clause-told : goal.returns-in-Err-Memory-clause-told
returns-in-Err-Memory-clause-told g c = rw c.fail.ensures.status (λ out. cannot_read refl c.fail.ensures.tells)

pub returns-in-Err-File-clause-told : goal.returns-in-Err-File-clause-told
returns-in-Err-File-clause-told g c = rw c.fail-in-Err-File.ensures.status (λ out. has_no_file (c.in-Err-File.ensures.lacking (ap Err c.in-Err-File.field-0-is)) refl c.fail-in-Err-File.ensures.tells)
