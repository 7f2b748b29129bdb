use Rattle.std.proofs.Common.{refl}
use Rattle.replay_threads.proofs.thread.resume_caller.Goals as goal

pub returns : goal.returns
returns c = record {
  activation = _;
  is = c.put_activation.ensures;
  range = c.in_ok-resume.ensures.range;
  resumes = c.in_ok-resume.ensures.step;
  callers = refl;
  entering = refl;
  calls = refl;
  pending = refl;
  ending = refl;
}
