use Rattle.replay_threads.proofs.thread.begin_call.Goals as goal

pub returns : goal.returns
returns c = record {
  activation = _;
  is = c.put_activation.ensures;
  tasks = c.in_ok-work.ensures.tasks;
  range = c.in_ok-work.ensures.range;
  variables = c.in_ok-variables.ensures;
  frames = c.in_ok-frames.ensures;
}
