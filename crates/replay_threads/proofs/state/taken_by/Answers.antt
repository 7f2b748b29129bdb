use Rattle.std.proofs.Common.{List, length, ap, arith}
use Rattle.std.specs.Prelude.{flat_map, sum_by}
use Rattle.std.proofs.lemmas.List.{length-append}
use Rattle.semantics.specs.Thread.{objects_viewed}
use Rattle.replay_steps.specs.declared.activation.Activation.{Activation}
use Rattle.replay_threads.specs.States.{call_copies, call_views, variables_of}
use Rattle.replay_threads.specs.Threads.{last_first}
use Rattle.replay_threads.proofs.state.taken_by.Goals as goal

pub returns-clause-copied : goal.returns-clause-copied
returns-clause-copied c = omega (
  arith,
  c.taken_by_calls-others.ensures.copied,
  c.taken_by_call-own.ensures.copied,
  ap (λ (l : List Activation). sum_by call_copies (last_first l)) c.deref.ensures.value,
)

pub returns-clause-views : goal.returns-clause-views
returns-clause-views c =
    let t = c.args.thread.now in
    omega (
      arith,
      c.taken_by_calls-others.ensures.views,
      c.taken_by_call-own.ensures.views,
      ap (λ (l : List Activation). length (flat_map call_views (last_first l))) c.deref.ensures.value,
      length-append (flat_map call_views (last_first t.callers.items)) (objects_viewed (variables_of t.activation)),
    )
