use Rattle.std.proofs.Common.{List, sym, ap, ◌∙◌}
use Rattle.semantics.specs.Thread.{capacities}
use Rattle.replay_objects.specs.Frames.{frames_view}
use Rattle.replay_objects.specs.declared.frame.Frame.{Frame as InMemory}
use Rattle.replay_objects.proofs.FrameLemmas.{pushed_total}
use Rattle.replay_objects.proofs.frame.Frames.push.Goals as goal

pub invariant_of-self-2 : goal.invariant_of-self-2
invariant_of-self-2 c =
    let new : InMemory = record { capacity = c.args.capacity; references = c.new.result } in
    pushed_total c.self.inside.frames.items new c.self.inside.total c.self.invariant
    ∙ ap (λ (l : List InMemory). capacities (frames_view l)) (sym {A = List InMemory} c.in_ok-push.ensures.items)
