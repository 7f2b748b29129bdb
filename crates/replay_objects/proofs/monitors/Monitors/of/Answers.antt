use Rattle.std.proofs.Common.{◌==◌, List, ap, ◌∙◌}
use Rattle.std.specs.Prelude.{find}
use Rattle.std.specs.Option.{option_map}
use Rattle.semantics.specs.Thread.{monitor_of}
use Rattle.replay_objects.specs.declared.monitors.Monitor.{Monitor}
use Rattle.replay_objects.specs.Monitors.{monitor_view}
use Rattle.replay_objects.proofs.MonitorLemmas.{found_as}
use Rattle.replay_objects.proofs.monitors.Monitors.of.Goals as goal

pub returns : goal.returns
returns c =
    ap (option_map monitor_view) (c.monitor_in.ensures ∙ ap (λ (l : List Monitor). find (λ (m : Monitor). m.object.number == c.args.object.number) l) c.deref.ensures.value)
    ∙ found_as (λ m. m.object == c.args.object.number) c.self.inside.monitors.items
    ∙ ap (λ l. monitor_of l c.args.object.number) c.self.view_is
