use Rattle.std.proofs.Common.{◌≡◌, ◌++◌, drop, map}
use Rattle.semantics.specs.Views.{names_of}
use Rattle.replay_objects.specs.Monitors.{monitor_view, owned_objects}
use Rattle.replay_objects.proofs.monitors.Monitors.add_to.Given as goal

abbrev pub invariant-loop-monitor : goal.invariant-loop-monitor
invariant-loop-monitor l = names_of l.names.items ++ owned_objects (map monitor_view (drop l.monitor-index l.monitor-items)) ≡ names_of l.fn.names.items ++ owned_objects (map monitor_view l.monitor-items)
