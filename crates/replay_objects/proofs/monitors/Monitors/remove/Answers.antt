use Rattle.std.proofs.Common.{◌==◌, ap, map, ◌∙◌, rules}
use Rattle.std.specs.Prelude.{not}
use Rattle.std.proofs.lemmas.Fn.{filter_same}
use Rattle.semantics.specs.Thread.{without_monitor}
use Rattle.replay_objects.specs.Monitors.{monitor_view}
use Rattle.replay_objects.proofs.MonitorLemmas.{kept_as}
use Rattle.replay_objects.proofs.monitors.Monitors.remove.Goals as goal

pub returns : goal.returns
returns c =
    ap (map monitor_view) (filter_same _ _ _ (λ x b f' k. search rules) _ _ c.retain.ensures.filtered)
    ∙ kept_as (λ m. not (m.object == c.args.object.number)) c.self.inside.monitors.items
    ∙ ap (λ l. without_monitor l c.args.object.number) c.self.view_is
