use Rattle.std.proofs.Common.{List, ap, drop, map, rules, ◌∙◌}
use Rattle.syntax.specs.Views.{parameter_tree}
use Rattle.syntax.specs.declared.unit.Parameter.{Parameter}
use Rattle.semantics.specs.Checks.{all_pass}
use Rattle.replay_arguments.specs.Shares.{shared_view}
use Rattle.replay_arguments.specs.Sights.{is_wanted, scene_sight}
use Rattle.replay_arguments.proofs.PassedActuals.{all_seen_pass, well_called}
use Rattle.replay_terms.specs.Views.{method_view}
use Rattle.replay_arguments.proofs.check.calls_well.Goals as goal
use Rattle.replay_arguments.proofs.check.calls_well.Goals.{then-eq, else-eq}

pub returns-then-is_wanted : goal.returns-then-is_wanted
returns-then-is_wanted c =
    let heap = (shared_view c.args.scene.shared.now).heap in
    elim c.if-eq.branch [
      | then-eq w ↦
          well_called c.args.scene.classes.now (scene_sight c.args.scene c.args.function c.args.actuals.now) (is_wanted c.args.function) _
          (method_view c.in-Some.method) c.all_pass.result (search rules) (search rules) (search rules)
          (all_seen_pass heap (map parameter_tree c.deref.result.now) c.passed.result.now c.args.actuals.now c.all_pass.result c.passed.ensures (c.all_pass.ensures heap)
          ∙ ap (λ (ps : List Parameter). all_pass (map parameter_tree ps) (drop 2 (scene_sight c.args.scene c.args.function c.args.actuals.now).arguments)) c.deref.ensures.value)
      | else-eq w ↦ absurd (cc)
    ]
