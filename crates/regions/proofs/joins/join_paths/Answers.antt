use Rattle.std.proofs.Common.{ap, ap₂, sym, Ok, ◌∙◌}
use Rattle.regions.specs.declared.joins.Path.{Path as PathInMemory}
use Rattle.region_rules.specs.declared.rule.RegionRule.TheVariants.{PathsDiffer}
use Rattle.region_rules.specs.RegionStates.{RegionState}
use Rattle.region_rules.specs.Regions.{On}
use Rattle.regions.specs.Walks.{path_value}
use Rattle.regions.specs.Paths.{join_paths, path_if}
use Rattle.region_states.proofs.Same.{state_decides}
use Rattle.regions.proofs.joins.join_paths.Goals as goal

pub returns-then-is_as_saved-clause-goes : goal.returns-then-is_as_saved-clause-goes
returns-then-is_as_saved-clause-goes c = λ a saved same.
    let now = c.args.state.now in
    let is = c.if-is_as_saved.ensures a saved same in
    ap₂ (λ (v w : PathInMemory). join_paths c.args.line (Ok (path_value v a)) (Ok (path_value w now))) c.in-On.is c.in-On-second.is
    ∙ ap (λ b. path_if b (On a) (c.args.line, PathsDiffer)) (sym is)
    ∙ ap (λ (s : RegionState). Ok (On s)) ((state_decides a now).0 (sym is))
