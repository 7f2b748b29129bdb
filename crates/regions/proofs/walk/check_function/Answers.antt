use Rattle.std.proofs.Common.{ℕ, Result, Ok, Some, sym, ap, ◌∙◌}
use Rattle.syntax.specs.Views.{block_tree, function_tree}
use Rattle.regions.specs.declared.joins.Path.{Path as PathInMemory}
use Rattle.regions.specs.Findings.{end_line_of, fault_at_end}
use Rattle.region_rules.specs.declared.rule.RegionRule.TheVariants.{NoReturn}
use Rattle.region_rules.specs.RegionStates.{RegionState, state_at_entry}
use Rattle.region_rules.specs.Regions.{Path}
use Rattle.region_states.specs.StatesInMemory.{names_of}
use Rattle.regions.specs.Walks.{path_value}
use Rattle.regions.specs.Paths.{Found, path_of_block}
use Rattle.regions.proofs.PathLemmas.{end_line_is}
use Rattle.regions.proofs.walk.check_function.Goals as goal

pub returns-in-On : goal.returns-in-On
returns-in-On c =
    let body = block_tree c.args.f.now.body in
    let entry = state_at_entry (function_tree c.args.f.now) in
    let path =
    ap (λ (s : RegionState). path_of_block entry s body) (sym c.in_ok-enter.ensures)
    ∙ c.in_ok-block_path.ensures.goes entry (ap names_of (sym c.in_ok-enter.ensures)) ∙ ap (λ (w : PathInMemory). Ok (path_value w c.block_path.new.state)) c.in-On.is in
    ap (λ (r : Result Path Found). fault_at_end r (end_line_of body)) path ∙ ap (λ (n : ℕ). Some (n, NoReturn)) (end_line_is c.args.f.now.body ∙ sym c.told.ensures)
