use Rattle.std.proofs.Common.{Ok, sym, ap, ◌∙◌}
use Rattle.syntax.specs.Tree.{Plain}
use Rattle.syntax.specs.Views.{plain_tree}
use Rattle.region_rules.specs.RegionStates.{RegionState}
use Rattle.region_rules.specs.Regions.{On}
use Rattle.region_states.specs.StatesInMemory.{names_of}
use Rattle.region_states.proofs.NameLemmas.{after_names}
use Rattle.regions.proofs.walk.plain_path.Goals as goal

pub returns-clause-names : goal.returns-clause-names
returns-clause-names c = ap names_of (c.in_ok-pass.ensures 0) ∙ after_names c.args.state.now (Plain 0 (plain_tree c.args.plain.now))

pub returns-clause-goes : goal.returns-clause-goes
returns-clause-goes c = λ line. ap (λ (s : RegionState). Ok (On s)) (sym (c.in_ok-pass.ensures line))
