use Rattle.std.proofs.Common.{sym, subst}
use Rattle.syntax.specs.Parts.{functions_of}
use Rattle.syntax.specs.Views.{unit_tree}
use Rattle.region_rules.specs.Regions.{HasRegions}
use Rattle.region_rules.proofs.Returns.{are_ended}
use Rattle.region_rules.proofs.checked.Checked.items.Goals as goal

pub returns-clause-ends : goal.returns-clause-ends
returns-clause-ends c = are_ended (functions_of (unit_tree c.items.result.now)) (subst (λ items. HasRegions (unit_tree items)) (sym c.items.ensures.same) c.self.invariant)
