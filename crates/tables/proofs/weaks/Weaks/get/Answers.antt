use Rattle.std.proofs.Common.{ℕ, Option, List, sym, ap, ◌∙◌}
use Rattle.std.specs.Prelude.{ok_or}
use Rattle.tables.specs.Keys.{value_at}
use Rattle.tables.specs.declared.fault.TableFault.TheVariants.{Dead}
use Rattle.tables.proofs.GlobalViews.{seen_at}
use Rattle.tables.proofs.weaks.Weaks.get.Goals as goal

pub returns : goal.returns
returns c =
    let at = seen_at c.self.inside.slots c.self.inside.end c.key.inside.place c.self.invariant in
    c.ok_or.ensures.value ∙ ap (λ (o : Option (Option ℕ)). ok_or o Dead) (c.copied.ensures ∙ c.get.ensures ∙ sym at ∙ ap (λ (l : List (Option (Option ℕ))). value_at l c.key.inside.place) c.self.view_is) ∙ ap (λ (k : ℕ). ok_or (value_at c.args.self.now k) Dead) c.key.view_is
