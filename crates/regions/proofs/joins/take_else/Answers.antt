use Rattle.std.proofs.Common.{Result, ◌≡◌, subst, sym, ap, ◌∙◌}
use Rattle.std.specs.Prelude.{IfOk}
use Rattle.syntax.specs.Views.{test_tree}
use Rattle.regions.specs.declared.fault.CheckError.{CheckError}
use Rattle.regions.specs.declared.joins.Path.{Path as PathInMemory}
use Rattle.region_rules.specs.RegionStates.{RegionState}
use Rattle.region_rules.specs.Regions.{where_false}
use Rattle.region_states.specs.StatesInMemory.{names_of}
use Rattle.regions.specs.Walks.{Goes}
use Rattle.region_states.proofs.NameLemmas.{where_false_names}
use Rattle.regions.proofs.joins.take_else.Goals as goal

pub returns : goal.returns
returns c = λ s expected saved same goes.
    let now = c.args.state.now in
    let test = test_tree c.args.test.now in
    let named = subst (λ (r : Result PathInMemory CheckError). IfOk r (λ _. names_of s ≡ names_of now)) c.in_ok-path.was same in
    let path = subst (λ (r : Result PathInMemory CheckError). Goes r now expected) c.in_ok-path.was goes in
    let passed = c.take_false.ensures ∙ ap (λ (t : RegionState). where_false t test) (c.exchange.ensures.after s saved named) in
    (now, c.exchange.ensures.before, sym (ap names_of passed ∙ where_false_names s test ∙ named), path, passed)
