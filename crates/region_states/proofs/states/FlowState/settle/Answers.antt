use Rattle.std.proofs.Common.{subst, sym, ap, ◌∙◌}
use Rattle.std.proofs.lemmas.Result.{on_ok_weaker}
use Rattle.std.specs.Option.{option_map}
use Rattle.syntax.specs.Tree.{Plain}
use Rattle.syntax.specs.Views.{plain_tree}
use Rattle.region_states.specs.Judgements.{settled}
use Rattle.region_states.specs.NewNames.{plain_names, AreNew}
use Rattle.region_states.specs.StatesInMemory.{names_of}
use Rattle.region_states.specs.StateEffects.{made_value}
use Rattle.region_states.proofs.states.FlowState.settle.Goals as goal

pub returns-in-Declare : goal.returns-in-Declare
returns-in-Declare c =
    on_ok_weaker c.declare.result
    (λ e line. e ∙ ap (λ p. settled c.args.self.now (Plain line (plain_tree p)) (option_map made_value c.args.call)) (sym c.in-Declare.is))
    c.declare.ensures

pub returns-in-Assign : goal.returns-in-Assign
returns-in-Assign c =
    on_ok_weaker c.assign.result
    (λ e line. e ∙ ap (λ p. settled c.args.self.now (Plain line (plain_tree p)) (option_map made_value c.args.call)) (sym c.in-Assign.is))
    c.assign.ensures

pub declare-requires : goal.declare-requires
declare-requires c = subst (λ p. AreNew (names_of c.args.self.now) (plain_names (plain_tree p))) c.in-Declare.is c.requires
