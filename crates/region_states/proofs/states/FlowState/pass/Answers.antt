use Rattle.std.proofs.Common.{Option, List, subst, sym, ap, ◌∙◌}
use Rattle.std.proofs.lemmas.Result.{on_ok_weaker}
use Rattle.std.specs.Option.{option_map}
use Rattle.base.specs.Bytes.{Identifier}
use Rattle.syntax.specs.Tree.{Plain}
use Rattle.syntax.specs.Views.{plain_tree}
use Rattle.region_states.specs.StateEffects.{EffectCall, made_value}
use Rattle.region_states.specs.Judgements.{settled}
use Rattle.region_rules.specs.RegionStates.{RegionState}
use Rattle.region_states.specs.NewNames.{plain_names, AreNew}
use Rattle.region_states.specs.StatesInMemory.{names_of}
use Rattle.region_states.proofs.NameLemmas.{effected_names}
use Rattle.region_states.proofs.JudgementLemmas.{behind_is, after_judged}
use Rattle.region_states.proofs.states.FlowState.pass.Goals as goal

pub returns : goal.returns
returns c =
    on_ok_weaker c.settle.result
    (λ e line.
    let old = c.args.self.now in
    let s = Plain line (plain_tree c.args.plain.now) in
    e line
    ∙ ap (λ (middle : RegionState). settled middle s (option_map made_value c.plain_called-call.result)) c.take_effect.ensures
    ∙ ap (λ (call : Option EffectCall). after_judged old s call) (c.plain_called-call.ensures line)
    ∙ sym (behind_is old s))
    c.settle.ensures

pub settle-requires : goal.settle-requires
settle-requires c =
    let now = c.args.self.now in
    subst (λ (names : List Identifier). AreNew names (plain_names (plain_tree c.args.plain.now)))
    (sym (ap names_of c.take_effect.ensures ∙ effected_names now (option_map made_value c.plain_called-call.result)))
    c.requires
