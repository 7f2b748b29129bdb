use Rattle.std.proofs.Common.{sym, ap, ◌∙◌, map}
use Rattle.std.specs.Option.{option_map}
use Rattle.syntax.specs.Views.{argument_tree, call_tree}
use Rattle.region_states.proofs.EffectLemmas.{called_is}
use Rattle.region_states.proofs.calls.called_by.Goals as goal

pub returns-in-Some : goal.returns-in-Some
returns-in-Some c =
    c.made.ensures ∙ called_is (option_map (λ k. call_tree k.now) c.args.call) (call_tree c.in-Some.call.now) _ _ _ (sym (ap (option_map (λ k. call_tree k.now)) c.in-Some.is)) c.function_named.ensures c.as_bytes.ensures (ap (map argument_tree) c.deref.ensures.value)
