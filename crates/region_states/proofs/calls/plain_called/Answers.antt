use Rattle.std.proofs.Common.{Option, ap, ◌∙◌}
use Rattle.std.specs.Option.{option_map}
use Rattle.syntax.specs.Tree.{Call}
use Rattle.region_rules.specs.RegionStates.{call_of}
use Rattle.region_states.specs.StateEffects.{call_state_effect}
use Rattle.region_states.proofs.calls.plain_called.Goals as goal

pub returns : goal.returns
returns c = λ line. c.called_by.ensures ∙ ap (λ (o : Option Call). option_map call_state_effect (call_of o)) (c.own_call.ensures line)
