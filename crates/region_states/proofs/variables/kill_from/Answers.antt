use Rattle.std.proofs.Common.{◌<◌, length, ap, ◌∙◌, arith}
use Rattle.std.proofs.Math.ListN.{length-set}
use Rattle.region_states.specs.declared.states.VariableState.{VariableState as VariableStateInMemory}
use Rattle.region_rules.specs.RegionStates.{killed_from}
use Rattle.region_states.specs.StatesInMemory.{variable_state}
use Rattle.region_states.proofs.StateLemmas.{change_more}
use Rattle.region_states.proofs.variables.kill_from.Goals as goal

pub loop-i-preserved : goal.loop-i-preserved
loop-i-preserved c =
    let ys = c.loop-i.variables.items in
    let within : c.loop-i.i < length ys = omega (arith, c.loop-i-test.true, c.loop-i.invariant.long, c.args.variables.now.ok.0) in
    record {
      done = change_more (killed_from c.args.level.number) c.args.variables.now.items ys c.loop-i.i c.index.result.now c.killed_from.result within c.loop-i.invariant.long c.loop-i.invariant.done
          (c.killed_from.ensures ∙ ap (λ (v : VariableStateInMemory). killed_from c.args.level.number (variable_state v)) c.index.ensures);
      long = length-set ys c.loop-i.i c.killed_from.result ∙ c.loop-i.invariant.long;
    }
