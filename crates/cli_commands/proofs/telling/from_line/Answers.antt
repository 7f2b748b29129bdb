use Rattle.std.proofs.Common.{◌∙◌, ◌-◌, rules, arith}
use Rattle.cli_commands.proofs.TellingLemmas.{line_first, line_end, line_feed, line_other}
use Rattle.cli_commands.proofs.telling.from_line.Goals as goal

pub returns-in_default : goal.returns-in_default
returns-in_default c = line_end c.loop-left.left c.loop-left.rest.now (search rules) ∙ c.loop-left.invariant

pub loop-left-preserved-then-byte-eq10 : goal.loop-left-preserved-then-byte-eq10
loop-left-preserved-then-byte-eq10 c =
    line_feed (c.loop-left.left - 1) c.loop-left.left c.loop-left.rest.now c.in-Some.after.now c.in-Some.byte.now (omega (arith, c.loop-left-test.true)) (search rules) c.if-byte-eq10.true ∙ c.loop-left.invariant

pub loop-left-preserved : goal.loop-left-preserved
loop-left-preserved c =
    line_other (c.loop-left.left - 1) c.loop-left.left c.loop-left.rest.now c.in-Some.after.now c.in-Some.byte.now (omega (arith, c.loop-left-test.true)) (search rules) c.if-byte-eq10.false ∙ c.loop-left.invariant

pub returns : goal.returns
returns c = line_first c.loop-left.left c.loop-left.rest.now (search rules) ∙ c.loop-left.invariant
