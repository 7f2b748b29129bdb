use Rattle.std.proofs.Common.{◌-◌, length, rules}
use Rattle.cli_commands.proofs.TellingLemmas.{shown_none, shown_end, shown_feed, shown_whole, shown_push}
use Rattle.cli_commands.specs.Telling.{shown_line}
use Rattle.cli_commands.proofs.telling.shown_line.Goals as goal

pub returns-in_default : goal.returns-in_default
returns-in_default c =
    shown_whole c.loop-rest.shown.items _ (shown_line 160 c.args.text.now) (shown_end (160 - length c.loop-rest.shown.items) c.loop-rest.rest.now (search rules)) c.loop-rest.invariant.1

pub returns-then-byte-eq10 : goal.returns-then-byte-eq10
returns-then-byte-eq10 c =
    shown_whole c.loop-rest.shown.items _ (shown_line 160 c.args.text.now) (shown_feed (160 - length c.loop-rest.shown.items) c.loop-rest.rest.now c.in-Some.after.now c.in-Some.byte.now (search rules) c.if-byte-eq10.true) c.loop-rest.invariant.1

pub loop-rest-preserved : goal.loop-rest-preserved
loop-rest-preserved c =
    shown_push c.loop-rest.shown.items c.push.new.self.items c.loop-rest.rest.now c.in-Some.after.now (shown_line 160 c.args.text.now) c.in-Some.byte.now c.shown_byte.result
    c.push.ensures.items c.shown_byte.ensures (search rules) (search rules) c.if-byte-eq10.false c.loop-rest.invariant.1

pub returns : goal.returns
returns c =
    shown_whole c.loop-rest.shown.items _ (shown_line 160 c.args.text.now) (shown_none (160 - length c.loop-rest.shown.items) c.loop-rest.rest.now (search rules)) c.loop-rest.invariant.1
