use Rattle.std.proofs.Common.{[], ◌∷◌, ◌++◌}
use Rattle.cli_words.specs.CommandLine.{trace_rule, trace_calls_rule}
use Rattle.cli_words.proofs.CommandLineLemmas.{word_more, word_added}
use Rattle.cli_words.proofs.command_line.with_traces.Goals as goal

pub returns : goal.returns
returns c = λ name rules leaf.
    word_added c.in_ok-arg.field-0 c.trace_calls.result c.arg-2.result name (rules ++ trace_rule ∷ []) trace_calls_rule
    (word_more c.args.command c.trace.result c.in_ok-arg.field-0 name rules trace_rule leaf c.trace.ensures.rule c.trace.ensures.local c.in_ok-arg.ensures)
    c.trace_calls.ensures.rule c.trace_calls.ensures.local c.arg-2.ensures
