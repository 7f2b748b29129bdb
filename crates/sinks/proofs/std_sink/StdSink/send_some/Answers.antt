use Rattle.std.proofs.Common.{◌≡◌, ◌+◌, ◌++◌, take, drop, ap, sym, ◌∙◌}
use Rattle.std.proofs.lemmas.List.{take-append-drop, drop-drop}
use Rattle.std.proofs.KnownBytes.{append_known-moved}
use Rattle.sinks.proofs.std_sink.StdSink.send_some.Goals as goal

pub returns-clause-kept : goal.returns-clause-kept
returns-clause-kept g c =
    let waiting = c.split_at.result.1.now in
    let at : waiting ≡ drop c.args.self.now.sent c.args.self.now.buffer.items = c.split_at.ensures.back ∙ ap (drop c.args.self.now.sent) c.as_slice.ensures.value in
    let cut : drop c.args.self.now.sent c.args.self.now.buffer.items ≡ take c.in_ok-taken.taken waiting ++ drop (c.args.self.now.sent + c.in_ok-taken.taken) c.args.self.now.buffer.items =
    sym at ∙ sym (take-append-drop c.in_ok-taken.taken waiting)
    ∙ ap (λ r. take c.in_ok-taken.taken waiting ++ r) (ap (drop c.in_ok-taken.taken) at ∙ drop-drop c.in_ok-taken.taken c.args.self.now.sent c.args.self.now.buffer.items) in
    append_known-moved (g.W.Write.contents c.args.self.now.writer) (g.W.Write.contents c.write_some.new.writer) (take c.in_ok-taken.taken waiting)
    (drop (c.args.self.now.sent + c.in_ok-taken.taken) c.args.self.now.buffer.items) (drop c.args.self.now.sent c.args.self.now.buffer.items) c.in_ok-taken.ensures.taken cut
