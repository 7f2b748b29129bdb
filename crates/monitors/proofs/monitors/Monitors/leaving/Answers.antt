use Rattle.std.proofs.Common.{List, sym, ap, ◌∙◌}
use Rattle.std.specs.Prelude.{position}
use Rattle.monitors.specs.declared.monitors.Monitor.{Monitor}
use Rattle.monitors.specs.Monitors.{leaving, monitor_of}
use Rattle.monitors.proofs.MonitorLaws.{found, is_of, leaves_other, leaves_own, not_found}
use Rattle.monitors.proofs.monitors.Monitors.leaving.Goals as goal

pub returns-in_default : goal.returns-in_default
returns-in_default c =
    let none = not_found c.self.inside.monitors.items c.args.name (c.in_default.ensures ∙ ap (λ (l : List Monitor). position (is_of c.args.name) l) c.deref.ensures.value) in
    ap (leaving c.args.thread) (sym none ∙ ap (λ (l : List Monitor). monitor_of l c.args.name) c.self.view_is)

pub returns-then-held-thread : goal.returns-then-held-thread
returns-then-held-thread c =
    let there = found c.self.inside.monitors.items c.args.name c.in-Some.place c.index-held.result.now (c.in-Some.ensures ∙ ap (λ (l : List Monitor). position (is_of c.args.name) l) c.deref.ensures.value) c.index-held.ensures in
    sym (leaves_own c.args.thread c.index-held.result.now c.if-held-thread.true) ∙ ap (leaving c.args.thread) (sym there.is ∙ ap (λ (l : List Monitor). monitor_of l c.args.name) c.self.view_is)

pub returns-else-held-thread : goal.returns-else-held-thread
returns-else-held-thread c =
    let there = found c.self.inside.monitors.items c.args.name c.in-Some.place c.index-held.result.now (c.in-Some.ensures ∙ ap (λ (l : List Monitor). position (is_of c.args.name) l) c.deref.ensures.value) c.index-held.ensures in
    sym (leaves_other c.args.thread c.index-held.result.now c.if-held-thread.false) ∙ ap (leaving c.args.thread) (sym there.is ∙ ap (λ (l : List Monitor). monitor_of l c.args.name) c.self.view_is)
