use Rattle.std.proofs.Common.{◌≢◌, List, sym, ap, ◌∙◌, arith}
use Rattle.std.specs.Prelude.{position}
use Rattle.monitors.specs.declared.monitors.Monitor.{Monitor}
use Rattle.monitors.specs.Monitors.{entering, monitor_of}
use Rattle.monitors.proofs.MonitorLaws.{counted, enters_busy, enters_limit, enters_more, found, is_of, not_found}
use Rattle.monitors.proofs.monitors.Monitors.entering.Goals as goal

pub returns-in_default : goal.returns-in_default
returns-in_default c =
    let none = not_found c.self.inside.monitors.items c.args.name (c.in_default.ensures ∙ ap (λ (l : List Monitor). position (is_of c.args.name) l) c.deref.ensures.value) in
    ap (entering c.args.thread) (sym none ∙ ap (λ (l : List Monitor). monitor_of l c.args.name) c.self.view_is)

pub returns-then-held-thread : goal.returns-then-held-thread
returns-then-held-thread c =
    let there = found c.self.inside.monitors.items c.args.name c.in-Some.place c.index-held.result.now (c.in-Some.ensures ∙ ap (λ (l : List Monitor). position (is_of c.args.name) l) c.deref.ensures.value) c.index-held.ensures in
    sym (enters_busy c.args.thread c.index-held.result.now c.if-held-thread.true) ∙ ap (entering c.args.thread) (sym there.is ∙ ap (λ (l : List Monitor). monitor_of l c.args.name) c.self.view_is)

pub returns-then-held : goal.returns-then-held
returns-then-held c =
    let there = found c.self.inside.monitors.items c.args.name c.in-Some.place c.index-held.result.now (c.in-Some.ensures ∙ ap (λ (l : List Monitor). position (is_of c.args.name) l) c.deref.ensures.value) c.index-held.ensures in
    sym (enters_limit c.args.thread c.index-held.result.now c.if-held-thread.false c.if-held.true) ∙ ap (entering c.args.thread) (sym there.is ∙ ap (λ (l : List Monitor). monitor_of l c.args.name) c.self.view_is)

pub returns-else-held : goal.returns-else-held
returns-else-held c =
    let there = found c.self.inside.monitors.items c.args.name c.in-Some.place c.index-held.result.now (c.in-Some.ensures ∙ ap (λ (l : List Monitor). position (is_of c.args.name) l) c.deref.ensures.value) c.index-held.ensures in
    let counts = counted c.self.inside.monitors.items c.in-Some.place c.index-held.result.now c.self.invariant there.within c.index-held.ensures in
    let fewer : c.index-held.result.now.count ≢ 255 = c.if-held.false in
    sym (enters_more c.args.thread c.index-held.result.now c.if-held-thread.false (omega arith)) ∙ ap (entering c.args.thread) (sym there.is ∙ ap (λ (l : List Monitor). monitor_of l c.args.name) c.self.view_is)
