use Rattle.std.proofs.Common.{◌≡◌, List, length, refl, sym, ap, ◌∙◌, subst}
use Rattle.std.proofs.lemmas.Option.{slice_get_read}
use Rattle.syntax.specs.Views.{unit_tree}
use Rattle.semantics.specs.World.{Invocation}
use Rattle.semantics.specs.Load.{refused_calls}
use Rattle.replay.specs.Loading.{first_line}
use Rattle.replay.proofs.LoadLemmas.{refused, line_here, line_later}
use Rattle.replay.proofs.load.first_misfit.Goals as goal

pub returns-then-is_some : goal.returns-then-is_some
returns-then-is_some c =
    let unit = unit_tree c.args.functions.now in
    let classes = c.args.world.now.classes in
    let items = c.threads-calls-items.result.now in
    let at = slice_get_read items (length items) c.loop-calls.calls-index c.calls-item.result refl c.loop-calls-test.true c.calls-item.is in
    subst (λ (ts : List (List Invocation)). c.in_ok-line.line ≡ first_line (refused unit classes ts)) c.threads-calls-items.ensures.calls
    (line_here unit classes items c.loop-calls.calls-index c.calls-item.result c.in_ok-line.line at (c.in_ok-line.ensures ∙ ap (λ (cs : List Invocation). first_line (refused_calls unit classes cs)) c.deref.ensures.value) c.loop-calls.invariant (sym c.is_some.ensures ∙ c.if-is_some.true))

pub loop-calls-preserved : goal.loop-calls-preserved
loop-calls-preserved c =
    let unit = unit_tree c.args.functions.now in
    let classes = c.args.world.now.classes in
    let items = c.threads-calls-items.result.now in
    let at = slice_get_read items (length items) c.loop-calls.calls-index c.calls-item.result refl c.loop-calls-test.true c.calls-item.is in
    line_later unit classes items c.loop-calls.calls-index c.calls-item.result c.in_ok-line.line at (c.in_ok-line.ensures ∙ ap (λ (cs : List Invocation). first_line (refused_calls unit classes cs)) c.deref.ensures.value) c.loop-calls.invariant (sym c.is_some.ensures ∙ c.if-is_some.false)
