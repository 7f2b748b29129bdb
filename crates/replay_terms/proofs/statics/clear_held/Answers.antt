use Rattle.std.proofs.Common.{◌≤◌, length, ◌∙◌, arith}
use Rattle.semantics.specs.Views.{names_of}
use Rattle.replay_terms.proofs.WeakStatics.{seen_in, one_cleared, all_cleared, as_many, length-seen_in}
use Rattle.replay_terms.proofs.statics.clear_held.Goals as goal

pub loop-place-preserved : goal.loop-place-preserved
loop-place-preserved c = (
  one_cleared (names_of c.args.names.now) c.loop-place.held.entries (seen_in c.args.held.now.entries) c.loop-place.place c.index_mut-reference.result.now c.cleared.result c.loop-place.invariant.0 c.index_mut-reference.ensures.value c.cleared.ensures,
  as_many c.loop-place.held.entries c.loop-place.place c.cleared.result ∙ c.loop-place.invariant.1,
)

pub returns : goal.returns
returns c =
    let all : length (seen_in c.args.held.now.entries) ≤ c.loop-place.place = omega (arith, c.loop-place-test.false, length-seen_in c.args.held.now.entries) in
    all_cleared (names_of c.args.names.now) c.loop-place.held.entries (seen_in c.args.held.now.entries) c.loop-place.place c.loop-place.invariant.0 all
