use Rattle.std.proofs.Common.{◌-◌, length, ◌∙◌, sym, arith}
use Rattle.replay_terms.proofs.NameLemmas.{decides, more}
use Rattle.replay_terms.proofs.name.is_same.Goals as goal

pub loop-place-preserved : goal.loop-place-preserved
loop-place-preserved c =
    more c.args.name.now c.args.other.now c.loop-place.place c.loop-place.invariant (sym c.is_same_word.ensures ∙ c.if-not-is_same_word.false)

pub returns : goal.returns
returns c =
    let name = c.args.name.now in
    let last = length name - 4 in
    c.is_same_word-2.ensures
    ∙ decides name c.args.other.now last c.loop-place.place c.if-name-other.false (omega (arith, c.if-name-lt-WORD.false)) c.loop-place-test.false c.loop-place.invariant
