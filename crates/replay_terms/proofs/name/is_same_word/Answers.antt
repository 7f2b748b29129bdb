use Rattle.std.proofs.Common.{arith}
use Rattle.replay_terms.proofs.NameLemmas.{same_words}
use Rattle.replay_terms.proofs.name.is_same_word.Goals as goal

pub returns : goal.returns
returns c =
    let name = c.args.name.now in
    let other = c.args.other.now in
    same_words name other c.args.place c.word_at.result c.word_at-2.result c.requires.name c.requires.other
    (λ i. omega (arith, c.type_inv.name i)) (λ i. omega (arith, c.type_inv.other i)) c.word_at.ensures c.word_at-2.ensures
