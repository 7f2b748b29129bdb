use Rattle.std.proofs.Common.{◌≡◌, ◌∙◌, true, false, [], sum_by, sym, ap}
use Rattle.std.specs.List.{list_all}
use Rattle.world_schedules.specs.Split.{parts_of}
use Rattle.world_schedules.specs.ReadingWords.{formed_words}
use Rattle.world_schedules.proofs.WordLemmas.{refused_form, refused_name, refused_limit, refused_others, are_allowed, stays_within}
use Rattle.world_schedules.proofs.words.read_line.Goals as goal

pub returns-in-Err-clause-words : goal.returns-in-Err-clause-words
returns-in-Err-clause-words g c =
    let e = rw c.in-Err.is at c.in_ok-words.ensures in
    rw c.at.ensures (refused_form (g.W.Word.known c.args.threads) g.W.Word.times g.W.Word.apart c.args.number c.args.so_far.now.words c.args.so_far.now.apart [] (formed_words g.W.Word.spelled (parts_of 32 c.args.line.now)) e)

pub returns-in_default-clause-words : goal.returns-in_default-clause-words
returns-in_default-clause-words g c =
    let e = rw c.in-Ok.is at c.in_ok-words.ensures in
    let k : list_all (g.W.Word.known c.args.threads) c.in-Ok.words.items ≡ false = ap (list_all (g.W.Word.known c.args.threads)) (sym c.deref.ensures.value) ∙ sym c.in_default.ensures.known in
    rw c.at-in_default.ensures (refused_name (g.W.Word.known c.args.threads) g.W.Word.times g.W.Word.apart c.args.number c.args.so_far.now.words c.args.so_far.now.apart c.in-Ok.words.items (formed_words g.W.Word.spelled (parts_of 32 c.args.line.now)) e k)

pub returns-then-more-so_far-clause-words : goal.returns-then-more-so_far-clause-words
returns-then-more-so_far-clause-words g c =
    let e = rw c.in-Ok.is at c.in_ok-words.ensures in
    let k : list_all (g.W.Word.known c.args.threads) c.in-Ok.words.items ≡ true = ap (list_all (g.W.Word.known c.args.threads)) (sym c.deref.ensures.value) ∙ sym c.in-Some.ensures.known in
    let s = ap (sum_by g.W.Word.times) c.deref.ensures.value in
    rw c.at-then-more-so_far.ensures (refused_limit (g.W.Word.known c.args.threads) g.W.Word.times g.W.Word.apart c.args.number c.args.so_far.now.words c.args.so_far.now.apart c.in-Ok.words.items (formed_words g.W.Word.spelled (parts_of 32 c.args.line.now)) e k c.requires.words (rw (← s, ← c.in-Some.ensures.words) c.if-more-so_far.true))

pub returns-then-more-so_far-2-clause-words : goal.returns-then-more-so_far-2-clause-words
returns-then-more-so_far-2-clause-words g c =
    let e = rw c.in-Ok.is at c.in_ok-words.ensures in
    let k : list_all (g.W.Word.known c.args.threads) c.in-Ok.words.items ≡ true = ap (list_all (g.W.Word.known c.args.threads)) (sym c.deref.ensures.value) ∙ sym c.in-Some.ensures.known in
    let s = ap (sum_by g.W.Word.times) c.deref.ensures.value in
    let r = ap (sum_by g.W.Word.apart) c.deref.ensures.value in
    let h = stays_within c.args.so_far.now.words (sum_by g.W.Word.times c.in-Ok.words.items) c.requires.words (rw (← s, ← c.in-Some.ensures.words) c.if-more-so_far.false) in
    rw c.at-then-more-so_far-2.ensures (refused_others (g.W.Word.known c.args.threads) g.W.Word.times g.W.Word.apart c.args.number c.args.so_far.now.words c.args.so_far.now.apart c.in-Ok.words.items (formed_words g.W.Word.spelled (parts_of 32 c.args.line.now)) e k h c.requires.apart (rw (← r, ← c.in-Some.ensures.apart) c.if-more-so_far-2.true))

pub returns-clause-words : goal.returns-clause-words
returns-clause-words g c =
    let e = rw c.in-Ok.is at c.in_ok-words.ensures in
    let k : list_all (g.W.Word.known c.args.threads) c.in-Ok.words.items ≡ true = ap (list_all (g.W.Word.known c.args.threads)) (sym c.deref.ensures.value) ∙ sym c.in-Some.ensures.known in
    let s = ap (sum_by g.W.Word.times) c.deref.ensures.value in
    let r = ap (sum_by g.W.Word.apart) c.deref.ensures.value in
    let h = stays_within c.args.so_far.now.words (sum_by g.W.Word.times c.in-Ok.words.items) c.requires.words (rw (← s, ← c.in-Some.ensures.words) c.if-more-so_far.false) in
    let o = stays_within c.args.so_far.now.apart (sum_by g.W.Word.apart c.in-Ok.words.items) c.requires.apart (rw (← r, ← c.in-Some.ensures.apart) c.if-more-so_far-2.false) in
    are_allowed (g.W.Word.known c.args.threads) g.W.Word.times g.W.Word.apart c.args.number c.args.so_far.now.words c.args.so_far.now.apart c.in-Ok.words.items (formed_words g.W.Word.spelled (parts_of 32 c.args.line.now)) e k h o
