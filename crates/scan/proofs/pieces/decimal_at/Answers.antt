use Rattle.std.proofs.Common.{sym, ◌∙◌}
use Rattle.std.proofs.lemmas.Bool.{not-true}
use Rattle.scan.proofs.Decimals.{plain_read, unsigned_read}
use Rattle.scan.proofs.FirstBytes.{digits_piece}
use Rattle.scan.proofs.pieces.decimal_at.Goals as goal

pub returns-then-ends_word : goal.returns-then-ends_word
returns-then-ends_word c =
    digits_piece c.args.text.now c.in_ok-value.len c.in_ok-value.ensures.formed ∙ unsigned_read c.args.text.now c.in_ok-value.len c.in_ok-value.value c.if-len-text.true c.in_ok-value.ensures.formed c.in_ok-value.ensures.value c.in_ok-value.ensures.small c.if-text-len-eq117.true (not-true _ (sym c.if-ends_word.ensures))

pub returns-then-ends_word-2 : goal.returns-then-ends_word-2
returns-then-ends_word-2 c =
    digits_piece c.args.text.now c.in_ok-value.len c.in_ok-value.ensures.formed ∙ plain_read c.args.text.now c.in_ok-value.len c.in_ok-value.value c.in_ok-value.ensures.within c.in_ok-value.ensures.formed c.in_ok-value.ensures.value c.in_ok-value.ensures.small (not-true _ (sym c.if-ends_word-2.ensures))
