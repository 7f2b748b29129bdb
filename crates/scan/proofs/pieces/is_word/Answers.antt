use Rattle.std.proofs.Common.{not, nat_eq, get_or, refl, arith}
use Rattle.std.proofs.lemmas.Bool.{agree_below_at}
use Rattle.scan.specs.declared.pieces.TheConstants.{WORD_BYTES}
use Rattle.scan.specs.Bytes.{is_word}
use Rattle.scan.proofs.pieces.is_word.Goals as goal

-- the table agrees with the definition at each byte
pub returns : goal.returns
returns c = agree_below_at (λ b. not (nat_eq (get_or WORD_BYTES b 0) 32)) is_word 256 c.args.byte refl (omega arith)
