use Rattle.std.proofs.Common.{◌≡◌, ℕ, suc, ◌-◌, ◌<◌, [], ◌∷◌, drop, length, sym, ap, ◌∙◌, arith}
use Rattle.base.specs.Bytes.{ByName}
use Rattle.type_rules.proofs.known.Known.leave.Goals as goal

-- without its first a list has the same end
same_end : {T : Type 0} (known : ByName T) (n : ℕ) → n < length known → drop (length (drop 1 known) - n) (drop 1 known) ≡ drop (length known - n) known
same_end [] n h = absurd (omega arith)
same_end (x ∷ known) n h = let size : suc (length known) - n ≡ suc (length known - n) = omega arith in sym (ap (λ i. drop i (x ∷ known)) size)

pub loop-self-preserved : goal.loop-self-preserved
loop-self-preserved g c =
    ap (λ (known : ByName g.row.T.Denot). drop (length known - c.args.count) known) c.forget.ensures
    ∙ same_end c.loop-self.self c.args.count (omega (arith, c.len.ensures, c.loop-self-test.true))
    ∙ c.loop-self.invariant
