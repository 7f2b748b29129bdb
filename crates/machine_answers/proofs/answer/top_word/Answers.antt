use Rattle.std.proofs.Common.{◌≡◌, ℕ, false, List, [], ◌∷◌, length, refl, sym, ◌∙◌}
use Rattle.std.specs.Prelude.{◌==◌, slice_get, unwrap_or}
use Rattle.machine_answers.proofs.answer.top_word.Goals as goal

-- the topmost of some words
topmost : (words : List ℕ) (top : ℕ) → (length words == 0) ≡ false → ((word : ℕ) (rest : List ℕ) → words ≡ word ∷ rest → top ≡ word) → top ≡ unwrap_or (slice_get words 0) 0
topmost [] top some is = absurd (cc)
topmost (word ∷ rest) top some is = is word rest refl

pub returns-else-is_empty : goal.returns-else-is_empty
returns-else-is_empty c = topmost c.args.stack.now c.top.result (sym c.is_empty.ensures ∙ c.if-is_empty.false) c.top.ensures
