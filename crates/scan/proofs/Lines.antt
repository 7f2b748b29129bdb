-- Lines are counted on over blanks and comments, since no token has an end of a line in it.
use Rattle.std.proofs.Common.{◌≡◌, ℕ, ◌+◌, ◌-◌, ◌≤◌, Bool, true, false, cond, List, [], ◌∷◌, ◌++◌, take, drop, refl, sym, ap, ◌∙◌, arith, inl, inr}
use Rattle.std.specs.Prelude.{slice_range, ◌==◌}
use Rattle.std.proofs.lemmas.Bool.{or_parts, eqb-true, false_from_ne_true}
use Rattle.std.proofs.lemmas.List.Sums.{count_by-le-length, sum_by-append}
use Rattle.std.proofs.Math.Seq.{take-add}
use Rattle.scan.specs.declared.token.Kind.{Kind}
use Rattle.scan.specs.declared.token.Kind.TheVariants.{Name, Reserved, Number, Text, Symbol}
use Rattle.scan.specs.declared.token.Mark.{Mark}
use Rattle.scan.specs.Bytes.{is_blank, is_word, is_text}
use Rattle.scan.specs.Spelling.{Every, IsLexeme, IsToken, mark_bytes, line_ends, line_of}
use Rattle.scan.proofs.Words.{name_words}
use Rattle.scan.proofs.Signs.{one_or_two}
use Rattle.scan.proofs.Digits.{number_words}

pub ruleset counts = (count_by-le-length)

ends_both : (a b : List ℕ) → line_ends (a ++ b) ≡ line_ends a + line_ends b
ends_both a b = sum_by-append (λ byte. cond (byte == 10) 1 0) a b

pub lines_more : (text : List ℕ) (a b : ℕ) → a ≤ b → line_ends (take a text) + line_ends (slice_range text a b) ≡ line_ends (take b text)
lines_more text a b le =
    let f : b ≡ a + (b - a) = omega arith in
    sym (ends_both (take a text) (take (b - a) (drop a text))) ∙ ap line_ends (sym (take-add a (b - a) text)) ∙ ap (λ n. line_ends (take n text)) (sym f)

-- bytes of a class that has no end of a line
no_ends : (p : ℕ → Bool) (s : List ℕ) → p 10 ≡ false → Every p s → line_ends s ≡ 0
no_ends p [] none h = refl
no_ends p (b ∷ s) none h =
    let other : (b == 10) ≡ false = false_from_ne_true (b == 10) (λ t. let f : true ≡ false = sym h.0 ∙ ap p (eqb-true b 10 t) ∙ none in absurd cc) in
    rw other (no_ends p s none h.1)

no_blank_no_end : (b : ℕ) → is_blank b ≡ false → (b == 10) ≡ false
no_blank_no_end b other = (or_parts _ (b == 10) other).1

mark_ends : (mark : Mark) → line_ends (mark_bytes mark) ≡ 0
mark_ends mark =
    elim (one_or_two mark) [
      | inl w ↦ ap line_ends w.1 ∙ rw (no_blank_no_end w.0 w.3.0) refl
      | inr w ↦ ap line_ends w.2 ∙ rw (no_blank_no_end w.0 w.4.0, no_blank_no_end w.1 w.5) refl
    ]

lexeme_ends : (kind : Kind) (word : List ℕ) → IsLexeme kind word → line_ends word ≡ 0
lexeme_ends Name word h = no_ends is_word word refl (name_words word h.0)
lexeme_ends (Reserved w) word h = no_ends is_word word refl (name_words word h.0)
lexeme_ends (Number unsigned value) word h = no_ends is_word word refl (number_words word value unsigned h)
lexeme_ends Text word h =
    let inside : line_ends h.0 ≡ 0 = no_ends is_text h.0 refl h.1 in
    let both = ends_both h.0 (34 ∷ []) in
    ap line_ends h.2 ∙ both ∙ rw inside refl
lexeme_ends (Symbol mark) word h = ap line_ends h ∙ mark_ends mark

-- a token ends in the line in which it begins
pub token_line : (text : List ℕ) (at : ℕ) (kind : Kind) (n : ℕ) → IsToken kind (drop at text) n → line_of text (at + n) ≡ line_of text at
token_line text at kind n token =
    let more = lines_more text at (at + n) (omega arith) in
    let len : (at + n) - at ≡ n = omega arith in
    let none : line_ends (slice_range text at (at + n)) ≡ 0 = ap (λ k. line_ends (take k (drop at text))) len ∙ lexeme_ends kind (take n (drop at text)) token.form in
    omega (arith, more, none)
