-- Each mark is found by its bytes.
use Rattle.std.proofs.Common.{◌≡◌, ℕ, false, List, [], ◌∷◌, Some, refl, sym, ap, ◌∙◌, inl, inr}
use Rattle.std.specs.Prelude.{◌⊎◌, ◌==◌, ◌&&◌}
use Rattle.std.proofs.lemmas.Bool.{cases_Bool, and_parts, eqb-true, cond-true, cond-false}
use Rattle.scan.specs.declared.token.Mark.{Mark}
use Rattle.scan.specs.declared.token.Mark.TheVariants.{OpenParen, CloseParen, OpenBrace, CloseBrace, OpenBracket, CloseBracket, Semicolon, Comma, Assign, Star, Arrow, Ampersand, Bar, Caret, Tilde, Exclamation, Plus, Minus, Slash, Percent, Less, Greater, LessEqual, GreaterEqual, Equal, NotEqual, LogicalAnd, LogicalOr, ShiftLeft, ShiftRight}
use Rattle.scan.specs.Bytes.{is_blank, is_name_start, is_word}
use Rattle.scan.specs.Spelling.{mark_bytes}
use Rattle.scan.specs.Reading.{lookup, lookup_pair, marks, pairs, mark_of, pair_of}

-- ---- what the tables give is right

abbrev AreRight : List (ℕ × Mark) → Type 0
AreRight [] = Unit {0}
AreRight (row ∷ rows) = (mark_bytes row.1 ≡ row.0 ∷ []) × AreRight rows

found_right : (rows : List (ℕ × Mark)) → AreRight rows → (byte : ℕ) (mark : Mark) → lookup rows byte ≡ Some mark → mark_bytes mark ≡ byte ∷ []
found_right [] right byte mark e = absurd cc
found_right (row ∷ rows) right byte mark e =
    elim (cases_Bool (byte == row.0)) [
      | inl t ↦
          let f : Some row.1 ≡ Some mark = sym (cond-true (byte == row.0) (Some row.1) (lookup rows byte) t) ∙ e in
          let g : row.1 ≡ mark = cc in
          ap mark_bytes (sym g) ∙ right.0 ∙ ap (λ k. k ∷ []) (sym (eqb-true byte row.0 t))
      | inr t ↦ found_right rows right.1 byte mark (sym (cond-false (byte == row.0) (Some row.1) (lookup rows byte) t) ∙ e)
    ]

abbrev AreRightPairs : List (ℕ × ℕ × Mark) → Type 0
AreRightPairs [] = Unit {0}
AreRightPairs (row ∷ rows) = (mark_bytes row.2 ≡ row.0 ∷ row.1 ∷ []) × AreRightPairs rows

found_right_pair : (rows : List (ℕ × ℕ × Mark)) → AreRightPairs rows → (first second : ℕ) (mark : Mark) → lookup_pair rows first second ≡ Some mark → mark_bytes mark ≡ first ∷ second ∷ []
found_right_pair [] right first second mark e = absurd cc
found_right_pair (row ∷ rows) right first second mark e =
    elim (cases_Bool (first == row.0 && second == row.1)) [
      | inl t ↦
          let f : Some row.2 ≡ Some mark = sym (cond-true (first == row.0 && second == row.1) (Some row.2) (lookup_pair rows first second) t) ∙ e in
          let g : row.2 ≡ mark = cc in
          let p = and_parts (first == row.0) (second == row.1) t in
          let a : first ≡ row.0 = eqb-true first row.0 p.0 in
          let b : second ≡ row.1 = eqb-true second row.1 p.1 in
          ap mark_bytes (sym g) ∙ right.0 ∙ ap (λ k. k ∷ row.1 ∷ []) (sym a) ∙ ap (λ k. first ∷ k ∷ []) (sym b)
      | inr t ↦ found_right_pair rows right.1 first second mark (sym (cond-false (first == row.0 && second == row.1) (Some row.2) (lookup_pair rows first second) t) ∙ e)
    ]

pub mark_bytes_one : (byte : ℕ) (mark : Mark) → mark_of byte ≡ Some mark → mark_bytes mark ≡ byte ∷ []
mark_bytes_one byte mark e = found_right marks right byte mark e
  where
    right : AreRight marks
    right = (refl, (refl, (refl, (refl, (refl, (refl, (refl, (refl, (refl, (refl, (refl, (refl, (refl, (refl, (refl, (refl, (refl, (refl, (refl, (refl, (refl, tt)))))))))))))))))))))

pub mark_bytes_two : (first second : ℕ) (mark : Mark) → pair_of first second ≡ Some mark → mark_bytes mark ≡ first ∷ second ∷ []
mark_bytes_two first second mark e = found_right_pair pairs right first second mark e
  where
    right : AreRightPairs pairs
    right = (refl, (refl, (refl, (refl, (refl, (refl, (refl, (refl, (refl, tt)))))))))

-- ---- and each mark is found

-- a mark's first byte is neither blank, nor of a word, nor a quote
abbrev pub IsMarkByte : ℕ → Type 0
IsMarkByte byte = (is_blank byte ≡ false) × (is_name_start byte ≡ false) × (is_word byte ≡ false) × ((byte == 34) ≡ false)

abbrev pub IsOne : Mark → Type 0
IsOne mark = (byte : ℕ) × (mark_bytes mark ≡ byte ∷ []) × (mark_of byte ≡ Some mark) × IsMarkByte byte

abbrev pub IsTwo : Mark → Type 0
IsTwo mark = (first second : ℕ) × (mark_bytes mark ≡ first ∷ second ∷ []) × (pair_of first second ≡ Some mark) × IsMarkByte first × (is_blank second ≡ false)

pub one_or_two : (mark : Mark) → IsOne mark ⊎ IsTwo mark
one_or_two OpenParen = inl (40, refl, refl, (refl, refl, refl, refl))
one_or_two CloseParen = inl (41, refl, refl, (refl, refl, refl, refl))
one_or_two OpenBrace = inl (123, refl, refl, (refl, refl, refl, refl))
one_or_two CloseBrace = inl (125, refl, refl, (refl, refl, refl, refl))
one_or_two OpenBracket = inl (91, refl, refl, (refl, refl, refl, refl))
one_or_two CloseBracket = inl (93, refl, refl, (refl, refl, refl, refl))
one_or_two Semicolon = inl (59, refl, refl, (refl, refl, refl, refl))
one_or_two Comma = inl (44, refl, refl, (refl, refl, refl, refl))
one_or_two Assign = inl (61, refl, refl, (refl, refl, refl, refl))
one_or_two Star = inl (42, refl, refl, (refl, refl, refl, refl))
one_or_two Arrow = inr (45, 62, refl, refl, (refl, refl, refl, refl), refl)
one_or_two Ampersand = inl (38, refl, refl, (refl, refl, refl, refl))
one_or_two Bar = inl (124, refl, refl, (refl, refl, refl, refl))
one_or_two Caret = inl (94, refl, refl, (refl, refl, refl, refl))
one_or_two Tilde = inl (126, refl, refl, (refl, refl, refl, refl))
one_or_two Exclamation = inl (33, refl, refl, (refl, refl, refl, refl))
one_or_two Plus = inl (43, refl, refl, (refl, refl, refl, refl))
one_or_two Minus = inl (45, refl, refl, (refl, refl, refl, refl))
one_or_two Slash = inl (47, refl, refl, (refl, refl, refl, refl))
one_or_two Percent = inl (37, refl, refl, (refl, refl, refl, refl))
one_or_two Less = inl (60, refl, refl, (refl, refl, refl, refl))
one_or_two Greater = inl (62, refl, refl, (refl, refl, refl, refl))
one_or_two LessEqual = inr (60, 61, refl, refl, (refl, refl, refl, refl), refl)
one_or_two GreaterEqual = inr (62, 61, refl, refl, (refl, refl, refl, refl), refl)
one_or_two Equal = inr (61, 61, refl, refl, (refl, refl, refl, refl), refl)
one_or_two NotEqual = inr (33, 61, refl, refl, (refl, refl, refl, refl), refl)
one_or_two LogicalAnd = inr (38, 38, refl, refl, (refl, refl, refl, refl), refl)
one_or_two LogicalOr = inr (124, 124, refl, refl, (refl, refl, refl, refl), refl)
one_or_two ShiftLeft = inr (60, 60, refl, refl, (refl, refl, refl, refl), refl)
one_or_two ShiftRight = inr (62, 62, refl, refl, (refl, refl, refl, refl), refl)
