-- Where nothing can be read, the text has the fault that is answered.
use Rattle.std.proofs.Common.{◌≡◌, ℕ, ◌+◌, ◌<◌, Bool, true, false, List, [], ◌∷◌, ◌++◌, length, get_or, take, Option, Some, None, Result, Ok, Err, refl, sym, ap, subst, ◌∙◌, arith, inl, inr}
use Rattle.std.specs.Prelude.{◌≢◌, ◌==◌, ◌&&◌}
use Rattle.std.specs.List.{prefix_len}
use Rattle.std.specs.Option.{option_map}
use Rattle.std.proofs.lemmas.Bool.{and_parts, or_cases, eqb-true, eq-eqb}
use Rattle.base.specs.Bytes.{is_from_to}
use Rattle.scan.specs.declared.token.Kind.{Kind}
use Rattle.scan.specs.declared.token.Kind.TheVariants.{Name, Reserved, Number, Text, Symbol}
use Rattle.scan.specs.declared.token.Mark.{Mark}
use Rattle.scan.specs.declared.token.Mark.TheVariants.{OpenParen, CloseParen, OpenBrace, CloseBrace, OpenBracket, CloseBracket, Semicolon, Comma, Assign, Star, Arrow, Ampersand, Bar, Caret, Tilde, Exclamation, Plus, Minus, Slash, Percent, Less, Greater, LessEqual, GreaterEqual, Equal, NotEqual, LogicalAnd, LogicalOr, ShiftLeft, ShiftRight}
use Rattle.scan.specs.declared.fault.ScanRule.{ScanRule}
use Rattle.scan.specs.declared.fault.ScanRule.TheVariants.{BadByte, OpenComment, BadNumber, BadText}
use Rattle.scan.specs.Bytes.{is_blank, is_name_start, is_word, is_text, is_in_line}
use Rattle.scan.specs.Spelling.{IsLexeme, IsToken, mark_bytes}
use Rattle.scan.specs.Faults.{BeginsNothing, HasFault}
use Rattle.scan.specs.Reading.{Piece, piece_at, name_at, number_at, number_of, number_piece, text_at, comment_or_mark, mark_piece, mark_of, pair_of, block_piece, close_len}
use Rattle.scan.proofs.Words.{figure_is_word}
use Rattle.scan.proofs.Digits.{number_first}
use Rattle.scan.proofs.Grammar.{chosen}
use Rattle.scan.proofs.Tokens.{token_again}

abbrev answer : Piece → Result Piece ScanRule
answer p = Ok p

abbrev refused : ScanRule → Result Piece ScanRule
refused fault = Err fault

no_refusal : (p : Piece) (fault : ScanRule) → answer p ≡ refused fault → ⊥
no_refusal p fault e = absurd cc

same_fault : (a b : ScanRule) → refused a ≡ refused b → a ≡ b
same_fault a b e = cc

-- ---- a byte with which nothing begins

-- The first byte of each mark is one too.
first_of : (mark : Mark) → (byte : ℕ) × (rest : List ℕ) × (one : Mark) × (mark_bytes mark ≡ byte ∷ rest) × (mark_of byte ≡ Some one)
first_of OpenParen = (40, [], OpenParen, refl, refl)
first_of CloseParen = (41, [], CloseParen, refl, refl)
first_of OpenBrace = (123, [], OpenBrace, refl, refl)
first_of CloseBrace = (125, [], CloseBrace, refl, refl)
first_of OpenBracket = (91, [], OpenBracket, refl, refl)
first_of CloseBracket = (93, [], CloseBracket, refl, refl)
first_of Semicolon = (59, [], Semicolon, refl, refl)
first_of Comma = (44, [], Comma, refl, refl)
first_of Assign = (61, [], Assign, refl, refl)
first_of Star = (42, [], Star, refl, refl)
first_of Arrow = (45, 62 ∷ [], Minus, refl, refl)
first_of Ampersand = (38, [], Ampersand, refl, refl)
first_of Bar = (124, [], Bar, refl, refl)
first_of Caret = (94, [], Caret, refl, refl)
first_of Tilde = (126, [], Tilde, refl, refl)
first_of Exclamation = (33, [], Exclamation, refl, refl)
first_of Plus = (43, [], Plus, refl, refl)
first_of Minus = (45, [], Minus, refl, refl)
first_of Slash = (47, [], Slash, refl, refl)
first_of Percent = (37, [], Percent, refl, refl)
first_of Less = (60, [], Less, refl, refl)
first_of Greater = (62, [], Greater, refl, refl)
first_of LessEqual = (60, 61 ∷ [], Less, refl, refl)
first_of GreaterEqual = (62, 61 ∷ [], Greater, refl, refl)
first_of Equal = (61, 61 ∷ [], Assign, refl, refl)
first_of NotEqual = (33, 61 ∷ [], Exclamation, refl, refl)
first_of LogicalAnd = (38, 38 ∷ [], Ampersand, refl, refl)
first_of LogicalOr = (124, 124 ∷ [], Bar, refl, refl)
first_of ShiftLeft = (60, 60 ∷ [], Less, refl, refl)
first_of ShiftRight = (62, 62 ∷ [], Greater, refl, refl)

nothing : (a : ℕ) → is_blank a ≡ false → is_word a ≡ false → is_name_start a ≡ false → (a == 34) ≡ false → mark_of a ≡ None → BeginsNothing a
nothing a blank word letter quote unmarked = record { no_blank = blank; no_lexeme = none }
  where
    none : (kind : Kind) (rest : List ℕ) → IsLexeme kind (a ∷ rest) → ⊥
    none Name rest h = let f : true ≡ false = sym h.0.0 ∙ letter in absurd cc
    none (Reserved w) rest h = let f : true ≡ false = sym h.0.0 ∙ letter in absurd cc
    none (Number unsigned value) rest h = let f : true ≡ false = sym (figure_is_word a (number_first a rest value unsigned h)) ∙ word in absurd cc
    none Text rest h = let e : a ≡ 34 = cc in let f : true ≡ false = sym (eq-eqb a 34 e) ∙ quote in absurd cc
    none (Symbol mark) rest h =
        let w = first_of mark in
        let e : a ∷ rest ≡ w.0 ∷ w.1 = h ∙ w.3 in
        let first : a ≡ w.0 = cc in
        let f : None ≡ Some w.2 = sym unmarked ∙ ap mark_of first ∙ w.4 in
        absurd cc

-- ---- a comment without end

none_mapped : (o : Option ℕ) → option_map (λ n. n + 1) o ≡ None → o ≡ None
none_mapped None e = refl
none_mapped (Some n) e = absurd cc

unclosed : (s : List ℕ) → close_len s ≡ None → (front back : List ℕ) → s ≢ front ++ 42 ∷ 47 ∷ back
unclosed [] e [] back is = absurd cc
unclosed [] e (x ∷ front) back is = absurd cc
unclosed (a ∷ []) e [] back is = absurd cc
unclosed (a ∷ []) e (x ∷ []) back is = absurd cc
unclosed (a ∷ []) e (x ∷ y ∷ front) back is = absurd cc
unclosed (a ∷ b ∷ rest) e front back is =
    elim (chosen (a == 42 && b == 47) _ _ None e) [
      | inl w ↦ absurd cc
      | inr w ↦ later front is w.0 w.1 (λ none more. unclosed (b ∷ rest) none more back)
    ]
  where
    later : (front : List ℕ) → a ∷ b ∷ rest ≡ front ++ 42 ∷ 47 ∷ back → (a == 42 && b == 47) ≡ false → option_map (λ n. n + 1) (close_len (b ∷ rest)) ≡ None → (close_len (b ∷ rest) ≡ None → (more : List ℕ) → b ∷ rest ≢ more ++ 42 ∷ 47 ∷ back) → ⊥
    later [] is fails none rec =
        let first : a ≡ 42 = cc in
        let second : b ≡ 47 = cc in
        let t : (a == 42 && b == 47) ≡ true = rw (first, second) refl in
        let f : true ≡ false = sym t ∙ fails in
        absurd cc
    later (x ∷ front) is fails none rec = let g : b ∷ rest ≡ front ++ 42 ∷ 47 ∷ back = cc in rec (none_mapped _ none) front g

-- ---- where nothing is read

mark_refused : (pair one : Option Mark) (fault : ScanRule) → mark_piece pair one ≡ refused fault → (one ≡ None) × (BadByte ≡ fault)
mark_refused (Some m) one fault e = absurd (no_refusal (Some (Symbol m), 2) fault e)
mark_refused None (Some m) fault e = absurd (no_refusal (Some (Symbol m), 1) fault e)
mark_refused None None fault e = (refl, same_fault BadByte fault e)

number_refused : (o : Option (ℕ × Bool)) (glued : Bool) (len : ℕ) (fault : ScanRule) → number_piece o glued len ≡ refused fault → BadNumber ≡ fault
number_refused None glued len fault e = same_fault BadNumber fault e
number_refused (Some v) true len fault e = same_fault BadNumber fault e
number_refused (Some v) false len fault e = absurd (no_refusal (Some (Number v.1 v.0), len) fault e)

-- where nothing is read, there is no token
no_token : (s : List ℕ) (fault : ScanRule) → piece_at s ≡ refused fault → (kind : Kind) (n : ℕ) → IsToken kind s n → ⊥
no_token s fault e kind n token = no_refusal (Some kind, n) fault (sym (token_again s kind n token) ∙ e)

comment_refused : (a : ℕ) (rest : List ℕ) (fault : ScanRule) → (mark_of a ≡ None → BeginsNothing a) → comment_or_mark a rest ≡ refused fault → HasFault (a ∷ rest) fault
unfolding comment_or_mark
comment_refused a [] fault bare e = let p = mark_refused (pair_of a 0) (mark_of a) fault e in subst (HasFault (a ∷ [])) p.1 (a, [], refl, bare p.0)
comment_refused a (b ∷ inside) fault bare e =
    elim (chosen (a == 47 && b == 42) _ _ (refused fault) e) [
      | inl w ↦ let p = and_parts (a == 47) (b == 42) w.0 in block (eqb-true a 47 p.0) (eqb-true b 42 p.1) (close_len inside) refl w.1
      | inr w ↦ elim (chosen (a == 47 && b == 47) _ _ (refused fault) w.1) [
        | inl v ↦ absurd (no_refusal (None, prefix_len is_in_line inside + 2) fault v.1)
        | inr v ↦ let p = mark_refused (pair_of a b) (mark_of a) fault v.1 in subst (HasFault (a ∷ b ∷ inside)) p.1 (a, b ∷ inside, refl, bare p.0)
      ]
    ]
  where
    block : a ≡ 47 → b ≡ 42 → (o : Option ℕ) → close_len inside ≡ o → block_piece o ≡ refused fault → HasFault (a ∷ b ∷ inside) fault
    block first second (Some len) is e = absurd (no_refusal (None, len + 2) fault e)
    block first second None is e = subst (HasFault (a ∷ b ∷ inside)) (same_fault OpenComment fault e) (inside, rw (first, second) refl, unclosed inside is)

-- a word that begins with no letter begins with a digit
digit_first : (a : ℕ) → is_name_start a ≡ false → is_word a ≡ true → is_from_to 48 57 a ≡ true
digit_first a letter word = elim (or_cases (is_name_start a) (is_from_to 48 57 a) word) [ inl w ↦ let f : true ≡ false = sym w ∙ letter in absurd cc | inr w ↦ w ]

pub fault_here : (s : List ℕ) (fault : ScanRule) → 0 < length s → piece_at s ≡ Err fault → HasFault s fault
unfolding piece_at number_at text_at
fault_here [] fault lt e = absurd (omega (arith, lt))
fault_here (a ∷ rest) fault lt e =
    elim (chosen (is_blank a) _ _ (refused fault) e) [
      | inl w ↦ absurd (no_refusal (None, 1) fault w.1)
      | inr blank ↦ elim (chosen (is_name_start a) _ _ (refused fault) blank.1) [
        | inl w ↦ absurd (no_refusal (name_at (a ∷ rest)) fault w.1)
        | inr letter ↦ elim (chosen (is_word a) _ _ (refused fault) letter.1) [
          | inl w ↦ number letter.0 w.0 (number_refused (number_of (take (prefix_len is_word (a ∷ rest)) (a ∷ rest))) _ (prefix_len is_word (a ∷ rest)) fault w.1)
          | inr word ↦ elim (chosen (a == 34) _ _ (refused fault) word.1) [
            | inl w ↦ text (eqb-true a 34 w.0) w.1
            | inr quote ↦ comment_refused a rest fault (nothing a blank.0 word.0 letter.0 quote.0) quote.1
          ]
        ]
      ]
    ]
  where
    number : is_name_start a ≡ false → is_word a ≡ true → BadNumber ≡ fault → HasFault (a ∷ rest) fault
    number letter word is = subst (HasFault (a ∷ rest)) is (a, rest, refl, digit_first a letter word, λ value unsigned n token. no_token (a ∷ rest) fault e (Number unsigned value) n token)

    text : a ≡ 34 → text_at rest ≡ refused fault → HasFault (a ∷ rest) fault
    text first read =
        elim (chosen (get_or rest (prefix_len is_text rest) 0 == 34) _ _ (refused fault) read) [
          | inl w ↦ absurd (no_refusal (Some Text, prefix_len is_text rest + 2) fault w.1)
          | inr w ↦ subst (HasFault (a ∷ rest)) (same_fault BadText fault w.1) (rest, rw first refl, λ n token. no_token (a ∷ rest) fault e Text n token)
        ]
