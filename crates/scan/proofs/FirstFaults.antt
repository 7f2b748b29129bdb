-- A text has one first fault at most, and none where it spells tokens.
use Rattle.std.proofs.Common.{◌≡◌, ℕ, zero, suc, ◌+◌, ◌<◌, true, false, List, [], ◌∷◌, ◌++◌, take, drop, Option, Some, None, Result, Ok, refl, sym, ap, subst, ◌∙◌, append_assoc, arith, inl, inr}
use Rattle.std.specs.Prelude.{◌⊎◌}
use Rattle.std.proofs.lemmas.Bool.{or_left}
use Rattle.std.proofs.lemmas.List.{drop_all}
use Rattle.base.specs.Bytes.{is_from_to}
use Rattle.scan.specs.declared.token.Kind.{Kind}
use Rattle.scan.specs.declared.token.Kind.TheVariants.{Name, Reserved, Number, Text, Symbol}
use Rattle.scan.specs.declared.token.Mark.TheVariants.{Slash}
use Rattle.scan.specs.declared.token.Token.{Token}
use Rattle.scan.specs.declared.fault.ScanRule.{ScanRule}
use Rattle.scan.specs.declared.fault.ScanRule.TheVariants.{BadByte, OpenComment, BadNumber, BadText}
use Rattle.scan.specs.Bytes.{is_blank, base_value}
use Rattle.scan.specs.Spelling.{IsName, IsLexeme, IsGap, IsToken, SpellsFrom, ends, passes, takes, Spells, line_of}
use Rattle.scan.specs.Faults.{IsFilledTo, begins, with_gap, with_token, BeginsNothing, HasFault, OneFirstFault, NoFaultWhereSpelled}
use Rattle.scan.specs.Reading.{Piece, piece_at}
use Rattle.scan.proofs.Words.{within_parts, figure_is_word, figure_no_letter, word_no_blank}
use Rattle.scan.proofs.Grammar.{gap_takes, gap_again, piece_sized}
use Rattle.scan.proofs.Tokens.{front_name, front_number, front_text, front_mark, word_no_mark, word_no_quote, token_takes, token_again}
use Rattle.scan.proofs.Runs.{gap_only, token_only, something_at}

-- ---- where a fault is, nothing can be read

no_slash : (byte : ℕ) → BeginsNothing byte → byte ≡ 47 → ⊥
no_slash byte none e = none.no_lexeme (Symbol Slash) [] (ap (λ b. b ∷ []) e)

not_blank : (byte : ℕ) → is_blank byte ≡ false → is_blank byte ≡ true → ⊥
not_blank byte is_none is_one = let f : true ≡ false = sym is_one ∙ is_none in absurd cc

-- the first byte of a comment
slash_of : (byte : ℕ) (rest text more : List ℕ) → text ≡ byte ∷ rest → text ≡ 47 ∷ more → byte ≡ 47
slash_of byte rest text more e f = let g : byte ∷ rest ≡ 47 ∷ more = sym e ∙ f in cc

no_figure : (digit : ℕ) → is_from_to 48 57 digit ≡ true → digit ≡ 47 → ⊥
no_figure digit figure e = let f : false ≡ true = subst (λ b. is_from_to 48 57 b ≡ true) e figure in absurd cc

no_gap : (text : List ℕ) (fault : ScanRule) → HasFault text fault → (n : ℕ) → IsGap text n → ⊥
no_gap text BadByte h n (inl w) = let g : h.0 ∷ h.1 ≡ w.0 ∷ w.1 = sym h.2 ∙ w.2 in let e : h.0 ≡ w.0 = cc in not_blank h.0 h.3.no_blank (ap is_blank e ∙ w.3)
no_gap text BadByte h n (inr (inl w)) = no_slash h.0 h.3 (slash_of h.0 h.1 text (42 ∷ (w.0 ++ w.1)) h.2 w.2)
no_gap text BadByte h n (inr (inr w)) = no_slash h.0 h.3 (slash_of h.0 h.1 text (47 ∷ w.0) h.2 w.1)
no_gap text OpenComment h n (inl w) = let g : 47 ∷ 42 ∷ h.0 ≡ w.0 ∷ w.1 = sym h.1 ∙ w.2 in let e : 47 ≡ w.0 = cc in not_blank 47 refl (ap is_blank e ∙ w.3)
no_gap text OpenComment h n (inr (inl w)) =
    let g : 47 ∷ 42 ∷ h.0 ≡ 47 ∷ 42 ∷ (w.0 ++ w.1) = sym h.1 ∙ w.2 in
    let e : h.0 ≡ w.0 ++ w.1 = cc in
    h.2 w.3.0 w.1 (e ∙ ap (λ (b : List ℕ). b ++ w.1) w.3.1 ∙ append_assoc w.3.0 (42 ∷ 47 ∷ []) w.1)
no_gap text OpenComment h n (inr (inr w)) = let g : 47 ∷ 42 ∷ h.0 ≡ 47 ∷ 47 ∷ w.0 = sym h.1 ∙ w.1 in let e : ◌≡◌ {A = ℕ} 42 47 = cc in absurd (omega (arith, e))
no_gap text BadNumber h n (inl w) =
    let g : h.0 ∷ h.1 ≡ w.0 ∷ w.1 = sym h.2 ∙ w.2 in
    let e : h.0 ≡ w.0 = cc in
    not_blank h.0 (word_no_blank h.0 (figure_is_word h.0 h.3)) (ap is_blank e ∙ w.3)
no_gap text BadNumber h n (inr (inl w)) = no_figure h.0 h.3 (slash_of h.0 h.1 text (42 ∷ (w.0 ++ w.1)) h.2 w.2)
no_gap text BadNumber h n (inr (inr w)) = no_figure h.0 h.3 (slash_of h.0 h.1 text (47 ∷ w.0) h.2 w.1)
no_gap text BadText h n (inl w) = let g : 34 ∷ h.0 ≡ w.0 ∷ w.1 = sym h.1 ∙ w.2 in let e : 34 ≡ w.0 = cc in not_blank 34 refl (ap is_blank e ∙ w.3)
no_gap text BadText h n (inr (inl w)) = absurd (omega (arith, slash_of 34 h.0 text (42 ∷ (w.0 ++ w.1)) h.1 w.2))
no_gap text BadText h n (inr (inr w)) = absurd (omega (arith, slash_of 34 h.0 text (47 ∷ w.0) h.1 w.1))

-- a token begins with a lexeme's first byte
no_lexeme_of : (byte : ℕ) (rest : List ℕ) (kind : Kind) (n : ℕ) → BeginsNothing byte → 0 < n → IsLexeme kind (take n (byte ∷ rest)) → ⊥
no_lexeme_of byte rest kind zero none lt form = absurd (omega (arith, lt))
no_lexeme_of byte rest kind (suc n) none lt form = none.no_lexeme kind (take n rest) form

figure_no_name : (digit : ℕ) (rest : List ℕ) (n : ℕ) → is_from_to 48 57 digit ≡ true → IsName (take n (digit ∷ rest)) → ⊥
figure_no_name digit rest n figure name = let f : true ≡ false = sym (front_name n digit rest name) ∙ figure_no_letter digit figure in absurd cc

quote_no_name : (rest : List ℕ) (n : ℕ) → IsName (take n (34 ∷ rest)) → ⊥
quote_no_name rest n name = let f : false ≡ true = front_name n 34 rest name in absurd cc

no_token : (text : List ℕ) (fault : ScanRule) → HasFault text fault → (kind : Kind) (n : ℕ) → IsToken kind text n → ⊥
no_token text BadByte h kind n token =
    no_lexeme_of h.0 h.1 kind n h.3 (piece_sized text (Some kind) n (token_again text kind n token)).0 (subst (λ (t : List ℕ). IsLexeme kind (take n t)) h.2 token.form)
no_token text OpenComment h kind n token = token.no_comment (rw h.1 (refl, inl refl))
no_token text BadNumber h Name n token = figure_no_name h.0 h.1 n h.3 (subst (λ (t : List ℕ). IsLexeme Name (take n t)) h.2 token.form).0
no_token text BadNumber h (Reserved w) n token = figure_no_name h.0 h.1 n h.3 (subst (λ (t : List ℕ). IsLexeme (Reserved w) (take n t)) h.2 token.form).0
no_token text BadNumber h (Number unsigned value) n token = h.4 value unsigned n token
no_token text BadNumber h Text n token = word_no_quote h.0 (figure_is_word h.0 h.3) (front_text n h.0 h.1 (subst (λ (t : List ℕ). IsLexeme Text (take n t)) h.2 token.form))
no_token text BadNumber h (Symbol mark) n token = word_no_mark n h.0 h.1 mark (figure_is_word h.0 h.3) (subst (λ (t : List ℕ). IsLexeme (Symbol mark) (take n t)) h.2 token.form)
no_token text BadText h Name n token = quote_no_name h.0 n (subst (λ (t : List ℕ). IsLexeme Name (take n t)) h.1 token.form).0
no_token text BadText h (Reserved w) n token = quote_no_name h.0 n (subst (λ (t : List ℕ). IsLexeme (Reserved w) (take n t)) h.1 token.form).0
no_token text BadText h (Number unsigned value) n token = let f : false ≡ true = front_number n 34 h.0 value unsigned (subst (λ (t : List ℕ). IsLexeme (Number unsigned value) (take n t)) h.1 token.form) in absurd cc
no_token text BadText h Text n token = h.2 n token
no_token text BadText h (Symbol mark) n token = let p = front_mark n 34 h.0 mark (subst (λ (t : List ℕ). IsLexeme (Symbol mark) (take n t)) h.1 token.form) in let f : true ≡ false = p.3 in absurd cc

no_piece : (text : List ℕ) (fault : ScanRule) → HasFault text fault → (kind : Option Kind) (n : ℕ) → piece_at text ≡ Ok (kind, n) → ⊥
no_piece text fault h None n e = no_gap text fault h n (gap_takes text n e)
no_piece text fault h (Some kind) n e = no_token text fault h kind n (token_takes text kind n e)

-- ---- one fault at a place

-- a digit is a number
digit_lexeme : (digit : ℕ) → is_from_to 48 57 digit ≡ true → IsLexeme (Number false (base_value 10 0 (digit ∷ []))) (digit ∷ [])
digit_lexeme digit figure = record {
  base = 10;
  sign = [];
  digits = digit ∷ [];
  based = inl (refl, refl);
  formed = ((or_left (is_from_to 48 57 digit) _ figure, tt), λ _ _. refl);
  parts = refl;
  value_is = refl;
  small = small;
}
  where
    small : base_value 10 0 (digit ∷ []) < 2147483648
    small = let p = within_parts 48 57 digit figure in rw figure (omega (arith, p.1))

no_byte_and_comment : (text : List ℕ) → HasFault text BadByte → HasFault text OpenComment → ⊥
no_byte_and_comment text h k = no_slash h.0 h.3 (slash_of h.0 h.1 text (42 ∷ k.0) h.2 k.1)

no_byte_and_number : (text : List ℕ) → HasFault text BadByte → HasFault text BadNumber → ⊥
no_byte_and_number text h k =
    let g : h.0 ∷ h.1 ≡ k.0 ∷ k.1 = sym h.2 ∙ k.2 in
    let e : h.0 ≡ k.0 = cc in
    h.3.no_lexeme (Number false (base_value 10 0 (h.0 ∷ []))) [] (digit_lexeme h.0 (ap (is_from_to 48 57) e ∙ k.3))

no_byte_and_text : (text : List ℕ) → HasFault text BadByte → HasFault text BadText → ⊥
no_byte_and_text text h k =
    let g : h.0 ∷ h.1 ≡ 34 ∷ k.0 = sym h.2 ∙ k.1 in
    let e : h.0 ≡ 34 = cc in
    h.3.no_lexeme Text (34 ∷ []) ([], tt, ap (λ b. b ∷ 34 ∷ []) e)

no_comment_and_number : (text : List ℕ) → HasFault text OpenComment → HasFault text BadNumber → ⊥
no_comment_and_number text h k = no_figure k.0 k.3 (slash_of k.0 k.1 text (42 ∷ h.0) k.2 h.1)

no_comment_and_text : (text : List ℕ) → HasFault text OpenComment → HasFault text BadText → ⊥
no_comment_and_text text h k = absurd (omega (arith, slash_of 34 k.0 text (42 ∷ h.0) k.1 h.1))

no_number_and_text : (text : List ℕ) → HasFault text BadNumber → HasFault text BadText → ⊥
no_number_and_text text h k =
    let g : h.0 ∷ h.1 ≡ 34 ∷ k.0 = sym h.2 ∙ k.1 in
    let e : h.0 ≡ 34 = cc in
    word_no_quote h.0 (figure_is_word h.0 h.3) e

same_fault : (text : List ℕ) (a b : ScanRule) → HasFault text a → HasFault text b → a ≡ b
same_fault text BadByte BadByte h k = refl
same_fault text BadByte OpenComment h k = absurd (no_byte_and_comment text h k)
same_fault text BadByte BadNumber h k = absurd (no_byte_and_number text h k)
same_fault text BadByte BadText h k = absurd (no_byte_and_text text h k)
same_fault text OpenComment BadByte h k = absurd (no_byte_and_comment text k h)
same_fault text OpenComment OpenComment h k = refl
same_fault text OpenComment BadNumber h k = absurd (no_comment_and_number text h k)
same_fault text OpenComment BadText h k = absurd (no_comment_and_text text h k)
same_fault text BadNumber BadByte h k = absurd (no_byte_and_number text k h)
same_fault text BadNumber OpenComment h k = absurd (no_comment_and_number text k h)
same_fault text BadNumber BadNumber h k = refl
same_fault text BadNumber BadText h k = absurd (no_number_and_text text h k)
same_fault text BadText BadByte h k = absurd (no_byte_and_text text k h)
same_fault text BadText OpenComment h k = absurd (no_comment_and_text text k h)
same_fault text BadText BadNumber h k = absurd (no_number_and_text text k h)
same_fault text BadText BadText h k = refl

-- ---- one place

-- blanks, comments and tokens lead from a place to another
data Leads (text : List ℕ) (to : ℕ) : ℕ → Type 0 where
  here : {at : ℕ} → at ≡ to → Leads text to at
  over : {at : ℕ} (kind : Option Kind) (n : ℕ) → piece_at (drop at text) ≡ Ok (kind, n) → Leads text to (at + n) → Leads text to at

one_more : (text : List ℕ) {to at : ℕ} (kind : Option Kind) (n : ℕ) → piece_at (drop to text) ≡ Ok (kind, n) → Leads text to at → Leads text (to + n) at
one_more text {to} kind n e (here is) = subst (λ k. Leads text (to + n) k) (sym is) (over kind n e (here refl))
one_more text kind n e (over other m f rest) = over other m f (one_more text kind n e rest)

leads : (text : List ℕ) {to : ℕ} → IsFilledTo text to → Leads text to 0
leads text begins = here refl
leads text (with_gap {at = at} n filled gap) = one_more text None n (gap_again (drop at text) n gap) (leads text filled)
leads text (with_token {at = at} kind n filled token) = one_more text (Some kind) n (token_again (drop at text) kind n token) (leads text filled)

abbrev answer : Piece → Result Piece ScanRule
answer p = Ok p

same_len : (kind other : Option Kind) (m n : ℕ) → answer (kind, m) ≡ answer (other, n) → m ≡ n
same_len kind other m n e = let p : ◌≡◌ {A = Piece} (kind, m) (other, n) = cc in ap (λ (x : Piece). x.1) p

-- something can be read at a place
abbrev GoesOn : List ℕ → ℕ → Type 0
GoesOn text at = (kind : Option Kind) × (n : ℕ) × (piece_at (drop at text) ≡ Ok (kind, n))

after : (text : List ℕ) {to at : ℕ} (kind : Option Kind) (n : ℕ) → piece_at (drop at text) ≡ Ok (kind, n) → Leads text to at → Leads text to (at + n) ⊎ GoesOn text to
after text kind n e (here is) = inr (kind, n, subst (λ k. piece_at (drop k text) ≡ Ok (kind, n)) is e)
after text {to} {at} kind n e (over other m f rest) = inl (subst (λ k. Leads text to (at + k)) (same_len other kind m n (sym f ∙ e)) rest)

-- of two places up to which the text is filled, one leads to the other
along : (text : List ℕ) {at : ℕ} → IsFilledTo text at → (to : ℕ) → Leads text to 0 → Leads text to at ⊎ GoesOn text to
along text begins to way = inl way
along text (with_gap {at = at} n filled gap) to way =
    elim (along text filled to way) [ inl w ↦ after text None n (gap_again (drop at text) n gap) w | inr w ↦ inr w ]
along text (with_token {at = at} kind n filled token) to way =
    elim (along text filled to way) [ inl w ↦ after text (Some kind) n (token_again (drop at text) kind n token) w | inr w ↦ inr w ]

stays : (text : List ℕ) (fault : ScanRule) {at to : ℕ} → HasFault (drop at text) fault → Leads text to at → at ≡ to
stays text fault h (here is) = is
stays text fault {at} h (over kind n e rest) = absurd (no_piece (drop at text) fault h kind n e)

one_place : (text : List ℕ) (a b : ScanRule) (at other : ℕ) → IsFilledTo text at → HasFault (drop at text) a → IsFilledTo text other → HasFault (drop other text) b → at ≡ other
one_place text a b at other filled h also k =
    elim (along text filled other (leads text also)) [
      | inl w ↦ stays text a h w
      | inr w ↦ absurd (no_piece (drop other text) b k w.0 w.1 w.2)
    ]

pub one_first_fault : OneFirstFault
one_first_fault text a b h k =
    let e = one_place text a.rule b.rule h.0 k.0 h.1 h.2 k.1 k.2 in
    (same_fault (drop h.0 text) a.rule b.rule h.2 (subst (λ i. HasFault (drop i text) b.rule) (sym e) k.2), h.3 ∙ ap (line_of text) e ∙ sym k.3)

-- ---- no fault where tokens are spelled

spelled_along : (text : List ℕ) {at : ℕ} → IsFilledTo text at → (tokens : List Token) → Spells text tokens → (more : List Token) × SpellsFrom text at more
spelled_along text begins tokens s = (tokens, s)
spelled_along text (with_gap {at = at} n filled gap) tokens s =
    let w = spelled_along text filled tokens s in
    let e = gap_again (drop at text) n gap in
    (w.0, gap_only text n e (something_at text at (None, n) e) w.1)
spelled_along text (with_token {at = at} kind n filled token) tokens s =
    let w = spelled_along text filled tokens s in
    let e = token_again (drop at text) kind n token in
    let v = token_only text kind n e (something_at text at (Some kind, n) e) w.1 in
    (v.0, v.2)

-- where a text ends it has no fault
no_fault_in_nothing : (fault : ScanRule) → HasFault [] fault → ⊥
no_fault_in_nothing BadByte h = let e = h.2 in absurd cc
no_fault_in_nothing OpenComment h = let e = h.1 in absurd cc
no_fault_in_nothing BadNumber h = let e = h.2 in absurd cc
no_fault_in_nothing BadText h = let e = h.1 in absurd cc

no_fault_here : (text : List ℕ) (fault : ScanRule) {at : ℕ} {more : List Token} → SpellsFrom text at more → HasFault (drop at text) fault → ⊥
no_fault_here text fault {at} (ends e) h = no_fault_in_nothing fault (subst (λ (t : List ℕ). HasFault t fault) (drop_all at text (omega (arith, e))) h)
no_fault_here text fault {at} (passes n gap rest) h = no_gap (drop at text) fault h n gap
no_fault_here text fault {at} (takes kind n token rest) h = no_token (drop at text) fault h kind n token

pub no_fault_where_spelled : NoFaultWhereSpelled
no_fault_where_spelled text tokens fault s h =
    let w = spelled_along text h.1 tokens s in
    no_fault_here text fault.rule w.1 h.2
