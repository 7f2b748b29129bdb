-- What is known of the first lexeme by its token, or by its shape.
use Rattle.std.proofs.Common.{◌≡◌, ℕ, zero, suc, ◌+◌, ◌-◌, ◌<◌, ◌≤◌, List, [], ◌∷◌, length, get_or, drop, refl, sym, ap, ◌∙◌, arith, inl, inr}
use Rattle.std.specs.Prelude.{slice_range}
use Rattle.std.proofs.lemmas.Bool.{cases_lt, lt-ltb, le-ltb}
use Rattle.std.proofs.lemmas.List.{drop_more, drop_all}
use Rattle.scan.specs.declared.token.Token.{Token}
use Rattle.scan.specs.declared.token.Kind.{Kind}
use Rattle.scan.specs.declared.token.Kind.TheVariants as kinds
use Rattle.parse_lexemes.specs.declared.first.Fixed.{Fixed}
use Rattle.parse_lexemes.specs.declared.first.Fixed.TheVariants as fixed
use Rattle.parse_lexemes.specs.declared.first.Shape.TheVariants as shapes
use Rattle.parse_lexemes.specs.declared.cursor.Cursor.{Cursor}
use Rattle.parse_lexemes.specs.Order.{IsInside, AreInside}
use Rattle.parse_lexemes.specs.Meaning.{Meaning, Fixed', Name', Number', Text', meaning_of, token_meaning}
use Rattle.parse_lexemes.specs.Lexemes.{Lexed, lexemes, views, line_at, is_fixed_meaning}
use Rattle.parse_lexemes.specs.Shapes.{shape_of_kind, shape_of, shape_at, is_shape, word_of_shape, is_name_shape, line_of_last, line_of_end, IsNameIn, IsTextIn, IsNameOf, IsTextOf}
use Rattle.parse_lexemes.specs.Reading.{starts_with, rest_of, is_name, starts_name, word_in, word_at}

-- ---- lists of lexemes

length_lexemes : (text : List ℕ) (line : ℕ) (tokens : List Token) → length (lexemes text line tokens) ≡ length tokens + 1
unfolding lexemes
length_lexemes text line [] = refl
length_lexemes text line (t ∷ tokens) = let h = length_lexemes text t.line tokens in omega (arith, h)

get_lexeme : (text : List ℕ) (line : ℕ) (tokens : List Token) (at : ℕ) (d : Token) (e : Lexed) → at < length tokens → get_or (lexemes text line tokens) at e ≡ record { meaning = token_meaning text (get_or tokens at d); line = (get_or tokens at d).line }
unfolding lexemes
get_lexeme text line [] at d e lt = absurd (omega (arith, lt))
get_lexeme text line (t ∷ tokens) zero d e lt = refl
get_lexeme text line (t ∷ tokens) (suc at) d e lt = get_lexeme text t.line tokens at d e (omega (arith, lt))

get_end : (text : List ℕ) (line : ℕ) (tokens : List Token) (e : Lexed) → get_or (lexemes text line tokens) (length tokens) e ≡ record { meaning = Fixed' fixed.End; line = line_of_last line tokens }
unfolding lexemes
get_end text line [] e = refl
get_end text line (t ∷ tokens) e = get_end text t.line tokens e

at_token : (text : List ℕ) (line : ℕ) (tokens : List Token) (at : ℕ) (d : Token) → at < length tokens → drop at (lexemes text line tokens) ≡ record { meaning = token_meaning text (get_or tokens at d); line = (get_or tokens at d).line } ∷ drop (at + 1) (lexemes text line tokens)
at_token text line tokens at d lt =
    let len = length_lexemes text line tokens in
    let e : Lexed = record { meaning = Fixed' fixed.End; line = 0 } in
    drop_more (lexemes text line tokens) at e (omega (arith, len, lt)) ∙ ap (λ l. l ∷ drop (at + 1) (lexemes text line tokens)) (get_lexeme text line tokens at d e lt)

at_end : (text : List ℕ) (line : ℕ) (tokens : List Token) (at : ℕ) → at ≡ length tokens → drop at (lexemes text line tokens) ≡ record { meaning = Fixed' fixed.End; line = line_of_last line tokens } ∷ []
at_end text line tokens at is =
    let len = length_lexemes text line tokens in
    let e : Lexed = record { meaning = Fixed' fixed.End; line = 0 } in
    drop_more (lexemes text line tokens) at e (omega (arith, len, is))
    ∙ ap (λ l. l ∷ drop (at + 1) (lexemes text line tokens)) (ap (λ k. get_or (lexemes text line tokens) k e) is ∙ get_end text line tokens e)
    ∙ ap (λ (ls : List Lexed). record { meaning = Fixed' fixed.End; line = line_of_last line tokens } ∷ ls) (drop_all (at + 1) (lexemes text line tokens) (omega (arith, len, is)))

past_end : (text : List ℕ) (line : ℕ) (tokens : List Token) (at : ℕ) → length tokens < at → drop at (lexemes text line tokens) ≡ []
past_end text line tokens at lt = let len = length_lexemes text line tokens in drop_all at (lexemes text line tokens) (omega (arith, len, lt))

-- ---- the first lexeme, by its token

shape_is : (kind : Kind) (bytes : List ℕ) → shape_of (meaning_of kind bytes) ≡ shape_of_kind kind
shape_is kinds.Name bytes = refl
shape_is (kinds.Reserved word) bytes = refl
shape_is (kinds.Number unsigned value) bytes = refl
shape_is kinds.Text bytes = refl
shape_is (kinds.Symbol mark) bytes = refl

name_is : (kind : Kind) (bytes : List ℕ) → IsNameIn bytes (meaning_of kind bytes)
name_is kinds.Name bytes = refl
name_is (kinds.Reserved word) bytes = tt
name_is (kinds.Number unsigned value) bytes = tt
name_is kinds.Text bytes = tt
name_is (kinds.Symbol mark) bytes = tt

text_is : (kind : Kind) (bytes : List ℕ) → IsTextIn bytes (meaning_of kind bytes)
text_is kinds.Name bytes = tt
text_is (kinds.Reserved word) bytes = tt
text_is (kinds.Number unsigned value) bytes = tt
text_is kinds.Text bytes = refl
text_is (kinds.Symbol mark) bytes = tt

module _ (c : Cursor) where
  pub shape_token : (d : Token) → c.at < length c.source.now.tokens.now → shape_of_kind (get_or c.source.now.tokens.now c.at d).kind ≡ shape_at (views c)
  unfolding views token_meaning
  shape_token d lt = sym (ap shape_at (at_token c.source.now.text.now 1 c.source.now.tokens.now c.at d lt) ∙ shape_is (get_or c.source.now.tokens.now c.at d).kind _)

  pub shape_end : c.at ≡ length c.source.now.tokens.now → shapes.Fixed fixed.End ≡ shape_at (views c)
  unfolding views
  shape_end is = sym (ap shape_at (at_end c.source.now.text.now 1 c.source.now.tokens.now c.at is))

  pub shape_past : length c.source.now.tokens.now < c.at → shapes.Nothing ≡ shape_at (views c)
  unfolding views
  shape_past lt = sym (ap shape_at (past_end c.source.now.text.now 1 c.source.now.tokens.now c.at lt))

  pub line_token : (d : Token) → c.at < length c.source.now.tokens.now → (get_or c.source.now.tokens.now c.at d).line ≡ line_at (views c)
  unfolding views
  line_token d lt = sym (ap line_at (at_token c.source.now.text.now 1 c.source.now.tokens.now c.at d lt))

  pub line_end : length c.source.now.tokens.now ≤ c.at → line_of_end c.source.now.tokens.now c.at ≡ line_at (views c)
  unfolding views
  line_end le =
      elim (cases_lt (length c.source.now.tokens.now) c.at) [
        | inl lt ↦ rw (past_end c.source.now.text.now 1 c.source.now.tokens.now c.at lt) (rw (lt-ltb (length c.source.now.tokens.now) c.at lt) refl)
        | inr ge ↦ rw (at_end c.source.now.text.now 1 c.source.now.tokens.now c.at (omega (arith, le, ge))) (rw (le-ltb (length c.source.now.tokens.now) c.at ge) refl)
      ]

  pub name_token : (d : Token) (bytes : List ℕ) → c.at < length c.source.now.tokens.now → bytes ≡ slice_range c.source.now.text.now (get_or c.source.now.tokens.now c.at d).start (get_or c.source.now.tokens.now c.at d).end → IsNameOf bytes (views c)
  unfolding views token_meaning
  name_token d bytes lt is = rw (at_token c.source.now.text.now 1 c.source.now.tokens.now c.at d lt, is) (name_is (get_or c.source.now.tokens.now c.at d).kind _)

  pub text_token : (d : Token) (bytes : List ℕ) → c.at < length c.source.now.tokens.now → bytes ≡ slice_range c.source.now.text.now (get_or c.source.now.tokens.now c.at d).start (get_or c.source.now.tokens.now c.at d).end → IsTextOf bytes (views c)
  unfolding views token_meaning
  text_token d bytes lt is = rw (at_token c.source.now.text.now 1 c.source.now.tokens.now c.at d lt, is) (text_is (get_or c.source.now.tokens.now c.at d).kind _)

  pub name_none : (bytes : List ℕ) → length c.source.now.tokens.now ≤ c.at → IsNameOf bytes (views c)
  unfolding views
  name_none bytes le =
      elim (cases_lt (length c.source.now.tokens.now) c.at) [
        | inl lt ↦ rw (past_end c.source.now.text.now 1 c.source.now.tokens.now c.at lt) tt
        | inr ge ↦ rw (at_end c.source.now.text.now 1 c.source.now.tokens.now c.at (omega (arith, le, ge))) tt
      ]

  pub text_none : (bytes : List ℕ) → length c.source.now.tokens.now ≤ c.at → IsTextOf bytes (views c)
  unfolding views
  text_none bytes le =
      elim (cases_lt (length c.source.now.tokens.now) c.at) [
        | inl lt ↦ rw (past_end c.source.now.text.now 1 c.source.now.tokens.now c.at lt) tt
        | inr ge ↦ rw (at_end c.source.now.text.now 1 c.source.now.tokens.now c.at (omega (arith, le, ge))) tt
      ]

pub inside_at : (text : List ℕ) (tokens : List Token) (at : ℕ) (d : Token) → AreInside text tokens → at < length tokens → IsInside text (get_or tokens at d)
inside_at text [] at d h lt = absurd (omega (arith, lt))
inside_at text (t ∷ tokens) zero d h lt = h.0
inside_at text (t ∷ tokens) (suc at) d h lt = inside_at text tokens at d h.1 (omega (arith, lt))

-- ---- what comes after the first lexeme

rest_drop : (at : ℕ) (ls : List Lexed) → rest_of (drop at ls) ≡ drop (at + 1) ls
rest_drop at ls =
    let e : Lexed = record { meaning = Fixed' fixed.End; line = 0 } in
    elim (cases_lt at (length ls)) [
      | inl lt ↦ rw (drop_more ls at e lt) refl
      | inr le ↦ rw (drop_all at ls le) (sym (drop_all (at + 1) ls (omega (arith, le))))
    ]

pub rest_is : (c r : Cursor) → r.source ≡ c.source → (c.at ≤ length c.source.now.tokens.now → r.at ≡ c.at + 1) → (length c.source.now.tokens.now < c.at → length c.source.now.tokens.now < r.at) → views r ≡ rest_of (views c)
unfolding views
rest_is c r same within past =
    elim (cases_lt (length c.source.now.tokens.now) c.at) [
      | inl lt ↦ rw (same, past_end c.source.now.text.now 1 c.source.now.tokens.now c.at lt) (past_end c.source.now.text.now 1 c.source.now.tokens.now r.at (past lt))
      | inr le ↦ rw (same, within le) (sym (rest_drop c.at (lexemes c.source.now.text.now 1 c.source.now.tokens.now)))
    ]

pub last_line : (tokens : List Token) (line at : ℕ) (t : Token) → 1 ≤ length tokens → at ≡ length tokens - 1 → t ≡ get_or tokens at t → t.line ≡ line_of_last line tokens
last_line [] line at t some is e = absurd (omega (arith, some))
last_line (x ∷ []) line at t some is e = let z : at ≡ 0 = omega arith in ap (λ (y : Token). y.line) (e ∙ ap (λ k. get_or (x ∷ []) k t) z)
last_line (x ∷ y ∷ tokens) line at t some is e = let z : at ≡ suc (length (y ∷ tokens) - 1) = omega arith in last_line (y ∷ tokens) x.line (length (y ∷ tokens) - 1) t (omega arith) refl (e ∙ ap (λ k. get_or (x ∷ y ∷ tokens) k t) z)

-- ---- by its shape

fixed_in : (f : Fixed) (m : Meaning) → is_shape (shape_of m) f ≡ is_fixed_meaning m f
fixed_in f (Fixed' g) = refl
fixed_in f (Name' bytes) = refl
fixed_in f (Number' value unsigned) = refl
fixed_in f (Text' bytes) = refl

pub starts_with_is : (f : Fixed) (ls : List Lexed) → is_shape (shape_at ls) f ≡ starts_with f ls
starts_with_is f [] = refl
starts_with_is f (l ∷ ls) = fixed_in f l.meaning

word_in_is : (m : Meaning) → word_of_shape (shape_of m) ≡ word_in m
word_in_is (Fixed' (fixed.Mark mark)) = refl
word_in_is (Fixed' (fixed.Word word)) = refl
word_in_is (Fixed' fixed.End) = refl
word_in_is (Name' bytes) = refl
word_in_is (Number' value unsigned) = refl
word_in_is (Text' bytes) = refl

pub word_at_is : (ls : List Lexed) → word_of_shape (shape_at ls) ≡ word_at ls
word_at_is [] = refl
word_at_is (l ∷ ls) = word_in_is l.meaning

name_in_is : (m : Meaning) → is_name_shape (shape_of m) ≡ is_name m
name_in_is (Fixed' f) = refl
name_in_is (Name' bytes) = refl
name_in_is (Number' value unsigned) = refl
name_in_is (Text' bytes) = refl

pub starts_name_is : (ls : List Lexed) → is_name_shape (shape_at ls) ≡ starts_name ls
starts_name_is [] = refl
starts_name_is (l ∷ ls) = name_in_is l.meaning
