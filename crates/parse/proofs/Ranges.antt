-- The numbers of a tree are in range and its texts are of bytes, since those of the tokens are.
use Rattle.std.proofs.Common.{◌≡◌, ℕ, ◌+◌, ◌-◌, ◌<◌, Bool, true, ◌&&◌, not, ◌==◌, List, [], ◌∷◌, ◌++◌, take, drop, length, refl, ap, subst, ◌∙◌, arith}
use Rattle.std.specs.Prelude.{nat_lt, nat_le, IsTrue}
use Rattle.std.specs.List.{list_all, AllZip}
use Rattle.std.proofs.lemmas.Bool.{and_from, and_parts, leb-true, lt-ltb}
use Rattle.std.proofs.lemmas.List.{length-append}
use Rattle.std.proofs.Math.Seq.{take-append_seam}
use Rattle.base.specs.Bytes.{is_from_to}
use Rattle.scan.specs.Bytes.{is_text}
use Rattle.scan.specs.declared.token.Token.{Token}
use Rattle.scan.specs.declared.token.Kind.{Kind}
use Rattle.scan.specs.declared.token.Kind.TheVariants as kinds
use Rattle.scan.specs.declared.token.Mark.TheVariants as marks
use Rattle.scan.specs.Spelling.{SpellsFrom, ends, passes, takes, IsLexeme, IsQuoted, Every}
use Rattle.syntax.specs.Tree.{Expr, Number, Named, Variable, Element, Prefix, Binary, Paren}
use Rattle.syntax.specs.Limits.{number_limit, numbers_in_range}
use Rattle.parse_lexemes.specs.Meaning.{Meaning, Fixed', Name', Number', Text', between_quotes, meaning_of, token_meaning}
use Rattle.parse_lexemes.specs.Spelling.{Spelled, Anywhere, OnLine, meaning_in, mark}
use Rattle.parse_expressions.specs.Spelling.{operator_mark, prefix_tokens, expression}
use Rattle.parse.specs.Spelling.{Stands}

-- a text of bytes
abbrev pub are_bytes : List ℕ → Bool
are_bytes bytes = list_all (λ b. nat_lt b 256) bytes

abbrev pub IsInRange : Meaning → Type 0
IsInRange (Fixed' f) = Unit {0}
IsInRange (Name' bytes) = Unit {0}
IsInRange (Number' value unsigned) = value < number_limit unsigned
IsInRange (Text' bytes) = are_bytes bytes ≡ true

abbrev pub AreInRange : List Spelled → Type 0
AreInRange [] = Unit {0}
AreInRange (s ∷ es) = IsInRange (meaning_in s) × AreInRange es

pub range_left : (a b : List Spelled) → AreInRange (a ++ b) → AreInRange a
range_left [] b h = tt
range_left (s ∷ a) b h = (h.0, range_left a b h.1)

pub range_right : (a b : List Spelled) → AreInRange (a ++ b) → AreInRange b
range_right [] b h = h
range_right (s ∷ a) b h = range_right a b h.1

pub numbers_of : (e : Expr) → AreInRange (expression e) → numbers_in_range e ≡ true
numbers_of (Number value unsigned) h = lt-ltb value (number_limit unsigned) h.0
numbers_of (Named c) h = refl
numbers_of (Variable x) h = refl
numbers_of (Element x i) h = numbers_of i (range_left (expression i) (mark marks.CloseBracket ∷ []) h.1.1)
numbers_of (Prefix op e) h = numbers_of e (range_right (prefix_tokens op) (expression e) h)
numbers_of (Binary op a b) h =
    let right = range_right (expression a) (mark (operator_mark op) ∷ expression b) h in
    and_from (numbers_in_range a) (numbers_in_range b) (numbers_of a (range_left (expression a) (mark (operator_mark op) ∷ expression b) h)) (numbers_of b right.1)
numbers_of (Paren e) h = numbers_of e (range_left (expression e) (mark marks.CloseParen ∷ []) h.1)

-- ---- the tokens of a text

-- what a string may have is a byte
text_byte : (b : ℕ) → IsTrue (is_text b) → nat_lt b 256 ≡ true
text_byte b h =
    let p = and_parts (is_from_to 32 126 b && not (b == 34)) (not (b == 92)) h in
    let q = and_parts (is_from_to 32 126 b) (not (b == 34)) p.0 in
    let bound = leb-true b 126 (and_parts (nat_le 32 b) (nat_le b 126) q.0).1 in
    lt-ltb b 256 (omega (arith, bound))

text_bytes : (bytes : List ℕ) → Every is_text bytes → are_bytes bytes ≡ true
text_bytes [] h = refl
text_bytes (b ∷ bytes) h = and_from (nat_lt b 256) (are_bytes bytes) (text_byte b h.0) (text_bytes bytes h.1)

inside_quotes : (text : List ℕ) → between_quotes (34 ∷ (text ++ 34 ∷ [])) ≡ text
inside_quotes text =
    let count = length-append text (34 ∷ []) in
    let all : length (text ++ 34 ∷ []) - 1 ≡ length text = omega (arith, count) in
    ap (λ n. take n (text ++ 34 ∷ [])) all ∙ take-append_seam text (34 ∷ [])

quoted_bytes : (word : List ℕ) → IsQuoted word → are_bytes (between_quotes word) ≡ true
quoted_bytes word h = ap (λ bytes. are_bytes (between_quotes bytes)) h.2 ∙ (ap are_bytes (inside_quotes h.0) ∙ text_bytes h.0 h.1)

lexeme_in_range : (kind : Kind) (word : List ℕ) → IsLexeme kind word → IsInRange (meaning_of kind word)
lexeme_in_range kinds.Name word h = tt
lexeme_in_range (kinds.Reserved w) word h = tt
lexeme_in_range (kinds.Number unsigned value) word h = h.small
lexeme_in_range kinds.Text word h = quoted_bytes word h
lexeme_in_range (kinds.Symbol m) word h = tt

abbrev pub AreTokensInRange : List ℕ → List Token → Type 0
AreTokensInRange text [] = Unit {0}
AreTokensInRange text (t ∷ tokens) = IsInRange (token_meaning text t) × AreTokensInRange text tokens

pub tokens_in_range : (text : List ℕ) {at : ℕ} {tokens : List Token} → SpellsFrom text at tokens → AreTokensInRange text tokens
unfolding token_meaning
tokens_in_range text (ends h) = tt
tokens_in_range text (passes n gap rest) = tokens_in_range text rest
tokens_in_range text {at} (takes kind n token rest) =
    let count : n ≡ at + n - at = omega arith in
    let first = lexeme_in_range kind (take n (drop at text)) token.form in
    (subst (λ k. IsInRange (meaning_of kind (take k (drop at text)))) count first, tokens_in_range text rest)

pub spelled_in_range : (text : List ℕ) (tokens : List Token) (es : List Spelled) → AreTokensInRange text tokens → AllZip (Stands text) tokens es → AreInRange es
spelled_in_range text [] [] range h = tt
spelled_in_range text [] (e ∷ es) range h = absurd h
spelled_in_range text (t ∷ tokens) [] range h = absurd h
spelled_in_range text (t ∷ tokens) (Anywhere m ∷ es) range h = (subst IsInRange h.0 range.0, spelled_in_range text tokens es range.1 h.1)
spelled_in_range text (t ∷ tokens) (OnLine line m ∷ es) range h = (subst IsInRange h.0.0 range.0, spelled_in_range text tokens es range.1 h.1)
