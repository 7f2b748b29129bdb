-- Declarations: what is read is spelled so, and what is spelled so is read.
use Rattle.std.proofs.Common.{◌≡◌, ℕ, Bool, true, false, List, [], ◌∷◌, ◌++◌, Option, Some, None, Result, Ok, refl, sym, ap, subst, ◌∙◌, arith, inl, inr}
use Rattle.std.specs.Prelude.{◌||◌, is_some}
use Rattle.std.proofs.lemmas.Bool.{false_from_ne_true}
use Rattle.scan.specs.declared.token.Mark.TheVariants as marks
use Rattle.base.specs.Bytes.{Identifier}
use Rattle.base.specs.declared.element.ElementType.{ElementType}
use Rattle.base.specs.declared.element.ElementType.TheVariants.{Int as JInt, Short as JShort, Byte as JByte, Char as JChar}
use Rattle.syntax.specs.declared.declared_type.VariableType.{VariableType}
use Rattle.syntax.specs.declared.declared_type.VariableType.TheVariants.{Jint as JIntVariable}
use Rattle.syntax.specs.declared.declared_type.DeclaredType.TheVariants.{Simple, Pointer, ConstChars}
use Rattle.syntax.specs.Tree.{RightSide, Stmt, Plain, Declare, DeclareArray, Assign, AssignElement, Perform, PutJint, If, While, Return}
use Rattle.parse_lexemes.specs.declared.fault.ParseError.{ParseError}
use Rattle.scan.specs.declared.reserved.Word.TheVariants as words
use Rattle.scan.proofs.Grammar.{chosen}
use Rattle.parse_lexemes.specs.declared.first.Fixed.{Fixed}
use Rattle.parse_lexemes.specs.declared.first.Fixed.TheVariants as fixed
use Rattle.parse_lexemes.specs.Results.{◌>>=◌}
use Rattle.parse_lexemes.specs.Meaning.{Meaning, Fixed', Name', Number'}
use Rattle.parse_lexemes.specs.Lexemes.{Lexed, is_fixed_meaning, line_at, expect, name_at}
use Rattle.parse_lexemes.specs.Spelling.{Spelled, Anywhere, OnLine, mark, word, element_word, variable_word}
use Rattle.parse_expressions.specs.Spelling.{right, setting}
use Rattle.parse_statements.specs.Spelling.{statement}
use Rattle.parse_lexemes.specs.Reading.{starts_with, rest_of, element_type_at, variable_type_at, number_at}
use Rattle.parse_expressions.specs.Reading.{setting_at}
use Rattle.parse_statements.specs.Reading.{ReadPlain, zeros_at, array_at, is_array, after_element, after_variable, after_const, declared_by, declared_at, starts_declaration}
use Rattle.parse_expressions.proofs.Forms.{IsRight}
use Rattle.parse_statements.proofs.Forms.{IsSize, IsForm, names_of}
use Rattle.parse_lexemes.proofs.Singles.{Begins, bind_ok, ok_is, begins_append, fixed_is, expect_takes, then_takes, name_takes, on_takes, starts_takes, first_takes, first_rest, first_is, on_line_is, expect_again, name_again, number_takes, zero_takes, number_again}
use Rattle.parse_lexemes.proofs.TypeWords.{element_type_takes, variable_type_takes, element_in, variable_in, first_element, first_variable, element_word_in, variable_word_in}
use Rattle.parse_statements.proofs.Sentences.{setting_tail, setting_takes, setting_again}

-- ---- what is read is spelled so

-- a statement that declares one name, read after its first token
record TakesAfter (room line : ℕ) (first : Spelled) (ls : List Lexed) (x : ReadPlain) : Type 0 where
  tokens : List Spelled
  parts : Begins tokens ls x.1
  spelled : first ∷ tokens ≡ statement x.0
  formed : IsForm room x.0
  one : names_of x.0 ≡ 1

abbrev on_word : ℕ → ElementType → Spelled
on_word line t = OnLine line (Fixed' (fixed.Word (element_word t)))

-- = {0};
abbrev zeros_tokens : List Spelled
zeros_tokens = mark marks.Assign ∷ mark marks.OpenBrace ∷ Anywhere (Number' 0 false) ∷ mark marks.CloseBrace ∷ mark marks.Semicolon ∷ []

zeros_take : (ls rest : List Lexed) → zeros_at ls ≡ Ok rest → Begins zeros_tokens ls rest
unfolding zeros_at
zeros_take ls rest h =
    let a = bind_ok (expect (fixed.Mark marks.Assign) ls) (λ a. expect (fixed.Mark marks.OpenBrace) a >>= λ b. number_at 0 0 b >>= λ number. expect (fixed.Mark marks.CloseBrace) number.1 >>= λ c. expect (fixed.Mark marks.Semicolon) c) rest h in
    let b = bind_ok (expect (fixed.Mark marks.OpenBrace) a.0) (λ b. number_at 0 0 b >>= λ number. expect (fixed.Mark marks.CloseBrace) number.1 >>= λ c. expect (fixed.Mark marks.Semicolon) c) rest a.2 in
    let n = bind_ok (number_at 0 0 b.0) (λ number. expect (fixed.Mark marks.CloseBrace) number.1 >>= λ c. expect (fixed.Mark marks.Semicolon) c) rest b.2 in
    let c = bind_ok (expect (fixed.Mark marks.CloseBrace) n.0.1) (λ c. expect (fixed.Mark marks.Semicolon) c) rest n.2 in
    let t3 = then_takes (fixed.Mark marks.CloseBrace) (mark marks.Semicolon ∷ []) n.0.1 c.0 rest c.1 (expect_takes (fixed.Mark marks.Semicolon) c.0 rest c.2) in
    let t2 = begins_append (Anywhere (Number' 0 false) ∷ []) (mark marks.CloseBrace ∷ mark marks.Semicolon ∷ []) b.0 n.0.1 rest (zero_takes b.0 n.0 n.1) t3 in
    let t1 = then_takes (fixed.Mark marks.OpenBrace) (Anywhere (Number' 0 false) ∷ mark marks.CloseBrace ∷ mark marks.Semicolon ∷ []) a.0 b.0 rest b.1 t2 in
    then_takes (fixed.Mark marks.Assign) (mark marks.OpenBrace ∷ Anywhere (Number' 0 false) ∷ mark marks.CloseBrace ∷ mark marks.Semicolon ∷ []) ls a.0 rest a.1 t1

abbrev array_step3 : ℕ → ElementType → Identifier → ℕ → List Lexed → Result ReadPlain ParseError
array_step3 line t x size b = zeros_at b >>= λ rest. Ok (Plain line (DeclareArray t x size), rest)

abbrev array_step2 : ℕ → ElementType → Identifier → ℕ × List Lexed → Result ReadPlain ParseError
array_step2 line t x size = expect (fixed.Mark marks.CloseBracket) size.1 >>= array_step3 line t x size.0

abbrev array_step1 : ℕ → ElementType → Identifier → List Lexed → Result ReadPlain ParseError
array_step1 line t x a = number_at 1 1024 a >>= array_step2 line t x

abbrev array_step0 : ℕ → ElementType → Identifier × List Lexed → Result ReadPlain ParseError
array_step0 line t x = expect (fixed.Mark marks.OpenBracket) x.1 >>= array_step1 line t x.0

array_takes : (room line : ℕ) (t : ElementType) (ls : List Lexed) (x : ReadPlain) → array_at line t ls ≡ Ok x → TakesAfter room line (on_word line t) ls x
unfolding array_at
array_takes room line t ls x h =
    let a = bind_ok (name_at ls) (array_step0 line t) x h in
    let b = bind_ok (expect (fixed.Mark marks.OpenBracket) a.0.1) (array_step1 line t a.0.0) x a.2 in
    let c = bind_ok (number_at 1 1024 b.0) (array_step2 line t a.0.0) x b.2 in
    let d = bind_ok (expect (fixed.Mark marks.CloseBracket) c.0.1) (array_step3 line t a.0.0 c.0.0) x c.2 in
    let e = bind_ok (zeros_at d.0) (λ rest. Ok (Plain line (DeclareArray t a.0.0 c.0.0), rest)) x d.2 in
    let n = number_takes 1 1024 b.0 c.0 c.1 in
    let es2 : List Spelled = Anywhere (Number' c.0.0 false) ∷ mark marks.CloseBracket ∷ zeros_tokens in
    let t3 = then_takes (fixed.Mark marks.CloseBracket) zeros_tokens c.0.1 d.0 e.0 d.1 (zeros_take d.0 e.0 e.1) in
    let t2 = begins_append (Anywhere (Number' c.0.0 false) ∷ []) (mark marks.CloseBracket ∷ zeros_tokens) b.0 c.0.1 e.0 n.parts t3 in
    let t1 = then_takes (fixed.Mark marks.OpenBracket) es2 a.0.1 b.0 e.0 b.1 t2 in
    let t0 = begins_append (Anywhere (Name' a.0.0) ∷ []) (mark marks.OpenBracket ∷ es2) ls a.0.1 e.0 (name_takes ls a.0 a.1) t1 in
    let made : ReadPlain = (Plain line (DeclareArray t a.0.0 c.0.0), e.0) in
    subst (λ (y : ReadPlain). TakesAfter room line (on_word line t) ls y) (ok_is made x e.2) (record {
      tokens = Anywhere (Name' a.0.0) ∷ mark marks.OpenBracket ∷ es2;
      parts = t0;
      spelled = refl;
      formed = record { some = n.some; bound = n.bound };
      one = refl;
    })

-- a variable after its type
scalar_takes : (room line : ℕ) (t : VariableType) (ls : List Lexed) (x : ReadPlain) → (setting_at room ls >>= λ s. Ok (Plain line (Declare (Simple t) s.0 s.1), s.2)) ≡ Ok x → TakesAfter room line (OnLine line (Fixed' (fixed.Word (variable_word t)))) ls x
scalar_takes room line t ls x e =
    let a = bind_ok (setting_at room ls) (λ s. Ok (Plain line (Declare (Simple t) s.0 s.1), s.2)) x e in
    let s = setting_takes room ls a.0 a.1 in
    let made : ReadPlain = (Plain line (Declare (Simple t) a.0.0 a.0.1), a.0.2) in
    subst (λ (y : ReadPlain). TakesAfter room line (OnLine line (Fixed' (fixed.Word (variable_word t)))) ls y) (ok_is made x a.2) (record { tokens = setting a.0.0 a.0.1; parts = s.0; spelled = refl; formed = s.1; one = refl })

-- what is read as a variable after an element's type is of that type
element_scalar_takes : (room line : ℕ) (t : ElementType) (ls : List Lexed) (x : ReadPlain) → is_array t ls ≡ false → (setting_at room ls >>= λ s. Ok (Plain line (Declare (Simple JIntVariable) s.0 s.1), s.2)) ≡ Ok x → TakesAfter room line (on_word line t) ls x
element_scalar_takes room line JInt ls x none e = scalar_takes room line JIntVariable ls x e
element_scalar_takes room line JShort ls x none e = absurd cc
element_scalar_takes room line JByte ls x none e = absurd cc
element_scalar_takes room line JChar ls x none e = absurd cc

element_takes : (room line : ℕ) (t : ElementType) (ls : List Lexed) (x : ReadPlain) → after_element room line t ls ≡ Ok x → TakesAfter room line (on_word line t) ls x
unfolding after_element
element_takes room line t ls x e =
    elim (chosen (starts_with (fixed.Mark marks.Star) ls) _ _ (Ok x) e) [
      | inl w ↦
          let a = bind_ok (setting_at room (rest_of ls)) (λ s. Ok (Plain line (Declare (Pointer t) s.0 s.1), s.2)) x w.1 in
          let s = setting_takes room (rest_of ls) a.0 a.1 in
          let made : ReadPlain = (Plain line (Declare (Pointer t) a.0.0 a.0.1), a.0.2) in
          subst (λ (y : ReadPlain). TakesAfter room line (on_word line t) ls y) (ok_is made x a.2) (record {
            tokens = mark marks.Star ∷ setting a.0.0 a.0.1;
            parts = first_takes (Fixed' (fixed.Mark marks.Star)) (setting a.0.0 a.0.1) ls a.0.2 (starts_takes (fixed.Mark marks.Star) ls w.0) s.0;
            spelled = refl;
            formed = s.1;
            one = refl;
          })
      | inr v ↦ elim (chosen (is_array t ls) _ _ (Ok x) v.1) [
        | inl w ↦ array_takes room line t ls x w.1
        | inr w ↦ element_scalar_takes room line t ls x w.0 w.1
      ]
    ]

abbrev on_const : ℕ → Spelled
on_const line = OnLine line (Fixed' (fixed.Word words.Const))

const_takes : (room line : ℕ) (ls : List Lexed) (x : ReadPlain) → after_const room line ls ≡ Ok x → TakesAfter room line (on_const line) ls x
unfolding after_const
const_takes room line ls x h =
    let a = bind_ok (expect (fixed.Word words.Jchar) ls) (λ a. expect (fixed.Mark marks.Star) a >>= λ b. setting_at room b >>= λ s. Ok (Plain line (Declare ConstChars s.0 s.1), s.2)) x h in
    let b = bind_ok (expect (fixed.Mark marks.Star) a.0) (λ b. setting_at room b >>= λ s. Ok (Plain line (Declare ConstChars s.0 s.1), s.2)) x a.2 in
    let c = bind_ok (setting_at room b.0) (λ s. Ok (Plain line (Declare ConstChars s.0 s.1), s.2)) x b.2 in
    let s = setting_takes room b.0 c.0 c.1 in
    let es : List Spelled = setting c.0.0 c.0.1 in
    let made : ReadPlain = (Plain line (Declare ConstChars c.0.0 c.0.1), c.0.2) in
    subst (λ (y : ReadPlain). TakesAfter room line (on_const line) ls y) (ok_is made x c.2) (record {
      tokens = word words.Jchar ∷ mark marks.Star ∷ es;
      parts = then_takes (fixed.Word words.Jchar) (mark marks.Star ∷ es) ls a.0 c.0.2 a.1 (then_takes (fixed.Mark marks.Star) es a.0 b.0 c.0.2 b.1 s.0);
      spelled = refl;
      formed = s.1;
      one = refl;
    })

variable_takes : (room line : ℕ) (t : VariableType) (ls : List Lexed) (x : ReadPlain) → after_variable room line t ls ≡ Ok x → TakesAfter room line (OnLine line (Fixed' (fixed.Word (variable_word t)))) ls x
unfolding after_variable
variable_takes room line t ls x e = scalar_takes room line t ls x e

-- a declaration, of one name
pub record TakesDeclared (room : ℕ) (ls : List Lexed) (x : ReadPlain) : Type 0 where
  pub parts : Begins (statement x.0) ls x.1
  pub formed : IsForm room x.0
  pub one : names_of x.0 ≡ 1
  pub first : Spelled
  pub others : List Spelled
  pub spelled : first ∷ others ≡ statement x.0

whole : (room line : ℕ) (first : Spelled) (ls : List Lexed) (x : ReadPlain) → (t : TakesAfter room line first (rest_of ls) x) → Begins (first ∷ t.tokens) ls x.1 → TakesDeclared room ls x
whole room line first ls x t h = record { parts = subst (λ (es : List Spelled). Begins es ls x.1) t.spelled h; formed = t.formed; one = t.one; first = first; others = t.tokens; spelled = t.spelled }

-- where a declaration comes next and no type, `const` does
const_first : (o : Option ElementType) (v : Option VariableType) (ls : List Lexed) → element_type_at ls ≡ o → variable_type_at ls ≡ v → o ≡ None → v ≡ None → starts_declaration ls ≡ true → starts_with (fixed.Word words.Const) ls ≡ true
const_first o v ls is_o is_v no_o no_v s =
    let f : starts_declaration ls ≡ starts_with (fixed.Word words.Const) ls = rw (is_o ∙ no_o, is_v ∙ no_v) refl in
    sym f ∙ s

declared_by_takes : (room : ℕ) (o : Option ElementType) (v : Option VariableType) (ls : List Lexed) (x : ReadPlain) → element_type_at ls ≡ o → variable_type_at ls ≡ v → starts_declaration ls ≡ true → declared_by room o v ls ≡ Ok x → TakesDeclared room ls x
declared_by_takes room (Some t) v ls x is_o is_v s e =
    let k = element_takes room (line_at ls) t (rest_of ls) x e in
    whole room (line_at ls) (on_word (line_at ls) t) ls x k (element_type_takes t k.tokens ls x.1 is_o k.parts)
declared_by_takes room None (Some t) ls x is_o is_v s e =
    let k = variable_takes room (line_at ls) t (rest_of ls) x e in
    whole room (line_at ls) (OnLine (line_at ls) (Fixed' (fixed.Word (variable_word t)))) ls x k (variable_type_takes t k.tokens ls x.1 is_v k.parts)
declared_by_takes room None None ls x is_o is_v s e =
    let k = const_takes room (line_at ls) (rest_of ls) x e in
    whole room (line_at ls) (on_const (line_at ls)) ls x k (on_takes (fixed.Word words.Const) k.tokens ls x.1 (const_first None None ls is_o is_v refl refl s) k.parts)

pub declared_takes : (room : ℕ) (ls : List Lexed) (x : ReadPlain) → starts_declaration ls ≡ true → declared_at room ls ≡ Ok x → TakesDeclared room ls x
unfolding declared_at
declared_takes room ls x s e = declared_by_takes room (element_type_at ls) (variable_type_at ls) ls x refl refl s e

-- ---- what is spelled so is read

abbrev plain_read : Stmt → List Lexed → Result ReadPlain ParseError
plain_read s ls = Ok (s, ls)

abbrev rest_read : List Lexed → Result (List Lexed) ParseError
rest_read ls = Ok ls

zeros_again : (ls rest : List Lexed) → Begins zeros_tokens ls rest → zeros_at ls ≡ Ok rest
unfolding zeros_at
zeros_again ls rest h =
    let es2 : List Spelled = mark marks.CloseBrace ∷ mark marks.Semicolon ∷ [] in
    let es1 : List Spelled = Anywhere (Number' 0 false) ∷ es2 in
    let a = expect_again (fixed.Mark marks.Assign) (mark marks.OpenBrace ∷ es1) ls rest h in
    let b = expect_again (fixed.Mark marks.OpenBrace) es1 a.0 rest a.2 in
    let n = number_again 0 0 0 es2 b.0 rest (omega arith) (omega arith) b.2 in
    let c = expect_again (fixed.Mark marks.CloseBrace) (mark marks.Semicolon ∷ []) (rest_of b.0) rest (first_rest (Anywhere (Number' 0 false)) es2 b.0 rest b.2) in
    let d = expect_again (fixed.Mark marks.Semicolon) [] c.0 rest c.2 in
    rw (a.1, b.1, n, c.1, d.1) (ap rest_read d.2)

-- a name, its size and zeros
abbrev pub array_tail : ℕ → List Spelled
array_tail size = mark marks.OpenBracket ∷ Anywhere (Number' size false) ∷ mark marks.CloseBracket ∷ zeros_tokens

array_again : (line : ℕ) (t : ElementType) (x : Identifier) (size : ℕ) (ls rest : List Lexed) → Begins (Anywhere (Name' x) ∷ array_tail size) ls rest → IsSize size → array_at line t ls ≡ Ok (Plain line (DeclareArray t x size), rest)
unfolding array_at
array_again line t x size ls rest h is =
    let es2 : List Spelled = mark marks.CloseBracket ∷ zeros_tokens in
    let es1 : List Spelled = Anywhere (Number' size false) ∷ es2 in
    let n = name_again x (array_tail size) ls rest h in
    let a = expect_again (fixed.Mark marks.OpenBracket) es1 (rest_of ls) rest (first_rest (Anywhere (Name' x)) (array_tail size) ls rest h) in
    let k = number_again 1 1024 size es2 a.0 rest is.some is.bound a.2 in
    let c = expect_again (fixed.Mark marks.CloseBracket) zeros_tokens (rest_of a.0) rest (first_rest (Anywhere (Number' size false)) es2 a.0 rest a.2) in
    rw (n, a.1, k, c.1, zeros_again c.0 rest c.2) refl

is_array_again : (t : ElementType) (x : Identifier) (es : List Spelled) (ls rest : List Lexed) → Begins (Anywhere (Name' x) ∷ mark marks.OpenBracket ∷ es) ls rest → is_array t ls ≡ true
is_array_again JInt x es ls rest h = first_is (Fixed' (fixed.Mark marks.OpenBracket)) es (rest_of ls) rest (fixed.Mark marks.OpenBracket) (first_rest (Anywhere (Name' x)) (mark marks.OpenBracket ∷ es) ls rest h)
is_array_again JShort x es ls rest h = refl
is_array_again JByte x es ls rest h = refl
is_array_again JChar x es ls rest h = refl

-- the word of a declaration, and whether it is one
abbrev pub declares : Meaning → Bool
declares m = is_some (element_in m) || is_some (variable_in m) || is_fixed_meaning m (fixed.Word words.Const)

pub declares_first : (line : ℕ) (m : Meaning) (es : List Spelled) (ls rest : List Lexed) → Begins (OnLine line m ∷ es) ls rest → starts_declaration ls ≡ declares m
declares_first line m es [] rest h = absurd h
declares_first line m es (l ∷ ls) rest h = ap declares h.0.0

-- no declaration begins with a token that declares nothing
pub declares_no : (m : Meaning) (f : Fixed) → declares m ≡ true → declares (Fixed' f) ≡ false → is_fixed_meaning m f ≡ false
declares_no m f is none = false_from_ne_true _ (λ s.
    let e : m ≡ Fixed' f = fixed_is m f s in
    let g : true ≡ false = sym is ∙ ap declares e ∙ none in
    absurd cc)

pub element_declares : (t : ElementType) → declares (Fixed' (fixed.Word (element_word t))) ≡ true
element_declares t = rw (element_word_in t) refl

pub variable_declares : (t : VariableType) → declares (Fixed' (fixed.Word (variable_word t))) ≡ true
variable_declares t = elim (variable_word_in t) [
  | inl same ↦ ap (λ (v : VariableType). declares (Fixed' (fixed.Word (variable_word v)))) same
  | inr other ↦ rw (other.0, other.1) refl
]

-- each of these statements
abbrev pub IsDeclared : Stmt → Type 0
IsDeclared (Plain line (Declare t x r)) = Unit {0}
IsDeclared (Plain line (DeclareArray t x size)) = Unit {0}
IsDeclared s = ⊥

module _ (room : ℕ) where
  buffer_declared : (line : ℕ) (t : ElementType) (x : Identifier) (r : RightSide) (ls rest : List Lexed) → Begins (statement (Plain line (Declare (Pointer t) x r))) ls rest → IsRight room r → declared_at room ls ≡ Ok (Plain line (Declare (Pointer t) x r), rest)
  unfolding declared_at after_element
  buffer_declared line t x r ls rest h is =
      let m : Meaning = Fixed' (fixed.Word (element_word t)) in
      let es : List Spelled = mark marks.Star ∷ setting x r in
      let within = first_rest (OnLine line m) es ls rest h in
      let s = first_is (Fixed' (fixed.Mark marks.Star)) (setting x r) (rest_of ls) rest (fixed.Mark marks.Star) within in
      rw (first_element line m es ls rest h ∙ element_word_in t, on_line_is line m es ls rest h, s, setting_again room x r (rest_of (rest_of ls)) rest (first_rest (mark marks.Star) (setting x r) (rest_of ls) rest within) is) refl

  array_declared : (line : ℕ) (t : ElementType) (x : Identifier) (size : ℕ) (ls rest : List Lexed) → Begins (statement (Plain line (DeclareArray t x size))) ls rest → IsSize size → declared_at room ls ≡ Ok (Plain line (DeclareArray t x size), rest)
  unfolding declared_at after_element
  array_declared line t x size ls rest h is =
      let m : Meaning = Fixed' (fixed.Word (element_word t)) in
      let es : List Spelled = Anywhere (Name' x) ∷ array_tail size in
      let within = first_rest (OnLine line m) es ls rest h in
      let s = first_is (Name' x) (array_tail size) (rest_of ls) rest (fixed.Mark marks.Star) within in
      let b = is_array_again t x (Anywhere (Number' size false) ∷ mark marks.CloseBracket ∷ zeros_tokens) (rest_of ls) rest within in
      rw (first_element line m es ls rest h ∙ element_word_in t, on_line_is line m es ls rest h, s, b, array_again line t x size (rest_of ls) rest within is) refl

  jint_declared : (line : ℕ) (x : Identifier) (r : RightSide) (ls rest : List Lexed) → Begins (statement (Plain line (Declare (Simple JIntVariable) x r))) ls rest → IsRight room r → declared_at room ls ≡ Ok (Plain line (Declare (Simple JIntVariable) x r), rest)
  unfolding declared_at after_element
  jint_declared line x r ls rest h is =
      let m : Meaning = Fixed' (fixed.Word words.Jint) in
      let es : List Spelled = setting x r in
      let within = first_rest (OnLine line m) es ls rest h in
      let s = first_is (Name' x) (setting_tail r) (rest_of ls) rest (fixed.Mark marks.Star) within in
      let b = first_is (Fixed' (fixed.Mark marks.Assign)) (right r ++ mark marks.Semicolon ∷ []) (rest_of (rest_of ls)) rest (fixed.Mark marks.OpenBracket) (first_rest (Anywhere (Name' x)) (setting_tail r) (rest_of ls) rest within) in
      rw (first_element line m es ls rest h, on_line_is line m es ls rest h, s, b, setting_again room x r (rest_of ls) rest within is) refl

  other_declared : (line : ℕ) (t : VariableType) (x : Identifier) (r : RightSide) (ls rest : List Lexed) → element_in (Fixed' (fixed.Word (variable_word t))) ≡ None → variable_in (Fixed' (fixed.Word (variable_word t))) ≡ Some t → Begins (statement (Plain line (Declare (Simple t) x r))) ls rest → IsRight room r → declared_at room ls ≡ Ok (Plain line (Declare (Simple t) x r), rest)
  unfolding declared_at after_variable
  other_declared line t x r ls rest no_element is_variable h is =
      let m : Meaning = Fixed' (fixed.Word (variable_word t)) in
      let es : List Spelled = setting x r in
      let within = first_rest (OnLine line m) es ls rest h in
      rw (first_element line m es ls rest h ∙ no_element, first_variable line m es ls rest h ∙ is_variable, on_line_is line m es ls rest h, setting_again room x r (rest_of ls) rest within is) refl

  chars_declared : (line : ℕ) (x : Identifier) (r : RightSide) (ls rest : List Lexed) → Begins (statement (Plain line (Declare ConstChars x r))) ls rest → IsRight room r → declared_at room ls ≡ Ok (Plain line (Declare ConstChars x r), rest)
  unfolding declared_at after_const
  chars_declared line x r ls rest h is =
      let m : Meaning = Fixed' (fixed.Word words.Const) in
      let es : List Spelled = word words.Jchar ∷ mark marks.Star ∷ setting x r in
      let a = expect_again (fixed.Word words.Jchar) (mark marks.Star ∷ setting x r) (rest_of ls) rest (first_rest (OnLine line m) es ls rest h) in
      let b = expect_again (fixed.Mark marks.Star) (setting x r) a.0 rest a.2 in
      rw (first_element line m es ls rest h, first_variable line m es ls rest h, on_line_is line m es ls rest h, a.1, b.1, setting_again room x r b.0 rest b.2 is) refl

  pub declared_again : (s : Stmt) (ls rest : List Lexed) → Begins (statement s) ls rest → IsForm room s → IsDeclared s → declared_at room ls ≡ Ok (s, rest)
  declared_again (Plain line (Declare (Simple t) x r)) ls rest h is declared = elim (variable_word_in t) [
    | inl same ↦ subst (λ (v : VariableType). Begins (statement (Plain line (Declare (Simple v) x r))) ls rest → declared_at room ls ≡ plain_read (Plain line (Declare (Simple v) x r)) rest) (sym same) (λ k. jint_declared line x r ls rest k is) h
    | inr other ↦ other_declared line t x r ls rest other.0 other.1 h is
  ]
  declared_again (Plain line (Declare (Pointer t) x r)) ls rest h is declared = buffer_declared line t x r ls rest h is
  declared_again (Plain line (Declare ConstChars x r)) ls rest h is declared = chars_declared line x r ls rest h is
  declared_again (Plain line (DeclareArray t x size)) ls rest h is declared = array_declared line t x size ls rest h is
  declared_again (Plain line (Assign x r)) ls rest h is declared = absurd declared
  declared_again (Plain line (AssignElement x i e)) ls rest h is declared = absurd declared
  declared_again (Plain line (Perform c)) ls rest h is declared = absurd declared
  declared_again (Plain line (PutJint e)) ls rest h is declared = absurd declared
  declared_again (If line test b d) ls rest h is declared = absurd declared
  declared_again (While line test b) ls rest h is declared = absurd declared
  declared_again (Return line e) ls rest h is declared = absurd declared
