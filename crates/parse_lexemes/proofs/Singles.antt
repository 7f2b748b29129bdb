-- Single lexemes: what is expected and what is read.
use Rattle.std.proofs.Common.{◌≡◌, ℕ, ◌+◌, ◌<◌, ◌≤◌, length, arith, true, false, List, [], ◌∷◌, ◌++◌, Result, Ok, Err, refl, sym, ap, subst, ◌∙◌, inl, inr}
use Rattle.std.specs.Prelude.{◌==◌, nat_lt, if◌then◌else◌}
use Rattle.std.proofs.lemmas.Bool.{eqb-true, eq-eqb, ltb-false, le-ltb}
use Rattle.scan.specs.declared.token.Mark.{Mark}
use Rattle.scan.specs.declared.token.Mark.TheVariants as marks
use Rattle.parse_lexemes.specs.declared.fault.ParseRule.TheVariants.{NoForm}
use Rattle.parse_lexemes.specs.declared.fault.ParseError.{ParseError}
use Rattle.parse_lexemes.specs.Faults.{breaks}
use Rattle.scan.specs.declared.reserved.Word.{Word}
use Rattle.scan.specs.declared.reserved.Word.TheVariants as words
use Rattle.scan.proofs.Grammar.{chosen}
use Rattle.parse_lexemes.specs.declared.first.Fixed.{Fixed}
use Rattle.parse_lexemes.specs.declared.first.Fixed.TheVariants as fixed
use Rattle.parse_lexemes.specs.Results.{◌>>=◌}
use Rattle.parse_lexemes.specs.Meaning.{Meaning, Fixed', Name', Number', Text'}
use Rattle.parse_lexemes.specs.Lexemes.{Lexed, mark_code, word_code, same_mark, same_word, same_fixed, is_fixed_meaning, is_fixed, line_at, expect, name_in, name_at}
use Rattle.parse_lexemes.specs.Spelling.{Spelled, Anywhere, OnLine}
use Rattle.parse_lexemes.specs.Reading.{starts_with, rest_of, is_name, starts_name, number_in, number_at}

-- ---- results

-- the value of a step that did not fail
pub bind_ok : {A B : Type 0} (r : Result A ParseError) (f : A → Result B ParseError) (y : B) → (r >>= f) ≡ Ok y → (x : A) × (r ≡ Ok x) × (f x ≡ Ok y)
bind_ok (Ok x) f y e = (x, refl, e)
bind_ok (Err d) f y e = absurd cc

abbrev done : {A : Type 0} → A → Result A ParseError
done x = Ok x

pub ok_is : {A : Type 0} (x y : A) → done x ≡ done y → x ≡ y
ok_is x y e = cc

-- ---- equality of fixed tokens

abbrev mark_list : List Mark
mark_list =
    marks.OpenParen ∷ marks.CloseParen ∷ marks.OpenBrace ∷ marks.CloseBrace ∷ marks.OpenBracket
    ∷ marks.CloseBracket ∷ marks.Semicolon ∷ marks.Comma ∷ marks.Assign ∷ marks.Star ∷ marks.Arrow
    ∷ marks.Ampersand ∷ marks.Bar ∷ marks.Caret ∷ marks.Tilde ∷ marks.Exclamation ∷ marks.Plus ∷ marks.Minus
    ∷ marks.Slash ∷ marks.Percent ∷ marks.Less ∷ marks.Greater ∷ marks.LessEqual ∷ marks.GreaterEqual
    ∷ marks.Equal ∷ marks.NotEqual ∷ marks.LogicalAnd ∷ marks.LogicalOr ∷ marks.ShiftLeft ∷ marks.ShiftRight
    ∷ []

abbrev find_mark : List Mark → ℕ → Mark
find_mark [] code = marks.Comma
find_mark (m ∷ ms) code = if mark_code m == code then m else find_mark ms code

mark_found : (m : Mark) → find_mark mark_list (mark_code m) ≡ m
mark_found marks.OpenParen = refl
mark_found marks.CloseParen = refl
mark_found marks.OpenBrace = refl
mark_found marks.CloseBrace = refl
mark_found marks.OpenBracket = refl
mark_found marks.CloseBracket = refl
mark_found marks.Semicolon = refl
mark_found marks.Comma = refl
mark_found marks.Assign = refl
mark_found marks.Star = refl
mark_found marks.Arrow = refl
mark_found marks.Ampersand = refl
mark_found marks.Bar = refl
mark_found marks.Caret = refl
mark_found marks.Tilde = refl
mark_found marks.Exclamation = refl
mark_found marks.Plus = refl
mark_found marks.Minus = refl
mark_found marks.Slash = refl
mark_found marks.Percent = refl
mark_found marks.Less = refl
mark_found marks.Greater = refl
mark_found marks.LessEqual = refl
mark_found marks.GreaterEqual = refl
mark_found marks.Equal = refl
mark_found marks.NotEqual = refl
mark_found marks.LogicalAnd = refl
mark_found marks.LogicalOr = refl
mark_found marks.ShiftLeft = refl
mark_found marks.ShiftRight = refl

abbrev word_list : List Word
word_list =
    words.Static ∷ words.Const ∷ words.Void ∷ words.If ∷ words.Else ∷ words.While ∷ words.Return
    ∷ words.JniExport ∷ words.JniCall ∷ words.JniEnv ∷ words.Env ∷ words.PutJint ∷ words.Uint32 ∷ words.Jint
    ∷ words.Jsize ∷ words.Jboolean ∷ words.Jshort ∷ words.Jbyte ∷ words.Jchar ∷ words.JfieldId
    ∷ words.Jobject ∷ words.Jclass ∷ words.Jstring ∷ words.Jarray ∷ words.Jthrowable ∷ words.JintArray
    ∷ words.JshortArray ∷ words.JbyteArray ∷ words.JcharArray ∷ words.JobjectArray ∷ words.JniTrue
    ∷ words.JniFalse ∷ words.JniCommit ∷ words.JniAbort ∷ words.Null ∷ words.Unused ∷ words.Jweak
    ∷ words.JmethodId ∷ []

abbrev find_word : List Word → ℕ → Word
find_word [] code = words.Unused
find_word (w ∷ ws) code = if word_code w == code then w else find_word ws code

word_found : (w : Word) → find_word word_list (word_code w) ≡ w
word_found words.Static = refl
word_found words.Const = refl
word_found words.Void = refl
word_found words.If = refl
word_found words.Else = refl
word_found words.While = refl
word_found words.Return = refl
word_found words.JniExport = refl
word_found words.JniCall = refl
word_found words.JniEnv = refl
word_found words.Env = refl
word_found words.PutJint = refl
word_found words.Uint32 = refl
word_found words.Jint = refl
word_found words.Jsize = refl
word_found words.Jboolean = refl
word_found words.Jshort = refl
word_found words.Jbyte = refl
word_found words.Jchar = refl
word_found words.JfieldId = refl
word_found words.Jobject = refl
word_found words.Jclass = refl
word_found words.Jstring = refl
word_found words.Jarray = refl
word_found words.Jthrowable = refl
word_found words.JintArray = refl
word_found words.JshortArray = refl
word_found words.JbyteArray = refl
word_found words.JcharArray = refl
word_found words.JobjectArray = refl
word_found words.JniTrue = refl
word_found words.JniFalse = refl
word_found words.JniCommit = refl
word_found words.JniAbort = refl
word_found words.Null = refl
word_found words.Unused = refl
word_found words.Jweak = refl
word_found words.JmethodId = refl

mark_is : (a b : Mark) → same_mark a b ≡ true → a ≡ b
mark_is a b e = sym (mark_found a) ∙ ap (find_mark mark_list) (eqb-true _ _ e) ∙ mark_found b

pub word_is : (a b : Word) → same_word a b ≡ true → a ≡ b
word_is a b e = sym (word_found a) ∙ ap (find_word word_list) (eqb-true _ _ e) ∙ word_found b

pub same_is : (a b : Fixed) → same_fixed a b ≡ true → a ≡ b
same_is (fixed.Mark a) (fixed.Mark b) e = ap (λ (m : Mark). fixed.Mark m) (mark_is a b e)
same_is (fixed.Mark a) (fixed.Word b) e = absurd cc
same_is (fixed.Mark a) fixed.End e = absurd cc
same_is (fixed.Word a) (fixed.Mark b) e = absurd cc
same_is (fixed.Word a) (fixed.Word b) e = ap (λ (w : Word). fixed.Word w) (word_is a b e)
same_is (fixed.Word a) fixed.End e = absurd cc
same_is fixed.End (fixed.Mark b) e = absurd cc
same_is fixed.End (fixed.Word b) e = absurd cc
same_is fixed.End fixed.End e = refl

pub same_itself : (a : Fixed) → same_fixed a a ≡ true
same_itself (fixed.Mark a) = eq-eqb _ _ refl
same_itself (fixed.Word a) = eq-eqb _ _ refl
same_itself fixed.End = refl

pub fixed_is : (m : Meaning) (f : Fixed) → is_fixed_meaning m f ≡ true → m ≡ Fixed' f
fixed_is (Fixed' found) f e = ap (λ (g : Fixed). Fixed' g) (same_is found f e)
fixed_is (Name' bytes) f e = absurd cc
fixed_is (Number' value unsigned) f e = absurd cc
fixed_is (Text' bytes) f e = absurd cc

-- ---- lexemes that begin as a tree does

abbrev pub Fits : Spelled → Lexed → Type 0
Fits (Anywhere meaning) l = l.meaning ≡ meaning
Fits (OnLine line meaning) l = (l.meaning ≡ meaning) × (l.line ≡ line)

-- the lexemes begin as is spelled, and the rest comes after
abbrev pub Begins : List Spelled → List Lexed → List Lexed → Type 0
Begins [] ls rest = ls ≡ rest
Begins (e ∷ es) [] rest = ⊥
Begins (e ∷ es) (l ∷ ls) rest = Fits e l × Begins es ls rest

pub begins_append : (a b : List Spelled) (ls mid rest : List Lexed) → Begins a ls mid → Begins b mid rest → Begins (a ++ b) ls rest
begins_append [] b ls mid rest h k = subst (λ (x : List Lexed). Begins b x rest) (sym h) k
begins_append (e ∷ a) b [] mid rest h k = h
begins_append (e ∷ a) b (l ∷ ls) mid rest h k = (h.0, begins_append a b ls mid rest h.1 k)

pub begins_split : (a b : List Spelled) (ls rest : List Lexed) → Begins (a ++ b) ls rest → (mid : List Lexed) × Begins a ls mid × Begins b mid rest
begins_split [] b ls rest h = (ls, refl, h)
begins_split (e ∷ a) b [] rest h = absurd h
begins_split (e ∷ a) b (l ∷ ls) rest h = let w = begins_split a b ls rest h.1 in (w.0, (h.0, w.1), w.2)

-- a first lexeme that may be on any line
pub first_takes : (m : Meaning) (es : List Spelled) (ls rest : List Lexed) → Begins (Anywhere m ∷ []) ls (rest_of ls) → Begins es (rest_of ls) rest → Begins (Anywhere m ∷ es) ls rest
first_takes m es [] rest h k = h
first_takes m es (l ∷ ls) rest h k = (h.0, k)

pub first_rest : (e : Spelled) (es : List Spelled) (ls rest : List Lexed) → Begins (e ∷ es) ls rest → Begins es (rest_of ls) rest
first_rest e es [] rest h = absurd h
first_rest e es (l ∷ ls) rest h = h.1

pub first_is : (m : Meaning) (es : List Spelled) (ls rest : List Lexed) (f : Fixed) → Begins (Anywhere m ∷ es) ls rest → starts_with f ls ≡ is_fixed_meaning m f
first_is m es [] rest f h = absurd h
first_is m es (l ∷ ls) rest f h = ap (λ (x : Meaning). is_fixed_meaning x f) h.0

pub starts_takes : (f : Fixed) (ls : List Lexed) → starts_with f ls ≡ true → Begins (Anywhere (Fixed' f) ∷ []) ls (rest_of ls)
starts_takes f [] e = absurd cc
starts_takes f (l ∷ ls) e = (fixed_is l.meaning f e, refl)

pub expect_takes : (f : Fixed) (ls rest : List Lexed) → expect f ls ≡ Ok rest → Begins (Anywhere (Fixed' f) ∷ []) ls rest
unfolding expect
expect_takes f [] rest e = absurd cc
expect_takes f (l ∷ ls) rest e =
    elim (chosen (is_fixed l f) (Ok ls) (Err (breaks NoForm l.line)) (Ok rest) e) [
      | inl w ↦ (fixed_is l.meaning f w.0, ok_is ls rest w.1)
      | inr w ↦ absurd cc
    ]

pub expect_again : (f : Fixed) (es : List Spelled) (ls rest : List Lexed) → Begins (Anywhere (Fixed' f) ∷ es) ls rest → (after : List Lexed) × (expect f ls ≡ Ok after) × Begins es after rest
unfolding expect
expect_again f es [] rest h = absurd h
expect_again f es (l ∷ ls) rest h = (ls, rw (h.0, same_itself f) refl, h.1)

-- a fixed lexeme, and what comes after it
pub then_takes : (f : Fixed) (es : List Spelled) (ls mid rest : List Lexed) → expect f ls ≡ Ok mid → Begins es mid rest → Begins (Anywhere (Fixed' f) ∷ es) ls rest
then_takes f es ls mid rest e h = begins_append (Anywhere (Fixed' f) ∷ []) es ls mid rest (expect_takes f ls mid e) h

-- ---- names

name_in_takes : (l : Lexed) (ls : List Lexed) (x : List ℕ × List Lexed) (m : Meaning) → l.meaning ≡ m → name_in m l.line ls ≡ Ok x → Begins (Anywhere (Name' x.0) ∷ []) (l ∷ ls) x.1
name_in_takes l ls x (Name' bytes) is e = subst (λ (y : List ℕ × List Lexed). Begins (Anywhere (Name' y.0) ∷ []) (l ∷ ls) y.1) (ok_is (bytes, ls) x e) (is, refl)
name_in_takes l ls x (Fixed' f) is e = absurd cc
name_in_takes l ls x (Number' value unsigned) is e = absurd cc
name_in_takes l ls x (Text' bytes) is e = absurd cc

pub name_takes : (ls : List Lexed) (x : List ℕ × List Lexed) → name_at ls ≡ Ok x → Begins (Anywhere (Name' x.0) ∷ []) ls x.1
unfolding name_at
name_takes [] x e = absurd cc
name_takes (l ∷ ls) x e = name_in_takes l ls x l.meaning refl e

-- a name comes next
pub starts_name_again : (n : List ℕ) (es : List Spelled) (ls rest : List Lexed) → Begins (Anywhere (Name' n) ∷ es) ls rest → starts_name ls ≡ true
starts_name_again n es [] rest h = absurd h
starts_name_again n es (l ∷ ls) rest h = ap is_name h.0

pub first_no_name : (m : Meaning) → is_name m ≡ false → (es : List Spelled) (ls rest : List Lexed) → Begins (Anywhere m ∷ es) ls rest → starts_name ls ≡ false
first_no_name m other es [] rest h = absurd h
first_no_name m other es (l ∷ ls) rest h = ap is_name h.0 ∙ other

pub name_again : (n : List ℕ) (es : List Spelled) (ls rest : List Lexed) → Begins (Anywhere (Name' n) ∷ es) ls rest → name_at ls ≡ Ok (n, rest_of ls)
unfolding name_at
name_again n es [] rest h = absurd h
name_again n es (l ∷ ls) rest h = rw h.0 refl

-- ---- lengths

pub begins_length : (es : List Spelled) (ls rest : List Lexed) → Begins es ls rest → length ls ≡ length es + length rest
begins_length [] ls rest h = ap length h ∙ omega arith
begins_length (e ∷ es) [] rest h = absurd h
begins_length (e ∷ es) (l ∷ ls) rest h = let p = begins_length es ls rest h.1 in omega (arith, p)

pub shortens : (e : Spelled) (es : List Spelled) (ls rest : List Lexed) → Begins (e ∷ es) ls rest → length rest < length ls
shortens e es ls rest h = let p = begins_length (e ∷ es) ls rest h in omega (arith, p)

-- ---- the first lexeme of a statement

-- a first lexeme on its line
pub on_takes : (f : Fixed) (es : List Spelled) (ls rest : List Lexed) → starts_with f ls ≡ true → Begins es (rest_of ls) rest → Begins (OnLine (line_at ls) (Fixed' f) ∷ es) ls rest
on_takes f es [] rest s h = absurd cc
on_takes f es (l ∷ ls) rest s h = ((fixed_is l.meaning f s, refl), h)

pub on_is : (line : ℕ) (m : Meaning) (es : List Spelled) (ls rest : List Lexed) (f : Fixed) → Begins (OnLine line m ∷ es) ls rest → starts_with f ls ≡ is_fixed_meaning m f
on_is line m es [] rest f h = absurd h
on_is line m es (l ∷ ls) rest f h = ap (λ (x : Meaning). is_fixed_meaning x f) h.0.0

pub on_line_is : (line : ℕ) (m : Meaning) (es : List Spelled) (ls rest : List Lexed) → Begins (OnLine line m ∷ es) ls rest → line_at ls ≡ line
on_line_is line m es [] rest h = absurd h
on_line_is line m es (l ∷ ls) rest h = h.0.1

-- a first lexeme with its line, or anywhere
pub on_first : (m : Meaning) (es : List Spelled) (ls rest : List Lexed) → Begins (Anywhere m ∷ es) ls rest → Begins (OnLine (line_at ls) m ∷ es) ls rest
on_first m es [] rest h = h
on_first m es (l ∷ ls) rest h = ((h.0, refl), h.1)

pub off_first : (line : ℕ) (m : Meaning) (es : List Spelled) (ls rest : List Lexed) → Begins (OnLine line m ∷ es) ls rest → Begins (Anywhere m ∷ es) ls rest
off_first line m es [] rest h = h
off_first line m es (l ∷ ls) rest h = (h.0.0, h.1)

-- ---- numbers

pub record TakesNumber (least most : ℕ) (ls : List Lexed) (x : ℕ × List Lexed) : Type 0 where
  pub parts : Begins (Anywhere (Number' x.0 false) ∷ []) ls x.1
  pub some : least ≤ x.0
  pub bound : x.0 ≤ most

number_in_takes : (least most : ℕ) (l : Lexed) (ls : List Lexed) (x : ℕ × List Lexed) (m : Meaning) → l.meaning ≡ m → number_in least most m (l ∷ ls) ls ≡ Ok x → TakesNumber least most (l ∷ ls) x
number_in_takes least most l ls x (Number' value true) is e = absurd cc
number_in_takes least most l ls x (Number' value false) is e =
    elim (chosen (nat_lt value least) _ _ (Ok x) e) [
      | inl w ↦ absurd cc
      | inr w ↦ elim (chosen (nat_lt most value) _ _ (Ok x) w.1) [
        | inl v ↦ absurd cc
        | inr v ↦
            let made : ℕ × List Lexed = (value, ls) in
            subst (λ (y : ℕ × List Lexed). TakesNumber least most (l ∷ ls) y) (ok_is made x v.1) (record { parts = (is, refl); some = ltb-false value least w.0; bound = ltb-false most value v.0 })
      ]
    ]
number_in_takes least most l ls x (Fixed' f) is e = absurd cc
number_in_takes least most l ls x (Name' bytes) is e = absurd cc
number_in_takes least most l ls x (Text' bytes) is e = absurd cc

pub number_takes : (least most : ℕ) (ls : List Lexed) (x : ℕ × List Lexed) → number_at least most ls ≡ Ok x → TakesNumber least most ls x
unfolding number_at
number_takes least most [] x e = absurd cc
number_takes least most (l ∷ ls) x e = number_in_takes least most l ls x l.meaning refl e

pub number_again : (least most n : ℕ) (es : List Spelled) (ls rest : List Lexed) → least ≤ n → n ≤ most → Begins (Anywhere (Number' n false) ∷ es) ls rest → number_at least most ls ≡ Ok (n, rest_of ls)
unfolding number_at
number_again least most n es [] rest some bound h = absurd h
number_again least most n es (l ∷ ls) rest some bound h = rw (h.0, le-ltb n least some, le-ltb most n bound) refl

-- the number 0
pub zero_takes : (ls : List Lexed) (x : ℕ × List Lexed) → number_at 0 0 ls ≡ Ok x → Begins (Anywhere (Number' 0 false) ∷ []) ls x.1
zero_takes ls x e =
    let t = number_takes 0 0 ls x e in
    let bound = t.bound in
    let none : x.0 ≡ 0 = omega (arith, bound) in
    subst (λ (n : ℕ). Begins (Anywhere (Number' n false) ∷ []) ls x.1) none t.parts
