-- Calls, right sides and tests: what is read is spelled so, and what is spelled so is read.
use Rattle.std.proofs.Common.{◌≡◌, ℕ, zero, suc, ◌+◌, ◌<◌, ◌≤◌, true, false, List, [], ◌∷◌, ◌++◌, length, Option, Some, None, Result, Ok, refl, sym, ap, subst, ◌∙◌, arith, add-one, inl, inr}
use Rattle.std.specs.Prelude.{◌==◌, ◌&&◌, flat_map}
use Rattle.std.proofs.lemmas.Bool.{and_parts, eqb-true, false_from_ne_true}
use Rattle.scan.specs.declared.token.Mark.TheVariants as marks
use Rattle.syntax.specs.declared.expr.PrefixOp.TheVariants.{LogicalNot, Complement, ToWord, ToInt}
use Rattle.syntax.specs.Tree.{Expr, Number, Named, Variable, Element, Prefix, Binary, Paren, Argument, Value, Text, AddressOf, Call, RightSide, FromExpr, FromCall, Test, TestExpr, TestCall}
use Rattle.syntax.specs.Limits.{height}
use Rattle.parse_lexemes.specs.declared.fault.ParseError.{ParseError}
use Rattle.scan.specs.declared.reserved.Word.TheVariants as words
use Rattle.scan.proofs.Grammar.{chosen}
use Rattle.parse_lexemes.specs.declared.first.Fixed.TheVariants as fixed
use Rattle.parse_lexemes.specs.Results.{◌>>=◌}
use Rattle.parse_lexemes.specs.Meaning.{Meaning, Fixed', Name', Number', Text'}
use Rattle.parse_lexemes.specs.Lexemes.{Lexed, expect, name_at}
use Rattle.parse_lexemes.specs.Spelling.{Spelled, Anywhere, mark, word, constant_word}
use Rattle.parse_expressions.specs.Spelling.{operator_mark, expression, argument, call, right, test_tokens}
use Rattle.parse_lexemes.specs.Reading.{starts_with, rest_of, text_of, text_at, number_at}
use Rattle.parse_expressions.specs.Reading.{ReadExpr, expr_at, interface_at, value_at, argument_by, argument_at, arguments_at, call_at, starts_call, right_expr_at, right_at, test_at}
use Rattle.parse_expressions.proofs.Forms.{IsExpr, IsArgument, AreArguments, IsRight, IsTest}
use Rattle.parse_lexemes.proofs.Singles.{Begins, bind_ok, ok_is, begins_append, begins_split, begins_length, shortens, first_takes, first_rest, first_is, starts_takes, expect_takes, expect_again, then_takes, name_takes, name_again, zero_takes, number_again}
use Rattle.parse_expressions.proofs.Table.{Closes, closes_mark}
use Rattle.parse_expressions.proofs.Levels.{index_tokens, no_first, no_first_mark, no_call, expr_reads, expr_reads_again}

-- (*env)->
abbrev interface_tokens : List Spelled
interface_tokens = mark marks.OpenParen ∷ mark marks.Star ∷ word words.Env ∷ mark marks.CloseParen ∷ mark marks.Arrow ∷ []

-- arguments, each with the comma before it
abbrev pub argument_tokens : List Argument → List Spelled
argument_tokens arguments = flat_map (λ a. mark marks.Comma ∷ argument a) arguments

-- ---- what is read is spelled so

interface_takes : (ls rest : List Lexed) → interface_at ls ≡ Ok rest → Begins interface_tokens ls rest
unfolding interface_at
interface_takes ls rest h =
    let a = bind_ok (expect (fixed.Mark marks.OpenParen) ls) (λ a. expect (fixed.Mark marks.Star) a >>= λ b. expect (fixed.Word words.Env) b >>= λ c. expect (fixed.Mark marks.CloseParen) c >>= λ d. expect (fixed.Mark marks.Arrow) d) rest h in
    let b = bind_ok (expect (fixed.Mark marks.Star) a.0) (λ b. expect (fixed.Word words.Env) b >>= λ c. expect (fixed.Mark marks.CloseParen) c >>= λ d. expect (fixed.Mark marks.Arrow) d) rest a.2 in
    let c = bind_ok (expect (fixed.Word words.Env) b.0) (λ c. expect (fixed.Mark marks.CloseParen) c >>= λ d. expect (fixed.Mark marks.Arrow) d) rest b.2 in
    let d = bind_ok (expect (fixed.Mark marks.CloseParen) c.0) (λ d. expect (fixed.Mark marks.Arrow) d) rest c.2 in
    let t4 = then_takes (fixed.Mark marks.CloseParen) (mark marks.Arrow ∷ []) c.0 d.0 rest d.1 (expect_takes (fixed.Mark marks.Arrow) d.0 rest d.2) in
    let t3 = then_takes (fixed.Word words.Env) (mark marks.CloseParen ∷ mark marks.Arrow ∷ []) b.0 c.0 rest c.1 t4 in
    let t2 = then_takes (fixed.Mark marks.Star) (word words.Env ∷ mark marks.CloseParen ∷ mark marks.Arrow ∷ []) a.0 b.0 rest b.1 t3 in
    then_takes (fixed.Mark marks.OpenParen) (mark marks.Star ∷ word words.Env ∷ mark marks.CloseParen ∷ mark marks.Arrow ∷ []) ls a.0 rest a.1 t2

abbrev TakesArgument : ℕ → List Lexed → Argument × List Lexed → Type 0
TakesArgument room ls x = Begins (argument x.0) ls x.1 × IsArgument room x.0

value_takes : (room : ℕ) (ls : List Lexed) (x : Argument × List Lexed) → value_at room ls ≡ Ok x → TakesArgument room ls x
unfolding value_at
value_takes room ls x h =
    elim (chosen (starts_with (fixed.Mark marks.Ampersand) ls) _ _ (Ok x) h) [
      | inl w ↦
          let a = bind_ok (name_at (rest_of ls)) (λ name. Ok (AddressOf name.0, name.1)) x w.1 in
          let made : Argument × List Lexed = (AddressOf a.0.0, a.0.1) in
          let parts = first_takes (Fixed' (fixed.Mark marks.Ampersand)) (Anywhere (Name' a.0.0) ∷ []) ls a.0.1 (starts_takes (fixed.Mark marks.Ampersand) ls w.0) (name_takes (rest_of ls) a.0 a.1) in
          subst (λ (y : Argument × List Lexed). TakesArgument room ls y) (ok_is made x a.2) (parts, tt)
      | inr w ↦
          let a = bind_ok (expr_at room 0 ls) (λ e. Ok (Value e.0, e.2)) x w.1 in
          let made : Argument × List Lexed = (Value a.0.0, a.0.2) in
          subst (λ (y : Argument × List Lexed). TakesArgument room ls y) (ok_is made x a.2) (expr_reads room ls a.0 a.1)
    ]

text_meaning : (m : Meaning) (bytes : List ℕ) → text_of m ≡ Some bytes → m ≡ Text' bytes
text_meaning (Text' found) bytes e = let f : found ≡ bytes = cc in ap (λ (b : List ℕ). Text' b) f
text_meaning (Fixed' found) bytes e = absurd cc
text_meaning (Name' found) bytes e = absurd cc
text_meaning (Number' value unsigned) bytes e = absurd cc

text_takes : (bytes : List ℕ) (ls : List Lexed) → text_at ls ≡ Some bytes → Begins (Anywhere (Text' bytes) ∷ []) ls (rest_of ls)
text_takes bytes [] e = absurd cc
text_takes bytes (l ∷ ls) e = (text_meaning l.meaning bytes e, refl)

argument_by_takes : (room : ℕ) (o : Option (List ℕ)) (ls : List Lexed) (x : Argument × List Lexed) → text_at ls ≡ o → argument_by room o ls ≡ Ok x → TakesArgument room ls x
argument_by_takes room None ls x same e = value_takes room ls x e
argument_by_takes room (Some bytes) ls x same e = subst (λ (y : Argument × List Lexed). TakesArgument room ls y) (ok_is (Text bytes, rest_of ls) x e) (text_takes bytes ls same, tt)

argument_takes : (room : ℕ) (ls : List Lexed) (x : Argument × List Lexed) → argument_at room ls ≡ Ok x → TakesArgument room ls x
unfolding argument_at
argument_takes room ls x h = argument_by_takes room (text_at ls) ls x refl h

-- an argument with its comma
argument_with_comma : (room : ℕ) (ls : List Lexed) (x : Argument × List Lexed) → starts_with (fixed.Mark marks.Comma) ls ≡ true → argument_at room (rest_of ls) ≡ Ok x → Begins (mark marks.Comma ∷ argument x.0) ls x.1
argument_with_comma room ls x s h = first_takes (Fixed' (fixed.Mark marks.Comma)) (argument x.0) ls x.1 (starts_takes (fixed.Mark marks.Comma) ls s) (argument_takes room (rest_of ls) x h).0

pub argument_shorter : (room : ℕ) (ls : List Lexed) (x : Argument × List Lexed) → starts_with (fixed.Mark marks.Comma) ls ≡ true → argument_at room (rest_of ls) ≡ Ok x → length x.1 < length ls
argument_shorter room ls x s h = shortens (mark marks.Comma) (argument x.0) ls x.1 (argument_with_comma room ls x s h)

abbrev TakesArguments : ℕ → List Lexed → List Argument × List Lexed → Type 0
TakesArguments room ls x = Begins (argument_tokens x.0) ls x.1 × AreArguments room x.0

arguments_take : (room steps : ℕ) (ls : List Lexed) (x : List Argument × List Lexed) → arguments_at room steps ls ≡ Ok x → TakesArguments room ls x
unfolding arguments_at
arguments_take room zero ls x e = absurd cc
arguments_take room (suc steps) ls x e =
    elim (chosen (starts_with (fixed.Mark marks.Comma) ls) _ _ (Ok x) e) [
      | inl w ↦
          let a = bind_ok (argument_at room (rest_of ls)) (λ a. arguments_at room steps a.1 >>= λ more. Ok (a.0 ∷ more.0, more.1)) x w.1 in
          let b = bind_ok (arguments_at room steps a.0.1) (λ more. Ok (a.0.0 ∷ more.0, more.1)) x a.2 in
          let t = argument_takes room (rest_of ls) a.0 a.1 in
          let r = arguments_take room steps a.0.1 b.0 b.1 in
          let made : List Argument × List Lexed = (a.0.0 ∷ b.0.0, b.0.1) in
          let parts = begins_append (mark marks.Comma ∷ argument a.0.0) (argument_tokens b.0.0) ls a.0.1 b.0.1 (argument_with_comma room ls a.0 w.0 a.1) r.0 in
          subst (λ (y : List Argument × List Lexed). TakesArguments room ls y) (ok_is made x b.2) (parts, (t.1, r.1))
      | inr w ↦
          let made : List Argument × List Lexed = ([], ls) in
          subst (λ (y : List Argument × List Lexed). TakesArguments room ls y) (ok_is made x w.1) (refl, tt)
    ]

abbrev Read : Type 0
Read = Result (Call × List Lexed) ParseError

abbrev call_of : List ℕ → List Argument → Call
call_of f arguments = record { function = f; arguments = arguments }

abbrev step5 : List ℕ → List Argument → List Lexed → Read
step5 f arguments after = Ok (call_of f arguments, after)

abbrev step4 : List ℕ → List Argument × List Lexed → Read
step4 f arguments = expect (fixed.Mark marks.CloseParen) arguments.1 >>= step5 f arguments.0

abbrev step3 : ℕ → List ℕ → List Lexed → Read
step3 room f ls = arguments_at room (length ls + 1) ls >>= step4 f

abbrev step2 : ℕ → List ℕ → List Lexed → Read
step2 room f ls = expect (fixed.Word words.Env) ls >>= step3 room f

abbrev step1 : ℕ → List ℕ × List Lexed → Read
step1 room f = expect (fixed.Mark marks.OpenParen) f.1 >>= step2 room f.0

abbrev step0 : ℕ → List Lexed → Read
step0 room ls = name_at ls >>= step1 room

abbrev pub TakesCall : ℕ → List Lexed → Call × List Lexed → Type 0
TakesCall room ls x = Begins (call x.0) ls x.1 × AreArguments room x.0.arguments

pub call_takes : (room : ℕ) (ls : List Lexed) (x : Call × List Lexed) → call_at room ls ≡ Ok x → TakesCall room ls x
unfolding call_at
call_takes room ls x h =
    let a = bind_ok (interface_at ls) (step0 room) x h in
    let b = bind_ok (name_at a.0) (step1 room) x a.2 in
    let c = bind_ok (expect (fixed.Mark marks.OpenParen) b.0.1) (step2 room b.0.0) x b.2 in
    let d = bind_ok (expect (fixed.Word words.Env) c.0) (step3 room b.0.0) x c.2 in
    let e = bind_ok (arguments_at room (length d.0 + 1) d.0) (step4 b.0.0) x d.2 in
    let f = bind_ok (expect (fixed.Mark marks.CloseParen) e.0.1) (step5 b.0.0 e.0.0) x e.2 in
    let t = arguments_take room (length d.0 + 1) d.0 e.0 e.1 in
    let es5 : List Spelled = argument_tokens e.0.0 ++ mark marks.CloseParen ∷ [] in
    let es3 : List Spelled = mark marks.OpenParen ∷ word words.Env ∷ es5 in
    let t5 = begins_append (argument_tokens e.0.0) (mark marks.CloseParen ∷ []) d.0 e.0.1 f.0 t.0 (expect_takes (fixed.Mark marks.CloseParen) e.0.1 f.0 f.1) in
    let t4 = then_takes (fixed.Word words.Env) es5 c.0 d.0 f.0 d.1 t5 in
    let t3 = then_takes (fixed.Mark marks.OpenParen) (word words.Env ∷ es5) b.0.1 c.0 f.0 c.1 t4 in
    let t2 = begins_append (Anywhere (Name' b.0.0) ∷ []) es3 a.0 b.0.1 f.0 (name_takes a.0 b.0 b.1) t3 in
    let t1 = begins_append interface_tokens (Anywhere (Name' b.0.0) ∷ es3) ls a.0 f.0 (interface_takes ls a.0 a.1) t2 in
    let made : Call × List Lexed = (call_of b.0.0 e.0.0, f.0) in
    subst (λ (y : Call × List Lexed). TakesCall room ls y) (ok_is made x f.2) (t1, t.1)

abbrev pub TakesRight : ℕ → List Lexed → RightSide × List Lexed → Type 0
TakesRight room ls x = Begins (right x.0) ls x.1 × IsRight room x.0

-- an expression of a right side is one that is read anywhere
right_expr_takes : (room : ℕ) (ls : List Lexed) (x : ReadExpr) → right_expr_at room ls ≡ Ok x → expr_at room 0 ls ≡ Ok x
unfolding right_expr_at
right_expr_takes room ls x e =
    elim (chosen (starts_with (fixed.Mark marks.OpenParen) ls && room == 0) _ _ (Ok x) e) [
      | inl w ↦ absurd cc
      | inr w ↦ w.1
    ]

pub right_takes : (room : ℕ) (ls : List Lexed) (x : RightSide × List Lexed) → right_at room ls ≡ Ok x → TakesRight room ls x
unfolding right_at
right_takes room ls x e =
    elim (chosen (starts_call ls) _ _ (Ok x) e) [
      | inl w ↦
          let a = bind_ok (call_at room ls) (λ c. Ok (FromCall c.0, c.1)) x w.1 in
          let made : RightSide × List Lexed = (FromCall a.0.0, a.0.1) in
          subst (λ (y : RightSide × List Lexed). TakesRight room ls y) (ok_is made x a.2) (call_takes room ls a.0 a.1)
      | inr w ↦
          let a = bind_ok (right_expr_at room ls) (λ y. Ok (FromExpr y.0, y.2)) x w.1 in
          let made : RightSide × List Lexed = (FromExpr a.0.0, a.0.2) in
          subst (λ (y : RightSide × List Lexed). TakesRight room ls y) (ok_is made x a.2) (expr_reads room ls a.0 (right_expr_takes room ls a.0 a.1))
    ]

abbrev TakesTest : ℕ → List Lexed → Test × List Lexed → Type 0
TakesTest room ls x = Begins (test_tokens x.0) ls x.1 × IsTest room x.0

-- what makes a call a test
abbrev is_zero : List Spelled
is_zero = mark marks.Equal ∷ Anywhere (Number' 0 false) ∷ []

pub test_takes : (room : ℕ) (ls : List Lexed) (x : Test × List Lexed) → test_at room ls ≡ Ok x → TakesTest room ls x
unfolding test_at
test_takes room ls x e =
    elim (chosen (starts_call ls) _ _ (Ok x) e) [
      | inl w ↦
          let a = bind_ok (call_at room ls) (λ c. expect (fixed.Mark marks.Equal) c.1 >>= λ a. number_at 0 0 a >>= λ number. Ok (TestCall c.0, number.1)) x w.1 in
          let b = bind_ok (expect (fixed.Mark marks.Equal) a.0.1) (λ b. number_at 0 0 b >>= λ number. Ok (TestCall a.0.0, number.1)) x a.2 in
          let c = bind_ok (number_at 0 0 b.0) (λ number. Ok (TestCall a.0.0, number.1)) x b.2 in
          let t = call_takes room ls a.0 a.1 in
          let made : Test × List Lexed = (TestCall a.0.0, c.0.1) in
          let closing = then_takes (fixed.Mark marks.Equal) (Anywhere (Number' 0 false) ∷ []) a.0.1 b.0 c.0.1 b.1 (zero_takes b.0 c.0 c.1) in
          subst (λ (y : Test × List Lexed). TakesTest room ls y) (ok_is made x c.2) (begins_append (call a.0.0) is_zero ls a.0.1 c.0.1 t.0 closing, t.1)
      | inr w ↦
          let a = bind_ok (expr_at room 0 ls) (λ y. Ok (TestExpr y.0, y.2)) x w.1 in
          let made : Test × List Lexed = (TestExpr a.0.0, a.0.2) in
          subst (λ (y : Test × List Lexed). TakesTest room ls y) (ok_is made x a.2) (expr_reads room ls a.0 a.1)
    ]

-- ---- what is spelled so is read

interface_again : (es : List Spelled) (ls rest : List Lexed) → Begins (interface_tokens ++ es) ls rest → (after : List Lexed) × (interface_at ls ≡ Ok after) × Begins es after rest
unfolding interface_at
interface_again es ls rest h =
    let a = expect_again (fixed.Mark marks.OpenParen) (mark marks.Star ∷ word words.Env ∷ mark marks.CloseParen ∷ mark marks.Arrow ∷ es) ls rest h in
    let b = expect_again (fixed.Mark marks.Star) (word words.Env ∷ mark marks.CloseParen ∷ mark marks.Arrow ∷ es) a.0 rest a.2 in
    let c = expect_again (fixed.Word words.Env) (mark marks.CloseParen ∷ mark marks.Arrow ∷ es) b.0 rest b.2 in
    let d = expect_again (fixed.Mark marks.CloseParen) (mark marks.Arrow ∷ es) c.0 rest c.2 in
    let e = expect_again (fixed.Mark marks.Arrow) es d.0 rest d.2 in
    (e.0, rw (a.1, b.1, c.1, d.1) e.1, e.2)

first_no_text : (m : Meaning) → text_of m ≡ None → (es : List Spelled) (ls rest : List Lexed) → Begins (Anywhere m ∷ es) ls rest → text_at ls ≡ None
first_no_text m other es [] rest h = absurd h
first_no_text m other es (l ∷ ls) rest h = ap text_of h.0 ∙ other

-- no expression begins with a string
no_text : (e : Expr) (ls rest : List Lexed) → Begins (expression e) ls rest → text_at ls ≡ None
no_text (Number value unsigned) ls rest h = first_no_text (Number' value unsigned) refl [] ls rest h
no_text (Named c) ls rest h = first_no_text (Fixed' (fixed.Word (constant_word c))) refl [] ls rest h
no_text (Variable x) ls rest h = first_no_text (Name' x) refl [] ls rest h
no_text (Element x i) ls rest h = first_no_text (Name' x) refl (index_tokens i) ls rest h
no_text (Prefix LogicalNot e) ls rest h = first_no_text (Fixed' (fixed.Mark marks.Exclamation)) refl (expression e) ls rest h
no_text (Prefix Complement e) ls rest h = first_no_text (Fixed' (fixed.Mark marks.Tilde)) refl (expression e) ls rest h
no_text (Prefix ToWord e) ls rest h = first_no_text (Fixed' (fixed.Mark marks.OpenParen)) refl (word words.Uint32 ∷ mark marks.CloseParen ∷ expression e) ls rest h
no_text (Prefix ToInt e) ls rest h = first_no_text (Fixed' (fixed.Mark marks.OpenParen)) refl (word words.Jint ∷ mark marks.CloseParen ∷ expression e) ls rest h
no_text (Binary op a b) ls rest h = let parts = begins_split (expression a) (mark (operator_mark op) ∷ expression b) ls rest h in no_text a ls parts.0 parts.1
no_text (Paren e) ls rest h = first_no_text (Fixed' (fixed.Mark marks.OpenParen)) refl (expression e ++ mark marks.CloseParen ∷ []) ls rest h

text_again : (bytes : List ℕ) (ls rest : List Lexed) → Begins (Anywhere (Text' bytes) ∷ []) ls rest → text_at ls ≡ Some bytes
text_again bytes [] rest h = absurd h
text_again bytes (l ∷ ls) rest h = ap text_of h.0

abbrev argument_read : Argument → List Lexed → Result (Argument × List Lexed) ParseError
argument_read a ls = Ok (a, ls)

argument_again : (room : ℕ) (a : Argument) (ls rest : List Lexed) → Begins (argument a) ls rest → IsArgument room a → Closes rest → argument_at room ls ≡ Ok (a, rest)
unfolding argument_at value_at
argument_again room (Value e) ls rest h is closed =
    let s = no_first (fixed.Mark marks.Ampersand) (no_first_mark marks.Ampersand refl refl refl) 0 e is.levelled ls rest h in
    rw (no_text e ls rest h, s, expr_reads_again room ls rest e h is closed) refl
argument_again room (Text bytes) ls rest h is closed = rw (text_again bytes ls rest h) (ap (argument_read (Text bytes)) (first_rest (Anywhere (Text' bytes)) [] ls rest h))
argument_again room (AddressOf x) ls rest h is closed =
    let es : List Spelled = Anywhere (Name' x) ∷ [] in
    let t = first_no_text (Fixed' (fixed.Mark marks.Ampersand)) refl es ls rest h in
    let s = first_is (Fixed' (fixed.Mark marks.Ampersand)) es ls rest (fixed.Mark marks.Ampersand) h in
    let within = first_rest (mark marks.Ampersand) es ls rest h in
    rw (t, s, name_again x [] (rest_of ls) rest within) (ap (argument_read (AddressOf x)) (first_rest (Anywhere (Name' x)) [] (rest_of ls) rest within))

-- nothing before arguments goes on from an expression
closed_before : (arguments : List Argument) (ls rest : List Lexed) → Begins (argument_tokens arguments) ls rest → Closes rest → Closes ls
closed_before [] ls rest h closed = subst Closes (sym h) closed
closed_before (a ∷ more) ls rest h closed = closes_mark marks.Comma refl refl (argument a ++ argument_tokens more) ls rest h

abbrev arguments_read : List Argument → List Lexed → Result (List Argument × List Lexed) ParseError
arguments_read arguments ls = Ok (arguments, ls)

arguments_again : (room : ℕ) (arguments : List Argument) (steps : ℕ) (ls rest : List Lexed) → length ls ≤ steps → Begins (argument_tokens arguments) ls rest → AreArguments room arguments → starts_with (fixed.Mark marks.Comma) rest ≡ false → Closes rest → arguments_at room (suc steps) ls ≡ Ok (arguments, rest)
unfolding arguments_at
arguments_again room [] steps ls rest enough h is comma closed = rw (ap (starts_with (fixed.Mark marks.Comma)) h ∙ comma) (ap (arguments_read []) h)
arguments_again room (a ∷ more) zero ls rest enough h is comma closed =
    let p = begins_length (mark marks.Comma ∷ (argument a ++ argument_tokens more)) ls rest h in
    absurd (omega (arith, enough, p))
arguments_again room (a ∷ more) (suc steps) ls rest enough h is comma closed =
    let parts = begins_split (mark marks.Comma ∷ argument a) (argument_tokens more) ls rest h in
    let s = first_is (Fixed' (fixed.Mark marks.Comma)) (argument a) ls parts.0 (fixed.Mark marks.Comma) parts.1 in
    let one = argument_again room a (rest_of ls) parts.0 (first_rest (mark marks.Comma) (argument a) ls parts.0 parts.1) is.0 (closed_before more parts.0 rest parts.2 closed) in
    let p = shortens (mark marks.Comma) (argument a) ls parts.0 parts.1 in
    let others = arguments_again room more steps parts.0 rest (omega (arith, enough, p)) parts.2 is.1 comma closed in
    rw (s, one, others) refl

abbrev call_read : Call → List Lexed → Read
call_read c ls = Ok (c, ls)

pub call_again : (room : ℕ) (c : Call) (ls rest : List Lexed) → Begins (call c) ls rest → AreArguments room c.arguments → call_at room ls ≡ Ok (c, rest)
unfolding call_at
call_again room c ls rest h is =
    let closing : List Spelled = mark marks.CloseParen ∷ [] in
    let es5 : List Spelled = argument_tokens c.arguments ++ closing in
    let es4 : List Spelled = word words.Env ∷ es5 in
    let es3 : List Spelled = mark marks.OpenParen ∷ es4 in
    let es2 : List Spelled = Anywhere (Name' c.function) ∷ es3 in
    let a = interface_again es2 ls rest h in
    let n = name_again c.function es3 a.0 rest a.2 in
    let b = expect_again (fixed.Mark marks.OpenParen) es4 (rest_of a.0) rest (first_rest (Anywhere (Name' c.function)) es3 a.0 rest a.2) in
    let d = expect_again (fixed.Word words.Env) es5 b.0 rest b.2 in
    let parts = begins_split (argument_tokens c.arguments) closing d.0 rest d.2 in
    let comma = first_is (Fixed' (fixed.Mark marks.CloseParen)) [] parts.0 rest (fixed.Mark marks.Comma) parts.2 in
    let closed = closes_mark marks.CloseParen refl refl [] parts.0 rest parts.2 in
    let e = arguments_again room c.arguments (length d.0) d.0 parts.0 (omega arith) parts.1 is comma closed in
    let f = expect_again (fixed.Mark marks.CloseParen) [] parts.0 rest parts.2 in
    rw (a.1, n, b.1, d.1, add-one (length d.0), e, f.1) (ap (call_read c) f.2)

-- what comes after the first two tokens of a call
abbrev call_after : Call → List Spelled
call_after c = word words.Env ∷ mark marks.CloseParen ∷ mark marks.Arrow ∷ Anywhere (Name' c.function) ∷ mark marks.OpenParen ∷ word words.Env ∷ (argument_tokens c.arguments ++ mark marks.CloseParen ∷ [])

call_starts : (es : List Spelled) (ls rest : List Lexed) → Begins (mark marks.OpenParen ∷ mark marks.Star ∷ es) ls rest → starts_call ls ≡ true
call_starts es ls rest h =
    let s = first_is (Fixed' (fixed.Mark marks.OpenParen)) (mark marks.Star ∷ es) ls rest (fixed.Mark marks.OpenParen) h in
    let t = first_is (Fixed' (fixed.Mark marks.Star)) es (rest_of ls) rest (fixed.Mark marks.Star) (first_rest (mark marks.OpenParen) (mark marks.Star ∷ es) ls rest h) in
    rw (s, t) refl

-- an expression that begins with a parenthesis is not of height 0
low_first : (e : Expr) (ls rest : List Lexed) → Begins (expression e) ls rest → height e ≤ 0 → starts_with (fixed.Mark marks.OpenParen) ls ≡ false
low_first (Number value unsigned) ls rest h low = first_is (Number' value unsigned) [] ls rest (fixed.Mark marks.OpenParen) h
low_first (Named c) ls rest h low = first_is (Fixed' (fixed.Word (constant_word c))) [] ls rest (fixed.Mark marks.OpenParen) h
low_first (Variable x) ls rest h low = first_is (Name' x) [] ls rest (fixed.Mark marks.OpenParen) h
low_first (Element x i) ls rest h low = absurd (omega (arith, low))
low_first (Prefix op a) ls rest h low = absurd (omega (arith, low))
low_first (Binary op a b) ls rest h low = absurd (omega (arith, low))
low_first (Paren a) ls rest h low = absurd (omega (arith, low))

right_expr_again : (room : ℕ) (e : Expr) (ls rest : List Lexed) → Begins (expression e) ls rest → IsExpr room e → Closes rest → right_expr_at room ls ≡ Ok (e, height e, rest)
unfolding right_expr_at
right_expr_again room e ls rest h is closed =
    let no_test : (starts_with (fixed.Mark marks.OpenParen) ls && room == 0) ≡ false = false_from_ne_true _ (λ t.
    let p = and_parts (starts_with (fixed.Mark marks.OpenParen) ls) (room == 0) t in
    let none : room ≡ 0 = eqb-true room 0 p.1 in
    let low = is.low in
    let f : true ≡ false = sym p.0 ∙ low_first e ls rest h (omega (arith, low, none)) in
    absurd cc) in
    rw no_test (expr_reads_again room ls rest e h is closed)

pub right_again : (room : ℕ) (r : RightSide) (ls rest : List Lexed) → Begins (right r) ls rest → IsRight room r → Closes rest → right_at room ls ≡ Ok (r, rest)
unfolding right_at
right_again room (FromExpr e) ls rest h is closed = rw (no_call 0 e is.levelled ls rest h, right_expr_again room e ls rest h is closed) refl
right_again room (FromCall c) ls rest h is closed = rw (call_starts (call_after c) ls rest h, call_again room c ls rest h is) refl

abbrev test_read : Test → List Lexed → Result (Test × List Lexed) ParseError
test_read t ls = Ok (t, ls)

pub test_again : (room : ℕ) (t : Test) (ls rest : List Lexed) → Begins (test_tokens t) ls rest → IsTest room t → Closes rest → test_at room ls ≡ Ok (t, rest)
unfolding test_at
test_again room (TestExpr e) ls rest h is closed = rw (no_call 0 e is.levelled ls rest h, expr_reads_again room ls rest e h is closed) refl
test_again room (TestCall c) ls rest h is closed =
    let parts = begins_split (call c) is_zero ls rest h in
    let a = expect_again (fixed.Mark marks.Equal) (Anywhere (Number' 0 false) ∷ []) parts.0 rest parts.2 in
    let n = number_again 0 0 0 [] a.0 rest (omega arith) (omega arith) a.2 in
    rw (call_starts (call_after c) ls parts.0 parts.1, call_again room c ls parts.0 parts.1 is, a.1, n) (ap (test_read (TestCall c)) (first_rest (Anywhere (Number' 0 false)) [] a.0 rest a.2))
