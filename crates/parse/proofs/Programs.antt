-- Functions and units: what is read is spelled so, and what is spelled so is read.
use Rattle.std.proofs.Common.{◌≡◌, ℕ, zero, suc, ◌+◌, ◌-◌, ◌<◌, ◌≤◌, true, List, [], ◌∷◌, ◌++◌, length, Option, Some, None, Result, Ok, refl, ap, subst, arith, inl, inr}
use Rattle.std.specs.Prelude.{◌==◌, ◌≢◌, flat_map}
use Rattle.std.proofs.lemmas.Bool.{eqb-false}
use Rattle.scan.specs.declared.token.Mark.TheVariants as marks
use Rattle.syntax.specs.declared.declared_type.ParameterType.{ParameterType}
use Rattle.syntax.specs.declared.declared_type.StaticType.{StaticType}
use Rattle.syntax.specs.declared.unit.ResultType.{ResultType}
use Rattle.syntax.specs.Tree.{Parameter, Block, Function, Static, Item, StaticItem, FunctionItem}
use Rattle.syntax.specs.Parts.{functions_of, statics_of}
use Rattle.parse_lexemes.specs.declared.fault.ParseError.{ParseError}
use Rattle.scan.specs.declared.reserved.Word.TheVariants as words
use Rattle.scan.proofs.Grammar.{chosen}
use Rattle.parse_lexemes.specs.declared.first.Fixed.{Fixed}
use Rattle.parse_lexemes.specs.declared.first.Fixed.TheVariants as fixed
use Rattle.parse_lexemes.specs.Results.{◌>>=◌}
use Rattle.parse_lexemes.specs.Meaning.{Fixed', Name'}
use Rattle.parse_lexemes.specs.Lexemes.{Lexed, line_at, expect, name_at}
use Rattle.parse_lexemes.specs.Spelling.{Spelled, Anywhere, OnLine, mark, word, static_word, result_word, parameter_word}
use Rattle.parse_statements.specs.Spelling.{inside}
use Rattle.parse.specs.Spelling.{parameter, function, item}
use Rattle.parse_lexemes.specs.Reading.{starts_with, rest_of, found, static_type_at, result_type_at, parameter_type_at}
use Rattle.parse_statements.specs.Reading.{block_at}
use Rattle.parse.specs.Reading.{parameter_at, parameters_at, head_at, body_at, signature_at, function_at, static_at, ReadItem, item_at, items_at}
use Rattle.parse_statements.proofs.Forms.{names_in, IsBlock}
use Rattle.parse.proofs.Forms.{IsFunction, AreItems}
use Rattle.parse_lexemes.proofs.Singles.{Begins, bind_ok, ok_is, begins_append, first_takes, starts_takes, expect_takes, then_takes, name_takes, shortens}
use Rattle.parse_lexemes.proofs.TypeWords.{static_type_takes, result_type_takes, parameter_type_takes}
use Rattle.parse_statements.proofs.Nested.{block_takes}

-- the parameters that each function has, up to the name of its class
abbrev pub parameters_head : List Spelled
parameters_head = mark marks.OpenParen ∷ word words.JniEnv ∷ mark marks.Star ∷ word words.Env ∷ mark marks.Comma ∷ word words.Jclass ∷ []

head_takes : (ls rest : List Lexed) → head_at ls ≡ Ok rest → Begins parameters_head ls rest
unfolding head_at
head_takes ls rest h =
    let a = bind_ok (expect (fixed.Mark marks.OpenParen) ls) (λ a. expect (fixed.Word words.JniEnv) a >>= λ b. expect (fixed.Mark marks.Star) b >>= λ c. expect (fixed.Word words.Env) c >>= λ d. expect (fixed.Mark marks.Comma) d >>= λ e. expect (fixed.Word words.Jclass) e) rest h in
    let b = bind_ok (expect (fixed.Word words.JniEnv) a.0) (λ b. expect (fixed.Mark marks.Star) b >>= λ c. expect (fixed.Word words.Env) c >>= λ d. expect (fixed.Mark marks.Comma) d >>= λ e. expect (fixed.Word words.Jclass) e) rest a.2 in
    let c = bind_ok (expect (fixed.Mark marks.Star) b.0) (λ c. expect (fixed.Word words.Env) c >>= λ d. expect (fixed.Mark marks.Comma) d >>= λ e. expect (fixed.Word words.Jclass) e) rest b.2 in
    let d = bind_ok (expect (fixed.Word words.Env) c.0) (λ d. expect (fixed.Mark marks.Comma) d >>= λ e. expect (fixed.Word words.Jclass) e) rest c.2 in
    let e = bind_ok (expect (fixed.Mark marks.Comma) d.0) (λ e. expect (fixed.Word words.Jclass) e) rest d.2 in
    let t5 = begins_append (mark marks.Comma ∷ []) (word words.Jclass ∷ []) d.0 e.0 rest (expect_takes (fixed.Mark marks.Comma) d.0 e.0 e.1) (expect_takes (fixed.Word words.Jclass) e.0 rest e.2) in
    let t4 = begins_append (word words.Env ∷ []) (mark marks.Comma ∷ word words.Jclass ∷ []) c.0 d.0 rest (expect_takes (fixed.Word words.Env) c.0 d.0 d.1) t5 in
    let t3 = begins_append (mark marks.Star ∷ []) (word words.Env ∷ mark marks.Comma ∷ word words.Jclass ∷ []) b.0 c.0 rest (expect_takes (fixed.Mark marks.Star) b.0 c.0 c.1) t4 in
    let t2 = begins_append (word words.JniEnv ∷ []) (mark marks.Star ∷ word words.Env ∷ mark marks.Comma ∷ word words.Jclass ∷ []) a.0 b.0 rest (expect_takes (fixed.Word words.JniEnv) a.0 b.0 b.1) t3 in
    begins_append (mark marks.OpenParen ∷ []) (word words.JniEnv ∷ mark marks.Star ∷ word words.Env ∷ mark marks.Comma ∷ word words.Jclass ∷ []) ls a.0 rest (expect_takes (fixed.Mark marks.OpenParen) ls a.0 a.1) t2

-- ---- parameters

found_ok : {A : Type 0} (o : Option A) (ls : List Lexed) (x : A × List Lexed) → found o ls ≡ Ok x → (o ≡ Some x.0) × (rest_of ls ≡ x.1)
found_ok None ls x e = absurd cc
found_ok {A = A} (Some y) ls x e =
    let same : (y, rest_of ls) ≡ x = ok_is (y, rest_of ls) x e in
    (ap (λ (p : A × List Lexed). Some p.0) same, ap (λ (p : A × List Lexed). p.1) same)

abbrev TakesParameter : List Lexed → Parameter × List Lexed → Type 0
TakesParameter ls x = Begins (word (parameter_word x.0.type) ∷ Anywhere (Name' x.0.name) ∷ []) ls x.1

abbrev parameter_of : ParameterType → List ℕ → Parameter
parameter_of t n = record { type = t; name = n }

abbrev named : ParameterType → List ℕ × List Lexed → Result (Parameter × List Lexed) ParseError
named t n = Ok (parameter_of t n.0, n.1)

parameter_takes : (ls : List Lexed) (x : Parameter × List Lexed) → parameter_at ls ≡ Ok x → TakesParameter ls x
unfolding parameter_at
parameter_takes ls x h =
    let a = bind_ok (found (parameter_type_at ls) ls) (λ t. name_at t.1 >>= named t.0) x h in
    let b = bind_ok (name_at a.0.1) (named a.0.0) x a.2 in
    let f = found_ok (parameter_type_at ls) ls a.0 a.1 in
    let type = subst (λ (mid : List Lexed). Begins (word (parameter_word a.0.0) ∷ []) ls mid) f.1 (parameter_type_takes a.0.0 ls f.0) in
    let made : Parameter × List Lexed = (parameter_of a.0.0 b.0.0, b.0.1) in
    subst (λ (y : Parameter × List Lexed). TakesParameter ls y) (ok_is made x b.2) (begins_append (word (parameter_word a.0.0) ∷ []) (Anywhere (Name' b.0.0) ∷ []) ls a.0.1 b.0.1 type (name_takes a.0.1 b.0 b.1))

abbrev TakesParameters : ℕ → List Lexed → List Parameter × List Lexed → Type 0
TakesParameters free ls x = Begins (flat_map parameter x.0) ls x.1 × (length x.0 ≤ free)

parameters_take : (free : ℕ) (ls : List Lexed) (x : List Parameter × List Lexed) → parameters_at free ls ≡ Ok x → TakesParameters free ls x
unfolding parameters_at
parameters_take zero ls x e =
    elim (chosen (starts_with (fixed.Mark marks.Comma) ls) _ _ (Ok x) e) [
      | inl w ↦ absurd cc
      | inr w ↦ subst (λ (y : List Parameter × List Lexed). TakesParameters zero ls y) (ok_is ([], ls) x w.1) (refl, omega arith)
    ]
parameters_take (suc free) ls x e =
    elim (chosen (starts_with (fixed.Mark marks.Comma) ls) _ _ (Ok x) e) [
      | inl w ↦
          let a = bind_ok (parameter_at (rest_of ls)) (λ p. parameters_at free p.1 >>= λ more. Ok (p.0 ∷ more.0, more.1)) x w.1 in
          let b = bind_ok (parameters_at free a.0.1) (λ more. Ok (a.0.0 ∷ more.0, more.1)) x a.2 in
          let t = parameter_takes (rest_of ls) a.0 a.1 in
          let r = parameters_take free a.0.1 b.0 b.1 in
          let one = first_takes (Fixed' (fixed.Mark marks.Comma)) (word (parameter_word a.0.0.type) ∷ Anywhere (Name' a.0.0.name) ∷ []) ls a.0.1 (starts_takes (fixed.Mark marks.Comma) ls w.0) t in
          let made : List Parameter × List Lexed = (a.0.0 ∷ b.0.0, b.0.1) in
          subst (λ (y : List Parameter × List Lexed). TakesParameters (suc free) ls y) (ok_is made x b.2) (begins_append (parameter a.0.0) (flat_map parameter b.0.0) ls a.0.1 b.0.1 one r.0, let q = r.1 in omega (arith, q))
      | inr w ↦ subst (λ (y : List Parameter × List Lexed). TakesParameters (suc free) ls y) (ok_is ([], ls) x w.1) (refl, omega arith)
    ]

-- ---- bodies

record TakesBody (free : ℕ) (ls : List Lexed) (x : Block × List Lexed) : Type 0 where
  parts : Begins (mark marks.CloseParen ∷ mark marks.OpenBrace ∷ inside x.0) ls x.1
  formed : IsBlock 31 x.0
  few : names_in x.0 ≤ free

body_takes : (free : ℕ) (ls : List Lexed) (x : Block × List Lexed) → body_at free ls ≡ Ok x → TakesBody free ls x
unfolding body_at
body_takes free ls x h =
    let a = bind_ok (expect (fixed.Mark marks.CloseParen) ls) (λ a. expect (fixed.Mark marks.OpenBrace) a >>= λ b. block_at 31 free b >>= λ body. Ok (body.0, body.2)) x h in
    let b = bind_ok (expect (fixed.Mark marks.OpenBrace) a.0) (λ b. block_at 31 free b >>= λ body. Ok (body.0, body.2)) x a.2 in
    let c = bind_ok (block_at 31 free b.0) (λ body. Ok (body.0, body.2)) x b.2 in
    let t = block_takes 31 free b.0 c.0 c.1 in
    let within = then_takes (fixed.Mark marks.OpenBrace) (inside c.0.0) a.0 b.0 c.0.2 b.1 t.parts in
    let count = t.count in
    let made : Block × List Lexed = (c.0.0, c.0.2) in
    subst (λ (y : Block × List Lexed). TakesBody free ls y) (ok_is made x c.2) (record {
      parts = then_takes (fixed.Mark marks.CloseParen) (mark marks.OpenBrace ∷ inside c.0.0) ls a.0 c.0.2 a.1 within;
      formed = t.formed;
      few = omega (arith, count);
    })

-- the first lexeme, with its line
on_expected : (f : Fixed) (ls rest : List Lexed) → expect f ls ≡ Ok rest → Begins (OnLine (line_at ls) (Fixed' f) ∷ []) ls rest
on_expected f [] rest e = expect_takes f [] rest e
on_expected f (l ∷ ls) rest e = let t = expect_takes f (l ∷ ls) rest e in ((t.0, refl), t.1)

-- ---- a function, step by step

abbrev Signature : Type 0
Signature = ResultType × List ℕ × List ℕ × List Lexed

abbrev signature5 : ResultType → List ℕ → List Lexed → Result Signature ParseError
signature5 r n c = name_at c >>= λ k. Ok (r, n, k.0, k.1)

abbrev signature4 : ResultType → List ℕ × List Lexed → Result Signature ParseError
signature4 r n = head_at n.1 >>= signature5 r n.0

abbrev signature3 : ResultType → List Lexed → Result Signature ParseError
signature3 r b = name_at b >>= signature4 r

abbrev signature2 : ResultType × List Lexed → Result Signature ParseError
signature2 r = expect (fixed.Word words.JniCall) r.1 >>= signature3 r.0

abbrev signature1 : List Lexed → Result Signature ParseError
signature1 a = found (result_type_at a) a >>= signature2

abbrev signature_tokens : ℕ → ResultType → List ℕ → List ℕ → List Spelled
signature_tokens line r n c = OnLine line (Fixed' (fixed.Word words.JniExport)) ∷ word (result_word r) ∷ word words.JniCall ∷ Anywhere (Name' n) ∷ (parameters_head ++ Anywhere (Name' c) ∷ [])

abbrev TakesSignature : List Lexed → Signature → Type 0
TakesSignature ls s = Begins (signature_tokens (line_at ls) s.0 s.1 s.2) ls s.3

signature_takes : (ls : List Lexed) (s : Signature) → signature_at ls ≡ Ok s → TakesSignature ls s
unfolding signature_at
signature_takes ls s h =
    let line = line_at ls in
    let a = bind_ok (expect (fixed.Word words.JniExport) ls) signature1 s h in
    let b = bind_ok (found (result_type_at a.0) a.0) signature2 s a.2 in
    let result = found_ok (result_type_at a.0) a.0 b.0 b.1 in
    let type = subst (λ (mid : List Lexed). Begins (word (result_word b.0.0) ∷ []) a.0 mid) result.1 (result_type_takes b.0.0 a.0 result.0) in
    let c = bind_ok (expect (fixed.Word words.JniCall) b.0.1) (signature3 b.0.0) s b.2 in
    let d = bind_ok (name_at c.0) (signature4 b.0.0) s c.2 in
    let e = bind_ok (head_at d.0.1) (signature5 b.0.0 d.0.0) s d.2 in
    let f = bind_ok (name_at e.0) (λ k. Ok (b.0.0, d.0.0, k.0, k.1)) s e.2 in
    let es5 : List Spelled = Anywhere (Name' f.0.0) ∷ [] in
    let es3 : List Spelled = Anywhere (Name' d.0.0) ∷ (parameters_head ++ es5) in
    let es2 : List Spelled = word words.JniCall ∷ es3 in
    let es1 : List Spelled = word (result_word b.0.0) ∷ es2 in
    let t4 = begins_append parameters_head es5 d.0.1 e.0 f.0.1 (head_takes d.0.1 e.0 e.1) (name_takes e.0 f.0 f.1) in
    let t3 = begins_append (Anywhere (Name' d.0.0) ∷ []) (parameters_head ++ es5) c.0 d.0.1 f.0.1 (name_takes c.0 d.0 d.1) t4 in
    let t2 = begins_append (word words.JniCall ∷ []) es3 b.0.1 c.0 f.0.1 (expect_takes (fixed.Word words.JniCall) b.0.1 c.0 c.1) t3 in
    let t1 = begins_append (word (result_word b.0.0) ∷ []) es2 a.0 b.0.1 f.0.1 type t2 in
    let made : Signature = (b.0.0, d.0.0, f.0.0, f.0.1) in
    subst (λ (y : Signature). TakesSignature ls y) (ok_is made s f.2) (begins_append (OnLine line (Fixed' (fixed.Word words.JniExport)) ∷ []) es1 ls a.0 f.0.1 (on_expected (fixed.Word words.JniExport) ls a.0 a.1) t1)

abbrev made : ℕ → Signature → List Parameter → Block → Function
made line s ps body = record { line = line; result = s.0; name = s.1; class_name = s.2; parameters = ps; body = body }

abbrev with_parameters : ℕ → Signature → List Parameter × List Lexed → Result (Function × List Lexed) ParseError
with_parameters line s ps = body_at (255 - length ps.0) ps.1 >>= λ body. Ok (made line s ps.0 body.0, body.1)

abbrev with_signature : ℕ → Signature → Result (Function × List Lexed) ParseError
with_signature line s = parameters_at 255 s.3 >>= with_parameters line s

pub record TakesFunction (ls : List Lexed) (x : Function × List Lexed) : Type 0 where
  pub parts : Begins (function x.0) ls x.1
  pub formed : IsFunction x.0
  pub shorter : length x.1 < length ls

names_fit : (parameters names : ℕ) → parameters ≤ 255 → names ≤ 255 - parameters → parameters + names ≤ 255
names_fit parameters names few rest = omega arith

pub function_takes : (ls : List Lexed) (x : Function × List Lexed) → function_at ls ≡ Ok x → TakesFunction ls x
unfolding function_at
function_takes ls x h =
    let line = line_at ls in
    let a = bind_ok (signature_at ls) (with_signature line) x h in
    let b = bind_ok (parameters_at 255 a.0.3) (with_parameters line a.0) x a.2 in
    let c = bind_ok (body_at (255 - length b.0.0) b.0.1) (λ body. Ok (made line a.0 b.0.0 body.0, body.1)) x b.2 in
    let ps = parameters_take 255 a.0.3 b.0 b.1 in
    let body = body_takes (255 - length b.0.0) b.0.1 c.0 c.1 in
    let es2 : List Spelled = mark marks.CloseParen ∷ mark marks.OpenBrace ∷ inside c.0.0 in
    let es1 : List Spelled = flat_map parameter b.0.0 ++ es2 in
    let t1 = begins_append (flat_map parameter b.0.0) es2 a.0.3 b.0.1 c.0.1 ps.0 body.parts in
    let t0 = begins_append (signature_tokens line a.0.0 a.0.1 a.0.2) es1 ls a.0.3 c.0.1 (signature_takes ls a.0 a.1) t1 in
    let after : List Spelled = word (result_word a.0.0) ∷ word words.JniCall ∷ Anywhere (Name' a.0.1) ∷ (parameters_head ++ Anywhere (Name' a.0.2) ∷ es1) in
    subst (λ (y : Function × List Lexed). TakesFunction ls y) (ok_is (made line a.0 b.0.0 c.0.0, c.0.1) x c.2) (record {
      parts = t0;
      formed = record { body = body.formed; names = names_fit (length b.0.0) (names_in c.0.0) ps.1 body.few };
      shorter = shortens (OnLine line (Fixed' (fixed.Word words.JniExport))) after ls c.0.1 t0;
    })

-- ---- statics

abbrev ReadStatic : Type 0
ReadStatic = Result (Static × List Lexed) ParseError

abbrev static_of : ℕ → StaticType → List ℕ → Static
static_of line t n = record { line = line; type = t; name = n }

abbrev static4 : ℕ → StaticType → List ℕ → List Lexed → ReadStatic
static4 line t n c = expect (fixed.Mark marks.Semicolon) c >>= λ rest. Ok (static_of line t n, rest)

abbrev static3 : ℕ → StaticType → List ℕ → List Lexed → ReadStatic
static3 line t n b = expect (fixed.Word words.Null) b >>= static4 line t n

abbrev static2 : ℕ → StaticType → List ℕ × List Lexed → ReadStatic
static2 line t n = expect (fixed.Mark marks.Assign) n.1 >>= static3 line t n.0

abbrev static1 : ℕ → StaticType × List Lexed → ReadStatic
static1 line t = name_at t.1 >>= static2 line t.0

abbrev static0 : ℕ → List Lexed → ReadStatic
static0 line a = found (static_type_at a) a >>= static1 line

record TakesStatic (ls : List Lexed) (x : Static × List Lexed) : Type 0 where
  parts : Begins (item (StaticItem x.0)) ls x.1
  shorter : length x.1 < length ls

static_takes : (ls : List Lexed) (x : Static × List Lexed) → static_at ls ≡ Ok x → TakesStatic ls x
unfolding static_at
static_takes ls x h =
    let line = line_at ls in
    let a = bind_ok (expect (fixed.Word words.Static) ls) (static0 line) x h in
    let b = bind_ok (found (static_type_at a.0) a.0) (static1 line) x a.2 in
    let c = bind_ok (name_at b.0.1) (static2 line b.0.0) x b.2 in
    let d = bind_ok (expect (fixed.Mark marks.Assign) c.0.1) (static3 line b.0.0 c.0.0) x c.2 in
    let e = bind_ok (expect (fixed.Word words.Null) d.0) (static4 line b.0.0 c.0.0) x d.2 in
    let f = bind_ok (expect (fixed.Mark marks.Semicolon) e.0) (λ rest. Ok (static_of line b.0.0 c.0.0, rest)) x e.2 in
    let type = found_ok (static_type_at a.0) a.0 b.0 b.1 in
    let first = subst (λ (mid : List Lexed). Begins (word (static_word b.0.0) ∷ []) a.0 mid) type.1 (static_type_takes b.0.0 a.0 type.0) in
    let es4 : List Spelled = word words.Null ∷ mark marks.Semicolon ∷ [] in
    let es3 : List Spelled = mark marks.Assign ∷ es4 in
    let es2 : List Spelled = Anywhere (Name' c.0.0) ∷ es3 in
    let es1 : List Spelled = word (static_word b.0.0) ∷ es2 in
    let t4 = then_takes (fixed.Word words.Null) (mark marks.Semicolon ∷ []) d.0 e.0 f.0 e.1 (expect_takes (fixed.Mark marks.Semicolon) e.0 f.0 f.1) in
    let t3 = then_takes (fixed.Mark marks.Assign) es4 c.0.1 d.0 f.0 d.1 t4 in
    let t2 = begins_append (Anywhere (Name' c.0.0) ∷ []) es3 b.0.1 c.0.1 f.0 (name_takes b.0.1 c.0 c.1) t3 in
    let t1 = begins_append (word (static_word b.0.0) ∷ []) es2 a.0 b.0.1 f.0 first t2 in
    let t0 = begins_append (OnLine line (Fixed' (fixed.Word words.Static)) ∷ []) es1 ls a.0 f.0 (on_expected (fixed.Word words.Static) ls a.0 a.1) t1 in
    subst (λ (y : Static × List Lexed). TakesStatic ls y) (ok_is (static_of line b.0.0 c.0.0, f.0) x f.2) (record {
      parts = t0;
      shorter = shortens (OnLine line (Fixed' (fixed.Word words.Static))) es1 ls f.0 t0;
    })

-- ---- units

-- how many functions and statics there are
abbrev pub functions_in : List Item → ℕ
functions_in items = length (functions_of (record { items = items }))

abbrev pub statics_in : List Item → ℕ
statics_in items = length (statics_of (record { items = items }))

pub record TakesItem (functions statics : ℕ) (ls : List Lexed) (x : ReadItem) : Type 0 where
  pub parts : Begins (item x.0) ls x.3
  pub formed : (others : List Item) → AreItems others → AreItems (x.0 ∷ others)
  pub functions_count : (others : List Item) → functions_in others ≤ x.1 → functions_in (x.0 ∷ others) ≤ functions
  pub statics_count : (others : List Item) → statics_in others ≤ x.2 → statics_in (x.0 ∷ others) ≤ statics
  pub shorter : length x.3 < length ls

one_more : (count limit others : ℕ) → limit ≢ 0 → others ≤ limit - 1 → count ≡ suc others → count ≤ limit
one_more count limit others other few is = omega arith

pub item_takes : (functions statics : ℕ) (ls : List Lexed) (x : ReadItem) → item_at functions statics ls ≡ Ok x → TakesItem functions statics ls x
unfolding item_at
item_takes functions statics ls x e =
    elim (chosen (starts_with (fixed.Word words.JniExport) ls) _ _ (Ok x) e) [
      | inl w ↦ elim (chosen (functions == 0) _ _ (Ok x) w.1) [
        | inl v ↦ absurd cc
        | inr v ↦
            let a = bind_ok (function_at ls) (λ f. Ok (FunctionItem f.0, functions - 1, statics, f.1)) x v.1 in
            let t = function_takes ls a.0 a.1 in
            let other : functions ≢ 0 = eqb-false functions 0 v.0 in
            subst (λ (y : ReadItem). TakesItem functions statics ls y) (ok_is (FunctionItem a.0.0, functions - 1, statics, a.0.1) x a.2) (record {
              parts = t.parts;
              formed = λ others are. (t.formed, are);
              functions_count = λ others few. one_more (functions_in (FunctionItem a.0.0 ∷ others)) functions (functions_in others) other few refl;
              statics_count = λ others few. few;
              shorter = t.shorter;
            })
      ]
      | inr w ↦ elim (chosen (starts_with (fixed.Word words.Static) ls) _ _ (Ok x) w.1) [
        | inl u ↦ elim (chosen (statics == 0) _ _ (Ok x) u.1) [
          | inl v ↦ absurd cc
          | inr v ↦
              let a = bind_ok (static_at ls) (λ s. Ok (StaticItem s.0, functions, statics - 1, s.1)) x v.1 in
              let t = static_takes ls a.0 a.1 in
              let other : statics ≢ 0 = eqb-false statics 0 v.0 in
              subst (λ (y : ReadItem). TakesItem functions statics ls y) (ok_is (StaticItem a.0.0, functions, statics - 1, a.0.1) x a.2) (record {
                parts = t.parts;
                formed = λ others are. are;
                functions_count = λ others few. few;
                statics_count = λ others few. one_more (statics_in (StaticItem a.0.0 ∷ others)) statics (statics_in others) other few refl;
                shorter = t.shorter;
              })
        ]
        | inr u ↦ absurd cc
      ]
    ]

pub record TakesItems (functions statics : ℕ) (ls : List Lexed) (items : List Item) : Type 0 where
  pub rest : List Lexed
  pub parts : Begins (flat_map item items) ls rest
  pub ended : starts_with fixed.End rest ≡ true
  pub formed : AreItems items
  pub few_functions : functions_in items ≤ functions
  pub few_statics : statics_in items ≤ statics

pub items_take : (steps functions statics : ℕ) (ls : List Lexed) (items : List Item) → items_at steps functions statics ls ≡ Ok items → TakesItems functions statics ls items
unfolding items_at
items_take zero functions statics ls items h = absurd cc
items_take (suc steps) functions statics ls items h =
    elim (chosen (starts_with fixed.End ls) _ _ (Ok items) h) [
      | inl w ↦ subst (λ (y : List Item). TakesItems functions statics ls y) (ok_is [] items w.1) (record { rest = ls; parts = refl; ended = w.0; formed = tt; few_functions = omega arith; few_statics = omega arith })
      | inr w ↦
          let a = bind_ok (item_at functions statics ls) (λ i. items_at steps i.1 i.2 i.3 >>= λ items. Ok (i.0 ∷ items)) items w.1 in
          let b = bind_ok (items_at steps a.0.1 a.0.2 a.0.3) (λ items. Ok (a.0.0 ∷ items)) items a.2 in
          let t = item_takes functions statics ls a.0 a.1 in
          let r = items_take steps a.0.1 a.0.2 a.0.3 b.0 b.1 in
          subst (λ (y : List Item). TakesItems functions statics ls y) (ok_is (a.0.0 ∷ b.0) items b.2) (record {
            rest = r.rest;
            parts = begins_append (item a.0.0) (flat_map item b.0) ls a.0.3 r.rest t.parts r.parts;
            ended = r.ended;
            formed = t.formed b.0 r.formed;
            few_functions = t.functions_count b.0 r.few_functions;
            few_statics = t.statics_count b.0 r.few_statics;
          })
    ]
