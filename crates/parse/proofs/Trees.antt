-- The trees that are read are those that a text may spell.
use Rattle.std.proofs.Common.{◌≡◌, ℕ, ◌+◌, ◌-◌, ◌≤◌, Bool, true, false, List, [], ◌∷◌, ◌++◌, length, map, Option, Some, None, refl, sym, ap, ◌∙◌, arith}
use Rattle.std.specs.Prelude.{◌&&◌, nat_le, nat_lt, flat_map}
use Rattle.std.specs.List.{list_all}
use Rattle.std.specs.Option.{option_to_list}
use Rattle.std.proofs.lemmas.Bool.{and_from, and_parts, false≢true, le-leb, leb-true, lt-ltb, ltb-true}
use Rattle.std.proofs.lemmas.List.{length-append, length-map}
use Rattle.std.proofs.lemmas.List.Folds.{list_all-append}
use Rattle.scan.specs.declared.token.Mark.TheVariants as marks
use Rattle.syntax.specs.declared.declared_type.DeclaredType.TheVariants.{Simple, Pointer, ConstChars}
use Rattle.syntax.specs.Tree.{Expr, Number, Named, Variable, Element, Prefix, Binary, Paren, Argument, Value, Text, AddressOf, Call, RightSide, FromExpr, FromCall, Test, TestExpr, TestCall, Stmt, Plain, Declare, DeclareArray, Assign, AssignElement, Perform, PutJint, If, Else, NoElse, ElseBlock, While, Return, Block, End, Next, Function, Item, StaticItem, FunctionItem, SourceUnit}
use Rattle.syntax.specs.Parts.{functions_of, statements_within, statements_of, call_of_right_side, own_arguments, argument_expressions, right_side_expressions, test_expressions, own_expressions, names_declared, parameter_names}
use Rattle.syntax.specs.Limits.{operator_level, prefix_level, level, levelled, numbers_in_range, text_of_bytes, height, highest, own_height, statement_height, block_height, well_formed, block_well_formed, IsTree}
use Rattle.scan.specs.declared.reserved.Word.TheVariants as words
use Rattle.parse_lexemes.specs.declared.first.Fixed.TheVariants as fixed
use Rattle.parse_lexemes.specs.Meaning.{Fixed', Number'}
use Rattle.parse_lexemes.specs.Spelling.{Spelled, Anywhere, OnLine, mark, word}
use Rattle.parse_expressions.specs.Spelling.{expression, call, right, test_tokens}
use Rattle.parse_statements.specs.Spelling.{statement, inside}
use Rattle.parse.specs.Spelling.{parameters, function, item, spell}
use Rattle.parse_statements.specs.Reading.{is_return}
use Rattle.parse_expressions.proofs.Forms.{IsLevelled, IsExpr, AreArguments, IsRight, IsTest}
use Rattle.parse_statements.proofs.Forms.{IsForm, MayFollow, IsBlock, names_in}
use Rattle.parse.proofs.Forms.{IsFunction, AreItems}
use Rattle.parse_expressions.proofs.Table.{level_small}
use Rattle.parse.proofs.Ranges.{AreInRange, range_left, range_right, numbers_of}
use Rattle.parse_expressions.proofs.JniCalls.{argument_tokens}
use Rattle.parse_statements.proofs.Nested.{tested_tail}
use Rattle.parse.proofs.Programs.{functions_in, statics_in}

-- ---- expressions

level_of : (least : ℕ) (e : Expr) → least ≤ prefix_level → IsLevelled least e → least ≤ level e
level_of least (Number value unsigned) le h = omega (arith, le)
level_of least (Named c) le h = omega (arith, le)
level_of least (Variable x) le h = omega (arith, le)
level_of least (Element x i) le h = omega (arith, le)
level_of least (Prefix op e) le h = le
level_of least (Binary op a b) le h = h.0
level_of least (Paren e) le h = omega (arith, le)

levelled_of : (least : ℕ) (e : Expr) → IsLevelled least e → levelled e ≡ true
levelled_of least (Number value unsigned) h = refl
levelled_of least (Named c) h = refl
levelled_of least (Variable x) h = refl
levelled_of least (Element x i) h = levelled_of 0 i h
levelled_of least (Prefix op e) h = and_from (nat_le prefix_level (level e)) (levelled e) (le-leb prefix_level (level e) (level_of prefix_level e (omega arith) h)) (levelled_of prefix_level e h)
levelled_of least (Binary op a b) h =
    let small = level_small op in
    let left = le-leb (operator_level op) (level a) (level_of (operator_level op) a (omega (arith, small)) h.1) in
    let tighter : operator_level op + 1 ≤ level b = level_of (operator_level op + 1) b (omega (arith, small)) h.2 in
    let right = lt-ltb (operator_level op) (level b) (omega (arith, tighter)) in
    and_from _ (levelled b) (and_from _ (levelled a) (and_from _ _ left right) (levelled_of (operator_level op) a h.1)) (levelled_of (operator_level op + 1) b h.2)
levelled_of least (Paren e) h = levelled_of 0 e h

to_levelled : (e : Expr) (least : ℕ) → levelled e ≡ true → least ≤ level e → IsLevelled least e
to_levelled (Number value unsigned) least h le = tt
to_levelled (Named c) least h le = tt
to_levelled (Variable x) least h le = tt
to_levelled (Element x i) least h le = to_levelled i 0 h (omega arith)
to_levelled (Prefix op e) least h le =
    let p = and_parts (nat_le prefix_level (level e)) (levelled e) h in
    to_levelled e prefix_level p.1 (leb-true prefix_level (level e) p.0)
to_levelled (Binary op a b) least h le =
    let p = and_parts (nat_le (operator_level op) (level a) && nat_lt (operator_level op) (level b) && levelled a) (levelled b) h in
    let q = and_parts (nat_le (operator_level op) (level a) && nat_lt (operator_level op) (level b)) (levelled a) p.0 in
    let r = and_parts (nat_le (operator_level op) (level a)) (nat_lt (operator_level op) (level b)) q.0 in
    let tighter = ltb-true (operator_level op) (level b) r.1 in
    (le, to_levelled a (operator_level op) q.1 (leb-true (operator_level op) (level a) r.0), to_levelled b (operator_level op + 1) p.1 (omega (arith, tighter)))
to_levelled (Paren e) least h le = to_levelled e 0 h (omega arith)

-- ---- arguments and right sides

abbrev expressions_of : List Argument → List Expr
expressions_of arguments = flat_map argument_expressions arguments

record ArgumentFacts (room : ℕ) (arguments : List Argument) : Type 0 where
  levels : list_all levelled (expressions_of arguments) ≡ true
  numbers : AreInRange (argument_tokens arguments) → list_all numbers_in_range (expressions_of arguments) ≡ true
  texts : AreInRange (argument_tokens arguments) → list_all text_of_bytes arguments ≡ true
  low : highest (map height (expressions_of arguments)) ≤ room

argument_facts : (room : ℕ) (arguments : List Argument) → AreArguments room arguments → ArgumentFacts room arguments
argument_facts room [] is = record { levels = refl; numbers = λ h. refl; texts = λ h. refl; low = omega arith }
argument_facts room (Value e ∷ more) is =
    let facts = argument_facts room more is.1 in
    let high = is.0.low in
    let high_more = facts.low in
    record {
      levels = and_from (levelled e) _ (levelled_of 0 e is.0.levelled) facts.levels;
      numbers = λ h. and_from (numbers_in_range e) _ (numbers_of e (range_left (expression e) (argument_tokens more) h.1)) (facts.numbers (range_right (expression e) (argument_tokens more) h.1));
      texts = λ h. facts.texts (range_right (expression e) (argument_tokens more) h.1);
      low = omega (arith, high, high_more);
    }
argument_facts room (Text bytes ∷ more) is =
    let facts = argument_facts room more is.1 in
    record { levels = facts.levels; numbers = λ h. facts.numbers h.1.1; texts = λ h. and_from (text_of_bytes (Text bytes)) _ h.1.0 (facts.texts h.1.1); low = facts.low }
argument_facts room (AddressOf x ∷ more) is =
    let facts = argument_facts room more is.1 in
    record { levels = facts.levels; numbers = λ h. facts.numbers h.1.1.1; texts = λ h. facts.texts h.1.1.1; low = facts.low }

to_arguments : (room : ℕ) (arguments : List Argument) → list_all levelled (expressions_of arguments) ≡ true → highest (map height (expressions_of arguments)) ≤ room → AreArguments room arguments
to_arguments room [] h low = tt
to_arguments room (Value e ∷ more) h low =
    let p = and_parts (levelled e) (list_all levelled (expressions_of more)) h in
    (record { levelled = to_levelled e 0 p.0 (omega arith); low = omega (arith, low) }, to_arguments room more p.1 (omega (arith, low)))
to_arguments room (Text bytes ∷ more) h low = (tt, to_arguments room more h low)
to_arguments room (AddressOf x ∷ more) h low = (tt, to_arguments room more h low)

-- numbers in range, and texts of bytes
abbrev in_range : List Expr → List Argument → Bool
in_range expressions arguments = list_all numbers_in_range expressions && list_all text_of_bytes arguments

-- the range of a call's arguments
call_range : (c : Call) → AreInRange (call c) → AreInRange (argument_tokens c.arguments)
call_range c h = range_left (argument_tokens c.arguments) (mark marks.CloseParen ∷ []) h.1.1.1.1.1.1.1.1

abbrev arguments_of : Option Call → List Argument
arguments_of o = flat_map (λ (c : Call). c.arguments) (option_to_list o)

call_in_range : (room : ℕ) (c : Call) → ArgumentFacts room c.arguments → AreInRange (call c) → in_range (expressions_of c.arguments) (arguments_of (Some c)) ≡ true
call_in_range room c facts h =
    let range = call_range c h in
    let texts = list_all-append text_of_bytes c.arguments [] ∙ and_from (list_all text_of_bytes c.arguments) true (facts.texts range) refl in
    and_from (list_all numbers_in_range (expressions_of c.arguments)) _ (facts.numbers range) texts

-- expressions, and no call
without_call : (expressions : List Expr) → list_all numbers_in_range expressions ≡ true → in_range expressions [] ≡ true
without_call expressions h = and_from (list_all numbers_in_range expressions) true h refl

one_number : (e : Expr) → AreInRange (expression e) → in_range (e ∷ []) [] ≡ true
one_number e h = without_call (e ∷ []) (and_from (numbers_in_range e) true (numbers_of e h) refl)

record RightFacts (room : ℕ) (r : RightSide) : Type 0 where
  levels : list_all levelled (right_side_expressions r) ≡ true
  range : AreInRange (right r) → in_range (right_side_expressions r) (arguments_of (call_of_right_side (Some r))) ≡ true
  low : highest (map height (right_side_expressions r)) ≤ room

right_facts : (room : ℕ) (r : RightSide) → IsRight room r → RightFacts room r
right_facts room (FromExpr e) is = record {
  levels = and_from (levelled e) true (levelled_of 0 e is.levelled) refl;
  range = one_number e;
  low = let low = is.low in omega (arith, low);
}
right_facts room (FromCall c) is =
    let facts = argument_facts room c.arguments is in
    record { levels = facts.levels; range = call_in_range room c facts; low = facts.low }

to_right : (room : ℕ) (r : RightSide) → list_all levelled (right_side_expressions r) ≡ true → highest (map height (right_side_expressions r)) ≤ room → IsRight room r
to_right room (FromExpr e) h low = record { levelled = to_levelled e 0 (and_parts (levelled e) true h).0 (omega arith); low = omega (arith, low) }
to_right room (FromCall c) h low = to_arguments room c.arguments h low

-- the call that is tested
abbrev tested_call : Test → Option Call
tested_call (TestExpr e) = None
tested_call (TestCall c) = Some c

record TestFacts (room : ℕ) (t : Test) : Type 0 where
  levels : list_all levelled (test_expressions t) ≡ true
  range : AreInRange (test_tokens t) → in_range (test_expressions t) (arguments_of (tested_call t)) ≡ true
  low : highest (map height (test_expressions t)) ≤ room

test_facts : (room : ℕ) (t : Test) → IsTest room t → TestFacts room t
test_facts room (TestExpr e) is = record {
  levels = and_from (levelled e) true (levelled_of 0 e is.levelled) refl;
  range = one_number e;
  low = let low = is.low in omega (arith, low);
}
test_facts room (TestCall c) is =
    let facts = argument_facts room c.arguments is in
    record { levels = facts.levels; range = λ h. call_in_range room c facts (range_left (call c) (mark marks.Equal ∷ Anywhere (Number' 0 false) ∷ []) h); low = facts.low }

-- what an `if` gives to the call that it tests
if_arguments : (line : ℕ) (t : Test) (b : Block) (d : Else) → own_arguments (If line t b d) ≡ arguments_of (tested_call t)
if_arguments line (TestExpr e) b d = refl
if_arguments line (TestCall c) b d = refl

to_test : (room : ℕ) (t : Test) → list_all levelled (test_expressions t) ≡ true → highest (map height (test_expressions t)) ≤ room → IsTest room t
to_test room (TestExpr e) h low = record { levelled = to_levelled e 0 (and_parts (levelled e) true h).0 (omega arith); low = omega (arith, low) }
to_test room (TestCall c) h low = to_arguments room c.arguments h low

-- the range of a test's tokens
tested_range : (test more : List Spelled) → AreInRange (tested_tail test ++ more) → AreInRange test
tested_range test more h = range_left test (mark marks.CloseParen ∷ []) (range_left (tested_tail test) more h).1

-- a block counts one
block_some : (b : Block) → 1 ≤ block_height b
block_some (End line) = omega arith
block_some (Next s rest) = let p = block_some rest in omega (arith, p)

-- ---- statements and blocks

abbrev pub all_levelled : List Stmt → Bool
all_levelled statements = list_all (λ s. list_all levelled (own_expressions s)) statements

-- numbers in range, and texts of bytes
abbrev pub all_in_range : List Stmt → Bool
all_in_range statements = list_all (λ s. in_range (own_expressions s) (own_arguments s)) statements

abbrev all_numbers : List Stmt → Bool
all_numbers statements = list_all (λ s. list_all numbers_in_range (own_expressions s)) statements

abbrev all_texts : List Stmt → Bool
all_texts statements = list_all (λ s. list_all text_of_bytes (own_arguments s)) statements

-- both of each statement
ranges_parted : (statements : List Stmt) → all_in_range statements ≡ true → (all_numbers statements ≡ true) × (all_texts statements ≡ true)
ranges_parted [] h = (refl, refl)
ranges_parted (s ∷ statements) h =
    let p = and_parts (in_range (own_expressions s) (own_arguments s)) (all_in_range statements) h in
    let own = and_parts (list_all numbers_in_range (own_expressions s)) (list_all text_of_bytes (own_arguments s)) p.0 in
    let others = ranges_parted statements p.1 in
    (and_from _ (all_numbers statements) own.0 others.0, and_from _ (all_texts statements) own.1 others.1)

-- what is so of each statement of two lists
both : (test : Stmt → Bool) (a b : List Stmt) → list_all test a ≡ true → list_all test b ≡ true → list_all test (a ++ b) ≡ true
both test a b h k = list_all-append test a b ∙ and_from (list_all test a) (list_all test b) h k

parted : (test : Stmt → Bool) (a b : List Stmt) → list_all test (a ++ b) ≡ true → (list_all test a ≡ true) × (list_all test b ≡ true)
parted test a b h = and_parts (list_all test a) (list_all test b) (sym (list_all-append test a b) ∙ h)

record FormFacts (room : ℕ) (s : Stmt) : Type 0 where
  levels : all_levelled (statements_within s) ≡ true
  range : AreInRange (statement s) → all_in_range (statements_within s) ≡ true
  formed : well_formed s ≡ true
  low : statement_height s ≤ room

pub record BlockFacts (room : ℕ) (b : Block) : Type 0 where
  pub levels : all_levelled (statements_of b) ≡ true
  pub range : AreInRange (inside b) → all_in_range (statements_of b) ≡ true
  pub formed : block_well_formed b ≡ true
  pub low : block_height b ≤ room + 1

-- the facts of a statement's own expressions, where it has no block
record OwnFacts (room : ℕ) (s : Stmt) : Type 0 where
  levels : list_all levelled (own_expressions s) ≡ true
  range : AreInRange (statement s) → in_range (own_expressions s) (own_arguments s) ≡ true
  low : own_height s ≤ room

one_expression : (e : Expr) → levelled e ≡ true → list_all levelled (e ∷ []) ≡ true
one_expression e h = and_from (levelled e) true h refl

own_facts : (room : ℕ) (s : Stmt) → IsForm room s → OwnFacts room s
own_facts room (Plain line (Declare (Simple t) x r)) is =
    let facts = right_facts room r is in
    record { levels = facts.levels; range = λ h. facts.range (range_left (right r) (mark marks.Semicolon ∷ []) h.1.1.1); low = facts.low }
own_facts room (Plain line (Declare (Pointer t) x r)) is =
    let facts = right_facts room r is in
    record { levels = facts.levels; range = λ h. facts.range (range_left (right r) (mark marks.Semicolon ∷ []) h.1.1.1.1); low = facts.low }
own_facts room (Plain line (Declare ConstChars x r)) is =
    let facts = right_facts room r is in
    record { levels = facts.levels; range = λ h. facts.range (range_left (right r) (mark marks.Semicolon ∷ []) h.1.1.1.1.1); low = facts.low }
own_facts room (Plain line (DeclareArray t x size)) is = record { levels = refl; range = λ h. refl; low = omega arith }
own_facts room (Plain line (Assign x r)) is =
    let facts = right_facts room r is in
    record { levels = facts.levels; range = λ h. facts.range (range_left (right r) (mark marks.Semicolon ∷ []) h.1.1); low = facts.low }
own_facts room (Plain line (AssignElement x i e)) is =
    let closing : List Spelled = expression e ++ mark marks.Semicolon ∷ [] in
    let low_i = is.0.low in
    let low_e = is.1.low in
    record {
      levels = and_from (levelled i) _ (levelled_of 0 i is.0.levelled) (one_expression e (levelled_of 0 e is.1.levelled));
      range = λ h.
          let after_index = range_right (expression i) (mark marks.CloseBracket ∷ mark marks.Assign ∷ closing) h.1.1 in
          let index = numbers_of i (range_left (expression i) (mark marks.CloseBracket ∷ mark marks.Assign ∷ closing) h.1.1) in
          let value = numbers_of e (range_left (expression e) (mark marks.Semicolon ∷ []) after_index.1.1) in
          without_call (i ∷ e ∷ []) (and_from (numbers_in_range i) _ index (and_from (numbers_in_range e) true value refl));
      low = omega (arith, low_i, low_e);
    }
own_facts room (Plain line (Perform c)) is =
    let facts = argument_facts room c.arguments is in
    record { levels = facts.levels; range = λ h. call_in_range room c facts (range_left (call c) (mark marks.Semicolon ∷ []) h); low = facts.low }
own_facts room (Plain line (PutJint e)) is = record {
  levels = one_expression e (levelled_of 0 e is.levelled);
  range = λ h. one_number e (range_left (expression e) (mark marks.CloseParen ∷ mark marks.Semicolon ∷ []) h.1.1);
  low = let low = is.low in omega (arith, low);
}
own_facts room (If line test b NoElse) is =
    let facts = test_facts room test is.1 in
    record { levels = facts.levels; range = λ h. ap (in_range (test_expressions test)) (if_arguments line test b NoElse) ∙ facts.range (tested_range (test_tokens test) (mark marks.OpenBrace ∷ inside b) h.1); low = facts.low }
own_facts room (If line test b (ElseBlock d)) is =
    let facts = test_facts room test is.1 in
    record {
      levels = facts.levels;
      range = λ h.
          let tested = tested_range (test_tokens test) (mark marks.OpenBrace ∷ inside b) (range_left (statement (If line test b NoElse)) (word words.Else ∷ mark marks.OpenBrace ∷ inside d) h).1 in
          ap (in_range (test_expressions test)) (if_arguments line test b (ElseBlock d)) ∙ facts.range tested;
      low = facts.low;
    }
own_facts room (While line test b) is = record {
  levels = one_expression test (levelled_of 0 test is.1.levelled);
  range = λ h. one_number test (tested_range (expression test) (mark marks.OpenBrace ∷ inside b) h.1);
  low = let low = is.1.low in omega (arith, low);
}
own_facts room (Return line None) is = record { levels = refl; range = λ h. refl; low = omega arith }
own_facts room (Return line (Some e)) is = record {
  levels = one_expression e (levelled_of 0 e is.levelled);
  range = λ h. one_number e (range_left (expression e) (mark marks.Semicolon ∷ []) h.1);
  low = let low = is.low in omega (arith, low);
}

-- a statement without a block
alone : (room : ℕ) (s : Stmt) → OwnFacts room s → statements_within s ≡ s ∷ [] → statement_height s ≡ own_height s → well_formed s ≡ true → FormFacts room s
alone room s own within same formed = record {
  levels = ap all_levelled within ∙ and_from _ true own.levels refl;
  range = λ h. ap all_in_range within ∙ and_from _ true (own.range h) refl;
  formed = formed;
  low = let low = own.low in omega (arith, same, low);
}

-- the range of a block's tokens, after a test, and after `else`
block_range : (first : Spelled) (test : List Spelled) (b : Block) → AreInRange (first ∷ (tested_tail test ++ mark marks.OpenBrace ∷ inside b)) → AreInRange (inside b)
block_range first test b h = (range_right (tested_tail test) (mark marks.OpenBrace ∷ inside b) h.1).1

else_range : (line : ℕ) (test : Test) (b d : Block) → AreInRange (statement (If line test b (ElseBlock d))) → AreInRange (inside d)
else_range line test b d h = (range_right (statement (If line test b NoElse)) (word words.Else ∷ mark marks.OpenBrace ∷ inside d) h).1.1

-- a statement, and a block after it that may follow
well_formed_of : (s : Stmt) (rest : Block) → MayFollow (is_return s) rest → well_formed s ≡ true → block_well_formed rest ≡ true → block_well_formed (Next s rest) ≡ true
well_formed_of (Plain line p) rest follows own h = and_from (well_formed (Plain line p)) (block_well_formed rest) own h
well_formed_of (If line test b d) rest follows own h = and_from (well_formed (If line test b d)) (block_well_formed rest) own h
well_formed_of (While line test b) rest follows own h = and_from (well_formed (While line test b)) (block_well_formed rest) own h
well_formed_of (Return line e) (End last) follows own h = refl
well_formed_of (Return line e) (Next s rest) follows own h = absurd follows

mutual
  form_facts : (room : ℕ) (s : Stmt) → IsForm room s → FormFacts room s
  form_facts room (Plain line (Declare t x r)) is = alone room (Plain line (Declare t x r)) (own_facts room (Plain line (Declare t x r)) is) refl refl refl
  form_facts room (Plain line (DeclareArray t x size)) is = alone room (Plain line (DeclareArray t x size)) (own_facts room (Plain line (DeclareArray t x size)) is) refl refl (and_from (nat_le 1 size) (nat_le size 1024) (le-leb 1 size is.some) (le-leb size 1024 is.bound))
  form_facts room (Plain line (Assign x r)) is = alone room (Plain line (Assign x r)) (own_facts room (Plain line (Assign x r)) is) refl refl refl
  form_facts room (Plain line (AssignElement x i e)) is = alone room (Plain line (AssignElement x i e)) (own_facts room (Plain line (AssignElement x i e)) is) refl refl refl
  form_facts room (Plain line (Perform c)) is = alone room (Plain line (Perform c)) (own_facts room (Plain line (Perform c)) is) refl refl refl
  form_facts room (Plain line (PutJint e)) is = alone room (Plain line (PutJint e)) (own_facts room (Plain line (PutJint e)) is) refl refl refl
  form_facts room (Return line e) is = alone room (Return line e) (own_facts room (Return line e) is) refl refl refl
  form_facts room (If line test b NoElse) is =
      let own = own_facts room (If line test b NoElse) is in
      let body = block_facts (room - 1) b is.2 in
      let low_own = own.low in
      let low_body = body.low in
      record {
        levels = and_from _ (all_levelled (statements_of b)) own.levels body.levels;
        range = λ h. and_from _ (all_in_range (statements_of b)) (own.range h) (body.range (block_range (OnLine line (Fixed' (fixed.Word words.If))) (test_tokens test) b h));
        formed = body.formed;
        low = omega (arith, is.0, low_own, low_body);
      }
  form_facts room (If line test b (ElseBlock d)) is =
      let own = own_facts room (If line test b (ElseBlock d)) is in
      let body = block_facts (room - 1) b is.2 in
      let other = block_facts (room - 1) d is.3 in
      let low_own = own.low in
      let low_body = body.low in
      let low_other = other.low in
      record {
        levels = and_from _ (all_levelled (statements_of b ++ statements_of d)) own.levels (both _ (statements_of b) (statements_of d) body.levels other.levels);
        range = λ h. and_from _ (all_in_range (statements_of b ++ statements_of d)) (own.range h) (both _ (statements_of b) (statements_of d) (body.range (block_range (OnLine line (Fixed' (fixed.Word words.If))) (test_tokens test) b (range_left (statement (If line test b NoElse)) (word words.Else ∷ mark marks.OpenBrace ∷ inside d) h))) (other.range (else_range line test b d h)));
        formed = and_from (block_well_formed b) (block_well_formed d) body.formed other.formed;
        low = omega (arith, is.0, low_own, low_body, low_other);
      }
  form_facts room (While line test b) is =
      let own = own_facts room (While line test b) is in
      let body = block_facts (room - 1) b is.2 in
      let low_own = own.low in
      let low_body = body.low in
      record {
        levels = and_from _ (all_levelled (statements_of b)) own.levels body.levels;
        range = λ h. and_from _ (all_in_range (statements_of b)) (own.range h) (body.range (block_range (OnLine line (Fixed' (fixed.Word words.While))) (expression test) b h));
        formed = body.formed;
        low = omega (arith, is.0, low_own, low_body);
      }

  pub block_facts : (room : ℕ) (b : Block) → IsBlock room b → BlockFacts room b
  block_facts room (End line) is = record { levels = refl; range = λ h. refl; formed = refl; low = omega arith }
  block_facts room (Next s rest) is =
      let f = form_facts room s is.0 in
      let r = block_facts room rest is.2 in
      record {
        levels = both _ (statements_within s) (statements_of rest) f.levels r.levels;
        range = λ h. both _ (statements_within s) (statements_of rest) (f.range (range_left (statement s) (inside rest) h)) (r.range (range_right (statement s) (inside rest) h));
        formed = well_formed_of s rest is.1 f.formed r.formed;
        low = omega (arith, f.low, r.low);
      }

-- ---- the other way round

to_follows : (s : Stmt) (rest : Block) → block_well_formed (Next s rest) ≡ true → MayFollow (is_return s) rest × (block_well_formed rest ≡ true) × (well_formed s ≡ true)
to_follows (Plain line plain) rest h = let p = and_parts (well_formed (Plain line plain)) (block_well_formed rest) h in (tt, p.1, p.0)
to_follows (If line test b d) rest h = let p = and_parts (well_formed (If line test b d)) (block_well_formed rest) h in (tt, p.1, p.0)
to_follows (While line test b) rest h = let p = and_parts (well_formed (While line test b)) (block_well_formed rest) h in (tt, p.1, p.0)
to_follows (Return line e) (End last) h = (tt, refl, refl)
to_follows (Return line e) (Next s rest) h = absurd (false≢true h)

-- the first of a list of statements
first_part : (test : Stmt → Bool) (s : Stmt) (others : List Stmt) → list_all test (s ∷ others) ≡ true → (test s ≡ true) × (list_all test others ≡ true)
first_part test s others h = and_parts (test s) (list_all test others) h

abbrev is_levelled : Stmt → Bool
is_levelled s = list_all levelled (own_expressions s)

to_expr : (room : ℕ) (e : Expr) → list_all levelled (e ∷ []) ≡ true → height e ≤ room → IsExpr room e
to_expr room e h low = record { levelled = to_levelled e 0 (and_parts (levelled e) true h).0 (omega arith); low = low }

mutual
  to_form : (room : ℕ) (s : Stmt) → all_levelled (statements_within s) ≡ true → well_formed s ≡ true → statement_height s ≤ room → IsForm room s
  to_form room (Plain line (Declare t x r)) h formed low = to_right room r (first_part is_levelled (Plain line (Declare t x r)) [] h).0 low
  to_form room (Plain line (DeclareArray t x size)) h formed low =
      let p = and_parts (nat_le 1 size) (nat_le size 1024) formed in
      record { some = leb-true 1 size p.0; bound = leb-true size 1024 p.1 }
  to_form room (Plain line (Assign x r)) h formed low = to_right room r (first_part is_levelled (Plain line (Assign x r)) [] h).0 low
  to_form room (Plain line (AssignElement x i e)) h formed low =
      let own = (first_part is_levelled (Plain line (AssignElement x i e)) [] h).0 in
      let p = and_parts (levelled i) (list_all levelled (e ∷ [])) own in
      (record { levelled = to_levelled i 0 p.0 (omega arith); low = omega (arith, low) }, to_expr room e p.1 (omega (arith, low)))
  to_form room (Plain line (Perform c)) h formed low = to_arguments room c.arguments (first_part is_levelled (Plain line (Perform c)) [] h).0 low
  to_form room (Plain line (PutJint e)) h formed low = to_expr room e (first_part is_levelled (Plain line (PutJint e)) [] h).0 (omega (arith, low))
  to_form room (Return line None) h formed low = tt
  to_form room (Return line (Some e)) h formed low = to_expr room e (first_part is_levelled (Return line (Some e)) [] h).0 (omega (arith, low))
  to_form room (If line test b NoElse) h formed low =
      let p = first_part is_levelled (If line test b NoElse) (statements_of b) h in
      let some = block_some b in
      (omega (arith, low, some), to_test room test p.0 (omega (arith, low)), to_block (room - 1) b p.1 formed (omega (arith, low, some)))
  to_form room (If line test b (ElseBlock d)) h formed low =
      let p = first_part is_levelled (If line test b (ElseBlock d)) (statements_of b ++ statements_of d) h in
      let q = parted is_levelled (statements_of b) (statements_of d) p.1 in
      let f = and_parts (block_well_formed b) (block_well_formed d) formed in
      let some = block_some b in
      (omega (arith, low, some), to_test room test p.0 (omega (arith, low)), to_block (room - 1) b q.0 f.0 (omega (arith, low, some)), to_block (room - 1) d q.1 f.1 (omega (arith, low, some)))
  to_form room (While line test b) h formed low =
      let p = first_part is_levelled (While line test b) (statements_of b) h in
      let some = block_some b in
      (omega (arith, low, some), to_expr room test p.0 (omega (arith, low)), to_block (room - 1) b p.1 formed (omega (arith, low, some)))

  pub to_block : (room : ℕ) (b : Block) → all_levelled (statements_of b) ≡ true → block_well_formed b ≡ true → block_height b ≤ room + 1 → IsBlock room b
  to_block room (End line) h formed low = tt
  to_block room (Next s rest) h formed low =
      let q = parted is_levelled (statements_within s) (statements_of rest) h in
      let f = to_follows s rest formed in
      (to_form room s q.0 f.2 (omega (arith, low)), f.0, to_block room rest q.1 f.1 (omega (arith, low)))

-- ---- functions and units

pub record FunctionFacts (f : Function) : Type 0 where
  pub body : BlockFacts 31 f.body
  pub range : AreInRange (inside f.body)
  pub names : length (parameter_names f ++ names_declared (statements_of f.body)) ≤ 256

-- the names of a function, its class first
names_count : (f : Function) → length (parameter_names f ++ names_declared (statements_of f.body)) ≡ 1 + length f.parameters + names_in f.body
names_count f =
    let all = length-append (parameter_names f) (names_declared (statements_of f.body)) in
    let after_class = length-map f.parameters (λ p. p.name) in
    omega (arith, all, after_class)

body_range : (f : Function) → AreInRange (function f) → AreInRange (inside f.body)
body_range f range =
    let after_name = range.1.1.1.1 in
    let after_parameters = range_right (parameters f) (mark marks.CloseParen ∷ mark marks.OpenBrace ∷ inside f.body) after_name in
    after_parameters.1.1

function_facts : (f : Function) → IsFunction f → AreInRange (function f) → FunctionFacts f
function_facts f is range =
    let names = is.names in
    let count = names_count f in
    record {
      body = block_facts 31 f.body is.body;
      range = body_range f range;
      names = omega (arith, count, names);
    }

abbrev AllFacts : List Item → Type 0
AllFacts [] = Unit {0}
AllFacts (StaticItem s ∷ items) = AllFacts items
AllFacts (FunctionItem f ∷ items) = FunctionFacts f × AllFacts items

all_facts : (items : List Item) → AreItems items → AreInRange (flat_map item items) → AllFacts items
all_facts [] is range = tt
all_facts (StaticItem s ∷ items) is range = all_facts items is (range_right (item (StaticItem s)) (flat_map item items) range)
all_facts (FunctionItem f ∷ items) is range = (function_facts f is.0 (range_left (function f) (flat_map item items) range), all_facts items is.1 (range_right (function f) (flat_map item items) range))

abbrev unit_of : List Item → SourceUnit
unit_of items = record { items = items }

-- what is so of each function
all_of : (test : Function → Bool) → ((f : Function) → FunctionFacts f → test f ≡ true) → (items : List Item) → AllFacts items → list_all test (functions_of (unit_of items)) ≡ true
all_of test so [] facts = refl
all_of test so (StaticItem s ∷ items) facts = all_of test so items facts
all_of test so (FunctionItem f ∷ items) facts = and_from _ _ (so f facts.0) (all_of test so items facts.1)

abbrev few_names : Function → Bool
few_names f = nat_le (length (parameter_names f ++ names_declared (statements_of f.body))) 256

pub is_tree : (items : List Item) → AreItems items → functions_in items ≤ 256 → statics_in items ≤ 256 → AreInRange (spell (unit_of items)) → IsTree (unit_of items)
is_tree items is few_functions few_statics range =
    let facts = all_facts items is range in
    record {
      levelled_expressions = all_of (λ f. all_levelled (statements_of f.body)) (λ f k. k.body.levels) items facts;
      numbers = all_of (λ f. all_numbers (statements_of f.body)) (λ f k. (ranges_parted (statements_of f.body) (k.body.range k.range)).0) items facts;
      texts = all_of (λ f. all_texts (statements_of f.body)) (λ f k. (ranges_parted (statements_of f.body) (k.body.range k.range)).1) items facts;
      forms = all_of (λ f. block_well_formed f.body) (λ f k. k.body.formed) items facts;
      low = all_of (λ f. nat_le (block_height f.body) 32) (λ f k. le-leb (block_height f.body) 32 (let low = k.body.low in omega (arith, low))) items facts;
      few_functions = few_functions;
      few_statics = few_statics;
      few_names = all_of few_names (λ f k. le-leb _ 256 k.names) items facts;
    }

to_items : (items : List Item) → list_all (λ f. all_levelled (statements_of f.body)) (functions_of (unit_of items)) ≡ true → list_all (λ f. block_well_formed f.body) (functions_of (unit_of items)) ≡ true → list_all (λ f. nat_le (block_height f.body) 32) (functions_of (unit_of items)) ≡ true → list_all few_names (functions_of (unit_of items)) ≡ true → AreItems items
to_items [] levels forms low few = tt
to_items (StaticItem s ∷ items) levels forms low few = to_items items levels forms low few
to_items (FunctionItem f ∷ items) levels forms low few =
    let l = and_parts (all_levelled (statements_of f.body)) (list_all (λ f. all_levelled (statements_of f.body)) (functions_of (unit_of items))) levels in
    let w = and_parts (block_well_formed f.body) (list_all (λ f. block_well_formed f.body) (functions_of (unit_of items))) forms in
    let h = and_parts (nat_le (block_height f.body) 32) (list_all (λ f. nat_le (block_height f.body) 32) (functions_of (unit_of items))) low in
    let n = and_parts (few_names f) (list_all few_names (functions_of (unit_of items))) few in
    let low_body = leb-true (block_height f.body) 32 h.0 in
    let names = leb-true (length (parameter_names f ++ names_declared (statements_of f.body))) 256 n.0 in
    let count = names_count f in
    (record { body = to_block 31 f.body l.0 w.0 (omega (arith, low_body)); names = omega (arith, names, count) }, to_items items l.1 w.1 h.1 n.1)

pub tree_items : (unit : SourceUnit) → IsTree unit → AreItems unit.items
tree_items unit is = to_items unit.items is.levelled_expressions is.forms is.low is.few_names
