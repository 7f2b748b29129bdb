-- The texts of a tree are of bytes.
use Rattle.std.proofs.Common.{◌≡◌, ℕ, true, Bool, List, [], ◌∷◌, ◌++◌, sym, ◌∙◌}
use Rattle.std.specs.Prelude.{nat_lt}
use Rattle.std.specs.List.{list_all, AllByRecursion}
use Rattle.std.proofs.lemmas.Bool.{and_parts, ltb-true}
use Rattle.std.proofs.lemmas.List.Folds.{list_all-append}
use Rattle.syntax.specs.Limits.{IsTree, text_of_bytes}
use Rattle.syntax.specs.Parts.{functions_of, statements_inside, statements_of, statements_within, own_arguments}
use Rattle.syntax.specs.Tree as tree
use Rattle.syntax.specs.Tree.{Argument, RightSide, FromExpr, FromCall, Test, TestExpr, TestCall, Stmt, Block, End, Next, Function, SourceUnit}
use Rattle.semantics_typing.specs.Texts.{IsText, IsTextual, RightHasTexts, TestHasTexts, BlockHasTexts, StmtHasTexts, HasTexts}

pub bytes_are : (bytes : List ℕ) → list_all (λ b. nat_lt b 256) bytes ≡ true → IsText bytes
bytes_are [] h = tt
bytes_are (b ∷ bytes) h = let p = and_parts (nat_lt b 256) (list_all (λ b. nat_lt b 256) bytes) h in (ltb-true b 256 p.0, bytes_are bytes p.1)

pub argument_is : (a : Argument) → text_of_bytes a ≡ true → IsTextual a
argument_is (tree.Value e) h = tt
argument_is (tree.Text bytes) h = bytes_are bytes h
argument_is (tree.AddressOf x) h = tt

pub arguments_are : (arguments : List Argument) → list_all text_of_bytes arguments ≡ true → AllByRecursion IsTextual arguments
arguments_are [] h = tt
arguments_are (a ∷ arguments) h = let p = and_parts (text_of_bytes a) (list_all text_of_bytes arguments) h in (argument_is a p.0, arguments_are arguments p.1)

-- ---- statements and blocks

abbrev has_bytes : Stmt → Bool
has_bytes s = list_all text_of_bytes (own_arguments s)

-- what a statement gives to the call on its right side
right_has : (r : RightSide) → list_all text_of_bytes (own_arguments (tree.Plain 0 (tree.Assign [] r))) ≡ true → RightHasTexts r
right_has (FromExpr e) h = tt
right_has (FromCall c) h = arguments_are c.arguments (and_parts (list_all text_of_bytes c.arguments) true (sym (list_all-append text_of_bytes c.arguments []) ∙ h)).0

if_has : (line : ℕ) (t : Test) (b : Block) (d : tree.Else) → has_bytes (tree.If line t b d) ≡ true → TestHasTexts t
if_has line (TestExpr e) b d h = tt
if_has line (TestCall c) b d h = right_has (FromCall c) h

-- the first of a list of statements, and two lists
first : (s : Stmt) (others : List Stmt) → list_all has_bytes (s ∷ others) ≡ true → (has_bytes s ≡ true) × (list_all has_bytes others ≡ true)
first s others h = and_parts (has_bytes s) (list_all has_bytes others) h

parted : (a b : List Stmt) → list_all has_bytes (a ++ b) ≡ true → (list_all has_bytes a ≡ true) × (list_all has_bytes b ≡ true)
parted a b h = and_parts (list_all has_bytes a) (list_all has_bytes b) (sym (list_all-append has_bytes a b) ∙ h)

mutual
  statement_has : (s : Stmt) → has_bytes s ≡ true → list_all has_bytes (statements_inside s) ≡ true → StmtHasTexts s
  statement_has (tree.Plain line (tree.Declare type x right)) own h = right_has right own
  statement_has (tree.Plain line (tree.DeclareArray type x n)) own h = tt
  statement_has (tree.Plain line (tree.Assign x right)) own h = right_has right own
  statement_has (tree.Plain line (tree.AssignElement x i e)) own h = tt
  statement_has (tree.Plain line (tree.Perform call)) own h = right_has (FromCall call) own
  statement_has (tree.Plain line (tree.PutJint e)) own h = tt
  statement_has (tree.If line test then' tree.NoElse) own h = (if_has line test then' tree.NoElse own, block_has then' h)
  statement_has (tree.If line test then' (tree.ElseBlock else')) own h =
      let both = parted (statements_of then') (statements_of else') h in
      (if_has line test then' (tree.ElseBlock else') own, block_has then' both.0, block_has else' both.1)
  statement_has (tree.While line test body) own h = block_has body h
  statement_has (tree.Return line e) own h = tt

  block_has : (b : Block) → list_all has_bytes (statements_of b) ≡ true → BlockHasTexts b
  block_has (End line) h = tt
  block_has (Next s rest) h =
      let p = parted (statements_within s) (statements_of rest) h in
      let own = first s (statements_inside s) p.0 in
      (statement_has s own.0 own.1, block_has rest p.1)

-- ---- functions

functions_have : (functions : List Function) → list_all (λ f. list_all has_bytes (statements_of f.body)) functions ≡ true → AllByRecursion (λ (f : Function). BlockHasTexts f.body) functions
functions_have [] h = tt
functions_have (f ∷ functions) h =
    let p = and_parts (list_all has_bytes (statements_of f.body)) (list_all (λ f. list_all has_bytes (statements_of f.body)) functions) h in
    (block_has f.body p.0, functions_have functions p.1)

pub tree_has_texts : (unit : SourceUnit) → IsTree unit → HasTexts unit
tree_has_texts unit is = functions_have (functions_of unit) is.texts
