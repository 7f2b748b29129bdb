-- What is known of a tree's statements: their numbers are in range, and they call functions that are there.
use Rattle.std.proofs.Common.{◌≡◌, ℕ, zero, suc, Bool, true, false, List, [], ◌∷◌, ◌++◌, cond, length, map, take, drop, get_or, append_assoc, slice_get, ◌-◌, ◌<◌, ◌≤◌, arith, Option, Some, refl, ap, ◌∙◌, sym, subst, None}
use Rattle.std.specs.Prelude.{find, slice_set, zip}
use Rattle.std.specs.Borrow.{Bor}
use Rattle.std.specs.Str.{bytes_eq}
use Rattle.std.specs.List.{flat_map, list_all}
use Rattle.std.proofs.lemmas.Bool.{and_parts}
use Rattle.std.proofs.lemmas.List.{map-append, take_all}
use Rattle.std.proofs.lemmas.List.Concat.{flat_map-cons}
use Rattle.std.proofs.lemmas.List.Folds.{list_all-append}
use Rattle.jni.specs.declared.kinds.ParameterKind.{ParameterKind}
use Rattle.jni.specs.declared.kinds.ParameterKind.TheVariants.{Passed}
use Rattle.syntax.specs.declared.call.Argument.{Argument as ArgumentInMemory}
use Rattle.syntax.specs.declared.stmt.Block.{Block as BlockInMemory, out-Block}
use Rattle.syntax.specs.declared.stmt.Stmt.{Stmt}
use Rattle.syntax.specs.declared.unit.Item.{Item}
use Rattle.syntax.specs.declared.unit.Function.{Function as FunctionInMemory}
use Rattle.syntax.specs.Tree as tree
use Rattle.syntax.specs.Tree.{Argument, Plain, If, NoElse, ElseBlock, While, Return}
use Rattle.syntax.specs.Limits.{IsTree, numbers_in_range}
use Rattle.syntax.specs.Parts.{argument_expressions, functions_of, statements_of, statements_within}
use Rattle.syntax.specs.Views.{argument_tree, stmt_tree, block_tree, function_tree, unit_tree}
use Rattle.syntax.proofs.Blocks.{block_is, statements_tree}
use Rattle.type_rules.specs.TypeRules.{IsWellTyped}
use Rattle.semantics.specs.Activation.{function_at}
use Rattle.semantics.specs.Task.{Task, operand, task_of, tasks_of}
use Rattle.replay_terms.specs.declared.operand.Operand.{Operand}
use Rattle.replay_terms.specs.Views.{operand_view}
use Rattle.replay_tasks.proofs.KnownCalls.{known_calls}
use Rattle.replay_tasks.specs.Tasks.{ArgumentsInRange, ElseInRange, statements_in, OperandInRange, ListedInRange, tasks_of_statements, has_numbers_in_range, calls_known, BlockInRange, InsideInRange, StatementsInRange}

-- the tasks of statements, by their tree
pub tasks_of-statements : (statements : List Stmt) (end_line : ℕ) → tasks_of_statements statements ≡ tasks_of (statements_tree statements end_line)
tasks_of-statements [] end_line = refl
tasks_of-statements (s ∷ rest) end_line = ap (λ (ts : List Task). task_of (stmt_tree s) ∷ ts) (tasks_of-statements rest end_line)

chosen : {A : Type 0} (q : A → Bool) (b : Bool) (y x : A) (later : Option A) → cond b (Some y) later ≡ Some x → q y ≡ true → (later ≡ Some x → q x ≡ true) → q x ≡ true
chosen q true y x later e here there = let same : y ≡ x = cc in ap q (sym same) ∙ here
chosen q false y x later e here there = there e

-- what is found passes what all pass
found_passes : {A : Type 0} (p q : A → Bool) (xs : List A) (x : A) → find p xs ≡ Some x → list_all q xs ≡ true → q x ≡ true
found_passes p q [] x e h = absurd (cc)
found_passes p q (y ∷ ys) x e h =
    let parts = and_parts (q y) (list_all q ys) h in
    chosen q (p y) y x (find p ys) e parts.0 (λ later. found_passes p q ys x later parts.1)

-- ---- a statement, what is inside it, and what comes after it

module _ (q : tree.Stmt → Bool) where
  both : (xs ys : List tree.Stmt) → list_all q (xs ++ ys) ≡ true → (list_all q xs ≡ true) × (list_all q ys ≡ true)
  both xs ys h = and_parts (list_all q xs) (list_all q ys) (sym (list_all-append q xs ys) ∙ h)

  abbrev Inside : tree.Stmt → Type 0
  Inside (If line test b NoElse) = list_all q (statements_of b) ≡ true
  Inside (If line test b (ElseBlock d)) = (list_all q (statements_of b) ≡ true) × (list_all q (statements_of d) ≡ true)
  Inside (While line test body) = list_all q (statements_of body) ≡ true
  Inside s = Unit {0}

  inside : (s : tree.Stmt) → list_all q (statements_within s) ≡ true → (q s ≡ true) × Inside s
  inside (Plain line p) h = ((and_parts (q (Plain line p)) true h).0, tt)
  inside (If line test b NoElse) h = and_parts (q (If line test b NoElse)) (list_all q (statements_of b)) h
  inside (If line test b (ElseBlock d)) h =
      let parts = and_parts (q (If line test b (ElseBlock d))) (list_all q (statements_of b ++ statements_of d)) h in
      (parts.0, both (statements_of b) (statements_of d) parts.1)
  inside (While line test body) h = and_parts (q (While line test body)) (list_all q (statements_of body)) h
  inside (Return line e) h = ((and_parts (q (Return line e)) true h).0, tt)

  first : (s : tree.Stmt) (after : List tree.Stmt) → list_all q (statements_within s ++ after) ≡ true → (q s ≡ true) × Inside s × (list_all q after ≡ true)
  first s after h =
      let parts = both (statements_within s) after h in
      let s_parts = inside s parts.0 in
      (s_parts.0, s_parts.1, parts.1)

inside_in_range : (s : tree.Stmt) → Inside has_numbers_in_range s → Inside calls_known s → InsideInRange s
inside_in_range (Plain line p) n c = tt
inside_in_range (If line test b NoElse) n c = record { numbers = n; known = c }
inside_in_range (If line test b (ElseBlock d)) n c = (record { numbers = n.0; known = c.0 }, record { numbers = n.1; known = c.1 })
inside_in_range (While line test body) n c = record { numbers = n; known = c }
inside_in_range (Return line e) n c = tt

statements_in_range : (statements : List Stmt) (end_line : ℕ) → BlockInRange (statements_tree statements end_line) → StatementsInRange statements
statements_in_range [] end_line h = tt
statements_in_range (s ∷ rest) end_line h =
    let numbers = first has_numbers_in_range (stmt_tree s) (statements_of (statements_tree rest end_line)) h.numbers in
    let calls = first calls_known (stmt_tree s) (statements_of (statements_tree rest end_line)) h.known in (
      record { numbers = numbers.0; known = calls.0; inside = inside_in_range (stmt_tree s) numbers.1 calls.1 },
      statements_in_range rest end_line (record { numbers = numbers.2; known = calls.2 }),
    )

-- the statements of a block
pub block_in_range : (b : BlockInMemory) → BlockInRange (block_tree b) → StatementsInRange (out-Block b).statements.items
block_in_range b h = statements_in_range (out-Block b).statements.items (out-Block b).end_line (subst BlockInRange (block_is b) h)

-- the statements of a block that is entered, if there is one
pub entered_in_range : (o : Option (Bor BlockInMemory)) → ElseInRange o → StatementsInRange (statements_in o)
entered_in_range None h = tt
entered_in_range (Some b) h = block_in_range b.now h

-- the statements of a function that is found
pub body_in_range : (items : List Item) (name : List ℕ) (f : FunctionInMemory) → IsTree (unit_tree items) → IsWellTyped (unit_tree items) → function_at (unit_tree items) name ≡ Some (function_tree f) → StatementsInRange (out-Block f.body).statements.items
body_in_range items name f tree well_typed found =
    block_in_range f.body (record {
      numbers = found_passes (λ g. bytes_eq g.name name) (λ g. list_all has_numbers_in_range (statements_of g.body)) (functions_of (unit_tree items)) (function_tree f) found tree.numbers;
      known = found_passes (λ g. bytes_eq g.name name) (λ g. list_all calls_known (statements_of g.body)) (functions_of (unit_tree items)) (function_tree f) found (known_calls (unit_tree items) well_typed);
    })

-- ---- the arguments of a call

pub argument_parts : (a : Argument) (rest : List Argument) → ArgumentsInRange (a ∷ rest) → (list_all numbers_in_range (argument_expressions a) ≡ true) × ArgumentsInRange rest
argument_parts a rest h =
    and_parts (list_all numbers_in_range (argument_expressions a)) (list_all numbers_in_range (flat_map argument_expressions rest))
    (sym (list_all-append numbers_in_range (argument_expressions a) (flat_map argument_expressions rest)) ∙ ap (list_all numbers_in_range) (sym (flat_map-cons argument_expressions a rest)) ∙ h)

pub operands_pushed : (os : List Operand) (o : Operand) → ListedInRange os → OperandInRange o → ListedInRange (os ++ o ∷ [])
operands_pushed [] o h new = (new, tt)
operands_pushed (p ∷ os) o h new = (h.0, operands_pushed os o h.1 new)

pub operand_at : (os : List Operand) (i : ℕ) (o : Operand) → ListedInRange os → slice_get os i ≡ Some o → OperandInRange o
operand_at [] i o h at = absurd (cc)
operand_at (p ∷ os) zero o h at = let same : p ≡ o = cc in subst OperandInRange same h.0
operand_at (p ∷ os) (suc i) o h at = operand_at os i o h.1 at

pub operand_set : (os : List Operand) (i : ℕ) (o : Operand) → ListedInRange os → OperandInRange o → ListedInRange (slice_set os i o)
operand_set [] i o h new = tt
operand_set (p ∷ os) zero o h new = (new, h.1)
operand_set (p ∷ os) (suc i) o h new = (h.0, operand_set os i o h.1 new)

-- the arguments after the first
rest_is : {A : Type 0} (x : A) (xs : List A) → take (length (x ∷ xs) - 1) (drop 1 (x ∷ xs)) ≡ xs
rest_is x xs = take_all (length (x ∷ xs) - 1) xs (omega arith)

-- a list without its first element
abbrev pub after_first : {A : Type 0} → List A → List A
after_first xs = take (length xs - 1) (drop 1 xs)

pub first_is : {A : Type 0} (xs : List A) (d : A) → 1 ≤ length xs → get_or xs 0 d ∷ after_first xs ≡ xs
first_is [] d low = absurd (omega arith)
first_is (x ∷ xs) d low = ap (λ l. x ∷ l) (rest_is x xs)

-- an operand, and then those of the further arguments
pub operand_first : (before : List Operand) (o : Operand) (p : ParameterKind) (a : ArgumentInMemory) (ps : List ParameterKind) (arguments : List ArgumentInMemory)
    → operand_view o ≡ operand (p, argument_tree a) → p ∷ after_first ps ≡ ps → a ∷ after_first arguments ≡ arguments
    → map operand_view (before ++ o ∷ []) ++ map operand (zip ((after_first ps)) (map argument_tree (after_first arguments)))
    ≡ map operand_view before ++ map operand (zip ps (map argument_tree arguments))
operand_first before o p a ps arguments is parameters_are arguments_are =
    let more = map operand (zip ((after_first ps)) (map argument_tree (after_first arguments))) in
    ap (λ l. l ++ more) (map-append operand_view before (o ∷ []))
    ∙ append_assoc (map operand_view before) (operand_view o ∷ []) more
    ∙ ap (λ v. map operand_view before ++ v ∷ more) is
    ∙ (λ i. map operand_view before ++ map operand (zip ((parameters_are i)) (map argument_tree (arguments_are i))))

pub shorter : {A : Type 0} (xs : List A) → 1 ≤ length xs → length (take (length xs - 1) (drop 1 xs)) < length xs
shorter {A = A} [] low = absurd (omega arith)
shorter {A = A} (x ∷ xs) low = let same = ap (λ (ys : List A). length ys) (rest_is x xs) in omega (arith, same)

pub rest_in_range : (arguments : List ArgumentInMemory) → ArgumentsInRange (map argument_tree arguments) → ArgumentsInRange (map argument_tree (take (length arguments - 1) (drop 1 arguments)))
rest_in_range [] h = h
rest_in_range (a ∷ arguments) h =
    subst (λ (more : List ArgumentInMemory). ArgumentsInRange (map argument_tree more)) (sym (rest_is a arguments)) (argument_parts (argument_tree a) (map argument_tree arguments) h).1

-- what is passed to a method is in range too
pub passed_in_range : (arguments : List ArgumentInMemory) → ArgumentsInRange (map argument_tree arguments) → ArgumentsInRange (map argument_tree (drop 2 arguments))
passed_in_range [] h = h
passed_in_range (a ∷ []) h = (argument_parts (argument_tree a) [] h).1
passed_in_range (a ∷ b ∷ arguments) h =
    (argument_parts (argument_tree b) (map argument_tree arguments) (argument_parts (argument_tree a) (map argument_tree (b ∷ arguments)) h).1).1

-- an operand of what is passed, and then those of what more is
pub passed_first : (before : List Operand) (o : Operand) (a : ArgumentInMemory) (arguments : List ArgumentInMemory) → operand_view o ≡ operand (Passed, argument_tree a) → a ∷ after_first arguments ≡ arguments
    → map operand_view (before ++ o ∷ []) ++ map (λ b. operand (Passed, b)) (map argument_tree (after_first arguments))
    ≡ map operand_view before ++ map (λ b. operand (Passed, b)) (map argument_tree arguments)
passed_first before o a arguments is arguments_are =
    let more = map (λ b. operand (Passed, b)) (map argument_tree (after_first arguments)) in
    ap (λ l. l ++ more) (map-append operand_view before (o ∷ []))
    ∙ append_assoc (map operand_view before) (operand_view o ∷ []) more
    ∙ ap (λ v. map operand_view before ++ v ∷ more) is
    ∙ (λ i. map operand_view before ++ map (λ b. operand (Passed, b)) (map argument_tree (arguments_are i)))
