-- Tasks that lie in memory, as those of the language, and what is known of them in accepted programs.
use Rattle.std.specs.Prelude.{◌≡◌, ℕ, Bool, not, List, [], ◌∷◌, Option, Some, None, IsTrue, flat_map}
use Rattle.std.specs.List.{list_all}
use Rattle.std.specs.Option.{is_none}
use Rattle.std.specs.Borrow.{Bor}
use Rattle.base.specs.Bytes.{Identifier}
use Rattle.base.specs.Options.{some_passes}
use Rattle.syntax.specs.declared.expr.Expr.{Expr as ExprInMemory}
use Rattle.syntax.specs.declared.stmt.Block.{Block as BlockInMemory, out-Block}
use Rattle.syntax.specs.declared.stmt.Stmt.{Stmt as StmtInMemory}
use Rattle.syntax.specs.Limits.{numbers_in_range}
use Rattle.syntax.specs.Parts.{argument_expressions, statements_of, own_call, own_expressions, right_side_expressions, test_expressions, call_of_right_side}
use Rattle.syntax.specs.Tree.{Argument, Call, Expr, RightSide, Test, TestExpr, TestCall, Stmt, If, NoElse, ElseBlock, While, Block}
use Rattle.syntax.specs.Views.{expr_tree, stmt_tree, block_tree}
use Rattle.jni.specs.JniFunction.{function_named}
use Rattle.semantics.specs.Task.{Task, SetScalar, SetElement, SetNull, MakeArray, Invoke, Print, Branch, EndIf, Loop, EndTurn, Return, ReturnValue, task_of}
use Rattle.replay_tasks.specs.declared.outcome.End.{End as EndInMemory}
use Rattle.replay_tasks.specs.declared.outcome.End.TheVariants as end
use Rattle.replay_tasks.specs.declared.outcome.Outcome.{Outcome}
use Rattle.replay_tasks.specs.declared.outcome.Outcome.TheVariants as outcome
use Rattle.replay_tasks.specs.declared.outcome.Purpose.{Purpose}
use Rattle.replay_tasks.specs.declared.outcome.Purpose.TheVariants as purpose
use Rattle.replay_terms.specs.Views.{operands_view, term_view, NumbersInRange}
use Rattle.replay_terms.specs.declared.operand.Operand.{Operand as OperandInMemory}
use Rattle.replay_terms.specs.declared.operand.Operand.TheVariants as operands
use Rattle.replay_terms.specs.declared.operand.Operands.{Operands as OperandsInMemory}
use Rattle.replay_terms.specs.declared.operand.Operands.TheVariants as all
use Rattle.replay_tasks.specs.declared.task.Task.{Task as TaskInMemory}
use Rattle.replay_tasks.specs.declared.task.Task.TheVariants as task
use Rattle.replay_terms.specs.declared.term.Term.{Term as TermInMemory}
use Rattle.replay_tasks.specs.Outcomes.{else_tree, purpose_view, target_view}

abbrev pub task_view : TaskInMemory → Task
task_view (task.Print e) = Print e.line (term_view e.term)
task_view (task.Set a) = SetScalar a.line a.name.now (term_view a.term)
task_view (task.SetElement a) = SetElement a.line a.name.now (term_view a.index) (term_view a.number)
task_view (task.SetNull to) = SetNull (target_view to)
task_view (task.MakeArray T x n) = MakeArray T x.now n
task_view (task.Invoke i) = Invoke i.line (purpose_view i.line i.purpose) i.function (operands_view i.operands)
task_view (task.Branch c) = Branch c.line (term_view c.test) (block_tree c.block.now) (else_tree c.line c.otherwise)
task_view (task.Loop i) = Loop i.line (expr_tree i.test.now) (term_view i.term) (block_tree i.body.now)
task_view task.Return = Return
task_view (task.ReturnValue e) = ReturnValue e.line (term_view e.term)

-- it is no call
abbrev pub IsPlain : TaskInMemory → Type 0
IsPlain (task.Invoke i) = ⊥
IsPlain t = Unit {0}

abbrev pub end_view : EndInMemory → Task
end_view end.If = EndIf
end_view (end.Turn line test body) = EndTurn line (expr_tree test.now) (block_tree body.now)

-- tasks by their terms
abbrev pub print_task : ℕ → TermInMemory → TaskInMemory
print_task line t = task.Print (record { line = line; term = t })

abbrev pub return_task : ℕ → TermInMemory → TaskInMemory
return_task line t = task.ReturnValue (record { line = line; term = t })

abbrev pub value_task : ℕ → Bor Identifier → TermInMemory → TaskInMemory
value_task line x t = task.Set (record { line = line; name = x; term = t })

abbrev pub element_task : ℕ → Bor Identifier → (index number : TermInMemory) → TaskInMemory
element_task line x i t = task.SetElement (record { line = line; name = x; index = i; number = t })

abbrev pub loop_task : ℕ → Bor ExprInMemory → TermInMemory → Bor BlockInMemory → TaskInMemory
loop_task line test t body = task.Loop (record { line = line; test = test; term = t; body = body })

-- an `if` with its test's term
abbrev pub branch_task : ℕ → TermInMemory → Bor BlockInMemory → Option (Bor BlockInMemory) → TaskInMemory
branch_task line t b other = task.Branch (record { line = line; test = t; block = b; otherwise = other })

-- the statements of a block; none where an `else` is missing
abbrev pub statements_in : Option (Bor BlockInMemory) → List StmtInMemory
statements_in None = []
statements_in (Some b) = (out-Block b.now).statements.items

-- the statements before their first steps
abbrev pub tasks_of_statements : List StmtInMemory → List Task
tasks_of_statements [] = []
tasks_of_statements (s ∷ rest) = task_of (stmt_tree s) ∷ tasks_of_statements rest

-- ---- what is known of accepted programs

-- each number is in the range of its type
abbrev pub ExprInRange : Expr → Type 0
ExprInRange e = IsTrue (numbers_in_range e)

-- the same of those that a statement evaluates itself
abbrev pub has_numbers_in_range : Stmt → Bool
has_numbers_in_range s = list_all numbers_in_range (own_expressions s)

-- a call is of no function that is there
abbrev pub is_unknown_call : Call → Bool
is_unknown_call c = is_none (function_named c.function)

-- a statement that is a call, or has one, calls a function that is there
abbrev pub calls_known : Stmt → Bool
calls_known s = not (some_passes is_unknown_call (own_call s))

-- both, of each statement in a block and inside it
pub record BlockInRange (b : Block) : Type 0 where
  pub numbers : IsTrue (list_all has_numbers_in_range (statements_of b))
  pub known : IsTrue (list_all calls_known (statements_of b))

-- the same of the blocks inside a statement
abbrev pub InsideInRange : Stmt → Type 0
InsideInRange (If line test b NoElse) = BlockInRange b
InsideInRange (If line test b (ElseBlock d)) = BlockInRange b × BlockInRange d
InsideInRange (While line test body) = BlockInRange body
InsideInRange s = Unit {0}

-- the same of a statement with them
pub record StatementInRange (s : StmtInMemory) : Type 0 where
  pub numbers : IsTrue (has_numbers_in_range (stmt_tree s))
  pub known : IsTrue (calls_known (stmt_tree s))
  pub inside : InsideInRange (stmt_tree s)

abbrev pub StatementsInRange : List StmtInMemory → Type 0
StatementsInRange [] = Unit {0}
StatementsInRange (s ∷ rest) = StatementInRange s × StatementsInRange rest

-- the same of parts of statements
abbrev pub ArgumentsInRange : List Argument → Type 0
ArgumentsInRange arguments = IsTrue (list_all numbers_in_range (flat_map argument_expressions arguments))

pub record RightSideInRange (right : RightSide) : Type 0 where
  pub numbers : IsTrue (list_all numbers_in_range (right_side_expressions right))
  pub known : IsTrue (not (some_passes is_unknown_call (call_of_right_side (Some right))))

-- the call that a test is
abbrev pub call_of_test : Test → Option Call
call_of_test (TestExpr e) = None
call_of_test (TestCall c) = Some c

pub record TestInRange (test : Test) : Type 0 where
  pub numbers : IsTrue (list_all numbers_in_range (test_expressions test))
  pub known : IsTrue (not (some_passes is_unknown_call (call_of_test test)))

abbrev pub ElseInRange : Option (Bor BlockInMemory) → Type 0
ElseInRange None = Unit {0}
ElseInRange (Some b) = BlockInRange (block_tree b.now)

-- the same of the arguments of a call
abbrev pub OperandInRange : OperandInMemory → Type 0
OperandInRange (operands.Number t) = NumbersInRange t
OperandInRange (operands.Passed x) = Unit {0}
OperandInRange (operands.Given a) = Unit {0}

abbrev pub ListedInRange : List OperandInMemory → Type 0
ListedInRange [] = Unit {0}
ListedInRange (o ∷ rest) = OperandInRange o × ListedInRange rest

abbrev pub OperandsInRange : OperandsInMemory → Type 0
OperandsInRange (all.Given args) = Unit {0}
OperandsInRange (all.Last args t) = NumbersInRange t
OperandsInRange (all.Listed os) = ListedInRange os.items

-- the same of the two branches of an `if` whose test is a call
abbrev pub PurposeInRange : Purpose → Type 0
PurposeInRange (purpose.Put to) = Unit {0}
PurposeInRange (purpose.Test b other) = BlockInRange (block_tree b.now) × ElseInRange other

-- the same of tasks, of what comes at the end of a block, and of what a step leads into
abbrev pub TaskInRange : TaskInMemory → Type 0
TaskInRange (task.Print e) = NumbersInRange e.term
TaskInRange (task.Set a) = NumbersInRange a.term
TaskInRange (task.SetElement a) = NumbersInRange a.index × NumbersInRange a.number
TaskInRange (task.SetNull to) = Unit {0}
TaskInRange (task.MakeArray T x n) = Unit {0}
TaskInRange (task.Invoke i) = OperandsInRange i.operands × PurposeInRange i.purpose
TaskInRange (task.Branch c) = NumbersInRange c.test × BlockInRange (block_tree c.block.now) × ElseInRange c.otherwise
TaskInRange (task.Loop i) = ExprInRange (expr_tree i.test.now) × NumbersInRange i.term × BlockInRange (block_tree i.body.now)
TaskInRange task.Return = Unit {0}
TaskInRange (task.ReturnValue e) = NumbersInRange e.term

-- the same of the task that is begun, if there is one
abbrev pub BegunInRange : Option TaskInMemory → Type 0
BegunInRange None = Unit {0}
BegunInRange (Some task) = TaskInRange task

-- this task is begun
abbrev pub Begins : Task → Option TaskInMemory → Type 0
Begins t None = ⊥
Begins t (Some task) = task_view task ≡ t

abbrev pub EndInRange : EndInMemory → Type 0
EndInRange end.If = Unit {0}
EndInRange (end.Turn line test body) = ExprInRange (expr_tree test.now) × BlockInRange (block_tree body.now)

abbrev pub OutcomeInRange : Outcome → Type 0
OutcomeInRange (outcome.Enters block e) = ElseInRange block × EndInRange e
OutcomeInRange (outcome.Tests line zero b other) = BlockInRange (block_tree b.now) × ElseInRange other
OutcomeInRange took = Unit {0}
