-- What is wanted of a block is wanted of its statements, one after the other.
use Rattle.std.proofs.Common.{inl, inr, List, ◌++◌, Option, Some, None}
use Rattle.base.specs.Bytes.{Identifier}
use Rattle.syntax.specs.Tree.{Stmt, If, While, Else, NoElse, ElseBlock, Block, End, Next, TestExpr, TestCall, Call}
use Rattle.jni.specs.declared.access.Access.{Access}
use Rattle.jni.specs.declared.function.JniFunction.{JniFunction}
use Rattle.jni.specs.JniFunction.{prototype, function_named}
use Rattle.jni.specs.declared.kinds.ResultKind.{ResultKind}
use Rattle.jni.specs.declared.kinds.ResultKind.TheVariants.{NewLocal, NewGlobal, NewWeak, GivesFlag, GivesInt, GivesField, GivesMethod, GivesBuffer}
use Rattle.type_rules.specs.declared.ty.ExprType.{ExprType}
use Rattle.type_rules.specs.ExprTypes.{type_in}
use Rattle.type_rules.specs.declared.ty.ExprType.TheVariants as types
use Rattle.region_rules.specs.RegionStates.{get_of}
use Rattle.semantics.specs.Task as task
use Rattle.semantics.specs.declared.variable_kind.VariableKind.{VariableKind}
use Rattle.semantics.specs.declared.variable_kind.VariableKind.TheVariants as kinds
use Rattle.semantics.specs.Task.{Task, SetScalar, SetElement, SetNull, MakeArray, Invoke, Print, Target, Declared, Assigned, Tested, Dropped, invocation, task_of, tasks_of}
use Rattle.semantics.specs.Term.{Term, term_of}
use Rattle.semantics_safety.specs.Points.{Point}
use Rattle.semantics_safety.specs.Wanted.{Outside, DeclaresNull, AssignsNull, SetsNullThere, DeclaresResult, AssignsResult, ResultGoes, call_seen, RunsPlain, RunsPush, RunsTest, RunsBlock, RunsStmt, RunsElse, Runs, GoesOn}

-- ---- what is wanted after may be weaker

-- one leads to the other
abbrev pub ◌⇒◌ : (Point → Type 0) → (Point → Type 0) → Type 0
k ⇒ l = (p : Point) → k p → l p

infix 4 ◌⇒◌
outside_more : (k l : Point → Type 0) → k ⇒ l → Outside k ⇒ Outside l
outside_more k l h p r = (r.0, r.1, h r.0 r.2)

null_declared_more : (k l : Point → Type 0) → k ⇒ l → (p : Point) (kind : VariableKind) (x : Identifier) → DeclaresNull p kind x k → DeclaresNull p kind x l
null_declared_more k l h p kinds.Number x r = r
null_declared_more k l h p kinds.Reference x r = (r.0, h _ r.1)
null_declared_more k l h p kinds.Field x r = (r.0, h _ r.1)
null_declared_more k l h p kinds.Method x r = (r.0, h _ r.1)
null_declared_more k l h p (kinds.Buffer t) x r = (r.0, (r.1.0, h _ r.1.1))

null_assigned_more : (k l : Point → Type 0) → k ⇒ l → (p : Point) (s : Option ExprType) (x : Identifier) → AssignsNull p s x k → AssignsNull p s x l
null_assigned_more k l h p (Some types.Ref) x r = (r.0, h _ r.1)
null_assigned_more k l h p (Some types.Global) x r = h p r
null_assigned_more k l h p (Some types.Weak) x r = h p r
null_assigned_more k l h p (Some types.FieldId) x r = h p r
null_assigned_more k l h p (Some types.MethodId) x r = h p r
null_assigned_more k l h p s x r = absurd r

result_declared_more : (k l : Point → Type 0) → k ⇒ l → (p : Point) (kind : VariableKind) (x : Identifier) (result : ResultKind) (get : Option (Access × Option Identifier)) → DeclaresResult p kind x result get k → DeclaresResult p kind x result get l
result_declared_more k l h p kinds.Number x GivesInt get r = (r.0, h _ r.1)
result_declared_more k l h p kinds.Number x GivesFlag get r = (r.0, h _ r.1)
result_declared_more k l h p kinds.Reference x NewLocal get r = (r.0, h _ r.1)
result_declared_more k l h p kinds.Field x GivesField get r = (r.0, h _ r.1)
result_declared_more k l h p kinds.Method x GivesMethod get r = (r.0, h _ r.1)
result_declared_more k l h p (kinds.Buffer t) x (GivesBuffer access) get r = (r.0, (r.1.0, r.1.1, h _ r.1.2))
result_declared_more k l h p kind x result get r = absurd r

result_assigned_more : (k l : Point → Type 0) → k ⇒ l → (p : Point) (s : Option ExprType) (x : Identifier) (result : ResultKind) (get : Option (Access × Option Identifier)) → AssignsResult p s x result get k → AssignsResult p s x result get l
result_assigned_more k l h p (Some types.Jint) x GivesInt get r = h p r
result_assigned_more k l h p (Some types.Flag) x GivesFlag get r = h p r
result_assigned_more k l h p (Some types.Ref) x NewLocal get r = (r.0, h _ r.1)
result_assigned_more k l h p (Some types.Global) x NewGlobal get r = h p r
result_assigned_more k l h p (Some types.Weak) x NewWeak get r = h p r
result_assigned_more k l h p (Some types.FieldId) x GivesField get r = h p r
result_assigned_more k l h p (Some types.MethodId) x GivesMethod get r = h p r
result_assigned_more k l h p (Some (types.Buffer t writable)) x (GivesBuffer access) get r = (r.0, r.1, h _ r.2)
result_assigned_more k l h p s x result get r = absurd r

null_more : (k l : Point → Type 0) → k ⇒ l → (p : Point) (target : Target) → SetsNullThere p target k → SetsNullThere p target l
null_more k l h p (Declared kind x) r = null_declared_more k l h p kind x r
null_more k l h p (Assigned x) r = null_assigned_more k l h p (type_in p.names x) x r
null_more k l h p target r = absurd r

result_more : (k l : Point → Type 0) → k ⇒ l → (p : Point) (target : Target) (result : ResultKind) (get : Option (Access × Option Identifier)) → ResultGoes target result get k p → ResultGoes target result get l p
result_more k l h p (Declared kind x) result get r = result_declared_more k l h p kind x result get r
result_more k l h p (Assigned x) result get r = result_assigned_more k l h p (type_in p.names x) x result get r
result_more k l h p (Tested a b) result get r = r
result_more k l h p Dropped result get r = (r.0, h p r.1)

plain_more : (k l : Point → Type 0) → k ⇒ l → (task : Task) → RunsPlain task k ⇒ RunsPlain task l
plain_more k l h (SetScalar line x t) p (s, n, f, inl r) = (s, n, f, inl (r.0, h p r.1))
plain_more k l h (SetScalar line x t) p (s, n, f, inr r) = (s, n, f, inr (r.0, h _ r.1))
plain_more k l h (SetElement line x i t) p r = (r.0, r.1, r.2, h p r.3)
plain_more k l h (SetNull target) p r = null_more k l h p target r
plain_more k l h (MakeArray t x size) p r = (r.0, h _ r.1)
plain_more k l h (Invoke line target f operands) p r = (r.0, r.1, result_more k l h _ target (prototype f).result (get_of (call_seen f operands)) r.2)
plain_more k l h (Print line t) p r = (r.0, r.1, h p r.2)
plain_more k l h task.Return p r = r
plain_more k l h (task.ReturnValue line t) p r = r
plain_more k l h task p r = absurd r

push_more : (y n u v : Point → Type 0) → y ⇒ u → n ⇒ v → (task : Task) → RunsPush task y n ⇒ RunsPush task u v
push_more y n u v h g (Invoke line target f operands) p r = (r.0, r.1, h _ r.2, g p r.3)
push_more y n u v h g task p r = absurd r

test_more : (y n u v : Point → Type 0) → y ⇒ u → n ⇒ v → (t : Term) → RunsTest t y n ⇒ RunsTest t u v
test_more y n u v h g t p (s, (a, b, e, r, q)) = (s, (a, b, e, h a r, g b q))

mutual
  pub block_more : (b : Block) (k l : Point → Type 0) → k ⇒ l → RunsBlock b k ⇒ RunsBlock b l
  block_more (End line) k l h p r = h p r
  block_more (Next s rest) k l h p r = stmt_more s (RunsBlock rest k) (RunsBlock rest l) (block_more rest k l h) p r

  stmt_more : (s : Stmt) (k l : Point → Type 0) → k ⇒ l → RunsStmt s k ⇒ RunsStmt s l
  stmt_more (If line (TestExpr e) a b) k l h p r =
      test_more (RunsBlock a (Outside k)) (RunsElse b (Outside k)) (RunsBlock a (Outside l)) (RunsElse b (Outside l)) (block_more a (Outside k) (Outside l) (outside_more k l h)) (else_more b (Outside k) (Outside l) (outside_more k l h)) (term_of e) p r
  stmt_more (If line (TestCall c) a b) k l h p r =
      push_more (RunsBlock a (Outside k)) (RunsElse b (Outside k)) (RunsBlock a (Outside l)) (RunsElse b (Outside l)) (block_more a (Outside k) (Outside l) (outside_more k l h)) (else_more b (Outside k) (Outside l) (outside_more k l h)) (task_of (If line (TestCall c) a b)) p r
  stmt_more (While line e body) k l h p r = (r.0, r.1, h p r.2)
  stmt_more s k l h p r = plain_more k l h (task_of s) p r

  else_more : (b : Else) (k l : Point → Type 0) → k ⇒ l → RunsElse b k ⇒ RunsElse b l
  else_more NoElse k l h p r = h p r
  else_more (ElseBlock b) k l h p r = block_more b k l h p r

-- ---- tasks of statements

plain_runs : (task : Task) (k : Point → Type 0) → RunsPlain task k ⇒ Runs task k
plain_runs (SetScalar line x t) k p r = r
plain_runs (SetElement line x i t) k p r = r
plain_runs (SetNull target) k p r = r
plain_runs (MakeArray t x size) k p r = r
plain_runs (Invoke line (Declared kind x) f operands) k p r = r
plain_runs (Invoke line (Assigned x) f operands) k p r = r
plain_runs (Invoke line (Tested a b) f operands) k p r = absurd r.2
plain_runs (Invoke line Dropped f operands) k p r = r
plain_runs (Print line t) k p r = r
plain_runs task.Return k p r = r
plain_runs (task.ReturnValue line t) k p r = r
plain_runs task k p r = absurd r

pushed : (line : _) (c : Call) (o : Option JniFunction) (a b : Block) (k : Point → Type 0) (p : Point) → RunsPush (invocation line (Tested a b) c o) (RunsBlock a (Outside k)) (RunsBlock b (Outside k)) p → Runs (invocation line (Tested a b) c o) k p
pushed line c None a b k p r = absurd r
pushed line c (Some f) a b k p r = r

pub stmt_runs : (s : Stmt) (k : Point → Type 0) → RunsStmt s k ⇒ Runs (task_of s) k
stmt_runs (If line (TestExpr e) a NoElse) k p r = r
stmt_runs (If line (TestCall c) a NoElse) k p r = pushed line c (function_named c.function) a (End line) k p r
stmt_runs (If line (TestExpr e) a (ElseBlock b)) k p r = r
stmt_runs (If line (TestCall c) a (ElseBlock b)) k p r = pushed line c (function_named c.function) a b k p r
stmt_runs (While line e body) k p r = (r.0, (r.0, r.1), r.2)
stmt_runs s k p r = plain_runs (task_of s) k p r

-- a block goes on with what comes after it
pub block_goes : (b : Block) (k : Point → Type 0) (rest : List Task) → k ⇒ GoesOn rest → RunsBlock b k ⇒ GoesOn (tasks_of b ++ rest)
block_goes (End line) k rest h p r = h p r
block_goes (Next s more) k rest h p r = stmt_runs s (GoesOn (tasks_of more ++ rest)) p (stmt_more s (RunsBlock more k) (GoesOn (tasks_of more ++ rest)) (block_goes more k rest h) p r)
