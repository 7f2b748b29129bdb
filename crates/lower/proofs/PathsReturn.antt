-- Where every path through a block returns, every path through its tasks does.
use Rattle.std.proofs.Common.{◌≡◌, ℕ, Bool, true, false, ◌&&◌, ◌||◌, ◌⊎◌, inl, inr, List, [], ◌∷◌, ◌++◌, Option, Some, None, refl}
use Rattle.std.specs.List.{list_any}
use Rattle.std.proofs.lemmas.Bool.{or_right, or_left}
use Rattle.syntax.specs.Tree as tree
use Rattle.syntax.specs.Tree.{Call, Test, TestExpr, TestCall, Stmt, Block, End, Next}
use Rattle.jni.specs.declared.function.JniFunction.{JniFunction}
use Rattle.jni.specs.JniFunction.{function_named}
use Rattle.semantics.specs.Task.{Task, Tested, invocation, if_task, task_of, tasks_of}
use Rattle.code_meaning.specs.Stands.{stmt_returns, block_returns, task_returns}

invocation_returns : (line : ℕ) (a b : Block) (c : Call) (o : Option JniFunction) → (block_returns a && block_returns b) ≡ true → task_returns (invocation line (Tested a b) c o) ≡ true
invocation_returns line a b c None h = refl
invocation_returns line a b c (Some f) h = h

if_returns : (line : ℕ) (t : Test) (a b : Block) → (block_returns a && block_returns b) ≡ true → task_returns (if_task line t a b) ≡ true
if_returns line (TestExpr e) a b h = h
if_returns line (TestCall c) a b h = invocation_returns line a b c (function_named c.function) h

stmt_task_returns : (s : Stmt) → stmt_returns s ≡ true → task_returns (task_of s) ≡ true
stmt_task_returns (tree.If line test a (tree.ElseBlock b)) h = if_returns line test a b h
stmt_task_returns (tree.Return line None) h = refl
stmt_task_returns (tree.Return line (Some e)) h = refl
stmt_task_returns s h = absurd (cc)

first_returns : (a b c d : Bool) → (a ≡ true → c ≡ true) → (b ≡ true → d ≡ true) → (a || b) ≡ true → (c || d) ≡ true
first_returns true b c d f g h = or_left c d (f refl)
first_returns false b c d f g h = or_right c d (g h)

pub block_tasks_return : (b : Block) → block_returns b ≡ true → list_any task_returns (tasks_of b) ≡ true
block_tasks_return (End line) h = absurd (cc)
block_tasks_return (Next s rest) h =
    first_returns (stmt_returns s) (block_returns rest) (task_returns (task_of s)) (list_any task_returns (tasks_of rest)) (stmt_task_returns s) (block_tasks_return rest) h

any_left : (a b : List Task) → list_any task_returns a ≡ true → list_any task_returns (a ++ b) ≡ true
any_left [] b h = absurd (cc)
any_left (t ∷ a) b h = first_returns (task_returns t) (list_any task_returns a) (task_returns t) (list_any task_returns (a ++ b)) (λ e. e) (any_left a b) h

any_right : (a b : List Task) → list_any task_returns b ≡ true → list_any task_returns (a ++ b) ≡ true
any_right [] b h = h
any_right (t ∷ a) b h = or_right (task_returns t) (list_any task_returns (a ++ b)) (any_right a b h)

-- the path of a branch that is taken, and what is to do after it
path_or_rest : (b : Block) (rest : List Task) → (block_returns b ≡ true) ⊎ (list_any task_returns rest ≡ true) → list_any task_returns (tasks_of b ++ rest) ≡ true
path_or_rest b rest (inl h) = any_left (tasks_of b) rest (block_tasks_return b h)
path_or_rest b rest (inr h) = any_right (tasks_of b) rest h

first_of : (p q r : Bool) → ((p && q) || r) ≡ true → (p ≡ true) ⊎ (r ≡ true)
first_of true q r h = inl refl
first_of false q r h = inr h

second_of : (p q r : Bool) → ((p && q) || r) ≡ true → (q ≡ true) ⊎ (r ≡ true)
second_of true true r h = inl refl
second_of true false r h = inr h
second_of false q r h = inr h

either_rest : (b : Block) (rest rest' : List Task) → (list_any task_returns rest ≡ true → list_any task_returns rest' ≡ true) → (block_returns b ≡ true) ⊎ (list_any task_returns rest ≡ true) → list_any task_returns (tasks_of b ++ rest') ≡ true
either_rest b rest rest' f (inl h) = path_or_rest b rest' (inl h)
either_rest b rest rest' f (inr h) = path_or_rest b rest' (inr (f h))

-- `rest'` is `rest` after the end of the `if`
pub then_returns : (a b : Block) (rest rest' : List Task) → (list_any task_returns rest ≡ true → list_any task_returns rest' ≡ true) → ((block_returns a && block_returns b) || list_any task_returns rest) ≡ true → list_any task_returns (tasks_of a ++ rest') ≡ true
then_returns a b rest rest' f h = either_rest a rest rest' f (first_of (block_returns a) (block_returns b) (list_any task_returns rest) h)

pub else_returns : (a b : Block) (rest rest' : List Task) → (list_any task_returns rest ≡ true → list_any task_returns rest' ≡ true) → ((block_returns a && block_returns b) || list_any task_returns rest) ≡ true → list_any task_returns (tasks_of b ++ rest') ≡ true
else_returns a b rest rest' f h = either_rest b rest rest' f (second_of (block_returns a) (block_returns b) (list_any task_returns rest) h)

pub any_after : (b : Block) (rest : List Task) → list_any task_returns rest ≡ true → list_any task_returns (tasks_of b ++ rest) ≡ true
any_after b rest h = any_right (tasks_of b) rest h
