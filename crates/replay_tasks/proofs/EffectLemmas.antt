-- What a step of a task that is no call does is the effect of the task.
use Rattle.std.proofs.Common.{◌≡◌, ℕ, ℤ, List, [], ◌∷◌, ◌++◌, slice_get, Option, refl, sym, ap, ◌∙◌, Some, None}
use Rattle.std.specs.Borrow.{Bor}
use Rattle.base.specs.Bytes.{Identifier, lookup}
use Rattle.syntax.specs.declared.expr.Constant.{Constant}
use Rattle.syntax.specs.declared.expr.Constant.TheVariants as constant
use Rattle.syntax.specs.declared.expr.Expr.{Expr as ExprInMemory}
use Rattle.syntax.specs.declared.stmt.Block.{Block as BlockInMemory, out-Block}
use Rattle.syntax.specs.Views.{expr_tree, block_tree}
use Rattle.syntax.proofs.Blocks.{block_is}
use Rattle.semantics.specs.Effect.{Effect, Becomes, Sets, SetsElement, at_line, goes_on, with_value, print_effect, branch_effect, loop_effect, element_effect, returned_name, return_effect, effect_of}
use Rattle.semantics.specs.Heap.{Heap}
use Rattle.semantics.specs.Sight.{Sight, seen, elements_of, in_range}
use Rattle.semantics.specs.Task.{Task, SetScalar, SetElement, Print, Branch, Loop, ReturnValue, tasks_of}
use Rattle.semantics.specs.Term as tree
use Rattle.semantics.specs.Term.{index_of, reduce}
use Rattle.semantics.specs.declared.value.Value.{Value}
use Rattle.semantics.specs.Value.{Outcome as Outcomes, Gives, Traps, Stuck, outcome_then, outcome_map}
use Rattle.semantics.specs.Variable.{Variables, Statics, Empty}
use Rattle.replay_terms.specs.declared.reduction.Reduction.{Reduction}
use Rattle.replay_terms.specs.declared.reduction.Reduction.TheVariants as reduction
use Rattle.replay_terms.specs.declared.term.Term.{Term}
use Rattle.replay_terms.specs.declared.term.Term.TheVariants as term
use Rattle.replay_terms.specs.declared.sight.Indexed.{Indexed}
use Rattle.semantics.specs.declared.value.Value.TheVariants as value
use Rattle.replay_tasks.specs.declared.task.Task.{Task as TaskInMemory}
use Rattle.replay_tasks.specs.Effects.{HasEffect, reduced}
use Rattle.replay_tasks.specs.Tasks.{task_view, branch_task, element_task, loop_task, print_task, return_task, value_task, statements_in, tasks_of_statements}
use Rattle.replay_tasks.specs.Outcomes.{else_tree}
use Rattle.replay_terms.specs.Views.{indexed_view, term_view, place_in, Reduces}
use Rattle.replay_tasks.proofs.RangeLemmas.{tasks_of-statements}

-- ---- a term that has no value yet

-- it takes its step inside the task
pub no_value : (t : Term) → ((v : Value) → t ≡ term.Done v → ⊥) → (sight : Sight) (line : ℕ) (use_value : Value → Effect) (whole : tree.Term → Task)
    → with_value sight line use_value whole (term_view t) ≡ goes_on line whole (reduce sight (term_view t))
no_value (term.Done v) none sight line use_value whole = absurd (none v refl)
no_value (term.Number n unsigned) none sight line use_value whole = refl
no_value (term.Named c) none sight line use_value whole = refl
no_value (term.Read x) none sight line use_value whole = refl
no_value (term.Element x i) none sight line use_value whole = refl
no_value (term.IsNull wanted x) none sight line use_value whole = refl
no_value (term.Prefix op t) none sight line use_value whole = refl
no_value (term.And' p s q t) none sight line use_value whole = refl
no_value (term.Or' p s q t) none sight line use_value whole = refl
no_value (term.Binary op s t) none sight line use_value whole = refl

-- the task at a term is reduced as the term is
pub reduces : (sight : Sight) (line : ℕ) (at : Term → TaskInMemory) (whole : tree.Term → Task) → ((t : Term) → task_view (at t) ≡ whole (term_view t))
    → (old new : Term) (took : Reduction) → effect_of sight (task_view (at old)) ≡ goes_on line whole (reduce sight (term_view old))
    → Reduces sight old took new → HasEffect sight (at old) (reduced line took) (at new)
reduces sight line at whole is old new reduction.Reduced goes step = goes ∙ ap (goes_on line whole) step ∙ ap (λ (u : Task). Becomes (u ∷ [])) (sym (is new))
reduces sight line at whole is old new (reduction.Trapped trap) goes step = (goes ∙ ap (goes_on line whole) step.0, ap (λ (t : Term). task_view (at t)) step.1)
reduces sight line at whole is old new reduction.Stuck goes step = goes ∙ ap (goes_on line whole) step

-- ---- elements

-- what is done with an element, or why there is none
element_at : (line : ℕ) (x : Identifier) (z : ℤ) (n : ℕ) (element : Outcomes ℤ) → at_line line (λ (old : ℤ). SetsElement x n z) element ≡ at_line line (λ m. SetsElement x m z) (outcome_map (λ (old : ℤ). n) element)
element_at line x z n (Gives old) = refl
element_at line x z n (Traps trap) = refl
element_at line x z n Stuck = refl

place_at : (line : ℕ) (x : Identifier) (z : ℤ) (numbers : Outcomes (List ℤ)) (index : Outcomes ℕ)
    → at_line line (λ n. at_line line (λ (old : ℤ). SetsElement x n z) (outcome_then (λ (zs : List ℤ). in_range (slice_get zs n)) numbers)) index ≡ at_line line (λ m. SetsElement x m z) (place_in numbers index)
place_at line x z numbers (Gives n) = element_at line x z n (outcome_then (λ (zs : List ℤ). in_range (slice_get zs n)) numbers)
place_at line x z numbers (Traps trap) = refl
place_at line x z numbers Stuck = refl

-- a number goes to the place that was found
pub written_at : (vs : Variables) (ss : Statics) (heap : Heap) (line : ℕ) (x : Identifier) (i number : Value) (z : ℤ) (place : Indexed)
    → number ≡ value.Int z → indexed_view place ≡ place_in (elements_of heap (lookup x vs)) (index_of i)
    → element_effect (seen vs ss heap) line x i number ≡ at_line line (λ n. SetsElement x n z) (indexed_view place)
written_at vs ss heap line x i number z place is found =
    ap (λ (u : Value). element_effect (seen vs ss heap) line x i u) is
    ∙ place_at line x z (elements_of heap (lookup x vs)) (index_of i) ∙ ap (at_line line (λ n. SetsElement x n z)) (sym found)

-- ---- blocks

-- the tasks of a block are those of its statements
pub block_tasks : (b : BlockInMemory) → tasks_of_statements (out-Block b).statements.items ≡ tasks_of (block_tree b)
block_tasks b = tasks_of-statements (out-Block b).statements.items (out-Block b).end_line ∙ ap tasks_of (sym (block_is b))

-- a block that is entered
pub block_entered : (b : Bor BlockInMemory) (end' : Task) → Becomes (tasks_of (block_tree b.now) ++ end' ∷ []) ≡ Becomes (tasks_of_statements (statements_in (Some b)) ++ end' ∷ [])
block_entered b end' = ap (λ (ts : List Task). Becomes (ts ++ end' ∷ [])) (sym (block_tasks b.now))

-- the same where an `else` may be missing
pub else_entered : (line : ℕ) (o : Option (Bor BlockInMemory)) (end' : Task) → Becomes (tasks_of (else_tree line o) ++ end' ∷ []) ≡ Becomes (tasks_of_statements (statements_in o) ++ end' ∷ [])
else_entered line None end' = refl
else_entered line (Some b) end' = block_entered b end'

-- a constant is evaluated, or it is NULL
pub constant_returned : (sight : Sight) (line : ℕ) (c : Constant) → return_effect sight line (tree.Named c) ≡ returned_name line (tree.constant c) Empty
constant_returned sight line constant.True = refl
constant_returned sight line constant.False = refl
constant_returned sight line constant.Commit = refl
constant_returned sight line constant.Abort = refl
constant_returned sight line constant.Null = refl

pub ruleset return_rules = (constant_returned)

-- all else but a name is evaluated
no_name_returned : (sight : Sight) (line : ℕ) (t : Term) → ((v : Value) → t ≡ term.Done v → ⊥) → ((c : Constant) → t ≡ term.Named c → ⊥) → ((x : Bor Identifier) → t ≡ term.Read x → ⊥)
    → return_effect sight line (term_view t) ≡ goes_on line (ReturnValue line) (reduce sight (term_view t))
no_name_returned sight line (term.Done v) none no_constant no_name = absurd (none v refl)
no_name_returned sight line (term.Number n unsigned) none no_constant no_name = refl
no_name_returned sight line (term.Named c) none no_constant no_name = absurd (no_constant c refl)
no_name_returned sight line (term.Read x) none no_constant no_name = absurd (no_name x refl)
no_name_returned sight line (term.Element x i) none no_constant no_name = refl
no_name_returned sight line (term.IsNull wanted x) none no_constant no_name = refl
no_name_returned sight line (term.Prefix op t) none no_constant no_name = refl
no_name_returned sight line (term.And' p s q t) none no_constant no_name = refl
no_name_returned sight line (term.Or' p s q t) none no_constant no_name = refl
no_name_returned sight line (term.Binary op s t) none no_constant no_name = refl

-- ---- tasks at terms, where this can be seen

module _ (sight : Sight) (line : ℕ) (old new : Term) (took : Reduction) (none : (v : Value) → old ≡ term.Done v → ⊥) (step : Reduces sight old took new) where
  pub print_reduces : HasEffect sight (print_task line old) (reduced line took) (print_task line new)
  print_reduces = reduces sight line (print_task line) (Print line) (λ t. refl) old new took (no_value old none sight line print_effect (Print line)) step

  pub set_reduces : (x : Bor Identifier) → HasEffect sight (value_task line x old) (reduced line took) (value_task line x new)
  set_reduces x = reduces sight line (value_task line x) (SetScalar line x.now) (λ t. refl) old new took (no_value old none sight line (Sets x.now) (SetScalar line x.now)) step

  pub index_reduces : (x : Bor Identifier) (t : Term) → HasEffect sight (element_task line x old t) (reduced line took) (element_task line x new t)
  index_reduces x t =
      reduces sight line (λ u. element_task line x u t) (λ u. SetElement line x.now u (term_view t)) (λ u. refl) old new took
      (no_value old none sight line
      (λ v. with_value sight line (element_effect sight line x.now v) (SetElement line x.now (tree.Done v)) (term_view t)) (λ u. SetElement line x.now u (term_view t))) step

  pub element_reduces : (x : Bor Identifier) (i : Value) → HasEffect sight (element_task line x (term.Done i) old) (reduced line took) (element_task line x (term.Done i) new)
  element_reduces x i =
      reduces sight line (element_task line x (term.Done i)) (SetElement line x.now (tree.Done i)) (λ u. refl) old new took
      (no_value old none sight line (element_effect sight line x.now i) (SetElement line x.now (tree.Done i))) step

  pub branch_reduces : (b : Bor BlockInMemory) (other : Option (Bor BlockInMemory)) → HasEffect sight (branch_task line old b other) (reduced line took) (branch_task line new b other)
  branch_reduces b other =
      reduces sight line (λ u. branch_task line u b other) (λ u. Branch line u (block_tree b.now) (else_tree line other)) (λ u. refl) old new took
      (no_value old none sight line (branch_effect (block_tree b.now) (else_tree line other)) (λ u. Branch line u (block_tree b.now) (else_tree line other))) step

  pub loop_reduces : (test : Bor ExprInMemory) (body : Bor BlockInMemory) → HasEffect sight (loop_task line test old body) (reduced line took) (loop_task line test new body)
  loop_reduces test body =
      reduces sight line (λ u. loop_task line test u body) (λ u. Loop line (expr_tree test.now) u (block_tree body.now)) (λ u. refl) old new took
      (no_value old none sight line (loop_effect line (expr_tree test.now) (block_tree body.now)) (λ u. Loop line (expr_tree test.now) u (block_tree body.now))) step

  pub return_reduces : ((c : Constant) → old ≡ term.Named c → ⊥) → ((x : Bor Identifier) → old ≡ term.Read x → ⊥) → HasEffect sight (return_task line old) (reduced line took) (return_task line new)
  return_reduces no_constant no_name =
      reduces sight line (return_task line) (ReturnValue line) (λ t. refl) old new took (no_name_returned sight line old none no_constant no_name) step
