-- A thread in memory waits where the thread that it stands for does.
use Rattle.std.proofs.Common.{◌≡◌, ℕ, ℤ, Bool, true, false, cond, List, [], ◌∷◌, ◌++◌, Option, Some, None, refl, sym, ap, ◌∙◌}
use Rattle.std.specs.Prelude.{◌&&◌, is_none}
use Rattle.base.specs.Bytes.{Identifier}
use Rattle.syntax.specs.declared.stmt.Stmt.{Stmt as StmtInMemory}
use Rattle.syntax.specs.declared.expr.Constant.TheVariants.{True, False, Commit, Abort, Null}
use Rattle.syntax.specs.Tree.{SourceUnit, Expr, Block}
use Rattle.class_rules.specs.Class.{Classes}
use Rattle.jni.specs.declared.function.JniFunction.{JniFunction}
use Rattle.jni.specs.declared.function.JniFunction.TheVariants.{MonitorEnter}
use Rattle.semantics.specs.Arguments.{Actual, actuals, object_given}
use Rattle.semantics.specs.CallStep.{is_owned_by_other, target_element, waits_with}
use Rattle.semantics.specs.Effect.{Effect, Becomes, Sets, SetsNull, SetsElement, MakesArray, Prints, Calls, Returns, TrapsAt, NoEffect, at_line, goes_on, with_value, print_effect, branch_effect, loop_effect, element_effect, returned_name, return_effect, call_effect_of, effect_of, is_ready, reduce_first}
use Rattle.semantics.specs.Object.{Reference}
use Rattle.semantics.specs.Sight.{Sight}
use Rattle.semantics.specs.Task.{Task, SetScalar, SetElement, SetNull, MakeArray, Invoke, Print, Branch, EndIf, Loop, EndTurn, Return, ReturnValue, Impossible, Operand, Target}
use Rattle.semantics.specs.Term.{Term, Done, Number, Named, Read, Element, IsNull, Prefix, And, Or, Binary, index_of, reduce}
use Rattle.semantics.specs.Thread.{BuffersInUse, Frame, Thread, Shared, monitor_of}
use Rattle.semantics.specs.ThreadStep.{next_effect, waits}
use Rattle.semantics.specs.Variable.{StaticReference}
use Rattle.semantics.specs.declared.trap.Trap.{Trap}
use Rattle.semantics.specs.declared.value.Value.{Value}
use Rattle.semantics.specs.declared.value.Value.TheVariants.{Word, Int, Flag, Truth}
use Rattle.semantics.specs.Value.{Outcome, Gives, Traps, Stuck}
use Rattle.replay_arguments.specs.Shares.{sight_in}
use Rattle.replay_steps.specs.Activations.{tasks_from, tasks_around, tasks_after}
use Rattle.replay_steps.specs.Steps.{scene_with}
use Rattle.replay_steps.specs.Waits.{WaitsIn, call_waits, is_kept_out, task_waits}
use Rattle.replay_steps.specs.declared.activation.Outer.{Outer}
use Rattle.replay_steps.specs.declared.activation.Work.{Work}
use Rattle.replay_steps.proofs.ThreadLocals.{as_it_is, in_locals}
use Rattle.semantics.specs.CallSight.{call_seen, sight_of_call}
use Rattle.semantics.specs.Checks.{go_together, trap_of}
use Rattle.base.specs.declared.element.ElementType.TheVariants.{Int as JInt}
use Rattle.replay_tasks.specs.Outcomes.{purpose_view}
use Rattle.replay_tasks.specs.Tasks.{end_view, tasks_of_statements, task_view}
use Rattle.replay_tasks.specs.declared.outcome.End.{End}
use Rattle.replay_tasks.specs.declared.outcome.End.TheVariants as end
use Rattle.replay_tasks.specs.declared.task.Task.{Task as TaskInMemory}
use Rattle.replay_tasks.specs.declared.task.Task.TheVariants as task
use Rattle.replay_terms.specs.Views.{Contents, operands_view, variables_view}

-- a task that is no call
abbrev pub IsPlain : Task → Type 0
IsPlain (Invoke line target f operands) = ⊥
IsPlain t = Unit {0}

-- tasks of which the first is none
abbrev pub BeginsPlain : List Task → Type 0
BeginsPlain [] = Unit {0}
BeginsPlain (t ∷ rest) = IsPlain t

-- no call
abbrev CallsNone : Effect → Type 0
CallsNone (Calls line target f args) = ⊥
CallsNone e = Unit {0}

-- ---- effects

goes_on-none : (line : ℕ) (wrap : Term → Task) (o : Outcome Term) → CallsNone (goes_on line wrap o)
goes_on-none line wrap (Gives t) = tt
goes_on-none line wrap (Traps trap) = tt
goes_on-none line wrap Stuck = tt

with_value-none : (sight : Sight) (line : ℕ) (use_value : Value → Effect) (wrap : Term → Task) (e : Term) → ((v : Value) → CallsNone (use_value v)) → CallsNone (with_value sight line use_value wrap e)
with_value-none sight line use_value wrap (Done v) h = h v
with_value-none sight line use_value wrap (Number n u) h = goes_on-none line wrap (reduce sight (Number n u))
with_value-none sight line use_value wrap (Named c) h = goes_on-none line wrap (reduce sight (Named c))
with_value-none sight line use_value wrap (Read x) h = goes_on-none line wrap (reduce sight (Read x))
with_value-none sight line use_value wrap (Element x e) h = goes_on-none line wrap (reduce sight (Element x e))
with_value-none sight line use_value wrap (IsNull b x) h = goes_on-none line wrap (reduce sight (IsNull b x))
with_value-none sight line use_value wrap (Prefix op e) h = goes_on-none line wrap (reduce sight (Prefix op e))
with_value-none sight line use_value wrap (And a b) h = goes_on-none line wrap (reduce sight (And a b))
with_value-none sight line use_value wrap (Or a b) h = goes_on-none line wrap (reduce sight (Or a b))
with_value-none sight line use_value wrap (Binary op a b) h = goes_on-none line wrap (reduce sight (Binary op a b))

print-none : (v : Value) → CallsNone (print_effect v)
print-none (Word n) = tt
print-none (Int z) = tt
print-none (Flag b) = tt
print-none (Truth b) = tt

branch-none : (a b : Block) (v : Value) → CallsNone (branch_effect a b v)
branch-none a b (Word n) = tt
branch-none a b (Int z) = tt
branch-none a b (Flag c) = tt
branch-none a b (Truth true) = tt
branch-none a b (Truth false) = tt

loop-none : (line : ℕ) (test : Expr) (body : Block) (v : Value) → CallsNone (loop_effect line test body v)
loop-none line test body (Word n) = tt
loop-none line test body (Int z) = tt
loop-none line test body (Flag c) = tt
loop-none line test body (Truth true) = tt
loop-none line test body (Truth false) = tt

at_line-none : {A : Type 0} (line : ℕ) (effect : A → Effect) (o : Outcome A) → ((a : A) → CallsNone (effect a)) → CallsNone (at_line line effect o)
at_line-none line effect (Gives a) h = h a
at_line-none line effect (Traps trap) h = tt
at_line-none line effect Stuck h = tt

element-none : (sight : Sight) (line : ℕ) (x : Identifier) (i v : Value) → CallsNone (element_effect sight line x i v)
element-none sight line x i (Word n) = tt
element-none sight line x i (Int z) =
    at_line-none line (λ n. at_line line (λ (old : ℤ). SetsElement x n z) (sight.element x n)) (index_of i)
    (λ n. at_line-none line (λ (old : ℤ). SetsElement x n z) (sight.element x n) (λ old. tt))
element-none sight line x i (Flag b) = tt
element-none sight line x i (Truth b) = tt

name-none : (line : ℕ) (o : Outcome Value) (r : StaticReference) → CallsNone (returned_name line o r)
name-none line (Gives v) r = tt
name-none line (Traps trap) r = tt
name-none line Stuck r = tt

return-none : (sight : Sight) (line : ℕ) (e : Term) → CallsNone (return_effect sight line e)
return-none sight line (Done v) = tt
return-none sight line (Number n u) = goes_on-none line (ReturnValue line) (reduce sight (Number n u))
return-none sight line (Named True) = goes_on-none line (ReturnValue line) (reduce sight (Named True))
return-none sight line (Named False) = goes_on-none line (ReturnValue line) (reduce sight (Named False))
return-none sight line (Named Commit) = goes_on-none line (ReturnValue line) (reduce sight (Named Commit))
return-none sight line (Named Abort) = goes_on-none line (ReturnValue line) (reduce sight (Named Abort))
return-none sight line (Named Null) = tt
return-none sight line (Read x) = name-none line (sight.number x) (sight.reference x)
return-none sight line (Element x e) = goes_on-none line (ReturnValue line) (reduce sight (Element x e))
return-none sight line (IsNull b x) = goes_on-none line (ReturnValue line) (reduce sight (IsNull b x))
return-none sight line (Prefix op e) = goes_on-none line (ReturnValue line) (reduce sight (Prefix op e))
return-none sight line (And a b) = goes_on-none line (ReturnValue line) (reduce sight (And a b))
return-none sight line (Or a b) = goes_on-none line (ReturnValue line) (reduce sight (Or a b))
return-none sight line (Binary op a b) = goes_on-none line (ReturnValue line) (reduce sight (Binary op a b))

-- the effect of a plain task is no call
effect-none : (sight : Sight) (t : Task) → IsPlain t → CallsNone (effect_of sight t)
effect-none sight (SetScalar line x e) h = with_value-none sight line (Sets x) (SetScalar line x) e (λ v. tt)
effect-none sight (SetElement line x i e) h =
    with_value-none sight line (λ v. with_value sight line (element_effect sight line x v) (SetElement line x (Done v)) e) (λ u. SetElement line x u e) i
    (λ v. with_value-none sight line (element_effect sight line x v) (SetElement line x (Done v)) e (element-none sight line x v))
effect-none sight (SetNull target) h = tt
effect-none sight (MakeArray T x n) h = tt
effect-none sight (Invoke line target f operands) h = absurd h
effect-none sight (Print line e) h = with_value-none sight line print_effect (Print line) e print-none
effect-none sight (Branch line e a b) h = with_value-none sight line (branch_effect a b) (λ u. Branch line u a b) e (branch-none a b)
effect-none sight EndIf h = tt
effect-none sight (Loop line test e body) h = with_value-none sight line (loop_effect line test body) (λ u. Loop line test u body) e (loop-none line test body)
effect-none sight (EndTurn line test body) h = tt
effect-none sight Return h = tt
effect-none sight (ReturnValue line e) h = return-none sight line e
effect-none sight Impossible h = tt

-- ---- tasks

end-plain : (e : End) → IsPlain (end_view e)
end-plain end.If = tt
end-plain (end.Turn line test body) = tt

pub around-plain : (after : List Task) (os : List Outer) → BeginsPlain after → BeginsPlain (tasks_around after os)
around-plain after [] h = h
around-plain after (o ∷ os) h = around-plain (end_view o.end ∷ tasks_of_statements o.rest ++ after) os (end-plain o.end)

-- ---- threads

module _ (classes : Classes) (k : ℕ) (s : Shared) (vs : Contents) (frames : List Frame) (pending : Reference) (t : Thread) where
  abbrev caller : Thread
  caller = in_locals t (variables_view vs) frames pending

  abbrev sight : Sight
  sight = sight_in s vs

  free_effect : (e : Effect) → CallsNone e → false ≡ waits_with classes k s caller e
  free_effect (Becomes tasks) h = refl
  free_effect (Sets x v) h = refl
  free_effect (SetsNull target) h = refl
  free_effect (SetsElement x i z) h = refl
  free_effect (MakesArray T x n) h = refl
  free_effect (Prints z) h = refl
  free_effect (Calls line target f args) h = absurd h
  free_effect (Returns given) h = refl
  free_effect (TrapsAt trap line) h = refl
  free_effect NoEffect h = refl

  free_task : (u : Task) → IsPlain u → false ≡ waits_with classes k s caller (effect_of sight u)
  free_task u h = free_effect (effect_of sight u) (effect-none sight u h)

  free_tasks : (us : List Task) → BeginsPlain us → false ≡ waits_with classes k s caller (next_effect s caller (Some us))
  free_tasks [] h = refl
  free_tasks (u ∷ rest) h = free_task u h

  -- a call of MonitorEnter is never too deep, and fills no buffer
  entering_alike : (target : Target) (args : List Actual) → trap_of classes (call_seen s (variables_view vs) frames 0 pending MonitorEnter args) JInt MonitorEnter
      ≡ trap_of classes (sight_of_call s caller MonitorEnter args) (target_element (variables_view vs) target) MonitorEnter
  unfolding trap_of go_together
  entering_alike target args = refl

  -- a call that takes a step with a number, or is made
  enters : (line : ℕ) (target : Target) (b : Bool) (args : List Actual) (o : Outcome (List Operand))
      → (b && is_kept_out classes k s vs frames pending args) ≡ waits_with classes k s caller (cond b (Calls line target MonitorEnter args) (goes_on line (Invoke line target MonitorEnter) o))
  enters line target true args o =
      ap (λ (found : Option Trap). is_none found && is_owned_by_other k (monitor_of s.monitors (object_given args 0)))
      (entering_alike target args)
  enters line target false args (Gives operands) = refl
  enters line target false args (Traps trap) = refl
  enters line target false args Stuck = refl

  others_go : (line : ℕ) (target : Target) (f : JniFunction) (b : Bool) (args : List Actual) (o : Outcome (List Operand)) → false ≡ waits_with classes k s caller (Calls line target f args)
      → false ≡ waits_with classes k s caller (cond b (Calls line target f args) (goes_on line (Invoke line target f) o))
  others_go line target f true args o h = h
  others_go line target f false args (Gives operands) h = refl
  others_go line target f false args (Traps trap) h = refl
  others_go line target f false args Stuck h = refl

  call_is : (line : ℕ) (target : Target) (f : JniFunction) (operands : List Operand) → call_waits classes k s vs frames pending f operands ≡ waits_with classes k s caller (call_effect_of sight line target f operands)
  call_is line target MonitorEnter operands = enters line target (is_ready sight.number operands) (actuals sight MonitorEnter operands) (reduce_first sight operands)
  call_is line target f operands = others_go line target f (is_ready sight.number operands) (actuals sight f operands) (reduce_first sight operands) refl

  task_is : (u : TaskInMemory) → task_waits classes k s vs frames pending (Some u) ≡ waits_with classes k s caller (effect_of sight (task_view u))
  task_is (task.Print e) = free_task (task_view (task.Print e)) tt
  task_is (task.Set a) = free_task (task_view (task.Set a)) tt
  task_is (task.SetElement a) = free_task (task_view (task.SetElement a)) tt
  task_is (task.SetNull to) = free_task (task_view (task.SetNull to)) tt
  task_is (task.MakeArray T x n) = free_task (task_view (task.MakeArray T x n)) tt
  task_is (task.Invoke i) = call_is i.line (purpose_view i.line i.purpose) i.function (operands_view i.operands)
  task_is (task.Branch c) = free_task (task_view (task.Branch c)) tt
  task_is (task.Loop i) = free_task (task_view (task.Loop i)) tt
  task_is task.Return = free_task (task_view task.Return) tt
  task_is (task.ReturnValue e) = free_task (task_view (task.ReturnValue e)) tt

  begun_is : (o : Option TaskInMemory) (rest : List StmtInMemory) (os : List Outer) → (o ≡ None → rest ≡ [])
      → task_waits classes k s vs frames pending o ≡ waits_with classes k s caller (next_effect s caller (Some (tasks_from o (tasks_after rest os))))
  begun_is None rest os next =
      free_tasks (tasks_around [] os) (around-plain [] os tt)
      ∙ ap (λ (l : List StmtInMemory). waits_with classes k s caller (next_effect s caller (Some (tasks_after l os)))) (sym (next refl))
  begun_is (Some u) rest os next = task_is u

-- what is told of the task that is begun is told of the thread
pub waits_so : (classes : Classes) (k : ℕ) (s : Shared) (vs : Contents) (frames : List Frame) (pending : Reference) (w : Work) (answer : Bool) → answer ≡ task_waits classes k s vs frames pending w.task
    → (unit : SourceUnit) (in_use : BuffersInUse) → WaitsIn (scene_with unit classes in_use k s vs frames pending) w answer
waits_so classes k s vs frames pending w answer is unit in_use = λ at t sees has.
    let same = as_it_is t (variables_view vs) frames pending sees.variables sees.frames sees.pending in
    let u : Thread = in_locals t (variables_view vs) frames pending in
    is
    ∙ begun_is classes k s vs frames pending t w.task w.rest w.outer.items at.next
    ∙ ap (λ (o : Option (List Task)). waits_with classes k s u (next_effect s u o)) (sym has)
    ∙ sym (ap (λ (v : Thread). waits classes k s v) same)
