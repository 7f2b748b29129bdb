-- A call in progress takes the step of its first task.
use Rattle.std.proofs.Common.{◌≡◌, ℕ, Bool, true, false, List, [], ◌∷◌, ◌++◌, Option, Some, None, refl, sym, ap, ◌∙◌, subst, append_assoc, append-nil, length}
use Rattle.std.specs.Borrow.{Bor}
use Rattle.syntax.specs.declared.expr.Expr.{Expr}
use Rattle.syntax.specs.declared.stmt.Block.{Block}
use Rattle.syntax.specs.declared.stmt.Stmt.{Stmt}
use Rattle.syntax.specs.Tree.{SourceUnit}
use Rattle.syntax.specs.Views.{expr_tree, block_tree}
use Rattle.class_rules.specs.Class.{Classes}
use Rattle.semantics.specs.Return.{return_step}
use Rattle.semantics.specs.Heap.{Heap}
use Rattle.semantics.specs.Task.{Task, Loop, tasks_of}
use Rattle.semantics.specs.Term.{term_of}
use Rattle.semantics.specs.Thread.{Thread, Shared, BuffersInUse, Advance, NoAdvance}
use Rattle.semantics.specs.Thread as thread
use Rattle.semantics.specs.declared.event.Event.{Event}
use Rattle.semantics.specs.declared.event.Event.TheVariants.{Quiet, PrintedNumber, Trapped}
use Rattle.semantics.specs.ThreadStep.{step_within, with_tasks}
use Rattle.replay_steps.specs.declared.activation.Outer.{Outer}
use Rattle.replay_steps.specs.declared.activation.Work.{Work}
use Rattle.replay_tasks.specs.declared.outcome.CallResult.{CallResult}
use Rattle.replay_tasks.specs.declared.outcome.End.{End}
use Rattle.replay_tasks.specs.declared.outcome.End.TheVariants as end
use Rattle.replay_tasks.specs.declared.outcome.Outcome.{Outcome}
use Rattle.replay_tasks.specs.declared.outcome.Outcome.TheVariants as outcome
use Rattle.replay_tasks.specs.declared.task.Task.{Task as TaskInMemory}
use Rattle.semantics.specs.Variable.{Statics}
use Rattle.replay_terms.specs.declared.term.Term.TheVariants as term
use Rattle.semantics.specs.declared.value.Value.TheVariants as value
use Rattle.replay_steps.specs.Activations.{tasks_from, tasks_around, tasks_after, tasks_left, thread_in, advance_by, Advances, HasBegun, IsBegunAs, AreSet, OuterInRange, IsInRange}
use Rattle.replay_tasks.specs.Outcomes.{result_view, variable_step, Holds, LeavesVariables, LeavesIf}
use Rattle.base.specs.Bytes.{Identifier}
use Rattle.replay_steps.specs.Steps.{Scene, Sees, Does, calling_by, in_scene, left_by}
use Rattle.replay_tasks.specs.Tasks.{Begins, BegunInRange, branch_task, task_view, end_view, statements_in, tasks_of_statements, EndInRange, StatementsInRange, TaskInRange, OutcomeInRange}
use Rattle.replay_tasks.proofs.EffectLemmas.{block_tasks}
use Rattle.replay_tasks.proofs.RangeLemmas.{entered_in_range}
use Rattle.replay_steps.proofs.TaskLemmas.{same_scene}
use Rattle.replay_terms.specs.Views.{Contents}

-- ---- blocks around the one in progress

-- the innermost is told last
pub around_more : (rest_of : List Task) (os : List Outer) (o : Outer) → tasks_around rest_of (os ++ o ∷ []) ≡ end_view o.end ∷ tasks_of_statements o.rest ++ tasks_around rest_of os
around_more rest_of [] o = refl
around_more rest_of (p ∷ os) o = around_more (end_view p.end ∷ tasks_of_statements p.rest ++ rest_of) os o

pub outer_parts : (os : List Outer) (o : Outer) → OuterInRange (os ++ o ∷ []) → OuterInRange os × EndInRange o.end × StatementsInRange o.rest
outer_parts [] o h = (tt, h.0, h.1)
outer_parts (p ∷ os) o h = let parts = outer_parts os o h.2 in ((h.0, h.1, parts.0), parts.1, parts.2)

pub outer_joined : (os : List Outer) (o : Outer) → OuterInRange os → EndInRange o.end → StatementsInRange o.rest → OuterInRange (os ++ o ∷ [])
outer_joined [] o h e r = (e, r, tt)
outer_joined (p ∷ os) o h e r = (h.0, h.1, outer_joined os o h.2 e r)

left_is : (w : Work) (o : Option TaskInMemory) (rest : List Stmt) (os : List Outer) → w.task ≡ o → w.rest ≡ rest → w.outer.items ≡ os → tasks_left w ≡ tasks_from o (tasks_after rest os)
left_is w o rest os begun rest_of outer =
    ap (λ (p : Option TaskInMemory). tasks_from p (tasks_after w.rest w.outer.items)) begun
    ∙ ap (λ (b : List Stmt). tasks_from o (tasks_after b w.outer.items)) rest_of
    ∙ ap (λ (ps : List Outer). tasks_from o (tasks_after rest ps)) outer

-- what is shared after a step, and what was before where it isn't possible
abbrev shared_of : Shared → Advance → Shared
shared_of none (thread.Advances s t event) = s
shared_of none NoAdvance = none

-- the call of a method by a thread that has these tasks, after a step
abbrev called_in : ℕ → Identifier → List Task → Advance → Advance
called_in line x tasks (thread.Advances s t event) = calling_by s t line x (Some tasks)
called_in line x tasks NoAdvance = NoAdvance

abbrev with_event : Event → Advance → Advance
with_event event (thread.Advances s t other) = thread.Advances s t event
with_event event NoAdvance = NoAdvance

-- ---- the next statement is begun

-- a task that is begun in its place
pub begun_as : (t : Task) (o : Option TaskInMemory) → Begins t o → BegunInRange o → IsBegunAs t o
begun_as t None begins range = absurd begins
begun_as t (Some task) begins range = record { task = task; is = refl; begins = begins; range = range }

-- a statement that is begun is the task that it was to begin as
pub begun_next : (old new : Work) (first : Stmt) (after : List Stmt) → old.rest ≡ first ∷ after → HasBegun first new.task → new.rest ≡ after → new.outer.items ≡ old.outer.items → tasks_left new ≡ tasks_after old.rest old.outer.items
begun_next old new first after rest begun left outer =
    left_is new (Some begun.task) after old.outer.items begun.is left outer
    ∙ ap (λ (u : Task). u ∷ tasks_after after old.outer.items) begun.begins
    ∙ ap (λ (b : List Stmt). tasks_after b old.outer.items) (sym rest)

-- where none is left, the block is done
pub none_begun : (old new : Work) → new.task ≡ None → new.rest ≡ old.rest → new.outer.items ≡ old.outer.items → tasks_left new ≡ tasks_after old.rest old.outer.items
none_begun old new none left outer = left_is new None old.rest old.outer.items none left outer

-- and is in range as it was
pub begun_range : (old new : Work) (first : Stmt) (after : List Stmt) → old.rest ≡ first ∷ after → IsInRange old → HasBegun first new.task → new.rest ≡ after → new.outer.items ≡ old.outer.items → IsInRange new
begun_range old new first after rest known begun left outer =
    let parts = subst StatementsInRange rest known.rest in
    record {
      begun = subst BegunInRange (sym begun.is) begun.range;
      rest = subst StatementsInRange (sym left) parts.1;
      outer = subst OuterInRange (sym outer) known.outer;
    }

pub none_range : (old new : Work) → IsInRange old → new.task ≡ None → new.rest ≡ old.rest → new.outer.items ≡ old.outer.items → IsInRange new
none_range old new known none left outer = record {
  begun = subst BegunInRange (sym none) tt;
  rest = subst StatementsInRange (sym left) known.rest;
  outer = subst OuterInRange (sym outer) known.outer;
}

-- a step leaves the same before it
pub begun_after : (refused : Bool) (before : Scene) (old : Work) (took : Outcome) (after : Scene) (left begun : Work) → tasks_left begun ≡ tasks_left left → Advances refused before old took after left → Advances refused before old took after begun
begun_after refused before old took after left begun same does = λ t sees has.
    does t sees has ∙ ap (λ (ts : List Task). advance_by before.thread after.shared (thread_in t ts after) took) (sym same)

-- the tasks of a body whose statements are to do
pub body_tasks : (body : Bor Block) (w : Work) → w.task ≡ None → w.rest ≡ statements_in (Some body) → w.outer.items ≡ [] → tasks_left w ≡ tasks_of (block_tree body.now)
body_tasks body w none rest outer =
    left_is w None (statements_in (Some body)) [] none rest outer
    ∙ append-nil (tasks_of_statements (statements_in (Some body)))
    ∙ block_tasks body.now

-- ---- the step of a task

module _ (refused : Bool) (before between : Scene) (statics : Statics) (heap : Heap) (variables : Contents) (old : Work) (begun_task left : TaskInMemory) (new : Work) (is : old.task ≡ Some begun_task) where
  abbrev rest : List Task
  rest = tasks_after old.rest old.outer.items

  -- what is shared when the statics and the objects are set too
  abbrev shared' : Shared
  shared' = record between.shared { statics = statics; heap = heap }

  -- and the scene when the variables are
  abbrev after : Scene
  after = record between { shared = shared'; variables = variables }

  -- the work with what the step left of its task
  abbrev stood : Work
  stood = record old { task = Some left }

  -- a thread then
  abbrev within : Thread → Thread
  within t = in_scene t between

  -- what a step does to the variables and the statics
  abbrev OnVariables : Outcome → Type 0
  OnVariables took = LeavesVariables (length between.frames) between.shared.statics between.shared.heap between.variables (variable_step took) statics heap variables

  abbrev Never : Outcome → Type 0
  Never took = LeavesIf (length between.frames) between.shared.statics between.shared.heap between.variables (variable_step took) false statics heap variables

  first : tasks_left old ≡ task_view begun_task ∷ rest
  first = ap (λ (o : Option TaskInMemory). tasks_from o rest) is

  holds : (t : Thread) (ts : List Task) → Holds (length between.frames) between.shared.statics between.shared.heap between.variables between.shared (with_tasks (within t) ts)
  holds t ts = record { variables = refl; frames = refl; statics = refl; heap = refl }

  stepped : (took : Outcome) (end : Scene) → Does refused before begun_task took between left
      → ((t : Thread) → left_by before.thread between.shared (within t) rest took left ≡ NoAdvance) → Advances refused before old outcome.Impossible end new
  stepped took end does none = λ t sees has.
      ap (λ (ts : List Task). step_within before.unit before.classes before.in_use before.thread before.shared t refused (Some ts)) first
      ∙ does t rest sees (has ∙ ap (λ (ts : List Task). let o : Option (List Task) = Some ts in o) first)
      ∙ none t

  -- a step that isn't possible
  pub fails : (took : Outcome) (end : Scene) → Does refused before begun_task took between left
      → Never took → Advances refused before old outcome.Impossible end new
  fails took end does none = stepped took end does (by_outcome took none)
    where
      by_outcome : (took : Outcome) → Never took → (t : Thread) → left_by before.thread between.shared (within t) rest took left ≡ NoAdvance
      by_outcome outcome.Stays none t = absurd (let bad = none between.shared (with_tasks (within t) rest) (holds t rest) in cc)
      by_outcome (outcome.Printed z) none t = absurd (let bad = none between.shared (with_tasks (within t) rest) (holds t rest) in cc)
      by_outcome (outcome.Sets x v) none t = none between.shared (with_tasks (within t) rest) (holds t rest)
      by_outcome (outcome.SetsNull to) none t = none between.shared (with_tasks (within t) rest) (holds t rest)
      by_outcome (outcome.Gives to g) none t = none between.shared (with_tasks (within t) rest) (holds t rest)
      by_outcome (outcome.Lends to b) none t = none between.shared (with_tasks (within t) rest) (holds t rest)
      by_outcome (outcome.Tests line zero b other) none t = absurd (let bad = none between.shared (with_tasks (within t) rest) (holds t rest) in cc)
      by_outcome (outcome.SetsElement x i z) none t = none between.shared (with_tasks (within t) rest) (holds t rest)
      by_outcome (outcome.Makes T x n) none t = none between.shared (with_tasks (within t) rest) (holds t rest)
      by_outcome (outcome.Enters block e) none t = absurd (let bad = none between.shared (with_tasks (within t) rest) (holds t rest) in cc)
      by_outcome outcome.Ends none t = absurd (let bad = none between.shared (with_tasks (within t) rest) (holds t rest) in cc)
      by_outcome (outcome.Returned given) none t = absurd (let bad = none between.shared (with_tasks (within t) rest) (holds t rest) in cc)
      by_outcome (outcome.Calls line x) none t = absurd (let bad = none between.shared (with_tasks (within t) rest) (holds t rest) in cc)
      by_outcome (outcome.Trapped trap line) none t = absurd (let bad = none between.shared (with_tasks (within t) rest) (holds t rest) in cc)
      by_outcome outcome.Impossible none t = refl

  module _ (t : Thread) where
    -- a thread with other tasks
    tasks_are : (event : Event) (ts : List Task) → tasks_left new ≡ ts → thread.Advances shared' (thread_in t ts after) event ≡ thread.Advances shared' (thread_in t (tasks_left new) after) event
    tasks_are event ts same = ap (λ (us : List Task). thread.Advances shared' (thread_in t us after) event) (sym same)

    -- all but the tasks is as before
    left_alone : (event : Event) (ts : List Task) → LeavesVariables (length between.frames) between.shared.statics between.shared.heap between.variables (λ s' t'. thread.Advances s' t' Quiet) statics heap variables → tasks_left new ≡ ts
        → thread.Advances between.shared (with_tasks (within t) ts) event ≡ thread.Advances shared' (thread_in t (tasks_left new) after) event
    left_alone event ts leaves same = ap (with_event event) (leaves between.shared (with_tasks (within t) ts) (holds t ts)) ∙ tasks_are event ts same

    set : (took : Outcome) → OnVariables took → tasks_left new ≡ rest
        → variable_step took between.shared (with_tasks (within t) rest) ≡ thread.Advances shared' (thread_in t (tasks_left new) after) Quiet
    set took leaves same = leaves between.shared (with_tasks (within t) rest) (holds t rest) ∙ tasks_are Quiet rest same

    -- a step that leaves the call does not change the statics or the objects
    returned : (given : CallResult) → OnVariables (outcome.Returned given) → (u : Thread) → return_step before.thread between.shared u (result_view given) ≡ return_step before.thread shared' u (result_view given)
    returned given leaves u =
        ap (λ (s' : Shared). return_step before.thread s' u (result_view given)) (ap (shared_of between.shared) (leaves between.shared (with_tasks (within t) rest) (holds t rest)))

    left_with : (o : Option TaskInMemory) → new.task ≡ o → new.rest ≡ old.rest → new.outer.items ≡ old.outer.items → tasks_left new ≡ tasks_from o rest
    left_with o task' rest' outer' = left_is new o old.rest old.outer.items task' rest' outer'

    entered : (statements : List Stmt) (e : End) → new.task ≡ None → new.rest ≡ statements → new.outer.items ≡ old.outer.items ++ record { end = e; rest = old.rest } ∷ []
        → tasks_left new ≡ (tasks_of_statements statements ++ end_view e ∷ []) ++ rest
    entered statements e task' rest' outer' =
        left_is new None statements (old.outer.items ++ record { end = e; rest = old.rest } ∷ []) task' rest' outer'
        ∙ ap (λ (ts : List Task). tasks_of_statements statements ++ ts) (around_more [] old.outer.items (record { end = e; rest = old.rest }))
        ∙ sym (append_assoc (tasks_of_statements statements) (end_view e ∷ []) rest)

    left_in : (took : Outcome) → OnVariables took → AreSet stood took new
        → left_by before.thread between.shared (within t) rest took left ≡ advance_by before.thread shared' (thread_in t (tasks_left new) after) took
    left_in outcome.Stays leaves a = left_alone Quiet (task_view left ∷ rest) leaves (left_with (Some left) a.task a.rest a.outer)
    left_in (outcome.Printed z) leaves a = left_alone (PrintedNumber z) rest leaves (left_with None a.task a.rest a.outer)
    left_in (outcome.Sets x v) leaves a = set (outcome.Sets x v) leaves (left_with None a.task a.rest a.outer)
    left_in (outcome.SetsNull to) leaves a = set (outcome.SetsNull to) leaves (left_with None a.task a.rest a.outer)
    left_in (outcome.Gives to g) leaves a = set (outcome.Gives to g) leaves (left_with None a.task a.rest a.outer)
    left_in (outcome.Lends to b) leaves a = set (outcome.Lends to b) leaves (left_with None a.task a.rest a.outer)
    left_in (outcome.Tests line zero b other) leaves a =
        let choice : TaskInMemory = branch_task line (term.Done (value.Truth zero)) b other in
        left_alone Quiet (task_view choice ∷ rest) leaves (left_with (Some choice) a.task a.rest a.outer)
    left_in (outcome.SetsElement x i z) leaves a = set (outcome.SetsElement x i z) leaves (left_with None a.task a.rest a.outer)
    left_in (outcome.Makes T x n) leaves a = set (outcome.Makes T x n) leaves (left_with None a.task a.rest a.outer)
    left_in (outcome.Enters block e) leaves a = left_alone Quiet ((tasks_of_statements (statements_in block) ++ end_view e ∷ []) ++ rest) leaves (entered (statements_in block) e a.task a.rest a.outer)
    left_in outcome.Ends leaves a = left_alone Quiet rest leaves (left_with None a.task a.rest a.outer)
    left_in (outcome.Returned given) leaves a = returned given leaves (within t)
    left_in (outcome.Calls line x) leaves a =
        let todo : List Task = task_view left ∷ rest in
        let same : todo ≡ tasks_left new = sym (left_with (Some left) a.task a.rest a.outer) in
        ap (called_in line x.now todo) (leaves between.shared (with_tasks (within t) todo) (holds t todo))
        ∙ ap (λ (ts : List Task). calling_by shared' (thread_in t ts after) line x.now (Some ts)) same
    left_in (outcome.Trapped trap line) leaves a = left_alone (Trapped trap line) (task_view left ∷ rest) leaves (left_with (Some left) a.task a.rest a.outer)
    left_in outcome.Impossible leaves a = refl

  -- what the task's step does is done to the call
  pub advances : (took : Outcome) → Does refused before begun_task took between left
      → OnVariables took → AreSet stood took new → Advances refused before old took after new
  advances took does leaves applied = λ t sees has.
      ap (λ (ts : List Task). step_within before.unit before.classes before.in_use before.thread before.shared t refused (Some ts)) first
      ∙ does t rest sees (has ∙ ap (λ (ts : List Task). let o : Option (List Task) = Some ts in o) first)
      ∙ left_in t took leaves applied

-- ---- what is known of accepted programs

module _ (begun new : Work) (after : TaskInMemory) (known : IsInRange begun) (known_after : TaskInRange after) where
  built : (o : Option TaskInMemory) (rest_of : List Stmt) (os : List Outer) → new.task ≡ o → new.rest ≡ rest_of → new.outer.items ≡ os → BegunInRange o → StatementsInRange rest_of → OuterInRange os → IsInRange new
  built o rest_of os same_task same_rest same_outer task' rest' outer' = record {
    begun = subst BegunInRange (sym same_task) task';
    rest = subst StatementsInRange (sym same_rest) rest';
    outer = subst OuterInRange (sym same_outer) outer';
  }

  -- after a step it is known of the call in progress too
  pub range_after : (took : Outcome) → OutcomeInRange took → AreSet (record begun { task = Some after }) took new → IsInRange new
  range_after outcome.Stays h a = built (Some after) begun.rest begun.outer.items a.task a.rest a.outer known_after known.rest known.outer
  range_after (outcome.Printed z) h a = built None begun.rest begun.outer.items a.task a.rest a.outer tt known.rest known.outer
  range_after (outcome.Sets x v) h a = built None begun.rest begun.outer.items a.task a.rest a.outer tt known.rest known.outer
  range_after (outcome.SetsNull to) h a = built None begun.rest begun.outer.items a.task a.rest a.outer tt known.rest known.outer
  range_after (outcome.Gives to g) h a = built None begun.rest begun.outer.items a.task a.rest a.outer tt known.rest known.outer
  range_after (outcome.Lends to b) h a = built None begun.rest begun.outer.items a.task a.rest a.outer tt known.rest known.outer
  range_after (outcome.Tests line zero b other) h a = built (Some (branch_task line (term.Done (value.Truth zero)) b other)) begun.rest begun.outer.items a.task a.rest a.outer (tt, h.0, h.1) known.rest known.outer
  range_after (outcome.SetsElement x i z) h a = built None begun.rest begun.outer.items a.task a.rest a.outer tt known.rest known.outer
  range_after (outcome.Makes T x n) h a = built None begun.rest begun.outer.items a.task a.rest a.outer tt known.rest known.outer
  range_after (outcome.Enters block e) h a =
      let o : Outer = record { end = e; rest = begun.rest } in
      built None (statements_in block) (begun.outer.items ++ o ∷ []) a.task a.rest a.outer tt (entered_in_range block h.0) (outer_joined begun.outer.items o known.outer h.1 known.rest)
  range_after outcome.Ends h a = built None begun.rest begun.outer.items a.task a.rest a.outer tt known.rest known.outer
  range_after (outcome.Returned given) h a = built (Some after) begun.rest begun.outer.items a.task a.rest a.outer known_after known.rest known.outer
  range_after (outcome.Calls line x) h a = built (Some after) begun.rest begun.outer.items a.task a.rest a.outer known_after known.rest known.outer
  range_after (outcome.Trapped trap line) h a = built (Some after) begun.rest begun.outer.items a.task a.rest a.outer known_after known.rest known.outer
  range_after outcome.Impossible h a = built (Some after) begun.rest begun.outer.items a.task a.rest a.outer known_after known.rest known.outer

-- ---- the end of a block

module _ (unit : SourceUnit) (classes : Classes) (in_use : BuffersInUse) (k : ℕ) (s : Shared) (t : Thread) where
  end_refused : (e : End) (after : List Task) → step_within unit classes in_use k s t true (Some (end_view e ∷ after)) ≡ NoAdvance
  end_refused end.If after = refl
  end_refused (end.Turn line test body) after = refl

  around_refused : (after : List Task) (os : List Outer) → step_within unit classes in_use k s t true (Some after) ≡ NoAdvance → step_within unit classes in_use k s t true (Some (tasks_around after os)) ≡ NoAdvance
  around_refused after [] h = h
  around_refused after (o ∷ os) h = around_refused (end_view o.end ∷ tasks_of_statements o.rest ++ after) os (end_refused o.end (tasks_of_statements o.rest ++ after))

module _ (scene : Scene) (old new : Work) (idle : old.task ≡ None) (done : old.rest ≡ []) where
  abbrev steps : (t : Thread) (refused : Bool) → List Task → Advance
  steps t refused tasks = step_within scene.unit scene.classes scene.in_use scene.thread scene.shared t refused (Some tasks)

  -- no task is left
  pub nothing_to_do : old.outer.items ≡ [] → Advances false scene old outcome.Impossible scene new
  nothing_to_do none = λ t sees has. ap (steps t false) (left_is old None [] [] idle done none)

  -- what has no object can't have it refused
  pub nothing_to_refuse : Advances true scene old outcome.Impossible scene new
  nothing_to_refuse = λ t sees has.
      ap (steps t true) (left_is old None [] old.outer.items idle done refl)
      ∙ around_refused scene.unit scene.classes scene.in_use scene.thread scene.shared t [] old.outer.items refl

  module _ (os : List Outer) (o : Outer) (outer : old.outer.items ≡ os ++ o ∷ []) (rest : new.rest ≡ o.rest) (rest_of : new.outer.items ≡ os) where
    abbrev todo : List Task
    todo = tasks_after o.rest os

    at_end : tasks_left old ≡ end_view o.end ∷ todo
    at_end = left_is old None [] (os ++ o ∷ []) idle done outer ∙ around_more [] os o

    goes : (tasks : List Task) (t : Thread) → Sees scene t → tasks_left new ≡ tasks → thread.Advances scene.shared (with_tasks t tasks) Quiet ≡ thread.Advances scene.shared (thread_in t (tasks_left new) scene) Quiet
    goes tasks t sees left =
        ap (λ (u : Thread). thread.Advances scene.shared (with_tasks u tasks) Quiet) (same_scene scene t sees)
        ∙ ap (λ (ts : List Task). thread.Advances scene.shared (thread_in t ts scene) Quiet) (sym left)

    left : (p : Option TaskInMemory) → new.task ≡ p → tasks_left new ≡ tasks_from p todo
    left p begun = left_is new p o.rest os begun rest rest_of

    -- after an `if`
    pub if_over : o.end ≡ end.If → new.task ≡ None → Advances false scene old outcome.Ends scene new
    if_over is none = λ t sees has.
        ap (steps t false) (at_end ∙ ap (λ (e : End). end_view e ∷ todo) is)
        ∙ goes todo t sees (left None none)

    -- at a loop's test
    pub turn_over : (line : ℕ) (test : Bor Expr) (body : Bor Block) (u : TaskInMemory) → o.end ≡ end.Turn line test body → new.task ≡ Some u → task_view u ≡ Loop line (expr_tree test.now) (term_of (expr_tree test.now)) (block_tree body.now)
        → Advances false scene old outcome.Stays scene new
    turn_over line test body u is begun begins = λ t sees has.
        ap (steps t false) (at_end ∙ ap (λ (e : End). end_view e ∷ todo) is)
        ∙ ap (λ (v : Task). let ts : List Task = v ∷ todo in thread.Advances scene.shared (with_tasks t ts) Quiet) (sym begins)
        ∙ goes (task_view u ∷ todo) t sees (left (Some u) begun)
