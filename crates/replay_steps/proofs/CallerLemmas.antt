-- A call that goes on in memory is a return into the caller that it stands for.
use Rattle.std.proofs.Common.{◌≡◌, ◌+◌, ℕ, List, [], ◌∷◌, Option, Some, None, nat_le, refl, sym, ap, ◌∙◌, subst, length}
use Rattle.std.specs.Prelude.{if◌then◌else◌}
use Rattle.base.specs.Bytes.{Identifier}
use Rattle.base.specs.Limits.{most_activations}
use Rattle.syntax.specs.declared.stmt.Stmt.{Stmt}
use Rattle.jni.specs.JniFunction.{prototype}
use Rattle.jni.specs.declared.kinds.ResultKind.{ResultKind}
use Rattle.semantics.specs.CallEffects.{CallResult}
use Rattle.semantics.specs.CallStep.{put, received}
use Rattle.semantics.specs.Heap.{Heap}
use Rattle.semantics.specs.Object.{ObjectValue, Reference}
use Rattle.semantics.specs.Return.{given_back, return_into, resumed_in}
use Rattle.semantics.specs.Sight.{seen}
use Rattle.semantics.specs.Task.{Target, Task, SetScalar, SetElement, SetNull, MakeArray, Invoke, Print, Branch, EndIf, Loop, EndTurn, Return, ReturnValue, Impossible}
use Rattle.semantics.specs.declared.event.Event.TheVariants.{Quiet, Trapped}
use Rattle.semantics.specs.Thread.{Advance, Advances, Caller, Frame, NoAdvance, Shared, Thread}
use Rattle.semantics.specs.declared.trap.Trap.TheVariants.{CallsTooDeep}
use Rattle.semantics.specs.Variable.{Statics, Variables}
use Rattle.replay_calls.specs.Answers.{frames_with}
use Rattle.replay_arguments.specs.Shares.{sight_in}
use Rattle.replay_steps.specs.Activations.{IsAtStatement, tasks_after, tasks_around, tasks_from, tasks_left}
use Rattle.replay_steps.specs.Callers.{CallStands, CallsFrom, IsCall, MakesCaller, Resumes, thread_at}
use Rattle.replay_steps.specs.Steps.{calling_by, values_passed, waiting}
use Rattle.replay_steps.specs.declared.activation.Activation.{Activation}
use Rattle.replay_steps.specs.declared.activation.Outer.{Outer}
use Rattle.replay_steps.proofs.WaitLemmas.{BeginsPlain, around-plain}
use Rattle.replay_steps.proofs.ThreadLocals.{in_locals, in_received}
use Rattle.replay_tasks.specs.Outcomes.{LeavesVariables, purpose_view}
use Rattle.replay_tasks.specs.declared.task.Invocation.{Invocation}
use Rattle.replay_tasks.specs.declared.task.Task.{Task as TaskInMemory}
use Rattle.replay_tasks.specs.declared.task.Task.TheVariants as task
use Rattle.replay_terms.specs.declared.given.Given.{Given}
use Rattle.replay_terms.specs.Views.{given_view, operands_view, variables_view}

-- the result is put where the call in memory wants it, and into its frame
module _ (s : Shared) (pending : Reference) (given : CallResult) (old new : Activation) (i : Invocation) (is : old.work.task ≡ Some (task.Invoke i)) (g : Given) (kind : ResultKind) (fs : List Frame) (statics : Statics) where
  abbrev target : Target
  target = purpose_view i.line i.purpose

  abbrev result : CallResult
  result = given_view g

  pub resumes : kind ≡ (prototype i.function).result → result ≡ given_back pending kind given → fs ≡ frames_with kind result old.locals.frames
      → ((line : ℕ) (heap : Heap) → LeavesVariables (length fs) s.statics heap old.locals.variables (put (purpose_view line i.purpose) result) statics heap new.locals.variables)
      → new.locals.frames ≡ fs → tasks_left new.work ≡ tasks_after old.work.rest old.work.outer.items
      → Resumes s pending given old (record s { statics = statics }) new
  resumes kind_is given_is frames_are leaves framed left = λ t c callers there stands.
      let call = subst (λ (o : Option TaskInMemory). CallStands o c) is stands.call in
      let wants : c.result ≡ kind = call.1 ∙ sym kind_is in
      let gives : given_back pending c.result given ≡ result = ap (λ (k : ResultKind). given_back pending k given) wants ∙ sym given_is in
      let waiting : Thread = record t { callers = callers; tasks = Some c.tasks } in
      let same_frames : frames_with kind result c.frames ≡ fs = ap (frames_with kind result) stands.frames ∙ sym frames_are in
      let entered : Thread = in_locals waiting c.variables (frames_with kind result c.frames) t.pending in
      let after : Shared = record s { statics = statics } in
      ap (λ (r : CallResult). return_into s t r c callers) gives
      ∙ ap (λ (to : Target). put to result s (received c.result result (resumed_in t c callers))) call.0
      ∙ ap (λ (k : ResultKind). put target result s (received k result (resumed_in t c callers))) wants
      ∙ ap (put target result s) (in_received kind g waiting c.variables c.frames t.pending)
      ∙ leaves i.line s.heap s entered (record { variables = stands.variables; frames = ap (λ (l : List Frame). length l) same_frames; statics = refl; heap = refl })
      ∙ ap (λ (l : List Frame). let u : Thread = record entered { variables = variables_view new.locals.variables; frames = l } in Advances after u Quiet) (same_frames ∙ sym framed)
      ∙ ap (λ (ts : List Task). let u : Thread = record (thread_at t callers new) { tasks = Some ts } in Advances after u Quiet) (stands.tasks ∙ sym left)

-- ---- a call that makes another

module _ (s : Shared) (t : Thread) (line : ℕ) (x : Identifier) where
  plain_none : (tasks : List Task) → BeginsPlain tasks → calling_by s t line x (Some tasks) ≡ NoAdvance
  plain_none [] h = refl
  plain_none (SetScalar at y e ∷ rest) h = refl
  plain_none (SetElement at y i e ∷ rest) h = refl
  plain_none (SetNull to ∷ rest) h = refl
  plain_none (MakeArray T y n ∷ rest) h = refl
  plain_none (Invoke at to f operands ∷ rest) h = absurd h
  plain_none (Print at e ∷ rest) h = refl
  plain_none (Branch at e then' else' ∷ rest) h = refl
  plain_none (EndIf ∷ rest) h = refl
  plain_none (Loop at test e body ∷ rest) h = refl
  plain_none (EndTurn at test body ∷ rest) h = refl
  plain_none (Return ∷ rest) h = refl
  plain_none (ReturnValue at e ∷ rest) h = refl
  plain_none (Impossible ∷ rest) h = refl

  by_task : (o : Option TaskInMemory) (rest : List Stmt) (os : List Outer) → (o ≡ None → rest ≡ []) → ((i : Invocation) → o ≡ Some (task.Invoke i) → ⊥)
      → calling_by s t line x (Some (tasks_from o (tasks_after rest os))) ≡ NoAdvance
  by_task None rest os next none =
      ap (λ (l : List Stmt). calling_by s t line x (Some (tasks_after l os))) (next refl)
      ∙ plain_none (tasks_around [] os) (around-plain [] os tt)
  by_task (Some (task.Print e)) rest os next none = refl
  by_task (Some (task.Set a)) rest os next none = refl
  by_task (Some (task.SetElement a)) rest os next none = refl
  by_task (Some (task.SetNull to)) rest os next none = refl
  by_task (Some (task.MakeArray T y n)) rest os next none = refl
  by_task (Some (task.Invoke i)) rest os next none = absurd (none i refl)
  by_task (Some (task.Branch c)) rest os next none = refl
  by_task (Some (task.Loop i)) rest os next none = refl
  by_task (Some task.Return) rest os next none = refl
  by_task (Some (task.ReturnValue e)) rest os next none = refl

-- a call whose task is none makes none
pub none_called : (s : Shared) (a : Activation) (line : ℕ) (x : Identifier) → IsAtStatement a.work → ((i : Invocation) → a.work.task ≡ Some (task.Invoke i) → ⊥) → MakesCaller s a line x None
none_called s a line x at none = λ t. by_task s t line x a.work.task a.work.rest a.work.outer.items at.next none

-- another makes the one that it asks for
module _ (s : Shared) (a : Activation) (line : ℕ) (x : Identifier) (i : Invocation) (is : a.work.task ≡ Some (task.Invoke i)) (at : IsAtStatement a.work) (passed : List ObjectValue)
    (given : passed ≡ values_passed (sight_in s a.locals.variables) i.function (operands_view i.operands)) where
  abbrev waits : Caller
  waits = record {
    target = purpose_view i.line i.purpose;
    result = (prototype i.function).result;
    tasks = tasks_after a.work.rest a.work.outer.items;
    variables = variables_view a.locals.variables;
    frames = a.locals.frames;
  }

  -- the thread waits as a caller with these variables and frames, for a call that is given this
  abbrev waits_with : Thread → Variables → List Frame → List ObjectValue → Advance
  waits_with t vs fs values =
      if nat_le most_activations (length t.callers + 1) then Advances s t (Trapped CallsTooDeep line)
      else Advances s (waiting t (record waits { variables = vs; frames = fs }) (record { line = line; function = x; arguments = values })) Quiet

  pub calls_from : CallsFrom s a line x (record { line = line; function = x; arguments = passed })
  calls_from = record {
    calling = record { call = subst IsCall (sym is) tt; range = at.range };
    caller = waits;
    stands = record { call = subst (λ (o : Option TaskInMemory). CallStands o waits) (sym is) (refl, refl); tasks = refl; variables = refl; frames = refl };
    calls = λ t held framed.
        ap (λ (o : Option TaskInMemory). calling_by s t line x (Some (tasks_from o (tasks_after a.work.rest a.work.outer.items)))) is
        ∙ ap (λ (vs : Variables). waits_with t vs t.frames (values_passed (seen vs s.statics s.heap) i.function (operands_view i.operands))) held
        ∙ ap (λ (fs : List Frame). waits_with t (variables_view a.locals.variables) fs (values_passed (sight_in s a.locals.variables) i.function (operands_view i.operands))) framed
        ∙ ap (waits_with t (variables_view a.locals.variables) a.locals.frames) (sym given);
  }
