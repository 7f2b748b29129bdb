-- Calls that take their step at once.
use Rattle.std.proofs.Common.{◌≡◌, ◌-◌, ℕ, suc, Bool, true, false, List, [], ◌∷◌, ◌++◌, length, map, Option, Some, refl, sym, ap, ◌∙◌, append-nil, arith}
use Rattle.std.specs.Prelude.{◌&&◌, if◌then◌else◌, replicate, zip}
use Rattle.std.specs.List.{list_all}
use Rattle.jni.specs.declared.function.JniFunction.{JniFunction}
use Rattle.jni.specs.declared.kinds.ParameterKind.{ParameterKind}
use Rattle.jni.specs.declared.kinds.ParameterKind.TheVariants.{Passed}
use Rattle.jni.specs.JniFunction.{calls_method, parameters_for, prototype}
use Rattle.syntax.specs.Views.{unit_tree}
use Rattle.semantics.specs.Arguments.{Actual, actuals, look_up}
use Rattle.semantics.specs.Effect.{is_given, is_ready}
use Rattle.semantics.specs.Sight.{Sight}
use Rattle.semantics.specs.Task.{Operand, Task}
use Rattle.semantics.specs.Thread.{Advances, Shared}
use Rattle.semantics.specs.declared.event.Event.TheVariants.{Quiet}
use Rattle.semantics.specs.ThreadStep.{after_effect, step_within}
use Rattle.semantics.specs.declared.object_id.ObjectId.{ObjectId}
use Rattle.replay_arguments.specs.Actuals.{IsReadyAt}
use Rattle.replay_arguments.specs.Shares.{sight_in}
use Rattle.replay_arguments.specs.declared.scene.Locals.{Locals}
use Rattle.replay_arguments.specs.declared.scene.Turn.{Turn}
use Rattle.replay_steps.specs.declared.activation.Activation.{Activation}
use Rattle.replay_steps.specs.declared.activation.Work.{Work}
use Rattle.replay_steps.specs.Activations.{tasks_after, tasks_from, tasks_left, thread_in}
use Rattle.replay_steps.specs.AtOnce.{AttemptsInvocation, MakesAtOnce, TriesInvocation, scene_in}
use Rattle.replay_steps.specs.Steps.{Scene}
use Rattle.replay_steps.proofs.Invocations.{calls}
use Rattle.replay_tasks.specs.declared.task.Invocation.{Invocation}
use Rattle.replay_tasks.specs.declared.task.Task.{Task as TaskInMemory}
use Rattle.replay_tasks.specs.declared.task.Task.TheVariants as task
use Rattle.replay_terms.specs.Views.{operands_view}

-- ---- arguments that are looked up one by one

module _ (sight : Sight) where
  -- these are the arguments from a place on
  abbrev pub AreReady : List ParameterKind → List Operand → List Actual → (place : ℕ) → Type 0
  AreReady ps os [] place = Unit {0}
  AreReady ps os (a ∷ args) place = IsReadyAt sight ps os place a × AreReady ps os args (suc place)

  -- all arguments are these, and each number is worked out
  abbrev AreFound : List ParameterKind → List Operand → List Actual → Type 0
  AreFound ps os args = (args ≡ map (look_up sight) (zip ps os)) × (list_all (is_given sight.number) os ≡ true)

  same_some : {A : Type 0} (x y : A) → Option.Some x ≡ Option.Some y → x ≡ y
  same_some x y same = cc

  first_found : (p : ParameterKind) (ps : List ParameterKind) (o : Operand) (os : List Operand) (a : Actual) (args : List Actual) → IsReadyAt sight (p ∷ ps) (o ∷ os) 0 a → AreFound ps os args → AreFound (p ∷ ps) (o ∷ os) (a ∷ args)
  first_found p ps o os a args h more =
      let same_p : h.parameter ≡ p = sym (same_some p h.parameter h.asks) in
      let same_o : h.operand ≡ o = sym (same_some o h.operand h.there) in
      let found : a ≡ look_up sight (p, o) = h.is ∙ ap (λ (q : ParameterKind). look_up sight (q, h.operand)) same_p ∙ ap (λ (r : Operand). look_up sight (p, r)) same_o in
      let given : is_given sight.number o ≡ true = ap (is_given sight.number) (sym same_o) ∙ h.ready in (
        ap (λ (b : Actual). b ∷ args) found ∙ ap (λ (l : List Actual). look_up sight (p, o) ∷ l) more.0,
        ap (λ (b : Bool). b && list_all (is_given sight.number) os) given ∙ more.1,
      )

  shifted : (p : ParameterKind) (ps : List ParameterKind) (o : Operand) (os : List Operand) (args : List Actual) (place : ℕ) → AreReady (p ∷ ps) (o ∷ os) args (suc place) → AreReady ps os args place
  shifted p ps o os [] place h = tt
  shifted p ps o os (a ∷ args) place h = (
    record { parameter = h.0.parameter; asks = h.0.asks; operand = h.0.operand; there = h.0.there; ready = h.0.ready; is = h.0.is },
    shifted p ps o os args (suc place) h.1,
  )

  all_found : (ps : List ParameterKind) (os : List Operand) (args : List Actual) → length ps ≡ length args → length os ≡ length args → AreReady ps os args 0 → AreFound ps os args
  all_found [] [] [] few as_few h = (refl, refl)
  all_found (p ∷ ps) (o ∷ os) (a ∷ args) few as_few h = first_found p ps o os a args h.0 (all_found ps os args (omega (arith, few)) (omega (arith, as_few)) (shifted p ps o os args 0 h.1))
  all_found [] os (a ∷ args) few as_few h = absurd (omega (arith, few))
  all_found (p ∷ ps) os [] few as_few h = absurd (omega (arith, few))
  all_found ps [] (a ∷ args) few as_few h = absurd (omega (arith, as_few))
  all_found ps (o ∷ os) [] few as_few h = absurd (omega (arith, as_few))

  -- of a function that passes none to a method they are the call's
  own_parameters : (f : JniFunction) (n : ℕ) → calls_method f ≡ false → parameters_for f n ≡ (prototype f).parameters
  own_parameters f n plain =
      ap (λ (b : Bool). (prototype f).parameters ++ (if b then replicate (n - length (prototype f).parameters) Passed else [])) plain
      ∙ append-nil (prototype f).parameters

  pub are_actuals : (f : JniFunction) (ps : List ParameterKind) (os : List Operand) (args : List Actual) → calls_method f ≡ false → ps ≡ (prototype f).parameters → length ps ≡ length args → length os ≡ length args → AreReady ps os args 0
      → (args ≡ actuals sight f os) × (is_ready sight.number os ≡ true)
  are_actuals f ps os args plain own few as_few h =
      let found = all_found ps os args few as_few h in (
        found.0 ∙ ap (λ (l : List ParameterKind). map (look_up sight) (zip l os)) (own ∙ sym (own_parameters f (length os) plain)),
        found.1,
      )

-- ---- the step of a call

module _ (turn : Turn) (i : Invocation) (s : Shared) (locals : Locals) (pending : Option ObjectId) (s' : Shared) (locals' : Locals) (pending' : Option ObjectId) where
  abbrev sight : Sight
  sight = sight_in s locals.variables

  -- a call that is made is the step of its task
  pub tried : (args : List Actual) (took : Bool) → (args ≡ actuals sight i.function (operands_view i.operands)) × (is_ready sight.number (operands_view i.operands) ≡ true)
      → MakesAtOnce turn i args took s locals pending s' locals' pending' → TriesInvocation turn i took s locals pending s' locals' pending'
  tried args true found makes = λ in_use t rest sees has.
      let scene : Scene = scene_in in_use turn s locals pending in
      ap (after_effect (unit_tree turn.unit.now) turn.classes.now in_use turn.thread s t rest) (calls scene i i scene refl found.1 args found.0 t sees)
      ∙ makes in_use t rest sees has found.0
  tried args false found same = same

  pub all_tried : (ps : List ParameterKind) (args : List Actual) (took : Bool) → calls_method i.function ≡ false → ps ≡ (prototype i.function).parameters → length ps ≡ length args → length (operands_view i.operands) ≡ length args
      → AreReady sight ps (operands_view i.operands) args 0 → MakesAtOnce turn i args took s locals pending s' locals' pending' → TriesInvocation turn i took s locals pending s' locals' pending'
  all_tried ps args took plain own few as_few h makes = tried args took (are_actuals sight i.function ps (operands_view i.operands) args plain own few as_few h) makes

-- ---- the call goes on

-- it is over, and what comes next is begun
pub at_once_over : (turn : Turn) (s s' : Shared) (old : Activation) (pending pending' : Option ObjectId) (i : Invocation) (locals' : Locals) (begun : Work) → old.work.task ≡ Some (task.Invoke i) → TriesInvocation turn i true s old.locals pending s' locals' pending'
    → tasks_left begun ≡ tasks_after old.work.rest old.work.outer.items → AttemptsInvocation turn s old pending true s' (record old { work = begun; locals = locals' }) pending'
at_once_over turn s s' old pending pending' i locals' begun is took left = λ in_use t sees has.
    let rest : List Task = tasks_after old.work.rest old.work.outer.items in
    let after : Scene = scene_in in_use turn s' locals' pending' in
    let first = ap (λ (o : Option TaskInMemory). tasks_from o rest) is in
    ap (λ (ts : List Task). step_within (unit_tree turn.unit.now) turn.classes.now in_use turn.thread s t false (Some ts)) first
    ∙ took in_use t rest sees (has ∙ ap (λ (ts : List Task). let o : Option (List Task) = Some ts in o) first)
    ∙ ap (λ (ts : List Task). Advances s' (thread_in t ts after) Quiet) (sym left)

-- or all is as it was
pub at_once_left : (turn : Turn) (s s' : Shared) (old : Activation) (pending pending' : Option ObjectId) (i : Invocation) (locals' : Locals) → TriesInvocation turn i false s old.locals pending s' locals' pending'
    → AttemptsInvocation turn s old pending false s' (record old { locals = locals' }) pending'
at_once_left turn s s' old pending pending' i locals' same =
    (same.0, ap (λ (l : Locals). let a : Activation = record old { locals = l } in a) same.1, same.2)
