-- The four functions that take weak references make no objects, nor does a return, and where a step makes some, its effect is the same after
-- a clearing.
use Rattle.std.specs.Prelude.{◌≡◌, ◌≢◌, ℕ, Bool, true, false, cond, List, [], ◌∷◌, ◌++◌, map, zip, length, drop, Option, Some, None, refl}
use Rattle.std.specs.List.{AllByRecursion}
use Rattle.std.proofs.Common.{ap, ◌∙◌, inl, inr}
use Rattle.std.proofs.Math.Seq.{drop-length}
use Rattle.std.proofs.lemmas.List.{append-nil}
use Rattle.base.specs.Bytes.{Identifier, lookup}
use Rattle.class_rules.specs.Class.{Classes}
use Rattle.jni.specs.declared.function.JniFunction.{JniFunction}
use Rattle.jni.specs.JniFunction.{parameters_for}
use Rattle.jni.specs.declared.kinds.ParameterKind.{ParameterKind}
use Rattle.jni.specs.declared.kinds.ParameterKind.TheVariants.{FieldID, MethodID, ArrayVariable, BufferVariable, Mode, IsCopy}
use Rattle.syntax.specs.Tree as tree
use Rattle.syntax.specs.Tree.{SourceUnit, AddressOf}
use Rattle.semantics.specs.Answer.{Answer, DeletesGlobal, DeletesWeak, MakesGlobal}
use Rattle.semantics.specs.Answer as answer
use Rattle.semantics.specs.AnswerTable.{call_answer, call_effect}
use Rattle.semantics.specs.CallSight.{sight_of_call}
use Rattle.semantics.specs.Arguments.{Actual, ReferenceActual, look_up, actuals}
use Rattle.semantics.specs.CallEffects.{CallEffect, CallResult, ReferenceResult, Throws, Halts, Leaves, Enters}
use Rattle.semantics.specs.CallStep.{put, put_assigned, received, checked, after_call, trap_of_call}
use Rattle.semantics.specs.Effect.{Effect, Calls, effect_of, goes_on, is_ready, reduce_first, returned_name}
use Rattle.semantics.specs.Heap.{Heap}
use Rattle.semantics.specs.Object.{Object}
use Rattle.semantics.specs.Return.{given_back, resumed_in, return_by}
use Rattle.semantics.specs.Run.{made, made_between}
use Rattle.semantics.specs.Sight.{Sight, seen}
use Rattle.semantics.specs.State.{State, thread_at, in_use, advanced}
use Rattle.semantics.specs.Step.{turn_step, step_of, can_step}
use Rattle.semantics.specs.Task.{Task, Invoke, ReturnValue, Target, Declared, Assigned, Tested, Dropped, Operand, NumberOperand, Given, PassedName}
use Rattle.semantics.specs.Term.{Term, Done, Read}
use Rattle.semantics.specs.Thread.{Caller, Thread, Shared, BuffersInUse, Advance, Advances, NoAdvance, sight_of}
use Rattle.semantics.specs.declared.event.Event.TheVariants.{Quiet, PrintedNumber, Trapped}
use Rattle.semantics.specs.ThreadStep.{next_effect, after_effect, step_within}
use Rattle.semantics.specs.declared.trap.Trap.{Trap}
use Rattle.semantics.specs.declared.value.Value.{Value}
use Rattle.semantics.specs.declared.value.Value.TheVariants.{Int}
use Rattle.semantics.specs.Value.{Outcome, Gives, Traps, Stuck}
use Rattle.semantics.specs.Variable.{Variable, Variables, StaticReference, Statics, as_reference}
use Rattle.semantics.specs.WeakArguments.{takes_weak, NamesNoWeak, WeakAreTaken}
use Rattle.semantics.specs.WeakReferences.{cleared_statics, with_cleared}
use Rattle.semantics.specs.World.{World}
use Rattle.semantics.proofs.AnswerKinds.{LeavesHeap, weak_leaves}
use Rattle.semantics.proofs.ClearedEffects.{HasSameArguments, ReturnsSame, reference_stays, effect_stays}

-- ---- arguments

module _ (names : List ℕ) (vs : Variables) (ss : Statics) (heap : Heap) where
  looked : (p : ParameterKind) (o : Operand) → NamesNoWeak vs ss o → look_up (seen vs (cleared_statics names ss) heap) (p, o) ≡ look_up (seen vs ss heap) (p, o)
  looked p (NumberOperand (Done (Int z))) h = refl
  looked p (NumberOperand e) h = refl
  looked p (PassedName x) h = ap (ReferenceActual x) (reference_stays names vs ss heap x h)
  looked p (Given (tree.Text bytes)) h = refl
  looked p (Given (AddressOf x)) h = refl
  looked FieldID (Given (tree.Value (tree.Variable x))) h = refl
  looked MethodID (Given (tree.Value (tree.Variable x))) h = refl
  looked (ArrayVariable T) (Given (tree.Value (tree.Variable x))) h = refl
  looked (BufferVariable T) (Given (tree.Value (tree.Variable x))) h = refl
  looked Mode (Given (tree.Value (tree.Variable x))) h = refl
  looked IsCopy (Given (tree.Value (tree.Variable x))) h = refl
  looked p (Given (tree.Value (tree.Variable x))) h = ap (ReferenceActual x) (reference_stays names vs ss heap x h)
  looked p (Given (tree.Value e)) h = refl

  -- all arguments are what they were, where none names a weak reference
  pub all_looked : (ps : List ParameterKind) (os : List Operand) → AllByRecursion (NamesNoWeak vs ss) os
      → map (look_up (seen vs (cleared_statics names ss) heap)) (zip ps os) ≡ map (look_up (seen vs ss heap)) (zip ps os)
  all_looked [] os h = refl
  all_looked (p ∷ ps) [] h = refl
  all_looked (p ∷ ps) (o ∷ os) (h, hs) = rw (looked p o h, all_looked ps os hs) refl

-- ---- what makes no object

-- the heap stays
abbrev KeepsHeap : Heap → Advance → Type 0
KeepsHeap heap (Advances s t e) = s.heap ≡ heap
KeepsHeap heap NoAdvance = Unit {0}

-- nothing is made, and the heap stays
abbrev MakesNone : Heap → CallEffect → Type 0
MakesNone heap (Leaves made s t given) = (made ≡ []) × (s.heap ≡ heap)
MakesNone heap (Halts trap) = Unit {0}
MakesNone heap (Enters function arguments) = Unit {0}
MakesNone heap (Throws c) = ⊥

assigned_none : (x : Identifier) (given : CallResult) (s : Shared) (t : Thread) (heap : Heap) (v : Option Variable) → s.heap ≡ heap → KeepsHeap heap (put_assigned x given s t v)
assigned_none x given s t heap None h = h
assigned_none x given s t heap (Some v) h = h

put_none : (target : Target) (given : CallResult) (s : Shared) (t : Thread) (heap : Heap) → s.heap ≡ heap → KeepsHeap heap (put target given s t)
put_none (Declared kind x) given s t heap h = h
put_none (Assigned x) given s t heap h = assigned_none x given s t heap (lookup x t.variables) h
put_none (Tested p q) given s t heap h = h
put_none Dropped given s t heap h = h

module _ (unit : SourceUnit) (classes : Classes) (in_use : BuffersInUse) (k : ℕ) (s : Shared) (t : Thread) where
  answer_none : (args : List Actual) (a : Answer) → LeavesHeap a → MakesNone s.heap (answer.effect_of classes in_use k s t args a)
  unfolding answer.effect_of
  answer_none args (answer.Gives given) h = (refl, refl)
  answer_none args (MakesGlobal r) h = (refl, refl)
  answer_none args (DeletesGlobal i n) h = (refl, refl)
  answer_none args (DeletesWeak i) h = (refl, refl)
  answer_none args (answer.Halts trap) h = tt
  answer_none args a h = absurd h

  call_none : (f : JniFunction) (args : List Actual) → takes_weak f ≡ true → MakesNone s.heap (call_effect unit classes in_use k s t args f)
  call_none f args h =
      answer_none args (call_answer unit classes k (sight_of_call s t f args) f) (weak_leaves unit classes k (sight_of_call s t f args) f h)

  checked_none : (o : Option Trap) (e : CallEffect) → MakesNone s.heap e → MakesNone s.heap (checked o e)
  checked_none None e h = h
  checked_none (Some trap) e h = tt

  after_none : (line : ℕ) (target : Target) (f : JniFunction) (args : List Actual) (rest : List Task) (e : CallEffect)
      → MakesNone s.heap e → KeepsHeap s.heap (after_call unit classes in_use k s t line target f args rest e)
  after_none line target f args rest (Throws c) h = absurd h
  after_none line target f args rest (Halts trap) h = refl
  after_none line target f args rest (Enters function arguments) h = refl
  after_none line target f args rest (Leaves made s' t' given) h =
      put_none target given _ _ s.heap (ap (λ (l : List Object). s'.heap ++ l) h.0 ∙ append-nil s'.heap ∙ h.1)

  gone_none : (line : ℕ) (target : Target) (f : JniFunction) (rest : List Task) (o : Outcome (List Operand))
      → KeepsHeap s.heap (after_effect unit classes in_use k s t rest (goes_on line (Invoke line target f) o))
  gone_none line target f rest (Gives a) = refl
  gone_none line target f rest (Traps trap) = refl
  gone_none line target f rest Stuck = tt

  either_none : (b : Bool) (e e' : Effect) (rest : List Task) → KeepsHeap s.heap (after_effect unit classes in_use k s t rest e) → KeepsHeap s.heap (after_effect unit classes in_use k s t rest e')
      → KeepsHeap s.heap (after_effect unit classes in_use k s t rest (cond b e e'))
  either_none true e e' rest h h' = h
  either_none false e e' rest h h' = h'

  -- a call of one of them leaves the heap as it was
  pub invoke_none : (sight : Sight) (line : ℕ) (target : Target) (f : JniFunction) (operands : List Operand) (rest : List Task) → takes_weak f ≡ true
      → KeepsHeap s.heap (after_effect unit classes in_use k s t rest (effect_of sight (Invoke line target f operands)))
  invoke_none sight line target f operands rest h =
      let args : List Actual = actuals sight f operands in
      either_none (is_ready sight.number operands) (Calls line target f args) (goes_on line (Invoke line target f) (reduce_first sight operands)) rest
      (after_none line target f args rest _ (checked_none (trap_of_call classes s t target f args) _ (call_none f args h)))
      (gone_none line target f rest (reduce_first sight operands))

  -- a return leaves it so
  return_none : (given : CallResult) (callers : List Caller) → KeepsHeap s.heap (return_by k s t given callers)
  return_none given [] = refl
  return_none given (c ∷ callers) =
      let back : CallResult = given_back t.pending c.result given in
      put_none c.target back s (received c.result back (resumed_in t c callers)) s.heap refl

  returned_none : (line : ℕ) (rest : List Task) (o : Outcome Value) (r : StaticReference) → KeepsHeap s.heap (after_effect unit classes in_use k s t rest (returned_name line o r))
  returned_none line rest (Gives v) r = refl
  returned_none line rest (Traps trap) r = return_none (ReferenceResult (as_reference r)) t.callers
  returned_none line rest Stuck r = return_none (ReferenceResult (as_reference r)) t.callers

-- ---- steps

dropped_same : (heap heap' : Heap) → heap' ≡ heap → drop (length heap) heap' ≡ []
dropped_same heap heap' h = ap (drop (length heap)) h ∙ drop-length heap

none_between : (s : State) (k : ℕ) (a : Advance) → KeepsHeap s.shared.heap a → made_between s (advanced s k a) ≡ []
none_between s k NoAdvance h = refl
none_between s k (Advances s' t Quiet) h = dropped_same s.shared.heap s'.heap h
none_between s k (Advances s' t (PrintedNumber z)) h = dropped_same s.shared.heap s'.heap h
none_between s k (Advances s' t (Trapped trap line)) h = dropped_same s.shared.heap s'.heap h

none_either : (s : State) (b : Bool) (o : Option State) → made_between s o ≡ [] → made_between s (cond b o None) ≡ []
none_either s true o h = h
none_either s false o h = refl

module _ (unit : SourceUnit) (w : World) (s : State) (names : List ℕ) (k : ℕ) (t : Thread) (rest : List Task) (here : thread_at s k ≡ Some t) where
  -- a first task that leaves the heap as it was makes no object
  within_none : (task : Task) → t.tasks ≡ Some (task ∷ rest)
      → KeepsHeap s.shared.heap (step_within unit w.classes (in_use s) k s.shared t false (Some (task ∷ rest))) → made unit w s k ≡ []
  unfolding turn_step
  within_none task tasks keeps =
      let within : made_between s (advanced s k (step_within unit w.classes (in_use s) k s.shared t false (Some (task ∷ rest)))) ≡ [] = none_between s k _ keeps in
      let step : made_between s (step_of unit w.classes s k false (thread_at s k)) ≡ [] =
      ap (λ o. made_between s (step_of unit w.classes s k false o)) here
      ∙ ap (λ o. made_between s (advanced s k (step_within unit w.classes (in_use s) k s.shared t false o))) tasks ∙ within in
      none_either s (can_step w.classes s k) (step_of unit w.classes s k false (thread_at s k)) step

  -- a call of one of them makes no object
  pub invoke_makes_none : (line : ℕ) (target : Target) (f : JniFunction) (operands : List Operand) → t.tasks ≡ Some (Invoke line target f operands ∷ rest)
      → takes_weak f ≡ true → made unit w s k ≡ []
  invoke_makes_none line target f operands tasks takes =
      within_none (Invoke line target f operands) tasks (invoke_none unit w.classes (in_use s) k s.shared t (sight_of s.shared t) line target f operands rest takes)

  -- nor does the return of a bare name
  pub return_makes_none : (line : ℕ) (x : Identifier) → t.tasks ≡ Some (ReturnValue line (Read x) ∷ rest) → made unit w s k ≡ []
  return_makes_none line x tasks =
      let sight : Sight = sight_of s.shared t in
      within_none (ReturnValue line (Read x)) tasks (returned_none unit w.classes (in_use s) k s.shared t line rest (sight.number x) (sight.reference x))

  same_result : (line : ℕ) (e : Term) → t.tasks ≡ Some (ReturnValue line e ∷ rest) → made unit w s k ≢ []
      → ReturnsSame (sight_of (with_cleared names s).shared t) (sight_of s.shared t) e
  same_result line (Read x) tasks some = absurd (some (return_makes_none line x tasks))
  same_result line e tasks some = tt

  same_arguments : (task : Task) → t.tasks ≡ Some (task ∷ rest) → WeakAreTaken t.variables s.shared.statics task → made unit w s k ≢ []
      → HasSameArguments (sight_of (with_cleared names s).shared t) (sight_of s.shared t) task
  same_arguments (Invoke line target f operands) tasks (inl takes) some = absurd (some (invoke_makes_none line target f operands tasks takes))
  same_arguments (Invoke line target f operands) tasks (inr free) some = all_looked names t.variables s.shared.statics s.shared.heap (parameters_for f (length operands)) operands free
  same_arguments (ReturnValue line e) tasks h some = same_result line e tasks some
  same_arguments task tasks h some = tt

  -- where the thread's next step makes objects, it has the same effect after a clearing
  pub makes_same : (task : Task) → t.tasks ≡ Some (task ∷ rest) → WeakAreTaken t.variables s.shared.statics task → made unit w s k ≢ []
      → next_effect (with_cleared names s).shared t (Some (task ∷ rest)) ≡ next_effect s.shared t (Some (task ∷ rest))
  makes_same task tasks h some = effect_stays names t.variables s.shared.statics s.shared.heap task (same_arguments task tasks h some)
