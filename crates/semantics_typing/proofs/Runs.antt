-- Objects are typed after each journal, and each step leaves what they are made of.
use Rattle.std.proofs.Common.{◌≡◌, ℕ, zero, suc, Bool, true, false, List, [], ◌∷◌, ◌++◌, map, Option, Some, None, refl, sym, ap, ◌∙◌, subst, arith, if◌then◌else◌}
use Rattle.std.specs.List.{AllByRecursion, list_all}
use Rattle.std.specs.Option.{option_and_then, option_map_or}
use Rattle.std.proofs.lemmas.Option.{slice_get_within}
use Rattle.class_rules.specs.BuiltIns.{no_such_method_error}
use Rattle.class_rules.specs.Class.{Plain, Class, Classes, class_kind}
use Rattle.class_rules.specs.Grown.{HasMethodError}
use Rattle.class_rules.specs.Mangling.{IsInverse}
use Rattle.jni.specs.declared.function.JniFunction.TheVariants.{GetStaticMethodID}
use Rattle.syntax.specs.Tree.{SourceUnit}
use Rattle.region_rules.specs.Regions.{HasRegions}
use Rattle.type_rules.specs.TypeRules.{IsWellTyped}
use Rattle.semantics.specs.Arguments.{Actual}
use Rattle.semantics.specs.Effect.{Calls, effect_of}
use Rattle.semantics.specs.Heap.{Heap}
use Rattle.semantics.specs.Journal.{Entry, Step, Clearing, Journal}
use Rattle.semantics.specs.Load.{Loads}
use Rattle.semantics.specs.Run.{replay, replay_from}
use Rattle.semantics.specs.Sight.{Sight}
use Rattle.semantics.specs.Start.{waiting_thread, start}
use Rattle.semantics.specs.State.{State, thread_at, set_thread, in_use, with_event, advanced}
use Rattle.semantics.specs.Step.{can_step, step_of, turn_step, clearing_step, world_step}
use Rattle.semantics.specs.Task.{Task, Target}
use Rattle.semantics.specs.Thread.{Caller, Thread, Shared, Advance, Advances, NoAdvance, sight_of}
use Rattle.semantics.specs.declared.event.Event.{Event}
use Rattle.semantics.specs.declared.event.Event.TheVariants.{Quiet, PrintedNumber, Trapped}
use Rattle.semantics.specs.ThreadStep.{next_effect, thread_step}
use Rattle.semantics.specs.WeakReferences.{may_clear, with_cleared}
use Rattle.semantics.specs.World.{Invocation, World}
use Rattle.semantics.specs.Variable.{Variables}
use Rattle.semantics_safety.proofs.CallersKept.{LeavesCallers, callers_left}
use Rattle.semantics.proofs.RunLaws.{replay_more}
use Rattle.semantics_safety.specs.Owners.{owners_after}
use Rattle.semantics_safety.specs.StepSafe.{has_calls, HasCalls}
use Rattle.semantics_safety.specs.WeakNames.{weak_names}
use Rattle.semantics_safety.proofs.FunctionGives.{unit_is_sound}
use Rattle.world_values.specs.SoundWorlds.{has_call, IsSound}
use Rattle.semantics_typing.specs.Law.{RunsTyped, AcceptedIsTyped}
use Rattle.semantics_typing.specs.Objects.{AreTypedVariables, IsTyped, IsTypedThread, ShapesStay}
use Rattle.semantics_typing.specs.Texts.{HasTexts}
use Rattle.semantics_typing.proofs.Heaps.{variables_later}
use Rattle.semantics_typing.proofs.Lists.{all_get, all_set, all_later}
use Rattle.semantics_typing.proofs.Loads.{loaded_typed}
use Rattle.semantics_typing.proofs.Results.{AdvanceFits}
use Rattle.semantics_typing.proofs.Steps.{CallerFits, step_fits}
use Rattle.semantics_typing.proofs.TableKinds.{IsMakeable}
use Rattle.semantics_typing.proofs.TaskTexts.{UnitFits, TaskHasTexts, HaveTexts, TasksHaveTexts, EffectHasTexts, unit_fits, effect_texts}

-- ---- a state

-- two that hold of each element hold together
all_both : {A : Type 0} (P Q : A → Type 0) (xs : List A) → AllByRecursion P xs → AllByRecursion Q xs → AllByRecursion (λ x. P x × Q x) xs
all_both P Q [] h g = tt
all_both P Q (x ∷ xs) h g = ((h.0, g.0), all_both P Q xs h.1 g.1)

-- what holds of a state
record IsRunning (methods : Bool) (classes : Classes) (s : State) : Type 0 where
  typed : IsTyped classes s
  texts : AllByRecursion (λ (t : Thread). TasksHaveTexts methods t.tasks) s.threads
  below : AllByRecursion (λ (t : Thread). AllByRecursion (λ (c : Caller). HaveTexts methods c.tasks) t.callers) s.threads

thread_in : (P : Thread → Type 0) (s : State) (k : ℕ) (t : Thread) → AllByRecursion P s.threads → thread_at s k ≡ Some t → P t
thread_in P s zero t h e = absurd (cc)
thread_in P s (suc i) t h e = all_get P s.threads i t h e

thread_set : (P : Thread → Type 0) (ts : List Thread) (k : ℕ) (t : Thread) → AllByRecursion P ts → P t → AllByRecursion P (set_thread ts k t)
thread_set P ts zero t h new = h
thread_set P ts (suc i) t h new = all_set P ts i t h new

event_running : (methods : Bool) (classes : Classes) (s : State) (k : ℕ) (event : Event) → IsRunning methods classes s → IsRunning methods classes (with_event s k event)
event_running methods classes s k Quiet h = h
event_running methods classes s k (PrintedNumber z) h = record { typed = record { heap = h.typed.heap; variables = h.typed.variables }; texts = h.texts; below = h.below }
event_running methods classes s k (Trapped trap line) h = record { typed = record { heap = h.typed.heap; variables = h.typed.variables }; texts = h.texts; below = h.below }

event_heap : (s : State) (k : ℕ) (event : Event) → (with_event s k event).shared.heap ≡ s.shared.heap
event_heap s k Quiet = refl
event_heap s k (PrintedNumber z) = refl
event_heap s k (Trapped trap line) = refl

-- a state after another
record IsNext (methods : Bool) (classes : Classes) (s next : State) : Type 0 where
  running : IsRunning methods classes next
  shapes : ShapesStay s.shared.heap next.shared.heap

advance_next : (methods : Bool) (classes : Classes) (s : State) (k : ℕ) (e : Advance) (next : State) → IsRunning methods classes s → AdvanceFits methods classes s.shared.heap e → LeavesCallers (CallerFits methods classes s.shared.heap) e → advanced s k e ≡ Some next → IsNext methods classes s next
advance_next methods classes s k NoAdvance next h g below e = absurd (cc)
advance_next methods classes s k (Advances shared t event) next h g below e =
    let there : State = record s { shared = shared; threads = set_thread s.threads k t } in
    let same : with_event (record s { shared = shared; threads = set_thread s.threads k t }) k event ≡ next = cc in
    let later : (vs : Variables) → AreTypedVariables classes s.shared.heap vs → AreTypedVariables classes shared.heap vs = λ vs v. variables_later classes s.shared.heap shared.heap g.0.stay vs v in
    let callers_later : (callers : List Caller) → AllByRecursion (λ (c : Caller). AreTypedVariables classes s.shared.heap c.variables) callers → AllByRecursion (λ (c : Caller). AreTypedVariables classes shared.heap c.variables) callers =
    λ callers all. all_later (λ (c : Caller). AreTypedVariables classes s.shared.heap c.variables) (λ (c : Caller). AreTypedVariables classes shared.heap c.variables) callers (λ c v. later c.variables v) all in
    let typed : AllByRecursion (IsTypedThread classes shared.heap) s.threads =
    all_later (IsTypedThread classes s.shared.heap) (IsTypedThread classes shared.heap) s.threads (λ u v. (later u.variables v.0, callers_later u.callers v.1)) h.typed.variables in
    let own_callers : AllByRecursion (λ (c : Caller). AreTypedVariables classes shared.heap c.variables) t.callers =
    all_later (CallerFits methods classes s.shared.heap) (λ (c : Caller). AreTypedVariables classes shared.heap c.variables) t.callers (λ c v. later c.variables v.0) below in
    let own_texts : AllByRecursion (λ (c : Caller). HaveTexts methods c.tasks) t.callers = all_later (CallerFits methods classes s.shared.heap) (λ (c : Caller). HaveTexts methods c.tasks) t.callers (λ c v. v.1) below in
    subst (IsNext methods classes s) same (record {
      running = event_running methods classes (record s { shared = shared; threads = set_thread s.threads k t }) k event (record {
        typed = record { heap = g.0.typed; variables = thread_set (IsTypedThread classes shared.heap) s.threads k t typed (g.1, own_callers) };
        texts = thread_set (λ (t : Thread). TasksHaveTexts methods t.tasks) s.threads k t h.texts g.2;
        below = thread_set (λ (t : Thread). AllByRecursion (λ (c : Caller). HaveTexts methods c.tasks) t.callers) s.threads k t h.below own_texts;
      });
      shapes = subst (ShapesStay s.shared.heap) (sym (event_heap (record s { shared = shared; threads = set_thread s.threads k t }) k event)) g.0.stay;
    })

-- ---- a world

-- objects of the class of the exception can be made
method_error : (classes : Classes) → HasMethodError classes → IsMakeable classes no_such_method_error
method_error classes h =
    let kind : class_kind classes no_such_method_error ≡ Plain = ap (λ (o : Option Class). option_map_or (λ (d : Class). d.kind) o Plain) h.there ∙ h.kind in
    record { low = omega arith; high = slice_get_within classes 42 h.class h.there; making = rw kind refl }

pub calls_there : (threads : List (List Invocation)) → list_all has_call threads ≡ true → list_all has_calls threads ≡ true
calls_there [] h = refl
calls_there ([] ∷ threads) h = absurd (cc)
calls_there ((call ∷ calls) ∷ threads) h = calls_there threads h

module _ (unit : SourceUnit) (w : World) (well_typed : IsWellTyped unit) (regions : HasRegions unit) (all : HasTexts unit) (loads : Loads unit w) (sound : IsSound w) (inverse : IsInverse) where
  has : HasCalls w
  has = calls_there w.threads sound.calls

  fits : UnitFits w.methods unit
  fits = unit_fits unit w all loads.0

  -- the class of the exception that GetStaticMethodID throws
  error : w.methods ≡ true → IsMakeable w.classes no_such_method_error
  error e = method_error w.classes (sound.methods e)

  waiting_variables : (threads : List (List Invocation)) (heap : Heap) → AllByRecursion (IsTypedThread w.classes heap) (map waiting_thread threads)
  waiting_variables [] heap = tt
  waiting_variables (calls ∷ threads) heap = ((tt, tt), waiting_variables threads heap)

  waiting_texts : (threads : List (List Invocation)) → AllByRecursion (λ (t : Thread). TasksHaveTexts w.methods t.tasks) (map waiting_thread threads)
  waiting_texts [] = tt
  waiting_texts (calls ∷ threads) = (tt, waiting_texts threads)

  waiting_below : (threads : List (List Invocation)) → AllByRecursion (λ (t : Thread). AllByRecursion (λ (c : Caller). HaveTexts w.methods c.tasks) t.callers) (map waiting_thread threads)
  waiting_below [] = tt
  waiting_below (calls ∷ threads) = (tt, waiting_below threads)

  start_running : IsRunning w.methods w.classes (start unit w)
  start_running = record { typed = record { heap = loaded_typed w sound; variables = waiting_variables w.threads (start unit w).shared.heap }; texts = waiting_texts w.threads; below = waiting_below w.threads }

  -- ---- a step

  module _ (journal : Journal) (s : State) (replayed : replay unit w journal ≡ Some s) (h : IsRunning w.methods w.classes s) (k : ℕ) (refused : Bool) (next : State) where
    thread_next : (o : Option Thread) → thread_at s k ≡ o → step_of unit w.classes s k refused o ≡ Some next → IsNext w.methods w.classes s next
    thread_next None there e = absurd (cc)
    thread_next (Some t) there e =
        let stands = unit_is_sound inverse unit w well_typed regions loads has journal s k t replayed there in
        let typed = thread_in (IsTypedThread w.classes s.shared.heap) s k t h.typed.variables there in
        let texts = thread_in (λ (t : Thread). AllByRecursion (λ (c : Caller). HaveTexts w.methods c.tasks) t.callers) s k t h.below there in
        let below = all_both (λ (c : Caller). AreTypedVariables w.classes s.shared.heap c.variables) (λ (c : Caller). HaveTexts w.methods c.tasks) t.callers typed.1 texts in
        let own = thread_in (λ (t : Thread). TasksHaveTexts w.methods t.tasks) s k t h.texts there in
        advance_next w.methods w.classes s k (thread_step unit w.classes (in_use s) k s.shared t refused) next h
        (step_fits w.methods unit w.classes sound.declares sound.grown error (in_use s) k s.shared t h.typed.heap
        typed.0
        own below fits (weak_names unit) (owners_after unit w journal k).current
        stands.goes refused)
        (callers_left (CallerFits w.methods w.classes s.shared.heap) unit w.classes (in_use s) k s.shared t below
        (λ task rest line target f args at is method. (typed.0, (subst (TasksHaveTexts w.methods) at own).1)) refused) e

    can_next : (b : Bool) → (if b then step_of unit w.classes s k refused (thread_at s k) else None) ≡ Some next → IsNext w.methods w.classes s next
    can_next true e = thread_next (thread_at s k) refl e
    can_next false e = absurd (cc)

  turn_next : (journal : Journal) (s : State) → replay unit w journal ≡ Some s → IsRunning w.methods w.classes s → (k : ℕ) (refused : Bool) (next : State) → turn_step unit w.classes s k refused ≡ Some next → IsNext w.methods w.classes s next
  unfolding turn_step
  turn_next journal s replayed h k refused next e = can_next journal s replayed h k refused next (can_step w.classes s k) e

  -- a clearing leaves the objects and the variables as they were
  left_running : (s : State) → IsRunning w.methods w.classes s → (names : List ℕ) → IsNext w.methods w.classes s (with_cleared names s)
  left_running s h names = record { running = record { typed = record { heap = h.typed.heap; variables = h.typed.variables }; texts = h.texts; below = h.below }; shapes = λ n o at. (o, at, refl, refl) }

  clearing_next : (s : State) → IsRunning w.methods w.classes s → (names : List ℕ) (next : State) → clearing_step w s names ≡ Some next → IsNext w.methods w.classes s next
  unfolding clearing_step
  clearing_next s h names next e = by_test (may_clear w s names) e
    where
      by_test : (b : Bool) → (if b then Some (with_cleared names s) else None) ≡ Some next → IsNext w.methods w.classes s next
      by_test true g = let same : with_cleared names s ≡ next = cc in subst (IsNext w.methods w.classes s) same (left_running s h names)
      by_test false g = absurd (cc)

  step_next : (journal : Journal) (s : State) → replay unit w journal ≡ Some s → IsRunning w.methods w.classes s → (e : Entry) (next : State) → world_step unit w s e ≡ Some next → IsNext w.methods w.classes s next
  step_next journal s replayed h (Step k refused) next e = turn_next journal s replayed h k refused next e
  step_next journal s replayed h (Clearing names) next e = clearing_next s h names next e

  -- ---- journals

  from : (before rest : Journal) (s end : State) → replay unit w before ≡ Some s → IsRunning w.methods w.classes s → replay_from unit w s rest ≡ Some end → IsRunning w.methods w.classes end
  from before [] s end replayed h e = let same : s ≡ end = cc in subst (IsRunning w.methods w.classes) same h
  from before (entry ∷ rest) s end replayed h e =
      by_step (world_step unit w s entry) refl (λ next is r. from (before ++ entry ∷ []) rest next end (replay_more unit w before entry s next replayed is) r) e
    where
      by_step : (o : Option State) → world_step unit w s entry ≡ o → ((next : State) → world_step unit w s entry ≡ Some next → IsRunning w.methods w.classes next → replay_from unit w next rest ≡ Some end → IsRunning w.methods w.classes end)
          → option_and_then (λ next. replay_from unit w next rest) o ≡ Some end → IsRunning w.methods w.classes end
      by_step None is later g = absurd (cc)
      by_step (Some next) is later g = later next is ((step_next before s replayed h entry next is).running) g

  replay_running : (journal : Journal) (s : State) → replay unit w journal ≡ Some s → IsRunning w.methods w.classes s
  replay_running journal s e = from [] journal (start unit w) s refl start_running e

  -- ---- methods

  asked_allowed : (sight : Sight) (task : Task) (line : ℕ) (target : Target) (args : List Actual) → TaskHasTexts w.methods task → effect_of sight task ≡ Calls line target GetStaticMethodID args → w.methods ≡ true
  asked_allowed sight task line target args h e = (subst (EffectHasTexts w.methods) e (effect_texts w.methods sight task h)).2

  tasks_allowed : (s : Shared) (t : Thread) (o : Option (List Task)) (line : ℕ) (target : Target) (args : List Actual) → TasksHaveTexts w.methods o → next_effect s t o ≡ Calls line target GetStaticMethodID args → w.methods ≡ true
  tasks_allowed s t None line target args h e = absurd (cc)
  tasks_allowed s t (Some []) line target args h e = absurd (cc)
  tasks_allowed s t (Some (task ∷ rest)) line target args h e = asked_allowed (sight_of s t) task line target args h.0 e

  runs : RunsTyped unit w
  runs = record {
    typed = λ journal s e. (replay_running journal s e).typed;
    shapes = λ journal s next entry e is. (step_next journal s e (replay_running journal s e) entry next is).shapes;
    methods = λ journal s k t line target args e there is.
        tasks_allowed s.shared t t.tasks line target args (thread_in (λ (t : Thread). TasksHaveTexts w.methods t.tasks) s k t (replay_running journal s e).texts there) is;
  }

-- an accepted unit's runs are typed
pub unit_is_typed : IsInverse → AcceptedIsTyped
unit_is_typed inverse unit w well_typed regions all loads sound = runs unit w well_typed regions all loads sound inverse
