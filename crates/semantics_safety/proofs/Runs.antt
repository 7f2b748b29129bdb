-- What holds of each thread before its steps holds after each journal that can be replayed, so each thread's next step is safe.
use Rattle.std.proofs.Common.{◌≡◌, ℕ, zero, suc, Bool, true, false, ◌&&◌, List, [], ◌∷◌, map, Option, Some, None, refl, sym, ◌∙◌, subst, if◌then◌else◌, ap, ◌+◌, ◌<◌, ◌==◌, arith}
use Rattle.std.proofs.lemmas.Bool.Decides.{nat_tests}
use Rattle.std.specs.Prelude.{IsTrue, find, is_none, not, is_some, slice_get, slice_set}
use Rattle.std.specs.List.{list_all, AllByRecursion, AllZip}
use Rattle.std.specs.Option.{option_map, option_and_then}
use Rattle.std.specs.Str.{bytes_eq}
use Rattle.std.proofs.lemmas.Bool.{and_parts}
use Rattle.base.specs.Bytes.{Identifier, lookup}
use Rattle.base.specs.Options.{some_passes}
use Rattle.class_rules.specs.Class.{Classes}
use Rattle.syntax.specs.Parts.{functions_of, statics_of}
use Rattle.syntax.specs.Tree.{Static, Function, SourceUnit}
use Rattle.type_rules.specs.declared.ty.ExprType.{ExprType}
use Rattle.type_rules.specs.declared.ty.ExprType.TheVariants.{Word, Jint, Flag, Truth, Ref, Global, Weak, Buffer, Array}
use Rattle.type_rules.specs.ExprTypes.{Scope}
use Rattle.type_rules.specs.declared.ty.ExprType.TheVariants as types
use Rattle.semantics.specs.Activation.{function_at, class_of_function, entered, entered_function, enter, entry_advance}
use Rattle.semantics.specs.Journal.{Entry, Step, Clearing, Journal}
use Rattle.semantics.specs.Load.{fit_parameters, is_callable, call_loads, Loads}
use Rattle.semantics.specs.Run.{replay_from}
use Rattle.semantics.specs.Start.{waiting_thread, null_static, null_statics, start}
use Rattle.semantics.specs.State.{State, thread_at, set_thread, in_use, with_event, advanced}
use Rattle.semantics.specs.Step.{is_unfinished, is_waiting, is_live, can_step, step_of, turn_step, clearing_step, world_step}
use Rattle.semantics.specs.Task.{Task, Target, Operand, Invoke, tasks_of}
use Rattle.semantics.specs.Arguments.{Actual, actuals, method_given}
use Rattle.semantics.specs.Method.{MethodId, find_method}
use Rattle.semantics.specs.declared.trap.Trap.{Trap}
use Rattle.jni.specs.declared.function.JniFunction.{JniFunction}
use Rattle.jni.specs.JniFunction.{calls_method}
use Rattle.semantics.specs.Thread.{Thread, Caller, Shared, Frame, BuffersInUse, Advance, Advances, NoAdvance, sight_of}
use Rattle.semantics.specs.declared.event.Ending.{Ending}
use Rattle.semantics.specs.declared.event.Ending.TheVariants.{Unfinished, Ended, Uncaught}
use Rattle.semantics.specs.declared.event.Event.{Event}
use Rattle.semantics.specs.declared.event.Event.TheVariants.{Quiet, PrintedNumber, Trapped}
use Rattle.semantics.specs.ThreadStep.{after_effect, after_refused_effect, step_within, thread_step}
use Rattle.semantics.specs.Reachable.{is_in}
use Rattle.semantics.specs.Variable.{Variable, StaticReference, Empty, Live, Weakly, Cleared, Deleted, Variables, Statics}
use Rattle.semantics.specs.WeakReferences.{may_clear, cleared, cleared_statics, with_cleared}
use Rattle.semantics.specs.World.{Invocation, World}
use Rattle.semantics.proofs.ClearedEffects.{cleared_lookup}
use Rattle.semantics.proofs.StepLaws.{step-thread}
use Rattle.semantics.specs.Effect.{Effect, Calls, Returns, effect_of}
use Rattle.semantics.specs.CallEffects.{CallResult}
use Rattle.semantics.specs.CallStep.{call_step, calling, received, trap_of_call}
use Rattle.semantics.specs.Return.{ending_after, calls_after, given_back, resumed_in, return_by, return_into}
use Rattle.semantics_safety.specs.Owners.{Owners, ThreadOwners, AllOwners, no_owners, no_owner, with_result, after_effect as owners_within, after_invoked, after_return, after_step, after_tasks, after_advance, after_turn, after_entry, with_owners, owners_from, owners_after}
use Rattle.semantics_safety.specs.Points.{Point}
use Rattle.semantics_safety.specs.Stands.{AreCallable, VariableFits, Stands, CallerStands, Goes, IsSound}
use Rattle.semantics_safety.specs.StepSafe.{IsCallable, has_calls, HasCalls, IsSafe}
use Rattle.semantics_safety.specs.Wanted.{GoesOn, Runs}
use Rattle.semantics_safety.specs.Follows.{Follows}
use Rattle.semantics_safety.proofs.EffectLaws.{effect_follows}
use Rattle.semantics_safety.specs.WeakNames.{WeakNames, AreOfKind, HoldWeakly, weak_names}
use Rattle.semantics_safety.proofs.CallLaws.{IsWithin, Path, Returning, Calling, Within, each_step_lands, path_of}
use Rattle.semantics_safety.proofs.EntryPoints.{entry_point, SeesStatics, HasNamesOnce, stands_at_entry}
use Rattle.semantics_safety.proofs.KeptCalls.{Held, held, KeepsCalls, calls_kept, put_keeps, received_calls}
use Rattle.semantics_safety.proofs.CallersKept.{LeavesCallers, callers_left}
use Rattle.semantics_safety.proofs.KeptMethods.{LeavesCallable, methods_kept}
use Rattle.semantics_safety.proofs.Pushes.{call_made_loads, call_to, caller_stands, each_call, method_callable, unrefused}
use Rattle.semantics_safety.proofs.ReturnLaws.{LandsBack, back_gives, callers_viewless, calls_there, return_lands}
use Rattle.semantics_safety.proofs.OwnerLaws.{LandsByIfPossible}
use Rattle.semantics_safety.proofs.StepLaws.{LandsBy}
use Rattle.semantics_safety.proofs.RefusedLaws.{marked_step_lands}
use Rattle.semantics_safety.proofs.StepClauses.{resumable, methods, view, return, references, owned, release, declared, free, taken, possible}

-- what holds of threads, where the first of them has this number
abbrev pub AllSound : SourceUnit → Classes → AllOwners → Statics → ℕ → List Thread → Type 0
AllSound unit classes owners statics k [] = Unit {0}
AllSound unit classes owners statics k (t ∷ ts) = IsSound unit classes (owners k) statics t × AllSound unit classes owners statics (k + 1) ts

-- what holds of a state
abbrev pub AreSound : SourceUnit → Classes → AllOwners → State → Type 0
AreSound unit classes owners s = AllSound unit classes owners s.shared.statics 1 s.threads

-- ---- statics

-- the names of the statics are there yet
abbrev pub NamesStay : Statics → Statics → Type 0
NamesStay ss us = (x : Identifier) (r : StaticReference) → lookup x ss ≡ Some r → (q : StaticReference) × (lookup x us ≡ Some q)

-- from a function's entry its tasks break no rule, where it sees statics that are there
abbrev pub Enters : WeakNames → Statics → Function → Type 0
Enters weak ss f = (scope : Scope) × SeesStatics scope ss × AreOfKind weak scope × HasNamesOnce f scope × GoesOn (tasks_of f.body) (entry_point f scope)

-- clearings leave them there
names_left : (names : List ℕ) (ss : Statics) → NamesStay ss (cleared_statics names ss)
names_left names [] x r e = absurd (cc)
names_left names ((y, v) ∷ ss) x r e = by_test (bytes_eq x y) e (names_left names ss x r)
  where
    by_test : (b : Bool) → (if b then Some v else lookup x ss) ≡ Some r → (lookup x ss ≡ Some r → (q : StaticReference) × (lookup x (cleared_statics names ss) ≡ Some q))
        → (q : StaticReference) × ((if b then Some (cleared names v) else lookup x (cleared_statics names ss)) ≡ Some q)
    by_test true g further = (cleared names v, refl)
    by_test false g further = further g

-- and only weak ones hold weak references yet
held_left : (weak : WeakNames) (names : List ℕ) (ss : Statics) → HoldWeakly weak ss → HoldWeakly weak (cleared_statics names ss)
held_left weak names ss only x n e = let old = from_cleared names n (lookup x ss) (sym (cleared_lookup names x ss) ∙ e) in only x n old
  where
    from_cleared : (names : List ℕ) (n : ℕ) (o : Option StaticReference) → option_map (cleared names) o ≡ Some (Weakly n) → o ≡ Some (Weakly n)
    from_cleared names n None g = absurd (cc)
    from_cleared names n (Some Empty) g = absurd (cc)
    from_cleared names n (Some (Live m)) g = absurd (cc)
    from_cleared names n (Some Cleared) g = absurd (cc)
    from_cleared names n (Some Deleted) g = absurd (cc)
    from_cleared names n (Some (Weakly m)) g = by_test (is_in names m) g
      where
        by_test : (b : Bool) → Some (if b then Cleared else Weakly m) ≡ Some (Weakly n) → Some (Weakly m) ≡ Some (Weakly n)
        by_test true h = absurd (cc)
        by_test false h = h

fits_later : (s : ExprType) (v : Option Variable) (g h : Option StaticReference) → ((r : StaticReference) → g ≡ Some r → (q : StaticReference) × (h ≡ Some q)) → VariableFits s v g → VariableFits s v h
fits_later Global v g h stay (none, (r, e)) = (none, stay r e)
fits_later Weak v g h stay (none, (r, e)) = (none, stay r e)
fits_later Ref v g h stay fits = fits
fits_later types.FieldId v g h stay fits = fits
fits_later types.MethodId v g h stay fits = fits
fits_later (Buffer t writable) v g h stay fits = fits
fits_later (Array t size) v g h stay fits = fits
fits_later Truth v g h stay fits = fits
fits_later Word v g h stay fits = fits
fits_later Jint v g h stay fits = fits
fits_later Flag v g h stay fits = fits

module _ (ss us : Statics) (stay : NamesStay ss us) where
  sees_later : (scope : Scope) → SeesStatics scope ss → SeesStatics scope us
  sees_later scope sees x s e = let found = sees x s e in (found.0, stay x found.1.0 found.1.1)

module _ (weak : WeakNames) (ss us : Statics) (stay : NamesStay ss us) (only : HoldWeakly weak us) where
  stands_later : {own : Owners} (vs : Variables) (frames : List Frame) (p : Point) → Stands weak own ss vs frames p → Stands weak own us vs frames p
  stands_later vs frames p stands = record {
    types = λ x s e. fits_later s (lookup x vs) (lookup x ss) (lookup x us) (stay x) (stands.types x s e);
    shows = stands.shows;
    held = stands.held;
    once = stands.once;
    known_once = stands.known_once;
    depth = stands.depth;
    backed = stands.backed;
    owned = stands.owned;
    kinds = stands.kinds;
    only = only;
  }

  -- callers go on from where they did
  callers_later : (owners : List Owners) (callers : List Caller) → AllZip (CallerStands weak ss) owners callers → AllZip (CallerStands weak us) owners callers
  callers_later [] [] h = tt
  callers_later [] (c ∷ callers) h = absurd h
  callers_later (own ∷ owners) [] h = absurd h
  callers_later (own ∷ owners) (c ∷ callers) h = (
    record {
      point = (h.0).point;
      stands = stands_later c.variables c.frames (h.0).point (h.0).stands;
      method = (h.0).method;
      goes = (h.0).goes;
      room = (h.0).room;
      viewless = (h.0).viewless;
    },
    callers_later owners callers h.1,
  )

  goes_later : (own : Owners) (t : Thread) (o : Option (List Task)) → Goes weak own ss t o → Goes weak own us t o
  goes_later own t None g = (g.0, g.1, only)
  goes_later own t (Some tasks) (p, stands, goes) = (p, stands_later t.variables t.frames p stands, goes)

-- ---- one thread

-- where a thread is before each step, its method IDs aside
record Placed (unit : SourceUnit) (classes : Classes) (own : ThreadOwners) (statics : Statics) (t : Thread) : Type 0 where
  goes : Goes (weak_names unit) own.current statics t t.tasks
  callers : AllZip (CallerStands (weak_names unit) statics) own.callers t.callers
  loads : IsTrue (list_all (call_loads unit classes) t.calls)

-- what GetStaticMethodID finds can be called
abbrev pub FindsCallable : SourceUnit → Classes → Type 0
FindsCallable unit classes = (c : ℕ) (name text : List ℕ) (m : MethodId) → find_method unit classes c name text ≡ Some m → IsCallable unit classes m

module _ (unit : SourceUnit) (classes : Classes) (first : Statics) (enters : AllByRecursion (Enters (weak_names unit) first) (functions_of unit)) (finds : FindsCallable unit classes) where
  abbrev weak : WeakNames
  weak = weak_names unit

  sound_later : (own : ThreadOwners) (ss us : Statics) (t : Thread) → NamesStay ss us → HoldWeakly weak us → IsSound unit classes own ss t → IsSound unit classes own us t
  sound_later own ss us t stay only h = record {
    goes = goes_later weak ss us stay only own.current t t.tasks h.goes;
    callers = callers_later weak ss us stay only own.callers t.callers h.callers;
    loads = h.loads;
    methods = h.methods;
    below = h.below;
  }

  -- where a thread stands, only weak statics hold weak references
  goes_only : (own : Owners) (ss : Statics) (t : Thread) (o : Option (List Task)) → Goes weak own ss t o → HoldWeakly weak ss
  goes_only own ss t None g = g.2
  goes_only own ss t (Some tasks) (p, stands, goes) = stands.only

  -- ---- lists of threads

  all_later : (owners : AllOwners) (ss us : Statics) (k : ℕ) (ts : List Thread) → NamesStay ss us → HoldWeakly weak us → AllSound unit classes owners ss k ts → AllSound unit classes owners us k ts
  all_later owners ss us k [] stay only h = tt
  all_later owners ss us k (t ∷ ts) stay only h = (sound_later (owners k) ss us t stay only h.0, all_later owners ss us (k + 1) ts stay only h.1)

  all_get : (owners : AllOwners) (ss : Statics) (k : ℕ) (ts : List Thread) (i j : ℕ) (t : Thread) → j ≡ k + i → AllSound unit classes owners ss k ts → slice_get ts i ≡ Some t → IsSound unit classes (owners j) ss t
  all_get owners ss k [] i j t is h e = absurd (cc)
  all_get owners ss k (u ∷ ts) zero j t is h e =
      let same : u ≡ t = cc in
      let here : k ≡ j = omega (arith, is) in
      subst (λ (n : ℕ). IsSound unit classes (owners n) ss t) here (subst (IsSound unit classes (owners k) ss) same h.0)
  all_get owners ss k (u ∷ ts) (suc i) j t is h e = all_get owners ss (k + 1) ts i j t (omega (arith, is)) h.1 e

  -- the owners of one thread are no other's
  other_number : (owners : AllOwners) (n k : ℕ) (own : ThreadOwners) → (k == n) ≡ false → owners k ≡ with_owners owners n own k
  other_number owners n k own e = ap (λ (b : Bool). if b then own else owners k) (sym e)

  all_others : (owners : AllOwners) (ss : Statics) (n : ℕ) (own : ThreadOwners) (k : ℕ) (ts : List Thread) → n < k → AllSound unit classes owners ss k ts → AllSound unit classes (with_owners owners n own) ss k ts
  all_others owners ss n own k [] less h = tt
  all_others owners ss n own k (t ∷ ts) less h =
      let other : (k == n) ≡ false = grind (arith, nat_tests, less) in
      (subst (λ (o : ThreadOwners). IsSound unit classes o ss t) (other_number owners n k own other) h.0, all_others owners ss n own (k + 1) ts (omega (arith, less)) h.1)

  all_set : (owners : AllOwners) (ss : Statics) (n : ℕ) (own : ThreadOwners) (k : ℕ) (ts : List Thread) (i : ℕ) (t : Thread) → n ≡ k + i → AllSound unit classes owners ss k ts → IsSound unit classes own ss t → AllSound unit classes (with_owners owners n own) ss k (slice_set ts i t)
  all_set owners ss n own k [] i t is h new = tt
  all_set owners ss n own k (u ∷ ts) zero t is h new =
      let here : (k == n) ≡ true = grind (arith, nat_tests, is) in
      (subst (λ (o : ThreadOwners). IsSound unit classes o ss t) (ap (λ (b : Bool). if b then own else owners k) (sym here)) new, all_others owners ss n own (k + 1) ts (omega (arith, is)) h.1)
  all_set owners ss n own k (u ∷ ts) (suc i) t is h new =
      let other : (k == n) ≡ false = grind (arith, nat_tests, is) in
      (subst (λ (o : ThreadOwners). IsSound unit classes o ss u) (other_number owners n k own other) h.0, all_set owners ss n own (k + 1) ts i t (omega (arith, is)) h.1 new)

  all_put : (owners : AllOwners) (ss : Statics) (own : ThreadOwners) (ts : List Thread) (k : ℕ) (t : Thread) → AllSound unit classes owners ss 1 ts → IsSound unit classes own ss t → AllSound unit classes (with_owners owners k own) ss 1 (set_thread ts k t)
  all_put owners ss own ts zero t h new = all_others owners ss 0 own 1 ts (omega arith) h
  all_put owners ss own ts (suc i) t h new = all_set owners ss (suc i) own 1 ts i t (omega arith) h new

  -- ---- a step

  -- what a step leaves is in its place, with these owners, and only a marked one may be impossible
  abbrev PlacedOn : Bool → (Event → Variables → ThreadOwners) → Statics → Advance → Type 0
  PlacedOn refused give ss (Advances s t event) = Placed unit classes (give event t.variables) s.statics t × NamesStay ss s.statics
  PlacedOn refused give ss NoAdvance = refused ≡ true

  -- the same of all that holds of a thread before its steps
  abbrev StepsOn : Bool → (Event → Variables → ThreadOwners) → Statics → Advance → Type 0
  StepsOn refused give ss (Advances s t event) = IsSound unit classes (give event t.variables) s.statics t × NamesStay ss s.statics
  StepsOn refused give ss NoAdvance = refused ≡ true

  -- the method IDs of a caller can be called
  abbrev CallerHolds : Caller → Type 0
  CallerHolds c = AreCallable unit classes c.variables

  steps_on : (refused : Bool) (give : Event → Variables → ThreadOwners) (ss : Statics) (e : Advance) → PlacedOn refused give ss e → LeavesCallable unit classes e → LeavesCallers CallerHolds e → StepsOn refused give ss e
  steps_on refused give ss (Advances s t event) h held waiting = (record { goes = (h.0).goes; callers = (h.0).callers; loads = (h.0).loads; methods = held; below = waiting }, h.1)
  steps_on refused give ss NoAdvance h held waiting = h

  -- calls to come that load
  abbrev AllLoad : List Invocation → Type 0
  AllLoad calls = IsTrue (list_all (call_loads unit classes) calls)

  module _ (k : ℕ) (s : Shared) (t : Thread) (task : Task) (rest : List Task) (own : ThreadOwners) where
    -- the step's effect
    abbrev effect : Effect
    effect = effect_of (sight_of s t) task

    -- one that doesn't return leaves the callers' owners
    kept_owners : (e : Effect) → IsWithin e → (event : Event) (vs : Variables) → after_step unit classes k s t own event e vs ≡ record own { current = owners_within unit classes k s t e own.current event vs }
    kept_owners (Returns given) away event vs = absurd away
    kept_owners (Calls line target f args) away event vs =
        ap (λ (b : Bool). after_invoked b event own (owners_within unit classes k s t (Calls line target f args) own.current event vs)) away
    kept_owners e away event vs = refl

    module _ (away : IsWithin effect) (ss : Statics) (callers : AllZip (CallerStands weak ss) own.callers t.callers) (loads : AllLoad t.calls) where
      lands_on : (refused : Bool) (e : Advance) → LandsBy weak (owners_within unit classes k s t effect own.current) ss e → KeepsCalls (held t) e → PlacedOn refused (after_tasks unit classes k s t (Some (task ∷ rest)) own) ss e
      lands_on refused (Advances s' t' event) h kept =
          let same_callers : t.callers ≡ t'.callers = ap (λ (x : Held). x.1) (sym kept) in
          let same_calls : t.calls ≡ t'.calls = ap (λ (x : Held). x.0) (sym kept) in (
            subst (λ (o : ThreadOwners). Placed unit classes o s'.statics t') (sym (kept_owners effect away event t'.variables)) (record {
              goes = h.0;
              callers = subst (AllZip (CallerStands weak s'.statics) own.callers) same_callers (callers_later weak ss s'.statics h.1 (goes_only _ s'.statics t' t'.tasks h.0) own.callers t.callers callers);
              loads = subst AllLoad same_calls loads;
            }),
            h.1,
          )
      lands_on refused NoAdvance h kept = absurd h

      lands_if_possible : (e : Advance) → LandsByIfPossible weak (owners_within unit classes k s t effect own.current) ss e → KeepsCalls (held t) e → PlacedOn true (after_tasks unit classes k s t (Some (task ∷ rest)) own) ss e
      lands_if_possible (Advances s' t' event) h kept = lands_on true (Advances s' t' event) h kept
      lands_if_possible NoAdvance h kept = refl

  -- ---- returns

  module _ (room : BuffersInUse) (k : ℕ) (s : Shared) (t : Thread) (own : ThreadOwners) (loads : AllLoad t.calls) (only : HoldWeakly weak s.statics) where
    loads_after : (e : Ending) (calls : List Invocation) → AllLoad calls → AllLoad (calls_after e calls)
    loads_after Unfinished calls h = h
    loads_after Ended calls h = refl
    loads_after (Uncaught c) calls h = refl

    back_on : (target : Target) (o : Owners) (owners : List Owners) (callers : List Caller) → AllZip (CallerStands weak s.statics) owners callers → (e : Advance) → LandsBack weak target o s.statics e → KeepsCalls (t.calls, callers) e
        → PlacedOn false (λ event vs. record { current = with_result target o vs; callers = owners }) s.statics e
    back_on target o owners callers stand (Advances s' t' event) h kept =
        let same_callers : callers ≡ t'.callers = ap (λ (x : Held). x.1) (sym kept) in
        let same_calls : t.calls ≡ t'.calls = ap (λ (x : Held). x.0) (sym kept) in
        (record { goes = h.0; callers = subst (AllZip (CallerStands weak s'.statics) owners) same_callers (callers_later weak s.statics s'.statics h.1 (goes_only _ s'.statics t' t'.tasks h.0) owners callers stand); loads = subst AllLoad same_calls loads }, h.1)
    back_on target o owners callers stand NoAdvance h kept = absurd h

    returned : (given : CallResult) (owners : List Owners) (callers : List Caller) → own.callers ≡ owners → AllZip (CallerStands weak s.statics) owners callers → PlacedOn false (λ event vs. after_return callers owners own vs) s.statics (return_by k s t given callers)
    returned given [] [] is stand =
        (record { goes = (refl, calls_there s.heap t.pending t.calls, only); callers = subst (λ (l : List Owners). AllZip (CallerStands weak s.statics) l []) (sym is) tt; loads = loads_after (ending_after s.heap t.pending t.calls) t.calls loads }, λ x r e. (r, e))
    returned given (o ∷ owners) [] is stand = absurd stand
    returned given [] (c ∷ callers) is stand = absurd stand
    returned given (o ∷ owners) (c ∷ callers) is stand =
        let back = given_back t.pending c.result given in
        back_on c.target o owners callers stand.1 (return_into s t back c callers)
        (return_lands unit classes room k s t c callers stand.0 back (back_gives t.pending c.result (stand.0).method given))
        (put_keeps c.target back s (received c.result back (resumed_in t c callers)) (t.calls, callers) (received_calls c.result back (resumed_in t c callers)))

  -- ---- calls of methods

  module _ (room : BuffersInUse) (k : ℕ) (s : Shared) (t : Thread) (own : ThreadOwners) (sound : IsSound unit classes own s.statics t) (task : Task) (rest : List Task) (p : Point) (stands : Stands weak own.current s.statics t.variables t.frames p)
      (line : ℕ) (target : Target) (f : JniFunction) (args : List Actual) (method : calls_method f ≡ true) where
    abbrev left_by_call : Event → Variables → ThreadOwners
    left_by_call event vs = after_step unit classes k s t own event (Calls line target f args) vs

    trapped : (trap : Trap) → PlacedOn false left_by_call s.statics (Advances s t (Trapped trap line))
    trapped trap =
        let same : own ≡ left_by_call (Trapped trap line) t.variables = ap (λ (b : Bool). after_invoked b (Trapped trap line) own own.current) (sym method) in
        (subst (λ (o : ThreadOwners). Placed unit classes o s.statics t) same (record { goes = sound.goes; callers = sound.callers; loads = sound.loads }), λ x r e. (r, e))

    both_load : (a b : Bool) → a ≡ true → b ≡ true → (a && b) ≡ true
    both_load true b e h = h
    both_load false b e h = absurd (cc)

    pushed : (operands : List Operand) → args ≡ actuals (sight_of s t) f operands → Runs (Invoke line target f operands) (GoesOn rest) p → (m : MethodId) → trap_of_call classes s t target f args ≡ None → method_given args 1 ≡ Some m
        → PlacedOn false left_by_call s.statics (Advances s (calling unit classes room k s t line target f args rest (call_to unit classes room k s t line target f args rest method m)) Quiet)
    pushed operands is runs m none given =
        let callable = method_callable unit classes (sight_of s t) t.variables (λ x. refl) sound.methods f method operands m (subst (λ (l : List Actual). method_given l 1 ≡ Some m) is given) in
        let now : ThreadOwners = record { current = no_owner; callers = own.current ∷ own.callers } in
        let same : now ≡ left_by_call Quiet [] = ap (λ (b : Bool). after_invoked b Quiet own (owners_within unit classes k s t (Calls line target f args) own.current Quiet [])) (sym method) in (
          subst (λ (o : ThreadOwners). Placed unit classes o s.statics (calling unit classes room k s t line target f args rest (call_to unit classes room k s t line target f args rest method m))) same (record {
            goes = (refl, λ e. refl, stands.only);
            callers = (caller_stands classes s t line f args rest p stands method target operands none runs, sound.callers);
            loads = both_load _ (list_all (call_loads unit classes) t.calls) (call_made_loads unit classes s t target line f args m method callable none given) sound.loads;
          }),
          λ x r e. (r, e),
        )

    method_called : Follows weak own.current (sight_of s t) s.statics t.variables t.frames p rest (Calls line target f args) → PlacedOn false left_by_call s.statics (call_step unit classes room k s t line target f args rest false)
    method_called (operands, is, ready, runs) =
        each_call unit classes room k s t line target f args rest method (PlacedOn false left_by_call s.statics) trapped (pushed operands is runs)

  -- ---- entries

  found_enters : (fs : List Function) (name : Identifier) (f : Function) → AllByRecursion (Enters weak first) fs → find (λ (g : Function). bytes_eq g.name name) fs ≡ Some f → Enters weak first f
  found_enters [] name f h e = absurd (cc)
  found_enters (g ∷ fs) name f h e = by_test (bytes_eq g.name name) e (found_enters fs name f h.1)
    where
      by_test : (b : Bool) → (if b then Some g else find (λ (g : Function). bytes_eq g.name name) fs) ≡ Some f → (find (λ (g : Function). bytes_eq g.name name) fs ≡ Some f → Enters weak first f) → Enters weak first f
      by_test true e later = let same : g ≡ f = cc in subst (Enters weak first) same h.0
      by_test false e later = later e

  module _ (k : ℕ) (s : Shared) (t : Thread) (own : ThreadOwners) (stay : NamesStay first s.statics) (only : HoldWeakly weak s.statics) (call : Invocation) (calls : List Invocation) (loads : IsTrue (list_all (call_loads unit classes) calls)) (callers : AllZip (CallerStands weak s.statics) own.callers t.callers) where
    enters_class : (f : Function) (o : Option ℕ) → Enters weak first f → is_some o ≡ true → fit_parameters f.parameters call.arguments ≡ true → PlacedOn false (after_tasks unit classes k s t None own) s.statics (entry_advance s (option_map (λ c. entered t calls f c call.arguments) o))
    enters_class f None h there fits = absurd (cc)
    enters_class f (Some c) (scope, sees, kinds, once, goes) there fits =
        (record { callers = callers; goes = (entry_point f scope, stands_at_entry weak s.statics scope f c call.arguments (sees_later first s.statics stay scope sees) kinds only fits once, goes); loads = loads }, λ x r e. (r, e))

    enters_function : (o : Option Function) → function_at unit call.function ≡ o → some_passes (is_callable classes call.arguments) o ≡ true → PlacedOn false (after_tasks unit classes k s t None own) s.statics (entry_advance s (entered_function classes t call calls o))
    enters_function None e h = absurd (cc)
    enters_function (Some f) e h =
        let both = and_parts (is_some (class_of_function classes f)) (fit_parameters f.parameters call.arguments) h in
        enters_class f (class_of_function classes f) (found_enters (functions_of unit) call.function f enters e) both.0 both.1

  entry_steps : (k : ℕ) (s : Shared) (t : Thread) (own : ThreadOwners) → NamesStay first s.statics → HoldWeakly weak s.statics → AllZip (CallerStands weak s.statics) own.callers t.callers → (calls : List Invocation) → IsTrue (has_calls calls) → IsTrue (list_all (call_loads unit classes) calls) → PlacedOn false (after_tasks unit classes k s t None own) s.statics (entry_advance s (enter unit classes t calls))
  entry_steps k s t own stay only callers [] has loads = absurd (cc)
  entry_steps k s t own stay only callers (call ∷ calls) has loads =
      let both = and_parts (call_loads unit classes call) (list_all (call_loads unit classes) calls) loads in
      enters_function k s t own stay only call calls both.1 callers (function_at unit call.function) refl both.0

  -- ---- a thread's step

  module _ (room : BuffersInUse) (k : ℕ) (s : Shared) (t : Thread) (own : ThreadOwners) (stay : NamesStay first s.statics) (live : is_unfinished t.ending ≡ true) (sound : IsSound unit classes own s.statics t) where
    -- a step within the call, by its effect
    module _ (task : Task) (rest : List Task) (p : Point) (stands : Stands weak own.current s.statics t.variables t.frames p) (runs : Runs task (GoesOn rest) p) where
      unmarked : Path (effect_of (sight_of s t) task) → PlacedOn false (after_tasks unit classes k s t (Some (task ∷ rest)) own) s.statics (step_within unit classes room k s t false (Some (task ∷ rest)))
      unmarked (Returning given is) =
          subst (λ (e : Effect). PlacedOn false (λ event vs. after_step unit classes k s t own event e vs) s.statics (after_effect unit classes room k s t rest e)) (sym is)
          (returned room k s t own sound.loads stands.only given own.callers t.callers refl sound.callers)
      unmarked (Calling line target f args is method) =
          subst (λ (e : Effect). PlacedOn false (λ event vs. after_step unit classes k s t own event e vs) s.statics (after_effect unit classes room k s t rest e)) (sym is)
          (method_called room k s t own sound task rest p stands line target f args method
          (subst (Follows weak own.current (sight_of s t) s.statics t.variables t.frames p rest) is (effect_follows s.heap s.statics t.variables t.frames p stands rest task runs)))
      unmarked (Within away) =
          lands_on k s t task rest own away s.statics sound.callers sound.loads false (step_within unit classes room k s t false (Some (task ∷ rest)))
          (each_step_lands unit classes room k s t task rest p stands runs sound.goes away) (calls_kept unit classes room k s t false task rest away)

      marked : Path (effect_of (sight_of s t) task) → PlacedOn true (after_tasks unit classes k s t (Some (task ∷ rest)) own) s.statics (step_within unit classes room k s t true (Some (task ∷ rest)))
      marked (Returning given is) = subst (λ (e : Effect). PlacedOn true (λ event vs. after_step unit classes k s t own event e vs) s.statics (after_refused_effect unit classes room k s t rest e)) (sym is) refl
      marked (Calling line target f args is method) =
          subst (λ (e : Effect). PlacedOn true (λ event vs. after_step unit classes k s t own event e vs) s.statics (after_refused_effect unit classes room k s t rest e)) (sym is)
          (unrefused unit classes room k s t line target f args rest method (PlacedOn true (λ event vs. after_step unit classes k s t own event (Calls line target f args) vs) s.statics) refl)
      marked (Within away) =
          lands_if_possible k s t task rest own away s.statics sound.callers sound.loads (step_within unit classes room k s t true (Some (task ∷ rest)))
          (marked_step_lands unit classes room k s t task rest p stands runs sound.goes) (calls_kept unit classes room k s t true task rest away)

    steps_at : (refused : Bool) (o : Option (List Task)) → Goes weak own.current s.statics t o → PlacedOn refused (after_tasks unit classes k s t o own) s.statics (step_within unit classes room k s t refused o)
    steps_at true None g = refl
    steps_at false None g = entry_steps k s t own stay g.2 sound.callers t.calls (g.1 live) sound.loads
    steps_at refused (Some []) g = absurd (g.2)
    steps_at false (Some (task ∷ rest)) (p, stands, runs) = unmarked task rest p stands runs (path_of (effect_of (sight_of s t) task))
    steps_at true (Some (task ∷ rest)) (p, stands, runs) = marked task rest p stands runs (path_of (effect_of (sight_of s t) task))

    thread_steps : (refused : Bool) → StepsOn refused (after_tasks unit classes k s t t.tasks own) s.statics (thread_step unit classes room k s t refused)
    thread_steps refused =
        steps_on refused (after_tasks unit classes k s t t.tasks own) s.statics (thread_step unit classes room k s t refused) (steps_at refused t.tasks sound.goes)
        (methods_kept unit classes room k s t finds sound.methods sound.below refused t.tasks)
        (callers_left CallerHolds unit classes room k s t sound.below (λ task rest line target f args at is method. sound.methods) refused)

  sound_only : (own : ThreadOwners) (ss : Statics) (t : Thread) → IsSound unit classes own ss t → HoldWeakly weak ss
  sound_only own ss t h = goes_only own.current ss t t.tasks h.goes

  -- ---- the state

  record AreRunning (owners : AllOwners) (s : State) : Type 0 where
    sound : AreSound unit classes owners s
    stay : NamesStay first s.shared.statics
    only : HoldWeakly weak s.shared.statics

  thread_sound : (owners : AllOwners) (s : State) (k : ℕ) (t : Thread) → AreRunning owners s → thread_at s k ≡ Some t → IsSound unit classes (owners k) s.shared.statics t
  thread_sound owners s zero t h e = absurd (cc)
  thread_sound owners s (suc i) t h e = all_get owners s.shared.statics 1 s.threads i (suc i) t (omega arith) h.sound e

  event_running : (owners : AllOwners) (s : State) (k : ℕ) (event : Event) → AreRunning owners s → AreRunning owners (with_event s k event)
  event_running owners s k Quiet h = h
  event_running owners s k (PrintedNumber z) h = record { sound = h.sound; stay = h.stay; only = h.only }
  event_running owners s k (Trapped trap line) h = record { sound = h.sound; stay = h.stay; only = h.only }

  advance_running : (owners : AllOwners) (s : State) (k : ℕ) (old : Thread) (refused : Bool) (e : Advance) (next : State) → AreRunning owners s → StepsOn refused (after_tasks unit classes k s.shared old old.tasks (owners k)) s.shared.statics e → advanced s k e ≡ Some next
      → AreRunning (with_owners owners k (after_advance unit classes k s.shared old (owners k) e)) next
  advance_running owners s k old refused NoAdvance next h g e = absurd (cc)
  advance_running owners s k old refused (Advances shared t event) next h g e =
      let same : with_event (record s { shared = shared; threads = set_thread s.threads k t }) k event ≡ next = cc in
      let now : AllOwners = with_owners owners k (after_tasks unit classes k s.shared old old.tasks (owners k) event t.variables) in
      subst (AreRunning now) same
      (event_running now (record s { shared = shared; threads = set_thread s.threads k t }) k event (record {
        sound = all_put owners shared.statics (after_tasks unit classes k s.shared old old.tasks (owners k) event t.variables) s.threads k t (all_later owners s.shared.statics shared.statics 1 s.threads g.1 (sound_only (after_tasks unit classes k s.shared old old.tasks (owners k) event t.variables) shared.statics t g.0) h.sound) g.0;
        stay = λ x r at. let q = h.stay x r at in g.1 x q.0 q.1;
        only = sound_only (after_tasks unit classes k s.shared old old.tasks (owners k) event t.variables) shared.statics t g.0;
      }))

  live_thread : (s : State) (k : ℕ) → can_step classes s k ≡ true → is_live (thread_at s k) ≡ true
  live_thread s k can =
      let all = and_parts (is_none s.stop && is_live (thread_at s k)) (not (is_waiting classes k s.shared (thread_at s k))) can in
      (and_parts (is_none s.stop) (is_live (thread_at s k)) all.0).1

  module _ (owners : AllOwners) (s : State) (h : AreRunning owners s) (k : ℕ) (refused : Bool) (next : State) where
    thread_running : (o : Option Thread) → thread_at s k ≡ o → is_live o ≡ true → step_of unit classes s k refused o ≡ Some next → AreRunning (after_turn unit classes s owners k refused o) next
    thread_running None there live e = absurd (cc)
    thread_running (Some t) there live e =
        advance_running owners s k t refused (thread_step unit classes (in_use s) k s.shared t refused) next h (thread_steps (in_use s) k s.shared t (owners k) h.stay live (thread_sound owners s k t h there) refused) e

    can_running : (b : Bool) → can_step classes s k ≡ b → (if b then step_of unit classes s k refused (thread_at s k) else None) ≡ Some next → AreRunning (after_turn unit classes s owners k refused (thread_at s k)) next
    can_running true can e = thread_running (thread_at s k) refl (live_thread s k can) e
    can_running false can e = absurd (cc)

  -- a step that is possible
  turn_running : (owners : AllOwners) (s : State) → AreRunning owners s → (k : ℕ) (refused : Bool) (next : State) → turn_step unit classes s k refused ≡ Some next → AreRunning (after_turn unit classes s owners k refused (thread_at s k)) next
  unfolding turn_step
  turn_running owners s h k refused next g = can_running owners s h k refused next (can_step classes s k) refl g

  -- a clearing that is possible
  left_running : (owners : AllOwners) (s : State) → AreRunning owners s → (names : List ℕ) → AreRunning owners (with_cleared names s)
  left_running owners s h names = record {
    sound = all_later owners s.shared.statics (cleared_statics names s.shared.statics) 1 s.threads (names_left names s.shared.statics) (held_left weak names s.shared.statics h.only) h.sound;
    stay = λ x r at. let q = h.stay x r at in names_left names s.shared.statics x q.0 q.1;
    only = held_left weak names s.shared.statics h.only;
  }

  cleared_running : (w : World) (owners : AllOwners) (s : State) → AreRunning owners s → (names : List ℕ) (next : State) → clearing_step w s names ≡ Some next → AreRunning owners next
  unfolding clearing_step
  cleared_running w owners s h names next g = by_test (may_clear w s names) g
    where
      by_test : (b : Bool) → (if b then Some (with_cleared names s) else None) ≡ Some next → AreRunning owners next
      by_test true e = let same : with_cleared names s ≡ next = cc in subst (AreRunning owners) same (left_running owners s h names)
      by_test false e = absurd (cc)

  advance_there : (give : Event → Variables → ThreadOwners) (s : State) (k : ℕ) (e : Advance) → StepsOn false give s.shared.statics e → (next : State) × (advanced s k e ≡ Some next)
  advance_there give s k (Advances shared t event) g = (with_event (record s { shared = shared; threads = set_thread s.threads k t }) k event, refl)
  advance_there give s k NoAdvance g = absurd (cc)

  -- a thread that can step does
  step_there : (owners : AllOwners) (s : State) (k : ℕ) (t : Thread) → AreRunning owners s → thread_at s k ≡ Some t → can_step classes s k ≡ true → (next : State) × (turn_step unit classes s k false ≡ Some next)
  step_there owners s k t h there can =
      let live : is_live (Some t) ≡ true = subst (λ (o : Option Thread). is_live o ≡ true) there (live_thread s k can) in
      let leads = advance_there (after_tasks unit classes k s.shared t t.tasks (owners k)) s k (thread_step unit classes (in_use s) k s.shared t false) (thread_steps (in_use s) k s.shared t (owners k) h.stay live (thread_sound owners s k t h there) false) in
      (leads.0, step-thread unit classes s k t false (record { thread = there; can = can }) ∙ leads.1)

-- ---- runs

null_held : (weak : WeakNames) (gs : List Static) → HoldWeakly weak (map null_static gs)
null_held weak [] x n e = absurd (cc)
null_held weak (g ∷ gs) x n e = by_test (bytes_eq x g.name) e (null_held weak gs x n)
  where
    by_test : (b : Bool) → (if b then Some Empty else lookup x (map null_static gs)) ≡ Some (Weakly n) → (lookup x (map null_static gs) ≡ Some (Weakly n) → weak x ≡ true) → weak x ≡ true
    by_test true h later = absurd (cc)
    by_test false h later = later h

module _ (unit : SourceUnit) (w : World) (enters : AllByRecursion (Enters (weak_names unit) (null_statics unit)) (functions_of unit)) (finds : FindsCallable unit w.classes) where
  abbrev Running : AllOwners → State → Type 0
  Running owners s = AreRunning unit w.classes (null_statics unit) enters finds owners s

  entry_running : (owners : AllOwners) (s : State) → Running owners s → (e : Entry) (next : State) → world_step unit w s e ≡ Some next → Running (after_entry unit w.classes s owners e) next
  entry_running owners s h (Step k refused) next g = turn_running unit w.classes (null_statics unit) enters finds owners s h k refused next g
  entry_running owners s h (Clearing names) next g = cleared_running unit w.classes (null_statics unit) enters finds w owners s h names next g

  replay_running : (journal : Journal) (owners : AllOwners) (s end : State) → Running owners s → replay_from unit w s journal ≡ Some end → Running (owners_from unit w (Some s) owners journal) end
  replay_running [] owners s end h e = let same : s ≡ end = cc in subst (Running owners) same h
  replay_running (entry ∷ rest) owners s end h e =
      by_step (world_step unit w s entry) refl (λ next. replay_running rest (after_entry unit w.classes s owners entry) next end) e
    where
      by_step : (o : Option State) → world_step unit w s entry ≡ o
          → ((next : State) → Running (after_entry unit w.classes s owners entry) next → replay_from unit w next rest ≡ Some end → Running (owners_from unit w (Some next) (after_entry unit w.classes s owners entry) rest) end)
          → option_and_then (λ next. replay_from unit w next rest) o ≡ Some end → Running (owners_from unit w o (after_entry unit w.classes s owners entry) rest) end
      by_step None is later g = absurd (cc)
      by_step (Some next) is later g = later next (entry_running owners s h entry next is) g

  all_waiting : (k : ℕ) (threads : List (List Invocation)) → list_all (list_all (call_loads unit w.classes)) threads ≡ true → list_all has_calls threads ≡ true → AllSound unit w.classes (λ j. no_owners) (null_statics unit) k (map waiting_thread threads)
  all_waiting k [] loads has = tt
  all_waiting k (calls ∷ threads) loads has =
      let l = and_parts (list_all (call_loads unit w.classes) calls) (list_all (list_all (call_loads unit w.classes)) threads) loads in
      let c = and_parts (has_calls calls) (list_all has_calls threads) has in
      (record { goes = (refl, λ e. c.0, null_held (weak_names unit) (statics_of unit)); callers = tt; loads = l.0; methods = tt; below = tt }, all_waiting (k + 1) threads l.1 c.1)

  start_running : Loads unit w → HasCalls w → Running (λ k. no_owners) (start unit w)
  start_running loads has = record { sound = all_waiting 1 w.threads loads.1 has; stay = λ x r e. (r, e); only = null_held (weak_names unit) (statics_of unit) }

  -- where each function's tasks break no rule, each thread is at a point, or before an entry, after each journal
  pub threads_are_sound : Loads unit w → HasCalls w → (journal : Journal) (s : State) (k : ℕ) (t : Thread) → replay_from unit w (start unit w) journal ≡ Some s → thread_at s k ≡ Some t → IsSound unit w.classes (owners_after unit w journal k) s.shared.statics t
  threads_are_sound loads has journal s k t replayed there =
      thread_sound unit w.classes (null_statics unit) enters finds (owners_after unit w journal) s k t (replay_running journal (λ k. no_owners) (start unit w) s (start_running loads has) replayed) there

  -- and no step of any replay breaks one
  pub runs_are_safe : Loads unit w → HasCalls w → IsSafe unit w
  runs_are_safe loads has journal s k t replayed there =
      let running : Running (owners_after unit w journal) s = replay_running journal (λ k. no_owners) (start unit w) s (start_running loads has) replayed in
      let sound = thread_sound unit w.classes (null_statics unit) enters finds (owners_after unit w journal) s k t running there in
      record {
        callers = resumable (weak_names unit) s.shared.statics (owners_after unit w journal k).callers t.callers sound.callers;
        methods = methods unit w.classes (weak_names unit) (owners_after unit w journal k).current s.shared t sound.goes sound.methods;
        view = view (weak_names unit) (owners_after unit w journal k).current s.shared t sound.goes (callers_viewless (weak_names unit) s.shared.statics (owners_after unit w journal k).callers t.callers sound.callers);
        return = return (weak_names unit) (owners_after unit w journal k).current s.shared t sound.goes;
        references = references (weak_names unit) (owners_after unit w journal k).current s.shared t sound.goes;
        owned = owned (weak_names unit) (owners_after unit w journal k).current s.shared t sound.goes;
        release = release (weak_names unit) (owners_after unit w journal k).current s.shared t sound.goes;
        declared = declared (weak_names unit) (owners_after unit w journal k).current s.shared t sound.goes;
        free = free (weak_names unit) (owners_after unit w journal k).current s.shared t sound.goes;
        weak = taken (weak_names unit) (owners_after unit w journal k).current s.shared t sound.goes;
        possible = possible (weak_names unit) (owners_after unit w journal k).current s.shared t sound.goes;
        progress = step_there unit w.classes (null_statics unit) enters finds (owners_after unit w journal) s k t running there;
      }
