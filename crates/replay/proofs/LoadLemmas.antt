-- The first call that doesn't fit, and the threads before their first calls.
use Rattle.std.proofs.Common.{◌≡◌, ℕ, suc, ◌+◌, ◌≤◌, length, Bool, true, false, cond, ◌&&◌, is_some, drop, List, [], ◌∷◌, ◌++◌, map, Option, Some, None, refl, sym, ap, ◌∙◌, append_assoc, subst, arith, IsTrue}
use Rattle.std.specs.Prelude.{slice_get, not, filter, if◌then◌else◌}
use Rattle.std.specs.List.{flat_map, list_all}
use Rattle.std.specs.Global.{Vec}
use Rattle.base.proofs.Lists.{drop_next}
use Rattle.syntax.specs.Tree.{SourceUnit}
use Rattle.class_rules.specs.Class.{Classes}
use Rattle.semantics.specs.World.{Invocation, World}
use Rattle.semantics.specs.Load.{call_loads, first_load_fault, methods_load, refused_calls}
use Rattle.semantics.specs.Start.{waiting_thread}
use Rattle.semantics.specs.Views.{name_of}
use Rattle.replay_threads.specs.declared.thread.Thread.{Thread as ThreadInMemory}
use Rattle.replay.specs.Loading.{first_line, IsWaiting, AddsWaiting, AreWaiting}
use Rattle.replay_threads.specs.States.{AreInRange, EachInRange, ThreadsStand}
use Rattle.replay_threads.specs.Threads.{AreCalling, CallersStand, IsDue, ThreadInRange, ThreadStands, WorkInRange, WorkStands, calls_to_come, last_first, tasks_in}
use Rattle.replay_steps.specs.declared.callers.Entering.{Entering}
use Rattle.replay_steps.specs.declared.activation.Activation.{Activation}

-- the calls of each thread
abbrev pub calls_of : List (Vec Invocation) → List (List Invocation)
calls_of threads = map (λ (t : Vec Invocation). t.items) threads

-- ---- lists

none_of_both : {A : Type 0} (xs ys : List A) → xs ++ ys ≡ [] → (xs ≡ []) × (ys ≡ [])
none_of_both [] ys e = (refl, e)
none_of_both (x ∷ xs) ys e = absurd (cc)

all_pass : (p : Invocation → Bool) (xs : List Invocation) → filter (λ c. not (p c)) xs ≡ [] → list_all p xs ≡ true
all_pass p [] e = refl
all_pass p (x ∷ xs) e = by_test (p x) e (all_pass p xs)
  where
    by_test : (b : Bool) → cond (not b) (x ∷ filter (λ c. not (p c)) xs) (filter (λ c. not (p c)) xs) ≡ [] → (filter (λ c. not (p c)) xs ≡ [] → list_all p xs ≡ true) → (b && list_all p xs) ≡ true
    by_test true e further = further e
    by_test false e further = absurd (cc)

-- ---- the first line

first_of_both : (xs ys : List Invocation) (line : Option ℕ) → line ≡ first_line xs → is_some line ≡ true → line ≡ first_line (xs ++ ys)
first_of_both [] ys line e h = let bad : false ≡ true = subst (λ (o : Option ℕ). is_some o ≡ true) e h in absurd (cc)
first_of_both (x ∷ xs) ys line e h = e

-- no line, so no call
pub no_call : (xs : List Invocation) (line : Option ℕ) → line ≡ first_line xs → is_some line ≡ false → xs ≡ []
no_call [] line e h = refl
no_call (x ∷ xs) line e h = let bad : true ≡ false = subst (λ (o : Option ℕ). is_some o ≡ false) e h in absurd (cc)

-- where methods are allowed, the first line is that of a call
pub methods_allowed : (unit : SourceUnit) (w : World) → methods_load unit w ≡ true → first_load_fault unit w ≡ first_line (flat_map (refused_calls unit w.classes) w.threads)
methods_allowed unit w allowed = ap (λ b. slice_get ((if b then [] else w.heap_line ∷ []) ++ map (λ (c : Invocation). c.line) (flat_map (refused_calls unit w.classes) w.threads)) 0) allowed

-- and else it is that of the heap
pub methods_missing : (unit : SourceUnit) (w : World) → methods_load unit w ≡ false → first_load_fault unit w ≡ Some w.heap_line
methods_missing unit w missing = ap (λ b. slice_get ((if b then [] else w.heap_line ∷ []) ++ map (λ (c : Invocation). c.line) (flat_map (refused_calls unit w.classes) w.threads)) 0) missing

-- no line, so methods are allowed, and no call is refused
pub none_refused : (unit : SourceUnit) (w : World) → first_load_fault unit w ≡ None → flat_map (refused_calls unit w.classes) w.threads ≡ []
none_refused unit w none = by_test (methods_load unit w) refl
  where
    by_test : (b : Bool) → methods_load unit w ≡ b → flat_map (refused_calls unit w.classes) w.threads ≡ []
    by_test true allowed = no_call (flat_map (refused_calls unit w.classes) w.threads) None (sym none ∙ methods_allowed unit w allowed) refl
    by_test false missing = let bad : Some w.heap_line ≡ None = sym (methods_missing unit w missing) ∙ none in absurd (cc)

module _ (unit : SourceUnit) (classes : Classes) where
  abbrev pub refused : List (List Invocation) → List Invocation
  refused threads = flat_map (refused_calls unit classes) threads

  module _ (items : List (Vec Invocation)) (i : ℕ) (v : Vec Invocation) (line : Option ℕ) (at : slice_get items i ≡ Some v) (is : line ≡ first_line (refused_calls unit classes v.items)) (so_far : refused (calls_of items) ≡ refused (calls_of (drop i items))) where
    after : refused (calls_of (drop i items)) ≡ refused_calls unit classes v.items ++ refused (calls_of (drop (i + 1) items))
    after = ap (λ (vs : List (Vec Invocation)). refused (calls_of vs)) (drop_next items i v at)

    -- the first refused call is in this thread
    pub line_here : is_some line ≡ true → line ≡ first_line (refused (calls_of items))
    line_here some =
        first_of_both (refused_calls unit classes v.items) (refused (calls_of (drop (i + 1) items))) line is some
        ∙ ap first_line (sym (so_far ∙ after))

    -- or it is after this thread
    pub line_later : is_some line ≡ false → refused (calls_of items) ≡ refused (calls_of (drop (i + 1) items))
    line_later none =
        so_far ∙ after
        ∙ ap (λ (cs : List Invocation). cs ++ refused (calls_of (drop (i + 1) items))) (no_call (refused_calls unit classes v.items) line is none)

  -- a thread whose calls all fit
  stands_waiting : (t : ThreadInMemory) (calls : List Invocation) → IsWaiting t calls → refused_calls unit classes calls ≡ [] → ThreadStands unit classes t (waiting_thread calls)
  stands_waiting t calls h none = record {
    calls = sym h.same ∙ ap (λ (o : Option Entering). calls_to_come o t.calls.now) (sym h.uncalled);
    due = subst (λ (o : Option Entering). IsDue o None []) (sym h.uncalled) tt;
    callers = subst (λ (xs : List Activation). CallersStand (last_first xs) []) (sym h.alone) tt;
    loads = subst (λ (cs : List Invocation). IsTrue (list_all (call_loads unit classes) cs)) (sym h.same) (all_pass (call_loads unit classes) calls none);
    tasks = ap tasks_in (sym h.idle);
    work = subst (λ (o : Option Activation). WorkStands o (waiting_thread calls)) (sym h.idle) (refl, refl);
    pending = sym (ap name_of h.calm);
    ending = sym h.unended;
  }

  -- all of them
  pub stand_waiting : (ts : List ThreadInMemory) (threads : List (List Invocation)) → AreWaiting ts threads → refused threads ≡ []
      → ThreadsStand unit classes ts (map waiting_thread threads)
  stand_waiting [] [] h none = tt
  stand_waiting [] (c ∷ cs) h none = absurd h
  stand_waiting (t ∷ ts) [] h none = absurd h
  stand_waiting (t ∷ ts) (c ∷ cs) h none =
      let parts = none_of_both (refused_calls unit classes c) (refused cs) none in
      (stands_waiting t c h.0 parts.0, stand_waiting ts cs h.1 parts.1)

-- ---- threads before their first calls

-- one thread more
pub more_waiting : (items : List (Vec Invocation)) (i : ℕ) (v : Vec Invocation) (old new : List ThreadInMemory) → slice_get items i ≡ Some v → AddsWaiting old v.items new
    → ((rest : List ThreadInMemory) → AreWaiting rest (calls_of (drop i items)) → AreWaiting (old ++ rest) (calls_of items))
    → (rest : List ThreadInMemory) → AreWaiting rest (calls_of (drop (i + 1) items)) → AreWaiting (new ++ rest) (calls_of items)
more_waiting items i v old new at adds before rest h =
    subst (λ (ts : List ThreadInMemory). AreWaiting (ts ++ rest) (calls_of items)) (sym adds.added)
    (subst (λ (ts : List ThreadInMemory). AreWaiting ts (calls_of items)) (sym (append_assoc old (adds.thread ∷ []) rest))
    (before (adds.thread ∷ rest) (subst (λ (vs : List (Vec Invocation)). AreWaiting (adds.thread ∷ rest) (calls_of vs)) (sym (drop_next items i v at)) (adds.waiting, h))))

-- no call is in progress
each_waiting : (ts : List ThreadInMemory) (threads : List (List Invocation)) → AreWaiting ts threads → EachInRange ts
each_waiting [] threads h = tt
each_waiting (t ∷ ts) [] h = absurd h
each_waiting (t ∷ ts) (c ∷ cs) h =
    let first : ThreadInRange t = record {
      work = subst WorkInRange (sym h.0.idle) tt;
      callers = subst (λ (xs : List Activation). AreCalling (last_first xs)) (sym h.0.alone) tt;
      few = omega (arith, ap (λ (xs : List Activation). length xs) h.0.alone);
    } in
    (first, each_waiting ts cs h.1)

pub waiting_range : (ts : List ThreadInMemory) (threads : List (List Invocation)) → AreWaiting ts threads → length ts ≤ 8 → AreInRange ts
waiting_range ts threads h few = record { few = few; each = each_waiting ts threads h }

-- they are as many
pub as_many_waiting : (ts : List ThreadInMemory) (threads : List (List Invocation)) → AreWaiting ts threads → length ts ≡ length threads
as_many_waiting [] [] h = refl
as_many_waiting [] (c ∷ cs) h = absurd h
as_many_waiting (t ∷ ts) [] h = absurd h
as_many_waiting (t ∷ ts) (c ∷ cs) h = ap suc (as_many_waiting ts cs h.1)
