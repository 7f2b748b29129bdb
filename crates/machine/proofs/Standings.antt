-- The threads in memory one after another, each with its thread of the source: how they stand, and whether they rest.
use Rattle.std.proofs.Common.{◌≡◌, ℕ, zero, suc, ◌+◌, ◌≤◌, Bool, true, false, List, [], ◌∷◌, ◌++◌, length, take, Option, Some, refl, sym, ap, ◌∙◌, subst, arith}
use Rattle.std.specs.Prelude.{slice_get, ◌||◌, ◌&&◌, not}
use Rattle.std.specs.List.{list_all, enumerate_from}
use Rattle.std.specs.Option.{option_map}
use Rattle.std.proofs.lemmas.List.{length-map, take_all}
use Rattle.std.proofs.lemmas.Option.{slice_get-map}
use Rattle.std.proofs.lemmas.List.FromFn.{length-enumerate_from}
use Rattle.base.proofs.Lists.{take_next}
use Rattle.syntax.specs.Views.{unit_tree}
use Rattle.semantics.specs.Journal.{Entry}
use Rattle.semantics.specs.declared.printed.Printed.{Printed}
use Rattle.semantics.specs.Report.{ThreadStanding}
use Rattle.semantics.specs.ReportOf.{standing_at, standing_of}
use Rattle.semantics.specs.State.{State}
use Rattle.semantics.specs.Step.{is_blocked, is_unfinished}
use Rattle.semantics.specs.Thread as source
use Rattle.semantics.specs.World.{World, loaded_objects}
use Rattle.semantics_safety.specs.Owners.{owners_after}
use Rattle.heap.specs.Layout.{layout_of}
use Rattle.code_meaning.specs.Lowered.{Lowered}
use Rattle.machine_scenes.specs.declared.store.Store.{Store}
use Rattle.machine_threads.specs.declared.thread.Thread.{Thread}
use Rattle.machine_threads.proofs.ThreadLoads.{agree_length}
use Rattle.semantics.specs.EventViews.{stop_view}
use Rattle.semantics.specs.declared.event.Stop.{Stop}
use Rattle.machine.specs.Run.{Run, Corresponds, InState, Waits, AllRest, ShowsStandings, all_rest, is_resting, standings_in, slices_of}
use Rattle.machine.proofs.OwnerSteps.{Found, found}

-- ---- lists

numbered_at : (ss : List source.Thread) (n i : ℕ) (x : source.Thread) → slice_get ss i ≡ Some x → slice_get (enumerate_from n ss) i ≡ Some (n + i, x)
numbered_at [] n i x h = absurd (cc)
numbered_at (y ∷ ss) n zero x h =
    let same : y ≡ x = cc in
    let place : n ≡ n + 0 = omega arith in
    λ j. Some (place j, same j)
numbered_at (y ∷ ss) n (suc i) x h =
    let place : n + 1 + i ≡ n + suc i = omega arith in
    numbered_at ss (n + 1) i x h ∙ ap (λ (k : ℕ). Some (k, x)) place

all_more : {X : Type 0} (p : X → Bool) (xs : List X) (i : ℕ) (x : X) → slice_get xs i ≡ Some x → p x ≡ true → list_all p (take i xs) ≡ true → list_all p (take (suc i) xs) ≡ true
all_more p [] i x h one so_far = absurd (cc)
all_more p (y ∷ xs) zero x h one so_far = let same : x ≡ y = cc in ap (λ b. b && true) (ap p (sym same) ∙ one)
all_more p (y ∷ xs) (suc i) x h one so_far = by_test (p y) so_far (all_more p xs i x h one)
  where
    by_test : (b : Bool) → (b && list_all p (take i xs)) ≡ true → (list_all p (take i xs) ≡ true → list_all p (take (suc i) xs) ≡ true) → (b && list_all p (take (suc i) xs)) ≡ true
    by_test true e further = further e
    by_test false e further = absurd (cc)

one_fails : {X : Type 0} (p : X → Bool) (xs : List X) (i : ℕ) (x : X) → slice_get xs i ≡ Some x → p x ≡ false → list_all p xs ≡ false
one_fails p [] i x h one = absurd (cc)
one_fails p (y ∷ xs) zero x h one = let same : x ≡ y = cc in ap (λ b. b && list_all p xs) (ap p (sym same) ∙ one)
one_fails p (y ∷ xs) (suc i) x h one = ap (λ b. p y && b) (one_fails p xs i x h one) ∙ none (p y)
  where
    none : (b : Bool) → (b && false) ≡ false
    none true = refl
    none false = refl

-- ---- one thread of several

module _ (p : Lowered) (world : World) (store : Store) (ts : List Thread) (printed : List Printed) (stop : Option Stop) (journal : List Entry) (c : Corresponds p world store ts printed stop journal) (now : Run)
    (view : ◌≡◌ {A = Run} (record { unit = p.unit; world = world; journal = journal; layout = layout_of store.heap; slices = slices_of store.heap.marking }) now) where
  abbrev seen : Run
  seen = record { unit = p.unit; world = world; journal = journal; layout = layout_of store.heap; slices = slices_of store.heap.marking }

  -- a fact of the state is one of the run, and the other way round
  pub told : (P : Run → State → Type 0) → P seen c.state → InState now (P now)
  told P h = subst (λ (r : Run). InState r (P r)) view (c.state, c.replays, h)

  known : (P : Run → State → Type 0) → InState now (P now) → P seen c.state
  known P h =
      let here : InState seen (P seen) = subst (λ (r : Run). InState r (P r)) (sym view) h in
      let same : here.0 ≡ c.state = cc (here.1, c.replays) in
      subst (P seen) same here.2

  -- whether thread k waits
  pub waits_known : (k : ℕ) (waits : Bool) → Waits now k waits → waits ≡ is_blocked world.classes c.state k
  waits_known k waits h = known (λ r s. waits ≡ is_blocked r.world.classes s k) h

  abbrev standings_told : List ThreadStanding → ℕ → Type 0
  standings_told standings i = InState now (λ s. standings ≡ take i (standings_in now.world.classes s))

  abbrev rest_told : ℕ → Type 0
  rest_told i = InState now (λ s. list_all (is_resting now.world.classes s) (take i (enumerate_from 1 s.threads)) ≡ true)

  pub no_standings : standings_told [] 0
  no_standings = told (λ r s. [] ≡ take 0 (standings_in r.world.classes s)) refl

  pub none_rest : rest_told 0
  none_rest = told (λ r s. list_all (is_resting r.world.classes s) (take 0 (enumerate_from 1 s.threads)) ≡ true) refl

  -- as many as there are in memory
  all_numbered : (i : ℕ) → length ts ≤ i → length (enumerate_from 1 c.state.threads) ≤ i
  all_numbered i past =
      let same = agree_length p world.classes store.heap store.elements (length (loaded_objects world)) (owners_after (unit_tree p.unit) world journal) 1 c.state.shared ts c.state.threads c.threads_agree in
      omega (arith, past, same, length-enumerate_from 1 c.state.threads)

  -- all standings are told
  pub all_standings : (standings : List ThreadStanding) (i : ℕ) → length ts ≤ i → standings_told standings i → ShowsStandings now standings
  all_standings standings i past h =
      let before : standings ≡ take i (standings_in world.classes c.state) = known (λ r s. standings ≡ take i (standings_in r.world.classes s)) h in
      let f : ℕ × source.Thread → ThreadStanding = λ x. standing_of world.classes c.state x.0 x.1 c.state.stop in
      told (λ r s. standings ≡ standings_in r.world.classes s)
      (before ∙ take_all i (standings_in world.classes c.state) (omega (arith, all_numbered i past, length-map (enumerate_from 1 c.state.threads) f)))

  -- all threads rest
  pub all_resting : (i : ℕ) → length ts ≤ i → rest_told i → AllRest now true
  all_resting i past h =
      let before = known (λ r s. list_all (is_resting r.world.classes s) (take i (enumerate_from 1 s.threads)) ≡ true) h in
      told (λ r s. true ≡ all_rest r.world.classes s) (sym before ∙ ap (list_all (is_resting world.classes c.state)) (take_all i (enumerate_from 1 c.state.threads) (all_numbered i past)))

  module _ (k i : ℕ) (t : Thread) (counted : k ≡ suc i) (at : slice_get ts i ≡ Some t) (waits : Bool) (known_waits : Waits now k waits) where
    the_thread : Found p world.classes store.heap store.elements (length (loaded_objects world)) c.state.shared k (owners_after (unit_tree p.unit) world journal k) t c.state.threads i
    the_thread = found p world.classes store.heap store.elements (length (loaded_objects world)) c.state.shared (owners_after (unit_tree p.unit) world journal) 1 k ts c.state.threads i t (omega (arith, counted)) c.threads_agree at

    blocked : waits ≡ is_blocked world.classes c.state k
    blocked = waits_known k waits known_waits

    placed : slice_get (enumerate_from 1 c.state.threads) i ≡ Some (k, the_thread.source)
    placed = let number : 1 + i ≡ k = omega (arith, counted) in numbered_at c.state.threads 1 i the_thread.source the_thread.is ∙ ap (λ (n : ℕ). Some (n, the_thread.source)) number

    standing_same : standing_of world.classes c.state k the_thread.source c.state.stop ≡ standing_at world.classes waits (option_map stop_view stop) k t.ending
    standing_same = λ j. standing_at world.classes (sym blocked j) (c.same_stop j) k (the_thread.agrees.ending j)

    -- one standing more
    pub standing_more : (standings : List ThreadStanding) → standings_told standings i → standings_told (standings ++ standing_at world.classes waits (option_map stop_view stop) k t.ending ∷ []) (i + 1)
    standing_more standings h =
        let before : standings ≡ take i (standings_in world.classes c.state) = known (λ r s. standings ≡ take i (standings_in r.world.classes s)) h in
        let f : ℕ × source.Thread → ThreadStanding = λ x. standing_of world.classes c.state x.0 x.1 c.state.stop in
        told (λ r s. (standings ++ standing_at world.classes waits (option_map stop_view stop) k t.ending ∷ []) ≡ take (i + 1) (standings_in r.world.classes s))
        (ap (λ (l : List ThreadStanding). l ++ standing_at world.classes waits (option_map stop_view stop) k t.ending ∷ []) before
        ∙ ap (λ (x : ThreadStanding). take i (standings_in world.classes c.state) ++ x ∷ []) (sym standing_same)
        ∙ sym (take_next (standings_in world.classes c.state) i (f (k, the_thread.source)) (slice_get-map f (enumerate_from 1 c.state.threads) i ∙ ap (option_map f) placed)))

    resting_same : is_resting world.classes c.state (k, the_thread.source) ≡ (not (is_unfinished t.ending) || waits)
    resting_same = λ j. not (is_unfinished (the_thread.agrees.ending j)) || sym blocked j

    -- one more that rests
    pub rest_more : (not (is_unfinished t.ending) || waits) ≡ true → rest_told i → rest_told (i + 1)
    rest_more rests h =
        let before = known (λ r s. list_all (is_resting r.world.classes s) (take i (enumerate_from 1 s.threads)) ≡ true) h in
        let next : suc i ≡ i + 1 = omega arith in
        subst rest_told next
        (told (λ r s. list_all (is_resting r.world.classes s) (take (suc i) (enumerate_from 1 s.threads)) ≡ true)
        (all_more (is_resting world.classes c.state) (enumerate_from 1 c.state.threads) i (k, the_thread.source) placed (resting_same ∙ rests) before))

    -- one that doesn't
    pub goes_on : (not (is_unfinished t.ending) || waits) ≡ false → AllRest now false
    goes_on moves = told (λ r s. false ≡ all_rest r.world.classes s) (sym (one_fails (is_resting world.classes c.state) (enumerate_from 1 c.state.threads) i (k, the_thread.source) placed (resting_same ∙ moves)))

  -- one more that has ended, whether it waits or not
  pub ended_more : (k i : ℕ) (t : Thread) → k ≡ suc i → slice_get ts i ≡ Some t → is_unfinished t.ending ≡ false → rest_told i → rest_told (i + 1)
  ended_more k i t counted at over =
      let waits : Bool = is_blocked world.classes c.state k in
      rest_more k i t counted at waits (told (λ r s. waits ≡ is_blocked r.world.classes s k) refl) (ap (λ b. not b || waits) over)
