-- What a clearing does to the state that a state in memory stands for, and whether it is possible.
use Rattle.std.proofs.Common.{◌≡◌, ℕ, Bool, true, false, cond, List, ◌++◌, Some, None, refl, sym, ap, ◌∙◌, append_assoc}
use Rattle.std.specs.Prelude.{not, ◌&&◌, filter}
use Rattle.std.specs.List.{list_all, list_any}
use Rattle.std.specs.Option.{option_map}
use Rattle.base.proofs.Truths.{same_truth}
use Rattle.syntax.specs.Tree.{SourceUnit}
use Rattle.reachability.specs.Marks.{is_marked}
use Rattle.report_objects.specs.Names.{MarksReached}
use Rattle.semantics.specs.EventViews.{stop_view}
use Rattle.semantics.specs.Heap.{Heap}
use Rattle.semantics.specs.Journal as entry
use Rattle.semantics.specs.Reachable.{from_one, is_in, loaded_count, reached, roots}
use Rattle.semantics.specs.State.{State}
use Rattle.semantics.specs.Step.{clearing_step}
use Rattle.semantics.specs.Thread.{Shared}
use Rattle.semantics.specs.WeakReferences.{are_rising, cleared_statics, may_clear, weakly_held, with_cleared}
use Rattle.semantics.specs.World.{World}
use Rattle.semantics.proofs.ReachableLemmas.{contains_in, reached_lists, to_contains}
use Rattle.replay_arguments.specs.Shares.{shared_view}
use Rattle.replay_threads.specs.declared.state.State.{State as StateInMemory}
use Rattle.replay_threads.specs.Rows.{root_names}
use Rattle.replay_threads.specs.States.{Leads, Stands}
use Rattle.replay_threads.proofs.RootLemmas.{roots_are}

-- marks tell what is reached
marked_is : (heap : Heap) (from : List ℕ) (marks : List Bool) → MarksReached heap from marks → (n : ℕ) → is_marked marks n ≡ is_in (reached heap from) n
marked_is heap from marks h n =
    let lists = reached_lists heap from in
    same_truth (is_marked marks n) (is_in (reached heap from) n)
    (λ m. contains_in (reached heap from) n (lists.complete n (h.sound n m)))
    (λ k. h.complete n (lists.sound n (to_contains (reached heap from) n k)))

some_marked_is : (heap : Heap) (from : List ℕ) (marks : List Bool) → MarksReached heap from marks → (names : List ℕ) → list_any (is_marked marks) names ≡ list_any (is_in (reached heap from)) names
some_marked_is heap from marks h names = λ i. list_any (λ n. marked_is heap from marks h n i) names

module _ (unit : SourceUnit) (w : World) (m : StateInMemory) (s : State) (h : Stands unit w m s) (names : List ℕ) where
  held_are : weakly_held s.shared.statics ≡ weakly_held m.shared.statics
  held_are = ap (λ (x : Shared). weakly_held x.statics) h.shared

  -- names that don't rise
  pub unrising : are_rising names ≡ false → false ≡ may_clear w s names
  unrising is = fails (are_rising names) (list_all (is_in (weakly_held s.shared.statics)) names) _ is
    where
      fails : (a b c : Bool) → a ≡ false → false ≡ (a && b && c)
      fails true b c e = absurd (cc)
      fails false b c e = refl

  -- one that isn't held weakly
  pub unheld : (held : List ℕ) → held ≡ weakly_held m.shared.statics → list_all (is_in held) names ≡ false → false ≡ may_clear w s names
  unheld held are is =
      fails (are_rising names) (list_all (is_in (weakly_held s.shared.statics)) names) _
      (ap (λ (l : List ℕ). list_all (is_in l) names) (held_are ∙ sym are) ∙ is)
    where
      fails : (a b c : Bool) → b ≡ false → false ≡ (a && b && c)
      fails true true c e = absurd (cc)
      fails true false c e = refl
      fails false b c e = refl

  -- the others as the marks say
  pub by_marks : (held from : List ℕ) (loaded : ℕ) (marks : List Bool) → are_rising names ≡ true → held ≡ weakly_held m.shared.statics → list_all (is_in held) names ≡ true
      → from ≡ root_names (shared_view m.shared) m.threads.items ++ filter (λ n. not (is_in names n)) held → loaded ≡ loaded_count w → MarksReached m.shared.store (from_one loaded ++ from) marks
      → not (list_any (is_marked marks) names) ≡ may_clear w s names
  by_marks held from loaded marks rise are among is counted told =
      let beside = filter (λ n. not (is_in names n)) held in
      let roots_here : from_one loaded ++ from ≡ roots w s ++ filter (λ n. not (is_in names n)) (weakly_held s.shared.statics) =
      ap (λ n. from_one n ++ from) counted
      ∙ ap (λ (l : List ℕ). from_one (loaded_count w) ++ l) is
      ∙ sym (append_assoc (from_one (loaded_count w)) (root_names (shared_view m.shared) m.threads.items) beside)
      ∙ ap (λ (l : List ℕ). l ++ beside) (sym (roots_are unit w m s h))
      ∙ ap (λ (l : List ℕ). roots w s ++ filter (λ n. not (is_in names n)) l) (are ∙ sym held_are) in
      let heap_here : m.shared.store ≡ s.shared.heap = sym (ap (λ (x : Shared). x.heap) h.shared) in
      let any : list_any (is_marked marks) names ≡ list_any (is_in (reached s.shared.heap (roots w s ++ filter (λ n. not (is_in names n)) (weakly_held s.shared.statics)))) names =
      some_marked_is m.shared.store (from_one loaded ++ from) marks told names
      ∙ ap (λ (l : List ℕ). list_any (is_in (reached m.shared.store l)) names) roots_here
      ∙ ap (λ (x : Heap). list_any (is_in (reached x (roots w s ++ filter (λ n. not (is_in names n)) (weakly_held s.shared.statics)))) names) heap_here in
      decides (are_rising names) (list_all (is_in (weakly_held s.shared.statics)) names) _ _ rise (ap (λ (l : List ℕ). list_all (is_in l) names) (held_are ∙ sym are) ∙ among) any
    where
      decides : (a b x y : Bool) → a ≡ true → b ≡ true → x ≡ y → not x ≡ (a && b && not y)
      decides true true x y rises holds same = ap not same
      decides true false x y rises holds same = absurd (cc)
      decides false b x y rises holds same = absurd (cc)

  -- what may not be cleared
  pub refuses : (new : StateInMemory) → false ≡ may_clear w s names → Leads unit w s (entry.Clearing names) new false
  unfolding clearing_step
  refuses new is = ap (λ b. cond b (Some (with_cleared names s)) None) (sym is)

  -- what may
  pub clears : (new : StateInMemory) → true ≡ may_clear w s names → new.world ≡ m.world → new.threads ≡ m.threads → new.printed ≡ m.printed → new.stop ≡ m.stop
      → shared_view new.shared ≡ record (shared_view m.shared) { statics = cleared_statics names m.shared.statics }
      → Leads unit w s (entry.Clearing names) new true
  unfolding clearing_step
  clears new is world threads printed stop shared = (
    with_cleared names s,
    ap (λ b. cond b (Some (with_cleared names s)) None) (sym is),
    record {
      world = h.world ∙ ap (λ b. b.now) (sym world);
      shared = ap (λ (x : Shared). let y : Shared = record x { statics = cleared_statics names x.statics } in y) h.shared ∙ sym shared;
      threads = rw threads h.threads;
      printed = h.printed ∙ ap (λ v. v.items) (sym printed);
      stop = h.stop ∙ ap (λ o. option_map stop_view o) (sym stop);
    },
  )
