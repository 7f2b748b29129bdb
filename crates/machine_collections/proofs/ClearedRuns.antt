-- A journal that goes on with a clearing.
use Rattle.std.proofs.Common.{◌≡◌, ◌≢◌, ℕ, suc, Bool, true, false, if◌then◌else◌, List, [], ◌∷◌, ◌++◌, append-nil, Option, Some, None, refl, sym, ap, ◌∙◌, subst}
use Rattle.syntax.specs.Tree.{SourceUnit}
use Rattle.semantics.specs.Journal.{Entry, Step, Clearing, Journal, steps_in}
use Rattle.semantics.specs.Run.{EachFrom, MarkedAreFair, UnmarkedFit, replay}
use Rattle.semantics.specs.Start.{start}
use Rattle.semantics.specs.State.{State}
use Rattle.semantics.specs.Step.{clearing_step, world_step}
use Rattle.semantics.specs.Variable.{Empty, Live, Weakly, Cleared, Deleted, Statics}
use Rattle.semantics.specs.WeakReferences.{cleared_statics, lost, may_clear, with_cleared}
use Rattle.semantics.specs.World.{World}
use Rattle.semantics.proofs.RunLaws.{each-more, replay_more}
use Rattle.semantics.proofs.WeakLaws.{lost_are_cleared}
use Rattle.semantics_safety.specs.Owners.{AllOwners, after_entry, no_owners, owners_after, owners_from}
use Rattle.machine_collections.specs.Clearing.{clearing_of}

-- where nothing is cleared, nothing changes
none_cleared : (statics : Statics) → cleared_statics [] statics ≡ statics
none_cleared [] = refl
none_cleared ((x, Empty) ∷ statics) = ap (λ (l : Statics). (x, Empty) ∷ l) (none_cleared statics)
none_cleared ((x, Live n) ∷ statics) = ap (λ (l : Statics). (x, Live n) ∷ l) (none_cleared statics)
none_cleared ((x, Weakly n) ∷ statics) = ap (λ (l : Statics). (x, Weakly n) ∷ l) (none_cleared statics)
none_cleared ((x, Cleared) ∷ statics) = ap (λ (l : Statics). (x, Cleared) ∷ l) (none_cleared statics)
none_cleared ((x, Deleted) ∷ statics) = ap (λ (l : Statics). (x, Deleted) ∷ l) (none_cleared statics)

pub same_state : (s : State) → with_cleared [] s ≡ s
same_state s = ap (λ (l : Statics). let t : State = record s { shared = record s.shared { statics = l } } in t) (none_cleared s.shared.statics)

-- a clearing that is possible leaves nothing but that
pub clears_to : (w : World) (s : State) (names : List ℕ) (next : State) → clearing_step w s names ≡ Some next → next ≡ with_cleared names s
unfolding clearing_step
clears_to w s names next h = by_test (may_clear w s names) h
  where
    by_test : (b : Bool) → (if b then Some (with_cleared names s) else None) ≡ Some next → next ≡ with_cleared names s
    by_test true e = let same : with_cleared names s ≡ next = cc in sym same
    by_test false e = absurd (cc)

module _ (unit : SourceUnit) (w : World) where
  -- The state that it leads to, where the clearing is possible.
  pub replays_with : (journal : Journal) (s : State) (names : List ℕ) → (names ≢ [] → clearing_step w s names ≡ Some (with_cleared names s)) → replay unit w journal ≡ Some s → replay unit w (journal ++ clearing_of names) ≡ Some (with_cleared names s)
  replays_with journal s [] possible h = ap (replay unit w) (append-nil journal) ∙ h ∙ ap (λ (t : State). Some t) (sym (same_state s))
  replays_with journal s (n ∷ names) possible h = replay_more unit w journal (Clearing (n ∷ names)) s (with_cleared (n ∷ names) s) h (possible (λ none. (let both : n ∷ names ≡ [] = none in cc)))

  -- that of all that is lost is
  pub replays_cleared : (journal : Journal) (s : State) → replay unit w journal ≡ Some s → replay unit w (journal ++ clearing_of (lost w s)) ≡ Some (with_cleared (lost w s) s)
  replays_cleared journal s h = replays_with journal s (lost w s) (λ some. let c = lost_are_cleared w s some in c.1 ∙ ap (λ (t : State). Some t) (clears_to w s (lost w s) c.0 c.1)) h

  -- what holds of each entry, and of a clearing always
  each_cleared : (Holds : State → Entry → Type 0) → ((s : State) (names : List ℕ) → Holds s (Clearing names)) → (o : Option State) (journal : Journal) (names : List ℕ) → EachFrom unit w Holds o journal → EachFrom unit w Holds o (journal ++ clearing_of names)
  each_cleared Holds always o journal [] h = subst (EachFrom unit w Holds o) (sym (append-nil journal)) h
  each_cleared Holds always o journal (n ∷ names) h = each-more unit w Holds o journal (Clearing (n ∷ names)) h (λ s e. always s (n ∷ names))

  pub fits_cleared : (journal : Journal) (names : List ℕ) → UnmarkedFit unit w journal → UnmarkedFit unit w (journal ++ clearing_of names)
  fits_cleared journal names h = each_cleared _ (λ s l. tt) (Some (start unit w)) journal names h

  pub fair_cleared : (journal : Journal) (names : List ℕ) → MarkedAreFair unit w journal → MarkedAreFair unit w (journal ++ clearing_of names)
  fair_cleared journal names h = each_cleared _ (λ s l. tt) (Some (start unit w)) journal names h

  -- no variable gets another owner
  same_owners : (journal : Journal) (o : Option State) (owners : AllOwners) (names : List ℕ) → owners_from unit w o owners (journal ++ Clearing names ∷ []) ≡ owners_from unit w o owners journal
  same_owners [] None owners names = refl
  same_owners [] (Some s) owners names = refl
  same_owners (e ∷ journal) None owners names = refl
  same_owners (e ∷ journal) (Some s) owners names = same_owners journal (world_step unit w s e) (after_entry unit w.classes s owners e) names

  pub owners_cleared : (journal : Journal) (names : List ℕ) → owners_after unit w (journal ++ clearing_of names) ≡ owners_after unit w journal
  owners_cleared journal [] = ap (owners_after unit w) (append-nil journal)
  owners_cleared journal (n ∷ names) = same_owners journal (Some (start unit w)) (λ k. no_owners) (n ∷ names)

-- a clearing is no step
pub steps_cleared : (journal : Journal) (names : List ℕ) → steps_in (journal ++ clearing_of names) ≡ steps_in journal
steps_cleared journal [] = ap steps_in (append-nil journal)
steps_cleared [] (n ∷ names) = refl
steps_cleared (Step k refused ∷ journal) (n ∷ names) = ap suc (steps_cleared journal (n ∷ names))
steps_cleared (Clearing l ∷ journal) (n ∷ names) = steps_cleared journal (n ∷ names)
