-- The owners of all threads after one more entry, and the threads that agree with them.
use Rattle.std.proofs.Common.{◌≡◌, ◌≢◌, ℕ, zero, suc, ◌+◌, Bool, true, false, List, [], ◌∷◌, ◌++◌, Option, Some, None, refl, ap, ◌∙◌, subst, arith, if◌then◌else◌}
use Rattle.std.specs.Prelude.{◌==◌, slice_get}
use Rattle.std.specs.Option.{option_and_then}
use Rattle.std.proofs.lemmas.Bool.Decides.{Decides-eqb}
use Rattle.syntax.specs.Tree.{SourceUnit}
use Rattle.class_rules.specs.Class.{Classes}
use Rattle.heap.specs.Heap.{Space}
use Rattle.code_meaning.specs.Lowered.{Lowered}
use Rattle.semantics_safety.specs.Owners.{AllOwners, ThreadOwners, after_advance, after_entry, after_turn, no_owners, owners_after, owners_from, with_owners}
use Rattle.semantics.specs.Journal.{Entry, Step, Journal}
use Rattle.semantics.specs.Run.{replay, replay_from}
use Rattle.semantics.specs.Start.{start}
use Rattle.semantics.specs.State.{State, thread_at, in_use}
use Rattle.semantics.specs.Step.{world_step}
use Rattle.semantics.specs.Thread as source
use Rattle.semantics.specs.Thread.{Advance, Shared}
use Rattle.semantics.specs.ThreadStep.{thread_step}
use Rattle.semantics.specs.World.{World}
use Rattle.tables.specs.Elements.{OwnedNumbers}
use Rattle.machine_threads.specs.declared.thread.Thread.{Thread}
use Rattle.machine_threads.specs.ThreadAgrees.{ThreadAgrees, ThreadsAgree}

-- ---- one more entry

owners_more : (unit : SourceUnit) (w : World) (s : State) (owners : AllOwners) (journal : Journal) (e : Entry) (s' : State) → replay_from unit w s journal ≡ Some s'
    → owners_from unit w (Some s) owners (journal ++ e ∷ []) ≡ after_entry unit w.classes s' (owners_from unit w (Some s) owners journal) e
owners_more unit w s owners [] e s' is = let same : s ≡ s' = cc in ap (λ (t : State). after_entry unit w.classes t owners e) same
owners_more unit w s owners (x ∷ journal) e s' is = by_step (world_step unit w s x) is (λ t at. owners_more unit w t (after_entry unit w.classes s owners x) journal e s' at)
  where
    by_step : (o : Option State) → option_and_then (λ (t : State). replay_from unit w t journal) o ≡ Some s'
        → ((t : State) → replay_from unit w t journal ≡ Some s' → owners_from unit w (Some t) (after_entry unit w.classes s owners x) (journal ++ e ∷ []) ≡ after_entry unit w.classes s' (owners_from unit w (Some t) (after_entry unit w.classes s owners x) journal) e)
        → owners_from unit w o (after_entry unit w.classes s owners x) (journal ++ e ∷ []) ≡ after_entry unit w.classes s' (owners_from unit w o (after_entry unit w.classes s owners x) journal) e
    by_step None is further = absurd (cc)
    by_step (Some t) is further = further t is

-- a step of thread k that leaves this
pub owners_stepped : (unit : SourceUnit) (w : World) (journal : Journal) (s : State) (k : ℕ) (refused : Bool) (t : source.Thread) (a : Advance) → replay unit w journal ≡ Some s → thread_at s k ≡ Some t → thread_step unit w.classes (in_use s) k s.shared t refused ≡ a
    → owners_after unit w (journal ++ Step k refused ∷ []) ≡ with_owners (owners_after unit w journal) k (after_advance unit w.classes k s.shared t (owners_after unit w journal k) a)
owners_stepped unit w journal s k refused t a is there steps =
    owners_more unit w (start unit w) (λ k. no_owners) journal (Step k refused) s is
    ∙ ap (after_turn unit w.classes s (owners_after unit w journal) k refused) there
    ∙ ap (λ (x : Advance). with_owners (owners_after unit w journal) k (after_advance unit w.classes k s.shared t (owners_after unit w journal k) x)) steps

pub owner_here : (owners : AllOwners) (k : ℕ) (own : ThreadOwners) → with_owners owners k own k ≡ own
owner_here owners k own = by_test (k == k) ((Decides-eqb k k).1 refl)
  where
    by_test : (b : Bool) → b ≡ true → (if b then own else owners k) ≡ own
    by_test true e = refl
    by_test false e = absurd (cc)

pub owner_elsewhere : (owners : AllOwners) (k : ℕ) (own : ThreadOwners) (j : ℕ) → j ≢ k → with_owners owners k own j ≡ owners j
owner_elsewhere owners k own j other = by_test (j == k) refl
  where
    by_test : (b : Bool) → (j == k) ≡ b → (if b then own else owners j) ≡ owners j
    by_test false e = refl
    by_test true e = absurd (other ((Decides-eqb j k).0 e))

-- ---- threads

module _ (p : Lowered) (classes : Classes) (space : Space) (copies : List (Option OwnedNumbers)) (made : ℕ) (shared : Shared) where
  -- one thread of several
  pub record Found (k : ℕ) (own : ThreadOwners) (t : Thread) (ss : List source.Thread) (i : ℕ) : Type 0 where
    pub source : source.Thread
    pub is : slice_get ss i ≡ Some source
    pub agrees : ThreadAgrees p classes space copies made k own shared t source

  pub found : (owners : AllOwners) (n k : ℕ) (ts : List Thread) (ss : List source.Thread) (i : ℕ) (t : Thread) → k ≡ n + i → ThreadsAgree p classes space copies made owners n shared ts ss → slice_get ts i ≡ Some t → Found k (owners k) t ss i
  found owners n k [] [] i t place h e = absurd (cc)
  found owners n k [] (s ∷ ss) i t place h e = absurd h
  found owners n k (x ∷ ts) [] i t place h e = absurd h
  found owners n k (x ∷ ts) (s ∷ ss) zero t place h e =
      let same : x ≡ t = cc in
      let here : n ≡ k = omega (arith, place) in
      record { source = s; is = refl; agrees = subst (λ (m : ℕ). ThreadAgrees p classes space copies made m (owners m) shared t s) here (subst (λ y. ThreadAgrees p classes space copies made n (owners n) shared y s) same h.0) }
  found owners n k (x ∷ ts) (s ∷ ss) (suc i) t place h e =
      let f = found owners (suc n) k ts ss i t (omega (arith, place)) h.1 e in
      record { source = f.source; is = f.is; agrees = f.agrees }
