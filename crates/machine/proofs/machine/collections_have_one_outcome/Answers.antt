use Rattle.std.proofs.Common.{◌≡◌, ◌⊎◌, ◌++◌, ℕ, Bool, true, false, inl, inr, List, Contains, None, refl, sym, ap, ◌∙◌, subst}
use Rattle.std.proofs.lemmas.Bool.{false≢true}
use Rattle.heap.specs.Layout.{Layout}
use Rattle.semantics.specs.Reachable.{Reachable, is_in}
use Rattle.semantics.specs.State.{State, views}
use Rattle.semantics.specs.WeakReferences.{lost}
use Rattle.machine_collections.specs.Clearing.{clearing_of}
use Rattle.semantics.proofs.ReachableLemmas.{contains_in, to_contains}
use Rattle.machine_collections.specs.Packing.{IsPacked}
use Rattle.machine_collections.proofs.OnePacking.{packed_once}
use Rattle.machine.specs.Run.{Run}
use Rattle.machine.proofs.machine.collections_have_one_outcome.Goals as goal

-- a number is in a list, or not
listed : (xs : List ℕ) (n : ℕ) → Contains xs n ⊎ ¬ (Contains xs n)
listed xs n = by_test (is_in xs n) refl
  where
    by_test : (b : Bool) → is_in xs n ≡ b → Contains xs n ⊎ ¬ (Contains xs n)
    by_test true e = inl (to_contains xs n e)
    by_test false e = inr (λ c. false≢true (sym e ∙ contains_in xs n c))

pub returns : goal.returns
returns c old new other orderly first second =
    let one : first.state ≡ orderly.state = cc (sym first.replays, orderly.replays) in
    let two : second.state ≡ orderly.state = cc (sym second.replays, orderly.replays) in
    let p = subst (λ (s : State). IsPacked (Reachable old.world s) (Contains (views s)) old.layout new.layout) one first.packed in
    let q = subst (λ (s : State). IsPacked (Reachable old.world s) (Contains (views s)) old.layout other.layout) two second.packed in
    let same = packed_once (Reachable old.world orderly.state) (Contains (views orderly.state)) old.layout orderly.rising (listed (views orderly.state)) orderly.viewed new.layout other.layout p q in
    first.same
    ∙ ap (λ (s : State). let r : Run = record old { journal = old.journal ++ clearing_of (lost old.world s); layout = new.layout; slices = None } in r) (one ∙ sym two)
    ∙ ap (λ (l : Layout). let r : Run = record old { journal = old.journal ++ clearing_of (lost old.world second.state); layout = l; slices = None } in r) same
    ∙ sym second.same
