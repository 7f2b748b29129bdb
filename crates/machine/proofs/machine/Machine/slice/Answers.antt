use Rattle.std.proofs.Common.{rules, ◌≡◌, ◌++◌, ℕ, List, sym, ap, ◌∙◌, subst, refl}
use Rattle.std.proofs.lemmas.List.{with_items_is, places}
use Rattle.semantics.specs.Journal.{Entry}
use Rattle.semantics.specs.Views.{names_of}
use Rattle.machine_threads.specs.declared.thread.Thread.{Thread}
use Rattle.machine_collections.specs.Clearing.{clearing_of}
use Rattle.machine_collections.specs.Moving.{AreReferred}
use Rattle.machine_collections.specs.Slices.{AreSliced}
use Rattle.machine.specs.Run.{Corresponds, IsSliced, Run, seen}
use Rattle.machine.proofs.Sliced.{run_sliced, stands_sliced}
use Rattle.machine.proofs.Moved.{are_referred}
use Rattle.machine.proofs.machine.Machine.slice.Goals as goal
use Rattle.machine.proofs.machine.Machine.slice.Goals.{After-push_clearing}

pub slice_blocks-requires : goal.slice_blocks-requires
slice_blocks-requires c = subst (λ (ts : List Thread). AreReferred c.self.inside.store ts) (sym c.deref_mut.ensures.value) (are_referred _ _ _ _ _ _ _ c.self.invariant)

-- the journal stays where host memory was refused to it
pub invariant_of-self : goal.invariant_of-self
invariant_of-self c =
    let i = c.self.inside in
    subst (λ (j : List Entry). Corresponds i.program i.world i.store i.threads.items i.printed.items i.stop j) (sym c.reserve_clearing.ensures.same) c.self.invariant

-- the objects whose weak references were cleared
abbrev cleared : After-push_clearing → List ℕ
cleared c = names_of c.in_ok-gone.gone.items

sliced : (c : After-push_clearing) → AreSliced c.self.inside.store c.self.inside.threads.items c.slice_blocks.new.store c.slice_blocks.new.threads
sliced c = subst (λ (ts : List Thread). AreSliced c.self.inside.store ts c.slice_blocks.new.store c.slice_blocks.new.threads) c.deref_mut.ensures.value c.in_ok-gone.ensures.ok

-- they are told
told : (c : After-push_clearing) → c.push_clearing.new.self.entries ≡ c.self.inside.journal.entries ++ clearing_of (cleared c)
told c = c.push_clearing.ensures.entries ∙ ap (λ (j : List Entry). j ++ clearing_of (cleared c)) c.reserve_clearing.ensures.same

pub invariant_of-self-2 : goal.invariant_of-self-2
invariant_of-self-2 c =
    let a = (goal.at.invariant_of-self-2 c).After-push_clearing in
    let i = c.self.inside in
    let after = c.slice_blocks.new.store in
    let later = c.slice_blocks.new.threads in
    subst (λ (ts : List Thread). Corresponds i.program i.world after ts i.printed.items i.stop c.push_clearing.new.self.entries) (sym (with_items_is i.threads later (search (rules, places))))
    (subst (λ (j : List Entry). Corresponds i.program i.world after later i.printed.items i.stop j) (sym (told a))
    (stands_sliced _ _ _ _ _ _ _ c.self.invariant after later (cleared a) (sliced a) c.in_ok-gone.ensures.cleared))

pub returns-clause-ok : goal.returns-clause-ok
returns-clause-ok c =
    let a = (goal.at.returns-clause-ok c).After-push_clearing in
    let i = c.self.inside in
    let after = c.slice_blocks.new.store in
    subst (λ (j : List Entry). IsSliced c.args.self.now (seen i.program i.world after j)) (sym (told a))
    (subst (λ (r : Run). IsSliced r (seen i.program i.world after (i.journal.entries ++ clearing_of (cleared a)))) c.self.view_is (run_sliced _ _ _ _ _ _ _ c.self.invariant after c.slice_blocks.new.threads (cleared a) (sliced a) c.in_ok-gone.ensures.cleared))

pub returns-clause-runs : goal.returns-clause-runs
returns-clause-runs c = rw (invariant_of-self-2 c).replays refl
