-- What a step of one thread is, and what it leaves of the others' parts.
use Rattle.std.specs.Prelude.{◌≡◌, ◌≢◌, ◌⊎◌, ℕ, ℤ, Bool, List, ◌∷◌, [], ◌++◌, Some, None, IsSome, false, true, ◌≤◌}
use Rattle.syntax.specs.Tree.{SourceUnit}
use Rattle.class_rules.specs.Class.{Classes}
use Rattle.semantics.specs.Journal.{Step, Clearing, Journal, steps_in, clearings_in}
use Rattle.semantics.specs.World.{World}
use Rattle.semantics.specs.Run.{replay, account}
use Rattle.semantics.specs.State.{State, thread_at}
use Rattle.semantics.specs.Step.{is_blocked, is_live, turn_step, clearing_step}
use Rattle.semantics.specs.WeakReferences.{lost}

-- an entry of one thread, marked or not, changes no other thread's part in the journal
abbrev pub OthersStay : Type 0
OthersStay =
    (unit : SourceUnit) (w : World) (journal : Journal) (k : ℕ) (refused : Bool) (other : ℕ)
    → IsSome (replay unit w (journal ++ Step k refused ∷ [])) → other ≢ k
    → account unit w (journal ++ Step k refused ∷ []) other ≡ account unit w journal other

-- a clearing changes no thread's part
abbrev pub ClearingsStay : Type 0
ClearingsStay =
    (unit : SourceUnit) (w : World) (journal : Journal) (names : List ℕ) (k : ℕ) → IsSome (replay unit w (journal ++ Clearing names ∷ []))
    → account unit w (journal ++ Clearing names ∷ []) k ≡ account unit w journal k

-- there are no more clearings than steps, as each clears a weak reference that a step has set
abbrev pub ClearingsAreFew : Type 0
ClearingsAreFew = (unit : SourceUnit) (w : World) (journal : Journal) → IsSome (replay unit w journal) → clearings_in journal ≤ steps_in journal

-- the clearing of all that is lost is possible, where something is, and leaves nothing lost
abbrev pub LostAreCleared : Type 0
LostAreCleared = (w : World) (s : State) → lost w s ≢ [] → (next : State) × (clearing_step w s (lost w s) ≡ Some next) × (lost w next ≡ [])

-- thread k can step: no trap has stopped the machine, and it has neither ended nor waits
pub record MayStep (classes : Classes) (s : State) (k : ℕ) : Type 0 where
  pub running : s.stop ≡ None
  pub live : is_live (thread_at s k) ≡ true
  pub free : is_blocked classes s k ≡ false

-- a step is of a thread that can step
abbrev pub StepsMay : Type 0
StepsMay = (unit : SourceUnit) (classes : Classes) (s next : State) (k : ℕ) (refused : Bool)
    → turn_step unit classes s k refused ≡ Some next → MayStep classes s k

-- A step of thread k prints nothing, or one number of its own, behind those printed before.
abbrev pub Prints : (s : State) (k : ℕ) (next : State) → Type 0
Prints s k next = (next.printed ≡ s.printed) ⊎ ((z : ℤ) × (next.printed ≡ s.printed ++ record { thread = k; number = z } ∷ []))

-- a step prints at most one number
abbrev pub StepsPrint : Type 0
StepsPrint = (unit : SourceUnit) (classes : Classes) (s next : State) (k : ℕ) (refused : Bool)
    → turn_step unit classes s k refused ≡ Some next → Prints s k next
