-- What holds of the definitions.
use Rattle.std.specs.Prelude.{◌≡◌, ◌↔◌, ℕ, [], ◌∷◌, Contains, Option, Some, None}
use Rattle.syntax.specs.Tree.{SourceUnit}
use Rattle.semantics.specs.declared.schedule.ScheduleWord.TheVariants.{Turn, Collect, Slice}
use Rattle.semantics.specs.Journal.{Journal, clearings_in}
use Rattle.semantics.specs.Schedule.{Schedule}
use Rattle.semantics.specs.World.{World}
use Rattle.semantics.specs.Reachable.{Reachable}
use Rattle.semantics.specs.Run.{EachFrom, Follows}
use Rattle.semantics.specs.State.{State}
use Rattle.semantics.specs.Step.{world_step}
use Rattle.semantics.specs.WeakReferences.{lost, weakly_held}

-- ---- collections

-- the turns and the slices of a schedule
abbrev pub without_collections : Schedule → Schedule
without_collections [] = []
without_collections (Collect ∷ words) = without_collections words
without_collections (Slice ∷ words) = Slice ∷ without_collections words
without_collections (Turn k ∷ words) = Turn k ∷ without_collections words

-- In each state of a journal's replay, from a given one on, what is held weakly can be reached from the roots.
abbrev pub LosesNothing : SourceUnit → World → Option State → Journal → Type 0
LosesNothing unit w None journal = Unit {0}
LosesNothing unit w (Some s) [] = lost w s ≡ []
LosesNothing unit w (Some s) (e ∷ rest) = (lost w s ≡ []) × LosesNothing unit w (world_step unit w s e) rest

-- Where nothing is lost that is held weakly, collections allow no other journals: the same follow a schedule with them and without them, to
-- the same states.
abbrev pub CollectionsAllowTheSame : Type 0
CollectionsAllowTheSame =
    (unit : SourceUnit) (w : World) (s end : State) (journal : Journal) (words : Schedule)
    → LosesNothing unit w (Some s) journal
    → Follows unit w s journal words end ↔ Follows unit w s journal (without_collections words) end

-- ---- slices

-- the turns and the collections of a schedule
abbrev pub without_slices : Schedule → Schedule
without_slices [] = []
without_slices (Collect ∷ words) = Collect ∷ without_slices words
without_slices (Slice ∷ words) = without_slices words
without_slices (Turn k ∷ words) = Turn k ∷ without_slices words

-- A slice may leave all as it is: the journals that follow a schedule without its slices follow it with them, to the same states.
abbrev pub SlicesMayClearNothing : Type 0
SlicesMayClearNothing =
    (unit : SourceUnit) (w : World) (s end : State) (journal : Journal) (words : Schedule)
    → Follows unit w s journal (without_slices words) end → Follows unit w s journal words end

-- Slices allow no other journals than those with clearings: one that has none follows a schedule with slices only as it follows it
-- without them, to the same state.
abbrev pub SlicesAllowClearings : Type 0
SlicesAllowClearings =
    (unit : SourceUnit) (w : World) (s end : State) (journal : Journal) (words : Schedule)
    → clearings_in journal ≡ 0
    → Follows unit w s journal words end → Follows unit w s journal (without_slices words) end

-- what is held weakly can be reached from the roots
abbrev pub HeldAreReached : World → State → Type 0
HeldAreReached w s = (n : ℕ) → Contains (weakly_held s.shared.statics) n → Reachable w s n

-- Where that holds in each state of a journal's replay that an entry follows, slices allow no other journals: the same follow a schedule
-- with them and without them, to the same states. That nothing is lost says less of a state that no run has, where what is held weakly
-- is no object.
abbrev pub SlicesAllowTheSame : Type 0
SlicesAllowTheSame =
    (unit : SourceUnit) (w : World) (s end : State) (journal : Journal) (words : Schedule)
    → EachFrom unit w (λ t e. HeldAreReached w t) (Some s) journal
    → Follows unit w s journal words end ↔ Follows unit w s journal (without_slices words) end
