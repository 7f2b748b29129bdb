-- Objects are typed in each run of an accepted unit.
use Rattle.std.specs.Prelude.{◌≡◌, ℕ, true, List, Some}
use Rattle.syntax.specs.Tree.{SourceUnit}
use Rattle.jni.specs.declared.function.JniFunction.TheVariants.{GetStaticMethodID}
use Rattle.region_rules.specs.Regions.{HasRegions}
use Rattle.type_rules.specs.TypeRules.{IsWellTyped}
use Rattle.semantics.specs.Arguments.{Actual}
use Rattle.semantics.specs.Effect.{Calls}
use Rattle.semantics.specs.Journal.{Entry, Journal}
use Rattle.semantics.specs.Load.{Loads}
use Rattle.semantics.specs.Run.{replay}
use Rattle.semantics.specs.State.{State, thread_at}
use Rattle.semantics.specs.Step.{world_step}
use Rattle.semantics.specs.Task.{Target}
use Rattle.semantics.specs.Thread.{Thread}
use Rattle.semantics.specs.ThreadStep.{next_effect}
use Rattle.semantics.specs.World.{World}
use Rattle.world_values.specs.SoundWorlds.{IsSound}
use Rattle.semantics_typing.specs.Objects.{IsTyped, ShapesStay}
use Rattle.semantics_typing.specs.Texts.{HasTexts}

-- after each journal that can be replayed objects are typed, and one entry more leaves each with its class and its number of values
pub record RunsTyped (unit : SourceUnit) (w : World) : Type 0 where
  pub typed : (journal : Journal) (s : State) → replay unit w journal ≡ Some s → IsTyped w.classes s
  pub shapes : (journal : Journal) (s next : State) (e : Entry) → replay unit w journal ≡ Some s
      → world_step unit w s e ≡ Some next → ShapesStay s.shared.heap next.shared.heap
  -- GetStaticMethodID is called only where the world allows methods
  pub methods : (journal : Journal) (s : State) (k : ℕ) (t : Thread) (line : ℕ) (target : Target) (args : List Actual) → replay unit w journal ≡ Some s
      → thread_at s k ≡ Some t → next_effect s.shared t t.tasks ≡ Calls line target GetStaticMethodID args → w.methods ≡ true

-- an accepted unit's runs are typed, in each world that goes with it; its texts are of bytes, as in memory
abbrev pub AcceptedIsTyped : Type 0
AcceptedIsTyped = (unit : SourceUnit) (w : World) → IsWellTyped unit → HasRegions unit → HasTexts unit → Loads unit w → IsSound w → RunsTyped unit w
