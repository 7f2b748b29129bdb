-- How a call in progress stands for its tasks.
use Rattle.std.specs.Prelude.{◌≡◌, ℕ, List, [], length, Option, Some, None, slice_get}
use Rattle.syntax.specs.Views.{unit_tree}
use Rattle.class_rules.specs.Class.{Classes}
use Rattle.heap.specs.Heap.{Space}
use Rattle.code.specs.Depth.{Listing, depth_at}
use Rattle.semantics.specs.Task.{Task}
use Rattle.semantics.specs.Thread as source
use Rattle.code_meaning.specs.Layout.{Known}
use Rattle.code_meaning.specs.Slots.{Visible, Shows}
use Rattle.code_meaning.specs.Stands.{StandsFor}
use Rattle.code_meaning.specs.Lowered.{Lowered}
use Rattle.machine_scenes.specs.declared.activation.Activation.{Activation}
use Rattle.tables.specs.Elements.{OwnedNumbers}
use Rattle.machine_scenes.specs.Locals.{FramesAgree}
use Rattle.machine_threads.specs.SlotsHold.{Meant, SlotsHold, slots_of, values_in}

-- A call in progress, whose copied lists have this owner, stands for its tasks still to do, where this can be seen.
pub record CallStands (p : Lowered) (classes : Classes) (space : Space) (copies : List (Option OwnedNumbers)) (owner : ℕ)
    (activation : Activation) (visible : Visible) (frames : List source.Frame) (tasks : List Task) : Type 0 where
  pub code : Listing
  pub of_function : slice_get p.codes activation.function ≡ Some code
  pub known : Known
  pub stands : StandsFor code known activation.place activation.stack tasks
  pub meant : Meant
  pub holds : SlotsHold (unit_tree p.unit) classes space copies owner activation.locals (values_in activation) meant
  pub shows : Shows code known visible (slots_of activation meant)
  pub depth : depth_at code.instrs activation.place ≡ Some (length activation.stack)
  pub frames_agree : FramesAgree space activation.locals frames

-- a call in progress, or none, which has no frame
abbrev pub WorkAgrees : Lowered → Classes → Space → List (Option OwnedNumbers) → (owner : ℕ) → Visible → Option Activation
    → List source.Frame → Option (List Task) → Type 0
WorkAgrees p classes space copies owner visible None frames None = frames ≡ []
WorkAgrees p classes space copies owner visible None frames (Some tasks) = ⊥
WorkAgrees p classes space copies owner visible (Some activation) frames None = ⊥
WorkAgrees p classes space copies owner visible (Some activation) frames (Some tasks) = CallStands p classes space copies owner activation visible frames tasks
