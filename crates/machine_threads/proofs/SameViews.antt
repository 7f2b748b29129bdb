-- Which objects slots view, where other blocks move or change.
use Rattle.std.proofs.Common.{◌≡◌, ℕ, List, [], ◌∷◌, ◌++◌, Option, refl, sym, ap, ◌∙◌}
use Rattle.std.specs.Option.{option_to_list}
use Rattle.std.specs.List.{AllZip}
use Rattle.heap.specs.Heap.{Space, name_at}
use Rattle.semantics.specs.Variable as variable
use Rattle.semantics.specs.Variable.{NoBuffer, Copy, View}
use Rattle.tables.specs.Elements.{OwnedNumbers}
use Rattle.machine_scenes.specs.declared.buffer.Buffer.{Buffer}
use Rattle.machine_scenes.specs.declared.buffer.Buffer.TheVariants as held
use Rattle.machine_scenes.specs.Buffers as in_slot
use Rattle.machine_scenes.specs.Buffers.{BufferAgrees, viewed_in}

-- what agrees in two heaps is of the same objects
pub viewed_same : (space space' : Space) (copies copies' : List (Option OwnedNumbers)) (k : ℕ) (slots : List Buffer) (buffers : List variable.Buffer)
    → AllZip (BufferAgrees space copies k) slots buffers → AllZip (BufferAgrees space' copies' k) slots buffers → viewed_in space' slots ≡ viewed_in space slots
viewed_same space space' copies copies' k [] buffers h now = refl
viewed_same space space' copies copies' k (x ∷ slots) [] h now = absurd h
viewed_same space space' copies copies' k (x ∷ slots) (b ∷ buffers) (in_slot.null, h) now = viewed_same space space' copies copies' k slots buffers h now.1
viewed_same space space' copies copies' k (x ∷ slots) (b ∷ buffers) (in_slot.copy found, h) now = viewed_same space space' copies copies' k slots buffers h now.1
viewed_same space space' copies copies' k (x ∷ slots) (b ∷ buffers) (in_slot.view {a = a} named, h) (in_slot.view named', now) =
    ap (λ (o : Option ℕ). option_to_list o ++ viewed_in space' slots) (named' ∙ sym named)
    ∙ ap (λ (l : List ℕ). option_to_list (name_at space a) ++ l) (viewed_same space space' copies copies' k slots buffers h now)
