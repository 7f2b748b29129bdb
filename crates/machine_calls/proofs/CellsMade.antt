-- What an answer makes takes as many cells as the objects of its effect.
use Rattle.std.proofs.Common.{◌≡◌, ℕ, ◌==◌, ◌≤◌, false, true, List, [], ◌∷◌, length, refl, ap, ◌∙◌, arith, ◌+◌, Option, None, Some}
use Rattle.std.specs.Prelude.{nat_le, nat_lt}
use Rattle.std.proofs.lemmas.Bool.{cond_both}
use Rattle.std.proofs.lemmas.Bool.Decides.{nat_tests}
use Rattle.std.proofs.lemmas.List.{length-set}
use Rattle.std.proofs.lemmas.List.Sums.{sum_by-cons}
use Rattle.class_rules.specs.Class.{Classes}
use Rattle.class_rules.specs.declared.class_id.ClassId.{ClassId}
use Rattle.heap.specs.Heap.{Space, left_of}
use Rattle.jni.specs.declared.kinds.ResultKind.{ResultKind}
use Rattle.semantics.specs.Answer.{Answer as SourceAnswer, effect_of}
use Rattle.semantics.specs.AnswerTable.{monitor_entered, monitor_left, released}
use Rattle.jni.specs.declared.mode.ReleaseMode.{ReleaseMode}
use Rattle.jni.specs.declared.mode.ReleaseMode.TheVariants.{CopyBackAndFree, CopyBack, FreeUncopied}
use Rattle.semantics.specs.CallEffects.{string_object, with_message, CallEffect, frames_effect, refuses_frames, with_capacity}
use Rattle.semantics.specs.Heap.{next_name}
use Rattle.semantics.specs.Object.{Object, Reference, Refers, size, sizes}
use Rattle.semantics.specs.Thread as source
use Rattle.semantics.specs.Thread.{Shared, Thread}
use Rattle.semantics.specs.World.{fresh_object}
use Rattle.tables.specs.Locals.{LocalTable}
use Rattle.machine_answers.specs.declared.answer.Answer.{Answer}
use Rattle.machine_answers.specs.declared.answer.Answer.TheVariants as answer
use Rattle.machine_scenes.specs.declared.new_object.New.{New}
use Rattle.machine_scenes.specs.declared.new_object.New.TheVariants.{Fresh, Text}
use Rattle.machine_answers.specs.Answers.{Brought, IsAnswer, effect_told}
use Rattle.machine_answers.specs.Answers as row
use Rattle.machine_calls.specs.CarriedOut.{takes_memory, is_of_references, made_by}
use Rattle.machine_calls.specs.Made.{cells_of}
use Rattle.machine_scenes.specs.NewObjects.{IsObject, cells_of_new, text_in, values_of_new}
use Rattle.machine_calls.proofs.NewValues.{as_many}

-- no object takes no cell
pub nothing_asked : (space : Space) → sizes [] ≤ left_of space
nothing_asked space = omega arith

-- an object that is described
pub described_size : (classes : Classes) (texts : List (List ℕ)) (space : Space) (new : New) (o : Object) → IsObject classes texts space new o → sizes (o ∷ []) ≡ cells_of_new classes texts new
described_size classes texts space new o is = let long : length (values_of_new classes texts new) ≡ length o.values = as_many classes texts space new o is in omega (arith, long, sum_by-cons size o [])

-- that of an exception
pub fresh_size : (classes : Classes) (texts : List (List ℕ)) (space : Space) (class : ClassId) → sizes (fresh_object classes class.number ∷ []) ≡ cells_of_new classes texts (Fresh class)
fresh_size classes texts space class = described_size classes texts space (Fresh class) (fresh_object classes class.number) refl

-- a message and its exception
pub both_sizes : (classes : Classes) (texts : List (List ℕ)) (space : Space) (class : ClassId) (place : ℕ) (r : Reference) → sizes (string_object (text_in texts place) ∷ with_message (fresh_object classes class.number) r ∷ []) ≡ cells_of_new classes texts (Text place) + cells_of_new classes texts (Fresh class)
both_sizes classes texts space class place r =
    let message = string_object (text_in texts place) in
    let fresh = fresh_object classes class.number in
    let exception = with_message fresh r in
    let long : length exception.values ≡ length fresh.values = length-set fresh.values 0 (Refers r) in
    omega (
      arith,
      long,
      described_size classes texts space (Text place) message refl,
      fresh_size classes texts space class,
      sum_by-cons size message (exception ∷ []),
      sum_by-cons size message [],
      sum_by-cons size exception [],
      sum_by-cons size fresh [],
    )

module _ (classes : Classes) (brought : Brought) (space : Space) (locals : LocalTable) (shared : Shared) (s : Thread) where
  abbrev Cells : CallEffect → ℕ
  Cells effect = sizes (made_by classes effect)

  of_frames : (frames : List source.Frame) → Cells (frames_effect classes shared s frames) ≡ 0
  of_frames frames = cond_both (nat_le (source.capacities frames) 1024) _ (refuses_frames classes shared s) (λ (e : CallEffect). Cells e ≡ 0) (λ e. refl) (λ e. refl)

  -- the effect of an answer
  abbrev of : SourceAnswer → CallEffect
  of a = effect_told classes brought shared s a

  of_release : (n : ℕ) (mode : ReleaseMode) → Cells (of (released n mode)) ≡ 0
  unfolding effect_of
  of_release n CopyBackAndFree = refl
  of_release n CopyBack = refl
  of_release n FreeUncopied = refl

  of_enter : (n : ℕ) (o : Option source.Monitor) → Cells (of (monitor_entered n o)) ≡ 0
  unfolding effect_of
  of_enter n None = refl
  of_enter n (Some m) = cond_both (nat_lt m.count 255) _ _ (λ (a : SourceAnswer). Cells (of a) ≡ 0) (λ e. refl) (λ e. refl)

  of_exit : (n : ℕ) (m : source.Monitor) → m.owner ≡ brought.thread → Cells (of (monitor_left brought.thread n (Some m))) ≡ 0
  unfolding effect_of
  of_exit n m own =
      cond_both (m.owner == brought.thread) _ _ (λ (a : SourceAnswer). Cells (of a) ≡ 0)
      (λ e. cond_both (m.count == 1) _ _ (λ (a : SourceAnswer). Cells (of a) ≡ 0) (λ last. refl) (λ more. refl))
      (λ other. absurd (apart m.owner brought.thread other own))
    where
      apart : (x y : ℕ) → (x == y) ≡ false → x ≡ y → ⊥
      apart x y other same = grind (arith, nat_tests, other, same)

  pub cells_made : {a : Answer} {kind : ResultKind} {of_source : SourceAnswer} → IsAnswer classes brought space locals shared s a kind of_source → Cells (of of_source) ≡ cells_of classes brought.texts a
  unfolding effect_of
  cells_made (row.makes {new = new} {o = o} it) = described_size classes brought.texts space new o it.object
  cells_made (row.throws {class = class} makeable) = fresh_size classes brought.texts space class
  cells_made (row.raises {class = class} {place = place} of_string makeable) = both_sizes classes brought.texts space class place (Some (next_name shared.heap))
  cells_made (row.releases it) = of_release it.name it.mode
  cells_made (row.ensures {more = more}) = of_frames (with_capacity more s.frames)
  cells_made (row.pushes {capacity = capacity}) = of_frames (record { capacity = capacity; references = [] } ∷ s.frames)
  cells_made (row.enters {o = o} it) = of_enter o.name (source.monitor_of shared.monitors o.name)
  cells_made (row.exits {n = n} it) = ap (λ (m : Option source.Monitor). Cells (of (monitor_left brought.thread n m))) it.owned ∙ of_exit n it.monitor it.own
  cells_made does = refl

-- what changes references or frames makes nothing
pub references_free : (classes : Classes) (texts : List (List ℕ)) (a : Answer) → is_of_references a ≡ true → cells_of classes texts a ≡ 0
references_free classes texts (answer.Gives g) h = refl
references_free classes texts (answer.Writes a place v) h = refl
references_free classes texts (answer.CopiesOut region) h = refl
references_free classes texts (answer.CopiesIn region) h = refl
references_free classes texts (answer.AcquiresCopy a) h = refl
references_free classes texts (answer.AcquiresView a) h = refl
references_free classes texts (answer.Releases r) h = refl
references_free classes texts (answer.Makes new) h = absurd (cc)
references_free classes texts (answer.Throws class) h = absurd (cc)
references_free classes texts (answer.Raises class place) h = absurd (cc)
references_free classes texts (answer.Pends a g) h = refl
references_free classes texts (answer.Halts trap) h = refl
references_free classes texts (answer.Ensures more) h = refl
references_free classes texts (answer.Pushes capacity) h = refl
references_free classes texts answer.RefusesFrames h = refl
references_free classes texts (answer.Pops a) h = refl
references_free classes texts (answer.Deletes key) h = refl
references_free classes texts (answer.MakesGlobal a) h = refl
references_free classes texts (answer.DeletesGlobal i) h = refl
references_free classes texts (answer.MakesWeak a) h = refl
references_free classes texts (answer.DeletesWeak i) h = refl
references_free classes texts (answer.Enters o) h = refl
references_free classes texts (answer.Exits n) h = refl
references_free classes texts answer.Calls h = refl

-- nor does what takes host memory
pub memory_free : (classes : Classes) (texts : List (List ℕ)) (a : Answer) → takes_memory a ≡ true → cells_of classes texts a ≡ 0
memory_free classes texts (answer.AcquiresCopy a) h = refl
memory_free classes texts (answer.Enters o) h = refl
memory_free classes texts a h = references_free classes texts a h
