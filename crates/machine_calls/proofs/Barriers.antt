-- What is carried out stays so once what it writes is noted.
use Rattle.std.proofs.Common.{◌≡◌, ℕ, false, List, ◌++◌, Option, Some, None, sym, ap, subst}
use Rattle.std.specs.Option.{option_to_list}
use Rattle.syntax.specs.Tree.{SourceUnit}
use Rattle.syntax.specs.Views.{unit_tree}
use Rattle.class_rules.specs.Class.{Classes}
use Rattle.heap.specs.Heap.{Space, IsAddress}
use Rattle.heap.specs.Marks.{Marks}
use Rattle.heap.specs.Marking.{MarkingStays}
use Rattle.heap.specs.declared.value.Value.{Value}
use Rattle.heap.specs.declared.value.Value.TheVariants.{Block as Refers}
use Rattle.heap.proofs.Staying.{stays_noted, stays_on, stays_same}
use Rattle.jni.specs.declared.kinds.ResultKind.{ResultKind}
use Rattle.semantics.specs.CallEffects.{CallResult, NullResult, BufferResult, CallEffect}
use Rattle.semantics.specs.CallStep.{static_result}
use Rattle.semantics.specs.Object.{Reference}
use Rattle.semantics.specs.Object as meant
use Rattle.semantics.specs.Thread.{Shared, Thread}
use Rattle.semantics.specs.World.{World}
use Rattle.code_meaning.specs.Lowered.{Lowered}
use Rattle.tables.specs.Elements.{OwnedNumbers}
use Rattle.tables.specs.Locals.{LocalTable}
use Rattle.machine_scenes.specs.Buffers.{Acquired}
use Rattle.machine_scenes.specs.declared.buffer.Buffer.{Buffer}
use Rattle.machine_scenes.specs.declared.store.Store.{Store}
use Rattle.machine_scenes.specs.Given.{ReferenceIsThere}
use Rattle.machine_scenes.specs.HeapAgrees.{ReferenceAgrees, ValueAgrees}
use Rattle.machine_scenes.specs.Statics.{held}
use Rattle.machine_scenes.proofs.BlocksOfNames.{is_address}
use Rattle.machine_scenes.proofs.Noted.{buffer_noted, frames_noted, held_noted, keeps_noted, key_noted, reference_noted, store_noted}
use Rattle.machine_answers.specs.declared.answer.Answer.{Answer}
use Rattle.machine_answers.specs.declared.answer.Answer.TheVariants as answer
use Rattle.machine_answers.specs.declared.answer.Given.{Given}
use Rattle.machine_answers.specs.declared.answer.Given.TheVariants as given
use Rattle.machine_answers.specs.Answers.{GivenAgrees}
use Rattle.machine_answers.specs.Answers as row
use Rattle.machine_calls.specs.Barrier.{IsNoted, noted_at, reference_given, written_by}
use Rattle.machine_calls.specs.CarriedOut.{BufferIsGiven, CarriesOut, IsFresh, IsNewCopy, ResultAgrees, acquired_after, frames_left, pending_after, result_after, shared_after}

-- ---- what is noted is there

pub reference_there : (space : Space) (a : Option ℕ) (r : Reference) → ReferenceAgrees space a r → ReferenceIsThere space a
reference_there space None r h = λ a e. absurd (cc)
reference_there space (Some b) None h = absurd h
reference_there space (Some b) (Some n) h = λ a e. let same : b ≡ a = cc in subst (IsAddress space) same (is_address space b n h)

pub given_there : {unit : SourceUnit} {classes : Classes} (space : Space) {kind : ResultKind} {g : Given} {c : CallResult} → GivenAgrees unit classes space kind g c → ReferenceIsThere space (reference_given g)
given_there space (row.reference {a = a} {r = r} h) = reference_there space a r h
given_there space h = λ a e. absurd (cc)

-- what a value refers to
pub value_there : (space : Space) (v : Value) (u : meant.ObjectValue) → ValueAgrees space v u → (b : ℕ) → v ≡ Refers b → IsAddress space b
value_there space (Refers a) (meant.Refers (Some n)) h b e = let same : a ≡ b = cc in subst (IsAddress space) same (is_address space a n h)
value_there space (Refers a) (meant.Refers None) h b e = absurd h
value_there space (Refers a) (meant.Number z) h b e = absurd h
value_there space v u h b e = absurd (cc)

-- what is given is no new list
pub no_new_copy : {unit : SourceUnit} {classes : Classes} {space : Space} {kind : ResultKind} {g : Given} {c : CallResult} (copies : List (Option OwnedNumbers)) → GivenAgrees unit classes space kind g c → IsNewCopy copies g
no_new_copy copies row.nothing = tt
no_new_copy copies h = tt

-- ---- all that an answer writes is noted

one_noted : (a : Option ℕ) (old new : Space) → new.marking ≡ noted_at a old.marking → IsNoted (option_to_list a) old new
one_noted None old new e = tt
one_noted (Some a) old new e = e

two_noted : (a b : Option ℕ) (old new : Space) → new.marking ≡ noted_at b (noted_at a old.marking) → IsNoted (option_to_list a ++ option_to_list b) old new
two_noted None b old new e = one_noted b old new e
two_noted (Some a) None old new e = e
two_noted (Some a) (Some b) old new e = e

module _ (old new : Space) where
  abbrev Notes : Answer → Type 0
  Notes a = IsNoted (written_by a) old new

  pub notes_given : (a : Answer) (g : Given) → a ≡ answer.Gives g → new ≡ record old { marking = noted_at (reference_given g) old.marking } → Notes a
  notes_given a g is e = subst Notes (sym is) (one_noted (reference_given g) old new (ap (λ (s : Space). s.marking) e))

  pub notes_global : (a : Answer) (r : Option ℕ) → a ≡ answer.MakesGlobal r → new ≡ record old { marking = noted_at r old.marking } → Notes a
  notes_global a r is e = subst Notes (sym is) (one_noted r old new (ap (λ (s : Space). s.marking) e))

  pub notes_weak : (a : Answer) (r : Option ℕ) → a ≡ answer.MakesWeak r → new ≡ record old { marking = noted_at r old.marking } → Notes a
  notes_weak a r is e = subst Notes (sym is) (one_noted r old new (ap (λ (s : Space). s.marking) e))

  pub notes_popped : (a : Answer) (r : Option ℕ) → a ≡ answer.Pops r → new ≡ record old { marking = noted_at r old.marking } → Notes a
  notes_popped a r is e = subst Notes (sym is) (one_noted r old new (ap (λ (s : Space). s.marking) e))

  pub notes_pending : (a : Answer) (r : Option ℕ) (g : Given) → a ≡ answer.Pends r g → new ≡ record old { marking = noted_at (reference_given g) (noted_at r old.marking) } → Notes a
  notes_pending a r g is e = subst Notes (sym is) (two_noted r (reference_given g) old new (ap (λ (s : Space). s.marking) e))

-- ---- what agrees does so yet

pub stays_at : (a : Option ℕ) (o : Option Marks) → MarkingStays o (noted_at a o)
stays_at None o = stays_same o
stays_at (Some a) o = stays_noted (Refers a) o

pub stays_both : (a b : Option ℕ) (o : Option Marks) → MarkingStays o (noted_at b (noted_at a o))
stays_both a b o = stays_on o (noted_at a o) (noted_at b (noted_at a o)) (stays_at a o) (stays_at b (noted_at a o))

module _ (unit : SourceUnit) (classes : Classes) (store : Store) (o : Option Marks) (owner : ℕ) where
  -- the store whose heap has another marking
  abbrev noted_store : Store
  noted_store = record store { heap = record store.heap { marking = o } }

  given_noted : {kind : ResultKind} {g : Given} {c : CallResult} → GivenAgrees unit classes store.heap kind g c → GivenAgrees unit classes noted_store.heap kind g c
  given_noted row.nothing = row.nothing
  given_noted (row.int is fits) = row.int is fits
  given_noted (row.flag is) = row.flag is
  given_noted (row.reference {a = a} {r = r} h) = row.reference (reference_noted store.heap o a r h)
  given_noted row.null_reference = row.null_reference
  given_noted (row.field h) = row.field h
  given_noted row.null_field = row.null_field
  given_noted (row.method h) = row.method h
  given_noted row.null_method = row.null_method

  buffer_given : (b : Buffer) (c : CallResult) → BufferIsGiven store owner b c → BufferIsGiven noted_store owner b c
  buffer_given b (BufferResult s) h = buffer_noted store.heap o h
  buffer_given b NullResult h = h
  buffer_given b c h = absurd h

  result_noted : (g : Given) (kind : ResultKind) (c : CallResult) → ResultAgrees unit classes store owner g kind c → ResultAgrees unit classes noted_store owner g kind c
  result_noted (given.Buffer b) kind c h = (h.0, buffer_given b c h.1)
  result_noted (given.Global s) kind c h =
      let fresh : IsFresh store s = h.2 in
      (h.0, held_noted store.heap o (held store.globals store.weaks s) (static_result c) h.1, record { live = fresh.live; weak = fresh.weak })
  result_noted given.Nothing kind c h = given_noted h
  result_noted (given.Number word) kind c h = given_noted h
  result_noted (given.Reference a) kind c h = given_noted h
  result_noted (given.FieldId f) kind c h = given_noted h
  result_noted (given.MethodId f) kind c h = given_noted h

module _ (p : Lowered) (w : World) (old : Space) (before : LocalTable) (a : Answer) (kind : ResultKind) (others : Acquired) (owner : ℕ) (shared : Shared) (s : Thread) (effect : CallEffect) where
  pub noted_carries : (store : Store) (o : Option Marks) (pending : Option ℕ) (locals : LocalTable) (g : Given) → MarkingStays store.heap.marking o
      → CarriesOut p w old before a kind others owner shared s effect false store pending locals g
      → CarriesOut p w old before a kind others owner shared s effect false (record store { heap = record store.heap { marking = o } }) pending locals g
  noted_carries store o pending locals g stays h = record {
    store_agrees = store_noted p w store o (shared_after w.classes false shared effect) (acquired_after others kind false s effect) h.store_agrees;
    keeps = keeps_noted store.heap o old shared (shared_after w.classes false shared effect) h.keeps stays;
    pending_agrees = reference_noted store.heap o pending (pending_after w.classes false shared s effect) h.pending_agrees;
    frames_agree = frames_noted store.heap o locals (frames_left false s effect) h.frames_agree;
    left = λ key n level is left. key_noted store.heap o locals key n level (h.left key n level is left);
    given_agrees = result_noted (unit_tree p.unit) w.classes store o owner g kind (result_after kind false effect) h.given_agrees;
    still = h.still;
    could_refuse = h.could_refuse;
    room = h.room;
  }

  -- the same of a heap that was told to be so
  pub noted_so : (store : Store) (o : Option Marks) (space : Space) (pending : Option ℕ) (locals : LocalTable) (g : Given) → space ≡ record store.heap { marking = o } → MarkingStays store.heap.marking o
      → CarriesOut p w old before a kind others owner shared s effect false store pending locals g
      → CarriesOut p w old before a kind others owner shared s effect false (record store { heap = space }) pending locals g
  noted_so store o space pending locals g is stays h =
      subst (λ (t : Space). CarriesOut p w old before a kind others owner shared s effect false (record store { heap = t }) pending locals g) (sym is)
      (noted_carries store o pending locals g stays h)
