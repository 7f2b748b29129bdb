-- What buffers in slots stand for, once a call has been carried out.
use Rattle.std.proofs.Common.{◌≡◌, ◌≢◌, ℕ, zero, suc, Bool, true, false, List, [], ◌∷◌, Option, Some, None, refl, sym, ap, ◌∙◌, subst, inl, inr, ◌⊎◌}
use Rattle.std.specs.Prelude.{if◌then◌else◌, slice_get, slice_set}
use Rattle.std.specs.List.{AllZip}
use Rattle.class_rules.specs.Class.{Classes}
use Rattle.heap.specs.Heap.{Space, name_at}
use Rattle.jni.specs.declared.kinds.ResultKind.{ResultKind}
use Rattle.semantics.specs.Answer.{Answer as SourceAnswer}
use Rattle.semantics.specs.Thread.{Shared, Thread}
use Rattle.semantics.specs.Variable as source
use Rattle.semantics.specs.Variable.{NoBuffer}
use Rattle.tables.specs.Elements.{OwnedNumbers, owned}
use Rattle.tables.specs.Keys.{value_at}
use Rattle.tables.specs.Locals.{LocalTable}
use Rattle.machine_answers.specs.declared.answer.Answer.{Answer}
use Rattle.machine_answers.specs.declared.answer.Answer.TheVariants as answer
use Rattle.machine_answers.specs.declared.answer.Given.TheVariants as given
use Rattle.machine_scenes.specs.declared.buffer.Buffer.{Buffer}
use Rattle.machine_scenes.specs.declared.buffer.Buffer.TheVariants as held
use Rattle.machine_scenes.specs.declared.buffer.Release.{Release}
use Rattle.machine_answers.specs.Answers.{Brought, IsAnswer}
use Rattle.machine_answers.specs.Answers as row
use Rattle.machine_scenes.specs.Buffers as in_slot
use Rattle.machine_scenes.specs.Buffers.{BufferAgrees, BuffersAgree, KeepsCopies, gives_up}
use Rattle.machine_calls.specs.CarriedOut.{CopiesStay, IsNewCopy, buffers_after}
use Rattle.machine_scenes.proofs.KeyLaws.{set_cases}

-- ---- one slot after another

-- a key in a slot has a list
copy_there : {space : Space} {copies : List (Option OwnedNumbers)} {k key : ℕ} {c : source.Buffer} → BufferAgrees space copies k (held.Copy key) c → (l : OwnedNumbers) × (value_at copies key ≡ Some l) × (l.owner ≡ k)
copy_there {k = k} (in_slot.copy {zs = zs} found) = (owned k zs, found, refl)

pub own_copy : (space : Space) (copies : List (Option OwnedNumbers)) (k : ℕ) (slots : List Buffer) (buffers : List source.Buffer) (i key : ℕ) → AllZip (BufferAgrees space copies k) slots buffers → slice_get slots i ≡ Some (held.Copy key) → (l : OwnedNumbers) × (value_at copies key ≡ Some l) × (l.owner ≡ k)
own_copy space copies k [] buffers i key h at = absurd (cc)
own_copy space copies k (b ∷ slots) [] i key h at = absurd h
own_copy space copies k (b ∷ slots) (c ∷ buffers) zero key h at = let same : b ≡ held.Copy key = cc in copy_there (subst (λ (y : Buffer). BufferAgrees space copies k y c) same h.0)
own_copy space copies k (b ∷ slots) (c ∷ buffers) (suc i) key h at = own_copy space copies k slots buffers i key h.1 at

module _ (space after : Space) (copies left : List (Option OwnedNumbers)) (k : ℕ) (names : (a n : ℕ) → name_at space a ≡ Some n → name_at after a ≡ Some n) where
  pub buffer_stays : {b : Buffer} {c : source.Buffer} → ((key : ℕ) (l : OwnedNumbers) → b ≡ held.Copy key → value_at copies key ≡ Some l → value_at left key ≡ Some l) → BufferAgrees space copies k b c → BufferAgrees after left k b c
  buffer_stays kept in_slot.null = in_slot.null
  buffer_stays kept (in_slot.copy {key = key} {zs = zs} found) = in_slot.copy (kept key (owned k zs) refl found)
  buffer_stays kept (in_slot.view {a = a} {n = n} named) = in_slot.view (names a n named)

  all_stay : (slots : List Buffer) (buffers : List source.Buffer) → ((i key : ℕ) (l : OwnedNumbers) → slice_get slots i ≡ Some (held.Copy key) → value_at copies key ≡ Some l → value_at left key ≡ Some l)
      → AllZip (BufferAgrees space copies k) slots buffers → AllZip (BufferAgrees after left k) slots buffers
  all_stay [] [] kept h = h
  all_stay [] (c ∷ buffers) kept h = h
  all_stay (b ∷ slots) [] kept h = h
  all_stay (b ∷ slots) (c ∷ buffers) kept h =
      (buffer_stays (λ key l is. kept 0 key l (ap (λ (y : Buffer). Some y) is)) h.0, all_stay slots buffers (λ i key l at. kept (suc i) key l at) h.1)

  -- where the lists of all slots stay
  pub buffers_stay : (slots : List Buffer) (buffers : List source.Buffer) → BuffersAgree space copies k slots buffers → ((i key : ℕ) (l : OwnedNumbers) → slice_get slots i ≡ Some (held.Copy key) → value_at copies key ≡ Some l → value_at left key ≡ Some l)
      → BuffersAgree after left k slots buffers
  buffers_stay slots buffers h kept = record { agree = all_stay slots buffers kept h.agree; apart = h.apart }

  all_but : (slots : List Buffer) (buffers : List source.Buffer) (i : ℕ) → ((j key : ℕ) (l : OwnedNumbers) → j ≢ i → slice_get slots j ≡ Some (held.Copy key) → value_at copies key ≡ Some l → value_at left key ≡ Some l)
      → AllZip (BufferAgrees space copies k) slots buffers → AllZip (BufferAgrees after left k) (slice_set slots i held.Null) (slice_set buffers i NoBuffer)
  all_but [] [] i kept h = h
  all_but [] (c ∷ buffers) i kept h = absurd h
  all_but (b ∷ slots) [] i kept h = absurd h
  all_but (b ∷ slots) (c ∷ buffers) zero kept h = (in_slot.null, all_stay slots buffers (λ j key l at. kept (suc j) key l (λ e. cc) at) h.1)
  all_but (b ∷ slots) (c ∷ buffers) (suc i) kept h = (
    buffer_stays (λ key l is. kept 0 key l (λ e. cc) (ap (λ (y : Buffer). Some y) is)) h.0,
    all_but slots buffers i (λ j key l other at. kept (suc j) key l (λ e. other cc) at) h.1,
  )

  -- where those of all slots but one do, which becomes NULL
  pub buffer_ended : (slots : List Buffer) (buffers : List source.Buffer) (i : ℕ) → BuffersAgree space copies k slots buffers
      → ((j key : ℕ) (l : OwnedNumbers) → j ≢ i → slice_get slots j ≡ Some (held.Copy key) → value_at copies key ≡ Some l → value_at left key ≡ Some l) → BuffersAgree after left k (slice_set slots i held.Null) (slice_set buffers i NoBuffer)
  buffer_ended slots buffers i h kept = record {
    agree = all_but slots buffers i kept h.agree;
    apart = λ j m key at_j at_m. by_cases j m key (set_cases slots i j held.Null (held.Copy key) at_j) (set_cases slots i m held.Null (held.Copy key) at_m);
  }
    where
      no_copy : (key : ℕ) → held.Null ≡ held.Copy key → ⊥
      no_copy key e = cc

      by_cases : (j m key : ℕ) → ((j ≡ i) × (held.Null ≡ held.Copy key)) ⊎ ((j ≢ i) × (slice_get slots j ≡ Some (held.Copy key))) → ((m ≡ i) × (held.Null ≡ held.Copy key)) ⊎ ((m ≢ i) × (slice_get slots m ≡ Some (held.Copy key))) → j ≡ m
      by_cases j m key (inl (same, none)) o = absurd (no_copy key none)
      by_cases j m key (inr (other, at)) (inl (same, none)) = absurd (no_copy key none)
      by_cases j m key (inr (other, at)) (inr (away, is)) = h.apart j m key at is

  -- the source's buffers once an answer is carried out
  abbrev pub source_after : Answer → List source.Buffer → List source.Buffer
  source_after (answer.Releases r) buffers = if gives_up r.mode then slice_set buffers r.slot NoBuffer else buffers
  source_after a buffers = buffers

  -- an answer leaves the others
  pub buffers_left : (a : Answer) (slots : List Buffer) (buffers : List source.Buffer) → BuffersAgree space copies k slots buffers → CopiesStay a copies left → ((r : Release) → a ≡ answer.Releases r → slice_get slots r.slot ≡ Some r.held)
      → BuffersAgree after left k (buffers_after a slots) (source_after a buffers)
  buffers_left (answer.Releases r) slots buffers h stay there = by_test (gives_up r.mode) refl
    where
      at : slice_get slots r.slot ≡ Some r.held
      at = there r refl

      by_test : (t : Bool) → gives_up r.mode ≡ t → BuffersAgree after left k (if t then slice_set slots r.slot held.Null else slots) (if t then slice_set buffers r.slot NoBuffer else buffers)
      by_test false e = buffers_stay slots buffers h (λ i key l found has. stay key l has (λ up. absurd (let clash : false ≡ true = sym e ∙ up in cc)))
      by_test true e = buffer_ended slots buffers r.slot h (λ j key l other found has. stay key l has (λ up is. other (h.apart j r.slot key found (at ∙ ap (λ (y : Buffer). Some y) is))))
  buffers_left a slots buffers h stay there = buffers_stay slots buffers h (λ i key l found has. stay key l has tt)

-- ---- a buffer is given

set_zip : {A B : Type 0} (R : A → B → Type 0) (xs : List A) (ys : List B) (i : ℕ) (x : A) (y : B) → AllZip R xs ys → R x y → AllZip R (slice_set xs i x) (slice_set ys i y)
set_zip R [] [] i x y h new = h
set_zip R [] (b ∷ ys) i x y h new = absurd h
set_zip R (a ∷ xs) [] i x y h new = absurd h
set_zip R (a ∷ xs) (b ∷ ys) zero x y h new = (new, h.1)
set_zip R (a ∷ xs) (b ∷ ys) (suc i) x y h new = (h.0, set_zip R xs ys i x y h.1 new)

-- no slot has the key of a new list
pub new_apart : (space : Space) (copies : List (Option OwnedNumbers)) (k : ℕ) (slots : List Buffer) (buffers : List source.Buffer) (b : Buffer) → BuffersAgree space copies k slots buffers → IsNewCopy copies (given.Buffer b) → (j key : ℕ) → b ≡ held.Copy key → slice_get slots j ≡ Some (held.Copy key) → ⊥
new_apart space copies k slots buffers held.Null h new j key is at = absurd (cc)
new_apart space copies k slots buffers (held.View a) h new j key is at = absurd (cc)
new_apart space copies k slots buffers (held.Copy fresh) h new j key is at =
    let same : fresh ≡ key = cc in
    let old = own_copy space copies k slots buffers j key h.agree at in
    absurd (let both : Some old.0 ≡ None = sym old.1 ∙ ap (value_at copies) (sym same) ∙ new in cc)

pub buffer_put : (space : Space) (copies : List (Option OwnedNumbers)) (k : ℕ) (slots : List Buffer) (buffers : List source.Buffer) (i : ℕ) (b : Buffer) (c : source.Buffer) → BuffersAgree space copies k slots buffers → BufferAgrees space copies k b c
    → ((j key : ℕ) → b ≡ held.Copy key → slice_get slots j ≡ Some (held.Copy key) → ⊥) → BuffersAgree space copies k (slice_set slots i b) (slice_set buffers i c)
buffer_put space copies k slots buffers i b c h new fresh = record {
  agree = set_zip (BufferAgrees space copies k) slots buffers i b c h.agree new;
  apart = λ j m key at_j at_m. by_cases j m key (set_cases slots i j b (held.Copy key) at_j) (set_cases slots i m b (held.Copy key) at_m);
}
  where
    by_cases : (j m key : ℕ) → ((j ≡ i) × (b ≡ held.Copy key)) ⊎ ((j ≢ i) × (slice_get slots j ≡ Some (held.Copy key))) → ((m ≡ i) × (b ≡ held.Copy key)) ⊎ ((m ≢ i) × (slice_get slots m ≡ Some (held.Copy key))) → j ≡ m
    by_cases j m key (inl (same, is)) (inl (too, was)) = same ∙ sym too
    by_cases j m key (inl (same, is)) (inr (away, at)) = absurd (fresh m key is at)
    by_cases j m key (inr (away, at)) (inl (same, is)) = absurd (fresh j key is at)
    by_cases j m key (inr (other, at)) (inr (away, is)) = h.apart j m key at is

-- ---- other threads

-- a release ends a list of its thread alone
pub keeps_others : {classes : Classes} {brought : Brought} {space : Space} {locals : LocalTable} {s : Shared} {t : Thread} {a : Answer} {kind : ResultKind} {of_source : SourceAnswer} (left : List (Option OwnedNumbers)) → IsAnswer classes brought space locals s t a kind of_source
    → CopiesStay a brought.buffers.copies left → KeepsCopies brought.buffers.owner brought.buffers.copies left
keeps_others {brought = brought} {space = space} left (row.releases it) stay key c has other =
    stay key c has (λ up is.
    let own = copy_there (subst (λ (y : Buffer). BufferAgrees space brought.buffers.copies brought.buffers.owner y it.holds.buffer) (sym it.held ∙ is) it.holds.agrees) in
    other (let both : Some c ≡ Some own.0 = sym has ∙ own.1 in let same : c ≡ own.0 = cc in ap (λ (l : OwnedNumbers). l.owner) same ∙ own.2))
keeps_others left does stay key c has other = stay key c has tt
