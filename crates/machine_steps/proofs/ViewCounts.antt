-- Views in slots are those of a thread's variables, once a slot and a variable have changed.
use Rattle.std.proofs.Common.{◌≡◌, ℕ, zero, suc, ◌+◌, ◌≤◌, List, [], ◌∷◌, ◌++◌, replicate, Option, Some, refl, sym, ap, ◌∙◌, arith}
use Rattle.std.specs.Prelude.{slice_get, slice_set}
use Rattle.std.specs.List.{AllZip}
use Rattle.std.specs.Option.{option_to_list}
use Rattle.base.specs.Bytes.{Identifier, lookup}
use Rattle.base.specs.declared.element.ElementType.{ElementType}
use Rattle.heap.specs.Heap.{Space, name_at}
use Rattle.semantics.specs.CallEffects.{freed, with_freed}
use Rattle.semantics.specs.Thread.{Thread, objects_viewed}
use Rattle.semantics.specs.Variable as source
use Rattle.semantics.specs.Variable.{Variables, Elements, NoBuffer, assign, change, viewed}
use Rattle.semantics_safety.specs.StepSafe.{HoldsNoBuffer}
use Rattle.code.specs.declared.instr.NullableVariable.{NullableVariable}
use Rattle.code.specs.declared.instr.NullableVariable.TheVariants as nullable
use Rattle.machine_steps.specs.Variables.{nulled_buffers}
use Rattle.tables.specs.Elements.{OwnedNumbers}
use Rattle.machine_scenes.specs.declared.buffer.Buffer.{Buffer}
use Rattle.machine_scenes.specs.declared.buffer.Buffer.TheVariants as held
use Rattle.machine_scenes.specs.Buffers as in_slot
use Rattle.machine_scenes.specs.Buffers.{Acquired, AreViewed, BufferAgrees, acquired_of, nothing_acquired, viewed_in}
use Rattle.machine_scenes.specs.HeapAgrees.{times}
use Rattle.machine_scenes.proofs.HeldSums.{beside_freed, times_append}
use Rattle.machine_steps.proofs.Acquisitions.{assigned_buffer, taken_by}

-- ---- slots

-- where objects stay where they are, slots view the same
pub viewed_stays : (space space' : Space) (copies : List (Option OwnedNumbers)) (k : ℕ) (slots : List Buffer) (buffers : List source.Buffer) → ((a n : ℕ) → name_at space a ≡ Some n → name_at space' a ≡ Some n)
    → AllZip (BufferAgrees space copies k) slots buffers → viewed_in space' slots ≡ viewed_in space slots
viewed_stays space space' copies k [] buffers names h = refl
viewed_stays space space' copies k (x ∷ slots) [] names h = absurd h
viewed_stays space space' copies k (x ∷ slots) (b ∷ buffers) names (in_slot.null, h) = viewed_stays space space' copies k slots buffers names h
viewed_stays space space' copies k (x ∷ slots) (b ∷ buffers) names (in_slot.copy found, h) = viewed_stays space space' copies k slots buffers names h
viewed_stays space space' copies k (x ∷ slots) (b ∷ buffers) names (in_slot.view {a = a} {n = n} named, h) =
    ap (λ (o : Option ℕ). option_to_list o ++ viewed_in space' slots) (names a n named ∙ sym named)
    ∙ ap (λ (l : List ℕ). option_to_list (name_at space a) ++ l) (viewed_stays space space' copies k slots buffers names h)

-- a slot counts as the buffer that it stands for
slot_counts : (space : Space) {copies : List (Option OwnedNumbers)} {k : ℕ} {h : Buffer} {b : source.Buffer} (slots : List Buffer) (n : ℕ) → BufferAgrees space copies k h b → times n (viewed_in space (h ∷ slots)) ≡ times n (acquired_of b).viewed + times n (viewed_in space slots)
slot_counts space slots n in_slot.null = omega arith
slot_counts space slots n (in_slot.copy found) = omega arith
slot_counts space slots n (in_slot.view {a = a} named) =
    times_append n (option_to_list (name_at space a)) (viewed_in space slots) ∙ ap (λ (o : Option ℕ). times n (option_to_list o) + times n (viewed_in space slots)) named

-- so what they view changes by what was in one and what is in it
pub slot_put : (space : Space) (copies : List (Option OwnedNumbers)) (k : ℕ) (slots : List Buffer) (buffers : List source.Buffer) (i : ℕ) (b : source.Buffer) (h : Buffer) (c : source.Buffer) (n : ℕ)
    → AllZip (BufferAgrees space copies k) slots buffers → slice_get buffers i ≡ Some b → BufferAgrees space copies k h c
    → times n (viewed_in space (slice_set slots i h)) + times n (acquired_of b).viewed ≡ times n (viewed_in space slots) + times n (acquired_of c).viewed
slot_put space copies k [] [] i b h c n agree at new = absurd (cc)
slot_put space copies k [] (x ∷ buffers) i b h c n agree at new = absurd agree
slot_put space copies k (x ∷ slots) [] i b h c n agree at new = absurd agree
slot_put space copies k (x ∷ slots) (y ∷ buffers) zero b h c n agree at new =
    let same : y ≡ b = cc in
    let was = slot_counts space slots n agree.0 in
    let now = slot_counts space slots n new in
    let first : times n (acquired_of y).viewed ≡ times n (acquired_of b).viewed = ap (λ (z : source.Buffer). times n (acquired_of z).viewed) same in
    omega (arith, was, now, first)
slot_put space copies k (x ∷ slots) (y ∷ buffers) (suc i) b h c n agree at new =
    let was = slot_counts space slots n agree.0 in
    let now = slot_counts space (slice_set slots i h) n agree.0 in
    let rest = slot_put space copies k slots buffers i b h c n agree.1 at new in
    omega (arith, was, now, rest)

-- one slot more views no less
more_viewed : (space : Space) (h : Buffer) (slots : List Buffer) (n : ℕ) → times n (viewed_in space slots) ≤ times n (viewed_in space (h ∷ slots))
more_viewed space held.Null slots n = omega arith
more_viewed space (held.Copy key) slots n = omega arith
more_viewed space (held.View a) slots n = omega (arith, times_append n (option_to_list (name_at space a)) (viewed_in space slots))

-- whatever was in a slot, they view at most what is in it now beside what they did
slot_taken : (space : Space) (copies : List (Option OwnedNumbers)) (k : ℕ) (slots : List Buffer) (i : ℕ) (h : Buffer) (c : source.Buffer) (n : ℕ) → BufferAgrees space copies k h c → times n (viewed_in space (slice_set slots i h)) ≤ times n (viewed_in space slots) + times n (acquired_of c).viewed
slot_taken space copies k [] i h c n new = omega arith
slot_taken space copies k (x ∷ slots) zero h c n new = omega (arith, slot_counts space slots n new, more_viewed space x slots n)
slot_taken space copies k (held.Null ∷ slots) (suc i) h c n new = slot_taken space copies k slots i h c n new
slot_taken space copies k (held.Copy key ∷ slots) (suc i) h c n new = slot_taken space copies k slots i h c n new
slot_taken space copies k (held.View a ∷ slots) (suc i) h c n new =
    omega (arith, slot_taken space copies k slots i h c n new, times_append n (option_to_list (name_at space a)) (viewed_in space slots), times_append n (option_to_list (name_at space a)) (viewed_in space (slice_set slots i h)))

-- no slot views anything
pub none_viewed : (space : Space) (n : ℕ) → viewed_in space (replicate n held.Null) ≡ []
none_viewed space zero = refl
none_viewed space (suc n) = none_viewed space n

-- ---- a thread

-- where neither slots nor what its variables view have changed
pub views_stay : (space space' : Space) (copies : List (Option OwnedNumbers)) (k : ℕ) (slots : List Buffer) (buffers : List source.Buffer) (s next : Thread) → ((a n : ℕ) → name_at space a ≡ Some n → name_at space' a ≡ Some n)
    → AllZip (BufferAgrees space copies k) slots buffers → objects_viewed next.variables ≡ objects_viewed s.variables → AreViewed space slots s → AreViewed space' slots next
views_stay space space' copies k slots buffers s next names agree same h = λ n. omega (arith, ap (times n) (viewed_stays space space' copies k slots buffers names agree), h n, ap (times n) same)

-- where the slots are the same, and the variables take the same
pub views_same : (space : Space) (slots slots' : List Buffer) (s next : Thread) → slots' ≡ slots → taken_by next.variables ≡ taken_by s.variables → AreViewed space slots s → AreViewed space slots' next
views_same space slots slots' s next same taken h = λ n. omega (arith, ap (λ (l : List Buffer). times n (viewed_in space l)) same, ap (λ (a : Acquired). times n a.viewed) taken, h n)

-- where a buffer goes to a variable that held none
pub views_taken : (space : Space) (copies : List (Option OwnedNumbers)) (k : ℕ) (slots : List Buffer) (i : ℕ) (h : Buffer) (x : Identifier) (t : ElementType) (c : source.Buffer) (s next : Thread)
    → BufferAgrees space copies k h c → HoldsNoBuffer (lookup x s.variables) → next.variables ≡ assign x (Elements t c) s.variables → AreViewed space slots s → AreViewed space (slice_set slots i h) next
views_taken space copies k slots i h x t c s next new none is views = λ n.
    let slot = slot_taken space copies k slots i h c n new in
    let more = (assigned_buffer nothing_acquired x t c s.variables none).viewed n in
    let next_views : times n (objects_viewed next.variables) ≡ times n (taken_by (assign x (Elements t c) s.variables)).viewed = ap (λ (vs : Variables). times n (taken_by vs).viewed) is in
    omega (arith, slot, more, times_append n (objects_viewed s.variables) (acquired_of c).viewed, next_views, views n)

-- where a buffer is given up
pub views_freed : (space : Space) (copies : List (Option OwnedNumbers)) (k : ℕ) (slots : List Buffer) (buffers : List source.Buffer) (i : ℕ) (x : Identifier) (t : ElementType) (b : source.Buffer) (s next : Thread)
    → AllZip (BufferAgrees space copies k) slots buffers → slice_get buffers i ≡ Some b → lookup x s.variables ≡ Some (Elements t b) → next.variables ≡ change x freed s.variables
    → AreViewed space slots s → AreViewed space (slice_set slots i held.Null) next
views_freed space copies k slots buffers i x t b s next agree at there is views = λ n.
    let slot = slot_put space copies k slots buffers i b held.Null NoBuffer n agree at in_slot.null in
    let variables = (beside_freed nothing_acquired s x t b there).viewed n in
    let next_views : times n (objects_viewed next.variables) ≡ times n (objects_viewed (with_freed s x).variables) = ap (λ (vs : Variables). times n (taken_by vs).viewed) is in
    omega (arith, slot, variables, next_views, times_append n (objects_viewed (with_freed s x).variables) [], views n)

-- ---- NULL in a slot

slot_nulled : (space : Space) (slots : List Buffer) (i n : ℕ) → times n (viewed_in space (slice_set slots i held.Null)) ≤ times n (viewed_in space slots)
slot_nulled space [] i n = omega arith
slot_nulled space (held.Null ∷ slots) zero n = omega arith
slot_nulled space (held.Copy key ∷ slots) zero n = omega arith
slot_nulled space (held.View a ∷ slots) zero n = omega (arith, times_append n (option_to_list (name_at space a)) (viewed_in space slots))
slot_nulled space (held.Null ∷ slots) (suc i) n = slot_nulled space slots i n
slot_nulled space (held.Copy key ∷ slots) (suc i) n = slot_nulled space slots i n
slot_nulled space (held.View a ∷ slots) (suc i) n =
    omega (arith, slot_nulled space slots i n, times_append n (option_to_list (name_at space a)) (viewed_in space slots), times_append n (option_to_list (name_at space a)) (viewed_in space (slice_set slots i held.Null)))

pub views_nulled : (space : Space) (slots : List Buffer) (v : NullableVariable) (n : ℕ) → times n (viewed_in space (nulled_buffers v slots)) ≤ times n (viewed_in space slots)
views_nulled space slots (nullable.Local i) n = omega arith
views_nulled space slots (nullable.Static i) n = omega arith
views_nulled space slots (nullable.FieldId i) n = omega arith
views_nulled space slots (nullable.Buffer i) n = slot_nulled space slots i n
