-- Views in slots, the objects that they are of, and their blocks, which are pinned.
use Rattle.std.proofs.Common.{◌≡◌, ℕ, zero, suc, ◌<◌, Bool, true, false, cond, eqb, drop, map, ◌+◌, List, [], ◌∷◌, ◌++◌, Option, Some, None, refl, sym, ap, ◌∙◌, subst, arith, ⊎_elim, if◌then◌else◌}
use Rattle.std.specs.Prelude.{find, nat_lt, slice_get}
use Rattle.std.specs.Option.{option_map, option_map_or, option_to_list}
use Rattle.std.specs.List.{AllZip}
use Rattle.std.proofs.lemmas.Bool.{false≢true}
use Rattle.class_rules.specs.Class.{Classes}
use Rattle.heap.specs.Heap.{Block, Space, name_at}
use Rattle.semantics.specs.Task.{Task}
use Rattle.semantics.specs.Thread as source
use Rattle.semantics.specs.Variable as variable
use Rattle.semantics.proofs.ReachableLemmas.{In, in_append_right, in_cases, in_head, in_tail}
use Rattle.code_meaning.specs.Lowered.{Lowered}
use Rattle.code_meaning.specs.Slots.{Visible}
use Rattle.tables.specs.Elements.{OwnedNumbers}
use Rattle.machine_scenes.specs.declared.activation.Activation.{Activation}
use Rattle.machine_scenes.specs.declared.buffer.Buffer.{Buffer}
use Rattle.machine_scenes.specs.declared.buffer.Buffer.TheVariants as held
use Rattle.machine_scenes.specs.Buffers as in_slot
use Rattle.machine_scenes.specs.Buffers.{BufferAgrees, viewed_in}
use Rattle.machine_threads.specs.InProgress.{WorkAgrees}
use Rattle.machine_threads.specs.ThreadAgrees.{buffers_of}
use Rattle.machine_collections.specs.Roots.{pinned_names}
use Rattle.std.proofs.lemmas.Bool.{ltb-false, ltb-true}

-- ---- slots

-- the name of the object that a view is of is among those that slots view
pub view_at : (space : Space) (copies : List (Option OwnedNumbers)) (k : ℕ) (slots : List Buffer) (buffers : List variable.Buffer) (i a : ℕ)
    → AllZip (BufferAgrees space copies k) slots buffers → slice_get slots i ≡ Some (held.View a) → (n : ℕ) × (name_at space a ≡ Some n) × In (viewed_in space slots) n
view_at space copies k [] buffers i a h at = absurd (cc)
view_at space copies k (x ∷ slots) [] i a h at = absurd h
view_at space copies k (x ∷ slots) (b ∷ buffers) zero a (in_slot.view {a = y} {n = n} named, h) at =
    let same : y ≡ a = cc in
    (n, ap (name_at space) (sym same) ∙ named, subst (λ (o : Option ℕ). In (option_to_list o ++ viewed_in space slots) n) (sym named) (in_head n (viewed_in space slots)))
view_at space copies k (x ∷ slots) (b ∷ buffers) zero a h at = absurd (cc)
view_at space copies k (held.Null ∷ slots) (b ∷ buffers) (suc i) a h at = view_at space copies k slots buffers i a h.1 at
view_at space copies k (held.Copy key ∷ slots) (b ∷ buffers) (suc i) a h at = view_at space copies k slots buffers i a h.1 at
view_at space copies k (held.View x ∷ slots) (b ∷ buffers) (suc i) a h at =
    let r = view_at space copies k slots buffers i a h.1 at in
    (r.0, r.1, in_append_right (option_to_list (name_at space x)) (viewed_in space slots) r.0 r.2)

-- ---- threads

-- what is in a thread's slots, if it has some
pub record AgreeInSlots (space : Space) (copies : List (Option OwnedNumbers)) (k : ℕ) (o : Option Activation) : Type 0 where
  pub buffers : List variable.Buffer
  pub agree : AllZip (BufferAgrees space copies k) (buffers_of o) buffers

pub slots_agree : (p : Lowered) (classes : Classes) (space : Space) (copies : List (Option OwnedNumbers)) (k : ℕ) (visible : Visible) (o : Option Activation) (frames : List source.Frame) (tasks : Option (List Task))
    → WorkAgrees p classes space copies k visible o frames tasks → AgreeInSlots space copies k o
slots_agree p classes space copies k visible None frames tasks h = record { buffers = []; agree = tt }
slots_agree p classes space copies k visible (Some call) frames None h = absurd h
slots_agree p classes space copies k visible (Some call) frames (Some tasks) h = record { buffers = h.meant.buffers; agree = h.holds.buffers.agree }

-- ---- pinned blocks

-- the name of a pinned block is among them
pub name_pinned : (bs : List Block) (a n : ℕ) → option_map (λ (b : Block). b.birth) (find (λ (b : Block). eqb b.address a) bs) ≡ Some n → 0 < option_map_or (λ (b : Block). b.pins) (find (λ (b : Block). eqb b.address a) bs) 0 → In (pinned_names bs) n
name_pinned [] a n named some = absurd (cc)
name_pinned (b ∷ bs) a n named some = by_test (eqb b.address a) (name_pinned bs a n) named some
  where
    adds : (t : Bool) → In (pinned_names bs) n → In (if t then b.birth ∷ pinned_names bs else pinned_names bs) n
    adds true l = in_tail b.birth (pinned_names bs) n l
    adds false l = l

    here : (t : Bool) → nat_lt 0 b.pins ≡ t → b.birth ≡ n → 0 < b.pins → In (if t then b.birth ∷ pinned_names bs else pinned_names bs) n
    here true e same some = subst (λ (m : ℕ). In (b.birth ∷ pinned_names bs) m) same (in_head b.birth (pinned_names bs))
    here false e same some = let none = ltb-false 0 b.pins e in absurd (omega (arith, none, some))

    by_test : (t : Bool) → (option_map (λ (b : Block). b.birth) (find (λ (b : Block). eqb b.address a) bs) ≡ Some n → 0 < option_map_or (λ (b : Block). b.pins) (find (λ (b : Block). eqb b.address a) bs) 0 → In (pinned_names bs) n)
        → option_map (λ (b : Block). b.birth) (cond t (Some b) (find (λ (b : Block). eqb b.address a) bs)) ≡ Some n → 0 < option_map_or (λ (b : Block). b.pins) (cond t (Some b) (find (λ (b : Block). eqb b.address a) bs)) 0 → In (pinned_names (b ∷ bs)) n
    by_test true later named some = here (nat_lt 0 b.pins) refl (let same : b.birth ≡ n = cc in same) some
    by_test false later named some = adds (nat_lt 0 b.pins) (later named some)

-- and each of them is that of a pinned block
pub pinned_block : (bs : List Block) (n : ℕ) → In (pinned_names bs) n → (i : ℕ) × (b : Block) × (slice_get bs i ≡ Some b) × (b.birth ≡ n) × (0 < b.pins)
pinned_block [] n k = absurd (false≢true k)
pinned_block (b ∷ bs) n k = by_test (nat_lt 0 b.pins) refl k (λ l. let r = pinned_block bs n l in (suc r.0, r.1, r.2, r.3, r.4))
  where
    by_test : (t : Bool) → nat_lt 0 b.pins ≡ t → In (if t then b.birth ∷ pinned_names bs else pinned_names bs) n → (In (pinned_names bs) n → (i : ℕ) × (c : Block) × (slice_get (b ∷ bs) i ≡ Some c) × (c.birth ≡ n) × (0 < c.pins))
        → (i : ℕ) × (c : Block) × (slice_get (b ∷ bs) i ≡ Some c) × (c.birth ≡ n) × (0 < c.pins)
    by_test true e k later = ⊎_elim (λ (same : b.birth ≡ n). (0, b, refl, same, ltb-true 0 b.pins e)) later (in_cases b.birth (pinned_names bs) n k)
    by_test false e k later = later k

-- one block more
pub pinned_next : (bs : List Block) (i : ℕ) (b : Block) → slice_get bs i ≡ Some b → pinned_names (drop i bs) ≡ (if nat_lt 0 b.pins then b.birth ∷ pinned_names (drop (i + 1) bs) else pinned_names (drop (i + 1) bs))
pinned_next [] i b at = absurd (cc)
pinned_next (x ∷ bs) zero b at = let same : x ≡ b = cc in ap (λ (y : Block). if nat_lt 0 y.pins then y.birth ∷ pinned_names bs else pinned_names bs) same
pinned_next (x ∷ bs) (suc i) b at = let next : suc i + 1 ≡ suc (i + 1) = omega arith in rw next (pinned_next bs i b at)

-- the block of an address
pub block_there : (bs : List Block) (i a : ℕ) → slice_get (map (λ (b : Block). b.address) bs) i ≡ Some a → (b : Block) × (slice_get bs i ≡ Some b)
block_there [] i a at = absurd (cc)
block_there (b ∷ bs) zero a at = (b, refl)
block_there (b ∷ bs) (suc i) a at = block_there bs i a at

pub unpinned_test : (n : ℕ) → n ≡ 0 → nat_lt 0 n ≡ false
unpinned_test n none = ap (nat_lt 0) none
