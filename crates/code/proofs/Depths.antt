-- The number of words at each place of code.
use Rattle.std.proofs.Common.{◌≡◌, ℕ, zero, suc, ◌+◌, ◌<◌, ◌≤◌, List, [], ◌∷◌, ◌++◌, length, take, Option, Some, None, refl, sym, ap, subst, ◌∙◌, add-one, below_more, arith}
use Rattle.std.specs.Prelude.{slice_get, slice_index, IsSome, IsTrue, ◌↔◌}
use Rattle.std.specs.List.{list_all}
use Rattle.std.specs.Option.{option_and_then}
use Rattle.std.proofs.lemmas.List.{take_all}
use Rattle.std.proofs.Math.ListN.{get_or-append}
use Rattle.std.proofs.Math.Seq.{get_or-append_seam}
use Rattle.std.proofs.lemmas.Option.{slice_get_within}
use Rattle.code.specs.declared.instr.Instr.{Instr}
use Rattle.code.specs.declared.slots.SlotCounts.{SlotCounts}
use Rattle.code.specs.Depth.{depth_after, depths, depth_at, IsDepthTable, EndsByLeaving, Lands, JumpsLand, within_slots, IsValid}

only_next : (o : Option ℕ) → option_and_then (depths []) o ≡ o
only_next None = refl
only_next (Some d) = refl

and_then_next : (i : Instr) (code : List Instr) (place : ℕ) (o : Option ℕ) → ((d : ℕ) → depths (take (suc place) code) d ≡ option_and_then (depth_after i) (depths (take place code) d))
    → option_and_then (depths (take (suc place) code)) o ≡ option_and_then (depth_after i) (option_and_then (depths (take place code)) o)
and_then_next i code place None each = refl
and_then_next i code place (Some d) each = each d

depths_next : (code : List Instr) (place : ℕ) (i : Instr) (d : ℕ) → slice_get code place ≡ Some i → depths (take (suc place) code) d ≡ option_and_then (depth_after i) (depths (take place code) d)
depths_next [] place i d at = absurd (cc)
depths_next (x ∷ code) zero i d at = let same : x ≡ i = cc in only_next (depth_after x d) ∙ ap (λ (y : Instr). depth_after y d) same
depths_next (x ∷ code) (suc place) i d at = and_then_next i code place (depth_after x d) (λ e. depths_next code place i e at)

and_then_stop : (code : List Instr) (place : ℕ) (o : Option ℕ) → ((d : ℕ) → depths (take place code) d ≡ None → depths code d ≡ None) → option_and_then (depths (take place code)) o ≡ None → option_and_then (depths code) o ≡ None
and_then_stop code place None each h = refl
and_then_stop code place (Some d) each h = each d h

depths_stop : (code : List Instr) (place d : ℕ) → depths (take place code) d ≡ None → depths code d ≡ None
depths_stop [] zero d h = h
depths_stop [] (suc place) d h = h
depths_stop (x ∷ code) zero d h = absurd (cc)
depths_stop (x ∷ code) (suc place) d h = and_then_stop code place (depth_after x d) (λ e. depths_stop code place e) h

-- the words after an instruction are those that it leaves
pub depth_at-next : (code : List Instr) (place : ℕ) (i : Instr) → slice_get code place ≡ Some i → depth_at code (place + 1) ≡ option_and_then (depth_after i) (depth_at code place)
depth_at-next code place i at = rw add-one (depths_next code place i 0 at)

-- where the stack leaves its range before a place, it does so in the code
pub depths_left : (code : List Instr) (place : ℕ) → depth_at code place ≡ None → depths code 0 ≡ None
depths_left code place h = depths_stop code place 0 h

known_or_left : (code : List Instr) (place : ℕ) (o : Option ℕ) → depth_at code place ≡ o → IsSome (depths code 0) → (d : ℕ) × (depth_at code place ≡ Some d)
known_or_left code place None h k = let n : depths code 0 ≡ None = depths_left code place h in absurd (cc)
known_or_left code place (Some d) h k = (d, h)

-- code in which the stack keeps its range has a number of words at each place
pub depth_known : (code : List Instr) (place : ℕ) → IsSome (depths code 0) → (d : ℕ) × (depth_at code place ≡ Some d)
depth_known code place h = known_or_left code place (depth_at code place) refl h

-- at the end of the code
pub depth_at_end : (code : List Instr) → depth_at code (length code) ≡ depths code 0
depth_at_end code = ap (λ (c : List Instr). depths c 0) (take_all (length code) code (omega arith))

-- ---- the table

-- the words after the instruction at a place
pub depth_step : (code : List Instr) (place : ℕ) (i : Instr) (d : ℕ) → slice_get code place ≡ Some i → depth_at code place ≡ Some d → depth_at code (place + 1) ≡ depth_after i d
depth_step code place i d at here = depth_at-next code place i at ∙ ap (option_and_then (depth_after i)) here

-- one place more
pub words_more : (code : List Instr) (table : List ℕ) (place depth : ℕ) → length table ≡ place → depth_at code place ≡ Some depth → ((k : ℕ) → k < place → depth_at code k ≡ Some (slice_index table k))
    → (k : ℕ) → k < place + 1 → depth_at code k ≡ Some (slice_index (table ++ depth ∷ []) k)
words_more code table place depth places here words =
    below_more (λ k. depth_at code k ≡ Some (slice_index (table ++ depth ∷ []) k)) place
    (λ k h. words k h ∙ ap (λ (n : ℕ). Some n) (sym (get_or-append table (depth ∷ []) 0 k (omega arith))))
    (here ∙ ap (λ (n : ℕ). Some n) (sym (ap (λ k. slice_index (table ++ depth ∷ []) k) (sym places) ∙ get_or-append_seam table depth [] 0)))

pub none_known : (o : Option ℕ) → o ≡ None → IsSome {T = ℕ} None ↔ IsSome o
none_known None h = (λ k. k, λ k. k)
none_known (Some d) h = absurd (cc)

known : (o : Option ℕ) → IsSome o → (d : ℕ) × (o ≡ Some d)
known None h = absurd (cc)
known (Some d) h = (d, refl)

-- what the checks of code come to
pub valid_of : (instrs : List Instr) (slots : SlotCounts) → IsSome (depths instrs 0) → EndsByLeaving instrs → JumpsLand instrs → IsTrue (list_all (within_slots slots) instrs) → IsValid (record { instrs = instrs; slots = slots })
valid_of instrs slots stays ends jumps within = let end = known (depths instrs 0) stays in record { moves = record { depth = end.0; stays = end.1; ends = ends }; jumps = jumps; slots = within }

-- ---- jumps

-- the jump at one place more lands
pub lands_more : (instrs : List Instr) (table : List ℕ) (place : ℕ) (here : Instr) → slice_get instrs place ≡ Some here → Lands instrs place (slice_index table place) here
    → ((k : ℕ) (i : Instr) → k < place → slice_get instrs k ≡ Some i → Lands instrs k (slice_index table k) i)
    → (k : ℕ) (i : Instr) → k < place + 1 → slice_get instrs k ≡ Some i → Lands instrs k (slice_index table k) i
lands_more instrs table place here at lands before k i h =
    below_more (λ m. (j : Instr) → slice_get instrs m ≡ Some j → Lands instrs m (slice_index table m) j) place (λ m less j. before m j less) (λ j there. let same : here ≡ j = cc in subst (λ (x : Instr). Lands instrs place (slice_index table place) x) same lands) k h i

-- so do all jumps, where those before the end do
pub all_land : (instrs : List Instr) (table : List ℕ) (end : ℕ) → IsDepthTable instrs table → length instrs ≤ end
    → ((k : ℕ) (i : Instr) → k < end → slice_get instrs k ≡ Some i → Lands instrs k (slice_index table k) i) → JumpsLand instrs
all_land instrs table end is past each place depth i at here =
    let within : place < length instrs = slice_get_within instrs place i at in
    let in_table : place < length table = omega (arith, is.places) in
    let word = is.words place in_table in
    let same : slice_index table place ≡ depth = cc in
    subst (λ d. Lands instrs place d i) same (each place i (omega arith) at)
