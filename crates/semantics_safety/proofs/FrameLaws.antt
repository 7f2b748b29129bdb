-- One reference more in the current frame.
use Rattle.std.proofs.Common.{◌≡◌, ◌≢◌, ◌⊎◌, inl, inr, ℕ, zero, suc, ◌+◌, ◌-◌, ◌<◌, ◌≤◌, arith, Bool, true, false, ◌&&◌, List, [], ◌∷◌, map, filter, length, Option, Some, None, refl, sym, ap, ◌∙◌, subst, if◌then◌else◌}
use Rattle.std.specs.Prelude.{◌==◌, nat_le, slice_get, slice_set}
use Rattle.std.proofs.lemmas.Bool.{and_parts, lt-leb, le-leb, leb-true, leb-false, eq-eqb}
use Rattle.std.proofs.lemmas.Bool.Decides.{Decides-eqb, nat_tests}
use Rattle.semantics.specs.CallEffects.{with_local, without_one, deleted_in, without_local}
use Rattle.semantics.specs.Thread.{Frame}
use Rattle.semantics_safety.specs.StepSafe.{references_in, references_at}
use Rattle.semantics_safety.specs.Stands.{copies}

-- ---- counting

-- one, where it holds
abbrev pub one_if : Bool → ℕ
one_if b = if b then 1 else 0

pub counted_here : {A : Type 0} (b : Bool) (e : A) (l : List A) → length (if b then e ∷ l else l) ≡ one_if b + length l
counted_here true e l = omega arith
counted_here false e l = omega arith

pub pair_same : (a b c d : ℕ) → (a == b && c == d) ≡ true → (a ≡ b) × (c ≡ d)
pair_same a b c d h = let both = and_parts (a == b) (c == d) h in ((Decides-eqb a b).0 both.0, (Decides-eqb c d).0 both.1)

pub turned : (m n : ℕ) → (m == n) ≡ (n == m)
turned m n = grind (arith, nat_tests)

-- ---- a frame more or less

-- a frame with one reference more
abbrev pub with_reference : ℕ → Frame → Frame
with_reference n frame = record frame { references = n ∷ frame.references }

more_in_list : (b : Bool) (n : ℕ) (l : List ℕ) → length l ≤ length (if b then n ∷ l else l)
more_in_list true n l = omega arith
more_in_list false n l = omega arith

more_at : (b : Bool) (i n m : ℕ) (frame : Frame) (below : List Frame) → copies (if b then references_in (slice_get (frame ∷ below) i) else []) m ≤ copies (if b then references_in (slice_get (with_reference n frame ∷ below) i) else []) m
more_at true zero n m frame below = more_in_list (m == n) n (filter (λ j. m == j) frame.references)
more_at true (suc i) n m frame below = omega arith
more_at false i n m frame below = omega arith

-- no level has fewer references
pub more_copies : (level n m : ℕ) (frames : List Frame) → copies (references_at level frames) m ≤ copies (references_at level (with_local n frames)) m
more_copies level n m [] = omega arith
more_copies level n m (frame ∷ below) = more_at (nat_le level (suc (length below))) (suc (length below) - level) n m frame below

top_at : (b : Bool) (i : ℕ) (frame : Frame) (below : List Frame) → b ≡ true → i ≡ 0 → (if b then references_in (slice_get (frame ∷ below) i) else []) ≡ frame.references
top_at true zero frame below e f = refl
top_at true (suc i) frame below e f = absurd (omega (arith, f))
top_at false i frame below e f = absurd (cc)

-- the current frame is the one of the highest level
pub top_references : (top : ℕ) (frame : Frame) (below : List Frame) → top ≡ suc (length below) → references_at top (frame ∷ below) ≡ frame.references
top_references top frame below e = top_at (nat_le top (suc (length below))) (suc (length below) - top) frame below (le-leb top (suc (length below)) (omega (arith, e))) (omega (arith, e))

-- the current one has one more
pub copies_grow : (top n level m : ℕ) (frame : Frame) (below : List Frame) → top ≡ suc (length below)
    → copies (references_at level (frame ∷ below)) m + one_if (top == level && n == m) ≤ copies (references_at level (with_local n (frame ∷ below))) m
copies_grow top n level m frame below e = by_test (top == level && n == m) refl
  where
    first_counted : copies (n ∷ frame.references) n ≡ suc (copies frame.references n)
    first_counted = ap (λ (b : Bool). length (if b then n ∷ filter (λ j. n == j) frame.references else filter (λ j. n == j) frame.references)) (eq-eqb n n refl)

    at_top : copies (references_at top (frame ∷ below)) n + 1 ≤ copies (references_at top (with_local n (frame ∷ below))) n
    at_top =
        let old : copies (references_at top (frame ∷ below)) n ≡ copies frame.references n = ap (λ (l : List ℕ). copies l n) (top_references top frame below e) in
        let new : copies (references_at top (with_local n (frame ∷ below))) n ≡ copies (n ∷ frame.references) n = ap (λ (l : List ℕ). copies l n) (top_references top (with_reference n frame) below e) in
        let first = first_counted in
        omega (arith, old, new, first)

    by_test : (b : Bool) → (top == level && n == m) ≡ b → copies (references_at level (frame ∷ below)) m + one_if b ≤ copies (references_at level (with_local n (frame ∷ below))) m
    by_test true h =
        let same = pair_same top level n m h in
        subst (λ (l : ℕ). copies (references_at l (frame ∷ below)) m + 1 ≤ copies (references_at l (with_local n (frame ∷ below))) m) same.0
        (subst (λ (j : ℕ). copies (references_at top (frame ∷ below)) j + 1 ≤ copies (references_at top (with_local n (frame ∷ below))) j) same.1 at_top)
    by_test false h = let more = more_copies level n m (frame ∷ below) in omega (arith, more)

-- ---- frames with the same references

-- the references of each frame
abbrev pub references_of : List Frame → List (List ℕ)
references_of frames = map (λ (frame : Frame). frame.references) frames

-- a list of references, if it is there
abbrev list_or_none : Option (List ℕ) → List ℕ
list_or_none None = []
list_or_none (Some l) = l

-- the references of a level, by those of each frame
abbrev listed_at : ℕ → List (List ℕ) → List ℕ
listed_at level lists = if nat_le level (length lists) then list_or_none (slice_get lists (length lists - level)) else []

listed_length : (frames : List Frame) → length (references_of frames) ≡ length frames
listed_length [] = refl
listed_length (frame ∷ below) = ap suc (listed_length below)

listed_place : (frames : List Frame) (i : ℕ) → list_or_none (slice_get (references_of frames) i) ≡ references_in (slice_get frames i)
listed_place [] i = refl
listed_place (frame ∷ below) zero = refl
listed_place (frame ∷ below) (suc i) = listed_place below i

listed_is : (level : ℕ) (frames : List Frame) → listed_at level (references_of frames) ≡ references_at level frames
listed_is level frames =
    ap (λ (n : ℕ). if nat_le level n then list_or_none (slice_get (references_of frames) (n - level)) else []) (listed_length frames)
    ∙ ap (λ (l : List ℕ). if nat_le level (length frames) then l else []) (listed_place frames (length frames - level))

-- what else a frame has doesn't count
pub same_references : (level : ℕ) (after before : List Frame) → references_of after ≡ references_of before → references_at level after ≡ references_at level before
same_references level after before e = sym (listed_is level after) ∙ ap (listed_at level) e ∙ listed_is level before

pub same_length : (after before : List Frame) → references_of after ≡ references_of before → length after ≡ length before
same_length after before e = sym (listed_length after) ∙ ap (λ (l : List (List ℕ)). length l) e ∙ listed_length before

-- there is a current frame
abbrev pub HasFrame : List Frame → Type 0
HasFrame [] = ⊥
HasFrame (frame ∷ below) = Unit {0}

pub frame_again : (after before : List Frame) → references_of after ≡ references_of before → HasFrame before → HasFrame after
frame_again after [] e h = absurd h
frame_again [] (frame ∷ below) e h = absurd (cc)
frame_again (frame' ∷ below') (frame ∷ below) e h = tt

-- ---- levels

-- a level that has a frame, or has none
pub level_there : (level : ℕ) (frames : List Frame) → (level ≤ length frames) ⊎ (length frames < level)
level_there level frames = by_test (nat_le level (length frames)) refl
  where
    by_test : (b : Bool) → nat_le level (length frames) ≡ b → (level ≤ length frames) ⊎ (length frames < level)
    by_test true e = inl (leb-true level (length frames) e)
    by_test false e = inr (leb-false level (length frames) e)

pub references_there : (level : ℕ) (frames : List Frame) → level ≤ length frames → references_at level frames ≡ references_in (slice_get frames (length frames - level))
references_there level frames h = ap (λ (b : Bool). if b then references_in (slice_get frames (length frames - level)) else []) (le-leb level (length frames) h)

pub no_references : (level : ℕ) (frames : List Frame) → length frames < level → references_at level frames ≡ []
no_references level frames h = ap (λ (b : Bool). if b then references_in (slice_get frames (length frames - level)) else []) (lt-leb level (length frames) h)

-- ---- a frame more

-- the lower levels are as they were
pub pushed_references : (level : ℕ) (new : Frame) (frames : List Frame) → level ≤ length frames → references_at level (new ∷ frames) ≡ references_at level frames
pushed_references level new frames h =
    let deeper : suc (length frames) - level ≡ suc (length frames - level) = omega (arith, h) in
    references_there level (new ∷ frames) (omega (arith, h))
    ∙ ap (λ (i : ℕ). references_in (slice_get (new ∷ frames) i)) deeper
    ∙ sym (references_there level frames h)

pub copies_pushed : (level m : ℕ) (new : Frame) (frames : List Frame) → copies (references_at level frames) m ≤ copies (references_at level (new ∷ frames)) m
copies_pushed level m new frames = elim (level_there level frames) [
  | inl h ↦ let same = ap (λ (l : List ℕ). copies l m) (pushed_references level new frames h) in omega (arith, same)
  | inr h ↦ let none : copies (references_at level frames) m ≡ 0 = ap (λ (l : List ℕ). copies l m) (no_references level frames h) in omega (arith, none)
]

-- ---- a reference less

one_less : (n m : ℕ) (l : List ℕ) → copies l m ≤ copies (without_one n l) m + one_if (n == m)
one_less n m [] = omega arith
one_less n m (j ∷ l) = by_test (n == j) refl (one_less n m l)
  where
    first : copies (j ∷ l) m ≡ one_if (m == j) + copies l m
    first = counted_here (m == j) j (filter (λ (i : ℕ). m == i) l)

    by_test : (b : Bool) → (n == j) ≡ b → copies l m ≤ copies (without_one n l) m + one_if (n == m) → copies (j ∷ l) m ≤ copies (if b then l else j ∷ without_one n l) m + one_if (n == m)
    by_test true e later =
        let same : n ≡ j = (Decides-eqb n j).0 e in
        let is : one_if (m == j) ≡ one_if (n == m) = ap (λ (i : ℕ). one_if (m == i)) (sym same) ∙ ap one_if (turned m n) in
        let here = first in
        omega (arith, is, here)
    by_test false e later =
        let here = first in
        let there : copies (j ∷ without_one n l) m ≡ one_if (m == j) + copies (without_one n l) m = counted_here (m == j) j (filter (λ (i : ℕ). m == i) (without_one n l)) in
        omega (arith, here, there, later)

set_length : (frames : List Frame) (i : ℕ) (v : Frame) → length (slice_set frames i v) ≡ length frames
set_length [] i v = refl
set_length (frame ∷ below) zero v = refl
set_length (frame ∷ below) (suc i) v = ap suc (set_length below i v)

set_other : (frames : List Frame) (i j : ℕ) (v : Frame) → i ≢ j → slice_get (slice_set frames i v) j ≡ slice_get frames j
set_other [] i j v h = refl
set_other (frame ∷ below) zero zero v h = absurd (h refl)
set_other (frame ∷ below) zero (suc j) v h = refl
set_other (frame ∷ below) (suc i) zero v h = refl
set_other (frame ∷ below) (suc i) (suc j) v h = set_other below i j v (λ same. h (ap suc same))

set_same : (n m : ℕ) (frames : List Frame) (i : ℕ) → copies (references_in (slice_get frames i)) m ≤ copies (references_in (slice_get (slice_set frames i (deleted_in n (slice_get frames i))) i)) m + one_if (n == m)
set_same n m [] i = omega arith
set_same n m (frame ∷ below) zero = one_less n m frame.references
set_same n m (frame ∷ below) (suc i) = set_same n m below i

-- where the deleted one was there is one less at most
pub copies_deleted : (level n l m : ℕ) (frames : List Frame) → level ≤ length frames → copies (references_at l frames) m ≤ copies (references_at l (without_local level n frames)) m + one_if (level == l && n == m)
copies_deleted level n l m frames there = elim (level_there l frames) [
  | inl h ↦
      let after = set_length frames (length frames - level) (deleted_in n (slice_get frames (length frames - level))) in
      let old = ap (λ (list : List ℕ). copies list m) (references_there l frames h) in
      let new = ap (λ (list : List ℕ). copies list m) (references_there l (without_local level n frames) (omega (arith, h, after)) ∙ ap (λ (i : ℕ). references_in (slice_get (without_local level n frames) (i - l))) after) in
      let moved = by_level (level == l) refl h in
      omega (arith, old, new, moved)
  | inr h ↦ let none : copies (references_at l frames) m ≡ 0 = ap (λ (list : List ℕ). copies list m) (no_references l frames h) in omega (arith, none)
]
  where
    by_level : (b : Bool) → (level == l) ≡ b → l ≤ length frames → copies (references_in (slice_get frames (length frames - l))) m ≤ copies (references_in (slice_get (without_local level n frames) (length frames - l))) m + one_if (b && n == m)
    by_level true e h =
        subst (λ (i : ℕ). copies (references_in (slice_get frames (length frames - i))) m ≤ copies (references_in (slice_get (without_local level n frames) (length frames - i))) m + one_if (n == m)) ((Decides-eqb level l).0 e)
        (set_same n m frames (length frames - level))
    by_level false e h =
        let apart : level ≢ l = λ same. let c : true ≡ false = sym ((Decides-eqb level l).1 same) ∙ e in cc in
        let other : (length frames - level) ≢ (length frames - l) = λ same. apart (omega (arith, same, h, there)) in
        let same = ap (λ (o : Option Frame). copies (references_in o) m) (set_other frames (length frames - level) (length frames - l) (deleted_in n (slice_get frames (length frames - level))) other) in
        omega (arith, same)

pub deleted_length : (level n : ℕ) (frames : List Frame) → length (without_local level n frames) ≡ length frames
deleted_length level n frames = set_length frames (length frames - level) (deleted_in n (slice_get frames (length frames - level)))
