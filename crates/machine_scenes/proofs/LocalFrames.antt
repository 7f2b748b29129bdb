-- Frames of local references in their table, and in the source: what changes leave in agreement.
use Rattle.std.proofs.Common.{inl, inr, ◌≡◌, ℕ, zero, suc, ◌+◌, ◌-◌, ◌<◌, ◌≤◌, max, Bool, true, false, not, List, [], ◌∷◌, ◌++◌, drop, length, reverse, take, Option, Some, None, refl, sym, ap, ◌∙◌, subst, arith, if◌then◌else◌, sum_by, nat_lt, nat_le, slice_get, slice_set, slice_index_or}
use Rattle.std.specs.Prelude.{◌==◌, ◌≢◌}
use Rattle.std.specs.List.{AllZip}
use Rattle.std.specs.Option.{option_map_or}
use Rattle.std.proofs.Math.ListN.{length-reverse}
use Rattle.std.proofs.Math.Seq.{drop-length, get_or-append_seam, take-append_seam, take-set-lt}
use Rattle.std.proofs.lemmas.Bool.{le-leb, leb-false, leb-true, lt-leb, ltb-true, ltb-false}
use Rattle.std.proofs.lemmas.Bool.Decides.{Decides-eqb}
use Rattle.std.proofs.lemmas.List.{drop-append-le, drop-set-add, drop-set-lt, get_or-set_other, get_or-take, length-append, length-drop, reverse-append, take-append-le, take-set-le, take_all}
use Rattle.std.proofs.lemmas.List.Sums.{sum_by-cons, sum_by_push}
use Rattle.std.proofs.lemmas.Option.{slice_get_past}
use Rattle.heap.specs.Heap.{Space, name_at}
use Rattle.jni.specs.declared.function.JniFunction.{JniFunction}
use Rattle.jni.specs.declared.function.JniFunction.TheVariants.{PopLocalFrame}
use Rattle.semantics.specs.CallEffects as effects
use Rattle.semantics.specs.CallEffects.{with_capacity, with_local, without_local, without_one}
use Rattle.semantics.specs.Checks as checks
use Rattle.semantics.specs.CallSight.{is_full}
use Rattle.semantics.specs.Thread as source
use Rattle.tables.specs.Locals.{AreStacked, Frame, FrameSlots, IsMade, LocalTable, by_frame, capacities, current_frame, end_of, ensured, has_room, level_among, level_of, popped, pushed, slots_by_frame, without}
use Rattle.tables.specs.References.{IsPut, address_at, references_in}
use Rattle.tables.proofs.FrameLaws.{within}
use Rattle.machine_scenes.specs.HeapAgrees.{NamesAgree, SlotsAgree, times}
use Rattle.machine_scenes.specs.Locals.{FrameAgrees, FramesAgree, IsKeyOf, locals_after}
use Rattle.machine_scenes.proofs.GlobalLaws.{slots_deleted, slots_made, slot_there}

-- ---- the current frame

-- frames below and a last one
record Top (frames : List Frame) : Type 0 where
  pub below : List Frame
  pub top : Frame
  pub is : frames ≡ below ++ top ∷ []

top_of : (f : Frame) (frames : List Frame) → Top (f ∷ frames)
top_of f [] = record { below = []; top = f; is = refl }
top_of f (g ∷ frames) = let later = top_of g frames in record { below = f ∷ later.below; top = later.top; is = ap (λ (l : List Frame). f ∷ l) later.is }

-- what holds of no frame, and of frames with a last one
by_top : (P : List Frame → Type 0) → P [] → ((below : List Frame) (top : Frame) → P (below ++ top ∷ [])) → (frames : List Frame) → P frames
by_top P none some [] = none
by_top P none some (f ∷ frames) = let t = top_of f frames in subst P (sym t.is) (some t.below t.top)

abbrev table : List Frame → List (Option ℕ) → LocalTable
table frames slots = record { frames = frames; slots = slots }

set_end : (xs : List Frame) (x v : Frame) → slice_set (xs ++ x ∷ []) (length xs) v ≡ xs ++ v ∷ []
set_end [] x v = refl
set_end (y ∷ xs) x v = ap (λ (l : List Frame). y ∷ l) (set_end xs x v)

module _ (below : List Frame) (top : Frame) (slots : List (Option ℕ)) where
  abbrev whole : LocalTable
  whole = table (below ++ top ∷ []) slots

  count : length (below ++ top ∷ []) ≡ length below + 1
  count = length-append below (top ∷ [])

  last_index : length (below ++ top ∷ []) - 1 ≡ length below
  last_index = omega (arith, count)

  current_is : current_frame whole ≡ top
  current_is = ap (λ (n : ℕ). slice_index_or (below ++ top ∷ []) n (record { capacity = 0; first = 0 })) last_index ∙ get_or-append_seam below top [] (record { capacity = 0; first = 0 })

  backwards : reverse (below ++ top ∷ []) ≡ top ∷ reverse below
  backwards = reverse-append below (top ∷ [])

  rows_are : by_frame whole ≡ record { capacity = top.capacity; slots = drop top.first slots } ∷ slots_by_frame (reverse below) (take top.first slots)
  rows_are = ap (λ (l : List Frame). slots_by_frame l slots) backwards

  level_is : (place : ℕ) → level_of whole place ≡ (if nat_le top.first place then suc (length (reverse below)) else level_among (reverse below) place)
  level_is place = ap (λ (l : List Frame). level_among l place) backwards

  popped_is : popped whole ≡ table below (take top.first slots)
  popped_is =
      ap (λ (n : ℕ). table (take n (below ++ top ∷ [])) (take (current_frame whole).first slots)) last_index
      ∙ ap (λ (l : List Frame). table l (take (current_frame whole).first slots)) (take-append_seam below (top ∷ []))
      ∙ ap (λ (f : Frame). table below (take f.first slots)) current_is

  -- the last frame with more room
  abbrev roomy : ℕ → Frame
  roomy more = record { capacity = max top.capacity (length (references_in (drop top.first slots)) + more); first = top.first }

  ensured_is : (more : ℕ) → ensured whole more ≡ table (below ++ roomy more ∷ []) slots
  ensured_is more =
      ap (λ (f : Frame). table (slice_set (below ++ top ∷ []) (length (below ++ top ∷ []) - 1) (record { capacity = max f.capacity (length (references_in (drop f.first slots)) + more); first = f.first })) slots) current_is
      ∙ ap (λ (n : ℕ). table (slice_set (below ++ top ∷ []) n (roomy more)) slots) last_index
      ∙ ap (λ (l : List Frame). table l slots) (set_end below top (roomy more))

  -- the last frame begins among the slots
  first_within : AreStacked whole → top.first ≤ length slots
  first_within h =
      let at : slice_index_or (below ++ top ∷ []) (length below) (record { capacity = 0; first = 0 }) ≡ top = get_or-append_seam below top [] (record { capacity = 0; first = 0 }) in
      let past : slice_get (below ++ top ∷ []) (length below + 1) ≡ None = slice_get_past (below ++ top ∷ []) (length below + 1) (omega (arith, count)) in
      let end : end_of whole (length below) ≡ length slots = ap (λ (o : Option Frame). option_map_or (λ (f : Frame). f.first) o (length slots)) past in
      let low = h.rising (length below) (omega (arith, count)) in
      omega (arith, low, end, ap (λ (f : Frame). f.first) at)

-- ---- slots

get_dropped : (first : ℕ) (slots : List (Option ℕ)) (i : ℕ) → slice_get (drop first slots) i ≡ slice_get slots (first + i)
get_dropped zero slots i = let same : i ≡ 0 + i = omega arith in ap (slice_get slots) same
get_dropped (suc first) [] i = refl
get_dropped (suc first) (x ∷ slots) i = let same : suc (first + i) ≡ suc first + i = omega arith in get_dropped first slots i ∙ ap (slice_get (x ∷ slots)) same

level_within : (fs : List Frame) (place : ℕ) → level_among fs place ≤ length fs
level_within [] place = omega arith
level_within (f ∷ fs) place = by_test (nat_le f.first place) (level_within fs place)
  where
    by_test : (b : Bool) → level_among fs place ≤ length fs → (if b then suc (length fs) else level_among fs place) ≤ suc (length fs)
    by_test true h = omega arith
    by_test false h = omega (arith, h)

-- what is put no lower than a place, seen from there
record PutAbove (first : ℕ) (slots after : List (Option ℕ)) (place a : ℕ) : Type 0 where
  pub below : take first after ≡ take first slots
  pub above : IsPut 0 (drop first slots) (place - first) a (drop first after)

put_above : (first : ℕ) (slots after : List (Option ℕ)) (place a : ℕ) → first ≤ length slots → IsPut first slots place a after → PutAbove first slots after place a
put_above first slots after place a within (inl uses) =
    let low = uses.above in
    let sums : place ≡ first + (place - first) = omega (arith, low) in
    record {
      below = ap (take first) uses.changes ∙ take-set-le first slots place (Some a) low;
      above = inl (record {
        above = omega arith;
        was_free = get_dropped first slots (place - first) ∙ ap (slice_get slots) (sym sums) ∙ uses.was_free;
        changes = ap (drop first) uses.changes ∙ ap (λ (i : ℕ). drop first (slice_set slots i (Some a))) sums ∙ drop-set-add first slots (place - first) (Some a);
      });
    }
put_above first slots after place a within (inr adds) = record {
  below = ap (take first) adds.adds ∙ take-append-le first slots (Some a ∷ []) within;
  above = inr (record {
    none_free = adds.none_free;
    is_end = omega (arith, adds.is_end, length-drop first slots);
    adds = ap (drop first) adds.adds ∙ drop-append-le first slots (Some a ∷ []) within;
  });
}

-- ---- how many

-- one of these names less
one_fewer : (k : ℕ) (ns : List ℕ) → 0 < times k ns → length ns ≡ suc (length (without_one k ns))
one_fewer k [] h = absurd (omega (arith, h))
one_fewer k (n ∷ ns) h = by_test (k == n) h (one_fewer k ns)
  where
    by_test : (b : Bool) → 0 < (if b then suc (times k ns) else times k ns) → (0 < times k ns → length ns ≡ suc (length (without_one k ns))) → suc (length ns) ≡ suc (length (if b then ns else n ∷ without_one k ns))
    by_test true h further = refl
    by_test false h further = ap suc (further h)

-- a name in front is there
some_time : (k : ℕ) (ks : List ℕ) → 0 < times k (k ∷ ks)
some_time k ks = subst (λ (b : Bool). 0 < (if b then suc (times k ks) else times k ks)) (sym ((Decides-eqb k k).1 refl)) (omega arith)

full_is : (n m : ℕ) → nat_le m n ≡ not (nat_lt n m)
full_is n m = by_test (nat_lt n m) refl
  where
    by_test : (b : Bool) → nat_lt n m ≡ b → nat_le m n ≡ not b
    by_test true e = lt-leb m n (ltb-true n m e)
    by_test false e = le-leb m n (ltb-false n m e)

-- no number is under 0
none_lower : (n : ℕ) → nat_lt n 0 ≡ false
none_lower n = by_test (nat_lt n 0) refl
  where
    by_test : (b : Bool) → nat_lt n 0 ≡ b → b ≡ false
    by_test true e = absurd (omega (arith, ltb-true n 0 e))
    by_test false e = refl

module _ (space : Space) where
  -- as many names as references
  slots_count : (slots : List (Option ℕ)) (ns : List ℕ) → SlotsAgree space slots ns → length (references_in slots) ≡ length ns
  slots_count [] ns h = by_names h.names ns h.agree h.same
    where
      by_names : (names ns : List ℕ) → NamesAgree space [] names → ((n : ℕ) → times n names ≡ times n ns) → 0 ≡ length ns
      by_names [] [] agree same = refl
      by_names [] (n ∷ ns) agree same = absurd (omega (arith, same n, some_time n ns))
      by_names (k ∷ names) ns agree same = absurd agree
  slots_count (None ∷ slots) ns h = slots_count slots ns (record { names = h.names; agree = h.agree; same = h.same })
  slots_count (Some a ∷ slots) ns h = by_names h.names h.agree h.same (λ k left. slots_count slots (without_one k ns) left)
    where
      by_names : (names : List ℕ) → NamesAgree space (a ∷ references_in slots) names → ((n : ℕ) → times n names ≡ times n ns) → ((k : ℕ) → SlotsAgree space slots (without_one k ns) → length (references_in slots) ≡ length (without_one k ns)) → suc (length (references_in slots)) ≡ length ns
      by_names [] agree same further = absurd agree
      by_names (k ∷ names) agree same further =
          let left = slots_deleted space (Some a ∷ slots) ns 0 a k h refl agree.0 in
          ap suc (further k (record { names = left.names; agree = left.agree; same = left.same })) ∙ sym (one_fewer k ns (subst (λ (n : ℕ). 0 < n) (same k) (some_time k names)))

  abbrev Agree : List FrameSlots → List source.Frame → Type 0
  Agree rows gs = AllZip (FrameAgrees space) rows gs

  as_many : (fs : List Frame) (slots : List (Option ℕ)) (gs : List source.Frame) → Agree (slots_by_frame fs slots) gs → length fs ≡ length gs
  as_many [] slots [] h = refl
  as_many [] slots (g ∷ gs) h = absurd h
  as_many (f ∷ fs) slots [] h = absurd h
  as_many (f ∷ fs) slots (g ∷ gs) h = ap suc (as_many fs (take f.first slots) gs h.1)

  -- as many frames
  pub as_many_frames : (locals : LocalTable) (gs : List source.Frame) → FramesAgree space locals gs → length locals.frames ≡ length gs
  as_many_frames locals gs h = sym (length-reverse locals.frames) ∙ as_many (reverse locals.frames) locals.slots gs h

  -- none in the source where there is none in the table
  pub no_frames : (locals : LocalTable) (gs : List source.Frame) → FramesAgree space locals gs → length locals.frames ≡ 0 → gs ≡ []
  no_frames locals gs h none = by_frames gs (sym (as_many_frames locals gs h) ∙ none)
    where
      by_frames : (gs : List source.Frame) → length gs ≡ 0 → gs ≡ []
      by_frames [] e = refl
      by_frames (g ∷ gs) e = absurd (omega (arith, e))

  -- ---- capacities

  same_sums : (fs : List Frame) (slots : List (Option ℕ)) (gs : List source.Frame) → Agree (slots_by_frame fs slots) gs → sum_by (λ (f : Frame). f.capacity) fs ≡ source.capacities gs
  same_sums [] slots [] h = refl
  same_sums [] slots (g ∷ gs) h = absurd h
  same_sums (f ∷ fs) slots [] h = absurd h
  same_sums (f ∷ fs) slots (g ∷ gs) h =
      sum_by-cons (λ (x : Frame). x.capacity) f fs
      ∙ (λ i. h.0.capacity i + same_sums fs (take f.first slots) gs h.1 i)
      ∙ sym (sum_by-cons (λ (x : source.Frame). x.capacity) g gs)

  -- the capacities together
  pub same_capacities : (locals : LocalTable) (gs : List source.Frame) → FramesAgree space locals gs → capacities locals ≡ source.capacities gs
  same_capacities locals gs h = sym (sum_back locals.frames) ∙ same_sums (reverse locals.frames) locals.slots gs h
    where
      sum_back : (fs : List Frame) → sum_by (λ (f : Frame). f.capacity) (reverse fs) ≡ sum_by (λ (f : Frame). f.capacity) fs
      sum_back [] = refl
      sum_back (f ∷ fs) =
          let put = sum_by_push (λ (x : Frame). x.capacity) (reverse fs) f in
          ap (sum_by (λ (x : Frame). x.capacity)) (reverse-append (f ∷ []) fs) ∙ omega (arith, put, sum_back fs, sum_by-cons (λ (x : Frame). x.capacity) f fs)

  -- ---- room

  full_by : (row : FrameSlots) (g : source.Frame) → FrameAgrees space row g → is_full (Some g) ≡ not (nat_lt (length (references_in row.slots)) row.capacity)
  full_by row g h = (λ i. nat_le (sym h.capacity i) (sym (slots_count row.slots g.references h.references) i)) ∙ full_is (length (references_in row.slots)) row.capacity

  -- the current frame is full where it has no room
  pub full_where : (locals : LocalTable) (gs : List source.Frame) → FramesAgree space locals gs → is_full (slice_get gs 0) ≡ not (has_room locals)
  full_where locals gs h = by_top (λ (fs : List Frame). FramesAgree space (table fs locals.slots) gs → is_full (slice_get gs 0) ≡ not (has_room (table fs locals.slots))) (none gs) (λ below top. some below top gs) locals.frames h
    where
      none : (gs : List source.Frame) → FramesAgree space (table [] locals.slots) gs → is_full (slice_get gs 0) ≡ not (has_room (table [] locals.slots))
      none [] h = sym (ap not (none_lower (length (references_in (drop 0 locals.slots)))))
      none (g ∷ gs) h = absurd h

      first : (row : FrameSlots) (rows : List FrameSlots) (gs : List source.Frame) → Agree (row ∷ rows) gs → is_full (slice_get gs 0) ≡ not (nat_lt (length (references_in row.slots)) row.capacity)
      first row rows [] h = absurd h
      first row rows (g ∷ gs) h = full_by row g h.0

      some : (below : List Frame) (top : Frame) (gs : List source.Frame) → FramesAgree space (table (below ++ top ∷ []) locals.slots) gs → is_full (slice_get gs 0) ≡ not (has_room (table (below ++ top ∷ []) locals.slots))
      some below top gs h =
          first _ _ gs (subst (λ (l : List FrameSlots). Agree l gs) (rows_are below top locals.slots) h)
          ∙ ap (λ (f : Frame). not (nat_lt (length (references_in (drop f.first locals.slots))) f.capacity)) (sym (current_is below top locals.slots))

  -- ---- a frame is made, or ends

  -- a frame is made
  pub frame_made : (locals : LocalTable) (gs : List source.Frame) (capacity : ℕ) → FramesAgree space locals gs → FramesAgree space (pushed locals capacity) (record { capacity = capacity; references = [] } ∷ gs)
  frame_made locals gs capacity h =
      let new : Frame = record { capacity = capacity; first = length locals.slots } in
      let rows : by_frame (pushed locals capacity) ≡ record { capacity = capacity; slots = [] } ∷ by_frame locals =
      rows_are locals.frames new locals.slots
      ∙ ap (λ (l : List (Option ℕ)). record { capacity = capacity; slots = l } ∷ slots_by_frame (reverse locals.frames) (take (length locals.slots) locals.slots)) (drop-length locals.slots)
      ∙ ap (λ (l : List (Option ℕ)). record { capacity = capacity; slots = [] } ∷ slots_by_frame (reverse locals.frames) l) (take_all (length locals.slots) locals.slots (omega arith)) in
      subst (λ (l : List FrameSlots). Agree l (record { capacity = capacity; references = [] } ∷ gs)) (sym rows) (record { capacity = refl; references = record { names = []; agree = tt; same = λ n. refl } }, h)

  below_agree : (row : FrameSlots) (rows : List FrameSlots) (gs : List source.Frame) → Agree (row ∷ rows) gs → Agree rows (drop 1 gs)
  below_agree row rows [] h = absurd h
  below_agree row rows (g ∷ gs) h = h.1

  -- the current frame ends, if there is one
  pub frame_ended : (locals : LocalTable) (gs : List source.Frame) → FramesAgree space locals gs → FramesAgree space (popped locals) (drop 1 gs)
  frame_ended locals gs h = by_top (λ (fs : List Frame). FramesAgree space (table fs locals.slots) gs → FramesAgree space (popped (table fs locals.slots)) (drop 1 gs)) (none gs) some locals.frames h
    where
      none : (gs : List source.Frame) → FramesAgree space (table [] locals.slots) gs → FramesAgree space (popped (table [] locals.slots)) (drop 1 gs)
      none [] h = tt
      none (g ∷ gs) h = absurd h

      some : (below : List Frame) (top : Frame) → FramesAgree space (table (below ++ top ∷ []) locals.slots) gs → FramesAgree space (popped (table (below ++ top ∷ []) locals.slots)) (drop 1 gs)
      some below top h =
          subst (λ (t : LocalTable). FramesAgree space t (drop 1 gs)) (sym (popped_is below top locals.slots))
          (below_agree _ _ gs (subst (λ (l : List FrameSlots). Agree l gs) (rows_are below top locals.slots) h))

  -- the frames where a function's result is put
  pub frames_left : (f : JniFunction) (locals : LocalTable) (gs : List source.Frame) → FramesAgree space locals gs → FramesAgree space (locals_after f locals) (checks.frames_after f gs)
  frames_left PopLocalFrame locals gs h = frame_ended locals gs h
  frames_left f locals gs h = h

  -- ---- room is ensured

  -- room in the current frame
  pub room_ensured : (locals : LocalTable) (gs : List source.Frame) (more : ℕ) → 0 < length locals.frames → FramesAgree space locals gs → FramesAgree space (ensured locals more) (with_capacity more gs)
  room_ensured locals gs more there h =
      by_top (λ (fs : List Frame). 0 < length fs → FramesAgree space (table fs locals.slots) gs → FramesAgree space (ensured (table fs locals.slots) more) (with_capacity more gs)) (λ few. absurd (omega (arith, few))) (λ below top few. some below top) locals.frames there h
    where
      roomier : (row : FrameSlots) (rows : List FrameSlots) (gs : List source.Frame) → Agree (row ∷ rows) gs → Agree (record { capacity = max row.capacity (length (references_in row.slots) + more); slots = row.slots } ∷ rows) (with_capacity more gs)
      roomier row rows [] h = absurd h
      roomier row rows (g ∷ gs) h = (record { capacity = (λ i. max (h.0.capacity i) (slots_count row.slots g.references h.0.references i + more)); references = h.0.references }, h.1)

      some : (below : List Frame) (top : Frame) → FramesAgree space (table (below ++ top ∷ []) locals.slots) gs → FramesAgree space (ensured (table (below ++ top ∷ []) locals.slots) more) (with_capacity more gs)
      some below top h =
          subst (λ (t : LocalTable). FramesAgree space t (with_capacity more gs)) (sym (ensured_is below top locals.slots more))
          (subst (λ (l : List FrameSlots). Agree l (with_capacity more gs)) (sym (rows_are below (roomy below top locals.slots more) locals.slots))
          (roomier _ _ gs (subst (λ (l : List FrameSlots). Agree l gs) (rows_are below top locals.slots) h)))

  -- ---- a reference is made

  -- what becomes of the current frame
  with_reference : (row : FrameSlots) (rows : List FrameSlots) (gs : List source.Frame) (slots : List (Option ℕ)) (place a n : ℕ) → Agree (row ∷ rows) gs → IsPut 0 row.slots place a slots → name_at space a ≡ Some n
      → Agree (record { capacity = row.capacity; slots = slots } ∷ rows) (with_local n gs)
  with_reference row rows [] slots place a n h put named = absurd h
  with_reference row rows (g ∷ gs) slots place a n h put named = (record { capacity = h.0.capacity; references = slots_made space row.slots slots g.references place a n h.0.references put named }, h.1)

  -- a reference is made in the current frame
  pub reference_made : (locals after : LocalTable) (gs : List source.Frame) (place a n : ℕ) → AreStacked locals → IsMade locals place a after → name_at space a ≡ Some n → FramesAgree space locals gs → FramesAgree space after (with_local n gs)
  reference_made locals after gs place a n stacked made named h =
      subst (λ (fs : List Frame). FramesAgree space (table fs after.slots) (with_local n gs)) (sym made.frames)
      (by_top (λ (fs : List Frame). AreStacked (table fs locals.slots) → IsPut (current_frame (table fs locals.slots)).first locals.slots place a after.slots → FramesAgree space (table fs locals.slots) gs → FramesAgree space (table fs after.slots) (with_local n gs))
      (none gs) some locals.frames stacked made.slots h)
    where
      none : (gs : List source.Frame) → AreStacked (table [] locals.slots) → IsPut (current_frame (table [] locals.slots)).first locals.slots place a after.slots → FramesAgree space (table [] locals.slots) gs → FramesAgree space (table [] after.slots) (with_local n gs)
      none [] stacked put h = tt
      none (g ∷ gs) stacked put h = absurd h

      some : (below : List Frame) (top : Frame) → AreStacked (table (below ++ top ∷ []) locals.slots) → IsPut (current_frame (table (below ++ top ∷ []) locals.slots)).first locals.slots place a after.slots → FramesAgree space (table (below ++ top ∷ []) locals.slots) gs
          → FramesAgree space (table (below ++ top ∷ []) after.slots) (with_local n gs)
      some below top stacked put h =
          let put_there = subst (λ (f : Frame). IsPut f.first locals.slots place a after.slots) (current_is below top locals.slots) put in
          let split = put_above top.first locals.slots after.slots place a (first_within below top locals.slots stacked) put_there in
          let rows = rows_are below top after.slots ∙ ap (λ (l : List (Option ℕ)). record { capacity = top.capacity; slots = drop top.first after.slots } ∷ slots_by_frame (reverse below) l) split.below in
          subst (λ (l : List FrameSlots). Agree l (with_local n gs)) (sym rows)
          (with_reference _ _ gs (drop top.first after.slots) (place - top.first) a n (subst (λ (l : List FrameSlots). Agree l gs) (rows_are below top locals.slots) h) split.above named)

  -- ---- a reference is deleted

  module _ (place a n : ℕ) (named : name_at space a ≡ Some n) where
    -- the source's frames without it
    abbrev less : ℕ → List source.Frame → List source.Frame
    less i gs = slice_set gs i (effects.deleted_in n (slice_get gs i))

    deleted_among : (fs : List Frame) (slots : List (Option ℕ)) (gs : List source.Frame) → address_at slots place ≡ Some a → Agree (slots_by_frame fs slots) gs → Agree (slots_by_frame fs (slice_set slots place None)) (without_local (level_among fs place) n gs)
    deleted_among [] slots [] there h = tt
    deleted_among [] slots (g ∷ gs) there h = absurd h
    deleted_among (f ∷ fs) slots [] there h = absurd h
    deleted_among (f ∷ fs) slots (g ∷ gs) there h = by_test (nat_le f.first place) refl (λ at. deleted_among fs (take f.first slots) gs at h.1)
      where
        by_test : (b : Bool) → nat_le f.first place ≡ b → (address_at (take f.first slots) place ≡ Some a → Agree (slots_by_frame fs (slice_set (take f.first slots) place None)) (without_local (level_among fs place) n gs))
            → Agree (slots_by_frame (f ∷ fs) (slice_set slots place None)) (without_local (if b then suc (length fs) else level_among fs place) n (g ∷ gs))
        by_test true e further =
            let low = leb-true f.first place e in
            let count : length fs ≡ length gs = as_many fs (take f.first slots) gs h.1 in
            let sums : place ≡ f.first + (place - f.first) = omega (arith, low) in
            let above : drop f.first (slice_set slots place None) ≡ slice_set (drop f.first slots) (place - f.first) None = ap (λ (i : ℕ). drop f.first (slice_set slots i None)) sums ∙ drop-set-add f.first slots (place - f.first) None in
            let under : take f.first (slice_set slots place None) ≡ take f.first slots = take-set-le f.first slots place None low in
            let at : slice_get (drop f.first slots) (place - f.first) ≡ Some (Some a) = get_dropped f.first slots (place - f.first) ∙ ap (slice_get slots) (sym sums) ∙ slot_there slots place a there in
            let index : length (g ∷ gs) - suc (length fs) ≡ 0 = omega (arith, count) in
            subst (λ (i : ℕ). Agree (slots_by_frame (f ∷ fs) (slice_set slots place None)) (less i (g ∷ gs))) (sym index) (
              record { capacity = h.0.capacity; references = subst (λ (l : List (Option ℕ)). SlotsAgree space l (without_one n g.references)) (sym above) (slots_deleted space (drop f.first slots) g.references (place - f.first) a n h.0.references at named) },
              subst (λ (l : List (Option ℕ)). Agree (slots_by_frame fs l) gs) (sym under) h.1,
            )
        by_test false e further =
            let high = leb-false f.first place e in
            let count : length fs ≡ length gs = as_many fs (take f.first slots) gs h.1 in
            let above : drop f.first (slice_set slots place None) ≡ drop f.first slots = drop-set-lt f.first slots place None high in
            let under : take f.first (slice_set slots place None) ≡ slice_set (take f.first slots) place None = take-set-lt f.first slots place None high in
            let at : address_at (take f.first slots) place ≡ Some a = get_or-take f.first slots place None high ∙ there in
            let index : length (g ∷ gs) - level_among fs place ≡ suc (length gs - level_among fs place) = omega (arith, count, level_within fs place) in
            subst (λ (i : ℕ). Agree (slots_by_frame (f ∷ fs) (slice_set slots place None)) (less i (g ∷ gs))) (sym index) (
              record { capacity = h.0.capacity; references = subst (λ (l : List (Option ℕ)). SlotsAgree space l g.references) (sym above) h.0.references },
              subst (λ (l : List (Option ℕ)). Agree (slots_by_frame fs l) (without_local (level_among fs place) n gs)) (sym under) (further at),
            )

  -- the reference of a key is deleted
  pub reference_deleted : (locals : LocalTable) (gs : List source.Frame) (key n level : ℕ) → IsKeyOf space locals key n level → FramesAgree space locals gs → FramesAgree space (without locals key) (without_local level n gs)
  reference_deleted locals gs key n level is h = subst (λ (l : ℕ). FramesAgree space (without locals key) (without_local l n gs)) is.of_level (deleted_among key is.address n is.name (reverse locals.frames) locals.slots gs is.there h)

  -- ---- keys that are left

  module _ (locals : LocalTable) (key n level : ℕ) (is : IsKeyOf space locals key n level) where
    -- where a frame is made
    pub key_pushed : (capacity : ℕ) → IsKeyOf space (pushed locals capacity) key n level
    key_pushed capacity =
        let in_table = within locals.slots key is.address is.there in
        record {
          address = is.address;
          there = is.there;
          name = is.name;
          of_level = level_is locals.frames (record { capacity = capacity; first = length locals.slots }) locals.slots key
              ∙ ap (λ (b : Bool). if b then suc (length (reverse locals.frames)) else level_of locals key) (lt-leb (length locals.slots) key in_table)
              ∙ is.of_level;
        }

    -- where room is ensured
    pub key_ensured : (more : ℕ) → 0 < length locals.frames → IsKeyOf space (ensured locals more) key n level
    key_ensured more there = record {
      address = is.address;
      there = is.there;
      name = is.name;
      of_level = by_top (λ (fs : List Frame). 0 < length fs → level_of (ensured (table fs locals.slots) more) key ≡ level_of (table fs locals.slots) key) (λ few. absurd (omega (arith, few))) (λ below top few. some below top) locals.frames there ∙ is.of_level;
    }
      where
        some : (below : List Frame) (top : Frame) → level_of (ensured (table (below ++ top ∷ []) locals.slots) more) key ≡ level_of (table (below ++ top ∷ []) locals.slots) key
        some below top =
            ap (λ (t : LocalTable). level_of t key) (ensured_is below top locals.slots more)
            ∙ level_is below (roomy below top locals.slots more) locals.slots key
            ∙ sym (level_is below top locals.slots key)

    -- where the current frame ends, in which it isn't
    pub key_popped : level ≢ length locals.frames → IsKeyOf space (popped locals) key n level
    key_popped other =
        let still = by_top (λ (fs : List Frame). level_of (table fs locals.slots) key ≡ level → level ≢ length fs → Still fs) (λ e apart. absurd (apart (sym e))) some locals.frames is.of_level other in
        record { address = is.address; there = still.0; name = is.name; of_level = still.1 }
      where
        Still : List Frame → Type 0
        Still fs = (address_at (popped (table fs locals.slots)).slots key ≡ Some is.address) × (level_of (popped (table fs locals.slots)) key ≡ level)

        some : (below : List Frame) (top : Frame) → level_of (table (below ++ top ∷ []) locals.slots) key ≡ level → level ≢ length (below ++ top ∷ []) → Still (below ++ top ∷ [])
        some below top e apart = by_test (nat_le top.first key) refl (sym (level_is below top locals.slots key) ∙ e)
          where
            by_test : (b : Bool) → nat_le top.first key ≡ b → (if b then suc (length (reverse below)) else level_among (reverse below) key) ≡ level → Still (below ++ top ∷ [])
            by_test true t l = absurd (apart (omega (arith, l, length-reverse below, count below top locals.slots)))
            by_test false t l =
                let high = leb-false top.first key t in
                subst (λ (p : LocalTable). (address_at p.slots key ≡ Some is.address) × (level_of p key ≡ level)) (sym (popped_is below top locals.slots)) (get_or-take top.first locals.slots key None high ∙ is.there, l)

    -- where another reference is deleted
    pub key_deleted : (deleted : ℕ) → key ≢ deleted → IsKeyOf space (without locals deleted) key n level
    key_deleted deleted other = record { address = is.address; there = get_or-set_other locals.slots deleted key None None other ∙ is.there; name = is.name; of_level = is.of_level }
