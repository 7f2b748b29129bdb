-- The frames of threads have the names of those that they stand for, and roots are named place by place.
use Rattle.std.proofs.Common.{◌≡◌, ℕ, zero, suc, ◌+◌, ◌<◌, List, [], ◌∷◌, ◌++◌, length, map, take, drop, reverse, Option, Some, None, refl, sym, ap, ◌∙◌, subst, arith}
use Rattle.std.specs.Prelude.{slice_get, flat_map}
use Rattle.std.specs.List.{AllZip}
use Rattle.std.proofs.lemmas.List.{reverse-append}
use Rattle.std.proofs.lemmas.List.Concat.{flat_map-cons}
use Rattle.tables.specs.Locals as tables
use Rattle.tables.specs.Locals.{AreStacked, LocalTable, slots_by_frame}
use Rattle.tables.specs.References.{references_in}
use Rattle.heap.specs.Heap.{Space}
use Rattle.semantics.specs.Reachable.{argument_roots}
use Rattle.semantics.specs.Thread as source
use Rattle.machine_scenes.specs.declared.activation.Activation.{Activation}
use Rattle.machine_threads.specs.declared.thread.Thread.{Thread}
use Rattle.machine_scenes.specs.HeapAgrees.{NamesAgree, ReferenceAgrees, times}
use Rattle.machine_scenes.specs.Locals.{FrameAgrees, FramesAgree}
use Rattle.machine_scenes.specs.Given.{object_there, ReferenceIsThere}
use Rattle.machine_scenes.proofs.HeldSums.{times_append}
use Rattle.machine_collections.specs.Roots.{argument_places, reference_names, AreAddresses}
use Rattle.machine_threads.proofs.EntryTables.{references_after}

-- ---- names

-- as often among both where it is among each
pub times_both : (n : ℕ) (xs xs' ys ys' : List ℕ) → times n xs ≡ times n xs' → times n ys ≡ times n ys' → times n (xs ++ ys) ≡ times n (xs' ++ ys')
times_both n xs xs' ys ys' first second =
    times_append n xs ys ∙ ap (λ (k : ℕ). k + times n ys) first ∙ ap (λ (k : ℕ). times n xs' + k) second ∙ sym (times_append n xs' ys')

-- ---- frames

-- the frames, the current one first, have all slots
abbrev pub HaveAll : List tables.Frame → List (Option ℕ) → Type 0
HaveAll [] slots = slots ≡ []
HaveAll (f ∷ below) slots = HaveAll below (take f.first slots)

all_above : (fs : List tables.Frame) (lowest : tables.Frame) (slots : List (Option ℕ)) → lowest.first ≡ 0 → HaveAll (fs ++ lowest ∷ []) slots
all_above [] lowest slots none = ap (λ (n : ℕ). take n slots) none
all_above (f ∷ fs) lowest slots none = all_above fs lowest (take f.first slots) none

none_left : (slots : List (Option ℕ)) → length slots ≡ 0 → slots ≡ []
none_left [] e = refl
none_left (s ∷ slots) e = absurd (cc)

pub have_all : (t : LocalTable) → AreStacked t → HaveAll (reverse t.frames) t.slots
have_all t h = by_frames t.frames refl
  where
    by_frames : (fs : List tables.Frame) → t.frames ≡ fs → HaveAll (reverse fs) t.slots
    by_frames [] e = none_left t.slots (h.empty (ap length e))
    by_frames (f ∷ fs) e =
        let lowest : f.first ≡ 0 = subst (λ (gs : List tables.Frame). (tables.frame_at (record { frames = gs; slots = t.slots }) 0).first ≡ 0) e h.lowest in
        subst (λ (l : List tables.Frame). HaveAll l t.slots) (sym (reverse-append (f ∷ []) fs)) (all_above (reverse fs) f t.slots lowest)

split : (n : ℕ) (slots : List (Option ℕ)) → slots ≡ take n slots ++ drop n slots
split zero slots = refl
split (suc n) [] = refl
split (suc n) (s ∷ slots) = ap (λ (l : List (Option ℕ)). s ∷ l) (split n slots)

-- the names of references in slots, which are as often among those of frames
pub record AreNamesOf (space : Space) (slots : List (Option ℕ)) (gs : List source.Frame) : Type 0 where
  pub names : List ℕ
  pub agree : NamesAgree space (references_in slots) names
  pub same : (n : ℕ) → times n names ≡ times n (flat_map (λ (g : source.Frame). g.references) gs)

agree_both : (space : Space) (xs ys ns ms : List ℕ) → NamesAgree space xs ns → NamesAgree space ys ms → NamesAgree space (xs ++ ys) (ns ++ ms)
agree_both space [] ys [] ms h k = k
agree_both space [] ys (n ∷ ns) ms h k = absurd h
agree_both space (x ∷ xs) ys [] ms h k = absurd h
agree_both space (x ∷ xs) ys (n ∷ ns) ms h k = (h.0, agree_both space xs ys ns ms h.1 k)

swapped : (n : ℕ) (xs ys : List ℕ) → times n (xs ++ ys) ≡ times n (ys ++ xs)
swapped n xs ys =
    let one = times_append n xs ys in
    let other = times_append n ys xs in
    omega (arith, one, other)

pub names_of : (space : Space) (fs : List tables.Frame) (slots : List (Option ℕ)) (gs : List source.Frame) → HaveAll fs slots → AllZip (FrameAgrees space) (slots_by_frame fs slots) gs → AreNamesOf space slots gs
names_of space [] slots [] all h = record { names = []; agree = subst (λ (l : List (Option ℕ)). NamesAgree space (references_in l) []) (sym all) tt; same = λ n. refl }
names_of space [] slots (g ∷ gs) all h = absurd h
names_of space (f ∷ fs) slots [] all h = absurd h
names_of space (f ∷ fs) slots (g ∷ gs) all h =
    let below = names_of space fs (take f.first slots) gs all h.1 in
    let own = (h.0).references in
    let parts : references_in slots ≡ references_in (take f.first slots) ++ references_in (drop f.first slots) = ap references_in (split f.first slots) ∙ references_after (take f.first slots) (drop f.first slots) in
    record {
      names = below.names ++ own.names;
      agree = subst (λ (l : List ℕ). NamesAgree space l (below.names ++ own.names)) (sym parts) (agree_both space (references_in (take f.first slots)) (references_in (drop f.first slots)) below.names own.names below.agree own.agree);
      same = λ n.
          swapped n below.names own.names
          ∙ times_both n own.names g.references below.names (flat_map (λ (f : source.Frame). f.references) gs) (own.same n) (below.same n)
          ∙ ap (times n) (sym (flat_map-cons (λ (f : source.Frame). f.references) g gs));
    }

-- ---- threads

-- the frames of a call in progress, or of none, stand for those of the source
abbrev pub CallFrames : Space → Option Activation → List source.Frame → Type 0
CallFrames space None frames = frames ≡ []
CallFrames space (Some call) frames = FramesAgree space call.locals frames

-- those of calls stand for those of callers of the source
abbrev pub CallersFrames : Space → List Activation → List source.Caller → Type 0
CallersFrames space calls callers = AllZip (λ (call : Activation) (c : source.Caller). FramesAgree space call.locals c.frames) calls callers

-- the frames of all calls, what a call is given that isn't entered yet, and the pending exception of a thread stand for those of one of the source
pub record HasRootsOf (space : Space) (t : Thread) (s : source.Thread) : Type 0 where
  pub callers : CallersFrames space (reverse t.callers.items) s.callers
  pub arguments : NamesAgree space (references_in (argument_places t.entering)) (argument_roots s.callers s.tasks s.calls)
  pub frames : CallFrames space t.call s.frames
  pub pending : ReferenceAgrees space t.pending s.pending

-- ---- reference by reference

-- the object of the reference at a place is there
pub root_there : (space : Space) (slots : List (Option ℕ)) (place : ℕ) (r : Option ℕ) → AreAddresses space (references_in slots) → slice_get slots place ≡ Some r → ReferenceIsThere space r
root_there space [] place r h at a is = absurd (cc)
root_there space (None ∷ slots) zero r h at a is = absurd (let both : None ≡ Some a = (let same : None ≡ r = cc in same) ∙ is in cc)
root_there space (Some b ∷ slots) zero r h at a is = h 0 a (let same : Some b ≡ r = cc in same ∙ is)
root_there space (None ∷ slots) (suc place) r h at a is = root_there space slots place r h at a is
root_there space (Some b ∷ slots) (suc place) r h at a is = root_there space slots place r (λ i x e. h (suc i) x e) at a is

-- the names from a place on, that there being the next
pub root_next : (space : Space) (slots : List (Option ℕ)) (place : ℕ) (r : Option ℕ) → slice_get slots place ≡ Some r
    → map (object_there space) (references_in (drop place slots)) ≡ reference_names space r ++ map (object_there space) (references_in (drop (place + 1) slots))
root_next space [] place r at = absurd (cc)
root_next space (None ∷ slots) zero r at = let same : None ≡ r = cc in ap (λ (o : Option ℕ). reference_names space o ++ map (object_there space) (references_in slots)) same
root_next space (Some b ∷ slots) zero r at = let same : Some b ≡ r = cc in ap (λ (o : Option ℕ). reference_names space o ++ map (object_there space) (references_in slots)) same
root_next space (s ∷ slots) (suc place) r at = let next : suc place + 1 ≡ suc (place + 1) = omega arith in rw next (root_next space slots place r at)

-- ---- element by element

-- what holds of the first ones, and of one more
pub holds_more : {A : Type 0} (P : A → Type 0) (xs : List A) (i : ℕ) (x : A) → slice_get xs i ≡ Some x → P x → ((j : ℕ) (y : A) → j < i → slice_get xs j ≡ Some y → P y) → (j : ℕ) (y : A) → j < i + 1 → slice_get xs j ≡ Some y → P y
holds_more P [] i x at here before j y less e = absurd (cc)
holds_more P (z ∷ xs) zero x at here before zero y less e = let same : x ≡ y = let both : Some x ≡ Some y = sym at ∙ e in cc in subst P same here
holds_more P (z ∷ xs) zero x at here before (suc j) y less e = absurd (omega (arith, less))
holds_more P (z ∷ xs) (suc i) x at here before zero y less e = before 0 y (omega arith) e
holds_more P (z ∷ xs) (suc i) x at here before (suc j) y less e = holds_more P xs i x at here (λ k u l f. before (suc k) u (omega (arith, l)) f) j y (omega (arith, less)) e
