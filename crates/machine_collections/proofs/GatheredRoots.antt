-- The roots that are gathered are those of the source.
use Rattle.std.proofs.Common.{◌≡◌, ℕ, zero, suc, ◌+◌, ◌-◌, ◌<◌, List, [], ◌∷◌, ◌++◌, length, map, take, drop, Option, Some, None, refl, sym, ap, ◌∙◌, subst, arith, Contains, ⊎_elim}
use Rattle.std.specs.Prelude.{flat_map, slice_get, reverse}
use Rattle.std.specs.Option.{option_to_list}
use Rattle.std.specs.List.{AllZip, AllByRecursion}
use Rattle.std.proofs.lemmas.Bool.{false≢true}
use Rattle.heap.specs.Heap.{Space, name_at}
use Rattle.semantics.specs.Object.{Reference}
use Rattle.semantics.specs.Reachable.{argument_roots, frame_roots, from_one, thread_roots}
use Rattle.semantics.specs.Thread as source
use Rattle.semantics.proofs.ReachableLemmas.{In, in_append_cases, in_append_left, in_append_right, in_cases, in_head, in_tail, contains_in, to_contains}
use Rattle.tables.specs.Locals.{AreStacked, Frame, slots_by_frame}
use Rattle.tables.specs.References.{references_in}
use Rattle.machine_scenes.specs.declared.activation.Activation.{Activation}
use Rattle.machine_scenes.specs.declared.store.Store.{Store}
use Rattle.machine_threads.specs.declared.thread.Thread.{Thread}
use Rattle.machine_scenes.specs.HeapAgrees.{IsTable, NamesAgree, ReferenceAgrees, SlotsAgree, times}
use Rattle.machine_scenes.specs.Locals.{FrameAgrees}
use Rattle.semantics.proofs.ShownRows.{from_one-contains}
use Rattle.machine_scenes.proofs.HeapLaws.{from_one-bounds}
use Rattle.machine_collections.specs.Roots.{CallIsStacked, CallersAreStacked, ThreadIsStacked, ThreadsAreStacked, argument_places, call_places, loaded_places, root_places, slots_of, thread_places}
use Rattle.machine_threads.proofs.EntryTables.{references_after}
use Rattle.machine_threads.proofs.Reversed.{all_reversed}
use Rattle.std.proofs.lemmas.List.{append-nil, reverse-append}
use Rattle.std.proofs.lemmas.List.Concat.{flat_map-cons}
use Rattle.std.proofs.lemmas.Grind.{flat_map-append}
use Rattle.base.proofs.Lists.{Contains-from_get, get-from_contains}
use Rattle.machine_scenes.specs.MonitorsAgree.{AreThere, MonitorsAgree}
use Rattle.monitors.specs.Monitors.{addresses}
use Rattle.machine_collections.proofs.OwnedMonitors.{monitor_addresses, monitor_names, monitors_are, monitors_name, monitors_place}
use Rattle.machine_collections.proofs.ReachableNames.{in_times, times_in}
use Rattle.machine_collections.proofs.RootNames.{CallFrames, CallersFrames, HasRootsOf, have_all, names_of}

-- ---- the addresses of the roots

-- the addresses that a call refers to
abbrev pub call_addresses : Activation → List ℕ
call_addresses call = references_in (call_places call)

-- those that a call is given that isn't entered yet, or none
abbrev pub given_addresses : Thread → List ℕ
given_addresses t = references_in (argument_places t.entering)

-- those, and the ones that a thread's call in progress and its pending exception refer to
abbrev pub own_addresses : Thread → List ℕ
own_addresses t = given_addresses t ++ (references_in (slots_of t.call) ++ option_to_list t.pending)

-- the addresses that a thread refers to
abbrev pub thread_addresses : Thread → List ℕ
thread_addresses t = flat_map call_addresses t.callers.items ++ own_addresses t

-- the addresses of the objects made at load, of the global references, of what threads refer to, and of the objects of monitors
abbrev pub gathered : Store → List Thread → List ℕ
gathered store ts = store.loaded.items ++ (references_in store.globals ++ (flat_map thread_addresses ts ++ monitor_addresses store.monitors))

-- the names of these in the source, where so many objects are made at load
abbrev pub names_gathered : (made : ℕ) → (globals : List ℕ) → List source.Thread → List source.Monitor → List ℕ
names_gathered made globals ss owned = from_one made ++ (globals ++ (flat_map thread_roots ss ++ monitor_names owned))

calls_are : (calls : List Activation) → references_in (flat_map call_places calls) ≡ flat_map call_addresses calls
calls_are [] = refl
calls_are (call ∷ calls) =
    ap references_in (flat_map-cons call_places call calls)
    ∙ references_after (call_places call) (flat_map call_places calls)
    ∙ ap (λ (l : List ℕ). call_addresses call ++ l) (calls_are calls)
    ∙ sym (flat_map-cons call_addresses call calls)

thread_is : (t : Thread) → references_in (thread_places t) ≡ thread_addresses t
thread_is t =
    references_after (flat_map call_places t.callers.items) (argument_places t.entering ++ (slots_of t.call ++ t.pending ∷ []))
    ∙ ap (λ (l : List ℕ). l ++ references_in (argument_places t.entering ++ (slots_of t.call ++ t.pending ∷ []))) (calls_are t.callers.items)
    ∙ ap (λ (l : List ℕ). flat_map call_addresses t.callers.items ++ l)
    (references_after (argument_places t.entering) (slots_of t.call ++ t.pending ∷ [])
    ∙ ap (λ (l : List ℕ). given_addresses t ++ l)
    (references_after (slots_of t.call) (t.pending ∷ []) ∙ ap (λ (l : List ℕ). references_in (slots_of t.call) ++ l) (one t.pending)))
  where
    one : (o : Option ℕ) → references_in (o ∷ []) ≡ option_to_list o
    one None = refl
    one (Some a) = refl

threads_are : (ts : List Thread) → references_in (flat_map thread_places ts) ≡ flat_map thread_addresses ts
threads_are [] = refl
threads_are (t ∷ ts) =
    ap references_in (flat_map-cons thread_places t ts)
    ∙ references_after (thread_places t) (flat_map thread_places ts)
    ∙ ap (λ (l : List ℕ). l ++ references_in (flat_map thread_places ts)) (thread_is t)
    ∙ ap (λ (l : List ℕ). thread_addresses t ++ l) (threads_are ts)
    ∙ sym (flat_map-cons thread_addresses t ts)

loaded_are : (xs : List ℕ) → references_in (loaded_places xs) ≡ xs
loaded_are [] = refl
loaded_are (x ∷ xs) = ap (λ (l : List ℕ). x ∷ l) (loaded_are xs)

-- they are those in the places of the roots
pub places_are : (store : Store) (ts : List Thread) → references_in (root_places store ts) ≡ gathered store ts
places_are store ts =
    let last = flat_map thread_places ts ++ addresses store.monitors in
    let rest = store.globals ++ last in
    references_after (loaded_places store.loaded.items) rest
    ∙ ap (λ (l : List ℕ). l ++ references_in rest) (loaded_are store.loaded.items)
    ∙ ap (λ (l : List ℕ). store.loaded.items ++ l)
    (references_after store.globals last
    ∙ ap (λ (l : List ℕ). references_in store.globals ++ l)
    (references_after (flat_map thread_places ts) (addresses store.monitors) ∙ (λ i. threads_are ts i ++ monitors_are store.monitors i)))

-- an address in some place is among the addresses, and the other way round
pub place_in : (slots : List (Option ℕ)) (a : ℕ) → Contains slots (Some a) → In (references_in slots) a
place_in slots a c = by_place slots c.0 (get-from_contains slots (Some a) c)
  where
    by_place : (xs : List (Option ℕ)) (k : ℕ) → slice_get xs k ≡ Some (Some a) → In (references_in xs) a
    by_place [] k e = absurd (cc)
    by_place (None ∷ xs) zero e = absurd (cc)
    by_place (Some x ∷ xs) zero e = let same : x ≡ a = cc in subst (λ z. In (x ∷ references_in xs) z) same (in_head x (references_in xs))
    by_place (None ∷ xs) (suc k) e = by_place xs k e
    by_place (Some x ∷ xs) (suc k) e = in_tail x (references_in xs) a (by_place xs k e)

pub in_place : (slots : List (Option ℕ)) (a : ℕ) → In (references_in slots) a → Contains slots (Some a)
in_place slots a h = let p = by_slots slots h in Contains-from_get slots p.0 (Some a) p.1
  where
    by_slots : (xs : List (Option ℕ)) → In (references_in xs) a → (k : ℕ) × (slice_get xs k ≡ Some (Some a))
    by_slots [] h = absurd (false≢true h)
    by_slots (None ∷ xs) h = let r = by_slots xs h in (suc r.0, r.1)
    by_slots (Some x ∷ xs) h =
        ⊎_elim
        (λ (e : x ≡ a). (0, ap (λ (n : ℕ). Some (Some n)) e))
        (λ (l : In (references_in xs) a). let r = by_slots xs l in (suc r.0, r.1))
        (in_cases x (references_in xs) a h)

-- what is among some has its image among theirs, and the other way round
pub in_map : (f : ℕ → ℕ) (xs : List ℕ) (a : ℕ) → In xs a → In (map f xs) (f a)
in_map f [] a h = absurd (false≢true h)
in_map f (x ∷ xs) a h =
    ⊎_elim
    (λ (e : x ≡ a). subst (λ z. In (f x ∷ map f xs) z) (ap f e) (in_head (f x) (map f xs)))
    (λ (l : In xs a). in_tail (f x) (map f xs) (f a) (in_map f xs a l))
    (in_cases x xs a h)

pub map_in : (f : ℕ → ℕ) (xs : List ℕ) (n : ℕ) → In (map f xs) n → (a : ℕ) × In xs a × (f a ≡ n)
map_in f [] n h = absurd (false≢true h)
map_in f (x ∷ xs) n h =
    ⊎_elim
    (λ (e : f x ≡ n). (x, in_head x xs, e))
    (λ (l : In (map f xs) n). let r = map_in f xs n l in (r.0, in_tail x xs r.0 r.1, r.2))
    (in_cases (f x) (map f xs) n h)

-- ---- each root is among them

-- an address of this name is among these
abbrev pub IsAmong : Space → List ℕ → ℕ → Type 0
IsAmong space places n = (a : ℕ) × (name_at space a ≡ Some n) × In places a

in_drop : (n : ℕ) (slots : List (Option ℕ)) (a : ℕ) → In (references_in (drop n slots)) a → In (references_in slots) a
in_drop zero slots a h = h
in_drop (suc n) [] a h = h
in_drop (suc n) (None ∷ slots) a h = in_drop n slots a h
in_drop (suc n) (Some b ∷ slots) a h = in_tail b (references_in slots) a (in_drop n slots a h)

in_take : (n : ℕ) (slots : List (Option ℕ)) (a : ℕ) → In (references_in (take n slots)) a → In (references_in slots) a
in_take zero slots a h = absurd (false≢true h)
in_take (suc n) [] a h = h
in_take (suc n) (None ∷ slots) a h = in_take n slots a h
in_take (suc n) (Some b ∷ slots) a h =
    ⊎_elim (λ (e : b ≡ a). subst (λ z. In (b ∷ references_in slots) z) e (in_head b (references_in slots))) (λ (l : In (references_in (take n slots)) a). in_tail b (references_in slots) a (in_take n slots a l)) (in_cases b (references_in (take n slots)) a h)

-- what a thread refers to is what its callers do, what a call is given that isn't entered yet, its frames and its pending exception
abbrev below_roots : source.Thread → List ℕ
below_roots s = flat_map (λ (c : source.Caller). frame_roots c.frames) s.callers

abbrev given_roots : source.Thread → List ℕ
given_roots s = argument_roots s.callers s.tasks s.calls

in_roots : (s : source.Thread) (n : ℕ) {A : Type 0} → (In (below_roots s) n → A) → (In (given_roots s) n → A) → (In (frame_roots s.frames) n → A) → (In (option_to_list s.pending) n → A) → In (thread_roots s) n → A
in_roots s n callers given frames pending k =
    ⊎_elim
    (λ (l : In (below_roots s ++ given_roots s ++ frame_roots s.frames) n). ⊎_elim
    (λ (m : In (below_roots s ++ given_roots s) n). ⊎_elim callers given (in_append_cases (below_roots s) (given_roots s) n m))
    frames
    (in_append_cases (below_roots s ++ given_roots s) (frame_roots s.frames) n l))
    pending
    (in_append_cases (below_roots s ++ given_roots s ++ frame_roots s.frames) (option_to_list s.pending) n k)

-- what is among the first two kinds
early_root : (s : source.Thread) (n : ℕ) → In (below_roots s ++ given_roots s) n → In (thread_roots s) n
early_root s n k =
    in_append_left (below_roots s ++ given_roots s ++ frame_roots s.frames) (option_to_list s.pending) n (in_append_left (below_roots s ++ given_roots s) (frame_roots s.frames) n k)

caller_root : (s : source.Thread) (n : ℕ) → In (below_roots s) n → In (thread_roots s) n
caller_root s n k = early_root s n (in_append_left (below_roots s) (given_roots s) n k)

given_root : (s : source.Thread) (n : ℕ) → In (given_roots s) n → In (thread_roots s) n
given_root s n k = early_root s n (in_append_right (below_roots s) (given_roots s) n k)

frame_root : (s : source.Thread) (n : ℕ) → In (frame_roots s.frames) n → In (thread_roots s) n
frame_root s n k =
    in_append_left (below_roots s ++ given_roots s ++ frame_roots s.frames) (option_to_list s.pending) n (in_append_right (below_roots s ++ given_roots s) (frame_roots s.frames) n k)

pending_root : (s : source.Thread) (n : ℕ) → In (option_to_list s.pending) n → In (thread_roots s) n
pending_root s n k = in_append_right (below_roots s ++ given_roots s ++ frame_roots s.frames) (option_to_list s.pending) n k

-- ---- the order of callers

next_reversed : {A : Type 0} (f : A → List ℕ) (x : A) (xs : List A) → flat_map f (reverse (x ∷ xs)) ≡ flat_map f (reverse xs) ++ f x
next_reversed {A} f x xs =
    ap (flat_map f) (reverse-append (x ∷ []) xs)
    ∙ flat_map-append f (reverse xs) (x ∷ [])
    ∙ ap (λ (l : List ℕ). flat_map f (reverse xs) ++ l) (flat_map-cons f x [] ∙ append-nil (f x))

pub from_reversed : {A : Type 0} (f : A → List ℕ) (xs : List A) (n : ℕ) → In (flat_map f (reverse xs)) n → In (flat_map f xs) n
from_reversed f [] n k = k
from_reversed f (x ∷ xs) n k =
    subst (λ (l : List ℕ). In l n) (sym (flat_map-cons f x xs))
    (⊎_elim
    (λ (l : In (flat_map f (reverse xs)) n). in_append_right (f x) (flat_map f xs) n (from_reversed f xs n l))
    (λ (r : In (f x) n). in_append_left (f x) (flat_map f xs) n r)
    (in_append_cases (flat_map f (reverse xs)) (f x) n (subst (λ (l : List ℕ). In l n) (next_reversed f x xs) k)))

pub to_reversed : {A : Type 0} (f : A → List ℕ) (xs : List A) (n : ℕ) → In (flat_map f xs) n → In (flat_map f (reverse xs)) n
to_reversed f [] n k = k
to_reversed f (x ∷ xs) n k =
    subst (λ (l : List ℕ). In l n) (sym (next_reversed f x xs))
    (⊎_elim
    (λ (l : In (f x) n). in_append_right (flat_map f (reverse xs)) (f x) n l)
    (λ (r : In (flat_map f xs) n). in_append_left (flat_map f (reverse xs)) (f x) n (to_reversed f xs n r))
    (in_append_cases (f x) (flat_map f xs) n (subst (λ (l : List ℕ). In l n) (flat_map-cons f x xs) k)))

-- what holds of each place holds of each call
each_stacked : (calls : List Activation) → CallersAreStacked calls → AllByRecursion (λ (call : Activation). AreStacked call.locals) calls
each_stacked [] h = tt
each_stacked (call ∷ calls) h = (h 0 call refl, each_stacked calls (λ i x e. h (suc i) x e))

module _ (space : Space) where
  names_place : (places ns : List ℕ) (n : ℕ) → NamesAgree space places ns → In ns n → IsAmong space places n
  names_place [] [] n h k = absurd (false≢true k)
  names_place [] (m ∷ ns) n h k = absurd h
  names_place (a ∷ places) [] n h k = absurd h
  names_place (a ∷ places) (m ∷ ns) n h k =
      ⊎_elim
      (λ (same : m ≡ n). (a, h.0 ∙ ap (λ (x : ℕ). Some x) same, in_head a places))
      (λ (l : In ns n). let r = names_place places ns n h.1 l in (r.0, r.1, in_tail a places r.0 r.2))
      (in_cases m ns n k)

  slots_place : (slots : List (Option ℕ)) (source_names : List ℕ) (n : ℕ) → SlotsAgree space slots source_names → In source_names n → IsAmong space (references_in slots) n
  slots_place slots source_names n h k = let often = in_times source_names n k in names_place (references_in slots) h.names n h.agree (times_in h.names n (omega (arith, often, h.same n)))

  frames_place : (fs : List Frame) (slots : List (Option ℕ)) (gs : List source.Frame) (n : ℕ) → AllZip (FrameAgrees space) (slots_by_frame fs slots) gs → In (flat_map (λ (g : source.Frame). g.references) gs) n → IsAmong space (references_in slots) n
  frames_place [] slots [] n h k = absurd (false≢true k)
  frames_place [] slots (g ∷ gs) n h k = absurd h
  frames_place (f ∷ fs) slots [] n h k = absurd h
  frames_place (f ∷ fs) slots (g ∷ gs) n h k =
      ⊎_elim
      (λ (l : In g.references n). let r = slots_place (drop f.first slots) g.references n (h.0).references l in (r.0, r.1, in_drop f.first slots r.0 r.2))
      (λ (l : In (flat_map (λ (g : source.Frame). g.references) gs) n). let r = frames_place fs (take f.first slots) gs n h.1 l in (r.0, r.1, in_take f.first slots r.0 r.2))
      (in_append_cases g.references (flat_map (λ (g : source.Frame). g.references) gs) n k)

  call_place : (call : Option Activation) (gs : List source.Frame) (n : ℕ) → CallFrames space call gs → In (flat_map (λ (g : source.Frame). g.references) gs) n → IsAmong space (references_in (slots_of call)) n
  call_place None gs n h k = absurd (false≢true (subst (λ (l : List source.Frame). In (flat_map (λ (g : source.Frame). g.references) l) n) h k))
  call_place (Some call) gs n h k = frames_place (reverse call.locals.frames) call.locals.slots gs n h k

  reference_place : (o : Option ℕ) (r : Reference) (n : ℕ) → ReferenceAgrees space o r → In (option_to_list r) n → IsAmong space (option_to_list o) n
  reference_place o None n h k = absurd (false≢true k)
  reference_place None (Some m) n h k = absurd h
  reference_place (Some a) (Some m) n h k =
      ⊎_elim (λ (same : m ≡ n). (a, h ∙ ap (λ (x : ℕ). Some x) same, in_head a [])) (λ (l : In [] n). absurd (false≢true l)) (in_cases m [] n k)

  callers_place : (calls : List Activation) (callers : List source.Caller) (n : ℕ) → CallersFrames space calls callers → In (flat_map (λ (c : source.Caller). frame_roots c.frames) callers) n → IsAmong space (flat_map call_addresses calls) n
  callers_place [] [] n h k = absurd (false≢true k)
  callers_place [] (c ∷ callers) n h k = absurd h
  callers_place (call ∷ calls) [] n h k = absurd h
  callers_place (call ∷ calls) (c ∷ callers) n h k =
      let more = flat_map-cons call_addresses call calls in
      ⊎_elim
      (λ (l : In (frame_roots c.frames) n).
      let r = frames_place (reverse call.locals.frames) call.locals.slots c.frames n h.0 l in
      (r.0, r.1, subst (λ (ns : List ℕ). In ns r.0) (sym more) (in_append_left (call_addresses call) (flat_map call_addresses calls) r.0 r.2)))
      (λ (l : In (flat_map (λ (c : source.Caller). frame_roots c.frames) callers) n).
      let r = callers_place calls callers n h.1 l in
      (r.0, r.1, subst (λ (ns : List ℕ). In ns r.0) (sym more) (in_append_right (call_addresses call) (flat_map call_addresses calls) r.0 r.2)))
      (in_append_cases (frame_roots c.frames) (flat_map (λ (c : source.Caller). frame_roots c.frames) callers) n
      (subst (λ (ns : List ℕ). In ns n) (flat_map-cons (λ (c : source.Caller). frame_roots c.frames) c callers) k))

  thread_place : (t : Thread) (s : source.Thread) (n : ℕ) → HasRootsOf space t s → In (thread_roots s) n → IsAmong space (thread_addresses t) n
  thread_place t s n h k =
      let below = flat_map call_addresses t.callers.items in
      let refs = references_in (slots_of t.call) in
      let rest = refs ++ option_to_list t.pending in
      in_roots s n {A = IsAmong space (thread_addresses t) n}
      (λ l. let r = callers_place (reverse t.callers.items) s.callers n h.callers l in (r.0, r.1, in_append_left below (own_addresses t) r.0 (from_reversed call_addresses t.callers.items r.0 r.2)))
      (λ g. let r = names_place (given_addresses t) (given_roots s) n h.arguments g in (r.0, r.1, in_append_right below (own_addresses t) r.0 (in_append_left (given_addresses t) rest r.0 r.2)))
      (λ f. let r = call_place t.call s.frames n h.frames f in (r.0, r.1, in_append_right below (own_addresses t) r.0 (in_append_right (given_addresses t) rest r.0 (in_append_left refs (option_to_list t.pending) r.0 r.2))))
      (λ q. let r = reference_place t.pending s.pending n h.pending q in (r.0, r.1, in_append_right below (own_addresses t) r.0 (in_append_right (given_addresses t) rest r.0 (in_append_right refs (option_to_list t.pending) r.0 r.2))))
      k

  threads_place : (ts : List Thread) (ss : List source.Thread) (n : ℕ) → AllZip (HasRootsOf space) ts ss → In (flat_map thread_roots ss) n → IsAmong space (flat_map thread_addresses ts) n
  threads_place [] [] n h k = absurd (false≢true k)
  threads_place [] (s ∷ ss) n h k = absurd h
  threads_place (t ∷ ts) [] n h k = absurd h
  threads_place (t ∷ ts) (s ∷ ss) n h k =
      ⊎_elim
      (λ (l : In (thread_roots s) n). let r = thread_place t s n h.0 l in (r.0, r.1, in_append_left (thread_addresses t) (flat_map thread_addresses ts) r.0 r.2))
      (λ (l : In (flat_map thread_roots ss) n). let r = threads_place ts ss n h.1 l in (r.0, r.1, in_append_right (thread_addresses t) (flat_map thread_addresses ts) r.0 r.2))
      (in_append_cases (thread_roots s) (flat_map thread_roots ss) n k)

  get_in : (xs : List ℕ) (i : ℕ) → i < length xs → (a : ℕ) × (slice_get xs i ≡ Some a) × In xs a
  get_in [] i h = absurd (omega (arith, h))
  get_in (x ∷ xs) zero h = (x, refl, in_head x xs)
  get_in (x ∷ xs) (suc i) h = let r = get_in xs i (omega (arith, h)) in (r.0, r.1, in_tail x xs r.0 r.2)

  -- each name among the source's roots has its address among those that are gathered
  pub roots_gathered : (store : Store) (count : ℕ) (ts : List Thread) (ss : List source.Thread) (globals : List ℕ) (owned : List source.Monitor) (n : ℕ)
      → IsTable space store.loaded.items count → SlotsAgree space store.globals globals → AllZip (HasRootsOf space) ts ss → MonitorsAgree store.monitors owned → AreThere space store.monitors
      → In (names_gathered (length store.loaded.items) globals ss owned) n → IsAmong space (gathered store ts) n
  roots_gathered store count ts ss globals owned n table agree roots monitors there k =
      let items = store.loaded.items in
      let refs = references_in store.globals in
      let threads = flat_map thread_addresses ts in
      let last = monitor_addresses store.monitors in
      let rest = refs ++ (threads ++ last) in
      let names = flat_map thread_roots ss ++ monitor_names owned in
      ⊎_elim
      (λ (l : In (from_one (length items)) n).
      let b = from_one-bounds (length items) n (to_contains (from_one (length items)) n l) in
      let at = get_in items (n - 1) (omega (arith, b.0, b.1)) in
      let next : n - 1 + 1 ≡ n = omega (arith, b.0) in
      (at.0, table.named (n - 1) at.0 at.1 ∙ ap (λ (x : ℕ). Some x) next, in_append_left items rest at.0 at.2))
      (λ (l : In (globals ++ names) n). ⊎_elim
      (λ (g : In globals n). let r = slots_place store.globals globals n agree g in (r.0, r.1, in_append_right items rest r.0 (in_append_left refs (threads ++ last) r.0 r.2)))
      (λ (q : In names n). ⊎_elim
      (λ (t : In (flat_map thread_roots ss) n). let r = threads_place ts ss n roots t in (r.0, r.1, in_append_right items rest r.0 (in_append_right refs (threads ++ last) r.0 (in_append_left threads last r.0 r.2))))
      (λ (m : In (monitor_names owned) n). let r = monitors_place space store.monitors owned n monitors there m in (r.0, r.1, in_append_right items rest r.0 (in_append_right refs (threads ++ last) r.0 (in_append_right threads last r.0 r.2))))
      (in_append_cases (flat_map thread_roots ss) (monitor_names owned) n q))
      (in_append_cases globals names n l))
      (in_append_cases (from_one (length items)) (globals ++ names) n k)

  -- ---- the other way round

  -- the block at an address has a name among these
  abbrev IsNameAmong : List ℕ → ℕ → Type 0
  IsNameAmong names a = (n : ℕ) × (name_at space a ≡ Some n) × In names n

  address_name : (places ns : List ℕ) (a : ℕ) → NamesAgree space places ns → In places a → IsNameAmong ns a
  address_name [] [] a h k = absurd (false≢true k)
  address_name [] (m ∷ ns) a h k = absurd h
  address_name (b ∷ places) [] a h k = absurd h
  address_name (b ∷ places) (m ∷ ns) a h k =
      ⊎_elim
      (λ (e : b ≡ a). (m, ap (name_at space) (sym e) ∙ h.0, in_head m ns))
      (λ (l : In places a). let r = address_name places ns a h.1 l in (r.0, r.1, in_tail m ns r.0 r.2))
      (in_cases b places a k)

  -- where a name is as often among others
  as_often : (names others : List ℕ) (a : ℕ) → ((n : ℕ) → times n names ≡ times n others) → IsNameAmong names a → IsNameAmong others a
  as_often names others a same r = let often = in_times names r.0 r.2 in (r.0, r.1, times_in others r.0 (omega (arith, often, same r.0)))

  item_name : (xs : List ℕ) (a : ℕ) → In xs a → (i : ℕ) × (i < length xs) × (slice_get xs i ≡ Some a)
  item_name [] a h = absurd (false≢true h)
  item_name (x ∷ xs) a h =
      ⊎_elim
      (λ (e : x ≡ a). (0, omega arith, ap (λ (y : ℕ). Some y) e))
      (λ (l : In xs a). let r = item_name xs a l in (suc r.0, (let less : r.0 < length xs = r.1 in omega (arith, less)), r.2))
      (in_cases x xs a h)

  call_name : (call : Option Activation) (gs : List source.Frame) (a : ℕ) → CallFrames space call gs → CallIsStacked call → In (references_in (slots_of call)) a → IsNameAmong (flat_map (λ (g : source.Frame). g.references) gs) a
  call_name None gs a h stacked k = absurd (false≢true k)
  call_name (Some call) gs a h stacked k =
      let named = names_of space (reverse call.locals.frames) call.locals.slots gs (have_all call.locals stacked) h in
      as_often named.names (flat_map (λ (g : source.Frame). g.references) gs) a named.same (address_name (references_in call.locals.slots) named.names a named.agree k)

  reference_name : (o : Option ℕ) (r : Reference) (a : ℕ) → ReferenceAgrees space o r → In (option_to_list o) a → IsNameAmong (option_to_list r) a
  reference_name None r a h k = absurd (false≢true k)
  reference_name (Some b) None a h k = absurd h
  reference_name (Some b) (Some m) a h k =
      ⊎_elim (λ (e : b ≡ a). (m, ap (name_at space) (sym e) ∙ h, in_head m [])) (λ (l : In [] a). absurd (false≢true l)) (in_cases b [] a k)

  callers_name : (calls : List Activation) (callers : List source.Caller) (a : ℕ) → CallersFrames space calls callers → AllByRecursion (λ (call : Activation). AreStacked call.locals) calls → In (flat_map call_addresses calls) a
      → IsNameAmong (flat_map (λ (c : source.Caller). frame_roots c.frames) callers) a
  callers_name [] callers a h stacked k = absurd (false≢true k)
  callers_name (call ∷ calls) [] a h stacked k = absurd h
  callers_name (call ∷ calls) (c ∷ callers) a h stacked k =
      let later = flat_map (λ (c : source.Caller). frame_roots c.frames) callers in
      let more = flat_map-cons (λ (c : source.Caller). frame_roots c.frames) c callers in
      ⊎_elim
      (λ (l : In (call_addresses call) a).
      let named = names_of space (reverse call.locals.frames) call.locals.slots c.frames (have_all call.locals stacked.0) h.0 in
      let r = as_often named.names (frame_roots c.frames) a named.same (address_name (references_in call.locals.slots) named.names a named.agree l) in
      (r.0, r.1, subst (λ (ns : List ℕ). In ns r.0) (sym more) (in_append_left (frame_roots c.frames) later r.0 r.2)))
      (λ (l : In (flat_map call_addresses calls) a).
      let r = callers_name calls callers a h.1 stacked.1 l in
      (r.0, r.1, subst (λ (ns : List ℕ). In ns r.0) (sym more) (in_append_right (frame_roots c.frames) later r.0 r.2)))
      (in_append_cases (call_addresses call) (flat_map call_addresses calls) a (subst (λ (ns : List ℕ). In ns a) (flat_map-cons call_addresses call calls) k))

  thread_name : (t : Thread) (s : source.Thread) (a : ℕ) → HasRootsOf space t s → ThreadIsStacked t → In (thread_addresses t) a → IsNameAmong (thread_roots s) a
  thread_name t s a h stacked k =
      let below = flat_map call_addresses t.callers.items in
      ⊎_elim
      (λ (l : In below a).
      let each = all_reversed (λ (call : Activation). AreStacked call.locals) t.callers.items (each_stacked t.callers.items stacked.0) in
      let r = callers_name (reverse t.callers.items) s.callers a h.callers each (to_reversed call_addresses t.callers.items a l) in
      (r.0, r.1, caller_root s r.0 r.2))
      (λ (l : In (own_addresses t) a). ⊎_elim
      (λ (g : In (given_addresses t) a). let r = address_name (given_addresses t) (given_roots s) a h.arguments g in (r.0, r.1, given_root s r.0 r.2))
      (λ (m : In (references_in (slots_of t.call) ++ option_to_list t.pending) a). ⊎_elim
      (λ (f : In (references_in (slots_of t.call)) a). let r = call_name t.call s.frames a h.frames stacked.1 f in (r.0, r.1, frame_root s r.0 r.2))
      (λ (q : In (option_to_list t.pending) a). let r = reference_name t.pending s.pending a h.pending q in (r.0, r.1, pending_root s r.0 r.2))
      (in_append_cases (references_in (slots_of t.call)) (option_to_list t.pending) a m))
      (in_append_cases (given_addresses t) (references_in (slots_of t.call) ++ option_to_list t.pending) a l))
      (in_append_cases below (own_addresses t) a k)

  threads_name : (ts : List Thread) (ss : List source.Thread) (a : ℕ) → AllZip (HasRootsOf space) ts ss → ThreadsAreStacked ts → In (flat_map thread_addresses ts) a → IsNameAmong (flat_map thread_roots ss) a
  threads_name [] ss a h stacked k = absurd (false≢true k)
  threads_name (t ∷ ts) [] a h stacked k = absurd h
  threads_name (t ∷ ts) (s ∷ ss) a h stacked k =
      ⊎_elim
      (λ (l : In (thread_addresses t) a). let r = thread_name t s a h.0 (stacked 0 t refl) l in (r.0, r.1, in_append_left (thread_roots s) (flat_map thread_roots ss) r.0 r.2))
      (λ (l : In (flat_map thread_addresses ts) a). let r = threads_name ts ss a h.1 (λ i u e. stacked (suc i) u e) l in (r.0, r.1, in_append_right (thread_roots s) (flat_map thread_roots ss) r.0 r.2))
      (in_append_cases (thread_addresses t) (flat_map thread_addresses ts) a k)

  -- each gathered address has the name of a root of the source
  pub gathered_roots : (store : Store) (count : ℕ) (ts : List Thread) (ss : List source.Thread) (globals : List ℕ) (owned : List source.Monitor) (a : ℕ)
      → IsTable space store.loaded.items count → SlotsAgree space store.globals globals → AllZip (HasRootsOf space) ts ss → MonitorsAgree store.monitors owned → AreThere space store.monitors → ThreadsAreStacked ts
      → In (gathered store ts) a → IsNameAmong (names_gathered (length store.loaded.items) globals ss owned) a
  gathered_roots store count ts ss globals owned a table agree roots monitors there stacked k =
      let items = store.loaded.items in
      let front = from_one (length items) in
      let threads = flat_map thread_roots ss in
      let last = monitor_names owned in
      let names = threads ++ last in
      let refs = references_in store.globals in
      let places = flat_map thread_addresses ts ++ monitor_addresses store.monitors in
      ⊎_elim
      (λ (l : In items a).
      let at = item_name items a l in
      let less : at.0 < length items = at.1 in
      (at.0 + 1, table.named at.0 a at.2, in_append_left front (globals ++ names) (at.0 + 1) (contains_in front (at.0 + 1) (from_one-contains (length items) (at.0 + 1) (omega arith) (omega (arith, less))))))
      (λ (l : In (refs ++ places) a). ⊎_elim
      (λ (g : In refs a). let r = as_often agree.names globals a agree.same (address_name refs agree.names a agree.agree g) in (r.0, r.1, in_append_right front (globals ++ names) r.0 (in_append_left globals names r.0 r.2)))
      (λ (q : In places a). ⊎_elim
      (λ (t : In (flat_map thread_addresses ts) a). let r = threads_name ts ss a roots stacked t in (r.0, r.1, in_append_right front (globals ++ names) r.0 (in_append_right globals names r.0 (in_append_left threads last r.0 r.2))))
      (λ (m : In (monitor_addresses store.monitors) a). let r = monitors_name space store.monitors owned a monitors there m in (r.0, r.1, in_append_right front (globals ++ names) r.0 (in_append_right globals names r.0 (in_append_right threads last r.0 r.2))))
      (in_append_cases (flat_map thread_addresses ts) (monitor_addresses store.monitors) a q))
      (in_append_cases refs places a l))
      (in_append_cases items (refs ++ places) a k)
