-- What is put back once the kept blocks were moved together.
use Rattle.std.proofs.Common.{◌≡◌, ℕ, ◌≤◌, true, List, length, Option, Some, None, map, refl, sym, ap, ◌∙◌, subst}
use Rattle.std.specs.Option.{option_flatten, option_map}
use Rattle.std.proofs.lemmas.List.{length-map}
use Rattle.base.proofs.Lists.{Contains-from_get}
use Rattle.heap.specs.Heap.{Space, IsAddress, bare, name_at}
use Rattle.heap.specs.Marks.{Marks, is_kept}
use Rattle.compact.specs.Reach as compact
use Rattle.compact.specs.Same.{IsSameWeakly, MovesBy}
use Rattle.compact.specs.Slices as slices
use Rattle.compact.proofs.Going.{addresses_of, closed_of}
use Rattle.semantics.specs.declared.object_id.ObjectId.{ObjectId}
use Rattle.tables.specs.Keys.{value_at}
use Rattle.tables.specs.Weaks.{weak_places}
use Rattle.machine_threads.specs.declared.thread.Thread.{Thread}
use Rattle.machine_scenes.specs.declared.store.Store.{Store}
use Rattle.machine_scenes.specs.Statics.{StaticReference}
use Rattle.machine_collections.specs.Clearing.{AreCleared, AreNamed, ArePut, ListsCleared, ListsNames, cleared_names, holds_cleared}
use Rattle.machine_collections.specs.Moving.{AreMoved, AreMovedTogether, AreReferred}
use Rattle.machine_collections.specs.Roots.{ThreadsAreStacked, root_places}
use Rattle.machine_collections.specs.Slices.{AreSliced, AreSlicedBy}
use Rattle.machine_collections.proofs.ListedNames.{lists_cleared}
use Rattle.machine_collections.proofs.PutWeaks.{follow_by_keys, place_of}

-- each weak reference has the address of a block
pub weak_there : (space : Space) (weaks : List (Option (Option ℕ))) → compact.AreAddresses space (weak_places weaks) → (key a : ℕ) → value_at weaks key ≡ Some (Some a) → IsAddress space a
weak_there space weaks h key a at = h a (Contains-from_get (weak_places weaks) key (Some a) (place_of weaks key (Some a) at))

module _ (Kept : ℕ → Type 0) (store : Store) (threads : List Thread) (heap : Space) (places weak : List (Option ℕ)) (left : IsSameWeakly Kept store.heap heap (root_places store threads) places (weak_places store.weaks) weak) where
  -- once the roots and the weak references are put back all was moved together
  pub moved_together : (after : Store) (later : List Thread) → AreMoved left.same.to (record store { heap = heap }) threads after later → ArePut store.weaks weak after.weaks → ThreadsAreStacked threads → AreMovedTogether Kept store threads after later
  moved_together after later back laid stacked = record {
    to = left.same.to;
    blocks = subst (λ (t : Space). MovesBy Kept left.same.to store.heap t) (sym back.moved.heap) left.same.blocks;
    moved = record { heap = refl; loaded = back.moved.loaded; births = back.moved.births; statics = back.moved.statics; globals = back.moved.globals; elements = back.moved.elements; views = back.moved.views; monitors = back.moved.monitors };
    weaks = follow_by_keys Kept left.same.to store.weaks weak after.weaks left.follow laid;
    follow = back.follow;
    stacked = stacked;
  }

-- and what was listed is what was cleared
pub cleared_told : (space : Space) (before now : List (Option (Option ℕ))) (statics : List StaticReference) (objects : List (Option ObjectId)) (names : List ℕ) → compact.AreAddresses space (weak_places before) → AreNamed space before statics objects
    → ListsCleared objects now statics names → AreCleared space statics before now names
cleared_told space before now statics objects names there named listed =
    lists_cleared space before now statics names (weak_there space before there) (subst (λ (l : List (Option ℕ)). ListsNames (cleared_names l (map (holds_cleared now) statics)) names) named listed)

-- what was cleared doesn't hang on marks
pub cleared_of : (s t : Space) (statics : List StaticReference) (before now : List (Option (Option ℕ))) (names : List ℕ) → bare s ≡ bare t → AreCleared s statics before now names → AreCleared t statics before now names
cleared_of s t statics before now names e h = record {
  rising = h.rising;
  sound = λ n k. let w = h.sound n k in
      record { slot = w.slot; key = w.key; address = w.address; of_static = w.of_static; held = w.held; named = subst (λ (x : Space). name_at x w.address ≡ Some n) e w.named; gone = w.gone };
  complete = λ n w. h.complete n
      (record { slot = w.slot; key = w.key; address = w.address; of_static = w.of_static; held = w.held; named = subst (λ (x : Space). name_at x w.address ≡ Some n) (sym e) w.named; gone = w.gone });
}

-- nor does what is referred to
pub referred_of : (store : Store) (threads : List Thread) (heap : Space) → bare store.heap ≡ bare heap → AreReferred store threads → AreReferred (record store { heap = heap }) threads
referred_of store threads heap e h = record {
  closed = closed_of store.heap heap e h.closed;
  roots = λ stacked. addresses_of store.heap heap (root_places store threads) e (h.roots stacked);
  weaks = addresses_of store.heap heap (weak_places store.weaks) e h.weaks;
}

-- ---- a slice

pub no_marks : (o : Option Marks) → option_map (λ (m : Marks). m.marked) o ≡ None → o ≡ None
no_marks None e = refl
no_marks (Some m) e = absurd (cc)

pub some_marks : (o : Option Marks) (n : ℕ) → option_map (λ (m : Marks). m.marked) o ≡ Some n → (m : Marks) × (o ≡ Some m)
some_marks None n e = absurd (cc)
some_marks (Some m) n e = (m, refl)

module _ (s : Space) (store : Store) (threads : List Thread) (heap : Space) (places weak : List (Option ℕ)) where
  -- what the collector left, of the roots and the weak references that were listed
  pub left_of_listed : (listed held : List (Option ℕ)) → listed ≡ root_places store threads → held ≡ weak_places store.weaks → slices.IsSliced s heap listed places held weak → slices.IsSliced s heap (root_places store threads) places (weak_places store.weaks) weak
  left_of_listed listed held e f h =
      subst (λ (l : List (Option ℕ)). slices.IsSliced s heap l places (weak_places store.weaks) weak) e (subst (λ (l : List (Option ℕ)). slices.IsSliced s heap listed places l weak) f h)

  -- where no marking is under way then, the slice ended it
  pub ended_of : heap.marking ≡ None → slices.IsSliced s heap (root_places store threads) places (weak_places store.weaks) weak → slices.HasEnded s heap (root_places store threads) places (weak_places store.weaks) weak
  ended_of none h = subst (λ (o : Option Marks). slices.IsSlicedBy o s heap (root_places store threads) places (weak_places store.weaks) weak) none h

  -- and all is put back
  pub sliced_whole : heap.marking ≡ None → (e : slices.HasEnded s heap (root_places store threads) places (weak_places store.weaks) weak) → (after : Store) (later : List Thread) → AreMoved e.same.same.to (record store { heap = heap }) threads after later
      → ArePut store.weaks weak after.weaks → ThreadsAreStacked threads → AreSliced (record store { heap = s }) threads after later
  sliced_whole none e after later back laid stacked =
      let base : Store = record store { heap = s } in
      let same : after.heap ≡ heap = back.moved.heap in
      subst (λ (o : Option Marks). AreSlicedBy o base threads after later) (sym (ap (λ (t : Space). t.marking) same ∙ none)) (record {
        kept = e.kept;
        whole = e.whole;
        keeps = e.keeps;
        moved = moved_together (λ a. is_kept e.kept a ≡ true) base threads heap places weak e.same after later back laid stacked;
        many = subst (λ (t : Space). slices.count_of s.marking ≤ length t.blocks) (sym same) e.many;
      })

  -- where one is, nothing has moved
  pub sliced_along : (m : Marks) → heap.marking ≡ Some m → slices.IsSliced s heap (root_places store threads) places (weak_places store.weaks) weak → AreSliced (record store { heap = s }) threads (record store { heap = heap }) threads
  sliced_along m some h =
      let base : Store = record store { heap = s } in
      let on : Store = record store { heap = heap } in
      let g : slices.GoesOn s heap (root_places store threads) places (weak_places store.weaks) weak m = subst (λ (o : Option Marks). slices.IsSlicedBy o s heap (root_places store threads) places (weak_places store.weaks) weak) some h in
      subst (λ (o : Option Marks). AreSlicedBy o base threads on threads) (sym some) (record {
        same = ap (λ (t : Space). let x : Store = record store { heap = t } in x) g.heap;
        stay = refl;
        marked = g.marked;
        keeps = g.keeps;
        begun = g.begun;
      })

  -- as many weak references are left
  pub as_many_weak : slices.HasEnded s heap (root_places store threads) places (weak_places store.weaks) weak → length weak ≡ length store.weaks
  as_many_weak e = e.same.follow.count ∙ length-map store.weaks (λ (o : Option (Option ℕ)). option_flatten o)
