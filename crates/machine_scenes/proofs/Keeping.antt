-- What a step leaves as it was, and what agrees with it still.
use Rattle.std.proofs.Common.{◌≡◌, ◌≤◌, ℕ, List, [], ◌∷◌, ◌++◌, length, drop, inl, Option, Some, None, refl, ap, arith, ◌+◌}
use Rattle.std.specs.List.{AllZip}
use Rattle.std.proofs.Math.ListN.{drop_of_length-le}
use Rattle.std.proofs.Math.Seq.{drop-append_seam}
use Rattle.heap.specs.declared.value.Value.{Value}
use Rattle.heap.specs.declared.value.Value.TheVariants.{Number as Word, Null, Block as Address}
use Rattle.heap.specs.Heap.{Space, left_of, name_at}
use Rattle.heap.specs.Layout.{layout_of}
use Rattle.heap.proofs.Staying.{stays_same}
use Rattle.semantics.specs.Heap.{Heap}
use Rattle.semantics.specs.Object.{ObjectValue, Number, Refers, Reference, sizes}
use Rattle.semantics.specs.Thread as source
use Rattle.semantics.specs.Thread.{Shared}
use Rattle.semantics.specs.Variable.{StaticReference, Empty, Live, Weakly, Cleared, Deleted, Statics}
use Rattle.tables.specs.References.{references_in}
use Rattle.machine_scenes.specs.declared.references.Held.{Held}
use Rattle.machine_scenes.specs.declared.references.Held.TheVariants as held
use Rattle.machine_scenes.specs.Locals.{FrameAgrees, FramesAgree, IsKeyOf, KeysAgree}
use Rattle.tables.specs.Locals.{LocalTable, FrameSlots, by_frame}
use Rattle.machine_scenes.specs.HeapAgrees.{ReferenceAgrees, ValueAgrees, ValuesAgree, NamesAgree, SlotsAgree}
use Rattle.machine_scenes.specs.StoreAgrees.{AreWeaklyThere, HeldAgrees, Keeps, StaticsAgree}
use Rattle.machine_scenes.proofs.ObjectExtents.{none_laid}

-- ---- what keeps all

-- what makes nothing has room
pub none_made : (space : Space) (before after : Heap) → length after ≤ length before → sizes (drop (length before) after) ≤ left_of space
none_made space before after short = let none : sizes (drop (length before) after) ≡ 0 = ap sizes (drop_of_length-le after short) in omega (arith, none)

-- what was made, where there are objects more
pub more_made : (space : Space) (heap more : Heap) → sizes more ≤ left_of space → sizes (drop (length heap) (heap ++ more)) ≤ left_of space
more_made space heap more room = let made : sizes (drop (length heap) (heap ++ more)) ≡ sizes more = ap sizes (drop-append_seam heap more) in omega (arith, made, room)

-- nothing changes
pub keeps_same : (space : Space) (shared : Shared) → Keeps space shared space shared
keeps_same space shared = record {
  names = λ a n h. h;
  statics = inl refl;
  shapes = λ n o at. (o, at, refl, refl);
  room = none_made space shared.heap shared.heap (omega arith);
  laid = none_laid (layout_of space) (layout_of space) (length shared.heap + 1) shared.heap shared.heap (omega arith) refl;
  marking = stays_same space.marking;
  few = omega arith;
}

-- ---- what agrees still

module _ (space space' : Space) (names : (a n : ℕ) → name_at space a ≡ Some n → name_at space' a ≡ Some n) where
  pub reference_stays : (a : Option ℕ) (r : Reference) → ReferenceAgrees space a r → ReferenceAgrees space' a r
  reference_stays None None h = h
  reference_stays None (Some n) h = h
  reference_stays (Some a) None h = h
  reference_stays (Some a) (Some n) h = names a n h

  pub value_stays : (w : Value) (v : ObjectValue) → ValueAgrees space w v → ValueAgrees space' w v
  value_stays (Word n) (Number z) h = h
  value_stays (Word n) (Refers r) h = h
  value_stays Null (Number z) h = h
  value_stays Null (Refers r) h = reference_stays None r h
  value_stays (Address a) (Number z) h = h
  value_stays (Address a) (Refers r) h = reference_stays (Some a) r h

  pub values_stay : (ws : List Value) (vs : List ObjectValue) → ValuesAgree space ws vs → ValuesAgree space' ws vs
  values_stay [] [] h = h
  values_stay [] (v ∷ vs) h = h
  values_stay (w ∷ ws) [] h = h
  values_stay (w ∷ ws) (v ∷ vs) h = (value_stays w v h.0, values_stay ws vs h.1)

  pub names_stay : (xs ns : List ℕ) → NamesAgree space xs ns → NamesAgree space' xs ns
  names_stay [] [] h = h
  names_stay [] (n ∷ ns) h = h
  names_stay (a ∷ xs) [] h = h
  names_stay (a ∷ xs) (n ∷ ns) h = (names a n h.0, names_stay xs ns h.1)

  pub held_stays : (h : Held) (r : StaticReference) → HeldAgrees space h r → HeldAgrees space' h r
  held_stays held.Empty Empty e = e
  held_stays held.Empty (Live n) e = e
  held_stays held.Empty (Weakly n) e = e
  held_stays held.Empty Cleared e = e
  held_stays held.Empty Deleted e = e
  held_stays (held.At a) Empty e = e
  held_stays (held.At a) (Live n) e = names a n e
  held_stays (held.At a) (Weakly n) e = e
  held_stays (held.At a) Cleared e = e
  held_stays (held.At a) Deleted e = e
  held_stays (held.Weakly a) Empty e = e
  held_stays (held.Weakly a) (Live n) e = e
  held_stays (held.Weakly a) (Weakly n) e = names a n e
  held_stays (held.Weakly a) Cleared e = e
  held_stays (held.Weakly a) Deleted e = e
  held_stays held.Cleared Empty e = e
  held_stays held.Cleared (Live n) e = e
  held_stays held.Cleared (Weakly n) e = e
  held_stays held.Cleared Cleared e = e
  held_stays held.Cleared Deleted e = e
  held_stays held.Deleted Empty e = e
  held_stays held.Deleted (Live n) e = e
  held_stays held.Deleted (Weakly n) e = e
  held_stays held.Deleted Cleared e = e
  held_stays held.Deleted Deleted e = e

  pub statics_stay : (helds : List Held) (statics : Statics) → StaticsAgree space helds statics → StaticsAgree space' helds statics
  statics_stay [] [] h = h
  statics_stay [] (s ∷ statics) h = h
  statics_stay (x ∷ helds) [] h = h
  statics_stay (x ∷ helds) (s ∷ statics) h = (held_stays x s.1 h.0, statics_stay helds statics h.1)

  pub weaks_stay : (weaks : List (Option (Option ℕ))) → AreWeaklyThere space weaks → AreWeaklyThere space' weaks
  weaks_stay weaks h = λ key a at. let r = h key a at in (r.0, names a r.0 r.1)

  pub slots_stay : (slots : List (Option ℕ)) (source_names : List ℕ) → SlotsAgree space slots source_names → SlotsAgree space' slots source_names
  slots_stay slots source_names h = record { names = h.names; agree = names_stay (references_in slots) h.names h.agree; same = h.same }

  frame_stays : (f : FrameSlots) (g : source.Frame) → FrameAgrees space f g → FrameAgrees space' f g
  frame_stays f g h = record { capacity = h.capacity; references = slots_stay f.slots g.references h.references }

  frames_zip : (fs : List FrameSlots) (gs : List source.Frame) → AllZip (FrameAgrees space) fs gs → AllZip (FrameAgrees space') fs gs
  frames_zip [] [] h = h
  frames_zip [] (g ∷ gs) h = h
  frames_zip (f ∷ fs) [] h = h
  frames_zip (f ∷ fs) (g ∷ gs) h = (frame_stays f g h.0, frames_zip fs gs h.1)

  pub frames_stay : (locals : LocalTable) (gs : List source.Frame) → FramesAgree space locals gs → FramesAgree space' locals gs
  frames_stay locals gs h = frames_zip (by_frame locals) gs h

  pub key_stays : (locals : LocalTable) (key n level : ℕ) → IsKeyOf space locals key n level → IsKeyOf space' locals key n level
  key_stays locals key n level h = record { address = h.address; there = h.there; name = names h.address n h.name; of_level = h.of_level }

  pub keys_stay : (locals : LocalTable) (keys : List (Option ℕ)) (references : List Reference) (owners : List (Option ℕ)) → KeysAgree space locals keys references owners → KeysAgree space' locals keys references owners
  keys_stay locals keys references owners h = record { nulls = h.nulls; own = λ i key n level at_key at_name at_level. key_stays locals key n level (h.own i key n level at_key at_name at_level); apart = h.apart }
