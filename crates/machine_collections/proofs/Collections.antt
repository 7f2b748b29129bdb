-- A collection leaves what agreed with the source agreeing, along its map of addresses.
use Rattle.std.proofs.Common.{◌≡◌, ℕ, zero, suc, ◌+◌, ◌<◌, ◌≤◌, Bool, true, false, cond, eqb, List, [], ◌∷◌, ◌++◌, length, map, take, drop, get_or, Option, Some, None, refl, sym, ap, ◌∙◌, subst, arith, IsSome, ⊎_elim}
use Rattle.std.specs.Prelude.{find, slice_get, reverse}
use Rattle.std.specs.Option.{option_map, option_map_or}
use Rattle.std.specs.List.{AllZip}
use Rattle.heap.specs.declared.value.Value.{Value}
use Rattle.heap.specs.declared.value.Value.TheVariants.{Number as Word, Null, Block as Address}
use Rattle.heap.specs.Heap.{Block, Space, IsAddress, LieFrom, block_at, block_end, name_at, pins_at}
use Rattle.heap.proofs.Names.{one_address}
use Rattle.std.proofs.lemmas.Bool.Decides.{eqb_tells}
use Rattle.semantics.specs.Heap.{Heap}
use Rattle.semantics.specs.Object.{ObjectValue, Number, Refers, Reference}
use Rattle.semantics.specs.Thread as source
use Rattle.semantics.specs.Variable as variable
use Rattle.tables.specs.Locals.{Frame, FrameSlots, LocalTable, by_frame, slots_by_frame}
use Rattle.tables.specs.References.{address_at, references_in}
use Rattle.tables.specs.Elements.{OwnedNumbers}
use Rattle.machine_scenes.specs.declared.buffer.Buffer.{Buffer}
use Rattle.machine_scenes.specs.declared.buffer.Buffer.TheVariants as buffer
use Rattle.machine_scenes.specs.Buffers as in_slot
use Rattle.machine_scenes.specs.Buffers.{BufferAgrees, IsTaken, Acquired}
use Rattle.machine_scenes.specs.HeapAgrees.{BlockAgrees, BlocksAgree, HeapAgrees, IsTable, NamesAgree, ReferenceAgrees, SlotsAgree, ValueAgrees, ValuesAgree}
use Rattle.machine_scenes.specs.Locals.{FrameAgrees, FramesAgree, IsKeyOf, KeysAgree}
use Rattle.compact.specs.Same.{MovesBy, moved, moved_value}
use Rattle.machine_collections.specs.Moving.{moved_locals, moved_slots}
use Rattle.machine_scenes.proofs.BlocksOfNames.{is_address}
use Rattle.machine_collections.proofs.KeptReferences.{AreKept, IsClosedUnder, ValueIsKept, ValuesAreKept}

-- ---- lists

references_moved : (f : ℕ → ℕ) (slots : List (Option ℕ)) → references_in (moved_slots f slots) ≡ map f (references_in slots)
references_moved f [] = refl
references_moved f (None ∷ slots) = references_moved f slots
references_moved f (Some a ∷ slots) = ap (λ (l : List ℕ). f a ∷ l) (references_moved f slots)

drop_moved : (f : ℕ → ℕ) (n : ℕ) (slots : List (Option ℕ)) → drop n (moved_slots f slots) ≡ moved_slots f (drop n slots)
drop_moved f zero slots = refl
drop_moved f (suc n) [] = refl
drop_moved f (suc n) (s ∷ slots) = drop_moved f n slots

take_moved : (f : ℕ → ℕ) (n : ℕ) (slots : List (Option ℕ)) → take n (moved_slots f slots) ≡ moved_slots f (take n slots)
take_moved f zero slots = refl
take_moved f (suc n) [] = refl
take_moved f (suc n) (s ∷ slots) = ap (λ (l : List (Option ℕ)). option_map f s ∷ l) (take_moved f n slots)

pub address_moved : (f : ℕ → ℕ) (slots : List (Option ℕ)) (place : ℕ) → address_at (moved_slots f slots) place ≡ option_map f (address_at slots place)
address_moved f [] place = refl
address_moved f (s ∷ slots) zero = refl
address_moved f (s ∷ slots) (suc place) = address_moved f slots place

abbrev moved_frame : (ℕ → ℕ) → FrameSlots → FrameSlots
moved_frame f frame = record { capacity = frame.capacity; slots = moved_slots f frame.slots }

frames_moved : (f : ℕ → ℕ) (fs : List Frame) (slots : List (Option ℕ)) → slots_by_frame fs (moved_slots f slots) ≡ map (moved_frame f) (slots_by_frame fs slots)
frames_moved f [] slots = refl
frames_moved f (g ∷ below) slots =
    ap (λ (l : List (Option ℕ)). let x : FrameSlots = record { capacity = g.capacity; slots = l } in x ∷ slots_by_frame below (take g.first (moved_slots f slots))) (drop_moved f g.first slots)
    ∙ ap (λ (l : List FrameSlots). moved_frame f (record { capacity = g.capacity; slots = drop g.first slots }) ∷ l) (ap (slots_by_frame below) (take_moved f g.first slots) ∙ frames_moved f below (take g.first slots))

pub kept_at : (Kept : ℕ → Type 0) (slots : List (Option ℕ)) (place a : ℕ) → AreKept Kept (references_in slots) → address_at slots place ≡ Some a → Kept a
kept_at Kept [] place a h at = absurd (cc)
kept_at Kept (None ∷ slots) zero a h at = absurd (cc)
kept_at Kept (Some b ∷ slots) zero a h at = let same : b ≡ a = cc in subst Kept same h.0
kept_at Kept (None ∷ slots) (suc place) a h at = kept_at Kept slots place a h at
kept_at Kept (Some b ∷ slots) (suc place) a h at = kept_at Kept slots place a h.1 at

pub kept_in : (Kept : ℕ → Type 0) (xs : List ℕ) (i a : ℕ) → AreKept Kept xs → slice_get xs i ≡ Some a → Kept a
kept_in Kept [] i a h at = absurd (cc)
kept_in Kept (x ∷ xs) zero a h at = let same : x ≡ a = cc in subst Kept same h.0
kept_in Kept (x ∷ xs) (suc i) a h at = kept_in Kept xs i a h.1 at

kept_append : (Kept : ℕ → Type 0) (xs ys : List ℕ) → AreKept Kept (xs ++ ys) → AreKept Kept xs × AreKept Kept ys
kept_append Kept [] ys h = (tt, h)
kept_append Kept (x ∷ xs) ys h = let r = kept_append Kept xs ys h.1 in ((h.0, r.0), r.1)

map_back : (f : ℕ → ℕ) (xs : List ℕ) (i b : ℕ) → slice_get (map f xs) i ≡ Some b → (a : ℕ) × (slice_get xs i ≡ Some a) × (f a ≡ b)
map_back f [] i b at = absurd (cc)
map_back f (x ∷ xs) zero b at = (x, refl, cc)
map_back f (x ∷ xs) (suc i) b at = map_back f xs i b at

map_long : (f : ℕ → ℕ) (xs : List ℕ) → length (map f xs) ≡ length xs
map_long f [] = refl
map_long f (x ∷ xs) = ap suc (map_long f xs)

-- ---- what agrees, along the map

module _ (Kept : ℕ → Type 0) (to : ℕ → ℕ) (s t : Space) (m : MovesBy Kept to s t) where
  -- a block keeps its name
  pub name_moved : (a n : ℕ) → Kept a → name_at s a ≡ Some n → name_at t (to a) ≡ Some n
  name_moved a n kept h = by_block (block_at s a) refl h
    where
      by_block : (o : Option Block) → block_at s a ≡ o → option_map (λ (b : Block). b.birth) o ≡ Some n → name_at t (to a) ≡ Some n
      by_block None at e = absurd (cc)
      by_block (Some b) at e = ap (option_map (λ (c : Block). c.birth)) (m.kept a b kept at) ∙ e

  -- what is pinned stays where it is
  view_moved : (a n : ℕ) → Kept a → 0 < pins_at s a → name_at s a ≡ Some n → name_at t a ≡ Some n
  view_moved a n kept pinned h = subst (λ (x : ℕ). name_at t x ≡ Some n) (m.pinned a pinned) (name_moved a n kept h)

  buffer_moved : {copies : List (Option OwnedNumbers)} {k : ℕ} {h : Buffer} {b : variable.Buffer} → ((a : ℕ) → h ≡ buffer.View a → Kept a × (0 < pins_at s a)) → BufferAgrees s copies k h b → BufferAgrees t copies k h b
  buffer_moved pinned in_slot.null = in_slot.null
  buffer_moved pinned (in_slot.copy found) = in_slot.copy found
  buffer_moved pinned (in_slot.view {a = a} {n = n} named) = let p = pinned a refl in in_slot.view (view_moved a n p.0 p.1 named)

  -- so a view in a slot shows the object that it did
  pub buffers_moved : (copies : List (Option OwnedNumbers)) (k : ℕ) (slots : List Buffer) (buffers : List variable.Buffer) → ((i a : ℕ) → slice_get slots i ≡ Some (buffer.View a) → Kept a × (0 < pins_at s a))
      → AllZip (BufferAgrees s copies k) slots buffers → AllZip (BufferAgrees t copies k) slots buffers
  buffers_moved copies k [] [] pinned e = e
  buffers_moved copies k [] (b ∷ buffers) pinned e = absurd e
  buffers_moved copies k (h ∷ slots) [] pinned e = absurd e
  buffers_moved copies k (h ∷ slots) (b ∷ buffers) pinned e = (buffer_moved (λ a is. pinned 0 a (ap (λ (x : Buffer). Some x) is)) e.0, buffers_moved copies k slots buffers (λ i a at. pinned (suc i) a at) e.1)

  pub reference_moved : (o : Option ℕ) (r : Reference) → ((a : ℕ) → o ≡ Some a → Kept a) → ReferenceAgrees s o r → ReferenceAgrees t (option_map to o) r
  reference_moved None None kept h = h
  reference_moved None (Some n) kept h = h
  reference_moved (Some a) None kept h = h
  reference_moved (Some a) (Some n) kept h = name_moved a n (kept a refl) h

  value_moved : (w : Value) (v : ObjectValue) → ValueIsKept Kept w → ValueAgrees s w v → ValueAgrees t (moved_value to w) v
  value_moved (Word x) (Number z) kept h = h
  value_moved (Word x) (Refers r) kept h = h
  value_moved Null (Number z) kept h = h
  value_moved Null (Refers None) kept h = h
  value_moved Null (Refers (Some n)) kept h = h
  value_moved (Address a) (Number z) kept h = h
  value_moved (Address a) (Refers None) kept h = h
  value_moved (Address a) (Refers (Some n)) kept h = name_moved a n kept h

  pub values_moved : (ws : List Value) (vs : List ObjectValue) → ValuesAreKept Kept ws → ValuesAgree s ws vs → ValuesAgree t (map (moved_value to) ws) vs
  values_moved [] [] kept h = h
  values_moved [] (v ∷ vs) kept h = h
  values_moved (w ∷ ws) [] kept h = h
  values_moved (w ∷ ws) (v ∷ vs) kept h = (value_moved w v kept.0 h.0, values_moved ws vs kept.1 h.1)

  pub names_moved : (places ns : List ℕ) → AreKept Kept places → NamesAgree s places ns → NamesAgree t (map to places) ns
  names_moved [] [] kept h = h
  names_moved [] (n ∷ ns) kept h = h
  names_moved (a ∷ places) [] kept h = h
  names_moved (a ∷ places) (n ∷ ns) kept h = (name_moved a n kept.0 h.0, names_moved places ns kept.1 h.1)

  pub slots_moved : (slots : List (Option ℕ)) (names : List ℕ) → AreKept Kept (references_in slots) → SlotsAgree s slots names → SlotsAgree t (moved_slots to slots) names
  slots_moved slots names kept h = record {
    names = h.names;
    agree = subst (λ (l : List ℕ). NamesAgree t l h.names) (sym (references_moved to slots)) (names_moved (references_in slots) h.names kept h.agree);
    same = h.same;
  }

  -- frame by frame, where the references of each are kept
  abbrev pub FramesKept : List FrameSlots → Type 0
  FramesKept [] = Unit {0}
  FramesKept (f ∷ fs) = AreKept Kept (references_in f.slots) × FramesKept fs

  zip_moved : (fs : List FrameSlots) (gs : List source.Frame) → FramesKept fs → AllZip (FrameAgrees s) fs gs → AllZip (FrameAgrees t) (map (moved_frame to) fs) gs
  zip_moved [] [] kept h = h
  zip_moved [] (g ∷ gs) kept h = h
  zip_moved (f ∷ fs) [] kept h = h
  zip_moved (f ∷ fs) (g ∷ gs) kept h = (record { capacity = (h.0).capacity; references = slots_moved f.slots g.references kept.0 (h.0).references }, zip_moved fs gs kept.1 h.1)

  pub locals_moved : (locals : LocalTable) (gs : List source.Frame) → FramesKept (by_frame locals) → FramesAgree s locals gs → FramesAgree t (moved_locals to locals) gs
  locals_moved locals gs kept h = subst (λ (fs : List FrameSlots). AllZip (FrameAgrees t) fs gs) (sym (frames_moved to (reverse locals.frames) locals.slots)) (zip_moved (by_frame locals) gs kept h)

  -- a live key stays live, to the object's new place
  pub key_moved : (locals : LocalTable) (key n level : ℕ) → AreKept Kept (references_in locals.slots) → IsKeyOf s locals key n level → IsKeyOf t (moved_locals to locals) key n level
  key_moved locals key n level kept h = record {
    address = to h.address;
    there = address_moved to locals.slots key ∙ ap (option_map to) h.there;
    name = name_moved h.address n (kept_at Kept locals.slots key h.address kept h.there) h.name;
    of_level = h.of_level;
  }

  pub keys_moved : (locals : LocalTable) (keys : List (Option ℕ)) (references : List Reference) (owners : List (Option ℕ)) → AreKept Kept (references_in locals.slots) → KeysAgree s locals keys references owners → KeysAgree t (moved_locals to locals) keys references owners
  keys_moved locals keys references owners kept h = record {
    nulls = h.nulls;
    own = λ i key n level at_key at_name at_level. key_moved locals key n level kept (h.own i key n level at_key at_name at_level);
    apart = h.apart;
  }

  pub table_moved : (addresses : List ℕ) (count : ℕ) → AreKept Kept addresses → IsTable s addresses count → IsTable t (map to addresses) count
  table_moved addresses count kept h = record {
    counted = map_long to addresses ∙ h.counted;
    named = λ i b at.
        let old = map_back to addresses i b at in
        subst (λ (x : ℕ). name_at t x ≡ Some (i + 1)) old.2 (name_moved old.0 (i + 1) (kept_in Kept addresses i old.0 kept old.1) (h.named i old.0 old.1));
  }

  -- ---- the blocks

  module _ (closed : IsClosedUnder Kept s) where
    some_there : (o : Option Block) → IsSome o → (b : Block) × (o ≡ Some b)
    some_there None h = absurd (cc)
    some_there (Some b) h = (b, refl)

    -- a block has the pins that it had
    pins_moved : (a n : ℕ) → name_at t a ≡ Some n → (old : ℕ) × (name_at s old ≡ Some n) × (pins_at t a ≡ pins_at s old)
    pins_moved a n h =
        let old = m.only a (is_address t a n h) in
        let found = some_there (block_at s old.0) (closed.there old.0 old.1) in
        let now : block_at t a ≡ Some (moved to found.0) = ap (block_at t) (sym old.2) ∙ m.kept old.0 found.0 old.1 found.1 in (
          old.0,
          ap (option_map (λ (b : Block). b.birth)) found.1 ∙ sym (ap (option_map (λ (b : Block). b.birth)) now) ∙ h,
          ap (λ (o : Option Block). option_map_or (λ (b : Block). b.pins) o 0) now ∙ sym (ap (λ (o : Option Block). option_map_or (λ (b : Block). b.pins) o 0) found.1),
        )

    -- buffers take what they did
    pub taken_moved : (copies : List (Option OwnedNumbers)) (views objects : ℕ) (all : Acquired) → ((a : ℕ) → 0 < pins_at s a → Kept a) → IsTaken s copies views objects all → IsTaken t copies views objects all
    taken_moved copies views objects all pinned h = record {
      copied = h.copied;
      many = h.many;
      pins = λ a n named. let r = pins_moved a n named in r.2 ∙ h.pins r.0 n r.1;
      made = h.made;
      there = λ n some.
          let r = h.there n some in
          let many : 0 < pins_at s r.0 = omega (arith, some, h.pins r.0 n r.1) in
          (r.0, view_moved r.0 n (pinned r.0 many) many r.1);
    }

  module _ (heap : Heap) (agrees : HeapAgrees s heap) (closed : IsClosedUnder Kept s) where
    found_agrees : (bs : List Block) (a : ℕ) (b : Block) → BlocksAgree s heap bs → find (λ (c : Block). eqb c.address a) bs ≡ Some b → BlockAgrees s heap b
    found_agrees [] a b h e = absurd (cc)
    found_agrees (c ∷ bs) a b h e = by_test (eqb c.address a) h.0 (found_agrees bs a b h.1) e
      where
        by_test : (u : Bool) → BlockAgrees s heap c → (find (λ (c : Block). eqb c.address a) bs ≡ Some b → BlockAgrees s heap b) → cond u (Some c) (find (λ (c : Block). eqb c.address a) bs) ≡ Some b → BlockAgrees s heap b
        by_test true k further e = let same : c ≡ b = cc in subst (BlockAgrees s heap) same k
        by_test false k further e = further e

    -- the block that one of the second heap was
    record Was (b : Block) : Type 0 where
      old : ℕ
      kept : Kept old
      block : Block
      at : block_at s old ≡ Some block
      is : moved to block ≡ b
      goes : to old ≡ b.address

    some_block : (o : Option Block) → IsSome o → (b : Block) × (o ≡ Some b)
    some_block None h = absurd (cc)
    some_block (Some b) h = (b, refl)

    was : (b : Block) → block_at t b.address ≡ Some b → Was b
    was b at =
        let there : IsAddress t b.address = subst (λ (o : Option Block). IsSome o) (sym at) refl in
        let old = m.only b.address there in
        let found = some_block (block_at s old.0) (closed.there old.0 old.1) in
        let now : block_at t (to old.0) ≡ Some (moved to found.0) = m.kept old.0 found.0 old.1 found.1 in
        let same : Some (moved to found.0) ≡ Some b = sym now ∙ ap (block_at t) old.2 ∙ at in
        record { old = old.0; kept = old.1; block = found.0; at = found.1; is = cc; goes = old.2 }

    moved_agrees : (b : Block) → Was b → BlockAgrees t heap b
    moved_agrees b w =
        let before = found_agrees s.blocks w.old w.block agrees.blocks w.at in
        subst (BlockAgrees t heap) w.is (record {
          object = before.object;
          is = before.is;
          class = before.class;
          values = values_moved w.block.values before.object.values (closed.values w.old w.block w.kept w.at) before.values;
        })

    each_agrees : (bs : List Block) (d : Block) → ((i : ℕ) → i < length bs → block_at t (get_or bs i d).address ≡ Some (get_or bs i d)) → BlocksAgree t heap bs
    each_agrees [] d found = tt
    each_agrees (b ∷ bs) d found = (moved_agrees b (was b (found 0 (omega arith))), each_agrees bs d (λ i less. found (suc i) (omega (arith, less))))

    -- ---- no two have one name

    begins_from : (from : ℕ) (bs : List Block) (cells i : ℕ) (d : Block) → LieFrom from bs cells → i < length bs → from ≤ (get_or bs i d).address
    begins_from from [] cells i d h less = absurd (omega (arith, less))
    begins_from from (b ∷ bs) cells zero d h less = h.0
    begins_from from (b ∷ bs) cells (suc i) d h less =
        let first : from ≤ b.address = h.0 in
        let later : block_end b ≤ (get_or bs i d).address = begins_from (block_end b) bs cells i d h.1 (omega (arith, less)) in
        omega arith

    rises : (from : ℕ) (bs : List Block) (cells i j : ℕ) (d : Block) → LieFrom from bs cells → i < j → j < length bs → (get_or bs i d).address < (get_or bs j d).address
    rises from [] cells i j d h below less = absurd (omega (arith, less))
    rises from (b ∷ bs) cells i zero d h below less = absurd (omega (arith, below))
    rises from (b ∷ bs) cells zero (suc j) d h below less = let later : block_end b ≤ (get_or bs j d).address = begins_from (block_end b) bs cells j d h.1 (omega (arith, less)) in omega arith
    rises from (b ∷ bs) cells (suc i) (suc j) d h below less = rises (block_end b) bs cells i j d h.1 (omega (arith, below)) (omega (arith, less))

    found_at : (from : ℕ) (bs : List Block) (cells i : ℕ) (d : Block) → LieFrom from bs cells → i < length bs → find (λ (c : Block). eqb c.address (get_or bs i d).address) bs ≡ Some (get_or bs i d)
    found_at from [] cells i d h less = absurd (omega (arith, less))
    found_at from (b ∷ bs) cells zero d h less =
        ⊎_elim
        (λ (u : (eqb b.address b.address ≡ true) × (b.address ≡ b.address)). ap (λ (c : Bool). cond c (Some b) (find (λ (c : Block). eqb c.address b.address) bs)) u.0)
        (λ (u : (eqb b.address b.address ≡ false) × (b.address ≡ b.address → ⊥)). absurd (u.1 refl))
        (eqb_tells b.address b.address)
    found_at from (b ∷ bs) cells (suc i) d h less =
        let later : block_end b ≤ (get_or bs i d).address = begins_from (block_end b) bs cells i d h.1 (omega (arith, less)) in
        ⊎_elim
        (λ (u : (eqb b.address (get_or bs i d).address ≡ true) × (b.address ≡ (get_or bs i d).address)). absurd (let same : b.address ≡ (get_or bs i d).address = u.1 in omega arith))
        (λ (u : (eqb b.address (get_or bs i d).address ≡ false) × (b.address ≡ (get_or bs i d).address → ⊥)).
        ap (λ (c : Bool). cond c (Some b) (find (λ (c : Block). eqb c.address (get_or bs i d).address) bs)) u.0 ∙ found_at (block_end b) bs cells i d h.1 (omega (arith, less)))
        (eqb_tells b.address (get_or bs i d).address)

    -- blocks of one name were one block
    one_old : (b c : Block) → Was b → Was c → b.birth ≡ c.birth → b.address ≡ c.address
    one_old b c v w e =
        let first : name_at s v.old ≡ Some b.birth = ap (option_map (λ (x : Block). x.birth)) v.at ∙ ap (λ (x : Block). Some x.birth) v.is in
        let second : name_at s w.old ≡ Some c.birth = ap (option_map (λ (x : Block). x.birth)) w.at ∙ ap (λ (x : Block). Some x.birth) w.is in
        let same : v.old ≡ w.old = one_address s v.old w.old c.birth agrees.unique (first ∙ ap (λ (n : ℕ). Some n) e) second in
        sym v.goes ∙ ap to same ∙ w.goes

    -- the second heap stands for the same heap of the source
    pub heap_moved : HeapAgrees t heap
    heap_moved = record {
      blocks = each_agrees t.blocks nothing (λ i less. found_at 0 t.blocks t.cells i nothing m.laid_out less);
      unique = λ i j d below within e.
          let low = rises 0 t.blocks t.cells i j d m.laid_out below within in
          let first = was (get_or t.blocks i d) (found_at 0 t.blocks t.cells i d m.laid_out (omega (arith, below, within))) in
          let second = was (get_or t.blocks j d) (found_at 0 t.blocks t.cells j d m.laid_out within) in
          let same : (get_or t.blocks i d).address ≡ (get_or t.blocks j d).address = one_old (get_or t.blocks i d) (get_or t.blocks j d) first second e in
          omega (arith, low, same);
    }
      where
        nothing : Block
        nothing = record { address = 0; class = 0; birth = 0; values = []; pins = 0 }
