-- What agrees with a heap agrees with it whatever its marking is.
use Rattle.std.proofs.Common.{◌≡◌, ◌≤◌, ℕ, List, [], ◌∷◌, ◌++◌, length, Option, Some, inl, inr, refl, sym, ap, subst}
use Rattle.std.specs.Option.{option_to_list}
use Rattle.std.specs.List.{AllZip}
use Rattle.heap.specs.declared.value.Value.{Value}
use Rattle.heap.specs.Heap.{Block, Space, name_at}
use Rattle.heap.specs.Marking.{MarkingStays}
use Rattle.heap.specs.Marks.{Marks}
use Rattle.heap.proofs.Staying.{stays_on}
use Rattle.base.specs.Bytes.{lookup}
use Rattle.syntax.specs.Tree.{SourceUnit}
use Rattle.class_rules.specs.Class.{Classes}
use Rattle.code.specs.declared.instr.Operand.{Operand}
use Rattle.code.specs.declared.instr.Operand.TheVariants as operand
use Rattle.code_meaning.specs.Lowered.{Lowered}
use Rattle.semantics.specs.Arguments.{Actual}
use Rattle.semantics.specs.Heap.{Heap}
use Rattle.semantics.specs.Object.{Object, ObjectValue, Reference}
use Rattle.semantics.specs.Thread as source
use Rattle.semantics.specs.Thread.{Shared, Thread, objects_viewed}
use Rattle.semantics.specs.Variable.{StaticReference, Statics, Variable, Variables}
use Rattle.semantics.specs.Variable as buffer
use Rattle.semantics.specs.World.{World, loaded_objects}
use Rattle.monitors.specs.declared.monitors.Monitor.{Monitor}
use Rattle.machine_scenes.specs.MonitorsAgree.{AreThere}
use Rattle.machine_scenes.proofs.MonitorPlaces.{there_stays}
use Rattle.tables.specs.Elements.{OwnedNumbers}
use Rattle.tables.specs.Locals.{LocalTable}
use Rattle.machine_scenes.specs.declared.buffer.Buffer.{Buffer}
use Rattle.machine_scenes.specs.declared.buffer.Buffer.TheVariants as held
use Rattle.machine_scenes.specs.declared.handle.Handle.{Handle}
use Rattle.machine_scenes.specs.declared.new_object.New.{New}
use Rattle.machine_scenes.specs.declared.new_object.New.TheVariants.{Fresh, Array, Text, Exception}
use Rattle.machine_scenes.specs.declared.references.Held.{Held}
use Rattle.machine_scenes.specs.declared.store.Store.{Store}
use Rattle.machine_scenes.specs.Buffers as in_slot
use Rattle.machine_scenes.specs.Buffers.{Acquired, AreViewed, BufferAgrees, BuffersAgree, HeldBuffers, HoldsBuffer, IsTaken, viewed_in}
use Rattle.machine_scenes.specs.HeapAgrees.{BlockAgrees, BlocksAgree, HeapAgrees, IsTable, NamesAgree, ReferenceAgrees, SlotsAgree, ValueAgrees, ValuesAgree, times}
use Rattle.machine_scenes.specs.Locals.{FramesAgree, IsKeyOf, KeysAgree}
use Rattle.machine_scenes.specs.NewObjects.{Describes, IsObject}
use Rattle.machine_scenes.specs.Statics.{References, all_held, held_argument, static_at}
use Rattle.machine_scenes.specs.StoreAgrees.{AreWeaklyThere, HeldAgrees, Keeps, StaticsAgree, StoreAgrees}
use Rattle.machine_scenes.proofs.Keeping.{frames_stay, held_stays, key_stays, keys_stay, names_stay, reference_stays, slots_stay, statics_stay, value_stays, values_stay, weaks_stay}

module _ (space : Space) (o : Option Marks) where
  -- the same heap with another marking, or none
  abbrev pub noted_space : Space
  noted_space = record space { marking = o }

  same_names : (a n : ℕ) → name_at space a ≡ Some n → name_at noted_space a ≡ Some n
  same_names a n h = h

  -- ---- references, values and blocks

  pub reference_noted : (a : Option ℕ) (r : Reference) → ReferenceAgrees space a r → ReferenceAgrees noted_space a r
  reference_noted = reference_stays space noted_space same_names

  pub value_noted : (w : Value) (v : ObjectValue) → ValueAgrees space w v → ValueAgrees noted_space w v
  value_noted = value_stays space noted_space same_names

  pub values_noted : (ws : List Value) (vs : List ObjectValue) → ValuesAgree space ws vs → ValuesAgree noted_space ws vs
  values_noted = values_stay space noted_space same_names

  pub names_noted : (xs ns : List ℕ) → NamesAgree space xs ns → NamesAgree noted_space xs ns
  names_noted = names_stay space noted_space same_names

  pub slots_noted : (slots : List (Option ℕ)) (source_names : List ℕ) → SlotsAgree space slots source_names → SlotsAgree noted_space slots source_names
  slots_noted = slots_stay space noted_space same_names

  pub block_noted : (heap : Heap) (b : Block) → BlockAgrees space heap b → BlockAgrees noted_space heap b
  block_noted heap b h = record { object = h.object; is = h.is; class = h.class; values = values_noted b.values h.object.values h.values }

  pub blocks_noted : (heap : Heap) (blocks : List Block) → BlocksAgree space heap blocks → BlocksAgree noted_space heap blocks
  blocks_noted heap [] h = h
  blocks_noted heap (b ∷ blocks) h = (block_noted heap b h.0, blocks_noted heap blocks h.1)

  pub heap_noted : (heap : Heap) → HeapAgrees space heap → HeapAgrees noted_space heap
  heap_noted heap h = record { blocks = blocks_noted heap space.blocks h.blocks; unique = h.unique }

  pub table_noted : (addresses : List ℕ) (count : ℕ) → IsTable space addresses count → IsTable noted_space addresses count
  table_noted addresses count h = record { counted = h.counted; named = h.named }

  -- ---- statics, frames and keys

  pub held_noted : (h : Held) (r : StaticReference) → HeldAgrees space h r → HeldAgrees noted_space h r
  held_noted = held_stays space noted_space same_names

  pub statics_noted : (helds : List Held) (statics : Statics) → StaticsAgree space helds statics → StaticsAgree noted_space helds statics
  statics_noted = statics_stay space noted_space same_names

  pub weaks_noted : (weaks : List (Option (Option ℕ))) → AreWeaklyThere space weaks → AreWeaklyThere noted_space weaks
  weaks_noted = weaks_stay space noted_space same_names

  pub frames_noted : (locals : LocalTable) (frames : List source.Frame) → FramesAgree space locals frames → FramesAgree noted_space locals frames
  frames_noted = frames_stay space noted_space same_names

  pub key_noted : (locals : LocalTable) (key n level : ℕ) → IsKeyOf space locals key n level → IsKeyOf noted_space locals key n level
  key_noted = key_stays space noted_space same_names

  pub keys_noted : (locals : LocalTable) (keys : List (Option ℕ)) (references : List Reference) (owners : List (Option ℕ)) → KeysAgree space locals keys references owners → KeysAgree noted_space locals keys references owners
  keys_noted = keys_stay space noted_space same_names

  pub there_noted : (ms : List Monitor) → AreThere space ms → AreThere noted_space ms
  there_noted = there_stays space noted_space same_names

  -- ---- buffers

  pub taken_noted : (copies : List (Option OwnedNumbers)) (views objects : ℕ) (all : Acquired) → IsTaken space copies views objects all → IsTaken noted_space copies views objects all
  taken_noted copies views objects all h = record { copied = h.copied; many = h.many; pins = h.pins; made = h.made; there = h.there }

  pub buffer_noted : {copies : List (Option OwnedNumbers)} {owner : ℕ} {slot : Buffer} {b : buffer.Buffer} → BufferAgrees space copies owner slot b → BufferAgrees noted_space copies owner slot b
  buffer_noted in_slot.null = in_slot.null
  buffer_noted (in_slot.copy found) = in_slot.copy found
  buffer_noted (in_slot.view named) = in_slot.view named

  buffers_zip : (copies : List (Option OwnedNumbers)) (owner : ℕ) (slots : List Buffer) (bs : List buffer.Buffer) → AllZip (BufferAgrees space copies owner) slots bs → AllZip (BufferAgrees noted_space copies owner) slots bs
  buffers_zip copies owner [] [] h = h
  buffers_zip copies owner [] (b ∷ bs) h = h
  buffers_zip copies owner (s ∷ slots) [] h = h
  buffers_zip copies owner (s ∷ slots) (b ∷ bs) h = (buffer_noted h.0, buffers_zip copies owner slots bs h.1)

  pub buffers_noted : (copies : List (Option OwnedNumbers)) (owner : ℕ) (slots : List Buffer) (bs : List buffer.Buffer) → BuffersAgree space copies owner slots bs → BuffersAgree noted_space copies owner slots bs
  buffers_noted copies owner slots bs h = record { agree = buffers_zip copies owner slots bs h.agree; apart = h.apart }

  -- views are of the same objects
  pub viewed_noted : (slots : List Buffer) → viewed_in noted_space slots ≡ viewed_in space slots
  viewed_noted [] = refl
  viewed_noted (held.Null ∷ slots) = viewed_noted slots
  viewed_noted (held.Copy key ∷ slots) = viewed_noted slots
  viewed_noted (held.View a ∷ slots) = ap (λ (names : List ℕ). option_to_list (name_at space a) ++ names) (viewed_noted slots)

  pub are_viewed_noted : (slots : List Buffer) (t : Thread) → AreViewed space slots t → AreViewed noted_space slots t
  are_viewed_noted slots t h = λ n. subst (λ (names : List ℕ). times n names ≤ times n (objects_viewed t.variables)) (sym (viewed_noted slots)) (h n)

  -- ---- objects to be made

  pub object_noted : (classes : Classes) (texts : List (List ℕ)) (new : New) (object : Object) → IsObject classes texts space new object → IsObject classes texts noted_space new object
  object_noted classes texts (Fresh class) object h = h
  object_noted classes texts (Array array) object h = (h.0, value_noted array.value h.0 h.1, h.2)
  object_noted classes texts (Text place) object h = h
  object_noted classes texts (Exception class message) object h = h

  pub describes_noted : (classes : Classes) (texts : List (List ℕ)) (new : New) (object : Object) → Describes classes texts space new object → Describes classes texts noted_space new object
  describes_noted classes texts new object h = record { object = object_noted classes texts new object h.object; makeable = h.makeable }

  -- ---- what a step keeps

  -- a step that ends with another marking, which goes on
  pub keeps_noted : (old : Space) (shared after : Shared) → Keeps old shared space after → MarkingStays space.marking o → Keeps old shared noted_space after
  keeps_noted old shared after h stays = record {
    names = h.names;
    statics = h.statics;
    shapes = h.shapes;
    room = h.room;
    laid = h.laid;
    marking = stays_on old.marking space.marking o h.marking stays;
    few = h.few;
  }

  -- a step that begins with one
  pub noted_keeps : (shared : Shared) (later : Space) (after : Shared) → Keeps noted_space shared later after → MarkingStays space.marking o → Keeps space shared later after
  noted_keeps shared later after h stays = record {
    names = h.names;
    statics = h.statics;
    shapes = h.shapes;
    room = h.room;
    laid = h.laid;
    marking = stays_on space.marking o later.marking stays h.marking;
    few = h.few;
  }

-- ---- the store

module _ (p : Lowered) (w : World) (store : Store) (o : Option Marks) where
  -- the store whose heap has another marking, or none
  abbrev pub noted_store : Store
  noted_store = record store { heap = record store.heap { marking = o } }

  pub store_noted : (shared : Shared) (all : Acquired) → StoreAgrees p w store shared all → StoreAgrees p w noted_store shared all
  store_noted shared all h = record {
    heap = heap_noted store.heap o shared.heap h.heap;
    laid_out = h.laid_out;
    cells = h.cells;
    table = table_noted store.heap o store.loaded.items (length (loaded_objects w)) h.table;
    begun = h.begun;
    births = h.births;
    statics = statics_noted store.heap o (all_held store.globals store.weaks store.statics.items) shared.statics h.statics;
    named = h.named;
    keys = h.keys;
    weak_keys = h.weak_keys;
    weaks = weaks_noted store.heap o store.weaks h.weaks;
    globals = slots_noted store.heap o store.globals shared.globals h.globals;
    buffers = taken_noted store.heap o store.elements store.views (length shared.heap) all h.buffers;
    monitors = h.monitors;
    monitored = there_noted store.heap o store.monitors h.monitored;
  }
