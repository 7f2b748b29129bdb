-- Slots that are taken stay taken, and each known name has its own.
use Rattle.std.proofs.Common.{◌≡◌, ℕ, ◌<◌, ◌≤◌, Some, refl, sym, ap, ◌∙◌, subst, arith}
use Rattle.base.specs.Bytes.{Identifier, lookup}
use Rattle.syntax.specs.declared.declared_type.DeclaredType.{DeclaredType}
use Rattle.syntax.specs.declared.declared_type.DeclaredType.TheVariants.{Simple, Pointer, ConstChars}
use Rattle.syntax.specs.Tree as tree
use Rattle.syntax.specs.declared.declared_type.VariableType.TheVariants as variables
use Rattle.syntax.specs.declared.declared_type.VariableType.{VariableType}
use Rattle.syntax.specs.Tree.{Stmt, Block, End, Next}
use Rattle.type_rules.specs.declared.ty.ExprType.{ExprType}
use Rattle.type_rules.specs.declared.ty.ExprType.TheVariants.{Word, Jint, Flag, Truth, Ref, Global, Weak, FieldId, MethodId, Buffer, Array}
use Rattle.type_rules.specs.TypeRules.{variable_type, declared_type}
use Rattle.code.specs.declared.slots.SlotCounts.{SlotCounts}
use Rattle.code.specs.Depth.{Listing}
use Rattle.code_meaning.specs.Layout.{Slot, Known, Layout, next_index, slots_after, new_slot, with_name, closed, layout_after, block_layout}
use Rattle.code_meaning.specs.Fits.{IndexWithin, IsPlaceOf, IsBufferType, IsHandleType, AreApart, IsOwn, IsLaidOut, HasRoomFor, StmtFits}
use Rattle.code_meaning.specs.Stands.{AreAmong, IsSlotOf}
use Rattle.code_meaning.proofs.SlotLaws.{first_or_after, new_among, all_among}

-- ---- slots grow

-- as many of each kind at least
pub record AtLeast (less more : SlotCounts) : Type 0 where
  pub numbers : less.numbers ≤ more.numbers
  pub references : less.references ≤ more.references
  pub statics : less.statics ≤ more.statics
  pub field_ids : less.field_ids ≤ more.field_ids
  pub buffers : less.buffers ≤ more.buffers

pub same_slots : (c : SlotCounts) → AtLeast c c
same_slots c = record { numbers = omega arith; references = omega arith; statics = omega arith; field_ids = omega arith; buffers = omega arith }

pub more_slots : (a b c : SlotCounts) → AtLeast a b → AtLeast b c → AtLeast a c
more_slots a b c h k = record {
  numbers = omega (arith, h.numbers, k.numbers);
  references = omega (arith, h.references, k.references);
  statics = omega (arith, h.statics, k.statics);
  field_ids = omega (arith, h.field_ids, k.field_ids);
  buffers = omega (arith, h.buffers, k.buffers);
}

pub slots_grow : (s : ExprType) (c : SlotCounts) → AtLeast c (slots_after s c)
slots_grow Word c = record { numbers = omega arith; references = omega arith; statics = omega arith; field_ids = omega arith; buffers = omega arith }
slots_grow Jint c = record { numbers = omega arith; references = omega arith; statics = omega arith; field_ids = omega arith; buffers = omega arith }
slots_grow Flag c = record { numbers = omega arith; references = omega arith; statics = omega arith; field_ids = omega arith; buffers = omega arith }
slots_grow Truth c = record { numbers = omega arith; references = omega arith; statics = omega arith; field_ids = omega arith; buffers = omega arith }
slots_grow Ref c = record { numbers = omega arith; references = omega arith; statics = omega arith; field_ids = omega arith; buffers = omega arith }
slots_grow Global c = record { numbers = omega arith; references = omega arith; statics = omega arith; field_ids = omega arith; buffers = omega arith }
slots_grow Weak c = record { numbers = omega arith; references = omega arith; statics = omega arith; field_ids = omega arith; buffers = omega arith }
slots_grow FieldId c = record { numbers = omega arith; references = omega arith; statics = omega arith; field_ids = omega arith; buffers = omega arith }
slots_grow MethodId c = record { numbers = omega arith; references = omega arith; statics = omega arith; field_ids = omega arith; buffers = omega arith }
slots_grow (Buffer t w) c = record { numbers = omega arith; references = omega arith; statics = omega arith; field_ids = omega arith; buffers = omega arith }
slots_grow (Array t n) c = record { numbers = omega arith; references = omega arith; statics = omega arith; field_ids = omega arith; buffers = omega arith }

mutual
  pub stmt_grows : (s : Stmt) (l : Layout) → AtLeast l.slots (layout_after l s).slots
  stmt_grows (tree.Plain line (tree.Declare t x r)) l = slots_grow (declared_type t) l.slots
  stmt_grows (tree.Plain line (tree.DeclareArray t x size)) l = slots_grow (Array t size) l.slots
  stmt_grows (tree.Plain line (tree.Assign x r)) l = same_slots l.slots
  stmt_grows (tree.Plain line (tree.AssignElement x i e)) l = same_slots l.slots
  stmt_grows (tree.Plain line (tree.Perform c)) l = same_slots l.slots
  stmt_grows (tree.Plain line (tree.PutJint e)) l = same_slots l.slots
  stmt_grows (tree.If line test then' tree.NoElse) l = block_grows then' l
  stmt_grows (tree.If line test then' (tree.ElseBlock else')) l =
      more_slots l.slots (block_layout l then').slots (block_layout (closed l (block_layout l then')) else').slots (block_grows then' l) (block_grows else' (closed l (block_layout l then')))
  stmt_grows (tree.While line test body) l = block_grows body l
  stmt_grows (tree.Return line e) l = same_slots l.slots

  pub block_grows : (b : Block) (l : Layout) → AtLeast l.slots (block_layout l b).slots
  block_grows (End line) l = same_slots l.slots
  block_grows (Next s rest) l = more_slots l.slots (layout_after l s).slots (block_layout (layout_after l s) rest).slots (stmt_grows s l) (block_grows rest (layout_after l s))

pub room_before : (slots a b : SlotCounts) → AtLeast a b → HasRoomFor slots b → HasRoomFor slots a
room_before slots a b h k = record {
  numbers = omega (arith, h.numbers, k.numbers);
  references = omega (arith, h.references, k.references);
  statics = omega (arith, h.statics, k.statics);
  field_ids = omega (arith, h.field_ids, k.field_ids);
  buffers = omega (arith, h.buffers, k.buffers);
}

pub room_at_least : (slots taken : SlotCounts) → HasRoomFor slots taken → AtLeast taken slots
room_at_least slots taken h = record { numbers = h.numbers; references = h.references; statics = h.statics; field_ids = h.field_ids; buffers = h.buffers }

-- ---- slots stay where they are

pub index_more : (a b : SlotCounts) (s : ExprType) (i : ℕ) → AtLeast a b → IndexWithin a s i → IndexWithin b s i
index_more a b Word i h k = omega (arith, h.numbers, k)
index_more a b Jint i h k = omega (arith, h.numbers, k)
index_more a b Flag i h k = omega (arith, h.numbers, k)
index_more a b Truth i h k = absurd k
index_more a b Ref i h k = omega (arith, h.references, k)
index_more a b Global i h k = omega (arith, h.statics, k)
index_more a b Weak i h k = omega (arith, h.statics, k)
index_more a b FieldId i h k = omega (arith, h.field_ids, k)
index_more a b MethodId i h k = omega (arith, h.field_ids, k)
index_more a b (Buffer t w) i h k = omega (arith, h.buffers, k)
index_more a b (Array t n) i h k = (k.0, k.1, omega (arith, h.numbers, k.2))

pub laid_more : (known : Known) (a b : SlotCounts) → AtLeast a b → IsLaidOut known a → IsLaidOut known b
laid_more known a b h laid = record { within = λ x s at. index_more a b s.ty s.index h (laid.within x s at); own = laid.own }

-- ---- one name more

-- an array has some elements, and not too many; no variable is a truth
abbrev pub SizeFits : ExprType → Type 0
SizeFits (Array t n) = (0 < n) × (n ≤ 1024)
SizeFits Truth = ⊥
SizeFits s = Unit {0}

new_within : (s : ExprType) (c : SlotCounts) → SizeFits s → IndexWithin (slots_after s c) s (next_index s c)
new_within Word c h = omega arith
new_within Jint c h = omega arith
new_within Flag c h = omega arith
new_within Truth c h = absurd h
new_within Ref c h = omega arith
new_within Global c h = omega arith
new_within Weak c h = omega arith
new_within FieldId c h = omega arith
new_within MethodId c h = omega arith
new_within (Buffer t w) c h = omega arith
new_within (Array t n) c h = (h.0, h.1, omega arith)

new_above : (s : ExprType) (c : SlotCounts) (k : ℕ) → IsPlaceOf (record { ty = s; index = next_index s c }) k → c.numbers ≤ k
new_above Word c k h = h.0
new_above Jint c k h = h.0
new_above Flag c k h = h.0
new_above Truth c k h = h.0
new_above Ref c k h = absurd (omega (arith, h.0, h.1))
new_above Global c k h = absurd (omega (arith, h.0, h.1))
new_above Weak c k h = absurd (omega (arith, h.0, h.1))
new_above FieldId c k h = absurd (omega (arith, h.0, h.1))
new_above MethodId c k h = absurd (omega (arith, h.0, h.1))
new_above (Buffer t w) c k h = absurd (omega (arith, h.0, h.1))
new_above (Array t n) c k h = h.0

place_below : (s : ExprType) (i : ℕ) (c : SlotCounts) (k : ℕ) → IndexWithin c s i → IsPlaceOf (record { ty = s; index = i }) k → k < c.numbers
place_below Word i c k w h = omega (arith, w, h.0, h.1)
place_below Jint i c k w h = omega (arith, w, h.0, h.1)
place_below Flag i c k w h = omega (arith, w, h.0, h.1)
place_below Truth i c k w h = absurd w
place_below Ref i c k w h = absurd (omega (arith, h.0, h.1))
place_below Global i c k w h = absurd (omega (arith, h.0, h.1))
place_below Weak i c k w h = absurd (omega (arith, h.0, h.1))
place_below FieldId i c k w h = absurd (omega (arith, h.0, h.1))
place_below MethodId i c k w h = absurd (omega (arith, h.0, h.1))
place_below (Buffer t wr) i c k w h = absurd (omega (arith, h.0, h.1))
place_below (Array t n) i c k w h = omega (arith, w.2, h.0, h.1)

buffer_within : (c : SlotCounts) (s : ExprType) (i : ℕ) → IsBufferType s → IndexWithin c s i → i < c.buffers
buffer_within c (Buffer t w) i b h = h
buffer_within c s i b h = absurd b

buffer_next : (c : SlotCounts) (s : ExprType) → IsBufferType s → next_index s c ≡ c.buffers
buffer_next c (Buffer t w) b = refl
buffer_next c s b = absurd b

handle_within : (c : SlotCounts) (s : ExprType) (i : ℕ) → IsHandleType s → IndexWithin c s i → i < c.field_ids
handle_within c FieldId i b h = h
handle_within c MethodId i b h = h
handle_within c s i b h = absurd b

handle_next : (c : SlotCounts) (s : ExprType) → IsHandleType s → next_index s c ≡ c.field_ids
handle_next c FieldId b = refl
handle_next c MethodId b = refl
handle_next c s b = absurd b

new_apart : (s : ExprType) (l : Layout) (x : Identifier) (t : Slot) → IsLaidOut l.known l.slots → lookup x l.known ≡ Some t → AreApart t (new_slot s l)
new_apart s l x t laid at = record {
  numbers = λ k p q.
      let below : k < l.slots.numbers = place_below t.ty t.index l.slots k (laid.within x t at) p in
      let above : l.slots.numbers ≤ k = new_above s l.slots k q in
      absurd (omega (arith, below, above));
  references = λ e e' same.
      let below : t.index < l.slots.references = subst (λ (r : ExprType). IndexWithin l.slots r t.index) e (laid.within x t at) in
      let next : next_index s l.slots ≡ l.slots.references = ap (λ (r : ExprType). next_index r l.slots) e' in
      absurd (omega (arith, below, next, same));
  fields = λ b b' same.
      let below = handle_within l.slots t.ty t.index b (laid.within x t at) in
      let next = handle_next l.slots s b' in
      absurd (omega (arith, below, next, same));
  buffers = λ b b' same.
      let below = buffer_within l.slots t.ty t.index b (laid.within x t at) in
      let next = buffer_next l.slots s b' in
      absurd (omega (arith, below, next, same));
}

apart_back : (s t : Slot) → AreApart s t → AreApart t s
apart_back s t h = record { numbers = λ k p q. h.numbers k q p; references = λ e e' same. h.references e' e (sym same); fields = λ b b' same. h.fields b' b (sym same); buffers = λ b b' same. h.buffers b' b (sym same) }

pub new_own : (s : ExprType) (l : Layout) (x : Identifier) → IsLaidOut l.known l.slots → IsOwn l.known x (new_slot s l)
new_own s l x laid y t at other = new_apart s l y t laid at

pub declared_slot : (code : Listing) (s : ExprType) (l : Layout) (x : Identifier) → SizeFits s → IsLaidOut l.known l.slots → HasRoomFor code.slots (slots_after s l.slots) → IsSlotOf code l.known x (new_slot s l)
declared_slot code s l x size laid room = record {
  within = index_more (slots_after s l.slots) code.slots s (next_index s l.slots) (room_at_least code.slots (slots_after s l.slots) room) (new_within s l.slots size);
  own = new_own s l x laid;
}

pub laid_declared : (s : ExprType) (l : Layout) (x : Identifier) → SizeFits s → IsLaidOut l.known l.slots → IsLaidOut (with_name x s l).known (with_name x s l).slots
laid_declared s l x size laid = record {
  within = λ y t at.
      first_or_after x y (new_slot s l) t l.known (IndexWithin (slots_after s l.slots) t.ty t.index)
      (λ same is. subst (λ (r : Slot). IndexWithin (slots_after s l.slots) r.ty r.index) is (new_within s l.slots size))
      (λ other h. index_more l.slots (slots_after s l.slots) t.ty t.index (slots_grow s l.slots) (laid.within y t h)) at;
  own = λ y t at z u at' other.
      first_or_after x y (new_slot s l) t l.known (AreApart u t)
      (λ same is.
      first_or_after x z (new_slot s l) u l.known (AreApart u t)
      (λ same' is'. absurd (other (same' ∙ sym same)))
      (λ other' h'. subst (AreApart u) is (new_apart s l z u laid h')) at')
      (λ other' h.
      first_or_after x z (new_slot s l) u l.known (AreApart u t)
      (λ same' is'. subst (λ (r : Slot). AreApart r t) is' (apart_back t (new_slot s l) (new_apart s l y t laid h)))
      (λ other'' h'. laid.own y t h z u h' other) at')
      at;
}

-- ---- after a statement

scalar_size : (t : VariableType) → SizeFits (variable_type t)
scalar_size variables.Uint32 = tt
scalar_size variables.Jint = tt
scalar_size variables.Jsize = tt
scalar_size variables.Jboolean = tt
scalar_size variables.JfieldId = tt
scalar_size variables.JmethodId = tt
scalar_size (variables.Reference r) = tt

pub declared_size : (t : DeclaredType) → SizeFits (declared_type t)
declared_size (Simple t) = scalar_size t
declared_size (Pointer t) = tt
declared_size ConstChars = tt

pub laid_after : (s : Stmt) (l : Layout) → StmtFits l s → IsLaidOut l.known l.slots → IsLaidOut (layout_after l s).known (layout_after l s).slots
laid_after (tree.Plain line (tree.Declare t x r)) l fits laid = laid_declared (declared_type t) l x (declared_size t) laid
laid_after (tree.Plain line (tree.DeclareArray t x size)) l fits laid = laid_declared (Array t size) l x (fits.1, fits.2) laid
laid_after (tree.If line test then' tree.NoElse) l fits laid = laid_more l.known l.slots (block_layout l then').slots (block_grows then' l) laid
laid_after (tree.If line test then' (tree.ElseBlock else')) l fits laid = laid_more l.known l.slots (layout_after l (tree.If line test then' (tree.ElseBlock else'))).slots (stmt_grows (tree.If line test then' (tree.ElseBlock else')) l) laid
laid_after (tree.While line test body) l fits laid = laid_more l.known l.slots (block_layout l body).slots (block_grows body l) laid
laid_after s l fits laid = laid

-- what was known before a statement is known after it
pub known_after_stmt : (s : Stmt) (l : Layout) → StmtFits l s → AreAmong l.known (layout_after l s).known
known_after_stmt (tree.Plain line (tree.Declare t x r)) l fits = new_among x (new_slot (declared_type t) l) l.known fits.0
known_after_stmt (tree.Plain line (tree.DeclareArray t x size)) l fits = new_among x (new_slot (Array t size) l) l.known fits.0
known_after_stmt s l fits = all_among l.known
