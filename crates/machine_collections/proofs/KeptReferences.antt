-- References whose objects a collection keeps.
use Rattle.std.specs.Prelude.{◌≡◌, ℕ, List, [], ◌∷◌, Option, Some, None}
use Rattle.std.specs.List.{AllByRecursion}
use Rattle.heap.specs.declared.value.Value.{Value}
use Rattle.heap.specs.declared.value.Value.TheVariants.{Number, Null, Block as Address}
use Rattle.heap.specs.Heap.{Block, Space, IsAddress, block_at, name_at}
use Rattle.tables.specs.References.{references_in}
use Rattle.machine_threads.specs.declared.thread.Thread.{Thread}
use Rattle.machine_scenes.specs.declared.activation.Activation.{Activation}
use Rattle.machine_scenes.specs.declared.references.Held.{Held}
use Rattle.machine_scenes.specs.declared.references.Held.TheVariants.{Empty, At, Weakly, Cleared, Deleted}
use Rattle.machine_collections.specs.Roots.{argument_places}

-- each address among these is kept
abbrev pub AreKept : (ℕ → Type 0) → List ℕ → Type 0
AreKept Kept [] = Unit {0}
AreKept Kept (a ∷ rest) = Kept a × AreKept Kept rest

-- each address among values is kept
abbrev pub ValueIsKept : (ℕ → Type 0) → Value → Type 0
ValueIsKept Kept (Number n) = Unit {0}
ValueIsKept Kept Null = Unit {0}
ValueIsKept Kept (Address a) = Kept a

abbrev pub ValuesAreKept : (ℕ → Type 0) → List Value → Type 0
ValuesAreKept Kept [] = Unit {0}
ValuesAreKept Kept (v ∷ rest) = ValueIsKept Kept v × ValuesAreKept Kept rest

-- what blocks that are kept refer to is kept, and there is a block at each address that is
pub record IsClosedUnder (Kept : ℕ → Type 0) (s : Space) : Type 0 where
  pub there : (a : ℕ) → Kept a → IsAddress s a
  pub values : (a : ℕ) (b : Block) → Kept a → block_at s a ≡ Some b → ValuesAreKept Kept b.values

-- an object has a block that is kept
abbrev pub HasKept : (ℕ → Type 0) → Space → ℕ → Type 0
HasKept Kept s n = (a : ℕ) × (name_at s a ≡ Some n) × Kept a

-- ---- statics

-- the object of a global reference that isn't weak is kept
abbrev pub HeldIsKept : (ℕ → Type 0) → Held → Type 0
HeldIsKept Kept Empty = Unit {0}
HeldIsKept Kept (At a) = Kept a
HeldIsKept Kept (Weakly a) = Unit {0}
HeldIsKept Kept Cleared = Unit {0}
HeldIsKept Kept Deleted = Unit {0}

abbrev pub AllHeldAreKept : (ℕ → Type 0) → List Held → Type 0
AllHeldAreKept Kept [] = Unit {0}
AllHeldAreKept Kept (h ∷ rest) = HeldIsKept Kept h × AllHeldAreKept Kept rest

-- ---- threads

abbrev pub CallIsKept : (ℕ → Type 0) → Option Activation → Type 0
CallIsKept Kept None = Unit {0}
CallIsKept Kept (Some call) = AreKept Kept (references_in call.locals.slots)

-- of calls from which others were made
abbrev pub CallersAreKept : (ℕ → Type 0) → List Activation → Type 0
CallersAreKept Kept calls = AllByRecursion (λ (call : Activation). AreKept Kept (references_in call.locals.slots)) calls

abbrev pub ThreadsAreKept : (ℕ → Type 0) → List Thread → Type 0
ThreadsAreKept Kept [] = Unit {0}
ThreadsAreKept Kept (t ∷ rest) = CallersAreKept Kept t.callers.items × AreKept Kept (references_in (argument_places t.entering)) × CallIsKept Kept t.call × ((a : ℕ) → t.pending ≡ Some a → Kept a) × ThreadsAreKept Kept rest
