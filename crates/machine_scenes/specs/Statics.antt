-- Statics, which hold global references, weak or not, and what operands can name.
use Rattle.std.specs.Prelude.{◌≡◌, ℕ, Bool, true, false, List, map, slice_get, Option, Some, None, IsSome}
use Rattle.tables.specs.Keys.{Gains, value_at, without_key}
use Rattle.tables.specs.Locals.{LocalTable}
use Rattle.tables.specs.References.{address_at}
use Rattle.semantics.specs.declared.static_reference.StaticReference.{StaticReference as Reference}
use Rattle.semantics.specs.declared.static_reference.StaticReference.TheVariants as static
use Rattle.machine_scenes.specs.declared.references.Held.{Held}
use Rattle.machine_scenes.specs.declared.references.Held.TheVariants.{Empty, At, Weakly, Cleared, Deleted}

-- what a static holds: a global reference is known by its key, and a weak one by a key of its own
abbrev pub StaticReference : Type 0
StaticReference = Reference ℕ ℕ

-- the references that operands can name: the keys in the slots of local references, with their table, and what the statics hold
pub record References : Type 0 where
  pub keys : List (Option ℕ)
  pub locals : LocalTable
  pub statics : List Held

-- the address of a global reference; each that a static holds has one
abbrev pub held_at : Option ℕ → Held
held_at None = Empty
held_at (Some a) = At a

-- what is held weakly; each weak reference that a static holds has an address, or is cleared
abbrev pub held_weakly : Option (Option ℕ) → Held
held_weakly None = Empty
held_weakly (Some None) = Cleared
held_weakly (Some (Some a)) = Weakly a

-- what a static holds, by the tables of global references and of weak ones
abbrev pub held : (globals : List (Option ℕ)) → (weaks : List (Option (Option ℕ))) → StaticReference → Held
held globals weaks static.Empty = Empty
held globals weaks (static.Live key) = held_at (address_at globals key)
held globals weaks (static.Weakly key) = held_weakly (value_at weaks key)
held globals weaks static.Cleared = Cleared
held globals weaks static.Deleted = Deleted

-- what the statics hold
abbrev pub all_held : (globals : List (Option ℕ)) → (weaks : List (Option (Option ℕ))) → List StaticReference → List Held
all_held globals weaks statics = map (held globals weaks) statics

-- NULL where there is no static
abbrev pub held_or_null : Option Held → Held
held_or_null None = Empty
held_or_null (Some h) = h

-- what the static of a slot holds
abbrev pub static_at : References → ℕ → Held
static_at references i = held_or_null (slice_get references.statics i)

-- the address that is held, weakly or not
abbrev pub held_address : Held → Option ℕ
held_address (At a) = Some a
held_address (Weakly a) = Some a
held_address h = None

-- it is NULL as an argument, as a weak reference is that was cleared; a deleted one isn't
abbrev pub holds_null : Held → Bool
holds_null Empty = true
holds_null Cleared = true
holds_null h = false

-- what it is as an argument: a weak reference is its object, and NULL where it was cleared
abbrev pub held_argument : Held → Held
held_argument (Weakly a) = At a
held_argument Cleared = Empty
held_argument h = h

-- it is marked as deleted
abbrev pub holds_deleted : Held → Bool
holds_deleted Deleted = true
holds_deleted h = false

-- the statics that are live have global references of their own
pub record HaveKeys (globals : List (Option ℕ)) (statics : List StaticReference) : Type 0 where
  pub live : (i key : ℕ) → slice_get statics i ≡ Some (static.Live key) → IsSome (address_at globals key)
  pub own : (i j key : ℕ) → slice_get statics i ≡ Some (static.Live key) → slice_get statics j ≡ Some (static.Live key) → i ≡ j

-- a global reference to the object at an address is made, and none for NULL
abbrev pub MakesGlobal : (old : List (Option ℕ)) → Option ℕ → (new : List (Option ℕ)) → StaticReference → Type 0
MakesGlobal old None new held = (new ≡ old) × (held ≡ static.Empty)
MakesGlobal old (Some a) new held = (key : ℕ) × (held ≡ static.Live key) × Gains old key a new

-- ---- weak global references

-- the statics that hold one have weak references of their own, cleared or not
pub record HaveWeakKeys (weaks : List (Option (Option ℕ))) (statics : List StaticReference) : Type 0 where
  pub live : (i key : ℕ) → slice_get statics i ≡ Some (static.Weakly key) → IsSome (value_at weaks key)
  pub own : (i j key : ℕ) → slice_get statics i ≡ Some (static.Weakly key) → slice_get statics j ≡ Some (static.Weakly key) → i ≡ j

-- a weak reference to the object at an address is made, and none for NULL
abbrev pub MakesWeak : (old : List (Option (Option ℕ))) → Option ℕ → (new : List (Option (Option ℕ))) → StaticReference → Type 0
MakesWeak old None new held = (new ≡ old) × (held ≡ static.Empty)
MakesWeak old (Some a) new held = (key : ℕ) × (held ≡ static.Weakly key) × Gains old key (Some a) new

-- the weak reference of a static, where it has one, is ended
abbrev pub without_weak : List (Option (Option ℕ)) → Option StaticReference → List (Option (Option ℕ))
without_weak weaks (Some (static.Weakly key)) = without_key weaks key
without_weak weaks s = weaks
