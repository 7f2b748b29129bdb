-- What is done to copied lists, views and slots.
use Rattle.std.specs.Prelude.{◌≡◌, ℕ, ◌+◌, ◌-◌, ◌<◌, ◌≤◌, Bool, true, false, if◌then◌else◌, ℤ, List, [], length, map, Option, Some}
use Rattle.std.specs.Int.{w32, cast_unsigned}
use Rattle.std.specs.Option.{option_map_or}
use Rattle.base.specs.Limits.{most_copied, most_views}
use Rattle.heap.specs.Heap.{Space, pins_at, values_at, with_changed, with_pins}
use Rattle.tables.specs.Elements.{OwnedNumbers, lengths, owned}
use Rattle.tables.specs.Keys.{Gains, IsOneMore, value_at, values_in, without_key}
use Rattle.machine_scenes.specs.declared.buffer.Buffer.{Buffer}
use Rattle.machine_scenes.specs.declared.buffer.Buffer.TheVariants as held
use Rattle.machine_scenes.specs.declared.buffer.Release.{Release}
use Rattle.machine_scenes.specs.Buffers.{copies_back}
use Rattle.machine_answers.specs.Copies.{overlay}

-- a list of this owner is made, or none where all together would be too long
abbrev pub MakesCopy : (owner : ℕ) → List ℤ → (before : List (Option OwnedNumbers)) → Buffer → (after : List (Option OwnedNumbers)) → Type 0
MakesCopy owner zs before held.Null after = (most_copied < lengths before + length zs) × (after ≡ before)
MakesCopy owner zs before (held.Copy key) after =
    (lengths before + length zs ≤ most_copied) × Gains before key (owned owner zs) after × IsOneMore (owned owner zs) (values_in before) (values_in after)
MakesCopy owner zs before (held.View a) after = ⊥

-- an object is pinned once more for a view, or not where there are 64
abbrev pub MakesView : (object : ℕ) → Space → (views : ℕ) → Buffer → Space → (views_after : ℕ) → Type 0
MakesView object space views held.Null after views_after = (most_views ≤ views) × (after ≡ space) × (views_after ≡ views)
MakesView object space views (held.Copy key) after views_after = ⊥
MakesView object space views (held.View a) after views_after =
    (views < most_views) × (a ≡ object) × (after ≡ with_pins space object (pins_at space object + 1)) × (views_after ≡ views + 1)

-- ---- a release

-- the numbers of a list
abbrev pub numbers_at : List (Option OwnedNumbers) → (key : ℕ) → List ℤ
numbers_at copies key = option_map_or (λ (c : OwnedNumbers). c.numbers) (value_at copies key) []

-- the heap with numbers in an object, from its first value on
abbrev pub written_back : Space → ℕ → List ℤ → Space
written_back space a zs = with_changed space a (overlay 0 (map (cast_unsigned w32) zs))

-- the heap once the numbers of a copy have gone back into an object
abbrev pub copied_back : List (Option OwnedNumbers) → (object : ℕ) → Buffer → Space → Space
copied_back copies object (held.Copy key) space = written_back space object (numbers_at copies key)
copied_back copies object h space = space

-- the same where the mode of a release says so
abbrev pub space_back : List (Option OwnedNumbers) → Release → Space → Space
space_back copies r space = if copies_back r.mode then copied_back copies r.object r.held space else space

-- the list is there, and an object has so many values
abbrev pub CanCopyBack : List (Option OwnedNumbers) → (object : ℕ) → Buffer → Space → Type 0
CanCopyBack copies object (held.Copy key) space =
    (c : OwnedNumbers) × (value_at copies key ≡ Some c) × (length c.numbers ≤ length (values_at space object))
CanCopyBack copies object h space = Unit {0}

-- what a slot holds is there
abbrev pub CanGiveUp : Buffer → Space → List (Option OwnedNumbers) → (views : ℕ) → Type 0
CanGiveUp held.Null space copies views = Unit {0}
CanGiveUp (held.Copy key) space copies views = (c : OwnedNumbers) × (value_at copies key ≡ Some c)
CanGiveUp (held.View a) space copies views = (0 < pins_at space a) × (0 < views)

-- a buffer is given up: a list ends, or an object gets a pin less
abbrev pub GivesUp : Buffer → Space → List (Option OwnedNumbers) → (views : ℕ) → Space → List (Option OwnedNumbers) → (views_after : ℕ) → Type 0
GivesUp held.Null space copies views after copies_after views_after = (after ≡ space) × (copies_after ≡ copies) × (views_after ≡ views)
GivesUp (held.Copy key) space copies views after copies_after views_after =
    (after ≡ space) × (copies_after ≡ without_key copies key) × (views_after ≡ views)
    × ((c : OwnedNumbers) → value_at copies key ≡ Some c → IsOneMore c (values_in copies_after) (values_in copies))
GivesUp (held.View a) space copies views after copies_after views_after =
    (after ≡ with_pins space a (pins_at space a - 1)) × (copies_after ≡ copies) × (views_after ≡ views - 1)

-- a buffer is given up or not
abbrev pub MayGiveUp : Bool → Buffer → Space → List (Option OwnedNumbers) → (views : ℕ) → Space → List (Option OwnedNumbers) → (views_after : ℕ) → Type 0
MayGiveUp true h space copies views after copies_after views_after = GivesUp h space copies views after copies_after views_after
MayGiveUp false h space copies views after copies_after views_after = (after ≡ space) × (copies_after ≡ copies) × (views_after ≡ views)
