-- Which weak references a collection clears.
use Rattle.std.specs.Prelude.{◌≡◌, ℕ, Bool, true, false, List, [], ◌∷◌, ◌++◌, length, map, slice_get, Contains, Option, Some, None}
use Rattle.std.specs.List.Sorted.{IsStrictlyIncreasing}
use Rattle.std.specs.Option.{option_map, option_to_list}
use Rattle.heap.specs.Heap.{Space, name_at}
use Rattle.semantics.specs.Journal.{Clearing, Journal}
use Rattle.semantics.specs.declared.object_id.ObjectId.{ObjectId}
use Rattle.machine_scenes.specs.Given.{object_there}
use Rattle.tables.specs.Keys.{value_at}
use Rattle.semantics.specs.declared.static_reference.StaticReference.TheVariants as static
use Rattle.machine_scenes.specs.Statics.{StaticReference}

module _ (space : Space) (statics : List StaticReference) (weaks after : List (Option (Option ℕ))) where
  -- a static held this object weakly, and its reference is cleared now
  pub record WasCleared (n : ℕ) : Type 0 where
    pub slot : ℕ
    pub key : ℕ
    pub address : ℕ
    pub of_static : slice_get statics slot ≡ Some (static.Weakly key)
    pub held : value_at weaks key ≡ Some (Some address)
    pub named : name_at space address ≡ Some n
    pub gone : value_at after key ≡ Some None

  -- these are the objects whose weak references were cleared, in rising order
  pub record AreCleared (names : List ℕ) : Type 0 where
    pub rising : IsStrictlyIncreasing names
    pub sound : (n : ℕ) → Contains names n → WasCleared n
    pub complete : (n : ℕ) → WasCleared n → Contains names n

-- ---- as they are listed

-- key by key, a reference has what its place has, and where there is none there is none
pub record ArePut (weaks : List (Option (Option ℕ))) (places : List (Option ℕ)) (after : List (Option (Option ℕ))) : Type 0 where
  pub count : length after ≡ length weaks
  pub put : (key : ℕ) (p : Option ℕ) → slice_get places key ≡ Some p → value_at after key ≡ option_map (λ (held : Option ℕ). p) (value_at weaks key)

-- the name of the object that a weak reference has
abbrev pub name_held : Space → Option (Option ℕ) → Option ℕ
name_held space (Some (Some a)) = Some (object_there space a)
name_held space held = None

-- the name of the object that a static holds weakly
abbrev pub weak_name : Space → List (Option (Option ℕ)) → StaticReference → Option ℕ
weak_name space weaks (static.Weakly key) = name_held space (value_at weaks key)
weak_name space weaks s = None

-- static by static
abbrev pub weak_names : Space → List (Option (Option ℕ)) → List StaticReference → List (Option ℕ)
weak_names space weaks statics = map (weak_name space weaks) statics

-- these are the objects that statics hold weakly, static by static
abbrev pub AreNamed : Space → List (Option (Option ℕ)) → List StaticReference → List (Option ObjectId) → Type 0
AreNamed space weaks statics names = map (option_map (λ (o : ObjectId). o.number)) names ≡ weak_names space weaks statics

-- a reference is cleared
abbrev pub is_gone : Option (Option ℕ) → Bool
is_gone (Some None) = true
is_gone held = false

-- a static's weak reference is
abbrev pub holds_cleared : List (Option (Option ℕ)) → StaticReference → Bool
holds_cleared weaks (static.Weakly key) = is_gone (value_at weaks key)
holds_cleared weaks s = false

-- a name, if its reference is cleared
abbrev pub cleared_name : Option ℕ → Bool → Option ℕ
cleared_name n true = n
cleared_name n false = None

-- of some names, static by static, those whose references are cleared
abbrev pub cleared_names : List (Option ℕ) → List Bool → List ℕ
cleared_names [] gone = []
cleared_names (n ∷ names) [] = []
cleared_names (n ∷ names) (g ∷ gone) = option_to_list (cleared_name n g) ++ cleared_names names gone

-- these names are among those, each once and in rising order, and no other is
pub record ListsNames (those names : List ℕ) : Type 0 where
  pub rising : IsStrictlyIncreasing names
  pub sound : (n : ℕ) → Contains names n → Contains those n
  pub complete : (n : ℕ) → Contains those n → Contains names n

-- of the objects that statics held weakly, static by static, those whose references are cleared now
abbrev pub ListsCleared : List (Option ObjectId) → List (Option (Option ℕ)) → List StaticReference → List ℕ → Type 0
ListsCleared objects weaks statics names =
    ListsNames (cleared_names (map (option_map (λ (o : ObjectId). o.number)) objects) (map (holds_cleared weaks) statics)) names

-- ---- in a journal

-- the entry of a clearing, which there is none of where nothing is cleared
abbrev pub clearing_of : List ℕ → Journal
clearing_of [] = []
clearing_of (n ∷ names) = Clearing (n ∷ names) ∷ []
