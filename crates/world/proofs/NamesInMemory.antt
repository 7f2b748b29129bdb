-- The names of objects in memory, by name and by place.
use Rattle.std.proofs.Common.{◌≡◌, ℕ, suc, ◌+◌, Bool, cond, List, [], ◌∷◌, ◌++◌, length, position, Some, None, true, false, nat_lt, refl, ap}
use Rattle.std.specs.Prelude.{not}
use Rattle.std.specs.List.{prefix_len}
use Rattle.std.specs.Str.{bytes_eq}
use Rattle.std.specs.Map as maps
use Rattle.std.specs.Global.{Vec}
use Rattle.std.proofs.lemmas.List.{map-append}
use Rattle.base.specs.Bytes.{Identifier, lookup}
use Rattle.classes.proofs.Places.{same_bytes}
use Rattle.class_rules.specs.declared.class_id.ClassId.{ClassId}
use Rattle.class_rules.specs.ClassIds.{number_of}
use Rattle.world.specs.NameViews.{names_view}

module _ (name : Identifier) where
  abbrev has_key : Vec ℕ → Bool
  has_key k = bytes_eq name k.items

  abbrev has_name : Identifier × ℕ → Bool
  has_name o = bytes_eq o.0 name

  -- the class of a name
  pub lookup-view : (es : List (Vec ℕ × ClassId)) → lookup name (names_view es) ≡ number_of (maps.lookup has_key es)
  lookup-view [] = refl
  lookup-view (e ∷ es) = by_key (has_key e.0) (lookup-view es)
    where
      by_key : (b : Bool) → lookup name (names_view es) ≡ number_of (maps.lookup has_key es)
          → cond b (Some e.1.number) (lookup name (names_view es)) ≡ number_of (cond b (Some e.1) (maps.lookup has_key es))
      by_key true h = refl
      by_key false h = h

  same_prefix : (es : List (Vec ℕ × ClassId)) → prefix_len (λ k. not (has_key k)) (maps.keys_of es) ≡ prefix_len (λ o. not (has_name o)) (names_view es)
  same_prefix [] = refl
  same_prefix (e ∷ es) = λ i. cond (not (same_bytes name e.0.items i)) (1 + same_prefix es i) 0

  same_length : (es : List (Vec ℕ × ClassId)) → length (maps.keys_of es) ≡ length (names_view es)
  same_length [] = refl
  same_length (e ∷ es) = ap suc (same_length es)

  -- the place of a name
  pub place-view : (es : List (Vec ℕ × ClassId)) → position has_key (maps.keys_of es) ≡ position has_name (names_view es)
  place-view es = λ i. cond (nat_lt (same_prefix es i) (same_length es i)) (Some (same_prefix es i)) None

-- one more entry is one more name
pub names_view-more : (es : List (Vec ℕ × ClassId)) (e : Vec ℕ × ClassId) → names_view (es ++ e ∷ []) ≡ names_view es ++ (e.0.items, e.1.number) ∷ []
names_view-more es e = map-append (λ (f : Vec ℕ × ClassId). (f.0.items, f.1.number)) es (e ∷ [])
