-- Classes by number and by name.
use Rattle.std.proofs.Common.{◌++◌, false, ◌≡◌, ℕ, zero, suc, ◌+◌, ◌-◌, ◌<◌, Bool, cond, List, [], ◌∷◌, length, position, Option, Some, None, is_some, nat_lt, slice_get, refl, sym, ap, ◌∙◌, arith, Bor}
use Rattle.std.specs.Prelude.{not}
use Rattle.std.specs.Option.{option_map}
use Rattle.std.specs.List.{position_from, prefix_len}
use Rattle.std.specs.Map.{keys_of, lookup}
use Rattle.std.specs.Map.Iter.{deref_pair}
use Rattle.std.specs.Global.{Vec}
use Rattle.std.specs.Str.{bytes_eq}
use Rattle.std.proofs.lemmas.List.{map-append}
use Rattle.std.proofs.lemmas.Cmp.{nat_list_eq_equiv}
use Rattle.std.proofs.lemmas.Iterator.Adapters.{position_from-zero}
use Rattle.indexmap.proofs.MapLemmas.{some_index}
use Rattle.base.specs.Bytes.{Identifier}
use Rattle.classes.specs.declared.class.Entry.{Entry}
use Rattle.class_rules.specs.Class.{Class, Classes, class_at, class_named}
use Rattle.classes.specs.Views.{class_view, classes_view}

-- a class by its number
pub class_at-place : (T : Classes) (n : ℕ) → 0 < n → class_at T n ≡ slice_get T (n - 1)
class_at-place T zero h = absurd (omega arith)
class_at-place T (suc n) h = let e : suc n - 1 ≡ n = omega arith in sym (ap (slice_get T) e)

-- names are equal either way
pub same_bytes : (a b : List ℕ) → bytes_eq a b ≡ bytes_eq b a
same_bytes a b = nat_list_eq_equiv.symm a b

-- a class that was looked up
pub class_view-looked_up : (r : Option (Bor (Vec ℕ) × Bor Entry)) → option_map (λ p. class_view (p.0.now, p.1.now)) r ≡ option_map class_view (option_map deref_pair r)
class_view-looked_up None = refl
class_view-looked_up (Some p) = refl

-- ---- classes by name

-- an element more, at which the test doesn't pass
other_place : {X : Type 0} (p : X → Bool) (n : ℕ) (xs : List X) (x : X) → p x ≡ false → position_from p n (xs ++ x ∷ []) ≡ position_from p n xs
other_place p n [] x other = ap (λ b. cond b (Some n) None) other
other_place p n (y ∷ xs) x other = ap (λ (o : Option ℕ). cond (p y) (Some n) o) (other_place p (n + 1) xs x other)

module _ (name : Identifier) where
  abbrev has_key : Vec ℕ → Bool
  has_key k = bytes_eq name k.items

  abbrev has_name : Class → Bool
  has_name c = bytes_eq c.name name

  same_prefix : (es : List (Vec ℕ × Entry)) → prefix_len (λ k. not (has_key k)) (keys_of es) ≡ prefix_len (λ c. not (has_name c)) (classes_view es)
  same_prefix [] = refl
  same_prefix (e ∷ es) = λ i. cond (not (same_bytes name e.0.items i)) (1 + same_prefix es i) 0

  same_length : (es : List (Vec ℕ × Entry)) → length (keys_of es) ≡ length (classes_view es)
  same_length [] = refl
  same_length (e ∷ es) = ap suc (same_length es)

  same_place : (es : List (Vec ℕ × Entry)) → position has_key (keys_of es) ≡ position has_name (classes_view es)
  same_place es = λ i. cond (nat_lt (same_prefix es i) (same_length es i)) (Some (same_prefix es i)) None

  -- with a class of another name more, a class has the number that it had
  pub named-other : (T : Classes) (c : Class) → bytes_eq c.name name ≡ false → class_named (T ++ c ∷ []) name ≡ class_named T name
  named-other T c other =
      ap (option_map (λ i. i + 1)) (position_from-zero has_name (T ++ c ∷ []) ∙ other_place has_name 0 T c other ∙ sym (position_from-zero has_name T))

  -- a class by its name
  pub class_named-view : (es : List (Vec ℕ × Entry)) → class_named (classes_view es) name ≡ option_map (λ i. i + 1) (position has_key (keys_of es))
  class_named-view es = sym (ap (option_map (λ i. i + 1)) (same_place es))

-- a name that no class has is no key
pub lookup-new : (name : Identifier) (es : List (Vec ℕ × Entry)) → class_named (classes_view es) name ≡ None → lookup (λ k. bytes_eq name k.items) es ≡ None
lookup-new name es h = none_of (lookup (has_key name) es) (sym (some_index (has_key name) es) ∙ sym (still (position (has_key name) (keys_of es))) ∙ ap is_some (sym (class_named-view name es) ∙ h))
  where
    still : (o : Option ℕ) → is_some (option_map (λ i. i + 1) o) ≡ is_some o
    still None = refl
    still (Some i) = refl

    none_of : (o : Option Entry) → is_some o ≡ false → o ≡ None
    none_of None e = refl
    none_of (Some x) e = absurd (cc)

-- an entry more is a class more
pub classes_view-more : (es : List (Vec ℕ × Entry)) (e : Vec ℕ × Entry) → classes_view (es ++ e ∷ []) ≡ classes_view es ++ class_view e ∷ []
classes_view-more es e = map-append class_view es (e ∷ [])
