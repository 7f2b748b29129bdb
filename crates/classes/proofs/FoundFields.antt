-- A field that is looked for in a class and then in its superclasses.
use Rattle.std.proofs.Common.{◌≡◌, ℕ, zero, suc, ◌+◌, ◌<◌, Bool, true, false, cond, List, [], ◌∷◌, ◌++◌, map, flat_map, find, Option, Some, None, refl, ap, ◌∙◌, arith}
use Rattle.std.specs.Prelude.{◌&&◌}
use Rattle.std.specs.Option.{option_map}
use Rattle.std.specs.Str.{bytes_eq}
use Rattle.base.specs.Bytes.{Identifier}
use Rattle.class_rules.specs.Class.{Field, Classes, superclass, above, ancestry_within}
use Rattle.class_rules.specs.Fields.{FieldId, signature}
use Rattle.classes.specs.FieldViews.{declared_as}

find-some : {A : Type 0} (p : A → Bool) (xs ys : List A) (x : A) → find p xs ≡ Some x → find p (xs ++ ys) ≡ Some x
find-some p [] ys x e = absurd (cc)
find-some {A = A} p (y ∷ xs) ys x e = step (p y) e (find-some p xs ys x)
  where
    step : (b : Bool) → cond b (Some y) (find p xs) ≡ Some x → (find p xs ≡ Some x → find p (xs ++ ys) ≡ Some x) → cond b (Some y) (find p (xs ++ ys)) ≡ Some x
    step true q rest = q
    step false q rest = rest q

find-none : {A : Type 0} (p : A → Bool) (xs ys : List A) → find p xs ≡ None → find p (xs ++ ys) ≡ find p ys
find-none p [] ys e = refl
find-none {A = A} p (y ∷ xs) ys e = step (p y) e (find-none p xs ys)
  where
    step : (b : Bool) → cond b (Some y) (find p xs) ≡ None → (find p xs ≡ None → find p (xs ++ ys) ≡ find p ys) → cond b (Some y) (find p (xs ++ ys)) ≡ find p ys
    step true q rest = absurd (cc)
    step false q rest = rest q

abbrev pub fits : Classes → Identifier → List ℕ → Field → Bool
fits T name text f = bytes_eq f.name name && bytes_eq (signature T f.type) text

abbrev pub identified : Bool → ℕ → Field → FieldId
identified s c f = record { class = c; is_static = s; field = f }

abbrev own : Classes → Bool → ℕ → List FieldId
own T s c = map (identified s c) (declared_as T c s)

-- the first that fits of a class and its ancestors, of which there are at most this many
abbrev pub found_within : ℕ → Classes → ℕ → Identifier → List ℕ → Bool → Option FieldId
found_within n T c name text s = find (λ (g : FieldId). fits T name text g.field) (flat_map (own T s) (ancestry_within n T c))

module _ (T : Classes) (c : ℕ) (name : Identifier) (text : List ℕ) (s : Bool) where
  find-own : (fs : List Field) → find (λ (g : FieldId). fits T name text g.field) (map (identified s c) fs) ≡ option_map (identified s c) (find (fits T name text) fs)
  find-own [] = refl
  find-own (f ∷ fs) = step (fits T name text f) (find-own fs)
    where
      step : (b : Bool) → find (λ (g : FieldId). fits T name text g.field) (map (identified s c) fs) ≡ option_map (identified s c) (find (fits T name text) fs)
          → cond b (Some (identified s c f)) (find (λ (g : FieldId). fits T name text g.field) (map (identified s c) fs)) ≡ option_map (identified s c) (cond b (Some f) (find (fits T name text) fs))
      step true e = refl
      step false e = e

  pub found-here : (n : ℕ) (f : Field) → 0 < n → find (fits T name text) (declared_as T c s) ≡ Some f → found_within n T c name text s ≡ Some (identified s c f)
  found-here zero f h e = absurd (omega arith)
  found-here (suc n) f h e = find-some (λ (g : FieldId). fits T name text g.field) (own T s c) _ (identified s c f) (find-own (declared_as T c s) ∙ ap (option_map (identified s c)) e)

  nothing_own : find (fits T name text) (declared_as T c s) ≡ None → find (λ (g : FieldId). fits T name text g.field) (own T s c) ≡ None
  nothing_own e = find-own (declared_as T c s) ∙ ap (option_map (identified s c)) e

  pub found-above : (n m d : ℕ) → n ≡ m + 1 → find (fits T name text) (declared_as T c s) ≡ None → superclass T c ≡ Some d → found_within n T c name text s ≡ found_within m T d name text s
  found-above zero m d e h q = absurd (omega arith)
  found-above (suc n) m d e h q =
      let same : n ≡ m = omega arith in
      find-none (λ (g : FieldId). fits T name text g.field) (own T s c) _ (nothing_own h)
      ∙ ap (λ o. find (λ (g : FieldId). fits T name text g.field) (flat_map (own T s) (above (ancestry_within n T) o))) q
      ∙ ap (λ k. found_within k T d name text s) same

  pub found-top : (n : ℕ) → find (fits T name text) (declared_as T c s) ≡ None → superclass T c ≡ None → found_within n T c name text s ≡ None
  found-top zero h q = refl
  found-top (suc n) h q =
      find-none (λ (g : FieldId). fits T name text g.field) (own T s c) _ (nothing_own h)
      ∙ ap (λ o. find (λ (g : FieldId). fits T name text g.field) (flat_map (own T s) (above (ancestry_within n T) o))) q

pub map-both : {A B C : Type 0} (f : A → B) (g : B → C) (xs : List A) → map (λ x. g (f x)) xs ≡ map g (map f xs)
map-both f g [] = refl
map-both f g (x ∷ xs) = ap (λ ys. g (f x) ∷ ys) (map-both f g xs)
