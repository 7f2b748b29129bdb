-- What the buffers of variables take.
use Rattle.std.proofs.Common.{◌≡◌, ◌≤◌, ◌+◌, ◌-◌, ℕ, ℤ, Bool, true, false, cond, List, [], ◌∷◌, ◌++◌, Bor, zero, suc, map, drop, slice_get, Some, refl, ap, sym, ◌∙◌, arith, append_assoc}
use Rattle.std.specs.Prelude.{slice_set, flat_map}
use Rattle.std.proofs.lemmas.List.Concat.{flat_map-cons}
use Rattle.std.specs.Str.{bytes_eq}
use Rattle.std.proofs.lemmas.List.{length-set}
use Rattle.base.specs.Bytes.{Identifier, lookup}
use Rattle.semantics.specs.CallEffects.{begun_with, freed}
use Rattle.semantics.specs.Value.{convert}
use Rattle.semantics.specs.Variable.{Variable, Scalar, LocalRef, FieldHandle, MethodHandle, Elements, LocalArray, NoBuffer, Copy, View, Variables, assign, change, copied_length, viewed}
use Rattle.semantics.proofs.BegunArrays.{begun_length}
use Rattle.replay_terms.specs.declared.buffers.BuffersInUse.{BuffersInUse}
use Rattle.replay_terms.specs.declared.variable.Content.{Content}
use Rattle.replay_terms.specs.declared.variable.Written.{Written}
use Rattle.replay_terms.specs.declared.variable.Written.TheVariants as outcome
use Rattle.replay_terms.specs.Views.{Contents, Takes, WritesElement, by_name, content_view, viewed_by, count_viewed, had, total, variables_view, written}

module _ (g : Variable → ℕ) where
  -- what is assigned is exchanged for what was there
  pub assigned_total : (x : Identifier) (v : Variable) (vs : Variables) → total g (assign x v vs) + had g (lookup x vs) ≡ total g vs + g v
  assigned_total x v [] = omega arith
  assigned_total x v ((y, w) ∷ vs) = first (bytes_eq x y) (assigned_total x v vs)
    where
      first : (b : Bool) → total g (assign x v vs) + had g (lookup x vs) ≡ total g vs + g v → total g (cond b ((x, v) ∷ vs) ((y, w) ∷ assign x v vs)) + had g (cond b (Some w) (lookup x vs)) ≡ g w + total g vs + g v
      first true further = omega arith
      first false further = omega (arith, further)

  -- a change that leaves each variable what it has leaves all so
  pub changed_total : (f : Variable → Variable) → ((w : Variable) → g (f w) ≡ g w) → (x : Identifier) (vs : Variables) → total g (change x f vs) ≡ total g vs
  changed_total f same x [] = refl
  changed_total f same x ((y, w) ∷ vs) = first (bytes_eq x y) (changed_total f same x vs)
    where
      first : (b : Bool) → total g (change x f vs) ≡ total g vs → total g (cond b ((y, f w) ∷ vs) ((y, w) ∷ change x f vs)) ≡ g w + total g vs
      first true further = omega (arith, same w)
      first false further = omega (arith, further)

  -- a change that leaves it nothing takes away what it had
  pub emptied_total : (f : Variable → Variable) → ((w : Variable) → g (f w) ≡ 0) → (x : Identifier) (vs : Variables) → total g (change x f vs) + had g (lookup x vs) ≡ total g vs
  emptied_total f none x [] = refl
  emptied_total f none x ((y, w) ∷ vs) = first (bytes_eq x y) (emptied_total f none x vs)
    where
      first : (b : Bool) → total g (change x f vs) + had g (lookup x vs) ≡ total g vs → total g (cond b ((y, f w) ∷ vs) ((y, w) ∷ change x f vs)) + had g (cond b (Some w) (lookup x vs)) ≡ g w + total g vs
      first true further = omega (arith, none w)
      first false further = omega (arith, further)

  pub had_within : (x : Identifier) (vs : Variables) → had g (lookup x vs) ≤ total g vs
  had_within x [] = omega arith
  had_within x ((y, w) ∷ vs) = first (bytes_eq x y) (had_within x vs)
    where
      first : (b : Bool) → had g (lookup x vs) ≤ total g vs → had g (cond b (Some w) (lookup x vs)) ≤ g w + total g vs
      first true further = omega arith
      first false further = omega (arith, further)

  -- no more is given up than is taken
  pub given_within : (x : Identifier) (vs : Contents) (v : Variable) (given all : ℕ) → lookup x (variables_view vs) ≡ Some v → given ≡ g v → all ≡ total g (variables_view vs) → given ≤ all
  given_within x vs v given all there gives taken = omega (arith, had_within x (variables_view vs), ap (had g) there, gives, taken)

  -- what has as much in the place of what was there
  pub as_before : (x : Identifier) (v w : Variable) (vs : Variables) → lookup x vs ≡ Some w → g v ≡ g w → total g (assign x v vs) ≡ total g vs
  as_before x v w vs there same = omega (arith, assigned_total x v vs, ap (had g) there, same)

-- ---- what changes leave

pub begun_viewed : (zs : List ℤ) (w : Variable) → count_viewed (begun_with zs w) ≡ count_viewed w
begun_viewed zs (Scalar v) = refl
begun_viewed zs (LocalRef l r) = refl
begun_viewed zs (FieldHandle f) = refl
begun_viewed zs (MethodHandle m) = refl
begun_viewed zs (Elements T b) = refl
begun_viewed zs (LocalArray T ys) = refl

pub freed_copied : (w : Variable) → copied_length (freed w) ≡ 0
freed_copied (Scalar v) = refl
freed_copied (LocalRef l r) = refl
freed_copied (FieldHandle f) = refl
freed_copied (MethodHandle m) = refl
freed_copied (Elements T b) = refl
freed_copied (LocalArray T ys) = refl

pub freed_viewed : (w : Variable) → count_viewed (freed w) ≡ 0
freed_viewed (Scalar v) = refl
freed_viewed (LocalRef l r) = refl
freed_viewed (FieldHandle f) = refl
freed_viewed (MethodHandle m) = refl
freed_viewed (Elements T b) = refl
freed_viewed (LocalArray T ys) = refl

-- a variable that was written
pub record TakesAsMuch (v w : Variable) : Type 0 where
  pub copied : copied_length v ≡ copied_length w
  pub viewed : count_viewed v ≡ count_viewed w

pub written_takes : (i : ℕ) (z : ℤ) (w v : Variable) → written i z w ≡ Some v → TakesAsMuch v w
written_takes i z (Scalar u) v is = absurd (cc)
written_takes i z (LocalRef l r) v is = absurd (cc)
written_takes i z (FieldHandle f) v is = absurd (cc)
written_takes i z (MethodHandle m) v is = absurd (cc)
written_takes i z (Elements T NoBuffer) v is = absurd (cc)
written_takes i z (Elements T (View n)) v is = absurd (cc)
written_takes i z (Elements T (Copy n zs)) v is =
    let same : v ≡ Elements T (Copy n (slice_set zs i (convert T z))) = cc in
    record { copied = ap copied_length same ∙ length-set zs i (convert T z); viewed = ap count_viewed same }
written_takes i z (LocalArray T zs) v is =
    let same : v ≡ LocalArray T (slice_set zs i (convert T z)) = cc in record { copied = ap copied_length same; viewed = ap count_viewed same }

-- ---- what they take is known

module _ (old new : Contents) (u : BuffersInUse) (takes : Takes old u) where
  abbrev before : Variables
  before = variables_view old

  takes_same : total copied_length (variables_view new) ≡ total copied_length before → total count_viewed (variables_view new) ≡ total count_viewed before → Takes new u
  takes_same copied views = record { copied = takes.copied ∙ sym copied; views = takes.views ∙ sym views; within = takes.within; few = takes.few }

  -- a variable is set
  pub takes_set : (x : Identifier) (v : Variable) (given taken after : BuffersInUse) → variables_view new ≡ assign x v before
      → given.copied ≡ had copied_length (lookup x before) → given.views ≡ had count_viewed (lookup x before) → taken.copied ≡ copied_length v → taken.views ≡ count_viewed v
      → after.copied + given.copied ≡ u.copied + taken.copied → after.views + given.views ≡ u.views + taken.views → after.copied ≤ 65536 → after.views ≤ 64 → Takes new after
  takes_set x v given taken after is given_copied given_views taken_copied taken_views copied views within few = record {
    copied = omega (arith, ap (total copied_length) is, assigned_total copied_length x v before, takes.copied, given_copied, taken_copied, copied);
    views = omega (arith, ap (total count_viewed) is, assigned_total count_viewed x v before, takes.views, given_views, taken_views, views);
    within = within;
    few = few;
  }

  -- a variable is set that took as much
  pub takes_assigned : (x : Identifier) (v w : Variable) → lookup x before ≡ Some w → TakesAsMuch v w → variables_view new ≡ assign x v before → Takes new u
  takes_assigned x v w there as_much is =
      takes_same (ap (total copied_length) is ∙ as_before copied_length x v w before there as_much.copied) (ap (total count_viewed) is ∙ as_before count_viewed x v w before there as_much.viewed)

  -- a local array is begun
  pub takes_begun : (x : Identifier) (zs : List ℤ) → variables_view new ≡ change x (begun_with zs) before → Takes new u
  takes_begun x zs is =
      takes_same (ap (total copied_length) is ∙ changed_total copied_length (begun_with zs) (begun_length zs) x before)
      (ap (total count_viewed) is ∙ changed_total count_viewed (begun_with zs) (begun_viewed zs) x before)

  -- an element is written
  pub takes_written : (x : Identifier) (i : ℕ) (z : ℤ) (b : Written) → WritesElement before x i z b (variables_view new) → Takes new u
  takes_written x i z outcome.Done w = takes_assigned x w.after w.before w.there (written_takes i z w.before w.after w.is) w.set
  takes_written x i z (outcome.Object n y) w = takes_same (ap (total copied_length) w.same) (ap (total count_viewed) w.same)
  takes_written x i z outcome.Nothing w = takes_same (ap (total copied_length) w.1) (ap (total count_viewed) w.1)

  -- a buffer is given up
  pub takes_freed : (x : Identifier) (given : BuffersInUse) → variables_view new ≡ change x freed before → given.copied ≡ had copied_length (lookup x before) → given.views ≡ had count_viewed (lookup x before)
      → Takes new (record { copied = u.copied - given.copied; views = u.views - given.views })
  takes_freed x given is copied views = record {
    copied = omega (arith, ap (total copied_length) is, emptied_total copied_length freed freed_copied x before, takes.copied, copied);
    views = omega (arith, ap (total count_viewed) is, emptied_total count_viewed freed freed_viewed x before, takes.views, views);
    within = omega (arith, takes.within);
    few = omega (arith, takes.few);
  }

-- ---- what they show

-- what a place of a list adds to what comes after it
pub flat_map_next : {A : Type 0} (f : A → List ℕ) (xs : List A) (i : ℕ) (x : A) (names : List ℕ) → slice_get xs i ≡ Some x → names ++ f x ++ flat_map f (drop (i + 1) xs) ≡ names ++ flat_map f (drop i xs)
flat_map_next f [] i x names at = absurd (cc)
flat_map_next f (y ∷ xs) zero x names at =
    let same : y ≡ x = cc in
    append_assoc names (f x) (flat_map f xs) ∙ ap (λ (l : List ℕ). names ++ l) (ap (λ z. f z ++ flat_map f xs) (sym same) ∙ sym (flat_map-cons f y xs))
flat_map_next f (y ∷ xs) (suc i) x names at = let e : suc i + 1 ≡ suc (i + 1) = omega arith in rw e (flat_map_next f xs i x names at)

-- the objects of entries are those of the variables
pub viewed_same : (es : List (Bor Identifier × Content)) → flat_map viewed_by (map (λ (e : Bor Identifier × Content). e.1) es) ≡ flat_map (λ (v : Identifier × Variable). viewed v.1) (variables_view (by_name es))
viewed_same [] = refl
viewed_same (e ∷ es) =
    flat_map-cons viewed_by e.1 (map (λ (d : Bor Identifier × Content). d.1) es)
    ∙ ap (λ (l : List ℕ). viewed_by e.1 ++ l) (viewed_same es)
    ∙ sym (flat_map-cons (λ (v : Identifier × Variable). viewed v.1) (e.0.now, content_view e.1) (variables_view (by_name es)))
