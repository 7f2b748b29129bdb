-- A thread is at the point where one reference more is known to be dead.
use Rattle.std.proofs.Common.{◌≡◌, ℕ, ◌+◌, ◌≤◌, arith, Bool, true, false, ◌&&◌, ◌⊎◌, inl, inr, List, [], ◌∷◌, map, filter, length, Option, Some, None, refl, sym, ap, ◌∙◌, subst, if◌then◌else◌}
use Rattle.std.specs.Prelude.{◌==◌}
use Rattle.std.specs.Option.{option_map}
use Rattle.std.specs.Str.{bytes_eq}
use Rattle.std.proofs.lemmas.Slice.Eq.{bytes_eq-Decides}
use Rattle.base.specs.Bytes.{Identifier, ByName, lookup}
use Rattle.jni.specs.declared.access.Access.{Access}
use Rattle.region_rules.specs.RegionStates.{VariableState, ReferenceAt, BufferIn, with_changed, killed, state_of}
use Rattle.semantics.specs.Thread.{Frame}
use Rattle.semantics.specs.Variable.{Variable, LocalRef, Variables, Statics}
use Rattle.semantics_safety.specs.Owners.{Owners}
use Rattle.semantics_safety.specs.Points.{Point, is_copy, owns, owners}
use Rattle.semantics_safety.specs.StepSafe.{references_at}
use Rattle.semantics_safety.specs.Stands.{IsOwned, Shows, copies, Stands}
use Rattle.semantics_safety.specs.Wanted.{Holds, at}
use Rattle.semantics_safety.specs.WeakNames.{WeakNames}
use Rattle.semantics_safety.proofs.FrameLaws.{one_if, counted_here}
use Rattle.semantics_safety.proofs.NameLaws.{one_or_other, known_same}
use Rattle.semantics_safety.proofs.PointLaws.{owned_changed, shows_changed, mapped_some, other_held}
use Rattle.semantics_safety.proofs.SetLaws.{once_changed}

-- the values with one of them dead
abbrev dead_in : Identifier → ByName VariableState → ByName VariableState
dead_in x known = map (λ (v : Identifier × VariableState). (v.0, if bytes_eq x v.0 then killed v.1 else v.1)) known

module _ (vs : Variables) (x : Identifier) (l m : ℕ) where
  dead_owns : (y : Identifier) (v : VariableState) → one_if (owns vs l m (y, killed v)) ≡ 0
  dead_owns y (ReferenceAt level live) = refl
  dead_owns y (BufferIn b) = refl

  pub fewer : (known : ByName VariableState) → length (filter (owns vs l m) (dead_in x known)) ≤ length (filter (owns vs l m) known)
  fewer [] = omega arith
  fewer ((y, v) ∷ known) = by_test (bytes_eq x y) (fewer known)
    where
      by_test : (b : Bool) → length (filter (owns vs l m) (dead_in x known)) ≤ length (filter (owns vs l m) known)
          → length (filter (owns vs l m) ((y, if b then killed v else v) ∷ dead_in x known)) ≤ length (filter (owns vs l m) ((y, v) ∷ known))
      by_test true later =
          let none = dead_owns y v in
          let new = counted_here (owns vs l m (y, killed v)) (y, killed v) (filter (owns vs l m) (dead_in x known)) in
          let old = counted_here (owns vs l m (y, v)) (y, v) (filter (owns vs l m) known) in
          omega (arith, none, new, old, later)
      by_test false later =
          let new = counted_here (owns vs l m (y, v)) (y, v) (filter (owns vs l m) (dead_in x known)) in
          let old = counted_here (owns vs l m (y, v)) (y, v) (filter (owns vs l m) known) in
          omega (arith, new, old, later)

  first_or_later : (b : Bool) (v : VariableState) (o : Option VariableState) (w : VariableState) → (if b then Some v else o) ≡ Some w → ((b ≡ true) × (v ≡ w)) ⊎ ((b ≡ false) × (o ≡ Some w))
  first_or_later true v o w e = inl (refl, cc)
  first_or_later false v o w e = inr (refl, e)

  -- a live one that is known dead owns nothing more
  pub killed_owners : (level n : ℕ) (known : ByName VariableState) → lookup x known ≡ Some (ReferenceAt level true) → lookup x vs ≡ Some (LocalRef level (Some n))
      → length (filter (owns vs l m) (dead_in x known)) + one_if (level == l && n == m) ≤ length (filter (owns vs l m) known)
  killed_owners level n [] e h = absurd (cc)
  killed_owners level n ((y, v) ∷ known) e h = elim (first_or_later (bytes_eq x y) v (lookup x known) (ReferenceAt level true) e) [
    | inl (same, is) ↦ by_test (bytes_eq x y) same is refl
    | inr (away, later) ↦ by_other (bytes_eq x y) away (killed_owners level n known later h)
  ]
    where
      own : x ≡ y → v ≡ ReferenceAt level true → owns vs l m (y, v) ≡ (level == l && n == m)
      own name is = subst (λ (z : Identifier). owns vs l m (z, v) ≡ (level == l && n == m)) name (subst (λ (w : VariableState). owns vs l m (x, w) ≡ (level == l && n == m)) (sym is) (ap (is_copy l m) h))

      by_test : (b : Bool) → b ≡ true → v ≡ ReferenceAt level true → bytes_eq x y ≡ b
          → length (filter (owns vs l m) ((y, if b then killed v else v) ∷ dead_in x known)) + one_if (level == l && n == m) ≤ length (filter (owns vs l m) ((y, v) ∷ known))
      by_test true e is same =
          let none = dead_owns y v in
          let new = counted_here (owns vs l m (y, killed v)) (y, killed v) (filter (owns vs l m) (dead_in x known)) in
          let old = counted_here (owns vs l m (y, v)) (y, v) (filter (owns vs l m) known) in
          let here = ap one_if (own ((bytes_eq-Decides x y).0 same) is) in
          let less = fewer known in
          omega (arith, none, new, old, here, less)
      by_test false e is same = absurd (cc)

      by_other : (b : Bool) → b ≡ false → length (filter (owns vs l m) (dead_in x known)) + one_if (level == l && n == m) ≤ length (filter (owns vs l m) known)
          → length (filter (owns vs l m) ((y, if b then killed v else v) ∷ dead_in x known)) + one_if (level == l && n == m) ≤ length (filter (owns vs l m) ((y, v) ∷ known))
      by_other true e later = absurd (cc)
      by_other false e later =
          let new = counted_here (owns vs l m (y, v)) (y, v) (filter (owns vs l m) (dead_in x known)) in
          let old = counted_here (owns vs l m (y, v)) (y, v) (filter (owns vs l m) known) in
          omega (arith, new, old, later)

killed_never : (w : VariableState) (level : ℕ) → killed w ≡ ReferenceAt level true → ⊥
killed_never (ReferenceAt l live) level e = cc
killed_never (BufferIn b) level e = cc

pub killed_live : (w : VariableState) (level : ℕ) → killed w ≡ ReferenceAt level true → w ≡ ReferenceAt level true
killed_live (ReferenceAt l live) level e = absurd (cc)
killed_live (BufferIn b) level e = absurd (cc)

-- what a dead reference shows
pub killed_shows : (vs : Variables) (w : VariableState) (o : Option Variable) → Shows vs w o → Shows vs (killed w) o
killed_shows vs (ReferenceAt level live) o h = h
killed_shows vs (BufferIn b) o h = h

module _ (ss : Statics) (vs : Variables) (frames : List Frame) (p : Point) {weak : WeakNames} {own : Owners} (stands : Stands weak own ss vs frames p) (x : Identifier) where
  -- its own reference may go
  pub killed_owned : IsOwned (λ y. if bytes_eq y x then None else own y) vs (at p (with_changed p.regions x killed))
  killed_owned y level l n e h = by_test (bytes_eq y x) refl
    where
      by_test : (b : Bool) → bytes_eq y x ≡ b → (if b then None else own y) ≡ Some l
      by_test true is =
          let there : state_of (with_changed p.regions x killed) x ≡ Some (ReferenceAt level true) = subst (λ (z : Identifier). state_of (with_changed p.regions x killed) z ≡ Some (ReferenceAt level true)) ((bytes_eq-Decides y x).0 is) e in
          let was = mapped_some killed (state_of p.regions x) (ReferenceAt level true) (sym (known_same p.regions x killed) ∙ there) in
          absurd (killed_never was.0 level was.2)
      by_test false is = owned_changed ss vs frames p stands x None killed killed_live y level l n e h

  here_held : (access : Access) (a : Identifier) → Holds p x access a → Holds (at p (with_changed p.regions x killed)) x access a
  here_held access a (inl e) = inl (known_same p.regions x killed ∙ ap (option_map killed) e)
  here_held access a (inr e) = inr (known_same p.regions x killed ∙ ap (option_map killed) e)

  -- in frames that have enough
  pub stands_killed : (after : List Frame) → length after ≡ length frames → ((level m : ℕ) → owners (with_changed p.regions x killed) vs level m ≤ copies (references_at level after) m) → Stands weak own ss vs after (at p (with_changed p.regions x killed))
  stands_killed after depth backed = record {
    types = stands.types;
    kinds = stands.kinds;
    only = stands.only;
    shows = shows_changed ss vs frames p stands x None killed (λ w h. killed_shows vs w (lookup x vs) h);
    held = λ y u b h. elim (stands.held y u b h) [
      | inl none ↦ inl none
      | inr k ↦ elim (one_or_other y x) [
        | inl same ↦ inr (k.0, k.1, subst (λ (z : Identifier). Holds (at p (with_changed p.regions x killed)) z k.0 k.1) (sym same) (here_held k.0 k.1 (subst (λ (z : Identifier). Holds p z k.0 k.1) same k.2)))
        | inr other ↦ inr (k.0, k.1, other_held ss vs frames p stands x None killed y k.0 k.1 other k.2)
      ]
    ];
    once = stands.once;
    known_once = once_changed (λ (y : Identifier) (old : VariableState). if bytes_eq x y then killed old else old) p.regions.variables stands.known_once;
    depth = depth ∙ stands.depth;
    backed = backed;
    owned = owned_changed ss vs frames p stands x None killed killed_live;
  }
