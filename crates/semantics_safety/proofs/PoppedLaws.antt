-- A thread is at the point after its current frame is popped, and at the one after a frame is pushed.
use Rattle.std.proofs.Common.{◌≡◌, ℕ, ◌+◌, ◌-◌, ◌≤◌, arith, Bool, true, false, ◌&&◌, inl, inr, List, [], ◌∷◌, map, filter, length, Option, Some, None, refl, sym, ap, ◌∙◌, subst, if◌then◌else◌}
use Rattle.std.specs.Prelude.{◌==◌, nat_lt, drop}
use Rattle.std.specs.Option.{option_map}
use Rattle.std.specs.Str.{bytes_eq}
use Rattle.std.proofs.Math.Bool.{and-false}
use Rattle.std.proofs.lemmas.Bool.{and_parts, le-ltb}
use Rattle.std.proofs.lemmas.Bool.Decides.{Decides-eqb, nat_tests}
use Rattle.base.specs.Bytes.{Identifier, ByName, lookup}
use Rattle.jni.specs.declared.access.Access.{Access}
use Rattle.region_rules.specs.RegionStates.{VariableState, ReferenceAt, BufferIn, state_of, killed_from, after_pop}
use Rattle.semantics.specs.Object.{Reference}
use Rattle.semantics.specs.Thread.{Frame}
use Rattle.semantics.specs.Variable.{Variable, LocalRef, Variables, Statics}
use Rattle.semantics_safety.specs.Owners.{Owners, other_than}
use Rattle.semantics_safety.specs.Points.{Point, AreOnce, is_copy, owns, owners}
use Rattle.semantics_safety.specs.StepSafe.{references_at}
use Rattle.semantics_safety.specs.Stands.{IsOwned, Shows, copies, Stands}
use Rattle.semantics_safety.specs.Wanted.{Holds, at}
use Rattle.semantics_safety.specs.WeakNames.{WeakNames}
use Rattle.semantics_safety.proofs.FrameLaws.{one_if, counted_here, level_there, pushed_references, copies_pushed}
use Rattle.semantics_safety.proofs.NameLaws.{front_same, front_other}
use Rattle.semantics_safety.proofs.PointLaws.{mapped_some}
use Rattle.semantics_safety.proofs.SetLaws.{none_some, once_changed}

-- ---- what is known after it

-- the values, without the references of the ended levels
abbrev left_below : ℕ → ByName VariableState → ByName VariableState
left_below top known = map (λ (v : Identifier × VariableState). (v.0, killed_from top v.1)) known

each_known : (top : ℕ) (y : Identifier) (known : ByName VariableState) → lookup y (left_below top known) ≡ option_map (killed_from top) (lookup y known)
each_known top y [] = refl
each_known top y ((z, v) ∷ known) = by_test (bytes_eq y z) (each_known top y known)
  where
    by_test : (b : Bool) → lookup y (left_below top known) ≡ option_map (killed_from top) (lookup y known) → (if b then Some (killed_from top v) else lookup y (left_below top known)) ≡ option_map (killed_from top) (if b then Some v else lookup y known)
    by_test true later = refl
    by_test false later = later

popped_shows : (vs : Variables) (top : ℕ) (w : VariableState) (o : Option Variable) → Shows vs w o → Shows vs (killed_from top w) o
popped_shows vs top (ReferenceAt level live) o h = h
popped_shows vs top (BufferIn b) o h = h

-- ---- owners

fewer_and : (a b c : Bool) → one_if ((a && b) && c) ≤ one_if (a && c)
fewer_and true true c = omega arith
fewer_and true false c = omega arith
fewer_and false b c = omega arith

module _ (vs : Variables) (top level m : ℕ) where
  popped_one : (y : Identifier) (v : VariableState) → one_if (owns vs level m (y, killed_from top v)) ≤ one_if (owns vs level m (y, v))
  popped_one y (ReferenceAt l live) = fewer_and live (nat_lt l top) (is_copy level m (lookup y vs))
  popped_one y (BufferIn b) = omega arith

  pub popped_fewer : (known : ByName VariableState) → length (filter (owns vs level m) (left_below top known)) ≤ length (filter (owns vs level m) known)
  popped_fewer [] = omega arith
  popped_fewer ((y, v) ∷ known) =
      let new = counted_here (owns vs level m (y, killed_from top v)) (y, killed_from top v) (filter (owns vs level m) (left_below top known)) in
      let old = counted_here (owns vs level m (y, v)) (y, v) (filter (owns vs level m) known) in
      let one = popped_one y v in
      let later = popped_fewer known in
      omega (arith, new, old, one, later)

  -- a reference of an ended level owns nothing
  none_here : top ≤ level → (l : ℕ) (live : Bool) (r : Reference) → ((live && nat_lt l top) && is_copy level m (Some (LocalRef l r))) ≡ false
  none_here past l live None = and-false (live && nat_lt l top)
  none_here past l live (Some n) = by_test (l == level) refl
    where
      by_test : (b : Bool) → (l == level) ≡ b → ((live && nat_lt l top) && (b && n == m)) ≡ false
      by_test true e =
          let same : l ≡ level = (Decides-eqb l level).0 e in
          let over : nat_lt l top ≡ false = le-ltb l top (omega (arith, same, past)) in
          ap (λ (b : Bool). (live && b) && (n == m)) over ∙ ap (λ (b : Bool). b && (n == m)) (and-false live)
      by_test false e = and-false (live && nat_lt l top)

  popped_none : top ≤ level → (y : Identifier) (v : VariableState) → Shows vs v (lookup y vs) → one_if (owns vs level m (y, killed_from top v)) ≡ 0
  popped_none past y (ReferenceAt l live) (r, e) =
      ap one_if (ap (λ (o : Option Variable). (live && nat_lt l top) && is_copy level m o) e ∙ none_here past l live r)
  popped_none past y (BufferIn b) h = refl

  pub popped_owners : top ≤ level → (known : ByName VariableState) → AreOnce known → ((y : Identifier) (v : VariableState) → lookup y known ≡ Some v → Shows vs v (lookup y vs)) → length (filter (owns vs level m) (left_below top known)) ≡ 0
  popped_owners past [] once shown = refl
  popped_owners past ((y, v) ∷ known) once shown =
      let new = counted_here (owns vs level m (y, killed_from top v)) (y, killed_from top v) (filter (owns vs level m) (left_below top known)) in
      let one = popped_none past y v (shown y v (front_same y v known)) in
      let later = popped_owners past known once.1 (λ z w e. shown z w (front_other y z v known (λ same. none_some (lookup y known) w once.0 (subst (λ (i : Identifier). lookup i known ≡ Some w) same e)) ∙ e)) in
      omega (arith, new, one, later)

-- ---- the points

module _ (ss : Statics) (vs : Variables) (frames : List Frame) (p : Point) {weak : WeakNames} {own : Owners} (stands : Stands weak own ss vs frames p) where
  shows_left : (y : Identifier) (v : VariableState) → lookup y (left_below p.regions.frames p.regions.variables) ≡ Some v → Shows vs v (lookup y vs)
  shows_left y v e =
      let was = mapped_some (killed_from p.regions.frames) (state_of p.regions y) v (sym (each_known p.regions.frames y p.regions.variables) ∙ e) in
      subst (λ (w : VariableState). Shows vs w (lookup y vs)) was.2 (popped_shows vs p.regions.frames was.0 (lookup y vs) (stands.shows y was.0 was.1))

  held_left : (y : Identifier) (access : Access) (a : Identifier) → Holds p y access a → Holds (at p (after_pop p.regions)) y access a
  held_left y access a (inl e) = inl (each_known p.regions.frames y p.regions.variables ∙ ap (option_map (killed_from p.regions.frames)) e)
  held_left y access a (inr e) = inr (each_known p.regions.frames y p.regions.variables ∙ ap (option_map (killed_from p.regions.frames)) e)

  depth_left : (fs : List Frame) → length fs ≡ p.regions.frames → length (drop 1 fs) ≡ p.regions.frames - 1
  depth_left [] e = omega (arith, e)
  depth_left (frame ∷ below) e = omega (arith, e)

  backed_left : (fs : List Frame) (level m : ℕ) → length fs ≡ p.regions.frames → owners p.regions vs level m ≤ copies (references_at level fs) m
      → length (filter (owns vs level m) (left_below p.regions.frames p.regions.variables)) ≤ copies (references_at level (drop 1 fs)) m
  backed_left [] level m e enough = let fewer = popped_fewer vs p.regions.frames level m p.regions.variables in omega (arith, fewer, enough)
  backed_left (frame ∷ below) level m e enough = elim (level_there level below) [
    | inl h ↦
        let fewer = popped_fewer vs p.regions.frames level m p.regions.variables in
        let same = ap (λ (l : List ℕ). copies l m) (pushed_references level frame below h) in
        omega (arith, fewer, enough, same)
    | inr h ↦
        let none = popped_owners vs p.regions.frames level m (omega (arith, e, h)) p.regions.variables stands.known_once stands.shows in
        omega (arith, none)
  ]

  -- what is live after the frame was live, and of a level below
  live_value : (w : VariableState) (level : ℕ) → killed_from p.regions.frames w ≡ ReferenceAt level true → (w ≡ ReferenceAt level true) × (nat_lt level p.regions.frames ≡ true)
  live_value (ReferenceAt l live) level e =
      let same : l ≡ level = cc in
      let both : (live && nat_lt l p.regions.frames) ≡ true = cc in
      let each = and_parts live (nat_lt l p.regions.frames) both in
      (ap (λ (b : Bool). ReferenceAt l b) each.0 ∙ ap (λ (m : ℕ). ReferenceAt m true) same, sym (ap (λ (m : ℕ). nat_lt m p.regions.frames) same) ∙ each.1)
  live_value (BufferIn b) level e = absurd (cc)

  left_live : (y : Identifier) (level : ℕ) → state_of (after_pop p.regions) y ≡ Some (ReferenceAt level true) → (state_of p.regions y ≡ Some (ReferenceAt level true)) × (nat_lt level p.regions.frames ≡ true)
  left_live y level e =
      let was = mapped_some (killed_from p.regions.frames) (state_of p.regions y) (ReferenceAt level true) (sym (each_known p.regions.frames y p.regions.variables) ∙ e) in
      let is = live_value was.0 level was.2 in
      (was.1 ∙ ap (λ (w : VariableState). Some w) is.0, is.1)

  -- the owners of its level may go
  pub popped_owned : IsOwned (λ y. other_than (length frames) (own y)) vs (at p (after_pop p.regions))
  popped_owned y level l n e h =
      let left = left_live y level e in
      let shown = stands.shows y _ left.0 in
      let both : Some (LocalRef level shown.0) ≡ Some (LocalRef l (Some n)) = sym shown.1 ∙ h in
      let same : level ≡ l = cc in
      let below : nat_lt level p.regions.frames ≡ true = left.1 in
      let depth = stands.depth in
      let other : (l == length frames) ≡ false = grind (arith, nat_tests, same, below, depth) in
      ap (other_than (length frames)) (stands.owned y level l n left.0 h) ∙ ap (λ (b : Bool). if b then None else Some l) other

  -- after the current frame
  pub stands_popped : Stands weak own ss vs (drop 1 frames) (at p (after_pop p.regions))
  stands_popped = record {
    types = stands.types;
    kinds = stands.kinds;
    only = stands.only;
    shows = shows_left;
    held = λ y u b h. elim (stands.held y u b h) [ inl none ↦ inl none | inr k ↦ inr (k.0, k.1, held_left y k.0 k.1 k.2) ];
    once = stands.once;
    known_once = once_changed (λ (y : Identifier) (old : VariableState). killed_from p.regions.frames old) p.regions.variables stands.known_once;
    depth = depth_left frames stands.depth;
    backed = λ level m. backed_left frames level m stands.depth (stands.backed level m);
    owned = λ y level l n e h. stands.owned y level l n ((left_live y level e).0) h;
  }

  -- in a new frame
  pub stands_pushed : (new : Frame) → Stands weak own ss vs (new ∷ frames) (at p (record p.regions { frames = p.regions.frames + 1 }))
  stands_pushed new = record {
    types = stands.types;
    kinds = stands.kinds;
    only = stands.only;
    shows = stands.shows;
    held = stands.held;
    once = stands.once;
    known_once = stands.known_once;
    depth = let here = stands.depth in omega (arith, here);
    backed = λ level m. let more = copies_pushed level m new frames in let enough = stands.backed level m in omega (arith, more, enough);
    owned = stands.owned;
  }
