-- A thread that is at a point is at the one that a null test makes of it, and at the one that the end of a block leads to.
use Rattle.std.proofs.Common.{◌≡◌, ◌≢◌, ℕ, arith, Bool, true, false, inl, inr, List, [], ◌∷◌, map, filter, length, Option, Some, None, refl, sym, ap, ◌∙◌, subst, if◌then◌else◌}
use Rattle.std.specs.Option.{option_map}
use Rattle.std.specs.Str.{bytes_eq}
use Rattle.base.specs.Bytes.{Identifier, lookup}
use Rattle.jni.specs.declared.access.Access.{Access}
use Rattle.region_rules.specs.RegionStates.{VariableState, RegionState, BufferState, Free, Untested, Usable, ReferenceAt, BufferIn, state_of, with_changed, made_free}
use Rattle.region_rules.specs.Regions.{made_usable}
use Rattle.semantics.specs.Sight.{variable_is_null, holds_null}
use Rattle.semantics.specs.Thread.{Frame}
use Rattle.semantics.specs.Value.{Gives}
use Rattle.semantics.specs.Variable.{Variable, Elements, Buffer, NoBuffer, Copy, View, StaticReference, Variables, Statics}
use Rattle.semantics_safety.specs.Owners.{Owners}
use Rattle.semantics_safety.specs.Points.{Point, owns, owners}
use Rattle.semantics_safety.specs.Stands.{IsOwned, Shows, BufferShows, Stands}
use Rattle.semantics_safety.specs.Wanted.{Closes, Holds, at}
use Rattle.semantics_safety.specs.WeakNames.{WeakNames}
use Rattle.semantics_safety.proofs.NameLaws.{one_or_other, known_same, known_other}
use Rattle.semantics_safety.proofs.SetLaws.{once_changed}

pub stands_after : {weak : WeakNames} {own : Owners} (ss : Statics) (vs : Variables) (frames : List Frame) (p q : Point) → Stands weak own ss vs frames p → Closes p q → Stands weak own ss vs frames q
stands_after ss vs frames p q stands closes = record {
  types = λ x s e. stands.types x s (closes.names x s e);
  kinds = λ x s e. stands.kinds x s (closes.names x s e);
  only = stands.only;
  shows = λ x v e. stands.shows x v (closes.known x v e);
  held = λ x u b e. elim (stands.held x u b e) [ inl none ↦ inl none | inr h ↦ inr (h.0, h.1, closes.held x h.0 h.1 h.2) ];
  once = stands.once;
  known_once = closes.once;
  depth = stands.depth ∙ closes.frames;
  backed = λ level n. let fewer = closes.owners vs level n in let enough = stands.backed level n in omega (arith, fewer, enough);
  owned = λ x level l n e h. stands.owned x level l n (closes.known x _ e) h;
}

-- ---- owners

owners_list : (vs : Variables) (level n : ℕ) (x : Identifier) (f : VariableState → VariableState) (known : List (Identifier × VariableState)) → ((y : Identifier) (v : VariableState) → owns vs level n (y, f v) ≡ owns vs level n (y, v))
    → length (filter (owns vs level n) (map (λ (v : Identifier × VariableState). (v.0, if bytes_eq x v.0 then f v.1 else v.1)) known)) ≡ length (filter (owns vs level n) known)
owners_list vs level n x f [] same = refl
owners_list vs level n x f ((y, v) ∷ known) same = by_test (bytes_eq x y) (owners_list vs level n x f known same)
  where
    rest : List (Identifier × VariableState)
    rest = map (λ (v : Identifier × VariableState). (v.0, if bytes_eq x v.0 then f v.1 else v.1)) known

    count : Bool → List (Identifier × VariableState) → ℕ
    count b l = length (if b then (y, v) ∷ l else l)

    one_more : (b : Bool) (e : Identifier × VariableState) (l m : List (Identifier × VariableState)) → length l ≡ length m → length (if b then e ∷ l else l) ≡ length (if b then (y, v) ∷ m else m)
    one_more true e l m h = rw h refl
    one_more false e l m h = h

    by_test : (b : Bool) → length (filter (owns vs level n) (map (λ (v : Identifier × VariableState). (v.0, if bytes_eq x v.0 then f v.1 else v.1)) known)) ≡ length (filter (owns vs level n) known)
        → length (filter (owns vs level n) ((y, (if b then f v else v)) ∷ map (λ (v : Identifier × VariableState). (v.0, if bytes_eq x v.0 then f v.1 else v.1)) known)) ≡ length (filter (owns vs level n) ((y, v) ∷ known))
    by_test true h =
        ap (λ (b : Bool). length (if b then (y, f v) ∷ filter (owns vs level n) (map (λ (v : Identifier × VariableState). (v.0, if bytes_eq x v.0 then f v.1 else v.1)) known) else filter (owns vs level n) (map (λ (v : Identifier × VariableState). (v.0, if bytes_eq x v.0 then f v.1 else v.1)) known))) (same y v)
        ∙ one_more (owns vs level n (y, v)) (y, f v) _ _ h
    by_test false h = one_more (owns vs level n (y, v)) (y, v) _ _ h

pub owners_kept : (vs : Variables) (level n : ℕ) (x : Identifier) (f : VariableState → VariableState) (regions : RegionState) → ((y : Identifier) (v : VariableState) → owns vs level n (y, f v) ≡ owns vs level n (y, v))
    → owners (with_changed regions x f) vs level n ≡ owners regions vs level n
owners_kept vs level n x f regions same = owners_list vs level n x f regions.variables same

pub free_owns : (vs : Variables) (level n : ℕ) (y : Identifier) (v : VariableState) → owns vs level n (y, made_free v) ≡ owns vs level n (y, v)
free_owns vs level n y (ReferenceAt l live) = refl
free_owns vs level n y (BufferIn b) = refl

usable_owns : (vs : Variables) (level n : ℕ) (y : Identifier) (v : VariableState) → owns vs level n (y, made_usable v) ≡ owns vs level n (y, v)
usable_owns vs level n y (ReferenceAt l live) = refl
usable_owns vs level n y (BufferIn Free) = refl
usable_owns vs level n y (BufferIn (Untested access a)) = refl
usable_owns vs level n y (BufferIn (Usable access a)) = refl

pub free_live : (w : VariableState) (level : ℕ) → made_free w ≡ ReferenceAt level true → w ≡ ReferenceAt level true
free_live (ReferenceAt l live) level e = e
free_live (BufferIn b) level e = absurd (cc)

usable_live : (w : VariableState) (level : ℕ) → made_usable w ≡ ReferenceAt level true → w ≡ ReferenceAt level true
usable_live (ReferenceAt l live) level e = e
usable_live (BufferIn Free) level e = absurd (cc)
usable_live (BufferIn (Untested access a)) level e = absurd (cc)
usable_live (BufferIn (Usable access a)) level e = absurd (cc)

-- ---- null tests

-- whether a buffer is there
is_null_buffer : (b : Buffer) (u : _) → variable_is_null (Elements u b) ≡ Gives true → b ≡ NoBuffer
is_null_buffer NoBuffer u e = refl
is_null_buffer (Copy n zs) u e = absurd (cc)
is_null_buffer (View n) u e = absurd (cc)

is_buffer : (b : Buffer) (u : _) → variable_is_null (Elements u b) ≡ Gives false → b ≢ NoBuffer
is_buffer NoBuffer u e h = absurd (cc)
is_buffer (Copy n zs) u e h = cc
is_buffer (View n) u e h = cc

pub mapped_some : (f : VariableState → VariableState) (o : Option VariableState) (v : VariableState) → option_map f o ≡ Some v → (w : VariableState) × (o ≡ Some w) × (f w ≡ v)
mapped_some f None v e = absurd (cc)
mapped_some f (Some w) v e = (w, refl, cc)

free_shows : (vs : Variables) (g : Option StaticReference) (o : Option Variable) (w : VariableState) → holds_null o g ≡ Gives true → Shows vs w o → Shows vs (made_free w) o
free_shows vs g o (ReferenceAt l live) e h = h
free_shows vs g o (BufferIn b) e h = (h.0, h.1, h.2, is_null_buffer h.1 h.0 (subst (λ (v : Option Variable). holds_null v g ≡ Gives true) h.2 e))

usable_buffer : (vs : Variables) (u : _) (b : Buffer) (known : BufferState) → b ≢ NoBuffer → BufferShows vs known b → Shows vs (made_usable (BufferIn known)) (Some (Elements u b))
usable_buffer vs u b Free other h = (u, b, refl, h)
usable_buffer vs u b (Untested access a) other (inl h) = absurd (other h)
usable_buffer vs u b (Untested access a) other (inr h) = (u, b, refl, h)
usable_buffer vs u b (Usable access a) other h = (u, b, refl, h)

usable_shows : (vs : Variables) (g : Option StaticReference) (o : Option Variable) (w : VariableState) → holds_null o g ≡ Gives false → Shows vs w o → Shows vs (made_usable w) o
usable_shows vs g o (ReferenceAt l live) e h = h
usable_shows vs g o (BufferIn known) e h =
    subst (Shows vs (made_usable (BufferIn known))) (sym h.2)
    (usable_buffer vs h.0 h.1 known (is_buffer h.1 h.0 (subst (λ (v : Option Variable). holds_null v g ≡ Gives false) h.2 e)) h.3)

module _ (ss : Statics) (vs : Variables) (frames : List Frame) (p : Point) {weak : WeakNames} {own : Owners} (stands : Stands weak own ss vs frames p) (x : Identifier) (g : Option StaticReference) where
  pub shows_changed : (f : VariableState → VariableState) → ((w : VariableState) → Shows vs w (lookup x vs) → Shows vs (f w) (lookup x vs)) → (y : Identifier) (v : VariableState) → state_of (with_changed p.regions x f) y ≡ Some v → Shows vs v (lookup y vs)
  shows_changed f own y v e = elim (one_or_other y x) [
    | inl same ↦
        let there : state_of (with_changed p.regions x f) x ≡ Some v = subst (λ (z : Identifier). state_of (with_changed p.regions x f) z ≡ Some v) same e in
        let was = mapped_some f (state_of p.regions x) v (sym (known_same p.regions x f) ∙ there) in
        subst (λ (z : Identifier). Shows vs v (lookup z vs)) (sym same) (subst (λ (w : VariableState). Shows vs w (lookup x vs)) was.2 (own was.0 (stands.shows x was.0 was.1)))
    | inr other ↦ stands.shows y v (sym (known_other p.regions x y f other) ∙ e)
  ]

  -- what a change leaves live was live
  pub owned_changed : (f : VariableState → VariableState) → ((w : VariableState) (level : ℕ) → f w ≡ ReferenceAt level true → w ≡ ReferenceAt level true) → IsOwned own vs (at p (with_changed p.regions x f))
  owned_changed f was_live y level l n e h = elim (one_or_other y x) [
    | inl same ↦
        let there : state_of (with_changed p.regions x f) x ≡ Some (ReferenceAt level true) = subst (λ (z : Identifier). state_of (with_changed p.regions x f) z ≡ Some (ReferenceAt level true)) same e in
        let was = mapped_some f (state_of p.regions x) (ReferenceAt level true) (sym (known_same p.regions x f) ∙ there) in
        let known : state_of p.regions x ≡ Some (ReferenceAt level true) = was.1 ∙ ap (λ (w : VariableState). Some w) (was_live was.0 level was.2) in
        stands.owned y level l n (subst (λ (z : Identifier). state_of p.regions z ≡ Some (ReferenceAt level true)) (sym same) known) h
    | inr other ↦ stands.owned y level l n (sym (known_other p.regions x y f other) ∙ e) h
  ]

  pub other_held : (f : VariableState → VariableState) (y : Identifier) (access : Access) (a : Identifier) → y ≢ x → Holds p y access a → Holds (at p (with_changed p.regions x f)) y access a
  other_held f y access a other (inl e) = inl (known_other p.regions x y f other ∙ e)
  other_held f y access a other (inr e) = inr (known_other p.regions x y f other ∙ e)

  usable_held : (access : Access) (a : Identifier) → Holds p x access a → Holds (at p (with_changed p.regions x made_usable)) x access a
  usable_held access a (inl e) = inr (known_same p.regions x made_usable ∙ ap (option_map made_usable) e)
  usable_held access a (inr e) = inr (known_same p.regions x made_usable ∙ ap (option_map made_usable) e)

  -- NULL was found
  pub stands_null : holds_null (lookup x vs) g ≡ Gives true → Stands weak own ss vs frames (at p (with_changed p.regions x made_free))
  stands_null e = record {
    types = stands.types;
    kinds = stands.kinds;
    only = stands.only;
    shows = shows_changed made_free (λ w h. free_shows vs g (lookup x vs) w e h);
    held = λ y u b h. elim (one_or_other y x) [
      | inl same ↦ inl (is_null_buffer b u (subst (λ (v : Option Variable). holds_null v g ≡ Gives true) (sym (ap (λ (z : Identifier). lookup z vs) same) ∙ h) e))
      | inr other ↦ elim (stands.held y u b h) [ inl none ↦ inl none | inr k ↦ inr (k.0, k.1, other_held made_free y k.0 k.1 other k.2) ]
    ];
    once = stands.once;
    known_once = once_changed (λ (y : Identifier) (old : VariableState). if bytes_eq x y then made_free old else old) p.regions.variables stands.known_once;
    depth = stands.depth;
    backed = λ level n. let same = owners_kept vs level n x made_free p.regions (free_owns vs level n) in let enough = stands.backed level n in omega (arith, same, enough);
    owned = owned_changed made_free free_live;
  }

  -- a buffer was found
  pub stands_usable : holds_null (lookup x vs) g ≡ Gives false → Stands weak own ss vs frames (at p (with_changed p.regions x made_usable))
  stands_usable e = record {
    types = stands.types;
    kinds = stands.kinds;
    only = stands.only;
    shows = shows_changed made_usable (λ w h. usable_shows vs g (lookup x vs) w e h);
    held = λ y u b h. elim (stands.held y u b h) [
      | inl none ↦ inl none
      | inr k ↦ elim (one_or_other y x) [
        | inl same ↦ inr (k.0, k.1, subst (λ (z : Identifier). Holds (at p (with_changed p.regions x made_usable)) z k.0 k.1) (sym same) (usable_held k.0 k.1 (subst (λ (z : Identifier). Holds p z k.0 k.1) same k.2)))
        | inr other ↦ inr (k.0, k.1, other_held made_usable y k.0 k.1 other k.2)
      ]
    ];
    once = stands.once;
    known_once = once_changed (λ (y : Identifier) (old : VariableState). if bytes_eq x y then made_usable old else old) p.regions.variables stands.known_once;
    depth = stands.depth;
    backed = λ level n. let same = owners_kept vs level n x made_usable p.regions (usable_owns vs level n) in let enough = stands.backed level n in omega (arith, same, enough);
    owned = owned_changed made_usable usable_live;
  }
