-- What is known at each point of a function by the rules alone: it stays so as states change, with new names, and at the end of a block.
use Rattle.std.proofs.Common.{◌≡◌, ◌≢◌, ℕ, ◌≤◌, arith, ◌⊎◌, inl, inr, Bool, true, false, not, ◌||◌, List, [], ◌∷◌, ◌++◌, map, filter, length, Option, Some, None, refl, sym, ap, ◌∙◌, subst, if◌then◌else◌}
use Rattle.std.specs.List.{list_any}
use Rattle.std.specs.Option.{option_map}
use Rattle.std.specs.Str.{bytes_eq}
use Rattle.std.proofs.lemmas.List.Folds.{list_any-append}
use Rattle.std.proofs.lemmas.Slice.Eq.{bytes_eq-Decides}
use Rattle.base.specs.Bytes.{Identifier, ByName, lookup}
use Rattle.base.specs.declared.element.ElementType.{ElementType}
use Rattle.jni.specs.declared.access.Access.{Access}
use Rattle.type_rules.specs.declared.ty.ExprType.{ExprType}
use Rattle.type_rules.specs.declared.ty.ExprType.TheVariants.{Ref, Truth, Buffer}
use Rattle.type_rules.specs.ExprTypes.{type_in}
use Rattle.type_rules.specs.TypeRules.{has_name}
use Rattle.type_rules.proofs.NameLists.{has_last}
use Rattle.region_rules.specs.RegionRules.{is_held}
use Rattle.region_rules.specs.RegionStates.{VariableState, BufferState, Free, Untested, Usable, ReferenceAt, BufferIn, RegionState, state_of, held_by, with_new}
use Rattle.region_rules.specs.Regions.{has_variable, left, holds_own}
use Rattle.semantics_safety.specs.Points.{Point, AreOnce, owns}
use Rattle.semantics_safety.specs.Wanted.{Holds, Closes, IsNew, at, named}
use Rattle.semantics_safety.proofs.ExpressionFits.{AreStated}
use Rattle.semantics_safety.proofs.NameLaws.{one_or_other, front_same, front_other}
use Rattle.semantics_safety.proofs.SetLaws.{once_changed}
use Rattle.semantics_safety.proofs.PointLaws.{mapped_some}

-- the types with a state
abbrev pub HasState : ExprType → Type 0
HasState Ref = Unit {0}
HasState (Buffer t writable) = Unit {0}
HasState s = ⊥

-- what is known at a point, after the names that were taken
pub record IsKnown (p : Point) (taken : List Identifier) : Type 0 where
  pub stated : AreStated p
  pub named_taken : (x : Identifier) (s : ExprType) → type_in p.names x ≡ Some s → has_name taken x ≡ true
  pub known_taken : (x : Identifier) (v : VariableState) → state_of p.regions x ≡ Some v → has_name taken x ≡ true
  pub arrays_taken : (x : Identifier) (access : Access) (a : Identifier) → Holds p x access a → has_name taken a ≡ true
  pub stateful : (x : Identifier) (v : VariableState) → state_of p.regions x ≡ Some v → (s : ExprType) × (type_in p.names x ≡ Some s) × HasState s
  pub framed : 1 ≤ p.regions.frames
  pub once : AreOnce p.regions.variables

-- each name of the first list is in the other
abbrev pub Covers : (taken more : List Identifier) → Type 0
Covers taken more = (x : Identifier) → has_name taken x ≡ true → has_name more x ≡ true

pub known_more : (p : Point) (taken more : List Identifier) → Covers taken more → IsKnown p taken → IsKnown p more
known_more p taken more covers k = record {
  stated = k.stated;
  named_taken = λ x s e. covers x (k.named_taken x s e);
  known_taken = λ x v e. covers x (k.known_taken x v e);
  arrays_taken = λ x access a h. covers a (k.arrays_taken x access a h);
  stateful = k.stateful;
  framed = k.framed;
  once = k.once;
}

-- ---- held buffers

pub holds_of : (p : Point) (x : Identifier) (b : BufferState) (access : Access) (a : Identifier) → state_of p.regions x ≡ Some (BufferIn b) → held_by b ≡ Some (access, a) → Holds p x access a
holds_of p x Free access a e h = absurd (cc)
holds_of p x (Untested own array) access a e h = inl (let pair : (own, array) ≡ (access, a) = cc in let one : own ≡ access = ap (λ (w : Access × Identifier). w.0) pair in let two : array ≡ a = ap (λ (w : Access × Identifier). w.1) pair in e ∙ ap (λ (c : Access). Some (BufferIn (Untested c array))) one ∙ ap (λ (y : Identifier). Some (BufferIn (Untested access y))) two)
holds_of p x (Usable own array) access a e h = inr (let pair : (own, array) ≡ (access, a) = cc in let one : own ≡ access = ap (λ (w : Access × Identifier). w.0) pair in let two : array ≡ a = ap (λ (w : Access × Identifier). w.1) pair in e ∙ ap (λ (c : Access). Some (BufferIn (Usable c array))) one ∙ ap (λ (y : Identifier). Some (BufferIn (Usable access y))) two)

pub held_of : (p : Point) (x : Identifier) (access : Access) (a : Identifier) → Holds p x access a → (b : BufferState) × (state_of p.regions x ≡ Some (BufferIn b)) × (held_by b ≡ Some (access, a))
held_of p x access a (inl h) = (Untested access a, h, refl)
held_of p x access a (inr h) = (Usable access a, h, refl)

-- ---- states change

-- a reference stays one, and a buffer too, of an array that was taken
abbrev pub Kin : List Identifier → VariableState → VariableState → Type 0
Kin taken (ReferenceAt l a) (ReferenceAt m b) = Unit {0}
Kin taken (BufferIn b) (BufferIn c) = (access : Access) (a : Identifier) → held_by c ≡ Some (access, a) → has_name taken a ≡ true
Kin taken u v = ⊥

kin_reference : (taken : List Identifier) (l : ℕ) (a : Bool) (v : VariableState) → Kin taken (ReferenceAt l a) v → (level : ℕ) × (live : Bool) × (v ≡ ReferenceAt level live)
kin_reference taken l a (ReferenceAt m b) h = (m, b, refl)
kin_reference taken l a (BufferIn b) h = absurd h

kin_buffer : (taken : List Identifier) (b : BufferState) (v : VariableState) → Kin taken (BufferIn b) v → (c : BufferState) × (v ≡ BufferIn c)
kin_buffer taken b (BufferIn c) h = (c, refl)
kin_buffer taken b (ReferenceAt m c) h = absurd h

kin_array : (taken : List Identifier) (u : VariableState) (c : BufferState) (access : Access) (a : Identifier) → Kin taken u (BufferIn c) → held_by c ≡ Some (access, a) → has_name taken a ≡ true
kin_array taken (BufferIn b) c access a h e = h access a e
kin_array taken (ReferenceAt l b) c access a h e = absurd h

pub kin_same : (p : Point) (taken : List Identifier) → IsKnown p taken → (x : Identifier) (u : VariableState) → state_of p.regions x ≡ Some u → Kin taken u u
kin_same p taken k x (ReferenceAt l a) e = tt
kin_same p taken k x (BufferIn b) e = λ access a h. k.arrays_taken x access a (holds_of p x b access a e h)

pub each_found : (change : Identifier → VariableState → VariableState) (x : Identifier) (vs : ByName VariableState) → lookup x (map (λ (v : Identifier × VariableState). (v.0, change v.0 v.1)) vs) ≡ option_map (change x) (lookup x vs)
each_found change x [] = refl
each_found change x ((y, v) ∷ vs) = by_test (bytes_eq x y) refl (each_found change x vs)
  where
    by_test : (b : Bool) → bytes_eq x y ≡ b → lookup x (map (λ (v : Identifier × VariableState). (v.0, change v.0 v.1)) vs) ≡ option_map (change x) (lookup x vs)
        → (if b then Some (change y v) else lookup x (map (λ (v : Identifier × VariableState). (v.0, change v.0 v.1)) vs)) ≡ option_map (change x) (if b then Some v else lookup x vs)
    by_test true e later = ap (λ (z : Identifier). Some (change z v)) (sym ((bytes_eq-Decides x y).0 e))
    by_test false e later = later

module _ (p : Point) (taken : List Identifier) (k : IsKnown p taken) (change : Identifier → VariableState → VariableState) (frames : ℕ) (some : 1 ≤ frames) (kin : (x : Identifier) (u : VariableState) → state_of p.regions x ≡ Some u → Kin taken u (change x u)) where
  abbrev pub changed_state : RegionState
  changed_state = record { variables = map (λ (v : Identifier × VariableState). (v.0, change v.0 v.1)) p.regions.variables; frames = frames }

  changed_at : (x : Identifier) (u : VariableState) → state_of p.regions x ≡ Some u → state_of changed_state x ≡ Some (change x u)
  changed_at x u e = each_found change x p.regions.variables ∙ ap (option_map (change x)) e

  changed_from : (x : Identifier) (v : VariableState) → state_of changed_state x ≡ Some v → (u : VariableState) × (state_of p.regions x ≡ Some u) × (change x u ≡ v)
  changed_from x v e = mapped_some (change x) (state_of p.regions x) v (sym (each_found change x p.regions.variables) ∙ e)

  -- what is known where each state has changed
  pub known_changed : IsKnown (at p changed_state) taken
  known_changed = record {
    stated = record {
      no_truth = k.stated.no_truth;
      reference = λ x e.
          let old = k.stated.reference x e in
          let new = kin_reference taken old.0 old.1 (change x (ReferenceAt old.0 old.1)) (kin x (ReferenceAt old.0 old.1) old.2) in
          (new.0, new.1, changed_at x (ReferenceAt old.0 old.1) old.2 ∙ ap (λ (v : VariableState). Some v) new.2);
      buffer = λ x t writable e.
          let old = k.stated.buffer x t writable e in
          let new = kin_buffer taken old.0 (change x (BufferIn old.0)) (kin x (BufferIn old.0) old.1) in
          (new.0, changed_at x (BufferIn old.0) old.1 ∙ ap (λ (v : VariableState). Some v) new.1);
    };
    named_taken = k.named_taken;
    known_taken = λ x v e. let old = changed_from x v e in k.known_taken x old.0 old.1;
    arrays_taken = λ x access a h.
        let held = held_of (at p changed_state) x access a h in
        let old = changed_from x (BufferIn held.0) held.1 in
        kin_array taken old.0 held.0 access a (subst (Kin taken old.0) old.2 (kin x old.0 old.1)) held.2;
    stateful = λ x v e. let old = changed_from x v e in k.stateful x old.0 old.1;
    framed = some;
    once = once_changed change p.regions.variables k.once;
  }

-- ---- a new name

apart_names : (taken : List Identifier) (x y : Identifier) → has_name taken x ≡ false → has_name taken y ≡ true → y ≢ x
apart_names taken x y h g e = let there : has_name taken x ≡ true = subst (λ (z : Identifier). has_name taken z ≡ true) e g in let c : true ≡ false = sym there ∙ h in cc

in_front : (taken more : List Identifier) (x : Identifier) → has_name taken x ≡ true → has_name (taken ++ more) x ≡ true
in_front taken more x h = list_any-append (bytes_eq x) taken more ∙ ap (λ (b : Bool). b || has_name more x) h

none_at : {A : Type 0} (taken : List Identifier) (x : Identifier) (o : Option A) → ((v : A) → o ≡ Some v → has_name taken x ≡ true) → has_name taken x ≡ false → o ≡ None
none_at taken x None h new = refl
none_at taken x (Some v) h new = absurd (let c : true ≡ false = sym (h v refl) ∙ new in cc)

-- a name that isn't taken is new
pub is_new : (p : Point) (taken : List Identifier) (x : Identifier) → IsKnown p taken → has_name taken x ≡ false → IsNew p x
is_new p taken x k new = record {
  unnamed = none_at taken x (type_in p.names x) (k.named_taken x) new;
  unknown = none_at taken x (state_of p.regions x) (k.known_taken x) new;
  unused = λ y access h. let c : true ≡ false = sym (k.arrays_taken y access x h) ∙ new in cc;
}

-- the types without a state
abbrev pub HasNoState : ExprType → Type 0
HasNoState Ref = ⊥
HasNoState Truth = ⊥
HasNoState (Buffer t writable) = ⊥
HasNoState s = Unit {0}

module _ (p : Point) (taken : List Identifier) (k : IsKnown p taken) (x : Identifier) (new : has_name taken x ≡ false) where
  found_old : (s r : ExprType) (y : Identifier) → type_in ((x, s) ∷ p.names) y ≡ Some r → ((y ≡ x) × (s ≡ r)) ⊎ ((y ≢ x) × (type_in p.names y ≡ Some r))
  found_old s r y e = elim (one_or_other y x) [
    | inl same ↦
        let there : type_in ((x, s) ∷ p.names) x ≡ Some r = subst (λ (z : Identifier). type_in ((x, s) ∷ p.names) z ≡ Some r) same e in
        let both : Some s ≡ Some r = sym (front_same x s p.names) ∙ there in
        inl (same, cc)
    | inr other ↦ inr (other, sym (front_other x y s p.names other) ∙ e)
  ]

  no_state : (s : ExprType) → HasNoState s → s ≢ Truth × s ≢ Ref × ((t : ElementType) (writable : Bool) → s ≢ Buffer t writable)
  no_state s h = (λ e. subst HasNoState e h, λ e. subst HasNoState e h, λ t writable e. subst HasNoState e h)

  named_now : (s r : ExprType) (y : Identifier) → type_in ((x, s) ∷ p.names) y ≡ Some r → has_name (taken ++ x ∷ []) y ≡ true
  named_now s r y e = elim (found_old s r y e) [
    | inl here ↦ subst (λ (z : Identifier). has_name (taken ++ x ∷ []) z ≡ true) (sym here.0) (has_last taken x)
    | inr old ↦ in_front taken (x ∷ []) y (k.named_taken y r old.1)
  ]

  -- a name of a type without a state
  pub known_named : (s : ExprType) → HasNoState s → IsKnown (named p x s) (taken ++ x ∷ [])
  known_named s plain = record {
    stated = record {
      no_truth = λ y e. elim (found_old s Truth y e) [ inl here ↦ (no_state s plain).0 here.1 | inr old ↦ k.stated.no_truth y old.1 ];
      reference = λ y e. elim (found_old s Ref y e) [ inl here ↦ absurd ((no_state s plain).1 here.1) | inr old ↦ k.stated.reference y old.1 ];
      buffer = λ y t writable e. elim (found_old s (Buffer t writable) y e) [ inl here ↦ absurd ((no_state s plain).2 t writable here.1) | inr old ↦ k.stated.buffer y t writable old.1 ];
    };
    named_taken = λ y r e. named_now s r y e;
    known_taken = λ y v e. in_front taken (x ∷ []) y (k.known_taken y v e);
    arrays_taken = λ y access a h. in_front taken (x ∷ []) a (k.arrays_taken y access a h);
    stateful = λ y v e. let old = k.stateful y v e in (old.0, front_other x y s p.names (apart_names taken x y new (k.known_taken y v e)) ∙ old.1, old.2);
    framed = k.framed;
    once = k.once;
  }

  -- what a new name is known for
  abbrev FitsState : ExprType → VariableState → Type 0
  FitsState Ref (ReferenceAt level live) = Unit {0}
  FitsState (Buffer t writable) (BufferIn b) = (access : Access) (a : Identifier) → held_by b ≡ Some (access, a) → has_name taken a ≡ true
  FitsState s v = ⊥

  fits_reference : (s : ExprType) (v : VariableState) → FitsState s v → s ≡ Ref → (level : ℕ) × (live : Bool) × (v ≡ ReferenceAt level live)
  fits_reference Ref (ReferenceAt level live) h e = (level, live, refl)
  fits_reference (Buffer t writable) (BufferIn b) h e = absurd (cc)
  fits_reference s v h e = absurd h

  fits_buffer : (s : ExprType) (v : VariableState) (t : ElementType) (writable : Bool) → FitsState s v → s ≡ Buffer t writable → (b : BufferState) × (v ≡ BufferIn b)
  fits_buffer Ref (ReferenceAt level live) t writable h e = absurd (cc)
  fits_buffer (Buffer u w) (BufferIn b) t writable h e = (b, refl)
  fits_buffer s v t writable h e = absurd h

  fits_no_truth : (s : ExprType) (v : VariableState) → FitsState s v → s ≢ Truth
  fits_no_truth Ref (ReferenceAt level live) h e = cc
  fits_no_truth (Buffer u w) (BufferIn b) h e = cc
  fits_no_truth s v h e = h

  fits_state : (s : ExprType) (v : VariableState) → FitsState s v → HasState s
  fits_state Ref (ReferenceAt level live) h = tt
  fits_state (Buffer u w) (BufferIn b) h = tt
  fits_state s v h = absurd h

  fits_array : (s : ExprType) (b : BufferState) (access : Access) (a : Identifier) → FitsState s (BufferIn b) → held_by b ≡ Some (access, a) → has_name taken a ≡ true
  fits_array (Buffer u w) b access a h e = h access a e
  fits_array s b access a h e = absurd h

  module _ (s : ExprType) (v : VariableState) (fits : FitsState s v) where
    abbrev new_point : Point
    new_point = at (named p x s) (with_new p.regions x v)

    state_old : (u : VariableState) (y : Identifier) → state_of new_point.regions y ≡ Some u → ((y ≡ x) × (v ≡ u)) ⊎ ((y ≢ x) × (state_of p.regions y ≡ Some u))
    state_old u y e = elim (one_or_other y x) [
      | inl same ↦
          let there : state_of new_point.regions x ≡ Some u = subst (λ (z : Identifier). state_of new_point.regions z ≡ Some u) same e in
          let both : Some v ≡ Some u = sym (front_same x v p.regions.variables) ∙ there in
          inl (same, cc)
      | inr other ↦ inr (other, sym (front_other x y v p.regions.variables other) ∙ e)
    ]

    state_here : (y : Identifier) → y ≡ x → state_of new_point.regions y ≡ Some v
    state_here y same = subst (λ (z : Identifier). state_of new_point.regions z ≡ Some v) (sym same) (front_same x v p.regions.variables)

    state_there : (y : Identifier) (u : VariableState) → y ≢ x → state_of p.regions y ≡ Some u → state_of new_point.regions y ≡ Some u
    state_there y u other e = front_other x y v p.regions.variables other ∙ e

    -- a reference or a buffer
    pub known_new : IsKnown new_point (taken ++ x ∷ [])
    known_new = record {
      stated = record {
        no_truth = λ y e. elim (found_old s Truth y e) [ inl here ↦ fits_no_truth s v fits here.1 | inr old ↦ k.stated.no_truth y old.1 ];
        reference = λ y e. elim (found_old s Ref y e) [
          | inl here ↦ let is = fits_reference s v fits here.1 in (is.0, is.1, state_here y here.0 ∙ ap (λ (u : VariableState). Some u) is.2)
          | inr old ↦ let is = k.stated.reference y old.1 in (is.0, is.1, state_there y (ReferenceAt is.0 is.1) old.0 is.2)
        ];
        buffer = λ y t writable e. elim (found_old s (Buffer t writable) y e) [
          | inl here ↦ let is = fits_buffer s v t writable fits here.1 in (is.0, state_here y here.0 ∙ ap (λ (u : VariableState). Some u) is.1)
          | inr old ↦ let is = k.stated.buffer y t writable old.1 in (is.0, state_there y (BufferIn is.0) old.0 is.1)
        ];
      };
      named_taken = λ y r e. named_now s r y e;
      known_taken = λ y u e. elim (state_old u y e) [
        | inl here ↦ subst (λ (z : Identifier). has_name (taken ++ x ∷ []) z ≡ true) (sym here.0) (has_last taken x)
        | inr old ↦ in_front taken (x ∷ []) y (k.known_taken y u old.1)
      ];
      arrays_taken = λ y access a h.
          let held = held_of new_point y access a h in
          in_front taken (x ∷ []) a (elim (state_old (BufferIn held.0) y held.1) [
            | inl here ↦ fits_array s held.0 access a (subst (FitsState s) here.1 fits) held.2
            | inr old ↦ k.arrays_taken y access a (holds_of p y held.0 access a old.1 held.2)
          ]);
      stateful = λ y u e. elim (state_old u y e) [
        | inl here ↦ (s, subst (λ (z : Identifier). type_in ((x, s) ∷ p.names) z ≡ Some s) (sym here.0) (front_same x s p.names), fits_state s v fits)
        | inr old ↦ let was = k.stateful y u old.1 in (was.0, front_other x y s p.names old.0 ∙ was.1, was.2)
      ];
      framed = k.framed;
      once = (none_at taken x (state_of p.regions x) (k.known_taken x) new, k.once);
    }

-- ---- the end of a block

filtered_in : (q : Identifier → Bool) (x : Identifier) (vs : ByName VariableState) → q x ≡ true → lookup x (filter (λ (v : Identifier × VariableState). q v.0) vs) ≡ lookup x vs
filtered_in q x [] h = refl
filtered_in q x ((y, v) ∷ vs) h = by_test (q y) refl (bytes_eq x y) refl (filtered_in q x vs h)
  where
    by_test : (b : Bool) → q y ≡ b → (c : Bool) → bytes_eq x y ≡ c → lookup x (filter (λ (v : Identifier × VariableState). q v.0) vs) ≡ lookup x vs
        → lookup x (if b then (y, v) ∷ filter (λ (v : Identifier × VariableState). q v.0) vs else filter (λ (v : Identifier × VariableState). q v.0) vs) ≡ (if c then Some v else lookup x vs)
    by_test true e true same later = ap (λ (b : Bool). if b then Some v else lookup x (filter (λ (v : Identifier × VariableState). q v.0) vs)) same
    by_test true e false other later = ap (λ (b : Bool). if b then Some v else lookup x (filter (λ (v : Identifier × VariableState). q v.0) vs)) other ∙ later
    by_test false e true same later = absurd (let there : q y ≡ true = sym (ap q ((bytes_eq-Decides x y).0 same)) ∙ h in let c : true ≡ false = sym there ∙ e in cc)
    by_test false e false other later = later

filtered_none : (q : Identifier → Bool) (x : Identifier) (vs : ByName VariableState) → lookup x vs ≡ None → lookup x (filter (λ (v : Identifier × VariableState). q v.0) vs) ≡ None
filtered_none q x [] h = refl
filtered_none q x ((y, v) ∷ vs) h = by_test (q y) (bytes_eq x y) refl h (filtered_none q x vs)
  where
    by_test : (b c : Bool) → bytes_eq x y ≡ c → (if c then Some v else lookup x vs) ≡ None → (lookup x vs ≡ None → lookup x (filter (λ (v : Identifier × VariableState). q v.0) vs) ≡ None)
        → lookup x (if b then (y, v) ∷ filter (λ (v : Identifier × VariableState). q v.0) vs else filter (λ (v : Identifier × VariableState). q v.0) vs) ≡ None
    by_test b true same e later = absurd (cc)
    by_test true false other e later = ap (λ (b : Bool). if b then Some v else lookup x (filter (λ (v : Identifier × VariableState). q v.0) vs)) other ∙ later e
    by_test false false other e later = later e

filtered_out : (q : Identifier → Bool) (x : Identifier) (vs : ByName VariableState) → q x ≡ false → lookup x (filter (λ (v : Identifier × VariableState). q v.0) vs) ≡ None
filtered_out q x [] h = refl
filtered_out q x ((y, v) ∷ vs) h = by_test (q y) refl (bytes_eq x y) refl (filtered_out q x vs h)
  where
    by_test : (b : Bool) → q y ≡ b → (c : Bool) → bytes_eq x y ≡ c → lookup x (filter (λ (v : Identifier × VariableState). q v.0) vs) ≡ None
        → lookup x (if b then (y, v) ∷ filter (λ (v : Identifier × VariableState). q v.0) vs else filter (λ (v : Identifier × VariableState). q v.0) vs) ≡ None
    by_test true e true same later = absurd (let there : q y ≡ false = sym (ap q ((bytes_eq-Decides x y).0 same)) ∙ h in let c : true ≡ false = sym e ∙ there in cc)
    by_test true e false other later = ap (λ (b : Bool). if b then Some v else lookup x (filter (λ (v : Identifier × VariableState). q v.0) vs)) other ∙ later
    by_test false e c same later = later

filtered_back : (q : Identifier → Bool) (x : Identifier) (vs : ByName VariableState) (v : VariableState) → lookup x (filter (λ (v : Identifier × VariableState). q v.0) vs) ≡ Some v → lookup x vs ≡ Some v
filtered_back q x vs v e = by_test (q x) refl
  where
    by_test : (b : Bool) → q x ≡ b → lookup x vs ≡ Some v
    by_test true h = sym (filtered_in q x vs h) ∙ e
    by_test false h = absurd (let none = filtered_out q x vs h in cc)

filtered_once : (q : Identifier → Bool) (vs : ByName VariableState) → AreOnce vs → AreOnce (filter (λ (v : Identifier × VariableState). q v.0) vs)
filtered_once q [] h = tt
filtered_once q ((y, v) ∷ vs) h = by_test (q y) (filtered_once q vs h.1)
  where
    by_test : (b : Bool) → AreOnce (filter (λ (v : Identifier × VariableState). q v.0) vs) → AreOnce (if b then (y, v) ∷ filter (λ (v : Identifier × VariableState). q v.0) vs else filter (λ (v : Identifier × VariableState). q v.0) vs)
    by_test true later = (filtered_none q y vs h.0, later)
    by_test false later = later

fewer : {A : Type 0} (g q : A → Bool) (vs : List A) → length (filter g (filter q vs)) ≤ length (filter g vs)
fewer g q [] = omega arith
fewer g q (v ∷ vs) = by_test (q v) (g v) refl (fewer g q vs)
  where
    by_test : (b c : Bool) → g v ≡ c → length (filter g (filter q vs)) ≤ length (filter g vs) → length (filter g (if b then v ∷ filter q vs else filter q vs)) ≤ length (if c then v ∷ filter g vs else filter g vs)
    by_test true true e later = let same : length (filter g (v ∷ filter q vs)) ≡ length (v ∷ filter g (filter q vs)) = ap (λ (c : Bool). length (if c then v ∷ filter g (filter q vs) else filter g (filter q vs))) e in omega (arith, same, later)
    by_test true false e later = let same : length (filter g (v ∷ filter q vs)) ≡ length (filter g (filter q vs)) = ap (λ (c : Bool). length (if c then v ∷ filter g (filter q vs) else filter g (filter q vs))) e in omega (arith, same, later)
    by_test false true e later = omega (arith, later)
    by_test false false e later = later

-- a held buffer that is to be forgotten is found
forgotten : (q : Identifier → Bool) (x : Identifier) (b : BufferState) (held : Access × Identifier) (vs : ByName VariableState) → lookup x vs ≡ Some (BufferIn b) → held_by b ≡ Some held → q x ≡ false
    → list_any (λ (v : Identifier × VariableState). is_held (Some v.1)) (filter (λ (v : Identifier × VariableState). not (q v.0)) vs) ≡ true
forgotten q x b held [] at h none = absurd (cc)
forgotten q x b held ((y, v) ∷ vs) at h none = by_test (q y) refl (bytes_eq x y) refl at (λ e. forgotten q x b held vs e h none)
  where
    held_now : (v : VariableState) → v ≡ BufferIn b → is_held (Some v) ≡ true
    held_now v e = ap (λ (u : VariableState). is_held (Some u)) e ∙ by_state b h
      where
        by_state : (c : BufferState) → held_by c ≡ Some held → is_held (Some (BufferIn c)) ≡ true
        by_state Free g = absurd (cc)
        by_state (Untested own a) g = refl
        by_state (Usable own a) g = refl

    or_true : (a c : Bool) → c ≡ true → (a || c) ≡ true
    or_true true c e = refl
    or_true false c e = e

    by_test : (t : Bool) → q y ≡ t → (c : Bool) → bytes_eq x y ≡ c → (if c then Some v else lookup x vs) ≡ Some (BufferIn b)
        → (lookup x vs ≡ Some (BufferIn b) → list_any (λ (v : Identifier × VariableState). is_held (Some v.1)) (filter (λ (v : Identifier × VariableState). not (q v.0)) vs) ≡ true)
        → list_any (λ (v : Identifier × VariableState). is_held (Some v.1)) (if not t then (y, v) ∷ filter (λ (v : Identifier × VariableState). not (q v.0)) vs else filter (λ (v : Identifier × VariableState). not (q v.0)) vs) ≡ true
    by_test true e true same g later = absurd (let there : q y ≡ false = sym (ap q ((bytes_eq-Decides x y).0 same)) ∙ none in let c : true ≡ false = sym e ∙ there in cc)
    by_test true e false other g later = later g
    by_test false e true same g later =
        let is : v ≡ BufferIn b = cc in
        ap (λ (a : Bool). a || list_any (λ (v : Identifier × VariableState). is_held (Some v.1)) (filter (λ (v : Identifier × VariableState). not (q v.0)) vs)) (held_now v is)
    by_test false e false other g later = or_true (is_held (Some v)) (list_any (λ (v : Identifier × VariableState). is_held (Some v.1)) (filter (λ (v : Identifier × VariableState). not (q v.0)) vs)) (later g)

is_variable : (vs : ByName VariableState) (x : Identifier) (v : VariableState) → lookup x vs ≡ Some v → list_any (λ (w : Identifier × VariableState). bytes_eq w.0 x) vs ≡ true
is_variable [] x v h = absurd (cc)
is_variable ((y, w) ∷ vs) x v h = by_test (bytes_eq x y) refl h (is_variable vs x v)
  where
    or_true : (a c : Bool) → c ≡ true → (a || c) ≡ true
    or_true true c e = refl
    or_true false c e = e

    by_test : (b : Bool) → bytes_eq x y ≡ b → (if b then Some w else lookup x vs) ≡ Some v → (lookup x vs ≡ Some v → list_any (λ (w : Identifier × VariableState). bytes_eq w.0 x) vs ≡ true) → (bytes_eq y x || list_any (λ (w : Identifier × VariableState). bytes_eq w.0 x) vs) ≡ true
    by_test true e g later = ap (λ (b : Bool). b || list_any (λ (w : Identifier × VariableState). bytes_eq w.0 x) vs) ((bytes_eq-Decides y x).1 (sym ((bytes_eq-Decides x y).0 e)))
    by_test false e g later = or_true (bytes_eq y x) (list_any (λ (w : Identifier × VariableState). bytes_eq w.0 x) vs) (later g)

variable_is : (vs : ByName VariableState) (x : Identifier) → list_any (λ (w : Identifier × VariableState). bytes_eq w.0 x) vs ≡ true → (v : VariableState) × (lookup x vs ≡ Some v)
variable_is [] x h = absurd (cc)
variable_is ((y, w) ∷ vs) x h = by_test (bytes_eq x y) refl (variable_is vs x)
  where
    by_test : (b : Bool) → bytes_eq x y ≡ b → (list_any (λ (w : Identifier × VariableState). bytes_eq w.0 x) vs ≡ true → (v : VariableState) × (lookup x vs ≡ Some v)) → (v : VariableState) × ((if b then Some w else lookup x vs) ≡ Some v)
    by_test true e later = (w, refl)
    by_test false e later = later (rest_of (bytes_eq y x) (turned (bytes_eq y x) refl e) h)
      where
        turned : (c : Bool) → bytes_eq y x ≡ c → bytes_eq x y ≡ false → c ≡ false
        turned false g f = refl
        turned true g f = absurd (let there : bytes_eq x y ≡ true = (bytes_eq-Decides x y).1 (sym ((bytes_eq-Decides y x).0 g)) in let c : true ≡ false = sym there ∙ f in cc)

        rest_of : (c : Bool) → c ≡ false → (c || list_any (λ (w : Identifier × VariableState). bytes_eq w.0 x) vs) ≡ true → list_any (λ (w : Identifier × VariableState). bytes_eq w.0 x) vs ≡ true
        rest_of false f g = g
        rest_of true f g = absurd (cc)

-- the names of the outer point are known inside
abbrev pub IsWithin : (outer p : Point) → Type 0
IsWithin outer p = (x : Identifier) (s : ExprType) → type_in outer.names x ≡ Some s → type_in p.names x ≡ Some s

-- the point after a block
abbrev pub end_point : (outer p : Point) → Point
end_point outer p = record { names = outer.names; regions = left outer.regions p.regions }

module _ (outer p : Point) (before taken : List Identifier) (around : IsKnown outer before) (k : IsKnown p taken) (within : IsWithin outer p) where
  stays : (x : Identifier) (v : VariableState) → has_variable outer.regions x ≡ true → state_of p.regions x ≡ Some v → state_of (end_point outer p).regions x ≡ Some v
  stays x v there e = filtered_in (has_variable outer.regions) x p.regions.variables there ∙ e

  stayed : (x : Identifier) (v : VariableState) → state_of (end_point outer p).regions x ≡ Some v → state_of p.regions x ≡ Some v
  stayed x v e = filtered_back (has_variable outer.regions) x p.regions.variables v e

  is_outer : (x : Identifier) (v : VariableState) → state_of (end_point outer p).regions x ≡ Some v → has_variable outer.regions x ≡ true
  is_outer x v e = by_test (has_variable outer.regions x) refl
    where
      by_test : (t : Bool) → has_variable outer.regions x ≡ t → t ≡ true
      by_test true g = refl
      by_test false g = absurd (let none = filtered_out (has_variable outer.regions) x p.regions.variables g in let c : None ≡ Some v = sym none ∙ e in cc)

  pub known_end : IsKnown (end_point outer p) taken
  known_end = record {
    stated = record {
      no_truth = around.stated.no_truth;
      reference = λ x e.
          let old = around.stated.reference x e in
          let now = k.stated.reference x (within x Ref e) in
          (now.0, now.1, stays x (ReferenceAt now.0 now.1) (is_variable outer.regions.variables x (ReferenceAt old.0 old.1) old.2) now.2);
      buffer = λ x t writable e.
          let old = around.stated.buffer x t writable e in
          let now = k.stated.buffer x t writable (within x (Buffer t writable) e) in
          (now.0, stays x (BufferIn now.0) (is_variable outer.regions.variables x (BufferIn old.0) old.1) now.1);
    };
    named_taken = λ x s e. k.named_taken x s (within x s e);
    known_taken = λ x v e. k.known_taken x v (stayed x v e);
    arrays_taken = λ x access a h. let held = held_of (end_point outer p) x access a h in k.arrays_taken x access a (holds_of p x held.0 access a (stayed x (BufferIn held.0) held.1) held.2);
    stateful = λ x v e. let was = variable_is outer.regions.variables x (is_outer x v e) in around.stateful x was.0 was.1;
    framed = k.framed;
    once = filtered_once (has_variable outer.regions) p.regions.variables k.once;
  }

  -- a block that holds no buffer of its own can be left
  pub closes_end : holds_own outer.regions p.regions ≡ false → Closes p (end_point outer p)
  closes_end none = record {
    names = within;
    known = stayed;
    held = λ x access a h. let held = held_of p x access a h in holds_of (end_point outer p) x held.0 access a (stays x (BufferIn held.0) (own x held.0 (access, a) held.1 held.2) held.1) held.2;
    frames = refl;
    owners = λ vs level n. fewer (owns vs level n) (λ v. has_variable outer.regions v.0) p.regions.variables;
    once = filtered_once (has_variable outer.regions) p.regions.variables k.once;
  }
    where
      own : (x : Identifier) (b : BufferState) (e : Access × Identifier) → state_of p.regions x ≡ Some (BufferIn b) → held_by b ≡ Some e → has_variable outer.regions x ≡ true
      own x b e at h = by_test (has_variable outer.regions x) refl
        where
          by_test : (t : Bool) → has_variable outer.regions x ≡ t → t ≡ true
          by_test true g = refl
          by_test false g = absurd (let found = forgotten (has_variable outer.regions) x b e p.regions.variables at h g in let c : true ≡ false = sym found ∙ none in cc)
