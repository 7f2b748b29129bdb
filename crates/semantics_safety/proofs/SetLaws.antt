-- A thread stays at its point where a variable is set of which nothing is known, and is at the point with its name where it is new.
use Rattle.std.proofs.Common.{◌≡◌, ◌≢◌, ℕ, ◌≤◌, arith, Bool, true, false, ◌&&◌, ◌⊎◌, inl, inr, List, [], ◌∷◌, map, filter, length, Option, Some, None, refl, sym, ap, ◌∙◌, subst, if◌then◌else◌}
use Rattle.std.specs.Str.{bytes_eq}
use Rattle.std.proofs.lemmas.Slice.Eq.{bytes_eq-Decides}
use Rattle.base.specs.Bytes.{Identifier, ByName, lookup}
use Rattle.jni.specs.declared.access.Access.{Access}
use Rattle.type_rules.specs.declared.ty.ExprType.{ExprType}
use Rattle.type_rules.specs.ExprTypes.{type_in, Scope}
use Rattle.region_rules.specs.RegionStates.{VariableState, Free, Untested, Usable, ReferenceAt, BufferIn, state_of}
use Rattle.semantics.specs.Thread.{Frame}
use Rattle.semantics.specs.Variable.{Variable, Elements, LocalRef, Buffer, NoBuffer, Variables, Statics, assign}
use Rattle.semantics_safety.specs.Owners.{Owners}
use Rattle.semantics_safety.specs.Points.{Point, AreOnce, is_copy, owns, owners}
use Rattle.semantics_safety.specs.StepSafe.{references_at}
use Rattle.semantics_safety.specs.Stands.{VariableFits, Shows, Lends, copies, Stands}
use Rattle.semantics_safety.specs.Wanted.{Holds, IsNew, named}
use Rattle.semantics_safety.specs.WeakNames.{WeakNames, IsOfKind, AreOfKind}
use Rattle.semantics_safety.proofs.NameLaws.{one_or_other, front_same, front_other, lookup_same, lookup_other}

pub none_some : {A : Type 0} (o : Option A) (v : A) → o ≡ None → o ≡ Some v → ⊥
none_some o v e f = cc

-- ---- names once

pub once_after : (x : Identifier) (w : Variable) (vs : Variables) → AreOnce vs → AreOnce (assign x w vs)
once_after x w [] h = (refl, tt)
once_after x w ((y, v) ∷ rest) h = by_test (bytes_eq x y) refl (once_after x w rest h.1)
  where
    by_test : (b : Bool) → bytes_eq x y ≡ b → AreOnce (assign x w rest) → AreOnce (if b then (x, w) ∷ rest else (y, v) ∷ assign x w rest)
    by_test true e later = (subst (λ (z : Identifier). lookup z rest ≡ None) (sym ((bytes_eq-Decides x y).0 e)) h.0, h.1)
    by_test false e later = (lookup_other x y w rest (λ same. let t : bytes_eq x y ≡ true = (bytes_eq-Decides x y).1 (sym same) in let c : true ≡ false = sym t ∙ e in cc) ∙ h.0, later)

-- what is known of each name, changed
pub none_changed : (change : Identifier → VariableState → VariableState) (y : Identifier) (vs : ByName VariableState) → lookup y vs ≡ None → lookup y (map (λ (v : Identifier × VariableState). (v.0, change v.0 v.1)) vs) ≡ None
none_changed change y [] e = refl
none_changed change y ((z, v) ∷ rest) e = by_test (bytes_eq y z) e (none_changed change y rest)
  where
    by_test : (b : Bool) → (if b then Some v else lookup y rest) ≡ None → (lookup y rest ≡ None → lookup y (map (λ (v : Identifier × VariableState). (v.0, change v.0 v.1)) rest) ≡ None)
        → (if b then Some (change z v) else lookup y (map (λ (v : Identifier × VariableState). (v.0, change v.0 v.1)) rest)) ≡ None
    by_test true e later = absurd (cc)
    by_test false e later = later e

pub once_changed : (change : Identifier → VariableState → VariableState) (vs : ByName VariableState) → AreOnce vs → AreOnce (map (λ (v : Identifier × VariableState). (v.0, change v.0 v.1)) vs)
once_changed change [] h = tt
once_changed change ((y, v) ∷ rest) h = (none_changed change y rest h.0, once_changed change rest h.1)

-- ---- owners

-- a name that isn't known is none of these
pub not_first : (x y : Identifier) (v : VariableState) (rest : ByName VariableState) → lookup x ((y, v) ∷ rest) ≡ None → (y ≢ x) × (lookup x rest ≡ None)
not_first x y v rest h = by_test (bytes_eq x y) refl h
  where
    by_test : (b : Bool) → bytes_eq x y ≡ b → (if b then Some v else lookup x rest) ≡ None → (y ≢ x) × (lookup x rest ≡ None)
    by_test true e g = absurd (cc)
    by_test false e g = (λ same. let t : bytes_eq x y ≡ true = (bytes_eq-Decides x y).1 (sym same) in let c : true ≡ false = sym t ∙ e in cc, g)

pub one_owns : (vs us : Variables) (level n : ℕ) (y : Identifier) (v : VariableState) → lookup y us ≡ lookup y vs → owns us level n (y, v) ≡ owns vs level n (y, v)
one_owns vs us level n y (ReferenceAt l live) e = ap (λ (o : Option Variable). live && is_copy level n o) e
one_owns vs us level n y (BufferIn b) e = refl

counted : (A : Type 0) (b c : Bool) (e : A) (l m : List A) → b ≡ c → length l ≡ length m → length (if b then e ∷ l else l) ≡ length (if c then e ∷ m else m)
counted A true true e l m h g = rw g refl
counted A false false e l m h g = g
counted A true false e l m h g = absurd (cc)
counted A false true e l m h g = absurd (cc)

pub owners_elsewhere : (vs : Variables) (x : Identifier) (w : Variable) (level n : ℕ) (known : ByName VariableState) → lookup x known ≡ None → length (filter (owns (assign x w vs) level n) known) ≡ length (filter (owns vs level n) known)
owners_elsewhere vs x w level n [] none = refl
owners_elsewhere vs x w level n ((y, v) ∷ rest) none =
    let further = not_first x y v rest none in
    counted (Identifier × VariableState) _ _ (y, v) _ _ (one_owns vs (assign x w vs) level n y v (lookup_other x y w vs further.0)) (owners_elsewhere vs x w level n rest further.1)

-- ---- what is shown

lends_moved : (vs us : Variables) (access : Access) (a : Identifier) (b : Buffer) → ((n level : ℕ) → lookup a vs ≡ Some (LocalRef level (Some n)) → lookup a us ≡ lookup a vs) → Lends vs access a b → Lends us access a b
lends_moved vs us access a b same (n, level, e, is) = (n, level, same n level e ∙ e, is)

pub shows_moved : (vs us : Variables) (v : VariableState) (o : Option Variable) → ((access : Access) (a : Identifier) (n level : ℕ) → (v ≡ BufferIn (Untested access a)) ⊎ (v ≡ BufferIn (Usable access a)) → lookup a vs ≡ Some (LocalRef level (Some n)) → lookup a us ≡ lookup a vs)
    → Shows vs v o → Shows us v o
shows_moved vs us (ReferenceAt level live) o same h = h
shows_moved vs us (BufferIn Free) o same h = h
shows_moved vs us (BufferIn (Untested access a)) o same (u, b, e, inl none) = (u, b, e, inl none)
shows_moved vs us (BufferIn (Untested access a)) o same (u, b, e, inr lends) = (u, b, e, inr (lends_moved vs us access a b (λ n level. same access a n level (inl refl)) lends))
shows_moved vs us (BufferIn (Usable access a)) o same (u, b, e, lends) = (u, b, e, lends_moved vs us access a b (λ n level. same access a n level (inr refl)) lends)

-- what is known is held, where it is a buffer that is not free
known_held : (p : Point) (y : Identifier) (v : VariableState) (access : Access) (a : Identifier) → state_of p.regions y ≡ Some v → (v ≡ BufferIn (Untested access a)) ⊎ (v ≡ BufferIn (Usable access a)) → Holds p y access a
known_held p y v access a e (inl h) = inl (e ∙ ap (λ (w : VariableState). Some w) h)
known_held p y v access a e (inr h) = inr (e ∙ ap (λ (w : VariableState). Some w) h)

-- a new name of this kind
pub kinds_named : (weak : WeakNames) (x : Identifier) (s : ExprType) (names : Scope) → IsOfKind (weak x) s → AreOfKind weak names → AreOfKind weak ((x, s) ∷ names)
kinds_named weak x s names kind kinds y r h = elim (one_or_other y x) [
  | inl same ↦
      let there : type_in ((x, s) ∷ names) x ≡ Some r = subst (λ (z : Identifier). type_in ((x, s) ∷ names) z ≡ Some r) same h in
      let both : Some s ≡ Some r = sym (front_same x s names) ∙ there in
      let one : s ≡ r = cc in
      subst (λ (z : Identifier). IsOfKind (weak z) r) (sym same) (subst (IsOfKind (weak x)) one kind)
  | inr other ↦ kinds y r (sym (front_other x y s names other) ∙ h)
]

-- a buffer's object is not held by this variable
abbrev pub IsApart : Point → Variables → Identifier → Type 0
IsApart p vs x = (y a : Identifier) (access : Access) (n level : ℕ) → Holds p y access a → lookup a vs ≡ Some (LocalRef level (Some n)) → a ≢ x

module _ (ss : Statics) (vs : Variables) (frames : List Frame) (p : Point) {weak : WeakNames} {own : Owners} (stands : Stands weak own ss vs frames p) (x : Identifier) (w : Variable) where
  -- a variable of which nothing is known, and which no buffer is of, is no held buffer
  pub stands_set : (names : Scope) → state_of p.regions x ≡ None → IsApart p vs x → ((u : _) (b : Buffer) → w ≡ Elements u b → b ≡ NoBuffer) → ((y : Identifier) (s : ExprType) → type_in names y ≡ Some s → VariableFits s (lookup y (assign x w vs)) (lookup y ss))
      → AreOfKind weak names → Stands weak own ss (assign x w vs) frames (record p { names = names })
  stands_set names none apart plain types kinds = record {
    types = types;
    shows = λ y v e.
        let other : y ≢ x = λ same. none_some (state_of p.regions x) v none (subst (λ (z : Identifier). state_of p.regions z ≡ Some v) same e) in
        subst (Shows (assign x w vs) v) (sym (lookup_other x y w vs other))
        (shows_moved vs (assign x w vs) v (lookup y vs) (λ access a n level is at. lookup_other x a w vs (apart y a access n level (known_held p y v access a e is) at)) (stands.shows y v e));
    held = λ y u b e. elim (one_or_other y x) [
      | inl same ↦
          let there : lookup x (assign x w vs) ≡ Some (Elements u b) = subst (λ (z : Identifier). lookup z (assign x w vs) ≡ Some (Elements u b)) same e in
          let both : Some w ≡ Some (Elements u b) = sym (lookup_same x w vs) ∙ there in
          inl (plain u b (cc))
      | inr other ↦ stands.held y u b (sym (lookup_other x y w vs other) ∙ e)
    ];
    once = once_after x w vs stands.once;
    kinds = kinds;
    only = stands.only;
    known_once = stands.known_once;
    depth = stands.depth;
    backed = λ level n. let same = owners_elsewhere vs x w level n p.regions.variables none in let enough = stands.backed level n in omega (arith, same, enough);
    owned = λ y level l n e h.
        let other : y ≢ x = λ same. none_some (state_of p.regions x) (ReferenceAt level true) none (subst (λ (z : Identifier). state_of p.regions z ≡ Some (ReferenceAt level true)) same e) in
        stands.owned y level l n e (sym (lookup_other x y w vs other) ∙ h);
  }

  -- the types, where the variable keeps its own
  pub types_kept : (s : ExprType) → type_in p.names x ≡ Some s → VariableFits s (Some w) (lookup x ss) → (y : Identifier) (r : ExprType) → type_in p.names y ≡ Some r → VariableFits r (lookup y (assign x w vs)) (lookup y ss)
  types_kept s e fits y r h = elim (one_or_other y x) [
    | inl same ↦
        let there : type_in p.names x ≡ Some r = subst (λ (z : Identifier). type_in p.names z ≡ Some r) same h in
        let both : Some s ≡ Some r = sym e ∙ there in
        let one : s ≡ r = cc in
        subst (λ (z : Identifier). VariableFits r (lookup z (assign x w vs)) (lookup z ss)) (sym same)
        (subst (λ (o : Option Variable). VariableFits r o (lookup x ss)) (sym (lookup_same x w vs)) (subst (λ (q : ExprType). VariableFits q (Some w) (lookup x ss)) one fits))
    | inr other ↦ subst (λ (o : Option Variable). VariableFits r o (lookup y ss)) (sym (lookup_other x y w vs other)) (stands.types y r h)
  ]

  -- the types, with a new name
  pub types_named : (s : ExprType) → VariableFits s (Some w) (lookup x ss) → (y : Identifier) (r : ExprType) → type_in ((x, s) ∷ p.names) y ≡ Some r → VariableFits r (lookup y (assign x w vs)) (lookup y ss)
  types_named s fits y r h = elim (one_or_other y x) [
    | inl same ↦
        let there : type_in ((x, s) ∷ p.names) x ≡ Some r = subst (λ (z : Identifier). type_in ((x, s) ∷ p.names) z ≡ Some r) same h in
        let both : Some s ≡ Some r = sym (front_same x s p.names) ∙ there in
        let one : s ≡ r = cc in
        subst (λ (z : Identifier). VariableFits r (lookup z (assign x w vs)) (lookup z ss)) (sym same)
        (subst (λ (o : Option Variable). VariableFits r o (lookup x ss)) (sym (lookup_same x w vs)) (subst (λ (q : ExprType). VariableFits q (Some w) (lookup x ss)) one fits))
    | inr other ↦ subst (λ (o : Option Variable). VariableFits r o (lookup y ss)) (sym (lookup_other x y w vs other)) (stands.types y r (sym (front_other x y s p.names other) ∙ h))
  ]

  -- a new variable
  pub stands_new : (s : ExprType) → IsNew p x → IsOfKind (weak x) s → VariableFits s (Some w) (lookup x ss) → ((u : _) (b : Buffer) → w ≡ Elements u b → b ≡ NoBuffer) → Stands weak own ss (assign x w vs) frames (named p x s)
  stands_new s new kind fits plain =
      stands_set ((x, s) ∷ p.names) new.unknown
      (λ y a access n level h e same. new.unused y access (subst (Holds p y access) same h))
      plain (types_named s fits) (kinds_named weak x s p.names kind stands.kinds)

  -- a variable that is neither reference nor buffer
  pub stands_kept : (s : ExprType) (old : Variable) → type_in p.names x ≡ Some s → lookup x vs ≡ Some old → ((level : ℕ) (r : _) → old ≡ LocalRef level r → ⊥) → ((u : _) (b : Buffer) → old ≡ Elements u b → ⊥) → VariableFits s (Some w) (lookup x ss) → ((u : _) (b : Buffer) → w ≡ Elements u b → b ≡ NoBuffer)
      → Stands weak own ss (assign x w vs) frames p
  stands_kept s old e was no_ref no_buffer fits plain =
      stands_set p.names (unknown (state_of p.regions x) refl)
      (λ y a access n level h g same. no_ref level (Some n) (let there : lookup x vs ≡ Some (LocalRef level (Some n)) = subst (λ (z : Identifier). lookup z vs ≡ Some (LocalRef level (Some n))) same g in let both : Some old ≡ Some (LocalRef level (Some n)) = sym was ∙ there in cc))
      plain (types_kept s e fits) stands.kinds
    where
      shown : (v : VariableState) → Shows vs v (lookup x vs) → ⊥
      shown (ReferenceAt level live) h = no_ref level h.0 (let both : Some old ≡ Some (LocalRef level h.0) = sym was ∙ h.1 in cc)
      shown (BufferIn b) h = no_buffer h.0 h.1 (let both : Some old ≡ Some (Elements h.0 h.1) = sym was ∙ h.2 in cc)

      unknown : (o : Option VariableState) → state_of p.regions x ≡ o → o ≡ None
      unknown None h = refl
      unknown (Some v) h = absurd (shown v (stands.shows x v h))

-- ---- any change of one variable

-- as many owners, where each variable holds what it held
pub owners_same : (vs us : Variables) (level n : ℕ) (known : ByName VariableState) → ((y : Identifier) → is_copy level n (lookup y us) ≡ is_copy level n (lookup y vs)) → length (filter (owns us level n) known) ≡ length (filter (owns vs level n) known)
owners_same vs us level n [] same = refl
owners_same vs us level n ((y, v) ∷ rest) same = counted (Identifier × VariableState) _ _ (y, v) _ _ (own v) (owners_same vs us level n rest same)
  where
    own : (v : VariableState) → owns us level n (y, v) ≡ owns vs level n (y, v)
    own (ReferenceAt l live) = ap (λ (b : Bool). live && b) (same y)
    own (BufferIn b) = refl

-- the point after a step that sets one variable
pub record SetsOne (weak : WeakNames) (own new : Owners) (ss : Statics) (vs : Variables) (p : Point) (x : Identifier) (w : Variable) (frames : List Frame) (q : Point) : Type 0 where
  pub elsewhere : (y : Identifier) → y ≢ x → state_of q.regions y ≡ state_of p.regions y
  pub apart : IsApart p vs x
  pub here : (v : VariableState) → state_of q.regions x ≡ Some v → Shows (assign x w vs) v (Some w)
  pub types : (y : Identifier) (s : ExprType) → type_in q.names y ≡ Some s → VariableFits s (lookup y (assign x w vs)) (lookup y ss)
  pub held : (u : _) (b : Buffer) → w ≡ Elements u b → (b ≡ NoBuffer) ⊎ ((access : Access) × (a : Identifier) × Holds q x access a)
  pub known_once : AreOnce q.regions.variables
  pub depth : length frames ≡ q.regions.frames
  pub backed : (level n : ℕ) → owners q.regions (assign x w vs) level n ≤ copies (references_at level frames) n
  pub kinds : AreOfKind weak q.names
  -- the owners but this one are as they were
  pub keeps : (y : Identifier) → y ≢ x → new y ≡ own y
  pub owned_here : (level l n : ℕ) → state_of q.regions x ≡ Some (ReferenceAt level true) → w ≡ LocalRef l (Some n) → new x ≡ Some l

module _ (ss : Statics) (vs : Variables) (frames : List Frame) (p : Point) {weak : WeakNames} {own : Owners} (stands : Stands weak own ss vs frames p) (x : Identifier) (w : Variable) where
  held_there : (q : Point) (y : Identifier) (access : Access) (a : Identifier) → state_of q.regions y ≡ state_of p.regions y → Holds p y access a → Holds q y access a
  held_there q y access a e (inl h) = inl (e ∙ h)
  held_there q y access a e (inr h) = inr (e ∙ h)

  pub stands_at : {new : Owners} (after : List Frame) (q : Point) → SetsOne weak own new ss vs p x w after q → Stands weak new ss (assign x w vs) after q
  stands_at {new} after q one = record {
    types = one.types;
    shows = λ y v e. elim (one_or_other y x) [
      | inl same ↦
          subst (λ (z : Identifier). Shows (assign x w vs) v (lookup z (assign x w vs))) (sym same)
          (subst (Shows (assign x w vs) v) (sym (lookup_same x w vs)) (one.here v (subst (λ (z : Identifier). state_of q.regions z ≡ Some v) same e)))
      | inr other ↦
          let was : state_of p.regions y ≡ Some v = sym (one.elsewhere y other) ∙ e in
          subst (Shows (assign x w vs) v) (sym (lookup_other x y w vs other))
          (shows_moved vs (assign x w vs) v (lookup y vs) (λ access a n level is there. lookup_other x a w vs (one.apart y a access n level (known_held p y v access a was is) there)) (stands.shows y v was))
    ];
    held = λ y u b e. elim (one_or_other y x) [
      | inl same ↦
          let there : lookup x (assign x w vs) ≡ Some (Elements u b) = subst (λ (z : Identifier). lookup z (assign x w vs) ≡ Some (Elements u b)) same e in
          let both : Some w ≡ Some (Elements u b) = sym (lookup_same x w vs) ∙ there in
          subst (λ (z : Identifier). (b ≡ NoBuffer) ⊎ ((access : Access) × (a : Identifier) × Holds q z access a)) (sym same) (one.held u b (cc))
      | inr other ↦ elim (stands.held y u b (sym (lookup_other x y w vs other) ∙ e)) [ inl none ↦ inl none | inr h ↦ inr (h.0, h.1, held_there q y h.0 h.1 (one.elsewhere y other) h.2) ]
    ];
    once = once_after x w vs stands.once;
    kinds = one.kinds;
    only = stands.only;
    known_once = one.known_once;
    depth = one.depth;
    backed = one.backed;
    owned = λ y level l n e h. elim (one_or_other y x) [
      | inl same ↦
          let there : lookup x (assign x w vs) ≡ Some (LocalRef l (Some n)) = subst (λ (z : Identifier). lookup z (assign x w vs) ≡ Some (LocalRef l (Some n))) same h in
          let both : Some w ≡ Some (LocalRef l (Some n)) = sym (lookup_same x w vs) ∙ there in
          let known : state_of q.regions x ≡ Some (ReferenceAt level true) = subst (λ (z : Identifier). state_of q.regions z ≡ Some (ReferenceAt level true)) same e in
          subst (λ (z : Identifier). new z ≡ Some l) (sym same) (one.owned_here level l n known (cc))
      | inr other ↦ one.keeps y other ∙ stands.owned y level l n (sym (one.elsewhere y other) ∙ e) (sym (lookup_other x y w vs other) ∙ h)
    ];
  }
