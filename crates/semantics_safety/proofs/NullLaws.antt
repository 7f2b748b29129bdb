-- A thread is at the point after a NULL that is set.
use Rattle.std.proofs.Common.{◌≡◌, ◌≢◌, ℕ, ◌≤◌, arith, Bool, true, false, ◌&&◌, inl, inr, List, [], ◌∷◌, map, Option, Some, None, refl, sym, ap, ◌∙◌, subst, if◌then◌else◌}
use Rattle.std.specs.Prelude.{length, filter}
use Rattle.std.specs.Option.{option_map}
use Rattle.std.specs.Str.{bytes_eq}
use Rattle.std.proofs.lemmas.Slice.Eq.{bytes_eq-Decides}
use Rattle.base.specs.Bytes.{Identifier, ByName, lookup}
use Rattle.base.specs.declared.element.ElementType.{ElementType}
use Rattle.syntax.specs.Tree.{SourceUnit}
use Rattle.class_rules.specs.Class.{Classes}
use Rattle.type_rules.specs.declared.ty.ExprType.{ExprType}
use Rattle.type_rules.specs.ExprTypes.{type_in}
use Rattle.type_rules.specs.declared.ty.ExprType.TheVariants as types
use Rattle.semantics.specs.CallEffects.{NullResult}
use Rattle.semantics.specs.CallStep.{put, put_assigned}
use Rattle.region_rules.specs.RegionStates.{VariableState, Free, ReferenceAt, BufferIn, with_new, with_changed}
use Rattle.semantics.specs.declared.variable_kind.VariableKind.{VariableKind}
use Rattle.semantics.specs.declared.variable_kind.VariableKind.TheVariants as kinds
use Rattle.semantics.specs.Task.{Task, Target, Declared, Assigned}
use Rattle.semantics.specs.Thread.{Thread, Shared, BuffersInUse}
use Rattle.semantics.specs.ThreadStep.{with_tasks}
use Rattle.semantics.specs.Variable.{Variable, LocalRef, FieldHandle, MethodHandle, Elements, Buffer, NoBuffer, StaticReference, Empty, Weakly, assign}
use Rattle.semantics_safety.specs.Owners.{Owners}
use Rattle.semantics_safety.specs.Points.{Point, is_copy, owns}
use Rattle.semantics_safety.specs.Stands.{VariableFits, Shows, Stands}
use Rattle.semantics_safety.specs.Wanted.{Holds, IsNew, MaySet, revived, DeclaresNull, AssignsNull, SetsNullThere, GoesOn, at, named}
use Rattle.semantics_safety.specs.WeakNames.{WeakNames}
use Rattle.semantics_safety.proofs.NameLaws.{one_or_other, lookup_same, lookup_other, front_same, front_other, known_same, known_other}
use Rattle.semantics_safety.proofs.SetLaws.{once_changed, stands_new, stands_kept, stands_at, owners_elsewhere, types_named, types_kept, kinds_named}
use Rattle.semantics_safety.proofs.StepLaws.{Lands, null_declared}

module _ (unit : SourceUnit) (classes : Classes) (in_use : BuffersInUse) (k : ℕ) (s : Shared) (t : Thread) (rest : List Task) (p : Point) {weak : WeakNames} {own : Owners} (stands : Stands weak own s.statics t.variables t.frames p) where
  field_no_buffer : (f : _) (u : ElementType) (b : Buffer) → FieldHandle f ≡ Elements u b → ⊥
  field_no_buffer f u b e = cc

  method_no_buffer : (f : _) (u : ElementType) (b : Buffer) → MethodHandle f ≡ Elements u b → ⊥
  method_no_buffer f u b e = cc

  field_no_ref : (f : _) (level : ℕ) (r : _) → FieldHandle f ≡ LocalRef level r → ⊥
  field_no_ref f level r e = cc

  method_no_ref : (f : _) (level : ℕ) (r : _) → MethodHandle f ≡ LocalRef level r → ⊥
  method_no_ref f level r e = cc

  null_buffer : (v u : ElementType) (b : Buffer) → Elements v NoBuffer ≡ Elements u b → b ≡ NoBuffer
  null_buffer v u b e = cc

  -- a new buffer that is NULL
  buffer_declared : (x : Identifier) (u : ElementType) (w : Bool) → IsNew p x → Stands weak own s.statics (assign x (Elements u NoBuffer) t.variables) t.frames (at (named p x (types.Buffer u w)) (with_new p.regions x (BufferIn Free)))
  buffer_declared x u w new = stands_at s.statics t.variables t.frames p stands x (Elements u NoBuffer) t.frames _ (record {
    elsewhere = λ y other. front_other x y (BufferIn Free) p.regions.variables other;
    apart = λ y a access m level h at_a same. new.unused y access (subst (Holds p y access) same h);
    here = λ v e.
        let both : Some (BufferIn Free) ≡ Some v = sym (front_same x (BufferIn Free) p.regions.variables) ∙ e in
        let one : BufferIn Free ≡ v = cc in
        subst (λ (v : VariableState). Shows (assign x (Elements u NoBuffer) t.variables) v (Some (Elements u NoBuffer))) one (u, NoBuffer, refl, refl);
    types = types_named s.statics t.variables t.frames p stands x (Elements u NoBuffer) (types.Buffer u w) (NoBuffer, refl);
    held = λ v b e. inl (null_buffer u v b e);
    kinds = kinds_named weak x (types.Buffer u w) p.names tt stands.kinds;
    known_once = (new.unknown, stands.known_once);
    depth = stands.depth;
    backed = λ level n.
        let same = owners_elsewhere t.variables x (Elements u NoBuffer) level n p.regions.variables new.unknown in
        let enough = stands.backed level n in
        omega (arith, same, enough);
    keeps = λ y other. refl;
    owned_here = λ level l n known h. absurd (let c : Elements u NoBuffer ≡ LocalRef l (Some n) = h in cc);
  })

  declared_lands : (kind : VariableKind) (x : Identifier) → DeclaresNull p kind x (GoesOn rest) → Lands weak own s.statics (put (Declared kind x) NullResult s (with_tasks t rest))
  declared_lands kinds.Number x h = absurd h
  declared_lands kinds.Reference x (new, g) = ((at (named p x types.Ref) (with_new p.regions x (ReferenceAt p.regions.frames true)), null_declared unit classes in_use k s t rest p stands x new, g), λ y r e. (r, e))
  declared_lands kinds.Field x (new, g) =
      ((named p x types.FieldId, stands_new s.statics t.variables t.frames p stands x (FieldHandle None) types.FieldId new tt (None, refl) (λ u b e. absurd (field_no_buffer None u b e)), g), λ y r e. (r, e))
  declared_lands kinds.Method x (new, g) =
      ((named p x types.MethodId, stands_new s.statics t.variables t.frames p stands x (MethodHandle None) types.MethodId new tt (None, refl) (λ u b e. absurd (method_no_buffer None u b e)), g), λ y r e. (r, e))
  declared_lands (kinds.Buffer u) x (new, (w, g)) = ((at (named p x (types.Buffer u w)) (with_new p.regions x (BufferIn Free)), buffer_declared x u w new, g), λ y r e. (r, e))

  no_empty : (n : ℕ) → Empty ≡ Weakly n → ⊥
  no_empty n e = cc

  -- a static that is set
  pub stands_static : (x : Identifier) (g : StaticReference) → ((n : ℕ) → g ≡ Weakly n → weak x ≡ true) → Stands weak own (assign x g s.statics) t.variables t.frames p
  stands_static x g right = record {
    types = λ y r e. static_fits r y (stands.types y r e);
    shows = stands.shows;
    held = stands.held;
    once = stands.once;
    known_once = stands.known_once;
    depth = stands.depth;
    backed = stands.backed;
    owned = stands.owned;
    kinds = stands.kinds;
    only = λ y n e. elim (one_or_other y x) [
      | inl same ↦
          let here : lookup x (assign x g s.statics) ≡ Some (Weakly n) = subst (λ (z : Identifier). lookup z (assign x g s.statics) ≡ Some (Weakly n)) same e in
          let both : Some g ≡ Some (Weakly n) = sym (lookup_same x g s.statics) ∙ here in
          subst (λ (z : Identifier). weak z ≡ true) (sym same) (right n (cc))
      | inr other ↦ stands.only y n (sym (lookup_other x y g s.statics other) ∙ e)
    ];
  }
    where
      there : (y : Identifier) (r : StaticReference) → lookup y s.statics ≡ Some r → (q : StaticReference) × (lookup y (assign x g s.statics) ≡ Some q)
      there y r e = elim (one_or_other y x) [ inl same ↦ (g, ap (λ (z : Identifier). lookup z (assign x g s.statics)) same ∙ lookup_same x g s.statics) | inr other ↦ (r, lookup_other x y g s.statics other ∙ e) ]

      static_fits : (r : ExprType) (y : Identifier) → VariableFits r (lookup y t.variables) (lookup y s.statics) → VariableFits r (lookup y t.variables) (lookup y (assign x g s.statics))
      static_fits types.Global y (none, (q, e)) = (none, there y q e)
      static_fits types.Weak y (none, (q, e)) = (none, there y q e)
      static_fits types.Ref y h = h
      static_fits types.FieldId y h = h
      static_fits types.MethodId y h = h
      static_fits (types.Buffer u w) y h = h
      static_fits (types.Array u size) y h = h
      static_fits types.Truth y h = h
      static_fits types.Word y h = h
      static_fits types.Jint y h = h
      static_fits types.Flag y h = h

  pub statics_stay : (x : Identifier) (g : StaticReference) (y : Identifier) (r : StaticReference) → lookup y s.statics ≡ Some r → (q : StaticReference) × (lookup y (assign x g s.statics) ≡ Some q)
  statics_stay x g y r e = elim (one_or_other y x) [ inl same ↦ (g, ap (λ (z : Identifier). lookup z (assign x g s.statics)) same ∙ lookup_same x g s.statics) | inr other ↦ (r, lookup_other x y g s.statics other ∙ e) ]

  -- ---- a reference becomes NULL

  null_owns : (x : Identifier) (level l n : ℕ) (v : VariableState) → owns (assign x (LocalRef level None) t.variables) l n (x, v) ≡ false
  null_owns x level l n (ReferenceAt m live) = ap (λ (o : Option Variable). live && is_copy l n o) (lookup_same x (LocalRef level None) t.variables) ∙ no_and live
    where
      no_and : (b : Bool) → (b && false) ≡ false
      no_and true = refl
      no_and false = refl
  null_owns x level l n (BufferIn b) = refl

  other_owns : (x y : Identifier) (w : Variable) (l n : ℕ) (v : VariableState) → y ≢ x → owns (assign x w t.variables) l n (y, v) ≡ owns t.variables l n (y, v)
  other_owns x y w l n (ReferenceAt m live) other = ap (λ (o : Option Variable). live && is_copy l n o) (lookup_other x y w t.variables other)
  other_owns x y w l n (BufferIn b) other = refl

  skipped : (b c : Bool) (e f : Identifier × VariableState) (l m : List (Identifier × VariableState)) → b ≡ false → length l ≤ length m → length (if b then e ∷ l else l) ≤ length (if c then f ∷ m else m)
  skipped true c e f l m h g = absurd (cc)
  skipped false true e f l m h g = omega (arith, g)
  skipped false false e f l m h g = g

  counted_too : (b c : Bool) (e f : Identifier × VariableState) (l m : List (Identifier × VariableState)) → b ≡ c → length l ≤ length m → length (if b then e ∷ l else l) ≤ length (if c then f ∷ m else m)
  counted_too true true e f l m h g = omega (arith, g)
  counted_too false false e f l m h g = g
  counted_too true false e f l m h g = absurd (cc)
  counted_too false true e f l m h g = absurd (cc)

  fewer_owners : (x : Identifier) (level l n : ℕ) (known : ByName VariableState)
      → length (filter (owns (assign x (LocalRef level None) t.variables) l n) (map (λ (v : Identifier × VariableState). (v.0, if bytes_eq x v.0 then revived v.1 else v.1)) known)) ≤ length (filter (owns t.variables l n) known)
  fewer_owners x level l n [] = omega arith
  fewer_owners x level l n ((y, v) ∷ known) = by_test (bytes_eq x y) refl (fewer_owners x level l n known)
    where
      by_test : (b : Bool) → bytes_eq x y ≡ b → length (filter (owns (assign x (LocalRef level None) t.variables) l n) (map (λ (v : Identifier × VariableState). (v.0, if bytes_eq x v.0 then revived v.1 else v.1)) known)) ≤ length (filter (owns t.variables l n) known)
          → length (filter (owns (assign x (LocalRef level None) t.variables) l n) ((y, if b then revived v else v) ∷ map (λ (v : Identifier × VariableState). (v.0, if bytes_eq x v.0 then revived v.1 else v.1)) known)) ≤ length (filter (owns t.variables l n) ((y, v) ∷ known))
      by_test true e later =
          skipped _ (owns t.variables l n (y, v)) (y, revived v) (y, v) _ _ (subst (λ (z : Identifier). owns (assign x (LocalRef level None) t.variables) l n (z, revived v) ≡ false) ((bytes_eq-Decides x y).0 e) (null_owns x level l n (revived v))) later
      by_test false e later =
          counted_too _ (owns t.variables l n (y, v)) (y, v) (y, v) _ _
          (other_owns x y (LocalRef level None) l n v (λ same. let here : bytes_eq x y ≡ true = (bytes_eq-Decides x y).1 (sym same) in let c : true ≡ false = sym here ∙ e in cc)) later

  ref_no_buffer : (level : ℕ) (r : _) (u : ElementType) (b : Buffer) → LocalRef level r ≡ Elements u b → ⊥
  ref_no_buffer level r u b e = cc

  pub nulled : (x : Identifier) → MaySet p x → type_in p.names x ≡ Some types.Ref → Stands weak own s.statics (assign x (LocalRef p.regions.frames None) t.variables) t.frames (at p (with_changed p.regions x revived))
  nulled x may e = stands_at s.statics t.variables t.frames p stands x (LocalRef p.regions.frames None) t.frames (at p (with_changed p.regions x revived)) (record {
    elsewhere = λ y other. known_other p.regions x y revived other;
    apart = λ y a access m level h at_a same. may.unused y access (subst (Holds p y access) same h);
    here = λ v h.
        let both : Some (ReferenceAt p.regions.frames true) ≡ Some v = sym (known_same p.regions x revived ∙ ap (option_map revived) may.known) ∙ h in
        let one : ReferenceAt p.regions.frames true ≡ v = cc in
        subst (λ (v : VariableState). Shows (assign x (LocalRef p.regions.frames None) t.variables) v (Some (LocalRef p.regions.frames None))) one (None, refl);
    types = types_kept s.statics t.variables t.frames p stands x (LocalRef p.regions.frames None) types.Ref e (p.regions.frames, None, refl);
    held = λ u b h. absurd (ref_no_buffer p.regions.frames None u b h);
    kinds = stands.kinds;
    known_once = once_changed (λ (y : Identifier) (old : VariableState). if bytes_eq x y then revived old else old) p.regions.variables stands.known_once;
    depth = stands.depth;
    backed = λ level n. let fewer = fewer_owners x p.regions.frames level n p.regions.variables in let enough = stands.backed level n in omega (arith, fewer, enough);
    keeps = λ y other. refl;
    owned_here = λ level l n known h. absurd (let c : LocalRef p.regions.frames None ≡ LocalRef l (Some n) = h in cc);
  })

  pub assigned_lands : (x : Identifier) (o : Option ExprType) → type_in p.names x ≡ o → AssignsNull p o x (GoesOn rest) → Lands weak own s.statics (put_assigned x NullResult s (with_tasks t rest) (lookup x t.variables))
  assigned_lands x (Some types.Ref) e (may, g) =
      let shown = stands.shows x _ may.known in
      subst (λ (v : Option Variable). Lands weak own s.statics (put_assigned x NullResult s (with_tasks t rest) v)) (sym shown.1) ((at p (with_changed p.regions x revived), nulled x may e, g), λ y r h. (r, h))
  assigned_lands x (Some types.Global) e g =
      let fits = stands.types x types.Global e in
      subst (λ (v : Option Variable). Lands weak own s.statics (put_assigned x NullResult s (with_tasks t rest) v)) (sym fits.0) ((p, stands_static x Empty (λ n c. absurd (no_empty n c)), g), statics_stay x Empty)
  assigned_lands x (Some types.Weak) e g =
      let fits = stands.types x types.Weak e in
      subst (λ (v : Option Variable). Lands weak own s.statics (put_assigned x NullResult s (with_tasks t rest) v)) (sym fits.0) ((p, stands_static x Empty (λ n c. absurd (no_empty n c)), g), statics_stay x Empty)
  assigned_lands x (Some types.FieldId) e g =
      let fits = stands.types x types.FieldId e in
      subst (λ (v : Option Variable). Lands weak own s.statics (put_assigned x NullResult s (with_tasks t rest) v)) (sym fits.1)
      ((p, stands_kept s.statics t.variables t.frames p stands x (FieldHandle None) types.FieldId (FieldHandle fits.0) e fits.1 (field_no_ref fits.0) (field_no_buffer fits.0) (None, refl) (λ u b c. absurd (field_no_buffer None u b c)), g), λ y r h. (r, h))
  assigned_lands x (Some types.MethodId) e g =
      let fits = stands.types x types.MethodId e in
      subst (λ (v : Option Variable). Lands weak own s.statics (put_assigned x NullResult s (with_tasks t rest) v)) (sym fits.1)
      ((p, stands_kept s.statics t.variables t.frames p stands x (MethodHandle None) types.MethodId (MethodHandle fits.0) e fits.1 (method_no_ref fits.0) (method_no_buffer fits.0) (None, refl) (λ u b c. absurd (method_no_buffer None u b c)), g), λ y r h. (r, h))
  assigned_lands x o e h = absurd h

  -- NULL goes where it may
  pub null_lands : (target : Target) → SetsNullThere p target (GoesOn rest) → Lands weak own s.statics (put target NullResult s (with_tasks t rest))
  null_lands (Declared kind x) h = declared_lands kind x h
  null_lands (Assigned x) h = assigned_lands x (type_in p.names x) refl h
  null_lands target h = absurd h
