-- A thread is at the point after a new local reference, which is in its current frame and goes to a target.
use Rattle.std.proofs.Common.{◌≡◌, ◌≢◌, ℕ, suc, ◌+◌, ◌≤◌, arith, Bool, true, false, ◌&&◌, List, [], ◌∷◌, map, filter, length, Option, Some, None, refl, sym, ap, ◌∙◌, subst, if◌then◌else◌}
use Rattle.std.specs.Prelude.{◌==◌}
use Rattle.std.specs.Option.{option_map}
use Rattle.std.specs.Str.{bytes_eq}
use Rattle.std.proofs.lemmas.Slice.Eq.{bytes_eq-Decides}
use Rattle.base.specs.Bytes.{Identifier, ByName, lookup}
use Rattle.jni.specs.declared.access.Access.{Access}
use Rattle.jni.specs.declared.kinds.ResultKind.TheVariants.{NewLocal}
use Rattle.type_rules.specs.declared.ty.ExprType.{ExprType}
use Rattle.type_rules.specs.ExprTypes.{type_in}
use Rattle.type_rules.specs.declared.ty.ExprType.TheVariants as types
use Rattle.semantics.specs.CallEffects.{ReferenceResult, with_local}
use Rattle.semantics.specs.CallStep.{put, put_assigned}
use Rattle.region_rules.specs.RegionStates.{VariableState, ReferenceAt, BufferIn, with_new, with_changed}
use Rattle.semantics.specs.declared.variable_kind.VariableKind.{VariableKind}
use Rattle.semantics.specs.declared.variable_kind.VariableKind.TheVariants as kinds
use Rattle.semantics.specs.Task.{Task, Target, Declared, Assigned, Tested, Dropped}
use Rattle.semantics.specs.Thread.{Thread, Shared, Frame}
use Rattle.semantics.specs.Variable.{Variable, LocalRef, Elements, Buffer, Variables, Statics, assign}
use Rattle.semantics_safety.specs.Owners.{Owners, is_target}
use Rattle.semantics_safety.specs.Points.{Point, AreOnce, is_copy, owns}
use Rattle.semantics_safety.specs.Stands.{Shows, Stands}
use Rattle.semantics_safety.specs.Wanted.{Holds, IsNew, MaySet, revived, DeclaresResult, AssignsResult, ResultGoes, GoesOn, at, named}
use Rattle.semantics_safety.specs.WeakNames.{WeakNames}
use Rattle.semantics_safety.proofs.FrameLaws.{one_if, counted_here, more_copies, copies_grow}
use Rattle.semantics_safety.proofs.NameLaws.{lookup_same, lookup_other, front_same, front_other, known_same, known_other, is_same}
use Rattle.semantics_safety.proofs.SetLaws.{once_changed, stands_at, owners_elsewhere, types_named, types_kept, kinds_named, not_first, one_owns}
use Rattle.semantics_safety.proofs.OwnerLaws.{stands_with}
use Rattle.semantics_safety.proofs.StepLaws.{Lands, same_statics}

ref_no_buffer : (level : ℕ) (r : _) (u : _) (b : Buffer) → LocalRef level r ≡ Elements u b → ⊥
ref_no_buffer level r u b e = cc

-- ---- owners

module _ (vs : Variables) (x : Identifier) (top n level m : ℕ) where
  -- the variable with the reference
  abbrev us : Variables
  us = assign x (LocalRef top (Some n)) vs

  own_here : (l : ℕ) (live : Bool) → owns us level m (x, ReferenceAt l live) ≡ (live && (top == level && n == m))
  own_here l live = ap (λ (o : Option Variable). live && is_copy level m o) (lookup_same x (LocalRef top (Some n)) vs)

  -- a new owner, where this is asked for
  pub declared_owners : (l : ℕ) (known : ByName VariableState) → lookup x known ≡ None
      → length (filter (owns us level m) ((x, ReferenceAt l true) ∷ known)) ≡ length (filter (owns vs level m) known) + one_if (top == level && n == m)
  declared_owners l known none =
      let first = counted_here (owns us level m (x, ReferenceAt l true)) (x, ReferenceAt l true) (filter (owns us level m) known) in
      let here : one_if (owns us level m (x, ReferenceAt l true)) ≡ one_if (top == level && n == m) = ap one_if (own_here l true) in
      let later = owners_elsewhere vs x (LocalRef top (Some n)) level m known none in
      omega (arith, first, here, later)

  revived_here : (v : VariableState) → one_if (owns us level m (x, revived v)) ≤ one_if (top == level && n == m)
  revived_here (ReferenceAt l live) = let here : one_if (owns us level m (x, ReferenceAt l true)) ≡ one_if (top == level && n == m) = ap one_if (own_here l true) in omega (arith, here)
  revived_here (BufferIn b) = omega arith

  rest_owners : (known : ByName VariableState) → lookup x known ≡ None
      → length (filter (owns us level m) (map (λ (v : Identifier × VariableState). (v.0, if bytes_eq x v.0 then revived v.1 else v.1)) known)) ≡ length (filter (owns vs level m) known)
  rest_owners [] none = refl
  rest_owners ((y, v) ∷ known) none =
      let further = not_first x y v known none in
      by_test (bytes_eq x y) refl further.0 (rest_owners known further.1)
    where
      by_test : (b : Bool) → bytes_eq x y ≡ b → y ≢ x → length (filter (owns us level m) (map (λ (v : Identifier × VariableState). (v.0, if bytes_eq x v.0 then revived v.1 else v.1)) known)) ≡ length (filter (owns vs level m) known)
          → length (filter (owns us level m) ((y, if b then revived v else v) ∷ map (λ (v : Identifier × VariableState). (v.0, if bytes_eq x v.0 then revived v.1 else v.1)) known)) ≡ length (filter (owns vs level m) ((y, v) ∷ known))
      by_test true e other later = absurd (other (sym ((bytes_eq-Decides x y).0 e)))
      by_test false e other later =
          let new = counted_here (owns us level m (y, v)) (y, v) (filter (owns us level m) (map (λ (v : Identifier × VariableState). (v.0, if bytes_eq x v.0 then revived v.1 else v.1)) known)) in
          let old = counted_here (owns vs level m (y, v)) (y, v) (filter (owns vs level m) known) in
          let one : one_if (owns us level m (y, v)) ≡ one_if (owns vs level m (y, v)) = ap one_if (one_owns vs us level m y v (lookup_other x y (LocalRef top (Some n)) vs other)) in
          omega (arith, new, old, one, later)

  -- at most one owner more
  pub revived_owners : (known : ByName VariableState) → AreOnce known
      → length (filter (owns us level m) (map (λ (v : Identifier × VariableState). (v.0, if bytes_eq x v.0 then revived v.1 else v.1)) known)) ≤ length (filter (owns vs level m) known) + one_if (top == level && n == m)
  revived_owners [] once = omega arith
  revived_owners ((y, v) ∷ known) once = by_test (bytes_eq x y) refl (revived_owners known once.1)
    where
      by_test : (b : Bool) → bytes_eq x y ≡ b → length (filter (owns us level m) (map (λ (v : Identifier × VariableState). (v.0, if bytes_eq x v.0 then revived v.1 else v.1)) known)) ≤ length (filter (owns vs level m) known) + one_if (top == level && n == m)
          → length (filter (owns us level m) ((y, if b then revived v else v) ∷ map (λ (v : Identifier × VariableState). (v.0, if bytes_eq x v.0 then revived v.1 else v.1)) known)) ≤ length (filter (owns vs level m) ((y, v) ∷ known)) + one_if (top == level && n == m)
      by_test true e later =
          let name : x ≡ y = (bytes_eq-Decides x y).0 e in
          let rest = rest_owners known (subst (λ (z : Identifier). lookup z known ≡ None) (sym name) once.0) in
          let new = counted_here (owns us level m (y, revived v)) (y, revived v) (filter (owns us level m) (map (λ (v : Identifier × VariableState). (v.0, if bytes_eq x v.0 then revived v.1 else v.1)) known)) in
          let old = counted_here (owns vs level m (y, v)) (y, v) (filter (owns vs level m) known) in
          let one = subst (λ (z : Identifier). one_if (owns us level m (z, revived v)) ≤ one_if (top == level && n == m)) name (revived_here v) in
          omega (arith, new, old, one, rest)
      by_test false e later =
          let other : y ≢ x = λ same. let here : bytes_eq x y ≡ true = (bytes_eq-Decides x y).1 (sym same) in let c : true ≡ false = sym here ∙ e in cc in
          let new = counted_here (owns us level m (y, v)) (y, v) (filter (owns us level m) (map (λ (v : Identifier × VariableState). (v.0, if bytes_eq x v.0 then revived v.1 else v.1)) known)) in
          let old = counted_here (owns vs level m (y, v)) (y, v) (filter (owns vs level m) known) in
          let one : one_if (owns us level m (y, v)) ≡ one_if (owns vs level m (y, v)) = ap one_if (one_owns vs us level m y v (lookup_other x y (LocalRef top (Some n)) vs other)) in
          omega (arith, new, old, one, later)

-- ---- the points

module _ (ss : Statics) (vs : Variables) (frame : Frame) (below : List Frame) (p : Point) {weak : WeakNames} {own : Owners} (stands : Stands weak own ss vs (frame ∷ below) p) (n : ℕ) where
  -- one reference more, which no variable holds
  pub stands_more : Stands weak own ss vs (with_local n (frame ∷ below)) p
  stands_more = record {
    types = stands.types;
    kinds = stands.kinds;
    only = stands.only;
    shows = stands.shows;
    held = stands.held;
    once = stands.once;
    known_once = stands.known_once;
    depth = stands.depth;
    backed = λ level m. let more = more_copies level n m (frame ∷ below) in let enough = stands.backed level m in omega (arith, more, enough);
    owned = stands.owned;
  }

  -- a new variable holds it
  pub stands_declared : {new : Owners} (x : Identifier) → ((y : Identifier) → y ≢ x → new y ≡ own y) → new x ≡ Some p.regions.frames → IsNew p x
      → Stands weak new ss (assign x (LocalRef (suc (length below)) (Some n)) vs) (with_local n (frame ∷ below)) (at (named p x types.Ref) (with_new p.regions x (ReferenceAt p.regions.frames true)))
  stands_declared x keeps here_own new = stands_at ss vs (frame ∷ below) p stands x (LocalRef (suc (length below)) (Some n)) (with_local n (frame ∷ below)) (at (named p x types.Ref) (with_new p.regions x (ReferenceAt p.regions.frames true))) (record {
    elsewhere = λ y other. front_other x y (ReferenceAt p.regions.frames true) p.regions.variables other;
    apart = λ y a access m level h at_a same. new.unused y access (subst (Holds p y access) same h);
    here = λ v e.
        let both : Some (ReferenceAt p.regions.frames true) ≡ Some v = sym (front_same x (ReferenceAt p.regions.frames true) p.regions.variables) ∙ e in
        let one : ReferenceAt p.regions.frames true ≡ v = cc in
        subst (λ (v : VariableState). Shows (assign x (LocalRef (suc (length below)) (Some n)) vs) v (Some (LocalRef (suc (length below)) (Some n)))) one
        (Some n, ap (λ (l : ℕ). Some (LocalRef l (Some n))) stands.depth);
    types = types_named ss vs (frame ∷ below) p stands x (LocalRef (suc (length below)) (Some n)) types.Ref (suc (length below), Some n, refl);
    held = λ u b e. absurd (ref_no_buffer (suc (length below)) (Some n) u b e);
    kinds = kinds_named weak x types.Ref p.names tt stands.kinds;
    known_once = (new.unknown, stands.known_once);
    depth = stands.depth;
    backed = λ level m.
        let owned = declared_owners vs x (suc (length below)) n level m p.regions.frames p.regions.variables new.unknown in
        let grown = copies_grow (suc (length below)) n level m frame below refl in
        let enough = stands.backed level m in
        omega (arith, owned, grown, enough);
    keeps = keeps;
    owned_here = λ level l m known h. here_own ∙ ap (λ (i : ℕ). Some i) (let c : LocalRef (length (frame ∷ below)) (Some n) ≡ LocalRef l (Some m) = h in let d : length (frame ∷ below) ≡ l = cc in sym stands.depth ∙ d);
  })

  -- a variable that is there holds it
  pub stands_assigned : {new : Owners} (x : Identifier) → ((y : Identifier) → y ≢ x → new y ≡ own y) → new x ≡ Some p.regions.frames → MaySet p x → type_in p.names x ≡ Some types.Ref
      → Stands weak new ss (assign x (LocalRef p.regions.frames (Some n)) vs) (with_local n (frame ∷ below)) (at p (with_changed p.regions x revived))
  stands_assigned x keeps here_own may e = stands_at ss vs (frame ∷ below) p stands x (LocalRef p.regions.frames (Some n)) (with_local n (frame ∷ below)) (at p (with_changed p.regions x revived)) (record {
    elsewhere = λ y other. known_other p.regions x y revived other;
    apart = λ y a access m level h at_a same. may.unused y access (subst (Holds p y access) same h);
    here = λ v h.
        let both : Some (ReferenceAt p.regions.frames true) ≡ Some v = sym (known_same p.regions x revived ∙ ap (option_map revived) may.known) ∙ h in
        let one : ReferenceAt p.regions.frames true ≡ v = cc in
        subst (λ (v : VariableState). Shows (assign x (LocalRef p.regions.frames (Some n)) vs) v (Some (LocalRef p.regions.frames (Some n)))) one (Some n, refl);
    types = types_kept ss vs (frame ∷ below) p stands x (LocalRef p.regions.frames (Some n)) types.Ref e (p.regions.frames, Some n, refl);
    held = λ u b h. absurd (ref_no_buffer p.regions.frames (Some n) u b h);
    kinds = stands.kinds;
    known_once = once_changed (λ (y : Identifier) (old : VariableState). if bytes_eq x y then revived old else old) p.regions.variables stands.known_once;
    depth = stands.depth;
    backed = λ level m.
        let owned = revived_owners vs x p.regions.frames n level m p.regions.variables stands.known_once in
        let grown = copies_grow p.regions.frames n level m frame below (sym stands.depth) in
        let enough = stands.backed level m in
        omega (arith, owned, grown, enough);
    keeps = keeps;
    owned_here = λ level l m known h. here_own ∙ ap (λ (i : ℕ). Some i) (let c : LocalRef p.regions.frames (Some n) ≡ LocalRef l (Some m) = h in cc);
  })

-- ---- the targets

-- the owners with this one at a level
abbrev pub with_target : Target → ℕ → Owners → Owners
with_target target level own y = if is_target target y then Some level else own y

name_other : (x y : Identifier) → y ≢ x → bytes_eq y x ≡ false
name_other x y other = by_test (bytes_eq y x) refl
  where
    by_test : (b : Bool) → bytes_eq y x ≡ b → b ≡ false
    by_test true e = absurd (other ((bytes_eq-Decides y x).0 e))
    by_test false e = refl

module _ (s : Shared) (t : Thread) (rest : List Task) (frame : Frame) (below : List Frame) (p : Point) {weak : WeakNames} {own : Owners} (stands : Stands weak own s.statics t.variables (frame ∷ below) p) (n : ℕ) where
  -- the thread with the reference in its frame
  abbrev with_it : Thread
  with_it = record t { frames = with_local n (frame ∷ below); tasks = Some rest }

  declared : (kind : VariableKind) (x : Identifier) (get : Option (Access × Option Identifier)) → DeclaresResult p kind x NewLocal get (GoesOn rest) → Lands weak (with_target (Declared kind x) p.regions.frames own) s.statics (put (Declared kind x) (ReferenceResult (Some n)) s with_it)
  declared kinds.Reference x get (new, g) =
      ((at (named p x types.Ref) (with_new p.regions x (ReferenceAt p.regions.frames true)), stands_declared s.statics t.variables frame below p stands n x (λ y other. ap (λ (b : Bool). if b then Some p.regions.frames else own y) (name_other x y other)) (ap (λ (b : Bool). if b then Some p.regions.frames else own x) (is_same x)) new, g), same_statics s.statics)
  declared kinds.Number x get h = absurd h
  declared kinds.Field x get h = absurd h
  declared kinds.Method x get h = absurd h
  declared (kinds.Buffer u) x get h = absurd h

  assigned : (x : Identifier) (o : Option ExprType) (get : Option (Access × Option Identifier)) → type_in p.names x ≡ o → AssignsResult p o x NewLocal get (GoesOn rest) → Lands weak (with_target (Assigned x) p.regions.frames own) s.statics (put_assigned x (ReferenceResult (Some n)) s with_it (lookup x t.variables))
  assigned x (Some types.Ref) get e (may, g) =
      let shown = stands.shows x _ may.known in
      subst (λ (v : Option Variable). Lands weak (with_target (Assigned x) p.regions.frames own) s.statics (put_assigned x (ReferenceResult (Some n)) s with_it v)) (sym shown.1)
      ((at p (with_changed p.regions x revived), stands_assigned s.statics t.variables frame below p stands n x (λ y other. ap (λ (b : Bool). if b then Some p.regions.frames else own y) (name_other x y other)) (ap (λ (b : Bool). if b then Some p.regions.frames else own x) (is_same x)) may e, g), same_statics s.statics)
  assigned x o get e h = absurd h

  -- the reference goes where it may
  pub local_lands : (target : Target) (get : Option (Access × Option Identifier)) → ResultGoes target NewLocal get (GoesOn rest) p → Lands weak (with_target target p.regions.frames own) s.statics (put target (ReferenceResult (Some n)) s with_it)
  local_lands (Declared kind x) get h = declared kind x get h
  local_lands (Assigned x) get h = assigned x (type_in p.names x) get refl h
  local_lands (Tested a b) get h = absurd h
  local_lands Dropped get h = ((p, stands_with (with_target Dropped p.regions.frames own) s.statics t.variables (with_local n (frame ∷ below)) p (stands_more s.statics t.variables frame below p stands n) stands.owned, h.1), same_statics s.statics)
