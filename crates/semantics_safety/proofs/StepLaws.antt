-- A thread that is at a point is at one after each effect that follows, and the step is possible.
use Rattle.std.proofs.Common.{◌≡◌, ◌≢◌, ℕ, arith, Bool, true, false, inl, inr, List, ◌∷◌, replicate, Option, Some, None, refl, sym, ap, ◌∙◌, subst, if◌then◌else◌}
use Rattle.std.specs.Prelude.{ℤ, pos, slice_set}
use Rattle.base.specs.Bytes.{Identifier, lookup}
use Rattle.base.specs.declared.element.ElementType.{ElementType}
use Rattle.class_rules.specs.Class.{Classes}
use Rattle.type_rules.specs.declared.ty.ExprType.{ExprType}
use Rattle.type_rules.specs.ExprTypes.{type_in}
use Rattle.type_rules.specs.declared.ty.ExprType.TheVariants as types
use Rattle.type_rules.specs.TypeGroups.{IsNumberType}
use Rattle.semantics.specs.Effect.{Effect, Becomes, Sets, SetsNull, SetsElement, MakesArray, Prints, Calls, Returns, TrapsAt, NoEffect}
use Rattle.semantics.specs.Task.{Task}
use Rattle.semantics.specs.Thread.{Thread, Shared, BuffersInUse, Frame, Advance, Advances, NoAdvance}
use Rattle.semantics.specs.declared.event.Event.{Event}
use Rattle.semantics.specs.ThreadStep.{set_element, with_tasks, after_effect}
use Rattle.semantics.specs.declared.value.Value.{Value}
use Rattle.semantics.specs.declared.value.Value.TheVariants.{Word, Int, Flag, Truth}
use Rattle.semantics.specs.Value.{convert}
use Rattle.semantics.specs.Variable.{Variable, Scalar, LocalRef, FieldHandle, MethodHandle, Elements, LocalArray, Buffer, NoBuffer, Copy, View, StaticReference, Variables, Statics, assign}
use Rattle.semantics_safety.specs.Owners.{Owners}
use Rattle.semantics_safety.specs.Points.{Point, value_type, ElementsFit, is_copy, owns}
use Rattle.semantics_safety.specs.Stands.{VariableFits, IsOf, Shows, Goes, Stands}
use Rattle.region_rules.specs.RegionStates.{VariableState, Free, Untested, Usable, ReferenceAt, BufferIn, with_new}
use Rattle.jni.specs.Access.{is_critical}
use Rattle.semantics_safety.specs.Wanted.{Holds, IsNew, SetsNumber, GoesOn, at, named}
use Rattle.semantics_safety.specs.Follows.{Follows}
use Rattle.semantics_safety.specs.WeakNames.{WeakNames, IsOfKind}
use Rattle.semantics_safety.proofs.NameLaws.{one_or_other, lookup_same, lookup_other, front_same, front_other}
use Rattle.semantics.specs.Sight.{Sight}
use Rattle.std.specs.Prelude.{length, filter, ◌&&◌}
use Rattle.syntax.specs.Tree.{SourceUnit}
use Rattle.semantics_safety.proofs.SetLaws.{stands_new, stands_kept, none_some, stands_at, owners_same, owners_elsewhere, types_named, kinds_named}

-- the thread is at a point from which its tasks go on
abbrev pub GoesFrom : WeakNames → Owners → Statics → Variables → List Frame → List Task → Type 0
GoesFrom weak own ss vs frames tasks = (q : Point) × Stands weak own ss vs frames q × GoesOn tasks q

-- a step that leaves the thread so, with owners by its event and by the variables that it leaves, and the names of the statics as they were
abbrev pub LandsBy : WeakNames → (Event → Variables → Owners) → Statics → Advance → Type 0
LandsBy weak give ss (Advances s t event) = Goes weak (give event t.variables) s.statics t t.tasks
    × ((x : Identifier) (r : StaticReference) → lookup x ss ≡ Some r → (q : StaticReference) × (lookup x s.statics ≡ Some q))
LandsBy weak give ss NoAdvance = ⊥

-- with these owners, whatever they are
abbrev pub Lands : WeakNames → Owners → Statics → Advance → Type 0
Lands weak own ss e = LandsBy weak (λ event vs. own) ss e

pub same_statics : (ss : Statics) (x : Identifier) (r : StaticReference) → lookup x ss ≡ Some r → (q : StaticReference) × (lookup x ss ≡ Some q)
same_statics ss x r e = (r, e)

module _ (unit : SourceUnit) (classes : Classes) (in_use : BuffersInUse) (k : ℕ) (s : Shared) (t : Thread) (rest : List Task) (p : Point) {weak : WeakNames} {own : Owners} (stands : Stands weak own s.statics t.variables t.frames p) where
  -- ---- numbers

  number_old : (ty : ExprType) (o : Option Variable) (g : Option StaticReference) → IsNumberType ty → VariableFits ty o g → (v : Value) × (o ≡ Some (Scalar v))
  number_old types.Word o g n (v, e, f) = (v, e)
  number_old types.Jint o g n (v, e, f) = (v, e)
  number_old types.Flag o g n (v, e, f) = (v, e)
  number_old r o g n h = absurd n

  number_fits : (v : Value) (g : Option StaticReference) → IsNumberType (value_type v) → VariableFits (value_type v) (Some (Scalar v)) g
  number_fits (Word n) g h = (Word n, refl, refl)
  number_fits (Int z) g h = (Int z, refl, refl)
  number_fits (Flag b) g h = (Flag b, refl, refl)
  number_fits (Truth b) g h = absurd h

  number_kind : (b : Bool) (v : Value) → IsNumberType (value_type v) → IsOfKind b (value_type v)
  number_kind b (Word n) h = tt
  number_kind b (Int z) h = tt
  number_kind b (Flag c) h = tt
  number_kind b (Truth c) h = tt

  scalar_no_ref : (v : Value) (level : ℕ) (r : _) → Scalar v ≡ LocalRef level r → ⊥
  scalar_no_ref v level r e = cc

  scalar_no_buffer : (v : Value) (u : ElementType) (b : Buffer) → Scalar v ≡ Elements u b → ⊥
  scalar_no_buffer v u b e = cc

  sets_lands : (x : Identifier) (v : Value) → SetsNumber x (value_type v) (GoesOn rest) p → IsNumberType (value_type v) → GoesFrom weak own s.statics (assign x (Scalar v) t.variables) t.frames rest
  sets_lands x v (inl (e, g)) n =
      let old = number_old (value_type v) (lookup x t.variables) (lookup x s.statics) n (stands.types x (value_type v) e) in (
        p,
        stands_kept s.statics t.variables t.frames p stands x (Scalar v) (value_type v) (Scalar old.0) e old.1 (scalar_no_ref old.0) (scalar_no_buffer old.0) (number_fits v (lookup x s.statics) n) (λ u b c. absurd (scalar_no_buffer v u b c)),
        g,
      )
  sets_lands x v (inr (new, g)) n =
      (named p x (value_type v), stands_new s.statics t.variables t.frames p stands x (Scalar v) (value_type v) new (number_kind (weak x) v n) (number_fits v (lookup x s.statics) n) (λ u b c. absurd (scalar_no_buffer v u b c)), g)

  -- ---- arrays

  array_no_ref : (u : ElementType) (zs : List ℤ) (level : ℕ) (r : _) → LocalArray u zs ≡ LocalRef level r → ⊥
  array_no_ref u zs level r e = cc

  array_no_buffer : (v : ElementType) (zs : List ℤ) (u : ElementType) (b : Buffer) → LocalArray v zs ≡ Elements u b → ⊥
  array_no_buffer v zs u b e = cc

  makes_lands : (u : ElementType) (x : Identifier) (size : ℕ) → IsNew p x → GoesOn rest (named p x (types.Array u size)) → GoesFrom weak own s.statics (assign x (LocalArray u (replicate size (pos 0))) t.variables) t.frames rest
  makes_lands u x size new g = (
    named p x (types.Array u size),
    stands_new s.statics t.variables t.frames p stands x (LocalArray u (replicate size (pos 0))) (types.Array u size) new tt (replicate size (pos 0), refl) (λ v b c. absurd (array_no_buffer u (replicate size (pos 0)) v b c)),
    g,
  )

  -- ---- elements

  -- a copy with other elements lends as the copy did
  lends_again : (critical : Bool) (m n : ℕ) (zs ys : List ℤ) → IsOf critical m (Copy n zs) → IsOf critical m (Copy n ys)
  lends_again true m n zs ys e = absurd (cc)
  lends_again false m n zs ys (xs, e) = (ys, let same : n ≡ m = cc in ap (λ (i : ℕ). Copy i ys) same)

  copy_shows : (vs us : Variables) (v : VariableState) (u : ElementType) (n : ℕ) (zs ys : List ℤ) (o : Option Variable) → o ≡ Some (Elements u (Copy n zs)) → Shows vs v o
      → ((a : Identifier) (m level : ℕ) → lookup a vs ≡ Some (LocalRef level (Some m)) → lookup a us ≡ lookup a vs) → Shows us v (Some (Elements u (Copy n ys)))
  copy_shows vs us (ReferenceAt level live) u n zs ys o e (r, h) same = absurd (let c : Some (Elements u (Copy n zs)) ≡ Some (LocalRef level r) = sym e ∙ h in cc)
  copy_shows vs us (BufferIn Free) u n zs ys o e (w, b, h, none) same =
      absurd (let c : Some (Elements u (Copy n zs)) ≡ Some (Elements w b) = sym e ∙ h in let d : Copy n zs ≡ b = cc in let f : Copy n zs ≡ NoBuffer = d ∙ none in cc)
  copy_shows vs us (BufferIn (Untested access a)) u n zs ys o e (w, b, h, inl none) same =
      absurd (let c : Some (Elements u (Copy n zs)) ≡ Some (Elements w b) = sym e ∙ h in let d : Copy n zs ≡ b = cc in let f : Copy n zs ≡ NoBuffer = d ∙ none in cc)
  copy_shows vs us (BufferIn (Untested access a)) u n zs ys o e (w, b, h, inr (m, level, at_a, is)) same =
      let c : Some (Elements u (Copy n zs)) ≡ Some (Elements w b) = sym e ∙ h in
      let d : b ≡ Copy n zs = cc in
      (u, Copy n ys, refl, inr (m, level, same a m level at_a ∙ at_a, lends_again (is_critical access) m n zs ys (subst (IsOf (is_critical access) m) d is)))
  copy_shows vs us (BufferIn (Usable access a)) u n zs ys o e (w, b, h, (m, level, at_a, is)) same =
      let c : Some (Elements u (Copy n zs)) ≡ Some (Elements w b) = sym e ∙ h in
      let d : b ≡ Copy n zs = cc in
      (u, Copy n ys, refl, (m, level, same a m level at_a ∙ at_a, lends_again (is_critical access) m n zs ys (subst (IsOf (is_critical access) m) d is)))

  -- a variable that is no reference is no buffer's array
  pub apart_buffer : (x : Identifier) (u : ElementType) (b : Buffer) → lookup x t.variables ≡ Some (Elements u b) → (a : Identifier) (m level : ℕ) → lookup a t.variables ≡ Some (LocalRef level (Some m)) → a ≢ x
  apart_buffer x u b e a m level h same =
      let c : lookup x t.variables ≡ Some (LocalRef level (Some m)) = subst (λ (z : Identifier). lookup z t.variables ≡ Some (LocalRef level (Some m))) same h in
      let d : Some (Elements u b) ≡ Some (LocalRef level (Some m)) = sym e ∙ c in cc

  pub type_of_buffer : (r : ExprType) (o : Option Variable) (g : Option StaticReference) (u : ElementType) (b c : Buffer) → o ≡ Some (Elements u b) → VariableFits r o g → VariableFits r (Some (Elements u c)) g
  type_of_buffer types.Ref o g u b c e (level, q, h) = absurd (let d : Some (Elements u b) ≡ Some (LocalRef level q) = sym e ∙ h in cc)
  type_of_buffer types.Global o g u b c e (none, h) = absurd (none_some o (Elements u b) none e)
  type_of_buffer types.Weak o g u b c e (none, h) = absurd (none_some o (Elements u b) none e)
  type_of_buffer types.FieldId o g u b c e (f, h) = absurd (let d : Some (Elements u b) ≡ Some (FieldHandle f) = sym e ∙ h in cc)
  type_of_buffer types.MethodId o g u b c e (f, h) = absurd (let d : Some (Elements u b) ≡ Some (MethodHandle f) = sym e ∙ h in cc)
  type_of_buffer (types.Buffer v w) o g u b c e (d, h) =
      let both : Some (Elements u b) ≡ Some (Elements v d) = sym e ∙ h in
      let same : u ≡ v = cc in
      (c, ap (λ (x : ElementType). Some (Elements x c)) same)
  type_of_buffer (types.Array v size) o g u b c e (zs, h) = absurd (let d : Some (Elements u b) ≡ Some (LocalArray v zs) = sym e ∙ h in cc)
  type_of_buffer types.Truth o g u b c e h = absurd h
  type_of_buffer types.Word o g u b c e (v, h, f) = absurd (let d : Some (Elements u b) ≡ Some (Scalar v) = sym e ∙ h in cc)
  type_of_buffer types.Jint o g u b c e (v, h, f) = absurd (let d : Some (Elements u b) ≡ Some (Scalar v) = sym e ∙ h in cc)
  type_of_buffer types.Flag o g u b c e (v, h, f) = absurd (let d : Some (Elements u b) ≡ Some (Scalar v) = sym e ∙ h in cc)

  pub buffer_no_copy : (level n : ℕ) (u : ElementType) (b c : Buffer) (o : Option Variable) → o ≡ Some (Elements u b) → is_copy level n (Some (Elements u c)) ≡ is_copy level n o
  buffer_no_copy level n u b c o e = subst (λ (v : Option Variable). false ≡ is_copy level n v) (sym e) refl

  copy_set : (x : Identifier) (u : ElementType) (n : ℕ) (zs ys : List ℤ) → lookup x t.variables ≡ Some (Elements u (Copy n zs)) → Stands weak own s.statics (assign x (Elements u (Copy n ys)) t.variables) t.frames p
  copy_set x u n zs ys e = stands_at s.statics t.variables t.frames p stands x (Elements u (Copy n ys)) t.frames p (record {
    elsewhere = λ y other. refl;
    apart = λ y a access m level h at_a. apart_buffer x u (Copy n zs) e a m level at_a;
    here = λ v h. copy_shows t.variables (assign x (Elements u (Copy n ys)) t.variables) v u n zs ys (lookup x t.variables) e (stands.shows x v h)
        (λ a m level at_a. lookup_other x a (Elements u (Copy n ys)) t.variables (apart_buffer x u (Copy n zs) e a m level at_a));
    types = λ y r h. elim (one_or_other y x) [
      | inl same ↦
          subst (λ (z : Identifier). VariableFits r (lookup z (assign x (Elements u (Copy n ys)) t.variables)) (lookup z s.statics)) (sym same)
          (subst (λ (o : Option Variable). VariableFits r o (lookup x s.statics)) (sym (lookup_same x (Elements u (Copy n ys)) t.variables))
          (type_of_buffer r (lookup x t.variables) (lookup x s.statics) u (Copy n zs) (Copy n ys) e (stands.types x r (subst (λ (z : Identifier). type_in p.names z ≡ Some r) same h))))
      | inr other ↦ subst (λ (o : Option Variable). VariableFits r o (lookup y s.statics)) (sym (lookup_other x y (Elements u (Copy n ys)) t.variables other)) (stands.types y r h)
    ];
    held = λ v b h. elim (stands.held x u (Copy n zs) e) [ inl none ↦ absurd (copy_is n zs none) | inr k ↦ inr k ];
    kinds = stands.kinds;
    known_once = stands.known_once;
    depth = stands.depth;
    backed = λ level m.
        let same = owners_same t.variables (assign x (Elements u (Copy n ys)) t.variables) level m p.regions.variables (λ y. elim (one_or_other y x) [
          | inl is ↦ subst (λ (z : Identifier). is_copy level m (lookup z (assign x (Elements u (Copy n ys)) t.variables)) ≡ is_copy level m (lookup z t.variables)) (sym is)
              (ap (is_copy level m) (lookup_same x (Elements u (Copy n ys)) t.variables) ∙ buffer_no_copy level m u (Copy n zs) (Copy n ys) (lookup x t.variables) e)
          | inr other ↦ ap (is_copy level m) (lookup_other x y (Elements u (Copy n ys)) t.variables other)
        ]) in
        let enough = stands.backed level m in
        omega (arith, same, enough);
    keeps = λ y other. refl;
    owned_here = λ level l m known h. absurd (let c : Elements u (Copy n ys) ≡ LocalRef l (Some m) = h in cc);
  })
    where
      copy_is : (n : ℕ) (zs : List ℤ) → Copy n zs ≡ NoBuffer → ⊥
      copy_is n zs e = cc

  -- ---- an element is set

  -- what an element is stored in
  pub data Store : Option Variable → Type 0 where
    InArray : (u : ElementType) (zs : List ℤ) → Store (Some (LocalArray u zs))
    InCopy : (u : ElementType) (n : ℕ) (zs : List ℤ) → Store (Some (Elements u (Copy n zs)))
    InView : (u : ElementType) (n : ℕ) → Store (Some (Elements u (View n)))

  lent_store : (u : ElementType) (critical : Bool) (n : ℕ) (b : Buffer) → IsOf critical n b → Store (Some (Elements u b))
  lent_store u true n b e = subst (λ (c : Buffer). Store (Some (Elements u c))) (sym e) (InView u n)
  lent_store u false n b (zs, e) = subst (λ (c : Buffer). Store (Some (Elements u c))) (sym e) (InCopy u n zs)

  stores : (x : Identifier) (r : Option ExprType) → type_in p.names x ≡ r → ElementsFit p x r → Store (lookup x t.variables)
  stores x (Some (types.Buffer v w)) e (access, a, known) =
      let shown = stands.shows x _ known in
      subst Store (sym shown.2) (lent_store shown.0 (is_critical access) shown.3.0 shown.1 shown.3.3)
  stores x (Some (types.Array v size)) e h = let there = stands.types x (types.Array v size) e in subst Store (sym there.1) (InArray v there.0)
  stores x r e h = absurd h

  array_type : (x : Identifier) (r : ExprType) (o : Option Variable) (g : Option StaticReference) (u : ElementType) (zs ys : List ℤ) → ElementsFit p x (Some r) → o ≡ Some (LocalArray u zs) → VariableFits r o g → VariableFits r (Some (LocalArray u ys)) g
  array_type x (types.Array v size) o g u zs ys fit e (xs, h) =
      let c : Some (LocalArray v xs) ≡ Some (LocalArray u zs) = sym h ∙ e in
      let d : v ≡ u = cc in
      (ys, ap (λ (w : ElementType). Some (LocalArray w ys)) (sym d))
  array_type x (types.Buffer v w) o g u zs ys fit e (b, h) = absurd (let c : Some (Elements v b) ≡ Some (LocalArray u zs) = sym h ∙ e in cc)
  array_type x r o g u zs ys fit e h = absurd fit

  array_set : (x : Identifier) (u : ElementType) (zs ys : List ℤ) (r : Option ExprType) → type_in p.names x ≡ r → ElementsFit p x r → lookup x t.variables ≡ Some (LocalArray u zs) → Stands weak own s.statics (assign x (LocalArray u ys) t.variables) t.frames p
  array_set x u zs ys None e fit at_x = absurd fit
  array_set x u zs ys (Some r) e fit at_x =
      stands_kept s.statics t.variables t.frames p stands x (LocalArray u ys) r (LocalArray u zs) e at_x (array_no_ref u zs) (array_no_buffer u zs)
      (array_type x r (lookup x t.variables) (lookup x s.statics) u zs ys fit at_x (stands.types x r e)) (λ v b c. absurd (array_no_buffer u ys v b c))

  element_lands : (x : Identifier) (i : ℕ) (z : ℤ) (o : Option Variable) → lookup x t.variables ≡ o → Store o → ElementsFit p x (type_in p.names x) → GoesOn rest p → Lands weak own s.statics (set_element s (with_tasks t rest) x i z o)
  element_lands x i z o e (InArray u zs) fit g = ((p, array_set x u zs (slice_set zs i (convert u z)) (type_in p.names x) refl fit e, g), same_statics s.statics)
  element_lands x i z o e (InCopy u n zs) fit g = ((p, copy_set x u n zs (slice_set zs i (convert u z)) e, g), same_statics s.statics)
  element_lands x i z o e (InView u n) fit g = ((p, stands, g), same_statics s.statics)

  -- ---- NULL is set

  ref_no_buffer : (level : ℕ) (r : _) (u : ElementType) (b : Buffer) → LocalRef level r ≡ Elements u b → ⊥
  ref_no_buffer level r u b e = cc

  field_no_buffer : (f : _) (u : ElementType) (b : Buffer) → FieldHandle f ≡ Elements u b → ⊥
  field_no_buffer f u b e = cc

  field_no_ref : (f : _) (level : ℕ) (r : _) → FieldHandle f ≡ LocalRef level r → ⊥
  field_no_ref f level r e = cc

  null_owns : (x : Identifier) (level : ℕ) (l n : ℕ) (v : VariableState) → owns (assign x (LocalRef level None) t.variables) l n (x, v) ≡ false
  null_owns x level l n (ReferenceAt m live) = ap (λ (o : Option Variable). live && is_copy l n o) (lookup_same x (LocalRef level None) t.variables) ∙ no_and live
    where
      no_and : (b : Bool) → (b && false) ≡ false
      no_and true = refl
      no_and false = refl
  null_owns x level l n (BufferIn b) = refl

  -- a new reference that is NULL
  pub null_declared : (x : Identifier) → IsNew p x → Stands weak own s.statics (assign x (LocalRef (length t.frames) None) t.variables) t.frames (at (named p x types.Ref) (with_new p.regions x (ReferenceAt p.regions.frames true)))
  null_declared x new = stands_at s.statics t.variables t.frames p stands x (LocalRef (length t.frames) None) t.frames _ (record {
    elsewhere = λ y other. front_other x y (ReferenceAt p.regions.frames true) p.regions.variables other;
    apart = λ y a access m level h at_a same. new.unused y access (subst (Holds p y access) same h);
    here = λ v e.
        let both : Some (ReferenceAt p.regions.frames true) ≡ Some v = sym (front_same x (ReferenceAt p.regions.frames true) p.regions.variables) ∙ e in
        let one : ReferenceAt p.regions.frames true ≡ v = cc in
        subst (λ (v : VariableState). Shows (assign x (LocalRef (length t.frames) None) t.variables) v (Some (LocalRef (length t.frames) None))) one
        (None, ap (λ (n : ℕ). Some (LocalRef n None)) stands.depth);
    types = types_named s.statics t.variables t.frames p stands x (LocalRef (length t.frames) None) types.Ref (length t.frames, None, refl);
    held = λ u b e. absurd (ref_no_buffer (length t.frames) None u b e);
    kinds = kinds_named weak x types.Ref p.names tt stands.kinds;
    known_once = (new.unknown, stands.known_once);
    depth = stands.depth;
    backed = λ level n.
        let us = assign x (LocalRef (length t.frames) None) t.variables in
        let none : owns us level n (x, ReferenceAt p.regions.frames true) ≡ false = null_owns x (length t.frames) level n (ReferenceAt p.regions.frames true) in
        let same = owners_elsewhere t.variables x (LocalRef (length t.frames) None) level n p.regions.variables new.unknown in
        let drop_first : length (if owns us level n (x, ReferenceAt p.regions.frames true) then (x, ReferenceAt p.regions.frames true) ∷ filter (owns us level n) p.regions.variables else filter (owns us level n) p.regions.variables) ≡ length (filter (owns us level n) p.regions.variables)
        = ap (λ (b : Bool). length (if b then (x, ReferenceAt p.regions.frames true) ∷ filter (owns us level n) p.regions.variables else filter (owns us level n) p.regions.variables)) none in
        let enough = stands.backed level n in
        omega (arith, drop_first, same, enough);
    keeps = λ y other. refl;
    owned_here = λ level l n e h. absurd (let c : LocalRef (length t.frames) None ≡ LocalRef l (Some n) = h in cc);
  })

  -- ---- effects without a call

  -- an effect that calls nothing, puts NULL nowhere and returns from nothing
  abbrev pub IsPlain : Effect → Type 0
  IsPlain (Calls line target f args) = ⊥
  IsPlain (SetsNull target) = ⊥
  IsPlain (Returns given) = ⊥
  IsPlain e = Unit {0}

  pub plain_lands : (sight : Sight) (e : Effect) → IsPlain e → Goes weak own s.statics t t.tasks → Follows weak own sight s.statics t.variables t.frames p rest e → Lands weak own s.statics (after_effect unit classes in_use k s t rest e)
  plain_lands sight (Becomes tasks) plain whole (q, there, g) = ((q, there, g), same_statics s.statics)
  plain_lands sight (Sets x v) plain whole h = (sets_lands x v h.0 h.1, same_statics s.statics)
  plain_lands sight (SetsNull target) plain whole h = absurd plain
  plain_lands sight (SetsElement x i z) plain whole h = element_lands x i z (lookup x t.variables) refl (stores x (type_in p.names x) refl h.0) h.0 h.1
  plain_lands sight (MakesArray u x size) plain whole h = (makes_lands u x size h.0 h.1, same_statics s.statics)
  plain_lands sight (Prints z) plain whole h = ((p, stands, h.1), same_statics s.statics)
  plain_lands sight (Calls line target f args) plain whole h = absurd plain
  plain_lands sight (Returns given) plain whole h = absurd plain
  plain_lands sight (TrapsAt trap line) plain whole h = (whole, same_statics s.statics)
  plain_lands sight NoEffect plain whole h = absurd h
