-- No name is declared twice in a function, so that the names of its `jint`s are those of the slots that have one.
use Rattle.std.proofs.Common.{◌≡◌, ◌≢◌, ℕ, Bool, true, false, ◌||◌, List, [], ◌∷◌, ◌++◌, map, Some, None, refl, sym, ap, ◌∙◌, subst, append_assoc}
use Rattle.std.specs.Prelude.{filter_map}
use Rattle.std.specs.Str.{bytes_eq}
use Rattle.std.proofs.Math.Bool.{or-false}
use Rattle.std.proofs.lemmas.Bool.{or_parts, or_right, or_left, or_from}
use Rattle.std.proofs.lemmas.Cmp.{nat_list_eq_equiv}
use Rattle.std.proofs.lemmas.List.{append-nil}
use Rattle.std.proofs.lemmas.List.Elements.{filter_map-append}
use Rattle.std.proofs.lemmas.List.Folds.{list_any-append}
use Rattle.std.proofs.lemmas.Slice.Eq.{bytes_eq-Decides}
use Rattle.base.specs.Bytes.{Identifier, lookup}
use Rattle.syntax.specs.Parts.{statements_of, statements_within, declared_name, names_declared, parameter_names}
use Rattle.syntax.specs.declared.declared_type.DeclaredType.TheVariants.{Simple}
use Rattle.syntax.specs.Tree as tree
use Rattle.syntax.specs.declared.declared_type.VariableType.TheVariants as variables
use Rattle.syntax.specs.declared.declared_type.ParameterType.{ParameterType}
use Rattle.syntax.specs.declared.declared_type.ParameterType.TheVariants.{Jint as IntParameter, Reference as ReferenceParameter}
use Rattle.syntax.specs.declared.unit.ResultType.{ResultType}
use Rattle.syntax.specs.Tree.{Parameter, Function, Stmt, Block, End, Next}
use Rattle.type_rules.specs.declared.ty.ExprType.{ExprType}
use Rattle.type_rules.specs.declared.ty.ExprType.TheVariants.{Ref, Global, Weak, Array}
use Rattle.type_rules.specs.ExprTypes.{Scope, is_jint}
use Rattle.type_rules.specs.TypeRules.{declared_type, has_name, has_repeated, Place, HeadForm, parameter_type, with_declared, places_within, places_of, function_places}
use Rattle.type_rules.proofs.PlaceLists.{AreUnbroken, not_twice, first_unbroken}
use Rattle.type_rules.proofs.KeptPlaces.{own_kept, inside_kept, block_kept, paths_kept}
use Rattle.type_rules.proofs.NameLists.{has_last}
use Rattle.code_meaning.specs.Layout.{Slot, Known, Layout, new_slot, layout_after, parameter_slot, parameter_slots, numbers_after, references_after, entry_layout}
use Rattle.code_meaning.specs.Length.{int_parameter, int_declared, int_names}
use Rattle.code_meaning.specs.Fits.{AreStatics, IsStaticType}
use Rattle.code_meaning.proofs.SlotLaws.{first_or_after}
use Rattle.lower.proofs.NameFacts.{AreTaken}
use Rattle.lower.proofs.TypeFacts.{scope_of}

-- ---- names that are fresh

-- none of the names is taken, nor twice among them
abbrev AreFresh : (taken names : List Identifier) → Type 0
AreFresh taken [] = Unit {0}
AreFresh taken (x ∷ names) = (has_name taken x ≡ false) × AreFresh (taken ++ x ∷ []) names

fresh_both : (taken front back : List Identifier) → AreFresh taken front → AreFresh (taken ++ front) back → AreFresh taken (front ++ back)
fresh_both taken [] back h k = subst (λ (t : List Identifier). AreFresh t back) (append-nil taken) k
fresh_both taken (x ∷ front) back h k = (h.0, fresh_both (taken ++ x ∷ []) front back h.1 (subst (λ (t : List Identifier). AreFresh t back) (sym (append_assoc taken (x ∷ []) front)) k))

both_have : (xs ys : List Identifier) (x : Identifier) → has_name (xs ++ ys) x ≡ (has_name xs x || has_name ys x)
both_have xs ys x = list_any-append (bytes_eq x) xs ys

both_lack : (xs ys : List Identifier) (x : Identifier) → has_name xs x ≡ false → has_name ys x ≡ false → has_name (xs ++ ys) x ≡ false
both_lack xs ys x h k = both_have xs ys x ∙ or_from (has_name xs x) (has_name ys x) h k

-- a name that is taken isn't among them
fresh_lack : (taken names : List Identifier) (x : Identifier) → has_name taken x ≡ true → AreFresh taken names → has_name names x ≡ false
fresh_lack taken [] x h fresh = refl
fresh_lack taken (y ∷ names) x h fresh =
    or_from (bytes_eq x y) (has_name names x) (by_same (bytes_eq x y) refl)
    (fresh_lack (taken ++ y ∷ []) names x (both_have taken (y ∷ []) x ∙ or_left (has_name taken x) (has_name (y ∷ []) x) h) fresh.1)
  where
    by_same : (b : Bool) → bytes_eq x y ≡ b → bytes_eq x y ≡ false
    by_same true e = absurd (let same : x ≡ y = (bytes_eq-Decides x y).0 e in let c : true ≡ false = sym h ∙ ap (λ z. has_name taken z) same ∙ fresh.0 in cc)
    by_same false e = e

-- ---- the names that statements declare

declared_both : (front back : List Stmt) → names_declared (front ++ back) ≡ names_declared front ++ names_declared back
declared_both front back = filter_map-append declared_name front back

module _ (returns : ResultType) where
  mutual
    stmt_fresh : (s : Stmt) (known : Scope) (taken : List Identifier) → AreUnbroken (places_within returns known taken s) → AreFresh taken (names_declared (statements_within s))
    stmt_fresh (tree.Plain line (tree.Declare t x r)) known taken h = ((own_kept returns known taken (tree.Plain line (tree.Declare t x r)) h).new, tt)
    stmt_fresh (tree.Plain line (tree.DeclareArray t x size)) known taken h = ((own_kept returns known taken (tree.Plain line (tree.DeclareArray t x size)) h).new, tt)
    stmt_fresh (tree.If line test then' tree.NoElse) known taken h = block_fresh then' known taken (inside_kept returns known taken (tree.If line test then' tree.NoElse) h)
    stmt_fresh (tree.If line test then' (tree.ElseBlock else')) known taken h =
        let both = paths_kept returns known taken line test then' else' h in
        subst (AreFresh taken) (sym (declared_both (statements_of then') (statements_of else')))
        (fresh_both taken (names_declared (statements_of then')) (names_declared (statements_of else')) (block_fresh then' known taken both.0) (block_fresh else' known (taken ++ names_declared (statements_of then')) both.1))
    stmt_fresh (tree.While line test body) known taken h = block_fresh body known taken (inside_kept returns known taken (tree.While line test body) h)
    stmt_fresh s known taken h = tt

    pub block_fresh : (b : Block) (known : Scope) (taken : List Identifier) → AreUnbroken (places_of returns known taken b) → AreFresh taken (names_declared (statements_of b))
    block_fresh (End line) known taken h = tt
    block_fresh (Next s rest) known taken h =
        let both = block_kept returns known taken s rest h in
        subst (AreFresh taken) (sym (declared_both (statements_within s) (statements_of rest)))
        (fresh_both taken (names_declared (statements_within s)) (names_declared (statements_of rest)) (stmt_fresh s known taken both.0)
        (block_fresh rest (with_declared known s) (taken ++ names_declared (statements_within s)) both.1))

-- ---- the `jint`s among them

-- a name that isn't declared is no `jint` that is
ints_lack : (statements : List Stmt) (x : Identifier) → has_name (names_declared statements) x ≡ false → has_name (filter_map int_declared statements) x ≡ false
ints_lack [] x h = refl
ints_lack (tree.Plain line (tree.Declare (Simple variables.Jint) y r) ∷ rest) x h = or_from (bytes_eq x y) (has_name (filter_map int_declared rest) x) (or_parts (bytes_eq x y) (has_name (names_declared rest) x) h).0 (ints_lack rest x (or_parts (bytes_eq x y) (has_name (names_declared rest) x) h).1)
ints_lack (tree.Plain line (tree.Declare (Simple variables.Jsize) y r) ∷ rest) x h = or_from (bytes_eq x y) (has_name (filter_map int_declared rest) x) (or_parts (bytes_eq x y) (has_name (names_declared rest) x) h).0 (ints_lack rest x (or_parts (bytes_eq x y) (has_name (names_declared rest) x) h).1)
ints_lack (tree.Plain line (tree.Declare t y r) ∷ rest) x h = ints_lack rest x (or_parts (bytes_eq x y) (has_name (names_declared rest) x) h).1
ints_lack (tree.Plain line (tree.DeclareArray t y size) ∷ rest) x h = ints_lack rest x (or_parts (bytes_eq x y) (has_name (names_declared rest) x) h).1
ints_lack (s ∷ rest) x h = ints_lack rest x h

-- the name that a statement declares is among these where it is that of a `jint`
abbrev pub StmtAgrees : List Identifier → Stmt → Type 0
StmtAgrees ints (tree.Plain line (tree.Declare t x r)) = has_name ints x ≡ is_jint (Some (declared_type t))
StmtAgrees ints (tree.Plain line (tree.DeclareArray t x size)) = has_name ints x ≡ false
StmtAgrees ints s = Unit {0}

abbrev pub StmtsAgree : List Identifier → List Stmt → Type 0
StmtsAgree ints [] = Unit {0}
StmtsAgree ints (s ∷ rest) = StmtAgrees ints s × StmtsAgree ints rest

pub both_agree : (ints : List Identifier) (front back : List Stmt) → StmtsAgree ints (front ++ back) → StmtsAgree ints front × StmtsAgree ints back
both_agree ints [] back h = (tt, h)
both_agree ints (s ∷ front) back h = let both = both_agree ints front back h.1 in ((h.0, both.0), both.1)

-- names that are all taken
abbrev AreAmongTaken : (before taken : List Identifier) → Type 0
AreAmongTaken before taken = (x : Identifier) → has_name taken x ≡ false → has_name before x ≡ false

-- one name more that is taken
more_taken : (before taken : List Identifier) (x : Identifier) → AreAmongTaken before taken → AreAmongTaken before (taken ++ x ∷ [])
more_taken before taken x h y none = h y (or_parts (has_name taken y) (has_name (x ∷ []) y) (sym (both_have taken (x ∷ []) y) ∙ none)).0

more_before : (before taken : List Identifier) (x : Identifier) → AreAmongTaken before taken → AreAmongTaken (before ++ x ∷ []) (taken ++ x ∷ [])
more_before before taken x h y none =
    let e : (has_name taken y || has_name (x ∷ []) y) ≡ false = sym (both_have taken (x ∷ []) y) ∙ none in
    both_lack before (x ∷ []) y (h y (or_parts (has_name taken y) (has_name (x ∷ []) y) e).0) (or_parts (has_name taken y) (has_name (x ∷ []) y) e).1

-- a name that is declared as no `jint` isn't among them
other_lack : (before taken : List Identifier) (rest : List Stmt) (x : Identifier) → AreAmongTaken before taken → has_name taken x ≡ false → AreFresh (taken ++ x ∷ []) (names_declared rest) → has_name (before ++ filter_map int_declared rest) x ≡ false
other_lack before taken rest x among new fresh =
    both_lack before (filter_map int_declared rest) x (among x new) (ints_lack rest x (fresh_lack (taken ++ x ∷ []) (names_declared rest) x (has_last taken x) fresh))

int_has : (before rest : List Identifier) (x : Identifier) → has_name (before ++ x ∷ rest) x ≡ true
int_has before rest x = both_have before (x ∷ rest) x ∙ or_right (has_name before x) (has_name (x ∷ rest) x) (or_left (bytes_eq x x) (has_name rest x) (nat_list_eq_equiv.refl x))

moved : (before rest : List Identifier) (x : Identifier) (statements : List Stmt) → StmtsAgree ((before ++ x ∷ []) ++ rest) statements → StmtsAgree (before ++ x ∷ rest) statements
moved before rest x statements h = subst (λ (ints : List Identifier). StmtsAgree ints statements) (append_assoc before (x ∷ []) rest) h

declared_agree : (statements : List Stmt) (before taken : List Identifier) → AreAmongTaken before taken → AreFresh taken (names_declared statements) → StmtsAgree (before ++ filter_map int_declared statements) statements
declared_agree [] before taken among fresh = tt
declared_agree (tree.Plain line (tree.Declare (Simple variables.Jint) x r) ∷ rest) before taken among fresh =
    (int_has before (filter_map int_declared rest) x, moved before (filter_map int_declared rest) x rest (declared_agree rest (before ++ x ∷ []) (taken ++ x ∷ []) (more_before before taken x among) fresh.1))
declared_agree (tree.Plain line (tree.Declare (Simple variables.Jsize) x r) ∷ rest) before taken among fresh =
    (int_has before (filter_map int_declared rest) x, moved before (filter_map int_declared rest) x rest (declared_agree rest (before ++ x ∷ []) (taken ++ x ∷ []) (more_before before taken x among) fresh.1))
declared_agree (tree.Plain line (tree.Declare t x r) ∷ rest) before taken among fresh = (other_lack before taken rest x among fresh.0 fresh.1, declared_agree rest before (taken ++ x ∷ []) (more_taken before taken x among) fresh.1)
declared_agree (tree.Plain line (tree.DeclareArray t x size) ∷ rest) before taken among fresh = (other_lack before taken rest x among fresh.0 fresh.1, declared_agree rest before (taken ++ x ∷ []) (more_taken before taken x among) fresh.1)
declared_agree (s ∷ rest) before taken among fresh = (tt, declared_agree rest before taken among fresh)

-- ---- the names that are known

-- a known name is among these where it is that of a `jint`
abbrev pub IntsAgree : List Identifier → Known → Type 0
IntsAgree ints known = (x : Identifier) (s : Slot) → lookup x known ≡ Some s → has_name ints x ≡ is_jint (Some s.ty)

agree_first : (ints : List Identifier) (x : Identifier) (slot : Slot) (known : Known) → has_name ints x ≡ is_jint (Some slot.ty) → IntsAgree ints known → IntsAgree ints ((x, slot) ∷ known)
agree_first ints x slot known new h y s at =
    first_or_after x y slot s known (has_name ints y ≡ is_jint (Some s.ty)) (λ same is. ap (λ z. has_name ints z) same ∙ new ∙ ap (λ (t : Slot). is_jint (Some t.ty)) is) (λ other found. h y s found) at

pub agree_after : (ints : List Identifier) (s : Stmt) (l : Layout) → StmtAgrees ints s → IntsAgree ints l.known → IntsAgree ints (layout_after l s).known
agree_after ints (tree.Plain line (tree.Declare t x r)) l new h = agree_first ints x (new_slot (declared_type t) l) l.known new h
agree_after ints (tree.Plain line (tree.DeclareArray t x size)) l new h = agree_first ints x (new_slot (Array t size) l) l.known new h
agree_after ints s l new h = h

-- ---- a function's beginning

-- a statement is the first of those within it
pub own_agrees : (ints : List Identifier) (s : Stmt) → StmtsAgree ints (statements_within s) → StmtAgrees ints s
own_agrees ints s h = h.0

-- a parameter's name that isn't among others is no `jint` of theirs
parameters_lack : (ps : List Parameter) (x : Identifier) → has_name (map (λ p. p.name) ps) x ≡ false → has_name (filter_map int_parameter ps) x ≡ false
parameters_lack [] x h = refl
parameters_lack (p ∷ ps) x h = by_type p.type (or_parts (bytes_eq x p.name) (has_name (map (λ p. p.name) ps) x) h).0 (parameters_lack ps x (or_parts (bytes_eq x p.name) (has_name (map (λ p. p.name) ps) x) h).1)
  where
    by_type : (type : ParameterType) → bytes_eq x p.name ≡ false → has_name (filter_map int_parameter ps) x ≡ false → has_name (filter_map int_parameter (record { type = type; name = p.name } ∷ ps)) x ≡ false
    by_type IntParameter first further = or_from (bytes_eq x p.name) (has_name (filter_map int_parameter ps) x) first further
    by_type (ReferenceParameter r) first further = further

static_no_int : (s : ExprType) → IsStaticType s → false ≡ is_jint (Some s)
static_no_int Global h = refl
static_no_int Weak h = refl
static_no_int s h = absurd h

-- the `jint`s of these parameters agree with their slots and the statics
one_parameter : (type : ParameterType) (name : Identifier) (ps : List Parameter) (n r : ℕ) (known : Known) → has_name (map (λ p. p.name) ps) name ≡ false → IntsAgree (filter_map int_parameter ps) known
    → IntsAgree (filter_map int_parameter (record { type = type; name = name } ∷ ps)) ((name, parameter_slot type n r) ∷ known)
one_parameter IntParameter name ps n r known new h y s at =
    first_or_after name y (parameter_slot IntParameter n r) s known ((bytes_eq y name || has_name (filter_map int_parameter ps) y) ≡ is_jint (Some s.ty))
    (λ same is. or_left (bytes_eq y name) (has_name (filter_map int_parameter ps) y) (ap (λ z. bytes_eq z name) same ∙ nat_list_eq_equiv.refl name) ∙ ap (λ (t : Slot). is_jint (Some t.ty)) is)
    (λ other found. by_other (bytes_eq y name) refl other found) at
  where
    by_other : (b : Bool) → bytes_eq y name ≡ b → y ≢ name → lookup y known ≡ Some s → (b || has_name (filter_map int_parameter ps) y) ≡ is_jint (Some s.ty)
    by_other true e other found = absurd (other ((bytes_eq-Decides y name).0 e))
    by_other false e other found = h y s found
one_parameter (ReferenceParameter t) name ps n r known new h y s at = agree_first (filter_map int_parameter ps) name (parameter_slot (ReferenceParameter t) n r) known (parameters_lack ps name new) h y s at

parameters_agree : (ps : List Parameter) (n r : ℕ) (statics : Known) (names : List Identifier) → AreStatics statics → has_repeated (map (λ p. p.name) ps ++ names) ≡ false → IntsAgree (filter_map int_parameter ps) (parameter_slots ps n r ++ statics)
parameters_agree [] n r statics names are once x s at = static_no_int s.ty (are x s at).0
parameters_agree (p ∷ ps) n r statics names are once x s at =
    let further = map (λ (q : Parameter). q.name) ps in
    let new : (has_name further p.name || has_name names p.name) ≡ false = sym (both_have further names p.name) ∙ (or_parts (has_name (further ++ names) p.name) (has_repeated (further ++ names)) once).0 in
    one_parameter p.type p.name ps n r (parameter_slots ps (numbers_after p.type n) (references_after p.type r) ++ statics) (or_parts (has_name further p.name) (has_name names p.name) new).0
    (parameters_agree ps (numbers_after p.type n) (references_after p.type r) statics names are (or_parts (has_name (further ++ names) p.name) (has_repeated (further ++ names)) once).1) x s at

-- the head of a function that breaks no rule names nothing twice
pub head_once : (names : List Identifier) (scope : Scope) (f : Function) → AreUnbroken (function_places names scope f) → has_repeated (parameter_names f ++ map (λ s. s.0) scope) ≡ false
head_once names scope f well_typed =
    let place : Place = record { line = f.line; known = scope; taken = names; returns = f.result; form = HeadForm f } in
    let inside = places_of f.result ((f.class_name, Ref) ∷ map {B = Identifier × ExprType} (λ p. (p.name, parameter_type p.type)) f.parameters ++ scope) (parameter_names f ++ map (λ s. s.0) scope) f.body in
    (or_parts (has_name names f.name) (has_repeated (parameter_names f ++ map (λ s. s.0) scope)) (not_twice place (first_unbroken place inside well_typed))).1

module _ (statics : Known) (f : Function) (are : AreStatics statics) (once : has_repeated (parameter_names f ++ map (λ s. s.0) (scope_of statics)) ≡ false)
    (all_taken : AreTaken (parameter_names f ++ map (λ s. s.0) (scope_of statics)) (entry_layout statics f).known)
    (kept : AreUnbroken (places_of f.result (scope_of (entry_layout statics f).known) (parameter_names f ++ map (λ s. s.0) (scope_of statics)) f.body)) where
  abbrev taken : List Identifier
  taken = parameter_names f ++ map (λ s. s.0) (scope_of statics)

  abbrev further : List Identifier
  further = map (λ p. p.name) f.parameters ++ map (λ s. s.0) (scope_of statics)

  fresh : AreFresh taken (names_declared (statements_of f.body))
  fresh = block_fresh f.result f.body (scope_of (entry_layout statics f).known) taken kept

  abbrev before : List Identifier
  before = filter_map int_parameter f.parameters

  among : AreAmongTaken before taken
  among x none =
      let e : has_name further x ≡ false = (or_parts (bytes_eq x f.class_name) (has_name further x) none).1 in
      parameters_lack f.parameters x (or_parts (has_name (map (λ p. p.name) f.parameters) x) (has_name (map (λ s. s.0) (scope_of statics)) x) (sym (both_have (map (λ p. p.name) f.parameters) (map (λ s. s.0) (scope_of statics)) x) ∙ e)).0

  pub body_agrees : StmtsAgree (int_names f) (statements_of f.body)
  body_agrees = declared_agree (statements_of f.body) before taken among fresh

  class_new : has_name before f.class_name ≡ false
  class_new = parameters_lack f.parameters f.class_name (or_parts (has_name (map (λ p. p.name) f.parameters) f.class_name) (has_name (map (λ s. s.0) (scope_of statics)) f.class_name) (sym (both_have (map (λ p. p.name) f.parameters) (map (λ s. s.0) (scope_of statics)) f.class_name) ∙ (or_parts (has_name further f.class_name) (has_repeated further) once).0)).0

  entry_agree : IntsAgree before (entry_layout statics f).known
  entry_agree = agree_first before f.class_name (record { ty = Ref; index = 0 }) (parameter_slots f.parameters 0 1 ++ statics) class_new
      (parameters_agree f.parameters 0 1 statics (map (λ s. s.0) (scope_of statics)) are (or_parts (has_name further f.class_name) (has_repeated further) once).1)

  -- a name that is known there is taken, and so isn't declared
  known_taken : (x : Identifier) (s : Slot) → lookup x (entry_layout statics f).known ≡ Some s → has_name taken x ≡ true
  known_taken x s at = by_taken (has_name taken x) refl
    where
      by_taken : (b : Bool) → has_name taken x ≡ b → has_name taken x ≡ true
      by_taken true e = e
      by_taken false e = absurd (let c : Some s ≡ None = sym at ∙ all_taken x e in cc)

  pub entry_agrees : IntsAgree (int_names f) (entry_layout statics f).known
  entry_agrees x s at =
      let none : has_name (filter_map int_declared (statements_of f.body)) x ≡ false = ints_lack (statements_of f.body) x (fresh_lack taken (names_declared (statements_of f.body)) x (known_taken x s at) fresh) in
      both_have before (filter_map int_declared (statements_of f.body)) x ∙ ap (λ b. has_name before x || b) none ∙ or-false (has_name before x) ∙ entry_agree x s at
