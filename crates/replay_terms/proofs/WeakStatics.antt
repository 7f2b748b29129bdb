-- The statics of a unit, place by place: which objects they hold weakly, and a clearing of them.
use Rattle.std.proofs.Common.{◌≡◌, ℕ, zero, suc, ◌+◌, ◌≤◌, List, [], ◌∷◌, ◌++◌, length, map, take, drop, Option, Some, None, refl, sym, ap, ◌∙◌, append_assoc, append-nil, arith, Bor}
use Rattle.std.specs.Prelude.{slice_get}
use Rattle.std.proofs.lemmas.List.{drop_all, map-append, take_all}
use Rattle.base.specs.Bytes.{Identifier}
use Rattle.indexmap.specs.IndexMap.{set_value_at}
use Rattle.semantics.specs.Variable.{StaticReference, Weakly, Statics}
use Rattle.semantics.specs.WeakReferences.{cleared, cleared_statics, weak_object, weakly_held}
use Rattle.semantics.specs.Views.{names_of}
use Rattle.semantics.specs.declared.object_id.ObjectId.{ObjectId}
use Rattle.semantics.specs.declared.static_reference.StaticReference.TheVariants as held
use Rattle.replay_terms.specs.Views.{HeldInMemory, by_name, held_view, statics_view}

abbrev pub Entries : Type 0
Entries = List (Bor Identifier × HeldInMemory)

abbrev pub seen_in : Entries → Statics
seen_in es = statics_view (by_name es)

-- the first places were cleared
abbrev Halfway : List ℕ → Statics → ℕ → Statics
Halfway names old i = cleared_statics names (take i old) ++ drop i old

-- what a place holds
abbrev held_at : Entries → ℕ → Option HeldInMemory
held_at es i = slice_get (map (λ (e : Bor Identifier × HeldInMemory). e.1) es) i

same_entry : (k l : Identifier) (x y : StaticReference) → k ≡ l → x ≡ y → ◌≡◌ {A = Identifier × StaticReference} (k, x) (l, y)
same_entry k l x y e h = ap (λ (z : Identifier). (z, x)) e ∙ ap (λ (z : StaticReference). (l, z)) h

one_more : (names : List ℕ) (es : Entries) (old : Statics) (i : ℕ) (r new : HeldInMemory) → seen_in es ≡ Halfway names old i → held_at es i ≡ Some r
    → held_view new ≡ cleared names (held_view r) → seen_in (set_value_at es i new) ≡ Halfway names old (suc i)
one_more names [] old i r new h at is = absurd (cc)
one_more names (e ∷ es) [] zero r new h at is = absurd (cc)
one_more names (e ∷ es) [] (suc i) r new h at is = absurd (cc)
one_more names (e ∷ es) (o ∷ old) zero r new h at is =
    let same : e.1 ≡ r = cc in
    let key : e.0.now ≡ o.0 = cc in
    let held : held_view e.1 ≡ o.1 = cc in
    let rest : seen_in es ≡ old = cc in
    let now : held_view new ≡ cleared names o.1 = is ∙ ap (λ (x : HeldInMemory). cleared names (held_view x)) (sym same) ∙ ap (cleared names) held in
    ap (λ (x : Identifier × StaticReference). x ∷ seen_in es) (same_entry e.0.now o.0 (held_view new) (cleared names o.1) key now) ∙ ap (λ (l : List (Identifier × StaticReference)). (o.0, cleared names o.1) ∷ l) rest
one_more names (e ∷ es) (o ∷ old) (suc i) r new h at is =
    let x : Identifier × StaticReference = (e.0.now, held_view e.1) in
    let y : Identifier × StaticReference = (o.0, cleared names o.1) in
    let first : x ≡ y = cc in
    let rest : seen_in es ≡ Halfway names old i = cc in
    let further : seen_in (set_value_at es i new) ≡ Halfway names old (suc i) = one_more names es old i r new rest at is in
    ap (λ (z : Identifier × StaticReference). z ∷ seen_in (set_value_at es i new)) first ∙ ap (λ (l : List (Identifier × StaticReference)). y ∷ l) further

-- one place more was cleared
pub one_cleared : (names : List ℕ) (es : Entries) (old : Statics) (i : ℕ) (r new : HeldInMemory) → seen_in es ≡ Halfway names old i → held_at es i ≡ Some r
    → held_view new ≡ cleared names (held_view r) → seen_in (set_value_at es i new) ≡ Halfway names old (i + 1)
one_cleared names es old i r new h at is =
    let next : suc i ≡ i + 1 = omega arith in
    one_more names es old i r new h at is ∙ ap (Halfway names old) next

-- as many places as before
pub as_many : (es : Entries) (i : ℕ) (v : HeldInMemory) → length (set_value_at es i v) ≡ length es
as_many [] i v = refl
as_many (e ∷ es) zero v = refl
as_many (e ∷ es) (suc i) v = ap suc (as_many es i v)

pub all_cleared : (names : List ℕ) (es : Entries) (old : Statics) (i : ℕ) → seen_in es ≡ Halfway names old i → length old ≤ i → seen_in es ≡ cleared_statics names old
all_cleared names es old i h all =
    h ∙ ap (λ (l : Statics). cleared_statics names l ++ drop i old) (take_all i old all) ∙ ap (λ (l : Statics). cleared_statics names old ++ l) (drop_all i old all) ∙ append-nil (cleared_statics names old)

pub length-seen_in : (es : Entries) → length (seen_in es) ≡ length es
length-seen_in [] = refl
length-seen_in (e ∷ es) = ap suc (length-seen_in es)

-- ---- the objects held weakly

there_first : (es : Entries) (i n : ℕ) (r : HeldInMemory) → held_at es i ≡ Some r → held_view r ≡ Weakly n → weakly_held (seen_in (drop i es)) ≡ n ∷ weakly_held (seen_in (drop (suc i) es))
there_first [] i n r at is = absurd (cc)
there_first (e ∷ es) zero n r at is =
    let same : e.1 ≡ r = cc in
    ap (λ (x : HeldInMemory). weakly_held ((e.0.now, held_view x) ∷ seen_in es)) same
    ∙ ap (λ (x : StaticReference). weakly_held ((e.0.now, x) ∷ seen_in es)) is
there_first (e ∷ es) (suc i) n r at is = there_first es i n r at is

-- those from a place on, where there is a weak reference
pub weak_there : (es : Entries) (i n : ℕ) (r : HeldInMemory) → held_at es i ≡ Some r → held_view r ≡ Weakly n
    → weakly_held (seen_in (drop i es)) ≡ n ∷ weakly_held (seen_in (drop (i + 1) es))
weak_there es i n r at is =
    let next : suc i ≡ i + 1 = omega arith in
    there_first es i n r at is ∙ ap (λ (k : ℕ). n ∷ weakly_held (seen_in (drop k es))) next

skips : (x : Identifier) (r : StaticReference) (rest : Statics) → weak_object r ≡ None → weakly_held ((x, r) ∷ rest) ≡ weakly_held rest
skips x (Weakly n) rest is = absurd (cc)
skips x r rest is = refl

none_first : (es : Entries) (i : ℕ) (r : HeldInMemory) → held_at es i ≡ Some r → weak_object (held_view r) ≡ None → weakly_held (seen_in (drop i es)) ≡ weakly_held (seen_in (drop (suc i) es))
none_first [] i r at is = absurd (cc)
none_first (e ∷ es) zero r at is =
    let same : e.1 ≡ r = cc in
    skips e.0.now (held_view e.1) (seen_in es) (ap (λ (x : HeldInMemory). weak_object (held_view x)) same ∙ is)
none_first (e ∷ es) (suc i) r at is = none_first es i r at is

-- and where there is none
pub none_there : (es : Entries) (i : ℕ) (r : HeldInMemory) → held_at es i ≡ Some r → weak_object (held_view r) ≡ None → weakly_held (seen_in (drop i es)) ≡ weakly_held (seen_in (drop (i + 1) es))
none_there es i r at is =
    let next : suc i ≡ i + 1 = omega arith in
    none_first es i r at is ∙ ap (λ (k : ℕ). weakly_held (seen_in (drop k es))) next

-- one object more
pub one_named : (front : List ObjectId) (es : Entries) (i : ℕ) (o : ObjectId) (r : HeldInMemory) (all : List ℕ) → held_at es i ≡ Some r → held_view r ≡ Weakly o.number
    → names_of front ++ weakly_held (seen_in (drop i es)) ≡ all → names_of (front ++ o ∷ []) ++ weakly_held (seen_in (drop (i + 1) es)) ≡ all
one_named front es i o r all at is so_far =
    let rest : List ℕ = weakly_held (seen_in (drop (i + 1) es)) in
    ap (λ (l : List ℕ). l ++ rest) (map-append (λ (x : ObjectId). x.number) front (o ∷ []))
    ∙ append_assoc (names_of front) (o.number ∷ []) rest
    ∙ ap (λ (l : List ℕ). names_of front ++ l) (sym (weak_there es i o.number r at is))
    ∙ so_far

-- and none
pub none_named : (front : List ObjectId) (es : Entries) (i : ℕ) (r : HeldInMemory) (all : List ℕ) → held_at es i ≡ Some r → ((o : ObjectId) → r ≡ held.Weakly o → ⊥)
    → names_of front ++ weakly_held (seen_in (drop i es)) ≡ all → names_of front ++ weakly_held (seen_in (drop (i + 1) es)) ≡ all
none_named front es i r all at other so_far =
    ap (λ (l : List ℕ). names_of front ++ l) (sym (none_there es i r at (not_weak r other))) ∙ so_far
  where
    not_weak : (h : HeldInMemory) → ((o : ObjectId) → h ≡ held.Weakly o → ⊥) → weak_object (held_view h) ≡ None
    not_weak (held.Weakly o) never = absurd (never o refl)
    not_weak held.Empty never = refl
    not_weak (held.Live o) never = refl
    not_weak held.Cleared never = refl
    not_weak held.Deleted never = refl
