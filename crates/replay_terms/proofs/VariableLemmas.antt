-- Elements of variables in memory.
use Rattle.std.proofs.Common.{◌≡◌, ◌<◌, ◌≤◌, ◌+◌, ℕ, ℤ, Bool, true, false, cond, Bor, List, [], ◌∷◌, ◌++◌, length, map, position, take, drop, get_or, set, Option, Some, None, is_some, refl, sym, ap, ◌∙◌, subst, arith, append_assoc}
use Rattle.std.specs.Map as maps
use Rattle.std.specs.Option.{option_map}
use Rattle.std.specs.Str.{bytes_eq}
use Rattle.std.proofs.lemmas.List.{length-map, length-take-le, drop_more, set_at, map_more}
use Rattle.std.proofs.lemmas.Slice.Eq.{bytes_eq-Decides}
use Rattle.base.specs.Bytes.{Identifier, lookup}
use Rattle.indexmap.specs.IndexMap.{set_value_at}
use Rattle.semantics.specs.Variable.{Variable, Variables, assign, change}
use Rattle.replay_terms.specs.declared.variable.Written.{Written}
use Rattle.replay_terms.specs.declared.variable.Written.TheVariants as outcome
use Rattle.replay_terms.specs.declared.variable.Content.{Content}
use Rattle.replay_terms.specs.Views.{Contents, HasNoElements, WritesContent, WritesElement, by_name, content_view, variables_view}
use Rattle.replay_terms.proofs.ByNameLemmas.{looked_up, missing, same_key, written_there}

-- what a variable holds already is assigned
pub assigned_again : (x : Identifier) (v : Variable) (vs : Variables) → lookup x vs ≡ Some v → assign x v vs ≡ vs
assigned_again x v [] there = absurd (cc)
assigned_again x v ((y, w) ∷ vs) there = first (bytes_eq x y) refl there (assigned_again x v vs)
  where
    first : (b : Bool) → bytes_eq x y ≡ b → cond b (Some w) (lookup x vs) ≡ Some v → (lookup x vs ≡ Some v → assign x v vs ≡ vs) → cond b ((x, v) ∷ vs) ((y, w) ∷ assign x v vs) ≡ (y, w) ∷ vs
    first true same at further =
        let is : v ≡ w = cc in ap (λ (u : Variable). (x, u) ∷ vs) is ∙ ap (λ (z : Identifier). (z, w) ∷ vs) ((bytes_eq-Decides x y).0 same)
    first false other at further = ap (λ (l : Variables). (y, w) ∷ l) (further at)

-- what became of an element of a variable became of that of its name
pub content_written : (old new : Variables) (x : Identifier) (i : ℕ) (z : ℤ) (v w : Variable) (b : Written) → lookup x old ≡ Some v → WritesContent v i z b w → new ≡ assign x w old → WritesElement old x i z b new
content_written old new x i z v w outcome.Done there is set = record { before = v; after = w; there = there; is = is; set = set }
content_written old new x i z v w (outcome.Object n y) there is set =
    record { variable = v; there = there; shown = is.0; same = set ∙ ap (λ (u : Variable). assign x u old) is.1 ∙ assigned_again x v old there }
content_written old new x i z v w outcome.Nothing there is set =
    (subst HasNoElements (sym there) is.0, set ∙ ap (λ (u : Variable). assign x u old) is.1 ∙ assigned_again x v old there)

-- ---- whole arrays

-- a list that begins with values of others, and with one more
pub begun_next : {A B : Type 0} (f : A → B) (values : List A) (old : List B) (i : ℕ) (d : A) → i < length values → length values ≤ length old
    → set (map f (take i values) ++ drop i old) i (f (get_or values i d)) ≡ map f (take (i + 1) values) ++ drop (i + 1) old
begun_next {A} {B} f values old i d low room =
    let front = map f (take i values) in
    let y = f (get_or values i d) in
    let counted : length front ≡ i = length-map (take i values) f ∙ length-take-le i values (omega (arith, low)) in
    ap (λ (l : List B). set (front ++ l) i y) (drop_more old i y (omega (arith, low, room)))
    ∙ set_at front (get_or old i y) (drop (i + 1) old) y i counted
    ∙ sym (append_assoc front (y ∷ []) (drop (i + 1) old))
    ∙ ap (λ (l : List B). l ++ drop (i + 1) old) (sym (map_more f values i d low))

-- what is there is changed by an assignment, and what isn't is left alone
pub changed_there : (x : Identifier) (f : Variable → Variable) (v : Variable) (vs : Variables) → lookup x vs ≡ Some v → assign x (f v) vs ≡ change x f vs
changed_there x f v [] there = absurd (cc)
changed_there x f v ((y, w) ∷ vs) there = first (bytes_eq x y) refl there (changed_there x f v vs)
  where
    first : (b : Bool) → bytes_eq x y ≡ b → cond b (Some w) (lookup x vs) ≡ Some v → (lookup x vs ≡ Some v → assign x (f v) vs ≡ change x f vs)
        → cond b ((x, f v) ∷ vs) ((y, w) ∷ assign x (f v) vs) ≡ cond b ((y, f w) ∷ vs) ((y, w) ∷ change x f vs)
    first true same at further =
        let is : v ≡ w = cc in ap (λ (u : Variable). (x, f u) ∷ vs) is ∙ ap (λ (z : Identifier). (z, f w) ∷ vs) ((bytes_eq-Decides x y).0 same)
    first false other at further = ap (λ (l : Variables). (y, w) ∷ l) (further at)

pub unchanged : (x : Identifier) (f : Variable → Variable) (vs : Variables) → lookup x vs ≡ None → change x f vs ≡ vs
unchanged x f [] none = refl
unchanged x f ((y, w) ∷ vs) none = first (bytes_eq x y) none (unchanged x f vs)
  where
    first : (b : Bool) → cond b (Some w) (lookup x vs) ≡ None → (lookup x vs ≡ None → change x f vs ≡ vs) → cond b ((y, f w) ∷ vs) ((y, w) ∷ change x f vs) ≡ (y, w) ∷ vs
    first true at further = absurd (cc)
    first false at further = ap (λ (l : Variables). (y, w) ∷ l) (further at)

-- ---- contents at their places

-- what is at the place of a name is what the name has
pub content_there : (x : Bor Identifier) (es : List (Bor Identifier × Content)) (vs : Contents) (o : Option Content) (content : Content) → by_name es ≡ vs → o ≡ maps.lookup (λ k. bytes_eq x.now k.now) es → o ≡ Some content → lookup x.now (variables_view vs) ≡ Some (content_view content)
content_there x es vs o content is at found =
    ap (λ (us : Contents). lookup x.now (variables_view us)) (sym is)
    ∙ sym (looked_up content_view x.now es)
    ∙ ap (option_map content_view) (sym at ∙ found)

-- a content that is changed at the place of its name
pub changed_at : (x : Bor Identifier) (es : List (Bor Identifier × Content)) (vs : Contents) (o : Option Content) (place : ℕ) (content after : Content) (f : Variable → Variable)
    → by_name es ≡ vs → o ≡ maps.lookup (λ k. bytes_eq x.now k.now) es → o ≡ Some content → position (same_key x) (maps.keys_of es) ≡ Some place → content_view after ≡ f (content_view content)
    → variables_view (by_name (set_value_at es place after)) ≡ change x.now f (variables_view vs)
changed_at x es vs o place content after f is at found here view =
    written_there content_view x after es place here
    ∙ ap (λ (us : Contents). assign x.now (content_view after) (variables_view us)) is
    ∙ ap (λ (w : Variable). assign x.now w (variables_view vs)) view
    ∙ changed_there x.now f (content_view content) (variables_view vs) (content_there x es vs o content is at found)

-- a name that has no place
pub unchanged_at : (x : Bor Identifier) (es : List (Bor Identifier × Content)) (vs : Contents) (f : Variable → Variable) → by_name es ≡ vs → is_some (maps.lookup (λ k. bytes_eq x.now k.now) es) ≡ false → variables_view vs ≡ change x.now f (variables_view vs)
unchanged_at x es vs f is none = sym (unchanged x.now f (variables_view vs) (ap (λ (us : Contents). lookup x.now (variables_view us)) (sym is) ∙ missing content_view x.now es none))
