-- Declarations in memory make names known.
use Rattle.std.proofs.Common.{◌≡◌, ◌+◌, arith, Bool, true, false, cond, length, map, List, [], ◌∷◌, ◌++◌, append_assoc, reverse, Option, Some, refl, sym, ap, ◌∙◌, Bor}
use Rattle.std.proofs.lemmas.Grind.{reverse_onto}
use Rattle.std.proofs.lemmas.Cmp.{nat_list_eq_equiv}
use Rattle.std.proofs.lemmas.Slice.Eq.{bytes_eq-Decides}
use Rattle.std.proofs.lemmas.Map.Text.{hash_map_updates_str}
use Rattle.std.specs.HashMap.{HashMap, get_by, UpdatesBy}
use Rattle.std.specs.Option.{option_map}
use Rattle.std.specs.Str.{bytes_eq}
use Rattle.base.specs.Bytes.{Identifier, ByName, lookup}
use Rattle.type_rules.specs.declared.known.Declared.{Declared}
use Rattle.type_rules.specs.Declarations.{known_after, HaveHidden, IsIndexed}

module _ {T : Type 0} where
  -- one declaration more is the first
  pub known_after-append : (ds : List (Declared T)) (d : Declared T) (known : ByName T) → known_after (ds ++ d ∷ []) known ≡ (d.name.now, d.value) ∷ known_after ds known
  known_after-append [] d known = refl
  known_after-append (e ∷ ds) d known = known_after-append ds d ((e.name.now, e.value) ∷ known)

  pub known_after-length : (ds : List (Declared T)) (known : ByName T) → length (known_after ds known) ≡ length ds + length known
  known_after-length [] known = omega arith
  known_after-length (d ∷ ds) known = let further = known_after-length ds ((d.name.now, d.value) ∷ known) in omega (arith, further)

  pub known_after-names : (ds : List (Declared T)) (known : ByName T) → map {B = Identifier} (λ k. k.0) (known_after ds known) ≡ reverse (map (λ d. d.name.now) ds) ++ map (λ k. k.0) known
  known_after-names [] known = refl
  known_after-names (d ∷ ds) known =
      let names : List Identifier = map (λ e. e.name.now) ds in
      let before : List Identifier = map (λ k. k.0) known in
      known_after-names ds ((d.name.now, d.value) ∷ known) ∙ sym (append_assoc (reverse names) (d.name.now ∷ []) before) ∙ sym (ap (λ r. r ++ before) (reverse_onto names d.name.now []))

  -- one declaration more has what it hides
  have_hidden : (ds : List (Declared T)) (d : Declared T) (known : ByName T) → HaveHidden ds known → d.hidden ≡ lookup d.name.now (known_after ds known) → HaveHidden (ds ++ d ∷ []) known
  have_hidden [] d known all last = (last, tt)
  have_hidden (e ∷ ds) d known all last = (all.0, have_hidden ds d ((e.name.now, e.value) ∷ known) all.1 last)

  -- and so has each without it
  had_hidden : (ds : List (Declared T)) (d : Declared T) (known : ByName T) → HaveHidden (ds ++ d ∷ []) known → HaveHidden ds known × (d.hidden ≡ lookup d.name.now (known_after ds known))
  had_hidden [] d known all = (tt, all.0)
  had_hidden (e ∷ ds) d known all = let rest = had_hidden ds d ((e.name.now, e.value) ∷ known) all.1 in ((all.0, rest.0), rest.1)

-- ---- the table

abbrev Table : Type 0 → Type 0 → Type 0
Table T S = HashMap (Bor Identifier) T S

-- one table is the other with this, or nothing, at a name
abbrev pub Sets : {T S : Type 0} → Table T S → Table T S → Identifier → Option T → Type 0
Sets old new x value = UpdatesBy (λ a b. bytes_eq a.now b.now) (λ key. bytes_eq x key.now) old new value

module _ {T S : Type 0} (ds : List (Declared T)) (d : Declared T) (old : Table T S) (x : Identifier) (is : x ≡ d.name.now) where
  -- the table in which one declaration more is found
  pub indexed_after : (new : Table T S) → IsIndexed ds old → d.hidden ≡ get_by (λ key. bytes_eq x key.now) old → Sets old new x (Some d.value) → IsIndexed (ds ++ d ∷ []) new
  indexed_after new indexed hides sets = record {
    finds = λ y.
        let test : bytes_eq x y ≡ bytes_eq y d.name.now = nat_list_eq_equiv.symm x y ∙ ap (bytes_eq y) is in
        hash_map_updates_str x old new (Some d.value) sets y ∙ (λ i. cond (test i) (Some d.value) (indexed.finds y i)) ∙ sym (ap (lookup y) (known_after-append ds d []));
    hidden = have_hidden ds d [] indexed.hidden (hides ∙ indexed.finds x ∙ ap (λ n. lookup n (known_after ds [])) is);
  }

  -- the latest name is found
  pub latest_found : IsIndexed (ds ++ d ∷ []) old → get_by (λ key. bytes_eq x key.now) old ≡ Some d.value
  latest_found indexed = indexed.finds x ∙ ap (lookup x) (known_after-append ds d []) ∙ ap (λ b. cond b (Some d.value) (lookup x (known_after ds []))) ((bytes_eq-Decides x d.name.now).1 is)

  -- a name that was hidden is found again, and each other one as before
  found_again : (same : Bool) (y : Identifier) (was : Option T) → bytes_eq d.name.now y ≡ same → d.hidden ≡ lookup d.name.now (known_after ds []) → was ≡ lookup y ((d.name.now, d.value) ∷ known_after ds []) → cond same d.hidden was ≡ lookup y (known_after ds [])
  found_again true y was test hides before = hides ∙ ap (λ n. lookup n (known_after ds [])) ((bytes_eq-Decides d.name.now y).0 test)
  found_again false y was test hides before = before ∙ ap (λ b. cond b (Some d.value) (lookup y (known_after ds []))) (nat_list_eq_equiv.symm y d.name.now ∙ test)

  -- the table in which the latest name is what it was before
  pub indexed_before : (new : Table T S) → IsIndexed (ds ++ d ∷ []) old → Sets old new x d.hidden → IsIndexed ds new
  indexed_before new indexed sets =
      let before = had_hidden ds d [] indexed.hidden in
      record {
        finds = λ y.
            hash_map_updates_str x old new d.hidden sets y
            ∙ found_again (bytes_eq x y) y _ (ap (λ n. bytes_eq n y) (sym is)) before.1 (indexed.finds y ∙ ap (lookup y) (known_after-append ds d []));
        hidden = before.0;
      }

-- ---- what names are, seen otherwise

-- each name with what it is seen as
abbrev pub seen : {T V : Type 0} → (T → V) → ByName T → ByName V
seen view known = map (λ k. (k.0, view k.1)) known

pub lookup-seen : {T V : Type 0} (view : T → V) (x : Identifier) (known : ByName T) → option_map view (lookup x known) ≡ lookup x (seen view known)
lookup-seen view x [] = refl
lookup-seen {T} {V} view x (k ∷ known) = by (bytes_eq x k.0) _ ∙ ap (λ (o : Option V). cond (bytes_eq x k.0) (Some (view k.1)) o) (lookup-seen view x known)
  where
    by : (same : Bool) (further : Option T) → option_map view (cond same (Some k.1) further) ≡ cond same (Some (view k.1)) (option_map view further)
    by true further = refl
    by false further = refl
