-- The names whose references are cleared, listed static by static.
use Rattle.std.proofs.Common.{◌≡◌, ℕ, zero, suc, ◌+◌, ◌≤◌, Bool, List, [], ◌∷◌, ◌++◌, length, drop, map, append_assoc, append-nil, Option, Some, None, IsSome, refl, sym, ap, ◌∙◌, subst, ⊎_elim}
use Rattle.std.specs.Prelude.{slice_get, unwrap_or}
use Rattle.std.specs.Option.{option_map, option_to_list}
use Rattle.std.proofs.lemmas.Bool.{false≢true}
use Rattle.base.proofs.Lists.{drop_next, drop_past}
use Rattle.heap.specs.Heap.{Block, Space, IsAddress, block_at, name_at}
use Rattle.semantics.specs.declared.static_reference.StaticReference.TheVariants as static
use Rattle.semantics.proofs.ReachableLemmas.{In, contains_in, in_append_cases, in_append_left, in_append_right, in_cases, in_head, to_contains}
use Rattle.tables.specs.Keys.{value_at}
use Rattle.machine_scenes.specs.Given.{object_there}
use Rattle.machine_scenes.specs.Statics.{StaticReference}
use Rattle.machine_collections.specs.Clearing.{AreCleared, ListsNames, WasCleared, cleared_name, cleared_names, holds_cleared, is_gone, name_held, weak_name, weak_names}

next_names : (names : List (Option ℕ)) (gone : List Bool) (i : ℕ) (n : Option ℕ) (g : Bool) → slice_get names i ≡ Some n → slice_get gone i ≡ Some g
    → cleared_names (drop i names) (drop i gone) ≡ option_to_list (cleared_name n g) ++ cleared_names (drop (i + 1) names) (drop (i + 1) gone)
next_names names gone i n g at there =
    ap (λ (l : List (Option ℕ)). cleared_names l (drop i gone)) (drop_next names i n at)
    ∙ ap (cleared_names (n ∷ drop (i + 1) names)) (drop_next gone i g there)

-- one place more
pub listed_next : (names : List (Option ℕ)) (gone : List Bool) (done after whole : List ℕ) (i : ℕ) (n : Option ℕ) (g : Bool) (found : Option ℕ) → slice_get names i ≡ Some n → slice_get gone i ≡ Some g → found ≡ cleared_name n g
    → after ≡ done ++ option_to_list found → done ++ cleared_names (drop i names) (drop i gone) ≡ whole → after ++ cleared_names (drop (i + 1) names) (drop (i + 1) gone) ≡ whole
listed_next names gone done after whole i n g found at there is change before =
    let rest = cleared_names (drop (i + 1) names) (drop (i + 1) gone) in
    ap (λ (l : List ℕ). l ++ rest) (change ∙ ap (λ (o : Option ℕ). done ++ option_to_list o) is)
    ∙ append_assoc done (option_to_list (cleared_name n g)) rest
    ∙ ap (λ (l : List ℕ). done ++ l) (sym (next_names names gone i n g at there))
    ∙ before

-- all places
pub listed_all : (names : List (Option ℕ)) (gone : List Bool) (done whole : List ℕ) (i : ℕ) → length names ≤ i → done ++ cleared_names (drop i names) (drop i gone) ≡ whole → done ≡ whole
listed_all names gone done whole i past before =
    sym (append-nil done) ∙ ap (λ (l : List (Option ℕ)). done ++ cleared_names l (drop i gone)) (sym (drop_past names i past)) ∙ before

-- ---- which they are

module _ (space : Space) (before now : List (Option (Option ℕ))) where
  -- the list of what a static held weakly and holds cleared
  abbrev listed_of : StaticReference → List ℕ
  listed_of s = option_to_list (cleared_name (weak_name space before s) (holds_cleared now s))

  abbrev listed_by : List StaticReference → List ℕ
  listed_by statics = cleared_names (weak_names space before statics) (map (holds_cleared now) statics)

  record Found (o p : Option (Option ℕ)) (n : ℕ) : Type 0 where
    address : ℕ
    held : o ≡ Some (Some address)
    there : object_there space address ≡ n
    gone : p ≡ Some None

  found : (o p : Option (Option ℕ)) (n : ℕ) → In (option_to_list (cleared_name (name_held space o) (is_gone p))) n → Found o p n
  found None None n k = absurd (false≢true k)
  found None (Some None) n k = absurd (false≢true k)
  found None (Some (Some b)) n k = absurd (false≢true k)
  found (Some None) None n k = absurd (false≢true k)
  found (Some None) (Some None) n k = absurd (false≢true k)
  found (Some None) (Some (Some b)) n k = absurd (false≢true k)
  found (Some (Some a)) None n k = absurd (false≢true k)
  found (Some (Some a)) (Some (Some b)) n k = absurd (false≢true k)
  found (Some (Some a)) (Some None) n k = ⊎_elim (λ (e : object_there space a ≡ n). record { address = a; held = refl; there = e; gone = refl }) (λ (none : In [] n). absurd (false≢true none)) (in_cases (object_there space a) [] n k)

  named_there : (a : ℕ) → IsAddress space a → name_at space a ≡ Some (object_there space a)
  named_there a there = by_block (block_at space a) refl there
    where
      by_block : (o : Option Block) → block_at space a ≡ o → IsSome o → name_at space a ≡ Some (object_there space a)
      by_block None at h = absurd (cc)
      by_block (Some b) at h =
          let name : name_at space a ≡ Some b.birth = ap (option_map (λ (c : Block). c.birth)) at in
          name ∙ ap (λ (n : ℕ). Some n) (sym (ap (λ (o : Option ℕ). unwrap_or o 0) name))

  module _ (there : (key a : ℕ) → value_at before key ≡ Some (Some a) → IsAddress space a) where
    one_listed : (s : StaticReference) (rest : List StaticReference) (n : ℕ) → In (listed_of s) n → WasCleared space (s ∷ rest) before now n
    one_listed static.Empty rest n k = absurd (false≢true k)
    one_listed (static.Live key) rest n k = absurd (false≢true k)
    one_listed static.Cleared rest n k = absurd (false≢true k)
    one_listed static.Deleted rest n k = absurd (false≢true k)
    one_listed (static.Weakly key) rest n k =
        let f = found (value_at before key) (value_at now key) n k in
        record { slot = 0; key = key; address = f.address; of_static = refl; held = f.held; named = named_there f.address (there key f.address f.held) ∙ ap (λ (m : ℕ). Some m) f.there; gone = f.gone }

    listed_from : (statics : List StaticReference) (n : ℕ) → In (listed_by statics) n → WasCleared space statics before now n
    listed_from [] n k = absurd (false≢true k)
    listed_from (s ∷ statics) n k =
        ⊎_elim
        (λ (l : In (listed_of s) n). one_listed s statics n l)
        (λ (l : In (listed_by statics) n).
        let h = listed_from statics n l in
        record { slot = suc h.slot; key = h.key; address = h.address; of_static = h.of_static; held = h.held; named = h.named; gone = h.gone })
        (in_append_cases (listed_of s) (listed_by statics) n k)

  -- and the other way round
  here_listed : (o p : Option (Option ℕ)) (a n : ℕ) → o ≡ Some (Some a) → p ≡ Some None → name_at space a ≡ Some n → In (option_to_list (cleared_name (name_held space o) (is_gone p))) n
  here_listed o p a n held gone named =
      subst (λ (q : Option (Option ℕ)). In (option_to_list (cleared_name (name_held space q) (is_gone p))) n) (sym held)
      (subst (λ (q : Option (Option ℕ)). In (option_to_list (cleared_name (Some (object_there space a)) (is_gone q))) n) (sym gone)
      (subst (λ (m : ℕ). In (m ∷ []) n) (sym (ap (λ (r : Option ℕ). unwrap_or r 0) named)) (in_head n [])))

  listed_to : (statics : List StaticReference) (n slot key a : ℕ) → slice_get statics slot ≡ Some (static.Weakly key) → value_at before key ≡ Some (Some a) → name_at space a ≡ Some n → value_at now key ≡ Some None → In (listed_by statics) n
  listed_to [] n slot key a at held named gone = absurd (cc)
  listed_to (s ∷ statics) n zero key a at held named gone =
      let same : s ≡ static.Weakly key = cc in
      in_append_left (listed_of s) (listed_by statics) n (subst (λ (x : StaticReference). In (listed_of x) n) (sym same) (here_listed (value_at before key) (value_at now key) a n held gone named))
  listed_to (s ∷ statics) n (suc slot) key a at held named gone = in_append_right (listed_of s) (listed_by statics) n (listed_to statics n slot key a at held named gone)

  -- so the names listed in order are those whose references were cleared
  pub lists_cleared : (statics : List StaticReference) (names : List ℕ) → ((key a : ℕ) → value_at before key ≡ Some (Some a) → IsAddress space a) → ListsNames (listed_by statics) names → AreCleared space statics before now names
  lists_cleared statics names there h = record {
    rising = h.rising;
    sound = λ n c. listed_from there statics n (contains_in (listed_by statics) n (h.sound n c));
    complete = λ n w. h.complete n (to_contains (listed_by statics) n (listed_to statics n w.slot w.key w.address w.of_static w.held w.named w.gone));
  }
