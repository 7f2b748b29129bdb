-- Values by name that lie in a hash map: a value is looked up and assigned at the place of its name.
use Rattle.std.proofs.Common.{◌≡◌, ◌<◌, ℕ, zero, suc, Bool, true, false, cond, List, [], ◌∷◌, map, position, Option, Some, None, is_some, refl, sym, ap, ◌∙◌, Bor, slice_get, ◌+◌, not, length, nat_lt, lt-ltb, arith}
use Rattle.std.specs.Option.{option_map, option_copied}
use Rattle.std.specs.Str.{bytes_eq}
use Rattle.std.specs.Map as maps
use Rattle.std.proofs.lemmas.Slice.Eq.{bytes_eq-Decides}
use Rattle.base.specs.Bytes.{Identifier, ByName, lookup}
use Rattle.base.proofs.Options.{none_there}
use Rattle.indexmap.specs.IndexMap.{insert_entry, set_value_at}
use Rattle.indexmap.proofs.MapLemmas.{Found-position, insert_entry-first}
use Rattle.std.specs.List.{position_or_len}
use Rattle.semantics.specs.Variable.{assign}
use Rattle.replay_terms.specs.Views.{by_name}

-- keys are equal where their names are
abbrev pub same_key : Bor Identifier → Bor Identifier → Bool
same_key k l = bytes_eq k.now l.now

-- an entry has another name
abbrev pub IsOther : {V : Type 0} → Identifier → List (Bor Identifier × V) → ℕ → Type 0
IsOther {V} x es k = (e : Bor Identifier × V) → slice_get es k ≡ Some e → bytes_eq x e.0.now ≡ false

abbrev is_named : Identifier → Bor Identifier → Bool
is_named x k = bytes_eq x k.now

module _ {V : Type 0} (x : Identifier) where
  keys_within : (es : List (Bor Identifier × V)) (i : ℕ) (e : Bor Identifier × V) → slice_get es i ≡ Some e → i < length (maps.keys_of es)
  keys_within [] i e at = absurd (cc)
  keys_within (f ∷ es) zero e at = omega arith
  keys_within (f ∷ es) (suc i) e at = omega (arith, keys_within es i e at)

  first_so : (es : List (Bor Identifier × V)) (i : ℕ) (e : Bor Identifier × V) → slice_get es i ≡ Some e → bytes_eq x e.0.now ≡ true → ((k : ℕ) → k < i → IsOther x es k) → position_or_len (is_named x) (maps.keys_of es) ≡ i
  first_so [] i e at same others = absurd (cc)
  first_so (f ∷ es) zero e at same others =
      let is : f ≡ e = cc in ap (λ (b : Bool). cond (not b) (1 + position_or_len (is_named x) (maps.keys_of es)) 0) (ap (λ (g : Bor Identifier × V). bytes_eq x g.0.now) is ∙ same)
  first_so (f ∷ es) (suc i) e at same others =
      ap (λ (b : Bool). cond (not b) (1 + position_or_len (is_named x) (maps.keys_of es)) 0) (others 0 (omega arith) f refl)
      ∙ ap (λ n. 1 + n) (first_so es i e at same (λ k low. others (suc k) (omega (arith, low))))
      ∙ omega arith

  -- the first entry of a name, before which none has it
  pub first_there : (es : List (Bor Identifier × V)) (i : ℕ) (e : Bor Identifier × V) → slice_get es i ≡ Some e → bytes_eq x e.0.now ≡ true → ((k : ℕ) → k < i → IsOther x es k) → position (is_named x) (maps.keys_of es) ≡ Some i
  first_there es i e at same others =
      ap (λ n. cond (nat_lt n (length (maps.keys_of es))) (Some n) None) (first_so es i e at same others)
      ∙ ap (λ (b : Bool). cond b (Some i) None) (lt-ltb i _ (keys_within es i e at))

module _ {V A : Type 0} (value_of : V → A) where
  abbrev pub values : List (Bor Identifier × V) → ByName A
  values es = map (λ (v : Identifier × V). (v.0, value_of v.1)) (by_name es)

  -- what is behind a reference that was looked up
  pub read : (r : Option (Bor V)) → option_map (λ v. value_of v.now) r ≡ option_map value_of (option_copied r)
  read None = refl
  read (Some v) = refl

  -- the value of a name is that of its key
  pub looked_up : (x : Identifier) (es : List (Bor Identifier × V)) → option_map value_of (maps.lookup (λ k. bytes_eq x k.now) es) ≡ lookup x (values es)
  looked_up x [] = refl
  looked_up x (e ∷ es) = first (bytes_eq x e.0.now) (looked_up x es)
    where
      first : (b : Bool) → option_map value_of (maps.lookup (λ k. bytes_eq x k.now) es) ≡ lookup x (values es) → option_map value_of (cond b (Some e.1) (maps.lookup (λ k. bytes_eq x k.now) es)) ≡ cond b (Some (value_of e.1)) (lookup x (values es))
      first true further = refl
      first false further = further

  -- a name that is no key has no value
  pub missing : (x : Identifier) (es : List (Bor Identifier × V)) → is_some (maps.lookup (λ k. bytes_eq x k.now) es) ≡ false → lookup x (values es) ≡ None
  missing x es none = sym (looked_up x es) ∙ ap (option_map value_of) (none_there (maps.lookup (λ k. bytes_eq x k.now) es) none)

  -- what is inserted is assigned
  pub inserted : (k : Bor Identifier) (v : V) (es : List (Bor Identifier × V)) → values (insert_entry same_key es k v) ≡ assign k.now (value_of v) (values es)
  inserted k v [] = refl
  inserted k v (e ∷ es) = first (same_key k e.0) refl (inserted k v es)
    where
      first : (b : Bool) → same_key k e.0 ≡ b → values (insert_entry same_key es k v) ≡ assign k.now (value_of v) (values es)
          → values (cond b ((e.0, v) ∷ es) (e ∷ insert_entry same_key es k v)) ≡ cond b ((k.now, value_of v) ∷ values es) ((e.0.now, value_of e.1) ∷ assign k.now (value_of v) (values es))
      first true same further = ap (λ (x : Identifier). (x, value_of v) ∷ values es) (sym ((bytes_eq-Decides k.now e.0.now).0 same))
      first false other further = ap (λ (l : ByName A). (e.0.now, value_of e.1) ∷ l) further

  -- what is written at the place of a name is assigned
  pub written_there : (k : Bor Identifier) (v : V) (es : List (Bor Identifier × V)) (i : ℕ) → position (same_key k) (maps.keys_of es) ≡ Some i → values (set_value_at es i v) ≡ assign k.now (value_of v) (values es)
  written_there k v es i at = ap values (sym (insert_entry-first same_key k v es i (Found-position (same_key k) es i at).first)) ∙ inserted k v es
