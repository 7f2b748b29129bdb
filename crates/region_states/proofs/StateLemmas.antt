-- States: what is asked of all held buffers, and what is left of the variables.
use Rattle.std.proofs.Common.{◌≡◌, ℕ, ◌+◌, ◌<◌, ◌++◌, arith, get_or, nat_lt, cond, position, bytes_eq, Bor, ap₂, Bool, true, false, not, ◌&&◌, ◌||◌, List, [], ◌∷◌, Option, Some, None, length, map, refl, sym, ap, ◌∙◌, filter, if◌then◌else◌, take, drop}
use Rattle.std.specs.Prelude.{filter_map}
use Rattle.std.specs.Prelude.{reverse}
use Rattle.std.proofs.Math.ListN.{set}
use Rattle.std.proofs.lemmas.List.{length-map, map-set, map-append, get_or-map}
use Rattle.std.proofs.lemmas.List.Edits.{map_over_more}
use Rattle.std.proofs.lemmas.List.Quantifiers.{position-Some}
use Rattle.std.proofs.lemmas.Option.{slice_get-get_or}
use Rattle.indexmap.specs.IndexSet.{insert_key}
use Rattle.region_states.specs.declared.states.Facts.{Facts}
use Rattle.region_states.specs.declared.states.VariableState.{VariableState as VariableStateInMemory}
use Rattle.region_states.proofs.ScopeLemmas.{any_map, names_are, changed_at, pushed}
use Rattle.std.specs.List.{AllByRecursion, IsDistinct, prefix_len, list_any, cons_option, slice_get, zip}
use Rattle.std.proofs.lemmas.Map.Keys.{IsDistinct-cons, IsDistinct-head, IsDistinct-tail}
use Rattle.std.specs.Option.{option_and_then}
use Rattle.base.specs.Bytes.{Identifier}
use Rattle.base.specs.Options.{some_passes}
use Rattle.jni.specs.declared.access.Access.{Access}
use Rattle.region_rules.specs.RegionStates.{VariableState, RegionState, buffer_of, held_by, held_buffers}
use Rattle.region_rules.specs.RegionRules.{is_held}
use Rattle.region_rules.specs.Regions.{has_variable, holds_own}
use Rattle.region_states.specs.SameStates.{NamedState}
use Rattle.region_states.specs.StatesInMemory.{held_in, any_holder, variable_state, variables_value, state_value, names_of}
use Rattle.region_states.specs.StatesInMemory.{holds_other}

one_held : (q : Access × Identifier → Bool) (o : Option (Access × Identifier)) (rest : List (Access × Identifier)) → list_any q (cons_option o rest) ≡ (some_passes q o || list_any q rest)
one_held q None rest = refl
one_held q (Some held) rest = refl

all_held : (q : Access × Identifier → Bool) (vs : List NamedState) → list_any q (filter_map (λ v. option_and_then held_by (buffer_of v.1)) vs) ≡ list_any (λ v. some_passes q (held_in v.1)) vs
all_held q [] = refl
all_held q (v ∷ vs) =
    one_held q (held_in v.1) (filter_map (λ (w : NamedState). option_and_then held_by (buffer_of w.1)) vs)
    ∙ ap (λ b. some_passes q (held_in v.1) || b) (all_held q vs)

-- what is asked of the held buffers is asked of each variable
pub holder_is : (q : Access × Identifier → Bool) (state : RegionState) → list_any q (held_buffers state) ≡ any_holder q state
holder_is q state = all_held q state.variables

any_if : (q : NamedState → Bool) (b : Bool) (v : NamedState) (vs : List NamedState) (rest : Bool) → list_any q vs ≡ rest → list_any q (if b then v ∷ vs else vs) ≡ (b && q v || rest)
any_if q true v vs rest h = ap (λ r. q v || r) h
any_if q false v vs rest h = h

any_filtered : (q p : NamedState → Bool) (vs : List NamedState) → list_any q (filter p vs) ≡ list_any (λ v. p v && q v) vs
any_filtered q p [] = refl
any_filtered q p (v ∷ vs) = any_if q (p v) v (filter p vs) (list_any (λ w. p w && q w) vs) (any_filtered q p vs)

pub own_is : (outer state : RegionState) → holds_own outer state ≡ holds_other outer state
own_is outer state = any_filtered (λ v. is_held (Some v.1)) (λ v. not (has_variable outer v.0)) state.variables

-- ---- states in memory

pub all_known : (names : List Identifier) (facts : Facts) → length facts.variables.items ≡ length names → length (map variable_state facts.variables.items) ≡ length names
all_known names facts h = length-map facts.variables.items variable_state ∙ h

-- a state has the names that it was made of
pub names_of_value : (names : List Identifier) (facts : Facts) → length facts.variables.items ≡ length names → names_of (state_value names facts) ≡ names
names_of_value names facts h = names_are names (map variable_state facts.variables.items) (all_known names facts h)

pub names_at : (names : List Identifier) (facts : Facts) (s : RegionState) → length facts.variables.items ≡ length names → state_value names facts ≡ s → names_of s ≡ names
names_at names facts s h e = ap names_of (sym e) ∙ names_of_value names facts h

-- what is read at a number
pub known_at : (items : List VariableStateInMemory) (n : ℕ) (v : VariableStateInMemory) → n < length items → v ≡ get_or items n v → slice_get (map variable_state items) n ≡ Some (variable_state v)
known_at items n v h e =
    slice_get-get_or (map variable_state items) n (variable_state v) (omega (arith, h, length-map items variable_state))
    ∙ ap Some (get_or-map variable_state items n v (variable_state v) h ∙ ap variable_state (sym e))

-- the number of a name is that of a variable
pub within : (x : Identifier) (names : List Identifier) (items : List VariableStateInMemory) (n : ℕ) → length items ≡ length names → Some n ≡ position (bytes_eq x) names → n < length items
within x names items n h e = omega (arith, h, (position-Some (bytes_eq x) names n [] (sym e)).0)

pub changed_known : (names : List Identifier) (items : List VariableStateInMemory) (x : Identifier) (f : VariableState → VariableState) (n : ℕ) (old new : VariableStateInMemory) → IsDistinct bytes_eq names → length items ≡ length names
    → Some n ≡ position (bytes_eq x) names → old ≡ get_or items n old → variable_state new ≡ f (variable_state old)
    → variables_value names (set items n new) ≡ map (λ v. (v.0, if bytes_eq x v.0 then f v.1 else v.1)) (variables_value names items)
changed_known names items x f n old new distinct h e read is =
    let vs = map variable_state items in
    let lt = within x names items n h e in
    ap (λ (ws : List VariableState). reverse (zip names ws))
    (map-set variable_state items n new ∙ ap (λ (w : VariableState). set vs n w) (is ∙ ap f (ap variable_state read ∙ sym (get_or-map variable_state items n old (variable_state old) lt))))
    ∙ sym (changed_at f x names vs n (variable_state old) distinct (omega (arith, lt, length-map items variable_state)) e)

pub pushed_known : (names : List Identifier) (items : List VariableStateInMemory) (x : Identifier) (v : VariableStateInMemory) → length items ≡ length names
    → variables_value (names ++ x ∷ []) (items ++ v ∷ []) ≡ (x, variable_state v) ∷ variables_value names items
pushed_known names items x v h =
    ap (λ (ws : List VariableState). reverse (zip (names ++ x ∷ []) ws)) (map-append variable_state items (v ∷ [])) ∙ pushed names (map variable_state items) x (variable_state v) (length-map items variable_state ∙ h)

-- ---- changes in place

-- a variable more is changed
pub change_more : (f : VariableState → VariableState) (xs ys : List VariableStateInMemory) (i : ℕ) (d new : VariableStateInMemory) → i < length ys → length ys ≡ length xs
    → map variable_state ys ≡ map f (take i (map variable_state xs)) ++ drop i (map variable_state xs) → variable_state new ≡ f (variable_state (get_or ys i d))
    → map variable_state (set ys i new) ≡ map f (take (i + 1) (map variable_state xs)) ++ drop (i + 1) (map variable_state xs)
change_more f xs ys i d new lt long done is =
    map-set variable_state ys i new
    ∙ ap (λ (v : VariableState). set (map variable_state ys) i v) is
    ∙ map_over_more f (map variable_state xs) (map variable_state ys) i (variable_state (get_or ys i d)) (omega (arith, lt, long, length-map xs variable_state)) done
    (sym (get_or-map variable_state ys i d (variable_state (get_or ys i d)) lt))

-- ---- names in memory

pub none_alike : IsDistinct bytes_eq []
unfolding IsDistinct
none_alike = tt

pub distinct_names : (keys : List (Bor (List ℕ))) → IsDistinct (λ x y. bytes_eq x.now y.now) keys → IsDistinct bytes_eq (map (λ x. x.now) keys)
distinct_names [] d = none_alike
distinct_names (k ∷ keys) d =
    IsDistinct-cons bytes_eq k.now (map (λ x. x.now) keys) (along keys (IsDistinct-head (λ x y. bytes_eq x.now y.now) k keys d)) (distinct_names keys (IsDistinct-tail (λ x y. bytes_eq x.now y.now) k keys d))
  where
    along : (ks : List (Bor (List ℕ))) → AllByRecursion (λ (y : Bor (List ℕ)). bytes_eq k.now y.now ≡ false) ks → AllByRecursion (λ y. bytes_eq k.now y ≡ false) (map (λ (x : Bor (List ℕ)). x.now) ks)
    along [] h = tt
    along (y ∷ ks) h = (h.0, along ks h.1)

same_prefix : (p : Identifier → Bool) (keys : List (Bor (List ℕ))) → prefix_len (λ (k : Bor (List ℕ)). not (p k.now)) keys ≡ prefix_len (λ x. not (p x)) (map (λ x. x.now) keys)
same_prefix p [] = refl
same_prefix p (k ∷ keys) = ap (λ n. cond (not (p k.now)) (1 + n) 0) (same_prefix p keys)

pub number_is : (p : Identifier → Bool) (keys : List (Bor (List ℕ))) → position (λ (k : Bor (List ℕ)). p k.now) keys ≡ position p (map (λ x. x.now) keys)
number_is p keys = ap₂ (λ n m. cond (nat_lt n m) (Some n) None) (same_prefix p keys) (sym (length-map keys (λ (x : Bor (List ℕ)). x.now)))

pub inserted : (keys : List (Bor (List ℕ))) (k : Bor (List ℕ)) → list_any (bytes_eq k.now) (map (λ x. x.now) keys) ≡ false
    → map (λ x. x.now) (insert_key (λ x y. bytes_eq x.now y.now) keys k) ≡ map (λ x. x.now) keys ++ k.now ∷ []
inserted keys k h =
    ap (λ b. map (λ (x : Bor (List ℕ)). x.now) (if b then keys else keys ++ k ∷ [])) (sym (any_map (bytes_eq k.now) (λ (x : Bor (List ℕ)). x.now) keys) ∙ h)
    ∙ map-append (λ (x : Bor (List ℕ)). x.now) keys (k ∷ [])
