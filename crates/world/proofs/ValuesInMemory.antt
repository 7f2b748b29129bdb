-- Values of a world's lines that are held in memory one after the other, and numbers that are in the range of jint.
use Rattle.std.proofs.Common.{◌≡◌, ℕ, ◌+◌, ◌<◌, Bool, true, false, List, [], ◌∷◌, ◌++◌, length, map, take, get_or, slice_get, ◌-◌, Some, refl, sym, ap, ◌∙◌, zero, suc, arith}
use Rattle.std.specs.List.{list_all}
use Rattle.std.proofs.Math.ListN.{set}
use Rattle.std.proofs.lemmas.List.{map-append, take_more}
use Rattle.std.proofs.lemmas.Option.{slice_get_within}
use Rattle.std.proofs.lemmas.List.Folds.{list_all-map, list_all_at}
use Rattle.semantics.specs.World.{Invocation}
use Rattle.world.specs.Gathered.{last_calls}
use Rattle.world_values.specs.WorldMeaning.{with_last}

-- what all of a list pass, each passes
pub each_passes : {X Y : Type 0} (p : Y → Bool) (f : X → Y) (xs : List X) (i : ℕ) (d : X) → i < length xs → list_all p (map f xs) ≡ true → p (f (get_or xs i d)) ≡ true
each_passes p f xs i d h all = by_test (p (f (get_or xs i d))) refl
  where
    by_test : (b : Bool) → p (f (get_or xs i d)) ≡ b → p (f (get_or xs i d)) ≡ true
    by_test true e = e
    by_test false e = absurd (let no : true ≡ false = sym all ∙ list_all-map p f xs ∙ list_all_at (λ x. p (f x)) xs i d h e in cc)

-- one more of a list that goes through two maps
pub map_more : {X Y Z : Type 0} (g : Y → Z) (f : X → Y) (xs : List X) (i : ℕ) (d : X) (out : List Z) (z : Z) → i < length xs → out ≡ map g (map f (take i xs)) → z ≡ g (f (get_or xs i d)) → out ++ z ∷ [] ≡ map g (map f (take (i + 1) xs))
map_more g f xs i d out z h e k =
    ap (λ zs. zs ++ z ∷ []) e
    ∙ ap (λ y. map g (map f (take i xs)) ++ y ∷ []) k
    ∙ sym (map-append g (map f (take i xs)) (f (get_or xs i d) ∷ []))
    ∙ ap (map g) (sym (map-append f (take i xs) (get_or xs i d ∷ [])))
    ∙ ap (λ ys. map g (map f ys)) (sym (take_more xs i d h))

-- one more of a list that goes through one map
pub mapped_more : {X Z : Type 0} (g : X → Z) (xs : List X) (i : ℕ) (d : X) (out : List Z) (z : Z) → i < length xs → out ≡ map g (take i xs) → z ≡ g (get_or xs i d) → out ++ z ∷ [] ≡ map g (take (i + 1) xs)
mapped_more g xs i d out z h e k =
    ap (λ zs. zs ++ z ∷ []) e
    ∙ ap (λ y. map g (take i xs) ++ y ∷ []) k
    ∙ sym (map-append g (take i xs) (get_or xs i d ∷ []))
    ∙ ap (map g) (sym (take_more xs i d h))

-- one more call of the last thread
pub last_put : {V : Type 0} (items : V → List Invocation) (threads : List V) (calls put : V) (call : Invocation) (i : ℕ) → i + 1 ≡ length threads → calls ≡ get_or threads i calls → items put ≡ items calls ++ call ∷ [] → map items (set threads i put) ≡ with_last call (map items threads)
last_put items [] calls put call i e last is = absurd (omega (arith, e))
last_put items (t ∷ []) calls put call zero e last is = ap (λ cs. cs ∷ []) (is ∙ ap (λ t. items t ++ call ∷ []) last)
last_put items (t ∷ []) calls put call (suc i) e last is = absurd (omega (arith, e))
last_put items (t ∷ u ∷ threads) calls put call zero e last is = absurd (omega (arith, e))
last_put items (t ∷ u ∷ threads) calls put call (suc i) e last is = ap (λ ts. items t ∷ ts) (last_put items (u ∷ threads) calls put call i (omega (arith, e)) last is)

-- the calls of the last thread
last_at : {V : Type 0} (items : V → List Invocation) (threads : List V) (calls : V) (i : ℕ) → i + 1 ≡ length threads → Some calls ≡ slice_get threads i → last_calls (map items threads) ≡ items calls
last_at items [] calls i e last = absurd (omega (arith, e))
last_at items (t ∷ []) calls zero e last = let same : calls ≡ t = cc in ap items (sym same)
last_at items (t ∷ []) calls (suc i) e last = absurd (omega (arith, e))
last_at items (t ∷ u ∷ threads) calls zero e last = absurd (omega (arith, e))
last_at items (t ∷ u ∷ threads) calls (suc i) e last = last_at items (u ∷ threads) calls i (omega (arith, e)) last

pub last_held : {V : Type 0} (items : V → List Invocation) (threads : List V) (calls : V) → Some calls ≡ slice_get threads (length threads - 1) → last_calls (map items threads) ≡ items calls
last_held items threads calls last =
    let h = slice_get_within threads (length threads - 1) calls (sym last) in last_at items threads calls (length threads - 1) (omega (arith, h)) last
