-- The functions of an element type, or of an access, come one after another in the list of all.
use Rattle.std.proofs.Common.{arith, ◌≡◌, ◌+◌, ◌-◌, ◌≤◌, ℕ, zero, suc, List, [], ◌∷◌, take, drop, Some, refl, sym, ap, ◌∙◌, subst}
use Rattle.std.specs.List.{slice_get}
use Rattle.std.proofs.Math.Seq.{drop-nil}
use Rattle.std.proofs.lemmas.List.{drop-take}
use Rattle.base.specs.declared.element.ElementType.{ElementType}
use Rattle.jni.specs.declared.access.Access.TheVariants.{ElementsCopy}
use Rattle.jni.specs.Table.{Facts, all_rows}
use Rattle.jni.specs.declared.function.JniFunction.{JniFunction}
use Rattle.jni.specs.JniFunction.{all_functions, typed_functions, access_functions}

-- what is at a place of a part of a list, is in the list too
in_front : {A : Type 0} (xs : List A) (m k : ℕ) (f : A) → slice_get (take m xs) k ≡ Some f → slice_get xs k ≡ Some f
in_front [] zero k f h = h
in_front [] (suc m) k f h = h
in_front (x ∷ xs) zero k f h = absurd cc
in_front (x ∷ xs) (suc m) zero f h = h
in_front (x ∷ xs) (suc m) (suc k) f h = in_front xs m k f h

after : {A : Type 0} (n k j : ℕ) (xs : List A) (f : A) → n + k ≡ j → slice_get (drop n xs) k ≡ Some f → slice_get xs j ≡ Some f
after zero k j xs f e h = let same : k ≡ j = omega (arith, e) in subst (λ i. slice_get xs i ≡ Some f) same h
after (suc n) k j [] f e h = absurd cc
after (suc n) k zero (x ∷ xs) f e h = absurd omega (arith, e)
after (suc n) k (suc j) (x ∷ xs) f e h = after n k j xs f (omega (arith, e)) h

pub placed : (n m k : ℕ) (fs : List JniFunction) (f : JniFunction) → take m (drop n all_functions) ≡ fs → slice_get fs k ≡ Some f → slice_get all_functions (n + k) ≡ Some f
placed n m k fs f part at =
    after n k (n + k) all_functions f refl
    (in_front (drop n all_functions) m k f (subst (λ xs. slice_get xs k ≡ Some f) (sym part) at))

pub first_placed : (n m : ℕ) (fs : List JniFunction) (f : JniFunction) → take m (drop n all_functions) ≡ fs → slice_get fs 0 ≡ Some f → slice_get all_functions n ≡ Some f
first_placed n m fs f part at =
    after n 0 n all_functions f (omega arith)
    (in_front (drop n all_functions) m 0 f (subst (λ xs. slice_get xs 0 ≡ Some f) (sym part) at))

-- the row of a number among those that begin with a number
pub row_there : (first count number : ℕ) (r : Facts) → first ≤ number → slice_get (take count (drop first all_rows)) (number - first) ≡ Some r → slice_get all_rows number ≡ Some r
row_there first count number r begun at = after first (number - first) number all_rows r (omega (arith, begun)) (in_front (drop first all_rows) count (number - first) r at)

further : (n k j : ℕ) (xs : List JniFunction) → n + k ≡ j → drop j xs ≡ drop k (drop n xs)
further zero k j xs e = let same : j ≡ k = omega (arith, e) in ap (λ i. drop i xs) same
further (suc n) k j [] e = drop-nil j ∙ sym (drop-nil k)
further (suc n) k zero (x ∷ xs) e = absurd omega (arith, e)
further (suc n) k (suc j) (x ∷ xs) e = further n k j xs (omega (arith, e))

-- the last two functions of an element type are those of its buffers
pub buffers_placed : (n : ℕ) (T : ElementType) → take 9 (drop n all_functions) ≡ typed_functions T → take 2 (drop (n + 7) all_functions) ≡ access_functions (ElementsCopy T)
buffers_placed n T part = ap (take 2) (further n 7 (n + 7) all_functions refl) ∙ sym (drop-take 7 2 (drop n all_functions)) ∙ ap (drop 7) part
