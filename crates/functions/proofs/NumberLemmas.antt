-- What is found by name.
use Rattle.std.proofs.Common.{◌≡◌, ℕ, zero, suc, ◌+◌, Bool, true, false, cond, List, [], ◌∷◌, Option, Some, None, refl, sym, ap, ◌∙◌, arith}
use Rattle.std.specs.Prelude.{IfSome, find, slice_get}
use Rattle.std.specs.Option.{option_map}
use Rattle.std.specs.Str.{bytes_eq}
use Rattle.std.proofs.lemmas.Slice.Eq.{bytes_eq-Decides}
use Rattle.base.specs.Bytes.{Identifier}
use Rattle.syntax.specs.Tree.{Function}
use Rattle.syntax.specs.Views.{function_tree}
use Rattle.functions.specs.declared.functions.NumberedFunction.{NumberedFunction}
use Rattle.functions.specs.Numbers.{first_named, numbered_view}

-- the first of a name is found
pub first_found : (n : ℕ) (fs : List Function) (x : Identifier) → option_map (λ (m : ℕ × Function). m.1) (first_named n fs x) ≡ find (λ (f : Function). bytes_eq f.name x) fs
first_found n [] x = refl
first_found n (f ∷ fs) x = by_test (bytes_eq f.name x) (first_found (n + 1) fs x)
  where
    by_test : (b : Bool) → option_map (λ (m : ℕ × Function). m.1) (first_named (n + 1) fs x) ≡ find (λ (g : Function). bytes_eq g.name x) fs
        → option_map (λ (m : ℕ × Function). m.1) (cond b (Some (n, f)) (first_named (n + 1) fs x)) ≡ cond b (Some f) (find (λ (g : Function). bytes_eq g.name x) fs)
    by_test true later = refl
    by_test false later = later

-- its number is its place, and it has the name
abbrev IsNumbered : ℕ → List Function → Identifier → ℕ → Function → Type 0
IsNumbered n fs x m g = (k : ℕ) × (m ≡ n + k) × (slice_get fs k ≡ Some g) × (bytes_eq g.name x ≡ true)

pub first_is : (n : ℕ) (fs : List Function) (x : Identifier) (m : ℕ) (g : Function) → first_named n fs x ≡ Some (m, g) → IsNumbered n fs x m g
first_is n [] x m g h = absurd (cc)
first_is n (f ∷ fs) x m g h = by_test (bytes_eq f.name x) refl h (first_is (n + 1) fs x m g)
  where
    by_test : (b : Bool) → bytes_eq f.name x ≡ b → cond b (Some (n, f)) (first_named (n + 1) fs x) ≡ Some (m, g) → (first_named (n + 1) fs x ≡ Some (m, g) → IsNumbered (n + 1) fs x m g) → IsNumbered n (f ∷ fs) x m g
    by_test true same is further =
        let pair : ◌≡◌ {A = ℕ × Function} (n, f) (m, g) = cc in
        let number : n ≡ m = ap (λ (p : ℕ × Function). p.0) pair in
        let function : f ≡ g = ap (λ (p : ℕ × Function). p.1) pair in
        (zero, omega (arith, number), ap (λ (h : Function). Some h) function, ap (λ (h : Function). bytes_eq h.name x) (sym function) ∙ same)
    by_test false other is further =
        let later = further is in
        (suc later.0, omega (arith, later.1), later.2, later.3)

-- ---- what a table answers

pub found_function : (r : Option NumberedFunction) (fs : List Function) (x : Identifier) → option_map numbered_view r ≡ first_named 0 fs x → option_map (λ (n : NumberedFunction). function_tree n.function.now) r ≡ find (λ (f : Function). bytes_eq f.name x) fs
found_function None fs x e = ap (option_map (λ (m : ℕ × Function). m.1)) e ∙ first_found 0 fs x
found_function (Some n) fs x e = ap (option_map (λ (m : ℕ × Function). m.1)) e ∙ first_found 0 fs x

pub found_number : (r : Option NumberedFunction) (fs : List Function) (x : Identifier) → option_map numbered_view r ≡ first_named 0 fs x → IfSome r (λ n. slice_get fs n.number ≡ Some (function_tree n.function.now))
found_number None fs x e = tt
found_number (Some n) fs x e =
    let is = first_is 0 fs x n.number (function_tree n.function.now) (sym e) in
    let place : n.number ≡ is.0 = omega (arith, is.1) in
    ap (slice_get fs) place ∙ is.2

pub found_name : (r : Option NumberedFunction) (fs : List Function) (x : Identifier) → option_map numbered_view r ≡ first_named 0 fs x → IfSome r (λ n. n.function.now.name ≡ x)
found_name None fs x e = tt
found_name (Some n) fs x e = (bytes_eq-Decides n.function.now.name x).0 (first_is 0 fs x n.number (function_tree n.function.now) (sym e)).3
