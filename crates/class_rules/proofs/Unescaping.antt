-- What an escaped path stands for, byte by byte, and the two parts about its last slash.
use Rattle.std.proofs.Common.{◌≡◌, ℕ, ◌<◌, ◌+◌, ◌-◌, ◌≤◌, Bool, true, false, eqb, List, [], ◌∷◌, ◌++◌, get_or, length, take, drop, refl, sym, ap, ◌∙◌, Option, Some, None, is_some, arith, if◌then◌else◌}
use Rattle.std.proofs.lemmas.Grind.{common_steps}
use Rattle.base.specs.Options.{option_filter}
use Rattle.class_rules.specs.Mangling.{unescaped, split_last, is_unmangled, unmangle}
use Rattle.class_rules.proofs.Mangled.{inverse}

-- a byte that is no underscore stands for itself
pub unescaped-other : (c : ℕ) (rest : List ℕ) → eqb c 95 ≡ false → unescaped (c ∷ rest) ≡ c ∷ unescaped rest
unescaped-other c [] h = rw h refl
unescaped-other c (d ∷ rest) h = rw h refl

-- a last slash divides a path
split-at : (front rest : List ℕ) → split_last rest ≡ None → split_last (front ++ (47 ∷ rest)) ≡ Some (front, rest)
split-at [] rest h = rw h refl
split-at (c ∷ front) rest h = rw (split-at front rest h) refl

pub split_last-found : (path : List ℕ) (i : ℕ) → i < length path → get_or path i 0 ≡ 47 → split_last (drop (i + 1) path) ≡ None → split_last path ≡ Some (take i path, drop (i + 1) path)
split_last-found path i below here none =
    let whole : path ≡ take i path ++ (47 ∷ drop (i + 1) path) = grind (arith, common_steps, here) in
    ap split_last whole ∙ split-at (take i path) (drop (i + 1) path) none

pub filter-some : {A : Type 0} (test : A → Bool) (o : Option A) → is_some (option_filter test o) ≡ true → option_filter test o ≡ o
filter-some test None h = refl
filter-some {A = A} test (Some x) h = go (test x) refl
  where
    go : (b : Bool) → test x ≡ b → option_filter test (Some x) ≡ Some x
    go true e = ap (λ t. if t then Some x else None) e
    go false e = let no : false ≡ true = sym (ap (λ t. is_some (if t then Some x else None)) e) ∙ h in absurd cc

-- a mangled name's class is before the last slash, and its method after it
pub unmangle-parts : (name : List ℕ) → is_some (unmangle name) ≡ true → unmangle name ≡ split_last (unescaped (drop 5 name))
unfolding unmangle
unmangle-parts name h = filter-some (is_unmangled name) (split_last (unescaped (drop 5 name))) h

pub some_of : {A : Type 0} (o : Option A) → is_some o ≡ true → (x : A) × (o ≡ Some x)
some_of None h = cc
some_of (Some x) h = (x, refl)

-- a mangled name has the prefix
pub unmangle-long : (name : List ℕ) → is_some (unmangle name) ≡ true → 5 ≤ length name
unmangle-long name h =
    let found = some_of (unmangle name) h in
    let made = (inverse name found.0.0 found.0.1).0 found.1 in
    rw made.2 (omega arith)

pub whole-rest : (xs : List ℕ) → take (length xs - 5) (drop 5 xs) ≡ drop 5 xs
whole-rest xs = grind (arith, common_steps)
