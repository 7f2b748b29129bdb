-- What is at a place of the code.
use Rattle.std.proofs.Common.{◌≡◌, ℕ, ◌+◌, List, [], ◌∷◌, ◌++◌, length, Some, refl, subst, arith, append_assoc, length-append}
use Rattle.std.specs.Prelude.{slice_get}
use Rattle.code.specs.declared.instr.Instr.{Instr}
use Rattle.code_meaning.specs.Stands.{HasAt}

pub has_front : (instrs : List Instr) (place : ℕ) (a b : List Instr) → HasAt instrs place (a ++ b) → HasAt instrs place a
has_front instrs place [] b h = tt
has_front instrs place (i ∷ a) b h = (h.0, has_front instrs (place + 1) a b h.1)

pub has_back : (instrs : List Instr) (place : ℕ) (a b : List Instr) → HasAt instrs place (a ++ b) → HasAt instrs (place + length a) b
has_back instrs place [] b h = let e : place ≡ place + 0 = omega arith in subst (λ n. HasAt instrs n b) e h
has_back instrs place (i ∷ a) b h =
    let e : place + 1 + length a ≡ place + length (i ∷ a) = omega arith in
    subst (λ n. HasAt instrs n b) e (has_back instrs (place + 1) a b h.1)

pub has_both : (instrs : List Instr) (place : ℕ) (a b : List Instr) → HasAt instrs place a → HasAt instrs (place + length a) b → HasAt instrs place (a ++ b)
has_both instrs place [] b h k = let e : place + 0 ≡ place = omega arith in subst (λ n. HasAt instrs n b) e k
has_both instrs place (i ∷ a) b h k =
    let e : place + length (i ∷ a) ≡ place + 1 + length a = omega arith in
    (h.0, has_both instrs (place + 1) a b h.1 (subst (λ n. HasAt instrs n b) e k))

-- the instruction just after a list
pub get-append_seam : {A : Type 0} (a b : List A) (i : A) → slice_get (a ++ i ∷ b) (length a) ≡ Some i
get-append_seam [] b i = refl
get-append_seam (x ∷ a) b i = get-append_seam a b i

-- after its front a code has the rest
pub has_all : (is front : List Instr) → HasAt (front ++ is) (length front) is
has_all [] front = tt
has_all (i ∷ is) front =
    let n : length (front ++ i ∷ []) ≡ length front + 1 = omega (arith, length-append front (i ∷ [])) in
    let rest = subst (λ l. HasAt l (length (front ++ i ∷ [])) is) (append_assoc front (i ∷ []) is) (has_all is (front ++ i ∷ [])) in
    (get-append_seam front is i, subst (λ m. HasAt (front ++ i ∷ is) m is) n rest)
