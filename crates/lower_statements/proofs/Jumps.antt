-- A jump is written once it is known how far it leads.
use Rattle.std.proofs.Common.{◌≡◌, ℕ, ◌+◌, List, [], ◌∷◌, ◌++◌, length, Result, Ok, Err, OnOk, refl, sym, ap, ◌∙◌, arith, append_assoc, length-append}
use Rattle.std.specs.Prelude.{slice_set, IfOk, IsErr}
use Rattle.code.specs.declared.instr.Instr.{Instr}
use Rattle.code.specs.declared.instr.Instr.TheVariants as instr
use Rattle.code_meaning.specs.Coding.{skip_code, logical_code, first_code, paths_code, loop_code}

-- what holds of a success, holds in other words
pub on_ok : {A E : Type 0} (r : Result A E) (P Q : Type 0) → (P → Q) → OnOk r P → OnOk r Q
on_ok (Ok x) P Q f h = f h
on_ok (Err e) P Q f h = h

pub on_always : {A E : Type 0} (r : Result A E) (P : Type 0) → P → OnOk r P
on_always (Ok x) P h = h
on_always (Err e) P h = tt

-- a fault keeps what a success would
pub on_fault : {A E : Type 0} (r : Result A E) (P : Type 0) → IsErr r → OnOk r P
on_fault (Ok x) P h = absurd (cc)
on_fault (Err e) P h = tt

pub if_fault : {A E : Type 0} (r : Result A E) (P : A → Type 0) → IsErr r → IfOk r P
if_fault (Ok x) P h = absurd (cc)
if_fault (Err e) P h = tt

-- an instruction after others is replaced
pub set_after : (a b : List Instr) (i j : Instr) → slice_set (a ++ i ∷ b) (length a) j ≡ a ++ j ∷ b
set_after [] b i j = refl
set_after (x ∷ a) b i j = ap (λ r. x ∷ r) (set_after a b i j)

pub set_there : (a b : List Instr) (place : ℕ) (i j : Instr) → place ≡ length a → slice_set (a ++ i ∷ b) place j ≡ a ++ j ∷ b
set_there a b place i j h = ap (λ p. slice_set (a ++ i ∷ b) p j) h ∙ set_after a b i j

-- both branches of an `if`, where the code in front of it, its test and the two branches are these
pub paths_made : (old test then' else' : List Instr) (end n : ℕ) → end + 1 ≡ length (old ++ first_code test then') → n ≡ length else' + 1
    → slice_set (((old ++ first_code test then') ++ else') ++ instr.Jump 0 ∷ []) end (instr.Jump n) ≡ old ++ (test ++ paths_code then' (else' ++ instr.Jump 0 ∷ []))
paths_made old test then' else' end n at size =
    let jump = instr.JumpIfFalse (length then' + 1) in
    let front = old ++ (test ++ (jump ∷ then')) in
    let back = else' ++ instr.Jump 0 ∷ [] in
    let one : old ++ first_code test then' ≡ front ++ instr.Jump 0 ∷ [] = ap (λ r. old ++ r) (sym (append_assoc test (jump ∷ then') (instr.Jump 0 ∷ []))) ∙ sym (append_assoc old (test ++ (jump ∷ then')) (instr.Jump 0 ∷ [])) in
    let all : ((old ++ first_code test then') ++ else') ++ instr.Jump 0 ∷ [] ≡ front ++ instr.Jump 0 ∷ back =
    append_assoc (old ++ first_code test then') else' (instr.Jump 0 ∷ []) ∙ ap (λ r. r ++ back) one ∙ append_assoc front (instr.Jump 0 ∷ []) back in
    let place : end ≡ length front = omega (arith, at, ap length one, length-append front (instr.Jump 0 ∷ [])) in
    let far : n ≡ length back = omega (arith, size, length-append else' (instr.Jump 0 ∷ [])) in
    ap (λ c. slice_set c end (instr.Jump n)) all ∙ set_there front back end (instr.Jump 0) (instr.Jump n) place ∙ ap (λ m. front ++ instr.Jump m ∷ back) far
    ∙ append_assoc old (test ++ (jump ∷ then')) (instr.Jump (length back) ∷ back) ∙ ap (λ r. old ++ r) (append_assoc test (jump ∷ then') (instr.Jump (length back) ∷ back))

-- the right side of `&&` or `||` after its jump
pub side_made : (c : _) (old left right : List Instr) (place n : ℕ) → place ≡ length (old ++ left) → n ≡ length right → slice_set (((old ++ left) ++ skip_code c 0 ∷ []) ++ right) place (skip_code c n) ≡ old ++ logical_code c left right
side_made c old left right place n at size =
    ap (λ r. slice_set r place (skip_code c n)) (append_assoc (old ++ left) (skip_code c 0 ∷ []) right) ∙ set_there (old ++ left) right place (skip_code c 0) (skip_code c n) at
    ∙ ap (λ m. (old ++ left) ++ skip_code c m ∷ right) size ∙ append_assoc old left (skip_code c (length right) ∷ right)

-- the first branch of an `if`
pub first_made : (old test then' : List Instr) (jump n : ℕ) → jump ≡ length (old ++ test) → n ≡ length then' + 1
    → slice_set ((((old ++ test) ++ instr.JumpIfFalse 0 ∷ []) ++ then') ++ instr.Jump 0 ∷ []) jump (instr.JumpIfFalse n) ≡ old ++ first_code test then'
first_made old test then' jump n at size =
    let back = then' ++ instr.Jump 0 ∷ [] in
    ap (λ r. slice_set r jump (instr.JumpIfFalse n)) (append_assoc ((old ++ test) ++ instr.JumpIfFalse 0 ∷ []) then' (instr.Jump 0 ∷ []) ∙ append_assoc (old ++ test) (instr.JumpIfFalse 0 ∷ []) back)
    ∙ set_there (old ++ test) back jump (instr.JumpIfFalse 0) (instr.JumpIfFalse n) at
    ∙ ap (λ m. (old ++ test) ++ instr.JumpIfFalse m ∷ back) size ∙ append_assoc old test (instr.JumpIfFalse (length then' + 1) ∷ back)

-- a loop
pub loop_made : (old test body : List Instr) (jump n m : ℕ) → jump ≡ length (old ++ test) → n ≡ length body + 1 → m ≡ length test + 1 + length body
    → slice_set ((((old ++ test) ++ instr.JumpIfFalse 0 ∷ []) ++ body) ++ instr.JumpBack m ∷ []) jump (instr.JumpIfFalse n) ≡ old ++ loop_code test body
loop_made old test body jump n m at size far =
    let back = body ++ instr.JumpBack m ∷ [] in
    ap (λ r. slice_set r jump (instr.JumpIfFalse n)) (append_assoc ((old ++ test) ++ instr.JumpIfFalse 0 ∷ []) body (instr.JumpBack m ∷ []) ∙ append_assoc (old ++ test) (instr.JumpIfFalse 0 ∷ []) back)
    ∙ set_there (old ++ test) back jump (instr.JumpIfFalse 0) (instr.JumpIfFalse n) at
    ∙ ap (λ k. (old ++ test) ++ instr.JumpIfFalse k ∷ back) size ∙ ap (λ k. (old ++ test) ++ instr.JumpIfFalse (length body + 1) ∷ (body ++ instr.JumpBack k ∷ [])) far
    ∙ append_assoc old test (instr.JumpIfFalse (length body + 1) ∷ (body ++ instr.JumpBack (length test + 1 + length body) ∷ []))
