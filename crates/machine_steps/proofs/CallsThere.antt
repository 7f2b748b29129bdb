-- What is there: the call in progress that is lent, the return that comes next, the last caller, and the call that a caller has made.
use Rattle.std.proofs.Common.{◌≡◌, ℕ, ◌<◌, List, [], ◌∷◌, ◌++◌, length, Option, Some, None, refl, sym, ap, ◌∙◌, subst, arith, ◌⊎◌, ⊎_elim}
use Rattle.code.specs.declared.instr.Instr.{Instr}
use Rattle.code.specs.declared.instr.Instr.TheVariants as instr
use Rattle.code.specs.declared.instr.ReferenceOperand.{ReferenceOperand}
use Rattle.code_meaning.specs.Does.{IsReturn}
use Rattle.machine_scenes.specs.declared.activation.Activation.{Activation}
use Rattle.machine_threads.specs.declared.thread.Entering.{Entering}
use Rattle.machine_threads.specs.declared.thread.PendingCall.{PendingCall}
use Rattle.machine_steps.specs.Pushed.{IsNext}

-- what is lent of a call is that call
pub running : {o : Option Activation} {a b : Activation} → o ≡ Some a → b ≡ a → o ≡ Some b
running is same = is ∙ ap (λ (x : Activation). Some x) (sym same)

-- an instruction that leaves a function
pub returns_is : (i : Instr) → (i ≡ instr.Return) ⊎ ((i ≡ instr.ReturnJint) ⊎ ((o : ReferenceOperand) × (i ≡ instr.ReturnReference o))) → IsReturn i
returns_is i h = ⊎_elim (λ e. subst IsReturn (sym e) tt) (λ rest. ⊎_elim (λ e. subst IsReturn (sym e) tt) (λ e. subst IsReturn (sym e.1) tt) rest) h

-- the last of a list that has some
pub last_of : {A : Type 0} (xs : List A) → 0 < length xs → (front : List A) × (x : A) × (xs ≡ front ++ x ∷ [])
last_of [] some = absurd (omega (arith, some))
last_of (x ∷ []) some = ([], x, refl)
last_of {A} (x ∷ y ∷ xs) some = let r = last_of (y ∷ xs) (omega arith) in (x ∷ r.0, r.1, ap (λ (l : List A). x ∷ l) r.2)

-- the call that a caller has made is the next one
pub of_caller : (loaded : List ℕ) (o : Option Entering) (e : Entering) (calls : List PendingCall) → o ≡ Some e → IsNext loaded o calls calls e
of_caller loaded None e calls is = absurd (cc)
of_caller loaded (Some x) e calls is = let same : x ≡ e = cc in (sym same, refl)
