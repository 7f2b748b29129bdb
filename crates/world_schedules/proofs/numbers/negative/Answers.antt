use Rattle.std.proofs.Common.{◌≡◌, ℕ, ◌-◌, ◌^◌, cond, min, Option, Some, None, ap, ◌∙◌, arith, refl}
use Rattle.std.specs.Prelude.{negsuc, ◌==◌, ℤ}
use Rattle.std.specs.Option.{option_map}
use Rattle.std.proofs.lemmas.Bool.Decides.{nat_tests}
use Rattle.world_schedules.specs.Numbers.{negated}
use Rattle.world_schedules.proofs.numbers.negative.Goals as goal

same_test : (n m : ℕ) → m ≡ min n (2 ^ 64 - 1) → (m == 0) ≡ (n == 0)
same_test n m h = grind (arith, nat_tests)

some : (o : Option ℕ) (v : ℕ) → Some v ≡ option_map (λ n. min n (2 ^ 64 - 1)) o → negated (Some v) ≡ negated o
some None v h = absurd (cc)
some (Some n) v h =
    let e : v ≡ min n (2 ^ 64 - 1) = cc in
    ap (λ b. cond b None (Some (negsuc (min (v - 1) (2 ^ 63 - 1))))) (same_test n v e)
    ∙ ap (λ m. let o : Option ℤ = cond (n == 0) None (Some (negsuc m)) in o) (omega arith)

none : (o : Option ℕ) → None ≡ option_map (λ n. min n (2 ^ 64 - 1)) o → None ≡ negated o
none None h = refl
none (Some n) h = absurd (cc)

pub returns-in-None : goal.returns-in-None
returns-in-None c = none _ c.in-None.ensures

pub returns-in-Some : goal.returns-in-Some
returns-in-Some c = c.below_zero.ensures ∙ some _ c.in-Some.distance c.in-Some.ensures
