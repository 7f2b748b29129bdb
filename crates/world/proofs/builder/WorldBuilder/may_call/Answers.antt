use Rattle.std.proofs.Common.{◌≡◌, sym, ap, ◌∙◌, map, length, arith}
use Rattle.std.specs.Prelude.{nat_lt}
use Rattle.world.specs.Gathered.{last_calls}
use Rattle.world.proofs.ValuesInMemory.{last_held}
use Rattle.world.proofs.builder.WorldBuilder.may_call.Goals as goal

pub returns-in-Some : goal.returns-in-Some
returns-in-Some c =
    let counted : c.len.result ≡ length c.in-Some.calls.now.items = omega (arith, c.len.ensures, c.in-Some.calls.now.ok.0) in
    ap (λ n. nat_lt n 256)
    (counted
    ∙ ap length (sym (last_held (λ t. t.items) c.deref.result.now c.in-Some.calls.now c.in-Some.ensures.value))
    ∙ ap (λ ts. length (last_calls (map (λ t. t.items) ts))) c.deref.ensures.value)
