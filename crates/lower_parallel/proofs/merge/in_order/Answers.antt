use Rattle.std.proofs.Common.{rules, ◌≡◌, ◌<◌, ◌%◌, ℕ, List, [], length, map, get_or, sym, ◌∙◌, subst, arith}
use Rattle.std.proofs.lemmas.Nat.{mod_below}
use Rattle.std.proofs.lemmas.List.{length-map}
use Rattle.code.specs.Depth.{Listing}
use Rattle.lower_parallel.proofs.Merging.{AreTaken, none_taken, one_taken, all_taken}
use Rattle.lower_parallel.proofs.merge.in_order.Goals as goal

pub loop-code-init : goal.loop-code-init
loop-code-init c =
    let many : length c.args.shares.items ≡ c.len-workers.result = omega (arith, c.len-workers.ensures, c.args.shares.ok.0) in
    (many, λ program given. none_taken program c.len-workers.result (map (λ s. s.items) c.args.shares.items) _ (length-map c.args.shares.items (λ s. s.items) ∙ many) c.new-codes.ensures.items given)

pub loop-code-preserved : goal.loop-code-preserved
loop-code-preserved c =
    let workers = c.len-workers.result in
    let number = c.len.result in
    let share : ℕ → List Listing = λ w. get_or (map (λ s. s.items) c.loop-code.shares.items) w [] in
    let below : number % workers < workers = mod_below number workers (omega (arith, c.requires, c.len-workers.ensures)) in
    let counted : length c.loop-code.codes.items ≡ number = omega (arith, c.len.ensures, c.loop-code.codes.ok.0) in (
      omega (arith, c.loop-code.invariant.0, c.take_code.ensures.many, c.take_code.new.shares.ok.0, c.loop-code.shares.ok.0),
      λ program given.
          subst (AreTaken program workers _) (sym c.in_ok-push.ensures.items)
          (one_taken program workers share _ c.loop-code.codes.items number c.in-Some.code (c.loop-code.invariant.1 program given) counted below c.in-Some.ensures.taken c.in-Some.ensures.kept),
    )

pub returns : goal.returns
returns c = λ program given.
    let workers = c.len-workers.result in
    let number = c.len.result in
    let share : ℕ → List Listing = λ w. get_or (map (λ s. s.items) c.loop-code.shares.items) w [] in
    let below : number % workers < workers = mod_below number workers (omega (arith, c.requires, c.len-workers.ensures)) in
    let counted : length c.loop-code.codes.items ≡ number = omega (arith, c.len.ensures, c.loop-code.codes.ok.0) in
    all_taken program workers share c.loop-code.codes.items number (c.loop-code.invariant.1 program given) counted below (c.in_default.ensures.none (search rules))
