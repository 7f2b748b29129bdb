use Rattle.std.proofs.Common.{◌≡◌, ◌-◌, drop, None, arith, subst}
use Rattle.class_rules.specs.Mangling.{split_last}
use Rattle.class_rules.proofs.Unescaping.{split_last-found}
use Rattle.class_rules.proofs.mangling.last_slash.Goals as goal

pub returns-then-path-end-eq47-clause-found : goal.returns-then-path-end-eq47-clause-found
returns-then-path-end-eq47-clause-found c =
    (omega arith, split_last-found c.args.path.now (c.loop-end.end - 1) (omega arith) c.if-path-end-eq47.true (subst (λ i. split_last (drop i c.args.path.now) ≡ None) (omega arith) c.loop-end.invariant.1))
