use Rattle.std.proofs.Common.{◌≡◌, ◌+◌, ℕ, Result, Ok, Err, OnOk, OnErr, sym, ap, ◌∙◌, length}
use Rattle.machine.specs.Run.{Run, IsSliced}
use Rattle.shared_passes.specs.Tokens.{knower}
use Rattle.shared_accounts.specs.Accounts.{account_of, known_of}
use Rattle.shared_accounts.proofs.Clearings.{account_sliced, known_sliced, same_parts}
use Rattle.shared.proofs.desk.Desk.slice.Goals as goal

-- a slice changes nothing that is known
kept : {T E : Type 0} (old new : Run) (r : Result T E) → OnOk r (IsSliced old new) → OnErr r (new ≡ old) → (new.world ≡ old.world) × (known_of new ≡ known_of old) × (new.unit ≡ old.unit)
kept old new (Ok x) h e = let same = same_parts old new h in (same.0, known_sliced old new h, same.1)
kept old new (Err x) h e = (ap (λ (r : Run). r.world) e, ap known_of e, ap (λ (r : Run). r.unit) e)

pub invariant_of-self : goal.invariant_of-self
invariant_of-self g c =
    let i = c.self.invariant in
    let k = kept c.self.inside.machine c.slice.new.self c.slice.result c.slice.ensures.ok c.slice.ensures.err in
    (k.0 ∙ i.0, i.1, i.2 ∙ ap (λ n. knower n (length g.J.Naming.world.threads + 1)) (sym k.1), k.2 ∙ i.3)

-- nor any account
accounts : {T E : Type 0} (old new : Run) (r : Result T E) → OnOk r (IsSliced old new) → OnErr r (new ≡ old) → (k : ℕ) → account_of new k ≡ account_of old k
accounts old new (Ok x) h e k = account_sliced old new h k
accounts old new (Err x) h e k = ap (λ (r : Run). account_of r k) e

pub returns-clause-accounts : goal.returns-clause-accounts
returns-clause-accounts g c = λ k.
    accounts c.self.inside.machine c.slice.new.self c.slice.result c.slice.ensures.ok c.slice.ensures.err k ∙ ap (λ (r : Run). account_of r k) c.self.view_is
