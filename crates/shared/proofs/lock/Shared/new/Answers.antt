use Rattle.std.proofs.Common.{◌≤◌, ◌+◌, length, sym, ap, ◌∙◌, arith}
use Rattle.std.specs.Prelude.{slice_get, Option}
use Rattle.std.specs.Option.{unwrap_or}
use Rattle.semantics.specs.World.{World}
use Rattle.shared_passes.specs.declared.view.View.{View}
use Rattle.shared_passes.specs.declared.view.Account.{Account}
use Rattle.shared_passes.specs.Tokens.{nothing}
use Rattle.shared_accounts.specs.Accounts.{seats_in, numbers_of, is_one_each}
use Rattle.shared_accounts.proofs.Machines.{printed_in}
use Rattle.shared_accounts.proofs.Tables.{table_of_all, seats_same, accounts_get, given_one_each}
use Rattle.shared.proofs.lock.Shared.new.Goals as goal

pub give_all-requires-clause-known : goal.give_all-requires-clause-known
give_all-requires-clause-known g c = ap (λ (v : View). length v.table.table) c.open.ensures.1 ∙ table_of_all c.args.machine _ (ap (λ (w : World). length w.threads) c.requires.world)

pub give_all-requires-clause-printed : goal.give_all-requires-clause-printed
give_all-requires-clause-printed g c k below =
    let same = ap (λ (w : World). length w.threads) c.requires.world in
    let within : k + 1 ≤ length c.args.machine.world.threads = omega arith in
    let p = c.lines.ensures in
    ap (λ (o : Option Account). (unwrap_or o nothing).printed) (ap (λ (v : View). slice_get v.table.table (k + 1)) c.open.ensures.1 ∙ accounts_get c.args.machine (k + 1) within)
    ∙ printed_in c.args.machine (k + 1) p.0 p.1 ∙ ap (λ l. numbers_of l (k + 1)) (sym p.2)

pub returns-in-Ok-clause-seats : goal.returns-in-Ok-clause-seats
returns-in-Ok-clause-seats g c =
    let same = ap (λ (w : World). length w.threads) c.requires.world in
    c.in-Ok.ensures.seats ∙ ap (λ (v : View). seats_in v.table.table (length g.J.Naming.world.threads)) c.open.ensures.1 ∙ seats_same c.args.machine (length g.J.Naming.world.threads) (omega arith)

pub returns-in-Ok-clause-complete : goal.returns-in-Ok-clause-complete
returns-in-Ok-clause-complete g c =
    let same = ap (λ (w : World). length w.threads) c.requires.world in
    let all = c.in-Ok.ensures.seats ∙ ap (λ (v : View). seats_in v.table.table (length g.J.Naming.world.threads)) c.open.ensures.1 ∙ seats_same c.args.machine (length g.J.Naming.world.threads) (omega arith) in
    ap (is_one_each (length g.J.Naming.world.threads)) all ∙ given_one_each c.args.machine (length g.J.Naming.world.threads)
