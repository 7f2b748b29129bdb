use Rattle.std.proofs.Common.{arith}
use Rattle.world.proofs.ValuesInMemory.{last_put}
use Rattle.world.proofs.additions.put_in_last.Goals as goal

pub returns : goal.returns
returns c =
    last_put (λ t. t.items) c.args.threads.now.items c.in-Some.calls.now c.push.new.self c.args.call _ (omega (arith, c.args.threads.now.ok.0, c.in-Some.ensures.item.3.0)) c.in-Some.ensures.value c.in_ok-push.ensures.items
