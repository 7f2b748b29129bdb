use Rattle.std.proofs.Common.{sym, ◌∙◌}
use Rattle.machine.proofs.BlockObjects.{is_at, count_here, no_values}
use Rattle.machine.proofs.rows.NamedBlocksObjects.count.Goals as goal

pub len_of-requires : goal.len_of-requires
len_of-requires c = (c.self.invariant _ _ (is_at c.self.inside.heap.now c.self.inside.addresses.items c.args.self.now c.args.name.number c.index.result.now _ c.self.view_is c.requires c.index.ensures c.in-Some.is).place).0

pub returns-in-Some : goal.returns-in-Some
returns-in-Some c = c.len_of.ensures ∙ sym (count_here c.self.inside.heap.now c.self.inside.addresses.items c.args.self.now c.args.name.number c.in-Some.addr (is_at c.self.inside.heap.now c.self.inside.addresses.items c.args.self.now c.args.name.number c.index.result.now _ c.self.view_is c.requires c.index.ensures c.in-Some.is))

pub returns-in-None : goal.returns-in-None
returns-in-None c = sym (no_values c.self.inside.heap.now c.self.inside.addresses.items c.args.self.now c.args.name.number (is_at c.self.inside.heap.now c.self.inside.addresses.items c.args.self.now c.args.name.number c.index.result.now _ c.self.view_is c.requires c.index.ensures c.in-None.is))
