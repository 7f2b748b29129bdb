use Rattle.std.proofs.Common.{sym, ◌∙◌}
use Rattle.machine.proofs.BlockObjects.{is_at, class_is, no_class}
use Rattle.machine.proofs.rows.NamedBlocksObjects.class_of.Goals as goal

pub class_there-requires : goal.class_there-requires
class_there-requires c = (c.self.invariant _ _ (is_at c.self.inside.heap.now c.self.inside.addresses.items c.args.self.now c.args.name.number c.index.result.now _ c.self.view_is c.requires c.index.ensures c.in-Some.is).place).0

pub returns-in-Some : goal.returns-in-Some
returns-in-Some c = c.class_there.ensures ∙ class_is c.self.inside.heap.now c.self.inside.addresses.items c.args.self.now c.args.name.number c.in-Some.addr (is_at c.self.inside.heap.now c.self.inside.addresses.items c.args.self.now c.args.name.number c.index.result.now _ c.self.view_is c.requires c.index.ensures c.in-Some.is)

pub returns-in-None : goal.returns-in-None
returns-in-None c = sym (no_class c.self.inside.heap.now c.self.inside.addresses.items c.args.self.now c.args.name.number (is_at c.self.inside.heap.now c.self.inside.addresses.items c.args.self.now c.args.name.number c.index.result.now _ c.self.view_is c.requires c.index.ensures c.in-None.is))
