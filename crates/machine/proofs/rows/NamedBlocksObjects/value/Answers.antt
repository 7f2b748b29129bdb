use Rattle.std.proofs.Common.{arith, rules, sym, ap, ◌∙◌, Option, Some, ℕ, ℤ}
use Rattle.std.specs.Int.{w32}
use Rattle.std.specs.Prelude.{FitsSigned}
use Rattle.std.proofs.Math.Facts.{to_z-of_z}
use Rattle.heap.specs.declared.value.Value.TheVariants.{Number as Word, Null, Block as Address}
use Rattle.heap.specs.Heap.{values_at}
use Rattle.semantics.specs.Object.{Number, Refers}
use Rattle.machine.proofs.BlockObjects.{is_at, count_here, no_values, value_here, there_at}
use Rattle.machine.proofs.rows.NamedBlocksObjects.value.Goals as goal

pub get-requires : goal.get-requires
get-requires c =
    let at = is_at c.self.inside.heap.now c.self.inside.addresses.items c.args.self.now c.args.name.number c.index.result.now _ c.self.view_is c.requires.name c.index.ensures c.in-Some.is in
    let count = count_here c.self.inside.heap.now c.self.inside.addresses.items c.args.self.now c.args.name.number c.in-Some.addr at in
    omega (arith, count, c.requires.index)

pub object_there-requires : goal.object_there-requires
object_there-requires c =
    let at = is_at c.self.inside.heap.now c.self.inside.addresses.items c.args.self.now c.args.name.number c.index.result.now _ c.self.view_is c.requires.name c.index.ensures c.in-Some.is in
    there_at c.self.inside.heap.now (values_at c.self.inside.heap.now c.in-Some.addr) c.args.index (Address c.in-Block.to) (c.self.invariant _ _ at.place).1 c.in-Block.ensures

pub returns-in-Number : goal.returns-in-Number
returns-in-Number c =
    let at = is_at c.self.inside.heap.now c.self.inside.addresses.items c.args.self.now c.args.name.number c.index.result.now _ c.self.view_is c.requires.name c.index.ensures c.in-Some.is in
    let value = value_here c.self.inside.heap.now c.self.inside.addresses.items c.args.self.now c.args.name.number c.in-Some.addr at c.args.index (Word c.in-Number.word) c.in-Number.ensures in
    let fits : FitsSigned w32 c.cast_signed.result = search rules in
    value ∙ ap (λ (z : ℤ). Some (Number z)) (sym c.cast_signed.ensures ∙ sym (to_z-of_z {w = w32} fits))

pub returns-in-Null : goal.returns-in-Null
returns-in-Null c =
    let at = is_at c.self.inside.heap.now c.self.inside.addresses.items c.args.self.now c.args.name.number c.index.result.now _ c.self.view_is c.requires.name c.index.ensures c.in-Some.is in
    value_here c.self.inside.heap.now c.self.inside.addresses.items c.args.self.now c.args.name.number c.in-Some.addr at c.args.index Null c.in-Null.ensures

pub returns-in-Block : goal.returns-in-Block
returns-in-Block c =
    let at = is_at c.self.inside.heap.now c.self.inside.addresses.items c.args.self.now c.args.name.number c.index.result.now _ c.self.view_is c.requires.name c.index.ensures c.in-Some.is in
    value_here c.self.inside.heap.now c.self.inside.addresses.items c.args.self.now c.args.name.number c.in-Some.addr at c.args.index (Address c.in-Block.to) c.in-Block.ensures
    ∙ ap (λ (r : Option ℕ). Some (Refers r)) c.object_there.ensures

-- an object without a block has no value
pub unreachable-requires : goal.unreachable-requires
unreachable-requires c =
    let none = no_values c.self.inside.heap.now c.self.inside.addresses.items c.args.self.now c.args.name.number (is_at c.self.inside.heap.now c.self.inside.addresses.items c.args.self.now c.args.name.number c.index.result.now _ c.self.view_is c.requires.name c.index.ensures c.in-None.is) in
    omega (arith, none, c.requires.index)
