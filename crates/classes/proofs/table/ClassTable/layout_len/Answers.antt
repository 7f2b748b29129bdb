use Rattle.std.proofs.Common.{◌≡◌, ◌+◌, ◌-◌, length, ap, sym, subst, arith, length-append}
use Rattle.class_rules.specs.Fields.{own_fields}
use Rattle.classes.specs.Tables.{IsTable}
use Rattle.classes.proofs.Layouts.{layout_within, layout-above, layout-top, layout-small, own-within, own-length}
use Rattle.classes.proofs.table.ClassTable.layout_len.Goals as goal

pub overflow_add-count : goal.overflow_add-count
overflow_add-count c =
    let T = c.args.self.now in
    let left : c.len-end.result - c.loop.counter ≡ (c.len-end.result - (c.loop.counter + 1)) + 1 = omega arith in
    omega (arith, c.loop.invariant, layout-small T (subst IsTable c.self.view_is c.self.invariant) c.args.class.number, own-length T c.loop.ancestor.number c.declared.result.now c.declared.ensures, own-within T (c.len-end.result - c.loop.counter) (c.len-end.result - (c.loop.counter + 1)) c.loop.ancestor.number left)

pub returns-in-None-clause-len : goal.returns-in-None-clause-len
returns-in-None-clause-len c =
    let T = c.args.self.now in
    let left : c.len-end.result - c.loop.counter ≡ (c.len-end.result - (c.loop.counter + 1)) + 1 = omega arith in
    omega (arith, c.loop.invariant, own-length T c.loop.ancestor.number c.declared.result.now c.declared.ensures, ap length (layout-top T c.loop.ancestor.number (c.len-end.result - c.loop.counter) (c.len-end.result - (c.loop.counter + 1)) left (sym c.in-None.ensures)))

pub returns-in-None-clause-small : goal.returns-in-None-clause-small
returns-in-None-clause-small c = omega (arith, returns-in-None-clause-len c, layout-small c.args.self.now (subst IsTable c.self.view_is c.self.invariant) c.args.class.number)

pub loop-preserved : goal.loop-preserved
loop-preserved c =
    let T = c.args.self.now in
    let left : c.len-end.result - c.loop.counter ≡ (c.len-end.result - (c.loop.counter + 1)) + 1 = omega arith in
    omega (
      arith,
      c.loop.invariant,
      own-length T c.loop.ancestor.number c.declared.result.now c.declared.ensures,
      length-append (layout_within (c.len-end.result - (c.loop.counter + 1)) T c.in-Some.above.number) (own_fields T c.loop.ancestor.number),
      ap length (layout-above T c.loop.ancestor.number (c.len-end.result - c.loop.counter) (c.len-end.result - (c.loop.counter + 1)) c.in-Some.above.number left (sym c.in-Some.ensures)),
    )

pub returns-clause-small : goal.returns-clause-small
returns-clause-small c = omega (arith, c.loop.invariant, layout-small c.args.self.now (subst IsTable c.self.view_is c.self.invariant) c.args.class.number)
