use Rattle.std.proofs.Common.{ap, ◌∙◌, sym, subst, Option}
use Rattle.std.specs.Prelude.{IfSome}
use Rattle.heap.specs.Heap.{Space}
use Rattle.heap.specs.Cells.{space_in}
use Rattle.heap.specs.Marks.{Marks}
use Rattle.heap.specs.Marking.{IsHeld, IsUnderWay}
use Rattle.heap.proofs.UnderWay.{bare_view, held_of}
use Rattle.heap.proofs.heap.Heap.take_marking.Goals as goal

pub invariant_of-self : goal.invariant_of-self
invariant_of-self c = subst (λ (o : Option Marks). IsHeld c.self.inside.cells c.self.inside.pins.items c.self.inside.starts.items c.self.inside.end c.self.inside.starts.cap o) (sym c.take.ensures.after) (record { stored = c.self.invariant.stored; under_way = tt })

pub returns-clause-space : goal.returns-clause-space
returns-clause-space c = rw c.take.ensures.after (bare_view c.self.view_is)

pub returns-clause-marking : goal.returns-clause-marking
returns-clause-marking c = c.take.ensures.value ∙ ap (λ (t : Space). t.marking) c.self.view_is

pub returns-clause-under_way : goal.returns-clause-under_way
returns-clause-under_way c = subst (λ (o : Option Marks). IfSome o (IsUnderWay c.args.self.now)) (sym c.take.ensures.value) (held_of (space_in c.self.inside.cells c.self.inside.pins.items c.self.inside.starts.items) c.args.self.now c.self.inside.marking (bare_view c.self.view_is) c.self.invariant.under_way)
