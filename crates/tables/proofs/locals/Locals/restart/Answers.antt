use Rattle.std.proofs.Common.{◌∙◌, List, [], ◌∷◌, ap, arith}
use Rattle.tables.specs.declared.locals.Level.{Level}
use Rattle.tables.specs.Levels.{table_in}
use Rattle.tables.proofs.Levels.{levels_restarted, only_level, restarted}
use Rattle.tables.proofs.TableViews.{some_level}
use Rattle.tables.proofs.locals.Locals.restart.Goals as goal

pub index_mut-requires : goal.index_mut-requires
index_mut-requires c =
    let some = some_level c.self.inside.levels.items c.self.inside.slots.items c.args.self.now c.self.view_is c.requires.some in
    omega (arith, some, c.truncate.ensures.len, c.self.inside.levels.ok.0)

pub invariant_of-self : goal.invariant_of-self
invariant_of-self c =
    let some = some_level c.self.inside.levels.items c.self.inside.slots.items c.args.self.now c.self.view_is c.requires.some in
    let one = restarted c.self.inside.levels.items c.truncate.new.self.items (only_level c.args.capacity) some c.truncate.ensures.items in
    levels_restarted _ _ c.args.capacity one c.clear.ensures.items c.requires.few (omega (arith, c.clear.ensures.capacity, c.self.invariant.memory))

pub returns : goal.returns
returns c =
    let some = some_level c.self.inside.levels.items c.self.inside.slots.items c.args.self.now c.self.view_is c.requires.some in
    let one = restarted c.self.inside.levels.items c.truncate.new.self.items (only_level c.args.capacity) some c.truncate.ensures.items in
    ap (λ (l : List Level). table_in l c.clear.new.self.items) one ∙ ap (λ l. table_in (only_level c.args.capacity ∷ []) l) c.clear.ensures.items
