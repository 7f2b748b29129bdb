use Rattle.std.proofs.Common.{◌+◌, true, ap, sym, ◌∙◌}
use Rattle.class_rules.specs.Additions.{with_methods}
use Rattle.class_rules.specs.BuiltIns.{built_ins}
use Rattle.world.specs.Gathered.{Gathered, gather}
use Rattle.world.specs.GatheredViews.{gathered_of}
use Rattle.world_values.specs.declared.part.Part.TheVariants as parts
use Rattle.world_values.specs.WorldRules.{first_lines}
use Rattle.world.proofs.FirstLines.{first_methods}
use Rattle.world.proofs.text.begun.Goals.{then-methods+in_ok-allow_methods, else-methods}
use Rattle.world.proofs.text.begun.Goals as goal

pub returns : goal.returns
returns c =
    let line = c.args.heap_line in
    let cells = c.args.cells in
    elim c.if-methods.branch [
      | then-methods+in_ok-allow_methods w ↦
          ap gathered_of w.builder-is
          ∙ w.in_ok-allow_methods.ensures
          ∙ ap (λ (g : Gathered). record g { methods = true; classes = with_methods built_ins; used = g.used + 6 }) c.in_ok-builder.ensures
          ∙ first_methods line cells
          ∙ ap (λ m. gather line cells parts.Classes (first_lines line m)) (sym w.if-methods.true)
      | else-methods w ↦
          ap gathered_of w.builder-is
          ∙ c.in_ok-builder.ensures
          ∙ ap (λ m. gather line cells parts.Classes (first_lines line m)) (sym w.if-methods.false)
    ]
