use Rattle.std.proofs.Common.{sym, ap, ◌∙◌, map}
use Rattle.world_lines.specs.declared.line.Line.{Line}
use Rattle.world_lines.specs.LineContents.{written_values}
use Rattle.world_lines.specs.LineViews.{value_view, line_view}
use Rattle.world_values.specs.WorldMeaning.{class_number}
use Rattle.world_values.specs.WorldRules.{types_of_line, each_in_range}
use Rattle.world_lines.proofs.NumbersInRange.{numbers_in_range, arguments_in_range, all_references}
use Rattle.world_lines.proofs.rules.each_in_range.Goals as goal

pub returns-in-Array : goal.returns-in-Array
returns-in-Array c =
    c.are_in_range.ensures
    ∙ numbers_in_range value_view c.in-Array.array.element c.in-Array.array.values.items c.deref-in-Array.result.now c.deref-in-Array.ensures.value
    ∙ ap (λ (l : Line). each_in_range (types_of_line c.args.classes.now (line_view l)) (written_values (line_view l))) (sym c.in-Array.is)

pub returns-in-Thread : goal.returns-in-Thread
returns-in-Thread c =
    c.are_in_range-in-Thread.ensures
    ∙ arguments_in_range value_view c.in-Thread.call.arguments.items c.deref-in-Thread.result.now c.deref-in-Thread.ensures.value
    ∙ ap (λ (l : Line). each_in_range (types_of_line c.args.classes.now (line_view l)) (written_values (line_view l))) (sym c.in-Thread.is)

pub returns-in-Call : goal.returns-in-Call
returns-in-Call c =
    c.are_in_range-in-Call.ensures
    ∙ arguments_in_range value_view c.in-Call.call.arguments.items c.deref-in-Call.result.now c.deref-in-Call.ensures.value
    ∙ ap (λ (l : Line). each_in_range (types_of_line c.args.classes.now (line_view l)) (written_values (line_view l))) (sym c.in-Call.is)

pub returns-in-Objects : goal.returns-in-Objects
returns-in-Objects c =
    sym (all_references (class_number c.args.classes.now c.in-Objects.field-0.class.now) (map value_view c.in-Objects.field-0.values.items))
    ∙ ap (λ (l : Line). each_in_range (types_of_line c.args.classes.now (line_view l)) (written_values (line_view l))) (sym c.in-Objects.is)
