use Rattle.std.proofs.Common.{ℕ, Option, sym, ap, ◌∙◌}
use Rattle.std.specs.Prelude.{slice_get}
use Rattle.class_rules.specs.declared.class_id.ClassId.{ClassId}
use Rattle.class_rules.specs.ClassIds.{number_of}
use Rattle.machine_answers.specs.WorkedOut.{class_object}
use Rattle.machine_scenes.proofs.LookUps.{copied_found}
use Rattle.machine_answers.proofs.answer.class_object.Goals as goal

pub returns-in-Some : goal.returns-in-Some
returns-in-Some c =
    c.copied.ensures
    ∙ copied_found c.args.loaded.now c.saturating_sub.result c.get.result c.get.ensures.lookup
    ∙ ap (λ (n : ℕ). slice_get c.args.loaded.now n) c.saturating_sub.ensures
    ∙ ap (λ (o : Option ClassId). class_object c.args.loaded.now (number_of o)) (sym c.in-Some.is)
