use Rattle.std.proofs.Common.{ℕ, List, length, ap, ap₂, ◌∙◌}
use Rattle.std.specs.Prelude.{slice_get}
use Rattle.class_rules.specs.Class.{Classes}
use Rattle.machine_scenes.proofs.LookUps.{copied_found}
use Rattle.machine_calls.proofs.carry_out.out_of_memory.Goals as goal

pub returns : goal.returns
returns c =
    c.copied.ensures
    ∙ copied_found c.deref.result.now c.len.result c.get.result c.get.ensures.lookup
    ∙ ap₂ (λ (l : List ℕ) (n : ℕ). slice_get l n) c.deref.ensures.value (c.len.ensures.len ∙ ap (λ (classes : Classes). length classes) c.classes.ensures.classes)
