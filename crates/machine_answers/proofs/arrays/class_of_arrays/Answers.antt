use Rattle.std.proofs.Common.{◌≡◌, ℕ, Option, Some, None, refl, ap, ◌∙◌}
use Rattle.std.specs.Prelude.{unwrap_or}
use Rattle.std.specs.Option.{option_map_or}
use Rattle.class_rules.specs.Class.{array_class_of}
use Rattle.class_rules.specs.ClassIds.{class_id}
use Rattle.class_rules.specs.declared.class_id.ClassId.{ClassId}
use Rattle.class_rules.proofs.ClassIds.{number_or}
use Rattle.code.specs.Call.{call_view}
use Rattle.semantics.specs.Arguments.{name_or_zero}
use Rattle.machine_scenes.specs.Scenes.{scene_view}
use Rattle.machine_answers.specs.Sights.{name_seen}
use Rattle.machine_answers.specs.WorkedOut.{reference}
use Rattle.machine_answers.proofs.SightParts.{name_is}
use Rattle.machine_answers.proofs.arrays.class_of_arrays.Goals as goal

or_zero : (o : Option ℕ) → unwrap_or o 0 ≡ option_map_or (λ (c : ℕ). c) o 0
or_zero None = refl
or_zero (Some n) = refl

pub returns : goal.returns
returns c =
    let classes = c.args.scene.now.classes.now in
    let class = c.class_given.ensures ∙ name_is c.args.scene.now.heap.now (reference (scene_view c.args.scene.now) (call_view c.args.call.now) 1) in
    ap (λ (k : ClassId). k.number) c.unwrap_or.ensures ∙ number_or c.array_class_of.result (class_id 0)
    ∙ ap (λ (o : Option ℕ). unwrap_or o 0) (c.array_class_of.ensures ∙ ap (array_class_of classes) class)
    ∙ or_zero (array_class_of classes (name_or_zero (name_seen c.args.scene.now.heap.now (reference (scene_view c.args.scene.now) (call_view c.args.call.now) 1))))
