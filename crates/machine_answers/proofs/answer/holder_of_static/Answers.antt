use Rattle.std.proofs.Common.{◌≡◌, ℕ, zero, suc, ◌-◌, ◌<◌, true, List, Option, Some, None, slice_get, refl, sym, ap, ◌∙◌, subst, arith}
use Rattle.std.specs.Prelude.{IsSome, is_some}
use Rattle.class_rules.specs.Class.{Classes}
use Rattle.classes.specs.FieldViews.{field_of}
use Rattle.classes.specs.declared.class.FieldHandle.{FieldHandle}
use Rattle.machine_scenes.specs.Given.{field_there}
use Rattle.machine_scenes.proofs.Handles.{class_of_field, class_within}
use Rattle.machine_answers.specs.Sights.{class_object_seen}
use Rattle.machine_answers.specs.WorkedOut.{class_object}
use Rattle.machine_answers.proofs.answer.holder_of_static.Goals as goal

-- the class of a field isn't 0
declared_low : (classes : Classes) (o : Option FieldHandle) → is_some o ≡ true → ((h : FieldHandle) → o ≡ Some h → IsSome (field_of classes h)) → 0 < (field_there classes o).class
declared_low classes None some there = absurd (cc)
declared_low classes (Some h) some there = subst (λ (c : ℕ). 0 < c) (class_of_field classes h (there h refl)) (class_within classes h (there h refl)).0

same_object : (loaded : List ℕ) (c : ℕ) → 0 < c → class_object loaded (Some c) ≡ class_object_seen loaded c
same_object loaded zero low = absurd (omega (arith, low))
same_object loaded (suc c) low = let before : suc c - 1 ≡ c = omega arith in ap (slice_get loaded) before

pub returns-clause-is : goal.returns-clause-is
returns-clause-is c given =
    let classes = c.args.scene.now.classes.now in
    let class = c.declaring-class.ensures classes c.handle_of.ensures.there in
    let field = ap (λ (o : Option FieldHandle). (field_there classes o).class) c.handle_of.ensures.field in
    let there = subst (λ (o : Option FieldHandle). is_some o ≡ true) (sym c.handle_of.ensures.field) given in
    c.class_object.ensures ∙ ap (λ (n : ℕ). class_object c.args.scene.now.loaded.now (Some n)) (class ∙ field)
    ∙ same_object c.args.scene.now.loaded.now _ (subst (λ (n : ℕ). 0 < n) field (declared_low classes c.handle_of.result there c.handle_of.ensures.there))
