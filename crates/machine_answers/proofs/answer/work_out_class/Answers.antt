use Rattle.std.proofs.Common.{List, [], ℕ, Option, Some, map, refl, ap, ◌∙◌, subst, rules}
use Rattle.std.specs.Prelude.{slice_get, unwrap_or}
use Rattle.std.specs.Global.{Vec}
use Rattle.class_rules.specs.Class.{class_named, superclass}
use Rattle.class_rules.specs.Fields.{find_field, find_static}
use Rattle.class_rules.proofs.GrownTables.{grown_is_ordered}
use Rattle.code.specs.Call.{call_view}
use Rattle.jni.specs.declared.function.JniFunction.TheVariants.{FindClass, GetFieldID, GetObjectClass, GetStaticFieldID, GetStaticMethodID, GetSuperclass}
use Rattle.jni.specs.declared.kinds.ResultKind.TheVariants.{NewLocal}
use Rattle.semantics.specs.AnswerTable.{call_answer, gives_reference}
use Rattle.world_values.proofs.LoadedWorlds.{class_within}
use Rattle.semantics.specs.Method.{find_method}
use Rattle.machine_scenes.specs.Given.{class_of_given, name_there}
use Rattle.machine_scenes.specs.Scenes.{scene_view}
use Rattle.machine_answers.specs.declared.answer.Answer.TheVariants.{Gives}
use Rattle.machine_answers.specs.declared.answer.Given.TheVariants.{Reference}
use Rattle.machine_answers.specs.AnswersSeen.{answer_seen, answer_there}
use Rattle.machine_answers.specs.WorkedOut.{IsFoundField, IsFoundMethod, class_object, found_class, reference}
use Rattle.machine_answers.proofs.CallOperands.{super_known}
use Rattle.machine_answers.proofs.ClassesSeen.{class_seen, class_there, field_seen, field_there, found_seen, found_there, method_seen, method_there, seen_as, there_as}
use Rattle.machine_answers.proofs.SightParts.{name_is}
use Rattle.machine_answers.proofs.answer.work_out_class.Goals as goal

pub returns-in-FindClass-clause-seen : goal.returns-in-FindClass-clause-seen
unfolding call_answer
returns-in-FindClass-clause-seen c =
    let scene = scene_view c.args.scene.now in
    let call = call_view c.args.call.now in
    let text = c.text_at.ensures ∙ ap (λ (l : List (Vec ℕ)). unwrap_or (slice_get (map (λ (text : Vec ℕ). text.items) l) 0) []) c.deref.ensures.value in
    let is = c.found_class.ensures ∙ ap (found_class c.args.scene.now.loaded.now) (c.find-class.ensures ∙ ap (class_named c.args.scene.now.classes.now) text) in
    seen_as scene call c.found_class.result FindClass c.in-FindClass.is
    (λ locals callers named known. ap (answer_seen scene call NewLocal) is ∙ found_seen scene call named _ (class_within c.args.scene.now.classes.now _))

pub returns-in-FindClass-clause-there : goal.returns-in-FindClass-clause-there
returns-in-FindClass-clause-there c differs =
    let scene = scene_view c.args.scene.now in
    let call = call_view c.args.call.now in
    there_as scene call c.found_class.result FindClass c.in-FindClass.is (ap (answer_there scene call NewLocal) c.found_class.ensures ∙ found_there scene call c.requires.loaded _)

pub returns-in-GetSuperclass-clause-seen : goal.returns-in-GetSuperclass-clause-seen
unfolding call_answer
returns-in-GetSuperclass-clause-seen c =
    let scene = scene_view c.args.scene.now in
    let call = call_view c.args.call.now in
    let name = c.class_given-class.ensures ∙ name_is scene.space (reference scene call 0) in
    let is = c.gives_class.ensures ∙ ap (λ (o : Option ℕ). Gives (Reference (class_object scene.loaded o))) (c.superclass.ensures ∙ ap (superclass scene.classes) name) in
    seen_as scene call c.gives_class.result GetSuperclass c.in-GetSuperclass.is
    (λ locals callers named known. ap (answer_seen scene call NewLocal) is
    ∙ ap gives_reference (class_seen scene call named _ (super_known scene.classes (grown_is_ordered scene.classes c.requires.grown) _)))

pub returns-in-GetSuperclass-clause-there : goal.returns-in-GetSuperclass-clause-there
returns-in-GetSuperclass-clause-there c differs =
    let scene = scene_view c.args.scene.now in
    let call = call_view c.args.call.now in
    there_as scene call c.gives_class.result GetSuperclass c.in-GetSuperclass.is (ap (answer_there scene call NewLocal) c.gives_class.ensures ∙ class_there scene call c.requires.loaded _)

pub returns-in-GetObjectClass-clause-seen : goal.returns-in-GetObjectClass-clause-seen
unfolding call_answer
returns-in-GetObjectClass-clause-seen c =
    let scene = scene_view c.args.scene.now in
    let call = call_view c.args.call.now in
    let class = c.class_of_given.ensures ∙ ap (class_of_given scene.space) c.argument-first.ensures.reference in
    let is = c.gives_class-in-GetObjectClass.ensures ∙ ap (λ (n : ℕ). Gives (Reference (class_object scene.loaded (Some n)))) class in
    seen_as scene call c.gives_class-in-GetObjectClass.result GetObjectClass c.in-GetObjectClass.is
    (λ locals callers named known. ap (answer_seen scene call NewLocal) is ∙ ap gives_reference (named _ (known refl)))

pub returns-in-GetObjectClass-clause-there : goal.returns-in-GetObjectClass-clause-there
returns-in-GetObjectClass-clause-there c differs =
    let scene = scene_view c.args.scene.now in
    let call = call_view c.args.call.now in
    there_as scene call c.gives_class-in-GetObjectClass.result GetObjectClass c.in-GetObjectClass.is
    (ap (answer_there scene call NewLocal) c.gives_class-in-GetObjectClass.ensures ∙ class_there scene call c.requires.loaded (Some c.class_of_given.result.number))

-- a text of the call
abbrev text_of : (texts : List (List ℕ)) → ℕ → List ℕ
text_of texts i = unwrap_or (slice_get texts i) []

pub returns-in-GetFieldID-clause-seen : goal.returns-in-GetFieldID-clause-seen
unfolding call_answer
returns-in-GetFieldID-clause-seen c =
    let scene = scene_view c.args.scene.now in
    let call = call_view c.args.call.now in
    let found : IsFoundField scene.classes (find_field scene.classes (name_there scene.space (reference scene call 0)) (text_of call.texts 0) (text_of call.texts 1)) c.find_field.result = search rules in
    seen_as scene call c.find_field.result GetFieldID c.in-GetFieldID.is
    (λ locals callers named known. field_seen scene call _ c.find_field.result
    (subst (λ (n : ℕ). IsFoundField scene.classes (find_field scene.classes n (text_of call.texts 0) (text_of call.texts 1)) c.find_field.result) (name_is scene.space (reference scene call 0)) found))

pub returns-in-GetFieldID-clause-there : goal.returns-in-GetFieldID-clause-there
returns-in-GetFieldID-clause-there c differs =
    there_as (scene_view c.args.scene.now) (call_view c.args.call.now) c.find_field.result GetFieldID c.in-GetFieldID.is
    (field_there (scene_view c.args.scene.now) (call_view c.args.call.now) _ c.find_field.result c.find_field.ensures)

pub returns-in-GetStaticFieldID-clause-seen : goal.returns-in-GetStaticFieldID-clause-seen
unfolding call_answer
returns-in-GetStaticFieldID-clause-seen c =
    let scene = scene_view c.args.scene.now in
    let call = call_view c.args.call.now in
    let answer = c.find_field-in-GetStaticFieldID.result in
    let found : IsFoundField scene.classes (find_static scene.classes (name_there scene.space (reference scene call 0)) (text_of call.texts 0) (text_of call.texts 1)) answer = search rules in
    seen_as scene call answer GetStaticFieldID c.in-GetStaticFieldID.is
    (λ locals callers named known. field_seen scene call _ answer
    (subst (λ (n : ℕ). IsFoundField scene.classes (find_static scene.classes n (text_of call.texts 0) (text_of call.texts 1)) answer) (name_is scene.space (reference scene call 0)) found))

pub returns-in-GetStaticFieldID-clause-there : goal.returns-in-GetStaticFieldID-clause-there
returns-in-GetStaticFieldID-clause-there c differs =
    there_as (scene_view c.args.scene.now) (call_view c.args.call.now) c.find_field-in-GetStaticFieldID.result GetStaticFieldID c.in-GetStaticFieldID.is
    (field_there (scene_view c.args.scene.now) (call_view c.args.call.now) _ c.find_field-in-GetStaticFieldID.result c.find_field-in-GetStaticFieldID.ensures)

pub returns-in-GetStaticMethodID-clause-seen : goal.returns-in-GetStaticMethodID-clause-seen
unfolding call_answer
returns-in-GetStaticMethodID-clause-seen c =
    let scene = scene_view c.args.scene.now in
    let call = call_view c.args.call.now in
    let answer = c.method_found.result in
    let found : IsFoundMethod scene.unit scene.classes (find_method scene.unit scene.classes (name_there scene.space (reference scene call 0)) (text_of call.texts 0) (text_of call.texts 1)) answer = search rules in
    seen_as scene call answer GetStaticMethodID c.in-GetStaticMethodID.is
    (λ locals callers named known. method_seen scene call _ answer
    (subst (λ (n : ℕ). IsFoundMethod scene.unit scene.classes (find_method scene.unit scene.classes n (text_of call.texts 0) (text_of call.texts 1)) answer) (name_is scene.space (reference scene call 0)) found))

pub returns-in-GetStaticMethodID-clause-method : goal.returns-in-GetStaticMethodID-clause-method
returns-in-GetStaticMethodID-clause-method c of =
    let scene = scene_view c.args.scene.now in
    let call = call_view c.args.call.now in
    let found : IsFoundMethod scene.unit scene.classes (find_method scene.unit scene.classes (name_there scene.space (reference scene call 0)) (text_of call.texts 0) (text_of call.texts 1)) c.method_found.result = search rules in
    method_there scene call _ c.method_found.result of found
