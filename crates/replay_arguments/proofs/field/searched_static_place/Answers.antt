use Rattle.std.proofs.Common.{◌≡◌, ℕ, zero, suc, ◌<◌, true, List, [], ◌∷◌, length, map, Option, Some, None, refl, sym, ap, ◌∙◌, arith}
use Rattle.std.specs.Prelude.{slice_get}
use Rattle.std.specs.Option.{IsSome, option_map}
use Rattle.std.proofs.lemmas.List.{length-map}
use Rattle.classes.specs.FieldViews.{field_id_view}
use Rattle.classes.specs.declared.fields.FieldId.{FieldId as IdInMemory}
use Rattle.class_rules.specs.Class.{Field, Classes}
use Rattle.class_rules.specs.Fields.{FieldId, own_statics, same_field}
use Rattle.replay_arguments.specs.Actuals.{given_field}
use Rattle.replay_arguments.proofs.FieldLemmas.{none_more, place_found, place_missing}
use Rattle.replay_arguments.proofs.field.searched_static_place.Goals as goal

-- a static of the class of this number
abbrev as_static : ℕ → Field → FieldId
as_static class x = record { class = class; is_static = true; field = x }

-- as many as the class declares
counted : (classes : Classes) (class n : ℕ) (own : List Field) → n ≡ class → map (as_static n) own ≡ own_statics classes n → length own ≡ length (own_statics classes class)
counted classes class n own same is = sym (length-map own (as_static n)) ∙ ap (λ (l : List FieldId). length l) is ∙ ap (λ m. length (own_statics classes m)) same

-- what is looked up within a list is there
there : (o : Option IdInMemory) (xs : List FieldId) (i : ℕ) → option_map field_id_view o ≡ slice_get xs i → i < length xs → IsSome o
there (Some a) xs i e h = refl
there None [] i e h = absurd (omega arith)
there None (x ∷ xs) zero e h = absurd (cc)
there None (x ∷ xs) (suc i) e h = there None xs i e (omega arith)

pub unwrap-other-requires : goal.unwrap-other-requires
unwrap-other-requires c =
    let own = counted c.args.classes.now c.declaring-class.result.number c.declaring-class.result.number c.own_statics.result.now refl c.own_statics.ensures in
    there c.field_at.result (own_statics c.args.classes.now c.declaring-class.result.number) c.loop-place.place c.field_at.ensures.view (omega (arith, own, c.len-place-end.ensures, c.loop-place-test.true))

pub returns-then-is_field : goal.returns-then-is_field
returns-then-is_field c =
    let fields = own_statics c.args.classes.now c.declaring-class.result.number in
    let other = c.unwrap-other.result in
    let at : slice_get fields c.loop-place.place ≡ Some (field_id_view other) = sym c.field_at.ensures.view ∙ ap (option_map field_id_view) c.unwrap-other.ensures in
    place_found (same_field (given_field c.args.field)) (own_statics c.args.classes.now (given_field c.args.field).class) c.loop-place.place (field_id_view other) (ap (λ n. slice_get (own_statics c.args.classes.now n) c.loop-place.place) (sym c.declaring-class.ensures) ∙ at) (sym c.is_field.ensures ∙ c.if-is_field.true) c.loop-place.invariant

pub loop-place-preserved : goal.loop-place-preserved
loop-place-preserved c =
    let fields = own_statics c.args.classes.now c.declaring-class.result.number in
    let other = c.unwrap-other.result in
    let at : slice_get fields c.loop-place.place ≡ Some (field_id_view other) = sym c.field_at.ensures.view ∙ ap (option_map field_id_view) c.unwrap-other.ensures in
    none_more (same_field (given_field c.args.field)) (own_statics c.args.classes.now (given_field c.args.field).class) c.loop-place.place (field_id_view other) (ap (λ n. slice_get (own_statics c.args.classes.now n) c.loop-place.place) (sym c.declaring-class.ensures) ∙ at) (sym c.is_field.ensures ∙ c.if-is_field.false) c.loop-place.invariant

pub returns : goal.returns
returns c =
    let f = given_field c.args.field in
    let own = counted c.args.classes.now f.class c.declaring-class.result.number c.own_statics.result.now c.declaring-class.ensures c.own_statics.ensures in
    place_missing (same_field f) (own_statics c.args.classes.now f.class) (λ i y low within. c.loop-place.invariant i y (omega (arith, low, own, c.len-place-end.ensures, c.loop-place-test.false)) within)
