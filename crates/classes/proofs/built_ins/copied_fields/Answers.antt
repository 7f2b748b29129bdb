use Rattle.std.proofs.Common.{◌≡◌, ℕ, suc, ◌+◌, ◌<◌, List, [], ◌∷◌, ◌++◌, length, map, take, get_or, sym, ap, ◌∙◌, false, true, arith}
use Rattle.std.proofs.Math.Seq.{take-suc}
use Rattle.std.proofs.lemmas.List.{map-append, length-map}
use Rattle.std.proofs.lemmas.List.{take-map, get_or-map}
use Rattle.classes.specs.declared.built_ins.BuiltInField.{BuiltInField}
use Rattle.classes.specs.Tables.{field_names_differ}
use Rattle.class_rules.specs.Class.{Field}
use Rattle.classes.specs.BuiltInList.{listed_field}
use Rattle.classes.proofs.NamedFields.{has_field, next_field}
use Rattle.classes.proofs.built_ins.copied_fields.Goals as goal

-- with one more copy, they are one more of the list
one_more : (fields : List BuiltInField) (i : ℕ) (d : BuiltInField) (copies more : List Field) → i < length fields → copies ≡ map listed_field (take i fields) → more ≡ copies ++ listed_field (get_or fields i d) ∷ [] → more ≡ map listed_field (take (i + 1) fields)
one_more fields i d copies more below so_far is =
    let next : suc i ≡ i + 1 = omega arith in
    is
    ∙ ap (λ fs. fs ++ listed_field (get_or fields i d) ∷ []) so_far
    ∙ sym (map-append listed_field (take i fields) (get_or fields i d ∷ []))
    ∙ ap (map listed_field) (sym (take-suc fields i d below) ∙ ap (λ n. take n fields) next)

-- a copy has another name than those before it
is_new : (fields : List BuiltInField) (i : ℕ) (d : BuiltInField) (copies : List Field) → i < length fields → copies ≡ map listed_field (take i fields) → field_names_differ (map listed_field fields) ≡ true → has_field copies (listed_field (get_or fields i d)).name ≡ false
is_new fields i d copies below so_far differ =
    let L = map listed_field fields in
    ap (λ fs. has_field fs (listed_field (get_or fields i d)).name) (so_far ∙ sym (take-map listed_field i fields))
    ∙ ap (λ (f : Field). has_field (take i L) f.name) (sym (get_or-map listed_field fields i d (listed_field d) below))
    ∙ next_field L i (listed_field d) (omega (arith, below, length-map fields listed_field)) differ

pub push-requires : goal.push-requires
push-requires c = is_new c.args.fields.now c.loop-field.field-index _ c.loop-field.copies c.loop-field-test.true c.loop-field.invariant c.requires

pub loop-field-preserved : goal.loop-field-preserved
loop-field-preserved c = one_more c.args.fields.now c.loop-field.field-index _ _ _ c.loop-field-test.true c.loop-field.invariant c.in_ok-push.ensures
