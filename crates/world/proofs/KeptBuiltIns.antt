-- The built-in classes stay as they are in the table of a world, since lines add fields only to the world's own classes.
use Rattle.std.proofs.Common.{◌≡◌, ℕ, ◌+◌, ◌<◌, ◌≤◌, Bool, true, false, [], ◌∷◌, ◌++◌, length, map, Option, Some, None, refl, ap, ◌∙◌, arith, length-append}
use Rattle.std.specs.Prelude.{◌&&◌, nat_lt, unwrap_or, codes}
use Rattle.std.specs.Option.{option_map_or}
use Rattle.std.proofs.lemmas.Bool.{and_parts, ltb-true}
use Rattle.base.specs.Bytes.{Identifier}
use Rattle.base.specs.Options.{some_passes}
use Rattle.class_rules.specs.Additions.{new_class, with_class, with_changed_class, built_in_count}
use Rattle.class_rules.specs.BuiltIns.{built_ins, incompatible_class_change_error, no_such_method_error, object_array_class}
use Rattle.class_rules.specs.Grown.{HasMethodError}
use Rattle.class_rules.specs.Class.{Class, Classes, class_at, class_kind, class_named, is_plain, superclass}
use Rattle.class_rules.specs.Fields.{own_fields}
use Rattle.class_rules.proofs.FoundClasses.{built_ins_long}
use Rattle.world_values.specs.WorldLines.{WorldLine, MethodsLine, ClassLine, FieldLine, StaticLine, ObjectLine, ObjectsLine, ArrayLine, StringLine, ThreadLine, CallLine}
use Rattle.world_values.specs.WorldMeaning.{class_number, superclass_number, field_of, table_with}
use Rattle.world_values.specs.WorldRules.{is_world_class, is_class_allowed}
use Rattle.world_values.proofs.MethodErrors.{method_error_within}
use Rattle.world.proofs.ChangedClasses.{changed-length, unchanged_at}
use Rattle.world.proofs.WorldTables.{at_front, named}

pub record KeepsBuiltIns (T : Classes) : Type 0 where
  pub long : 42 ≤ length T
  pub each : (c : ℕ) → c ≤ 42 → class_at T c ≡ class_at built_ins c

pub built_ins_kept : KeepsBuiltIns built_ins
built_ins_kept = record { long = omega (arith, built_ins_long); each = λ c h. refl }

-- a class of the world, by its number
pub record IsWorldClass (methods : Bool) (T : Classes) (c : ℕ) : Type 0 where
  pub after_built_ins : 42 < c
  pub after : built_in_count methods < c
  pub within : c ≤ length T

many : (methods : Bool) → 42 ≤ built_in_count methods
many false = omega arith
many true = omega arith

pub world_class : (methods : Bool) (T : Classes) (name : Identifier) → is_world_class methods T name ≡ true → IsWorldClass methods T (class_number T name)
world_class methods T name h = by_value (class_named T name) refl h
  where
    by_value : (o : Option ℕ) → class_named T name ≡ o → some_passes (λ c. nat_lt (built_in_count methods) c && is_plain (class_kind T c)) o ≡ true → IsWorldClass methods T (unwrap_or o 0)
    by_value None e k = absurd (cc)
    by_value (Some c) e k =
        let is = named T name c e in
        let low = ltb-true (built_in_count methods) c (and_parts (nat_lt (built_in_count methods) c) (is_plain (class_kind T c)) k).0 in
        record { after_built_ins = omega (arith, low, many methods); after = low; within = is.high }

-- ---- one more line

change_kept : (change : Class → Class) (number : ℕ) (T : Classes) → 42 < number → KeepsBuiltIns T → KeepsBuiltIns (with_changed_class T number change)
change_kept change number T own k = record { long = omega (arith, k.long, changed-length change number 1 T); each = λ c h. unchanged_at change number T c (omega (arith, h, own)) ∙ k.each c h }

module _ (T : Classes) (k : KeepsBuiltIns T) where
  more_kept : (new : Class) → KeepsBuiltIns (with_class T new)
  more_kept new =
      let added : Classes = new ∷ object_array_class (length T + 1, new) ∷ [] in
      record { long = omega (arith, k.long, length-append T added); each = λ c low. at_front T added c (omega (arith, low, k.long)) ∙ k.each c low }

  pub line_kept : (methods : Bool) (line : WorldLine) → is_class_allowed methods T line ≡ true → KeepsBuiltIns (table_with T line)
  line_kept methods MethodsLine h = more_kept (new_class (codes "java/lang/NoSuchMethodError") (Some incompatible_class_change_error))
  line_kept methods (ClassLine name superclass) h = more_kept (new_class name (Some (superclass_number T superclass)))
  line_kept methods (FieldLine class name signature) h = change_kept (λ d. record d { fields = d.fields ++ field_of T name signature ∷ [] }) (class_number T class) T ((world_class methods T class h).after_built_ins) k
  line_kept methods (StaticLine class name signature) h = change_kept (λ d. record d { statics = d.statics ++ field_of T name signature ∷ [] }) (class_number T class) T ((world_class methods T class h).after_built_ins) k
  line_kept methods (ObjectLine x class values) h = k
  line_kept methods (ObjectsLine x class values) h = k
  line_kept methods (ArrayLine x e values) h = k
  line_kept methods (StringLine x text) h = k
  line_kept methods (ThreadLine function arguments) h = k
  line_kept methods (CallLine function arguments) h = k

  -- ---- what built-in classes inherit

  pub superclass_kept : (c : ℕ) → c ≤ 42 → superclass T c ≡ superclass built_ins c
  superclass_kept c h = ap (λ o. option_map_or (λ (d : Class). d.superclass) o None) (k.each c h)

  pub own_kept : (c : ℕ) → c ≤ 42 → own_fields T c ≡ own_fields built_ins c
  own_kept c h = ap (λ o. map (λ f. record { class = c; is_static = false; field = f }) (option_map_or (λ (d : Class). d.fields) o [])) (k.each c h)

-- ---- java/lang/NoSuchMethodError, which stays where methods are allowed

module _ (T : Classes) (e : HasMethodError T) where
  error_same : (U : Classes) → class_at U no_such_method_error ≡ class_at T no_such_method_error → HasMethodError U
  error_same U h = record { class = e.class; there = h ∙ e.there; name = e.name; superclass = e.superclass; kind = e.kind }

  error_changed : (change : Class → Class) (number : ℕ) → 44 < number → HasMethodError (with_changed_class T number change)
  error_changed change number own = error_same (with_changed_class T number change) (unchanged_at change number T no_such_method_error (omega (arith, own)))

  error_more : (new : Class) → HasMethodError (with_class T new)
  error_more new =
      error_same (with_class T new) (at_front T (new ∷ object_array_class (length T + 1, new) ∷ []) no_such_method_error (method_error_within T e))

  pub error_kept : (line : WorldLine) → is_class_allowed true T line ≡ true → HasMethodError (table_with T line)
  error_kept MethodsLine h = error_more (new_class (codes "java/lang/NoSuchMethodError") (Some incompatible_class_change_error))
  error_kept (ClassLine name superclass) h = error_more (new_class name (Some (superclass_number T superclass)))
  error_kept (FieldLine class name signature) h = error_changed (λ d. record d { fields = d.fields ++ field_of T name signature ∷ [] }) (class_number T class) ((world_class true T class h).after)
  error_kept (StaticLine class name signature) h = error_changed (λ d. record d { statics = d.statics ++ field_of T name signature ∷ [] }) (class_number T class) ((world_class true T class h).after)
  error_kept (ObjectLine x class values) h = e
  error_kept (ObjectsLine x class values) h = e
  error_kept (ArrayLine x t values) h = e
  error_kept (StringLine x text) h = e
  error_kept (ThreadLine function arguments) h = e
  error_kept (CallLine function arguments) h = e
