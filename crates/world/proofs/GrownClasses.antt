-- The class table of a world grows from the built-in classes by the rules.
use Rattle.std.proofs.Common.{◌≡◌, ℕ, ◌<◌, ◌≤◌, true, false, [], ◌∷◌, ◌++◌, length, Option, Some, None, refl, ap, ◌∙◌, arith}
use Rattle.std.specs.Prelude.{codes, not, ◌||◌, unwrap_or}
use Rattle.std.proofs.lemmas.Bool.{not-true, not-false}
use Rattle.base.specs.Bytes.{Identifier}
use Rattle.base.specs.Options.{some_passes}
use Rattle.base.proofs.Options.{none_there}
use Rattle.class_rules.specs.declared.rule.ClassRule.{ClassRule}
use Rattle.class_rules.specs.declared.rule.ClassRule.TheVariants.{NameTaken, BadSuperclass}
use Rattle.class_rules.specs.Additions.{class_breaks}
use Rattle.class_rules.specs.BuiltIns.{built_ins, has_own_making}
use Rattle.class_rules.specs.Class.{Classes, class_kind, class_named, is_plain}
use Rattle.class_rules.specs.Grown.{IsGrown, BuiltIns, WithClass, WithField, WithStatic}
use Rattle.world_values.specs.WorldLines.{WorldLine, MethodsLine, ClassLine, FieldLine, StaticLine, ObjectLine, ObjectsLine, ArrayLine, StringLine, ThreadLine, CallLine}
use Rattle.world_values.specs.WorldMeaning.{class_number, superclass_number, field_of, table_with}
use Rattle.world_values.specs.WorldRules.{is_well_formed, breaks_class_rule}
use Rattle.world.proofs.WorldTables.{IsWorldTable, built_ins_table, class_table, changed_table, named}

pub record IsGrownTable (T : Classes) : Type 0 where
  pub grown : IsGrown T
  pub table : IsWorldTable T

pub built_ins_grown : IsGrownTable built_ins
built_ins_grown = record { grown = BuiltIns; table = built_ins_table }

-- a class that may have subclasses
pub record IsOpen (T : Classes) (s : ℕ) : Type 0 where
  pub low : 0 < s
  pub high : s ≤ length T
  pub open_class : has_own_making T s ≡ false

-- a named class that passes the test for it
pub named_open : (T : Classes) (name : Identifier) → some_passes (λ c. not (has_own_making T c)) (class_named T name) ≡ true → IsOpen T (class_number T name)
named_open T name h = by_value (class_named T name) refl h
  where
    by_value : (o : Option ℕ) → class_named T name ≡ o → some_passes (λ c. not (has_own_making T c)) o ≡ true → IsOpen T (unwrap_or o 0)
    by_value None e k = absurd (cc)
    by_value (Some c) e k = let is = named T name c e in record { low = is.low; high = is.high; open_class = not-true (has_own_making T c) k }

root_plain : is_plain (class_kind built_ins 1) ≡ true
unfolding built_ins
root_plain = refl

module _ (T : Classes) (t : IsGrownTable T) where
  root_open : IsOpen T 1
  root_open =
      let plain : is_plain (class_kind T 1) ≡ true = ap is_plain (t.table.kinds 1 (omega arith)) ∙ root_plain in
      record { low = omega arith; high = omega (arith, t.table.long); open_class = ap (λ b. not b || false || false) plain }

  superclass_open : (name : Identifier) (superclass : Option Identifier) → class_breaks BadSuperclass T name (unwrap_or superclass (codes "java/lang/Object")) ≡ false → IsOpen T (superclass_number T superclass)
  superclass_open name None h = root_open
  superclass_open name (Some above) h = named_open T above (not-false _ h)

  -- one more line keeps the rules on classes
  pub line_grows : (line : WorldLine) → ((rule : ClassRule) → breaks_class_rule rule T line ≡ false) → is_well_formed T line ≡ true → IsGrownTable (table_with T line)
  line_grows MethodsLine rules well = absurd (let no : false ≡ true = well in cc)
  line_grows (ClassLine name superclass) rules well =
      let above = superclass_open name superclass (rules BadSuperclass) in
      record {
        grown = WithClass T name (superclass_number T superclass) t.grown above.low above.high above.open_class;
        table = class_table T name (Some (superclass_number T superclass)) t.table (none_there (class_named T name) (rules NameTaken)) well;
      }
  line_grows (FieldLine class name signature) rules well = record {
    grown = WithField T (class_number T class) (field_of T name signature) t.grown;
    table = changed_table (λ d. record d { fields = d.fields ++ field_of T name signature ∷ [] }) (λ d. refl) (λ d. refl) (class_number T class) T t.table;
  }
  line_grows (StaticLine class name signature) rules well = record {
    grown = WithStatic T (class_number T class) (field_of T name signature) t.grown;
    table = changed_table (λ d. record d { statics = d.statics ++ field_of T name signature ∷ [] }) (λ d. refl) (λ d. refl) (class_number T class) T t.table;
  }
  line_grows (ObjectLine x class values) rules well = t
  line_grows (ObjectsLine x class values) rules well = t
  line_grows (ArrayLine x e values) rules well = t
  line_grows (StringLine x text) rules well = t
  line_grows (ThreadLine function arguments) rules well = t
  line_grows (CallLine function arguments) rules well = t
