-- What is known of a line that breaks no rule, by what the lines before it say.
use Rattle.std.proofs.Common.{◌≡◌, ℕ, ◌+◌, ◌≤◌, Bool, true, false, cond, List, [], ◌∷◌, Option, Some, None, refl}
use Rattle.std.specs.Prelude.{not, ◌&&◌, nat_le, is_some}
use Rattle.std.specs.List.{list_all}
use Rattle.std.proofs.lemmas.Bool.{and_from, and_parts, not-true, leb-true}
use Rattle.base.specs.Bytes.{ByName, lookup}
use Rattle.base.specs.declared.element.ElementType.TheVariants.{Int as JInt}
use Rattle.base.specs.Options.{some_passes}
use Rattle.class_rules.specs.declared.rule.ClassRule.{ClassRule}
use Rattle.class_rules.specs.Class.{FieldType, NumberField, ReferenceField, Classes}
use Rattle.world_schedules.specs.LineRules.{LineRule, LineForm}
use Rattle.world.specs.Gathered.{Gathered, comes_in_order, is_named, has_place, is_known, each_can_hold, can_hold, least_broken, least_rule}
use Rattle.world_lines.specs.ClassRules.{broken_class_rule, is_formed}
use Rattle.world_lines.specs.LineContents.{name_given, written_values, cells_added}
use Rattle.world_values.specs.WorldLines.{WorldValue, NumberValue, NullValue, NamedObject, NamedClass, WorldLine}
use Rattle.world_values.specs.WorldRules.{is_class_allowed, is_in_range, types_of_line, value_in_range, each_in_range}
use Rattle.world_values.proofs.LoadedWorlds.{number_in_range}

-- what each rule asks
pub record Keeps (g : Gathered) (line : WorldLine) : Type 0 where
  pub ordered : comes_in_order g line ≡ true
  pub class_rules : broken_class_rule g.classes line ≡ None
  pub formed : is_formed g.classes line ≡ true
  pub new : some_passes (λ x. is_some (lookup x g.names)) (name_given line) ≡ false
  pub allowed : is_class_allowed g.methods g.classes line ≡ true
  pub known : list_all (is_known g.classes g.names) (written_values line) ≡ true
  pub held : each_can_hold g.classes g.names (types_of_line g.classes line) (written_values line) ≡ true
  pub ranged : each_in_range (types_of_line g.classes line) (written_values line) ≡ true
  pub place : has_place g line ≡ true
  pub room : g.used + cells_added line ≤ g.cells

record AreKept (rule : Option ClassRule) (form names limits room : Bool) : Type 0 where
  pub no_rule : rule ≡ None
  pub well : form ≡ true
  pub named : names ≡ true
  pub limited : limits ≡ true
  pub roomy : room ≡ true

none_is_broken : (rule : Option ClassRule) (form names limits room : Bool) → least_broken rule form names limits room ≡ None → AreKept rule form names limits room
none_is_broken (Some rule) form names limits room h = absurd (cc)
none_is_broken None false names limits room h = absurd (cc)
none_is_broken None true false limits room h = absurd (cc)
none_is_broken None true true false room h = absurd (cc)
none_is_broken None true true true false h = absurd (cc)
none_is_broken None true true true true h = record { no_rule = refl; well = refl; named = refl; limited = refl; roomy = refl }

pub keeps : (g : Gathered) (line : WorldLine) → least_rule g line ≡ None → Keeps g line
keeps g line h = by_order (comes_in_order g line) refl h
  where
    broken : Option LineRule
    broken =
        least_broken
        (broken_class_rule g.classes line)
        (is_formed g.classes line)
        (is_named g.methods g.classes g.names line)
        (each_in_range (types_of_line g.classes line) (written_values line) && has_place g line)
        (nat_le (g.used + cells_added line) g.cells)

    by_order : (b : Bool) → comes_in_order g line ≡ b → cond b broken (Some LineForm) ≡ None → Keeps g line
    by_order false e k = absurd (cc)
    by_order true e k =
        let are = none_is_broken _ _ _ _ _ k in
        let taken = some_passes (λ x. is_some (lookup x g.names)) (name_given line) in
        let known = list_all (is_known g.classes g.names) (written_values line) in
        let held = and_parts (not taken && is_class_allowed g.methods g.classes line && known) (each_can_hold g.classes g.names (types_of_line g.classes line) (written_values line)) are.named in
        let rest = and_parts (not taken && is_class_allowed g.methods g.classes line) known held.0 in
        let first = and_parts (not taken) (is_class_allowed g.methods g.classes line) rest.0 in
        let limits = and_parts (each_in_range (types_of_line g.classes line) (written_values line)) (has_place g line) are.limited in
        record {
          ordered = e;
          class_rules = are.no_rule;
          formed = are.well;
          new = not-true taken first.0;
          allowed = first.1;
          known = rest.1;
          held = held.1;
          ranged = limits.0;
          place = limits.1;
          room = leb-true (g.used + cells_added line) g.cells are.roomy;
        }

-- ---- numbers

value_in_jint : (classes : Classes) (names : ByName ℕ) (t : FieldType) (types : List FieldType) (v : WorldValue) (values : List WorldValue) → can_hold classes names t v ≡ true → each_in_range (t ∷ types) (v ∷ values) ≡ true → (value_in_range JInt v ≡ true) × (each_in_range types values ≡ true)
value_in_jint classes names (NumberField t) types (NumberValue z) values h k = let b = and_parts (is_in_range t z) (each_in_range types values) k in (number_in_range t z b.0, b.1)
value_in_jint classes names (NumberField t) types NullValue values h k = (refl, k)
value_in_jint classes names (NumberField t) types (NamedObject x) values h k = (refl, k)
value_in_jint classes names (NumberField t) types (NamedClass x) values h k = (refl, k)
value_in_jint classes names (ReferenceField c) types (NumberValue z) values h k = absurd (let no : false ≡ true = h in cc)
value_in_jint classes names (ReferenceField c) types NullValue values h k = (refl, k)
value_in_jint classes names (ReferenceField c) types (NamedObject x) values h k = (refl, k)
value_in_jint classes names (ReferenceField c) types (NamedClass x) values h k = (refl, k)

-- numbers that are held and in their types' ranges are in that of jint
pub all_in_jint : (classes : Classes) (names : ByName ℕ) (types : List FieldType) (values : List WorldValue) → each_can_hold classes names types values ≡ true → each_in_range types values ≡ true → list_all (value_in_range JInt) values ≡ true
all_in_jint classes names [] values h k = k
all_in_jint classes names (t ∷ types) [] h k = refl
all_in_jint classes names (t ∷ types) (v ∷ values) h k =
    let held = and_parts (can_hold classes names t v) (each_can_hold classes names types values) h in
    let first = value_in_jint classes names t types v values held.0 k in
    and_from (value_in_range JInt v) (list_all (value_in_range JInt) values) first.0 (all_in_jint classes names types values held.1 first.1)
