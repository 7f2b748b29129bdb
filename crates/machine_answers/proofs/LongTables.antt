-- A table that grew from the built-in classes has them all.
use Rattle.std.proofs.Common.{Some, ◌≡◌, ℕ, ◌+◌, ◌≤◌, Bool, true, false, cond, [], ◌∷◌, ◌++◌, length, map, refl, ◌∙◌, arith, length-append, Option, None, zero, suc, ap}
use Rattle.std.specs.Prelude.{◌==◌, ◌||◌}
use Rattle.std.specs.List.{enumerate_from, list_any}
use Rattle.std.proofs.lemmas.List.{length-map}
use Rattle.std.proofs.lemmas.List.FromFn.{length-enumerate_from}
use Rattle.class_rules.specs.Additions.{new_class, with_changed_class}
use Rattle.class_rules.specs.BuiltIns.{built_ins, class_class, object_array_class, throwable_class}
use Rattle.class_rules.specs.Class.{Class, ClassKind, Classes, Plain, above, ancestry_within, assignable, class_kind, elements_fit, superclass}
use Rattle.class_rules.specs.Grown.{IsGrown, BuiltIns, WithClass, WithField, WithStatic}
use Rattle.semantics.specs.World.{World, loaded_objects, class_object, fresh_object}
use Rattle.semantics_typing.proofs.TableKinds.{grown_long}

-- java/lang/Class is below java/lang/Object alone, and no class of arrays
record HasBase (classes : Classes) : Type 0 where
  root : superclass classes 1 ≡ None
  super : superclass classes class_class ≡ Some 1
  plain : class_kind classes class_class ≡ Plain

base_more : (classes more : Classes) → 2 ≤ length classes → HasBase classes → HasBase (classes ++ more)
base_more [] more long b = absurd (omega arith)
base_more (x ∷ []) more long b = absurd (omega arith)
base_more (x ∷ y ∷ classes) more long b = record { root = b.root; super = b.super; plain = b.plain }

base_changed : (classes : Classes) (c : ℕ) (change : Class → Class) → ((d : Class) → (change d).superclass ≡ d.superclass) → ((d : Class) → (change d).kind ≡ d.kind) → 2 ≤ length classes → HasBase classes → HasBase (with_changed_class classes c change)
base_changed [] c change same_super same_kind long b = absurd (omega arith)
base_changed (x ∷ []) c change same_super same_kind long b = absurd (omega arith)
base_changed (x ∷ y ∷ classes) c change same_super same_kind long b = record { root = super_by x (1 == c) ∙ b.root; super = super_by y (2 == c) ∙ b.super; plain = kind_by y (2 == c) ∙ b.plain }
  where
    super_by : (d : Class) (t : Bool) → (cond t (change d) d).superclass ≡ d.superclass
    super_by d true = same_super d
    super_by d false = refl

    kind_by : (d : Class) (t : Bool) → (cond t (change d) d).kind ≡ d.kind
    kind_by d true = same_kind d
    kind_by d false = refl

base : (classes : Classes) → IsGrown classes → HasBase classes
unfolding built_ins
base classes BuiltIns = record { root = refl; super = refl; plain = refl }
base classes (WithClass before name s g low high own) = base_more before (new_class name (Some s) ∷ object_array_class (length before + 1, new_class name (Some s)) ∷ []) (omega (arith, grown_long before g)) (base before g)
base classes (WithField before c field g) = base_changed before c (λ d. record d { fields = d.fields ++ field ∷ [] }) (λ d. refl) (λ d. refl) (omega (arith, grown_long before g)) (base before g)
base classes (WithStatic before c field g) = base_changed before c (λ d. record d { statics = d.statics ++ field ∷ [] }) (λ d. refl) (λ d. refl) (omega (arith, grown_long before g)) (base before g)

pub class_is_plain : (classes : Classes) → IsGrown classes → class_kind classes class_class ≡ Plain
class_is_plain classes g = (base classes g).plain

-- nor is it below java/lang/Throwable
pub class_is_no_throwable : (classes : Classes) → IsGrown classes → assignable classes class_class throwable_class ≡ false
class_is_no_throwable classes g =
    let b = base classes g in
    ap (λ (t : Bool). t || elements_fit classes (class_kind classes class_class) (class_kind classes throwable_class)) (none_above b (length classes) (omega (arith, grown_long classes g)))
    ∙ ap (λ (k : ClassKind). elements_fit classes k (class_kind classes throwable_class)) b.plain
  where
    none_above : HasBase classes → (n : ℕ) → 2 ≤ n → list_any (λ (a : ℕ). a == throwable_class) (ancestry_within n classes class_class) ≡ false
    none_above b zero l = absurd (omega arith)
    none_above b (suc zero) l = absurd (omega arith)
    none_above b (suc (suc n)) l =
        ap (λ (o : Option ℕ). list_any (λ (a : ℕ). a == throwable_class) (2 ∷ above (ancestry_within (suc n) classes) o)) b.super
        ∙ ap (λ (o : Option ℕ). list_any (λ (a : ℕ). a == throwable_class) (2 ∷ 1 ∷ above (ancestry_within n classes) o)) b.root

-- the class objects are among the objects made at load
pub classes_loaded : (w : World) → length w.classes ≤ length (loaded_objects w)
classes_loaded w =
    omega (
      arith,
      length-append (map (λ (c : ℕ × Class). class_object w.classes c.0) (enumerate_from 1 w.classes)) (fresh_object w.classes 11 ∷ w.objects),
      length-map (enumerate_from 1 w.classes) (λ (c : ℕ × Class). class_object w.classes c.0),
      length-enumerate_from 1 w.classes,
    )
