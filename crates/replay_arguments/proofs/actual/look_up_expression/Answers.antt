use Rattle.std.proofs.Common.{◌≡◌, refl, sym, ◌∙◌}
use Rattle.syntax.specs.Tree.{Expr}
use Rattle.syntax.specs.Shapes.{ref_tree}
use Rattle.base.specs.declared.element.ElementType.{ElementType}
use Rattle.jni.specs.declared.access.Access.{Access}
use Rattle.jni.specs.declared.kinds.ParameterKind.{ParameterKind}
use Rattle.jni.specs.declared.kinds.ParameterKind.TheVariants as parameter
use Rattle.semantics.specs.Arguments.{look_up_expression, reference_argument}
use Rattle.semantics.specs.Sight.{Sight}
use Rattle.replay_arguments.specs.Shares.{shared_view, sight_in}
use Rattle.replay_arguments.proofs.actual.look_up_expression.Goals as goal

-- a parameter that is none of those before
by_default : (sight : Sight) (e : Expr) (p : ParameterKind) → (p ≡ parameter.FieldID → ⊥) → (p ≡ parameter.MethodID → ⊥) → ((t : ElementType) → p ≡ parameter.ArrayVariable t → ⊥) → ((a : Access) → p ≡ parameter.BufferVariable a → ⊥) → (p ≡ parameter.Mode → ⊥)
    → (p ≡ parameter.IsCopy → ⊥) → look_up_expression sight p e ≡ reference_argument sight e
by_default sight e parameter.Nullable f d a b m i = refl
by_default sight e parameter.AnyReference f d a b m i = refl
by_default sight e parameter.NonNull f d a b m i = refl
by_default sight e parameter.ClassObject f d a b m i = refl
by_default sight e parameter.AnyArray f d a b m i = refl
by_default sight e parameter.ObjectArray f d a b m i = refl
by_default sight e parameter.StringObject f d a b m i = refl
by_default sight e (parameter.NumberArray t) f d a b m i = refl
by_default sight e parameter.LocalVariable f d a b m i = refl
by_default sight e parameter.StaticVariable f d a b m i = refl
by_default sight e parameter.WeakVariable f d a b m i = refl
by_default sight e parameter.FieldID f d a b m i = absurd (f refl)
by_default sight e parameter.MethodID f d a b m i = absurd (d refl)
by_default sight e parameter.IntNumber f d a b m i = refl
by_default sight e parameter.TextBytes f d a b m i = refl
by_default sight e (parameter.ArrayVariable t) f d a b m i = absurd (a t refl)
by_default sight e (parameter.BufferVariable x) f d a b m i = absurd (b x refl)
by_default sight e parameter.Mode f d a b m i = absurd (m refl)
by_default sight e parameter.Passed f d a b m i = refl
by_default sight e parameter.IsCopy f d a b m i = absurd (i refl)

pub returns-in-FieldID : goal.returns-in-FieldID
returns-in-FieldID c = rw c.in-FieldID.is (c.field_argument.ensures (shared_view c.args.shared.now))

pub returns-in-MethodID : goal.returns-in-MethodID
returns-in-MethodID c = rw c.in-MethodID.is (c.method_argument.ensures (shared_view c.args.shared.now))

pub returns-in_default : goal.returns-in_default
returns-in_default c =
    c.reference_argument.ensures
    ∙ sym (by_default (sight_in (shared_view c.args.shared.now) c.args.variables.now) (ref_tree c.args.e) c.args.parameter c.in_default.not-FieldID c.in_default.not-MethodID c.in_default.not-ArrayVariable c.in_default.not-BufferVariable c.in_default.not-Mode c.in_default.not-IsCopy)
