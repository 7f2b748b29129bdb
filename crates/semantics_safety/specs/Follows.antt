-- What the effect of a task's step has to meet: the point after it has what is wanted of the tasks that are left.
use Rattle.std.specs.Prelude.{◌≡◌, List, ◌++◌, IsTrue}
use Rattle.type_rules.specs.declared.ty.ExprType.TheVariants.{Array}
use Rattle.type_rules.specs.ExprTypes.{type_in}
use Rattle.type_rules.specs.TypeGroups.{IsNumberType}
use Rattle.semantics.specs.Arguments.{actuals}
use Rattle.semantics.specs.Effect.{Effect, Becomes, Sets, SetsNull, SetsElement, MakesArray, Prints, Calls, Returns, TrapsAt, NoEffect, is_ready}
use Rattle.semantics.specs.Sight.{Sight}
use Rattle.semantics.specs.Task.{Task, Operand, Invoke}
use Rattle.semantics.specs.Thread.{Frame}
use Rattle.semantics.specs.Variable.{Variables, Statics}
use Rattle.semantics_safety.specs.Owners.{Owners}
use Rattle.semantics_safety.specs.Points.{Point, value_type, ElementsFit}
use Rattle.semantics_safety.specs.Wanted.{IsNew, named, SetsNumber, SetsNullThere, HasNoView, MayReturnFrom, GoesOn, Runs}
use Rattle.semantics_safety.specs.Stands.{Stands}
use Rattle.semantics_safety.specs.WeakNames.{WeakNames}

-- an effect at a point where the thread is, with these tasks left after it
abbrev pub Follows : WeakNames → Owners → Sight → Statics → Variables → List Frame → Point → List Task → Effect → Type 0
Follows weak own sight ss vs frames p rest (Becomes tasks) = (q : Point) × Stands weak own ss vs frames q × GoesOn (tasks ++ rest) q
Follows weak own sight ss vs frames p rest (Sets x v) = SetsNumber x (value_type v) (GoesOn rest) p × IsNumberType (value_type v)
Follows weak own sight ss vs frames p rest (SetsNull target) = SetsNullThere p target (GoesOn rest)
Follows weak own sight ss vs frames p rest (SetsElement x i z) = ElementsFit p x (type_in p.names x) × GoesOn rest p
Follows weak own sight ss vs frames p rest (MakesArray t x size) = IsNew p x × GoesOn rest (named p x (Array t size))
Follows weak own sight ss vs frames p rest (Prints z) = HasNoView p × GoesOn rest p
Follows weak own sight ss vs frames p rest (Calls line target f args) =
    (operands : List Operand) × (args ≡ actuals sight f operands) × IsTrue (is_ready sight.number operands) × Runs (Invoke line target f operands) (GoesOn rest) p
Follows weak own sight ss vs frames p rest (Returns given) = MayReturnFrom p
Follows weak own sight ss vs frames p rest (TrapsAt trap line) = Unit {0}
Follows weak own sight ss vs frames p rest NoEffect = ⊥
