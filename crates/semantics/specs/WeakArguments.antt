-- Which arguments name weak global references, and which functions take them (JNI Specification, chapter 2, "Weak Global References").
use Rattle.std.specs.Prelude.{◌≡◌, ◌≢◌, ◌⊎◌, ℕ, Bool, true, false, Some, None}
use Rattle.std.specs.List.{AllByRecursion}
use Rattle.base.specs.Bytes.{Identifier, lookup}
use Rattle.jni.specs.declared.function.JniFunction.{JniFunction}
use Rattle.jni.specs.declared.function.JniFunction.TheVariants.{NewLocalRef, NewGlobalRef, IsSameObject, DeleteWeakGlobalRef}
use Rattle.semantics.specs.Task.{Task, Invoke, Operand, PassedName, Given}
use Rattle.semantics.specs.Variable.{Weakly, Variables, Statics}
use Rattle.syntax.specs.Tree as tree

-- the functions that take a weak reference: one of them takes nothing else
abbrev pub takes_weak : JniFunction → Bool
takes_weak NewLocalRef = true
takes_weak NewGlobalRef = true
takes_weak IsSameObject = true
takes_weak DeleteWeakGlobalRef = true
takes_weak f = false

-- the name of no weak reference that isn't cleared; a name of a variable is no static's
abbrev pub IsNoWeak : Variables → Statics → Identifier → Type 0
IsNoWeak vs ss x = lookup x vs ≡ None → (n : ℕ) → lookup x ss ≢ Some (Weakly n)

-- an argument that names none
abbrev pub NamesNoWeak : Variables → Statics → Operand → Type 0
NamesNoWeak vs ss (Given (tree.Value (tree.Variable x))) = IsNoWeak vs ss x
NamesNoWeak vs ss (PassedName x) = IsNoWeak vs ss x
NamesNoWeak vs ss operand = Unit {0}

-- a weak reference that isn't cleared is named by a call of these functions alone
abbrev pub WeakAreTaken : Variables → Statics → Task → Type 0
WeakAreTaken vs ss (Invoke line target f operands) = (takes_weak f ≡ true) ⊎ AllByRecursion (NamesNoWeak vs ss) operands
WeakAreTaken vs ss task = Unit {0}
