-- The cases of texts/methods.cases, as gate/worked_equations writes them.
use Rattle.std.specs.Prelude.{◌∷◌, true, false, [], Some, None, codes, refl}
use Rattle.syntax.specs.declared.declared_type.ReferenceType.TheVariants.{Object as JObject, ByteArray as JByteArray}
use Rattle.syntax.specs.declared.declared_type.VariableType.TheVariants.{JmethodId as JMethodId}
use Rattle.syntax.specs.declared.declared_type.DeclaredType.TheVariants.{Simple}
use Rattle.syntax.specs.declared.unit.ResultType.TheVariants.{Void, Jint as IntResult, Reference as ReferenceResult}
use Rattle.syntax.specs.declared.expr.Constant.TheVariants.{Null}
use Rattle.syntax.specs.declared.expr.BinaryOp.TheVariants.{Equal}
use Rattle.syntax.specs.Tree.{Number, Named, Variable, Binary, Text, FromExpr, FromCall, TestExpr, Declare, Assign, PutJint, Plain, If, ElseBlock, Return, SourceUnit}
use Rattle.semantics.specs.declared.schedule.ScheduleWord.TheVariants.{Turn}
use Rattle.semantics.specs.World.{World}
use Rattle.world_values.specs.WorldLines.{MethodsLine, ClassLine, ThreadLine, Lines}
use Rattle.world_values.specs.WorldMeaning.{world_of}
use Rattle.world_values.specs.WorldRules.{IsWorldText}
use Rattle.test_equations.specs.Claims.{IsAccepted, IsWorkedRun, IsUnloaded}
use Rattle.test_equations.proofs.Programs.{unit_of, native, block, reference_parameter, int_parameter, call, given}
use Rattle.test_equations.proofs.Computed.{opened, accepted, world-text, worked-run, unloaded}

-- a method of the superclass
-- JNIEXPORT void JNICALL Java_A_f(JNIEnv *env, jclass cls) {
-- jmethodID m = (*env)->GetStaticMethodID(env, cls, "g", "(I[B)Ljava/lang/Object;");
-- if (m == NULL) { put_jint(0); } else { put_jint(1); }
-- return; }
-- JNIEXPORT jobject JNICALL Java_B_g(JNIEnv *env, jclass cls, jint n, jbyteArray a) { return a; }
abbrev pub a_method_of_the_superclass : SourceUnit
a_method_of_the_superclass =
    unit_of
    (native 1 Void (codes "Java_A_f") []
    (Plain 2 (Declare (Simple JMethodId) (codes "m") (FromCall (call (codes "GetStaticMethodID") (given (codes "cls") ∷ Text (codes "g") ∷ Text (codes "(I[B)Ljava/lang/Object;") ∷ []))))
    ∷ If 3 (TestExpr (Binary Equal (Variable (codes "m")) (Named Null)))
    (block
    (Plain 3 (PutJint (Number 0 false))
    ∷ [])
    3)
    (ElseBlock (block
    (Plain 3 (PutJint (Number 1 false))
    ∷ [])
    3))
    ∷ Return 4 None
    ∷ [])
    4
    ∷ native 5 (ReferenceResult JObject) (codes "Java_B_g") (int_parameter (codes "n") ∷ reference_parameter JByteArray (codes "a") ∷ [])
    (Return 5 (Some (Variable (codes "a")))
    ∷ [])
    5
    ∷ [])

abbrev a_method_of_the_superclass-lines : Lines
a_method_of_the_superclass-lines =
    (2, ClassLine (codes "B") None)
    ∷ (3, ClassLine (codes "A") (Some (codes "B")))
    ∷ (4, ThreadLine (codes "Java_A_f") [])
    ∷ []

abbrev a_method_of_the_superclass-world : World
a_method_of_the_superclass-world = world_of 1 512 ((1, MethodsLine) ∷ a_method_of_the_superclass-lines)

a_method_of_the_superclass-means : IsWorldText (codes "heap 512 methods\nclass B\nclass A extends B\nthread Java_A_f\n") a_method_of_the_superclass-world
unfolding opened
a_method_of_the_superclass-means = world-text (codes "heap 512 methods\nclass B\nclass A extends B\nthread Java_A_f\n") 512 true a_method_of_the_superclass-lines 1 refl refl refl refl refl

a_method_of_the_superclass-accepted : IsAccepted a_method_of_the_superclass
unfolding opened
a_method_of_the_superclass-accepted = accepted a_method_of_the_superclass refl refl refl

a_method_of_the_superclass-run : IsWorkedRun a_method_of_the_superclass (codes "heap 512 methods\nclass B\nclass A extends B\nthread Java_A_f\n") (codes "1*9\n")
    (codes "T1 1\nT1 ended\njournal 1 1 1 1 1 1 1 1\n")
unfolding opened
a_method_of_the_superclass-run = worked-run a_method_of_the_superclass a_method_of_the_superclass-world ((Turn 1, Some 9) ∷ []) [] a_method_of_the_superclass-accepted a_method_of_the_superclass-means refl refl refl refl

-- a method of another signature
-- JNIEXPORT void JNICALL Java_A_f(JNIEnv *env, jclass cls) {
-- jmethodID m = NULL;
-- m = (*env)->GetStaticMethodID(env, cls, "g", "(I)V");
-- return; }
-- JNIEXPORT jint JNICALL Java_A_g(JNIEnv *env, jclass cls, jint n) { return n; }
abbrev pub a_method_of_another_signature : SourceUnit
a_method_of_another_signature =
    unit_of
    (native 1 Void (codes "Java_A_f") []
    (Plain 2 (Declare (Simple JMethodId) (codes "m") (FromExpr (Named Null)))
    ∷ Plain 3 (Assign (codes "m") (FromCall (call (codes "GetStaticMethodID") (given (codes "cls") ∷ Text (codes "g") ∷ Text (codes "(I)V") ∷ []))))
    ∷ Return 4 None
    ∷ [])
    4
    ∷ native 5 IntResult (codes "Java_A_g") (int_parameter (codes "n") ∷ [])
    (Return 5 (Some (Variable (codes "n")))
    ∷ [])
    5
    ∷ [])

abbrev a_method_of_another_signature-lines : Lines
a_method_of_another_signature-lines =
    (2, ClassLine (codes "A") None)
    ∷ (3, ThreadLine (codes "Java_A_f") [])
    ∷ []

abbrev a_method_of_another_signature-world : World
a_method_of_another_signature-world = world_of 1 512 ((1, MethodsLine) ∷ a_method_of_another_signature-lines)

a_method_of_another_signature-means : IsWorldText (codes "heap 512 methods\nclass A\nthread Java_A_f\n") a_method_of_another_signature-world
unfolding opened
a_method_of_another_signature-means = world-text (codes "heap 512 methods\nclass A\nthread Java_A_f\n") 512 true a_method_of_another_signature-lines 1 refl refl refl refl refl

a_method_of_another_signature-accepted : IsAccepted a_method_of_another_signature
unfolding opened
a_method_of_another_signature-accepted = accepted a_method_of_another_signature refl refl refl

a_method_of_another_signature-run : IsWorkedRun a_method_of_another_signature (codes "heap 512 methods\nclass A\nthread Java_A_f\n") (codes "1*3\n")
    (codes "T1 running\n#48 java/lang/NoSuchMethodError null\njournal 1 1 1\n")
unfolding opened
a_method_of_another_signature-run = worked-run a_method_of_another_signature a_method_of_another_signature-world ((Turn 1, Some 3) ∷ []) [] a_method_of_another_signature-accepted a_method_of_another_signature-means refl refl refl refl

-- methods in a world without
-- JNIEXPORT void JNICALL Java_A_f(JNIEnv *env, jclass cls) { return; }
-- JNIEXPORT void JNICALL Java_A_g(JNIEnv *env, jclass cls) {
-- jmethodID m = (*env)->GetStaticMethodID(env, cls, "f", "()V");
-- return; }
abbrev pub methods_in_a_world_without : SourceUnit
methods_in_a_world_without =
    unit_of
    (native 1 Void (codes "Java_A_f") []
    (Return 1 None
    ∷ [])
    1
    ∷ native 2 Void (codes "Java_A_g") []
    (Plain 3 (Declare (Simple JMethodId) (codes "m") (FromCall (call (codes "GetStaticMethodID") (given (codes "cls") ∷ Text (codes "f") ∷ Text (codes "()V") ∷ []))))
    ∷ Return 4 None
    ∷ [])
    4
    ∷ [])

abbrev methods_in_a_world_without-lines : Lines
methods_in_a_world_without-lines =
    (3, ClassLine (codes "A") None)
    ∷ (4, ThreadLine (codes "Java_A_f") [])
    ∷ []

abbrev methods_in_a_world_without-world : World
methods_in_a_world_without-world = world_of 2 512 methods_in_a_world_without-lines

methods_in_a_world_without-means : IsWorldText (codes "\nheap 512\nclass A\nthread Java_A_f\n") methods_in_a_world_without-world
unfolding opened
methods_in_a_world_without-means = world-text (codes "\nheap 512\nclass A\nthread Java_A_f\n") 512 false methods_in_a_world_without-lines 2 refl refl refl refl refl

methods_in_a_world_without-unloaded : IsUnloaded methods_in_a_world_without (codes "\nheap 512\nclass A\nthread Java_A_f\n") 2
unfolding opened
methods_in_a_world_without-unloaded = unloaded methods_in_a_world_without methods_in_a_world_without-world 2 methods_in_a_world_without-means refl
