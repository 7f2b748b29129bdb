-- The cases of texts/classes.cases, as gate/worked_equations writes them.
use Rattle.std.specs.Prelude.{◌∷◌, false, [], Some, None, codes, refl}
use Rattle.syntax.specs.declared.declared_type.ReferenceType.TheVariants.{Object as JObject, Class as JClass}
use Rattle.syntax.specs.declared.declared_type.VariableType.TheVariants.{Jboolean as JBoolean, Reference as ReferenceVariable}
use Rattle.syntax.specs.declared.declared_type.DeclaredType.TheVariants.{Simple}
use Rattle.syntax.specs.declared.unit.ResultType.TheVariants.{Void}
use Rattle.syntax.specs.declared.expr.Constant.TheVariants.{Null}
use Rattle.syntax.specs.declared.expr.PrefixOp.TheVariants.{ToInt}
use Rattle.syntax.specs.declared.expr.BinaryOp.TheVariants.{Equal}
use Rattle.syntax.specs.Tree.{Number, Named, Variable, Prefix, Binary, Value, Text, FromCall, TestExpr, Declare, PutJint, Plain, If, NoElse, Return, SourceUnit}
use Rattle.semantics.specs.declared.schedule.ScheduleWord.TheVariants.{Turn}
use Rattle.semantics.specs.World.{World}
use Rattle.world_values.specs.WorldLines.{NamedObject, NamedClass, ClassLine, ObjectLine, ThreadLine, Lines}
use Rattle.world_values.specs.WorldMeaning.{world_of}
use Rattle.world_values.specs.WorldRules.{IsWorldText}
use Rattle.test_equations.specs.Claims.{IsAccepted, IsWorkedRun}
use Rattle.test_equations.proofs.Programs.{unit_of, native, block, reference_parameter, call, given}
use Rattle.test_equations.proofs.Computed.{opened, accepted, world-text, worked-run}

-- classes and their superclasses
-- JNIEXPORT void JNICALL Java_A_f(JNIEnv *env, jclass cls) {
-- jclass b = (*env)->FindClass(env, "B");
-- jclass a = (*env)->GetSuperclass(env, b);
-- jclass object = (*env)->GetSuperclass(env, a);
-- jclass none = (*env)->GetSuperclass(env, object);
-- jclass ints = (*env)->FindClass(env, "[I");
-- jclass above = (*env)->GetSuperclass(env, ints);
-- jboolean x = (*env)->IsSameObject(env, a, cls);
-- jboolean y = (*env)->IsSameObject(env, above, object);
-- jboolean z = (*env)->IsSameObject(env, none, NULL);
-- jboolean w = (*env)->IsSameObject(env, a, b);
-- put_jint((jint)x);
-- put_jint((jint)y);
-- put_jint((jint)z);
-- put_jint((jint)w);
-- return;
-- }
abbrev pub classes_and_their_superclasses : SourceUnit
classes_and_their_superclasses =
    unit_of
    (native 1 Void (codes "Java_A_f") []
    (Plain 2 (Declare (Simple (ReferenceVariable JClass)) (codes "b") (FromCall (call (codes "FindClass") (Text (codes "B") ∷ []))))
    ∷ Plain 3 (Declare (Simple (ReferenceVariable JClass)) (codes "a") (FromCall (call (codes "GetSuperclass") (given (codes "b") ∷ []))))
    ∷ Plain 4 (Declare (Simple (ReferenceVariable JClass)) (codes "object") (FromCall (call (codes "GetSuperclass") (given (codes "a") ∷ []))))
    ∷ Plain 5 (Declare (Simple (ReferenceVariable JClass)) (codes "none") (FromCall (call (codes "GetSuperclass") (given (codes "object") ∷ []))))
    ∷ Plain 6 (Declare (Simple (ReferenceVariable JClass)) (codes "ints") (FromCall (call (codes "FindClass") (Text (codes "[I") ∷ []))))
    ∷ Plain 7 (Declare (Simple (ReferenceVariable JClass)) (codes "above") (FromCall (call (codes "GetSuperclass") (given (codes "ints") ∷ []))))
    ∷ Plain 8 (Declare (Simple JBoolean) (codes "x") (FromCall (call (codes "IsSameObject") (given (codes "a") ∷ given (codes "cls") ∷ []))))
    ∷ Plain 9 (Declare (Simple JBoolean) (codes "y") (FromCall (call (codes "IsSameObject") (given (codes "above") ∷ given (codes "object") ∷ []))))
    ∷ Plain 10 (Declare (Simple JBoolean) (codes "z") (FromCall (call (codes "IsSameObject") (given (codes "none") ∷ Value (Named Null) ∷ []))))
    ∷ Plain 11 (Declare (Simple JBoolean) (codes "w") (FromCall (call (codes "IsSameObject") (given (codes "a") ∷ given (codes "b") ∷ []))))
    ∷ Plain 12 (PutJint (Prefix ToInt (Variable (codes "x"))))
    ∷ Plain 13 (PutJint (Prefix ToInt (Variable (codes "y"))))
    ∷ Plain 14 (PutJint (Prefix ToInt (Variable (codes "z"))))
    ∷ Plain 15 (PutJint (Prefix ToInt (Variable (codes "w"))))
    ∷ Return 16 None
    ∷ [])
    17
    ∷ [])

abbrev classes_and_their_superclasses-lines : Lines
classes_and_their_superclasses-lines =
    (2, ClassLine (codes "A") None)
    ∷ (3, ClassLine (codes "B") (Some (codes "A")))
    ∷ (4, ThreadLine (codes "Java_A_f") [])
    ∷ []

abbrev classes_and_their_superclasses-world : World
classes_and_their_superclasses-world = world_of 1 512 classes_and_their_superclasses-lines

classes_and_their_superclasses-means : IsWorldText (codes "heap 512\nclass A\nclass B extends A\nthread Java_A_f\n") classes_and_their_superclasses-world
unfolding opened
classes_and_their_superclasses-means = world-text (codes "heap 512\nclass A\nclass B extends A\nthread Java_A_f\n") 512 false classes_and_their_superclasses-lines 1 refl refl refl refl refl

classes_and_their_superclasses-accepted : IsAccepted classes_and_their_superclasses
unfolding opened
classes_and_their_superclasses-accepted = accepted classes_and_their_superclasses refl refl refl

classes_and_their_superclasses-run : IsWorkedRun classes_and_their_superclasses (codes "heap 512\nclass A\nclass B extends A\nthread Java_A_f\n") (codes "1*25\n")
    (codes "T1 1\nT1 1\nT1 1\nT1 0\nT1 ended\njournal 1 1 1 1 1 1 1 1 1 1 1 1 1 1 1 1 1 1 1 1 1 1 1 1\n")
unfolding opened
classes_and_their_superclasses-run = worked-run classes_and_their_superclasses classes_and_their_superclasses-world ((Turn 1, Some 25) ∷ []) [] classes_and_their_superclasses-accepted classes_and_their_superclasses-means refl refl refl refl

-- which class is assignable to which
-- JNIEXPORT void JNICALL Java_A_f(JNIEnv *env, jclass cls, jclass b) {
-- jclass as = (*env)->FindClass(env, "[LA;");
-- jclass bs = (*env)->FindClass(env, "[LB;");
-- jclass object = (*env)->FindClass(env, "java/lang/Object");
-- jclass ints = (*env)->FindClass(env, "[I");
-- jboolean p = (*env)->IsAssignableFrom(env, b, cls);
-- jboolean q = (*env)->IsAssignableFrom(env, cls, b);
-- jboolean r = (*env)->IsAssignableFrom(env, bs, as);
-- jboolean s = (*env)->IsAssignableFrom(env, as, bs);
-- jboolean t = (*env)->IsAssignableFrom(env, ints, object);
-- put_jint((jint)p);
-- put_jint((jint)q);
-- put_jint((jint)r);
-- put_jint((jint)s);
-- put_jint((jint)t);
-- return;
-- }
abbrev pub which_class_is_assignable_to_which : SourceUnit
which_class_is_assignable_to_which =
    unit_of
    (native 1 Void (codes "Java_A_f") (reference_parameter JClass (codes "b") ∷ [])
    (Plain 2 (Declare (Simple (ReferenceVariable JClass)) (codes "as") (FromCall (call (codes "FindClass") (Text (codes "[LA;") ∷ []))))
    ∷ Plain 3 (Declare (Simple (ReferenceVariable JClass)) (codes "bs") (FromCall (call (codes "FindClass") (Text (codes "[LB;") ∷ []))))
    ∷ Plain 4 (Declare (Simple (ReferenceVariable JClass)) (codes "object") (FromCall (call (codes "FindClass") (Text (codes "java/lang/Object") ∷ []))))
    ∷ Plain 5 (Declare (Simple (ReferenceVariable JClass)) (codes "ints") (FromCall (call (codes "FindClass") (Text (codes "[I") ∷ []))))
    ∷ Plain 6 (Declare (Simple JBoolean) (codes "p") (FromCall (call (codes "IsAssignableFrom") (given (codes "b") ∷ given (codes "cls") ∷ []))))
    ∷ Plain 7 (Declare (Simple JBoolean) (codes "q") (FromCall (call (codes "IsAssignableFrom") (given (codes "cls") ∷ given (codes "b") ∷ []))))
    ∷ Plain 8 (Declare (Simple JBoolean) (codes "r") (FromCall (call (codes "IsAssignableFrom") (given (codes "bs") ∷ given (codes "as") ∷ []))))
    ∷ Plain 9 (Declare (Simple JBoolean) (codes "s") (FromCall (call (codes "IsAssignableFrom") (given (codes "as") ∷ given (codes "bs") ∷ []))))
    ∷ Plain 10 (Declare (Simple JBoolean) (codes "t") (FromCall (call (codes "IsAssignableFrom") (given (codes "ints") ∷ given (codes "object") ∷ []))))
    ∷ Plain 11 (PutJint (Prefix ToInt (Variable (codes "p"))))
    ∷ Plain 12 (PutJint (Prefix ToInt (Variable (codes "q"))))
    ∷ Plain 13 (PutJint (Prefix ToInt (Variable (codes "r"))))
    ∷ Plain 14 (PutJint (Prefix ToInt (Variable (codes "s"))))
    ∷ Plain 15 (PutJint (Prefix ToInt (Variable (codes "t"))))
    ∷ Return 16 None
    ∷ [])
    17
    ∷ [])

abbrev which_class_is_assignable_to_which-lines : Lines
which_class_is_assignable_to_which-lines =
    (2, ClassLine (codes "A") None)
    ∷ (3, ClassLine (codes "B") (Some (codes "A")))
    ∷ (4, ThreadLine (codes "Java_A_f") (NamedClass (codes "B") ∷ []))
    ∷ []

abbrev which_class_is_assignable_to_which-world : World
which_class_is_assignable_to_which-world = world_of 1 512 which_class_is_assignable_to_which-lines

which_class_is_assignable_to_which-means : IsWorldText (codes "heap 512\nclass A\nclass B extends A\nthread Java_A_f class:B\n") which_class_is_assignable_to_which-world
unfolding opened
which_class_is_assignable_to_which-means = world-text (codes "heap 512\nclass A\nclass B extends A\nthread Java_A_f class:B\n") 512 false which_class_is_assignable_to_which-lines 1 refl refl refl refl refl

which_class_is_assignable_to_which-accepted : IsAccepted which_class_is_assignable_to_which
unfolding opened
which_class_is_assignable_to_which-accepted = accepted which_class_is_assignable_to_which refl refl refl

which_class_is_assignable_to_which-run : IsWorkedRun which_class_is_assignable_to_which (codes "heap 512\nclass A\nclass B extends A\nthread Java_A_f class:B\n") (codes "1*27\n")
    (codes "T1 1\nT1 0\nT1 1\nT1 0\nT1 1\nT1 ended\njournal 1 1 1 1 1 1 1 1 1 1 1 1 1 1 1 1 1 1 1 1 1 1 1 1 1 1\n")
unfolding opened
which_class_is_assignable_to_which-run = worked-run which_class_is_assignable_to_which which_class_is_assignable_to_which-world ((Turn 1, Some 27) ∷ []) [] which_class_is_assignable_to_which-accepted which_class_is_assignable_to_which-means refl refl refl refl

-- which object is an instance of which class
-- JNIEXPORT void JNICALL Java_A_f(JNIEnv *env, jclass cls, jobject o, jclass b) {
-- jclass c = (*env)->GetObjectClass(env, cls);
-- jboolean p = (*env)->IsInstanceOf(env, o, cls);
-- jboolean q = (*env)->IsInstanceOf(env, o, b);
-- jboolean r = (*env)->IsInstanceOf(env, NULL, b);
-- jboolean s = (*env)->IsInstanceOf(env, c, c);
-- put_jint((jint)p);
-- put_jint((jint)q);
-- put_jint((jint)r);
-- put_jint((jint)s);
-- return;
-- }
abbrev pub which_object_is_an_instance_of_which_class : SourceUnit
which_object_is_an_instance_of_which_class =
    unit_of
    (native 1 Void (codes "Java_A_f") (reference_parameter JObject (codes "o") ∷ reference_parameter JClass (codes "b") ∷ [])
    (Plain 2 (Declare (Simple (ReferenceVariable JClass)) (codes "c") (FromCall (call (codes "GetObjectClass") (given (codes "cls") ∷ []))))
    ∷ Plain 3 (Declare (Simple JBoolean) (codes "p") (FromCall (call (codes "IsInstanceOf") (given (codes "o") ∷ given (codes "cls") ∷ []))))
    ∷ Plain 4 (Declare (Simple JBoolean) (codes "q") (FromCall (call (codes "IsInstanceOf") (given (codes "o") ∷ given (codes "b") ∷ []))))
    ∷ Plain 5 (Declare (Simple JBoolean) (codes "r") (FromCall (call (codes "IsInstanceOf") (Value (Named Null) ∷ given (codes "b") ∷ []))))
    ∷ Plain 6 (Declare (Simple JBoolean) (codes "s") (FromCall (call (codes "IsInstanceOf") (given (codes "c") ∷ given (codes "c") ∷ []))))
    ∷ Plain 7 (PutJint (Prefix ToInt (Variable (codes "p"))))
    ∷ Plain 8 (PutJint (Prefix ToInt (Variable (codes "q"))))
    ∷ Plain 9 (PutJint (Prefix ToInt (Variable (codes "r"))))
    ∷ Plain 10 (PutJint (Prefix ToInt (Variable (codes "s"))))
    ∷ Return 11 None
    ∷ [])
    12
    ∷ [])

abbrev which_object_is_an_instance_of_which_class-lines : Lines
which_object_is_an_instance_of_which_class-lines =
    (2, ClassLine (codes "A") None)
    ∷ (3, ClassLine (codes "B") (Some (codes "A")))
    ∷ (4, ObjectLine (codes "o") (codes "A") [])
    ∷ (5, ThreadLine (codes "Java_A_f") (NamedObject (codes "o") ∷ NamedClass (codes "B") ∷ []))
    ∷ []

abbrev which_object_is_an_instance_of_which_class-world : World
which_object_is_an_instance_of_which_class-world = world_of 1 512 which_object_is_an_instance_of_which_class-lines

which_object_is_an_instance_of_which_class-means : IsWorldText (codes "heap 512\nclass A\nclass B extends A\nobject @o A\nthread Java_A_f @o class:B\n") which_object_is_an_instance_of_which_class-world
unfolding opened
which_object_is_an_instance_of_which_class-means = world-text (codes "heap 512\nclass A\nclass B extends A\nobject @o A\nthread Java_A_f @o class:B\n") 512 false which_object_is_an_instance_of_which_class-lines 1 refl refl refl refl refl

which_object_is_an_instance_of_which_class-accepted : IsAccepted which_object_is_an_instance_of_which_class
unfolding opened
which_object_is_an_instance_of_which_class-accepted = accepted which_object_is_an_instance_of_which_class refl refl refl

which_object_is_an_instance_of_which_class-run : IsWorkedRun which_object_is_an_instance_of_which_class (codes "heap 512\nclass A\nclass B extends A\nobject @o A\nthread Java_A_f @o class:B\n") (codes "1*20\n")
    (codes "T1 1\nT1 0\nT1 1\nT1 1\nT1 ended\n#48 A\njournal 1 1 1 1 1 1 1 1 1 1 1 1 1 1 1 1 1 1 1\n")
unfolding opened
which_object_is_an_instance_of_which_class-run = worked-run which_object_is_an_instance_of_which_class which_object_is_an_instance_of_which_class-world ((Turn 1, Some 20) ∷ []) [] which_object_is_an_instance_of_which_class-accepted which_object_is_an_instance_of_which_class-means refl refl refl refl

-- a class that is not there
-- JNIEXPORT void JNICALL Java_A_f(JNIEnv *env, jclass cls) {
-- jclass c = (*env)->FindClass(env, "B");
-- if (c == NULL) { put_jint(1); }
-- return;
-- }
abbrev pub a_class_that_is_not_there : SourceUnit
a_class_that_is_not_there =
    unit_of
    (native 1 Void (codes "Java_A_f") []
    (Plain 2 (Declare (Simple (ReferenceVariable JClass)) (codes "c") (FromCall (call (codes "FindClass") (Text (codes "B") ∷ []))))
    ∷ If 3 (TestExpr (Binary Equal (Variable (codes "c")) (Named Null)))
    (block
    (Plain 3 (PutJint (Number 1 false))
    ∷ [])
    3)
    NoElse
    ∷ Return 4 None
    ∷ [])
    5
    ∷ [])

abbrev a_class_that_is_not_there-lines : Lines
a_class_that_is_not_there-lines =
    (2, ClassLine (codes "A") None)
    ∷ (3, ThreadLine (codes "Java_A_f") [])
    ∷ []

abbrev a_class_that_is_not_there-world : World
a_class_that_is_not_there-world = world_of 1 512 a_class_that_is_not_there-lines

a_class_that_is_not_there-means : IsWorldText (codes "heap 512\nclass A\nthread Java_A_f\n") a_class_that_is_not_there-world
unfolding opened
a_class_that_is_not_there-means = world-text (codes "heap 512\nclass A\nthread Java_A_f\n") 512 false a_class_that_is_not_there-lines 1 refl refl refl refl refl

a_class_that_is_not_there-accepted : IsAccepted a_class_that_is_not_there
unfolding opened
a_class_that_is_not_there-accepted = accepted a_class_that_is_not_there refl refl refl

a_class_that_is_not_there-run : IsWorkedRun a_class_that_is_not_there (codes "heap 512\nclass A\nthread Java_A_f\n") (codes "1*9\n")
    (codes "T1 1\nT1 uncaught java/lang/NoClassDefFoundError\njournal 1 1 1 1 1 1 1 1\n")
unfolding opened
a_class_that_is_not_there-run = worked-run a_class_that_is_not_there a_class_that_is_not_there-world ((Turn 1, Some 9) ∷ []) [] a_class_that_is_not_there-accepted a_class_that_is_not_there-means refl refl refl refl

-- an object that is no class
-- JNIEXPORT void JNICALL Java_A_f(JNIEnv *env, jclass cls, jobject o) {
-- jobject x = (*env)->AllocObject(env, o);
-- return;
-- }
abbrev pub an_object_that_is_no_class : SourceUnit
an_object_that_is_no_class =
    unit_of
    (native 1 Void (codes "Java_A_f") (reference_parameter JObject (codes "o") ∷ [])
    (Plain 2 (Declare (Simple (ReferenceVariable JObject)) (codes "x") (FromCall (call (codes "AllocObject") (given (codes "o") ∷ []))))
    ∷ Return 3 None
    ∷ [])
    4
    ∷ [])

abbrev an_object_that_is_no_class-lines : Lines
an_object_that_is_no_class-lines =
    (2, ClassLine (codes "A") None)
    ∷ (3, ObjectLine (codes "o") (codes "A") [])
    ∷ (4, ThreadLine (codes "Java_A_f") (NamedObject (codes "o") ∷ []))
    ∷ []

abbrev an_object_that_is_no_class-world : World
an_object_that_is_no_class-world = world_of 1 512 an_object_that_is_no_class-lines

an_object_that_is_no_class-means : IsWorldText (codes "heap 512\nclass A\nobject @o A\nthread Java_A_f @o\n") an_object_that_is_no_class-world
unfolding opened
an_object_that_is_no_class-means = world-text (codes "heap 512\nclass A\nobject @o A\nthread Java_A_f @o\n") 512 false an_object_that_is_no_class-lines 1 refl refl refl refl refl

an_object_that_is_no_class-accepted : IsAccepted an_object_that_is_no_class
unfolding opened
an_object_that_is_no_class-accepted = accepted an_object_that_is_no_class refl refl refl

an_object_that_is_no_class-run : IsWorkedRun an_object_that_is_no_class (codes "heap 512\nclass A\nobject @o A\nthread Java_A_f @o\n") (codes "1*3\n")
    (codes "T1 trap 6 line 2\n#46 A\njournal 1 1\n")
unfolding opened
an_object_that_is_no_class-run = worked-run an_object_that_is_no_class an_object_that_is_no_class-world ((Turn 1, Some 3) ∷ []) [] an_object_that_is_no_class-accepted an_object_that_is_no_class-means refl refl refl refl

-- an object of an array class
-- JNIEXPORT void JNICALL Java_A_f(JNIEnv *env, jclass cls) {
-- jclass c = (*env)->FindClass(env, "[I");
-- jobject x = (*env)->AllocObject(env, c);
-- return;
-- }
abbrev pub an_object_of_an_array_class : SourceUnit
an_object_of_an_array_class =
    unit_of
    (native 1 Void (codes "Java_A_f") []
    (Plain 2 (Declare (Simple (ReferenceVariable JClass)) (codes "c") (FromCall (call (codes "FindClass") (Text (codes "[I") ∷ []))))
    ∷ Plain 3 (Declare (Simple (ReferenceVariable JObject)) (codes "x") (FromCall (call (codes "AllocObject") (given (codes "c") ∷ []))))
    ∷ Return 4 None
    ∷ [])
    5
    ∷ [])

an_object_of_an_array_class-accepted : IsAccepted an_object_of_an_array_class
unfolding opened
an_object_of_an_array_class-accepted = accepted an_object_of_an_array_class refl refl refl

an_object_of_an_array_class-run : IsWorkedRun an_object_of_an_array_class (codes "heap 512\nclass A\nthread Java_A_f\n") (codes "1*4\n")
    (codes "T1 trap 6 line 3\njournal 1 1 1\n")
unfolding opened
an_object_of_an_array_class-run = worked-run an_object_of_an_array_class a_class_that_is_not_there-world ((Turn 1, Some 4) ∷ []) [] an_object_of_an_array_class-accepted a_class_that_is_not_there-means refl refl refl refl

-- a string is not made so
-- JNIEXPORT void JNICALL Java_A_f(JNIEnv *env, jclass cls) {
-- jclass c = (*env)->FindClass(env, "java/lang/String");
-- jobject x = (*env)->AllocObject(env, c);
-- return;
-- }
abbrev pub a_string_is_not_made_so : SourceUnit
a_string_is_not_made_so =
    unit_of
    (native 1 Void (codes "Java_A_f") []
    (Plain 2 (Declare (Simple (ReferenceVariable JClass)) (codes "c") (FromCall (call (codes "FindClass") (Text (codes "java/lang/String") ∷ []))))
    ∷ Plain 3 (Declare (Simple (ReferenceVariable JObject)) (codes "x") (FromCall (call (codes "AllocObject") (given (codes "c") ∷ []))))
    ∷ Return 4 None
    ∷ [])
    5
    ∷ [])

a_string_is_not_made_so-accepted : IsAccepted a_string_is_not_made_so
unfolding opened
a_string_is_not_made_so-accepted = accepted a_string_is_not_made_so refl refl refl

a_string_is_not_made_so-run : IsWorkedRun a_string_is_not_made_so (codes "heap 512\nclass A\nthread Java_A_f\n") (codes "1*4\n")
    (codes "T1 trap 6 line 3\njournal 1 1 1\n")
unfolding opened
a_string_is_not_made_so-run = worked-run a_string_is_not_made_so a_class_that_is_not_there-world ((Turn 1, Some 4) ∷ []) [] a_string_is_not_made_so-accepted a_class_that_is_not_there-means refl refl refl refl

-- an error is made without its message
-- JNIEXPORT void JNICALL Java_A_f(JNIEnv *env, jclass cls) {
-- jclass c = (*env)->FindClass(env, "java/lang/VirtualMachineError");
-- jobject x = (*env)->AllocObject(env, c);
-- return;
-- }
abbrev pub an_error_is_made_without_its_message : SourceUnit
an_error_is_made_without_its_message =
    unit_of
    (native 1 Void (codes "Java_A_f") []
    (Plain 2 (Declare (Simple (ReferenceVariable JClass)) (codes "c") (FromCall (call (codes "FindClass") (Text (codes "java/lang/VirtualMachineError") ∷ []))))
    ∷ Plain 3 (Declare (Simple (ReferenceVariable JObject)) (codes "x") (FromCall (call (codes "AllocObject") (given (codes "c") ∷ []))))
    ∷ Return 4 None
    ∷ [])
    5
    ∷ [])

an_error_is_made_without_its_message-accepted : IsAccepted an_error_is_made_without_its_message
unfolding opened
an_error_is_made_without_its_message-accepted = accepted an_error_is_made_without_its_message refl refl refl

an_error_is_made_without_its_message-run : IsWorkedRun an_error_is_made_without_its_message (codes "heap 512\nclass A\nthread Java_A_f\n") (codes "1*5\n")
    (codes "T1 ended\njournal 1 1 1 1\n")
unfolding opened
an_error_is_made_without_its_message-run = worked-run an_error_is_made_without_its_message a_class_that_is_not_there-world ((Turn 1, Some 5) ∷ []) [] an_error_is_made_without_its_message-accepted a_class_that_is_not_there-means refl refl refl refl
