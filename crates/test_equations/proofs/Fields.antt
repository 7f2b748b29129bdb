-- The cases of texts/fields.cases, as gate/worked_equations writes them.
use Rattle.std.specs.Prelude.{◌∷◌, pos, true, false, [], Some, None, codes, refl}
use Rattle.syntax.specs.declared.declared_type.ReferenceType.TheVariants.{Object as JObject, Class as JClass}
use Rattle.syntax.specs.declared.declared_type.VariableType.TheVariants.{Jint as JIntVariable, Jboolean as JBoolean, JfieldId as JFieldId, Reference as ReferenceVariable}
use Rattle.syntax.specs.declared.declared_type.DeclaredType.TheVariants.{Simple}
use Rattle.syntax.specs.declared.unit.ResultType.TheVariants.{Void}
use Rattle.syntax.specs.declared.expr.Constant.TheVariants.{Null}
use Rattle.syntax.specs.declared.expr.PrefixOp.TheVariants.{Complement, ToInt}
use Rattle.syntax.specs.declared.expr.BinaryOp.TheVariants.{Equal}
use Rattle.syntax.specs.Tree.{Number, Named, Variable, Prefix, Binary, Value, Text, FromExpr, FromCall, TestExpr, Declare, Perform, PutJint, Plain, If, NoElse, Return, SourceUnit}
use Rattle.semantics.specs.declared.schedule.ScheduleWord.TheVariants.{Turn}
use Rattle.semantics.specs.World.{World}
use Rattle.world_values.specs.WorldLines.{NumberValue, NullValue, NamedObject, NamedClass, ClassLine, FieldLine, StaticLine, ObjectLine, ThreadLine, Lines}
use Rattle.world_values.specs.WorldMeaning.{world_of}
use Rattle.world_values.specs.WorldRules.{IsWorldText}
use Rattle.test_equations.specs.Claims.{IsAccepted, IsWorkedRun}
use Rattle.test_equations.proofs.Programs.{unit_of, native, block, reference_parameter, call, given}
use Rattle.test_equations.proofs.Computed.{opened, accepted, world-text, worked-run}

-- fields of each number type
-- JNIEXPORT void JNICALL Java_A_f(JNIEnv *env, jclass cls, jobject o) {
-- jfieldID i = (*env)->GetFieldID(env, cls, "i", "I");
-- jfieldID s = (*env)->GetFieldID(env, cls, "s", "S");
-- jfieldID b = (*env)->GetFieldID(env, cls, "b", "B");
-- jfieldID c = (*env)->GetFieldID(env, cls, "c", "C");
-- (*env)->SetIntField(env, o, i, (jint)4294967295u);
-- (*env)->SetShortField(env, o, s, 70000);
-- (*env)->SetByteField(env, o, b, 200);
-- (*env)->SetCharField(env, o, c, (jint)~0u);
-- jint vi = (*env)->GetIntField(env, o, i);
-- jint vs = (*env)->GetShortField(env, o, s);
-- jint vb = (*env)->GetByteField(env, o, b);
-- jint vc = (*env)->GetCharField(env, o, c);
-- put_jint(vi);
-- put_jint(vs);
-- put_jint(vb);
-- put_jint(vc);
-- return;
-- }
abbrev pub fields_of_each_number_type : SourceUnit
fields_of_each_number_type =
    unit_of
    (native 1 Void (codes "Java_A_f") (reference_parameter JObject (codes "o") ∷ [])
    (Plain 2 (Declare (Simple JFieldId) (codes "i") (FromCall (call (codes "GetFieldID") (given (codes "cls") ∷ Text (codes "i") ∷ Text (codes "I") ∷ []))))
    ∷ Plain 3 (Declare (Simple JFieldId) (codes "s") (FromCall (call (codes "GetFieldID") (given (codes "cls") ∷ Text (codes "s") ∷ Text (codes "S") ∷ []))))
    ∷ Plain 4 (Declare (Simple JFieldId) (codes "b") (FromCall (call (codes "GetFieldID") (given (codes "cls") ∷ Text (codes "b") ∷ Text (codes "B") ∷ []))))
    ∷ Plain 5 (Declare (Simple JFieldId) (codes "c") (FromCall (call (codes "GetFieldID") (given (codes "cls") ∷ Text (codes "c") ∷ Text (codes "C") ∷ []))))
    ∷ Plain 6 (Perform (call (codes "SetIntField") (given (codes "o") ∷ given (codes "i") ∷ Value (Prefix ToInt (Number 4294967295 true)) ∷ [])))
    ∷ Plain 7 (Perform (call (codes "SetShortField") (given (codes "o") ∷ given (codes "s") ∷ Value (Number 70000 false) ∷ [])))
    ∷ Plain 8 (Perform (call (codes "SetByteField") (given (codes "o") ∷ given (codes "b") ∷ Value (Number 200 false) ∷ [])))
    ∷ Plain 9 (Perform (call (codes "SetCharField") (given (codes "o") ∷ given (codes "c") ∷ Value (Prefix ToInt (Prefix Complement (Number 0 true))) ∷ [])))
    ∷ Plain 10 (Declare (Simple JIntVariable) (codes "vi") (FromCall (call (codes "GetIntField") (given (codes "o") ∷ given (codes "i") ∷ []))))
    ∷ Plain 11 (Declare (Simple JIntVariable) (codes "vs") (FromCall (call (codes "GetShortField") (given (codes "o") ∷ given (codes "s") ∷ []))))
    ∷ Plain 12 (Declare (Simple JIntVariable) (codes "vb") (FromCall (call (codes "GetByteField") (given (codes "o") ∷ given (codes "b") ∷ []))))
    ∷ Plain 13 (Declare (Simple JIntVariable) (codes "vc") (FromCall (call (codes "GetCharField") (given (codes "o") ∷ given (codes "c") ∷ []))))
    ∷ Plain 14 (PutJint (Variable (codes "vi")))
    ∷ Plain 15 (PutJint (Variable (codes "vs")))
    ∷ Plain 16 (PutJint (Variable (codes "vb")))
    ∷ Plain 17 (PutJint (Variable (codes "vc")))
    ∷ Return 18 None
    ∷ [])
    19
    ∷ [])

abbrev fields_of_each_number_type-lines : Lines
fields_of_each_number_type-lines =
    (2, ClassLine (codes "A") None)
    ∷ (3, FieldLine (codes "A") (codes "i") (codes "I"))
    ∷ (4, FieldLine (codes "A") (codes "s") (codes "S"))
    ∷ (5, FieldLine (codes "A") (codes "b") (codes "B"))
    ∷ (6, FieldLine (codes "A") (codes "c") (codes "C"))
    ∷ (7, ObjectLine (codes "o") (codes "A") (NumberValue (pos 1) ∷ NumberValue (pos 2) ∷ NumberValue (pos 3) ∷ NumberValue (pos 4) ∷ []))
    ∷ (8, ThreadLine (codes "Java_A_f") (NamedObject (codes "o") ∷ []))
    ∷ []

abbrev fields_of_each_number_type-world : World
fields_of_each_number_type-world = world_of 1 512 fields_of_each_number_type-lines

fields_of_each_number_type-means : IsWorldText (codes "heap 512\nclass A\nfield A i I\nfield A s S\nfield A b B\nfield A c C\nobject @o A 1 2 3 4\nthread Java_A_f @o\n") fields_of_each_number_type-world
unfolding opened
fields_of_each_number_type-means = world-text (codes "heap 512\nclass A\nfield A i I\nfield A s S\nfield A b B\nfield A c C\nobject @o A 1 2 3 4\nthread Java_A_f @o\n") 512 false fields_of_each_number_type-lines 1 refl refl refl refl refl

fields_of_each_number_type-accepted : IsAccepted fields_of_each_number_type
unfolding opened
fields_of_each_number_type-accepted = accepted fields_of_each_number_type refl refl refl

fields_of_each_number_type-run : IsWorkedRun fields_of_each_number_type (codes "heap 512\nclass A\nfield A i I\nfield A s S\nfield A b B\nfield A c C\nobject @o A 1 2 3 4\nthread Java_A_f @o\n") (codes "1*30\n")
    (codes "T1 -1\nT1 4464\nT1 -56\nT1 65535\nT1 ended\n#46 A -1 4464 -56 65535\njournal 1 1 1 1 1 1 1 1 1 1 1 1 1 1 1 1 1 1 1 1 1 1 1 1 1 1 1 1 1\n")
unfolding opened
fields_of_each_number_type-run = worked-run fields_of_each_number_type fields_of_each_number_type-world ((Turn 1, Some 30) ∷ []) [] fields_of_each_number_type-accepted fields_of_each_number_type-means refl refl refl refl

-- static fields of each number type
-- JNIEXPORT void JNICALL Java_A_f(JNIEnv *env, jclass cls) {
-- jfieldID i = (*env)->GetStaticFieldID(env, cls, "i", "I");
-- jfieldID s = (*env)->GetStaticFieldID(env, cls, "s", "S");
-- jfieldID b = (*env)->GetStaticFieldID(env, cls, "b", "B");
-- jfieldID c = (*env)->GetStaticFieldID(env, cls, "c", "C");
-- (*env)->SetStaticIntField(env, cls, i, 7);
-- (*env)->SetStaticShortField(env, cls, s, 32768);
-- (*env)->SetStaticByteField(env, cls, b, 128);
-- (*env)->SetStaticCharField(env, cls, c, 65536);
-- jint vi = (*env)->GetStaticIntField(env, cls, i);
-- jint vs = (*env)->GetStaticShortField(env, cls, s);
-- jint vb = (*env)->GetStaticByteField(env, cls, b);
-- jint vc = (*env)->GetStaticCharField(env, cls, c);
-- put_jint(vi);
-- put_jint(vs);
-- put_jint(vb);
-- put_jint(vc);
-- return;
-- }
abbrev pub static_fields_of_each_number_type : SourceUnit
static_fields_of_each_number_type =
    unit_of
    (native 1 Void (codes "Java_A_f") []
    (Plain 2 (Declare (Simple JFieldId) (codes "i") (FromCall (call (codes "GetStaticFieldID") (given (codes "cls") ∷ Text (codes "i") ∷ Text (codes "I") ∷ []))))
    ∷ Plain 3 (Declare (Simple JFieldId) (codes "s") (FromCall (call (codes "GetStaticFieldID") (given (codes "cls") ∷ Text (codes "s") ∷ Text (codes "S") ∷ []))))
    ∷ Plain 4 (Declare (Simple JFieldId) (codes "b") (FromCall (call (codes "GetStaticFieldID") (given (codes "cls") ∷ Text (codes "b") ∷ Text (codes "B") ∷ []))))
    ∷ Plain 5 (Declare (Simple JFieldId) (codes "c") (FromCall (call (codes "GetStaticFieldID") (given (codes "cls") ∷ Text (codes "c") ∷ Text (codes "C") ∷ []))))
    ∷ Plain 6 (Perform (call (codes "SetStaticIntField") (given (codes "cls") ∷ given (codes "i") ∷ Value (Number 7 false) ∷ [])))
    ∷ Plain 7 (Perform (call (codes "SetStaticShortField") (given (codes "cls") ∷ given (codes "s") ∷ Value (Number 32768 false) ∷ [])))
    ∷ Plain 8 (Perform (call (codes "SetStaticByteField") (given (codes "cls") ∷ given (codes "b") ∷ Value (Number 128 false) ∷ [])))
    ∷ Plain 9 (Perform (call (codes "SetStaticCharField") (given (codes "cls") ∷ given (codes "c") ∷ Value (Number 65536 false) ∷ [])))
    ∷ Plain 10 (Declare (Simple JIntVariable) (codes "vi") (FromCall (call (codes "GetStaticIntField") (given (codes "cls") ∷ given (codes "i") ∷ []))))
    ∷ Plain 11 (Declare (Simple JIntVariable) (codes "vs") (FromCall (call (codes "GetStaticShortField") (given (codes "cls") ∷ given (codes "s") ∷ []))))
    ∷ Plain 12 (Declare (Simple JIntVariable) (codes "vb") (FromCall (call (codes "GetStaticByteField") (given (codes "cls") ∷ given (codes "b") ∷ []))))
    ∷ Plain 13 (Declare (Simple JIntVariable) (codes "vc") (FromCall (call (codes "GetStaticCharField") (given (codes "cls") ∷ given (codes "c") ∷ []))))
    ∷ Plain 14 (PutJint (Variable (codes "vi")))
    ∷ Plain 15 (PutJint (Variable (codes "vs")))
    ∷ Plain 16 (PutJint (Variable (codes "vb")))
    ∷ Plain 17 (PutJint (Variable (codes "vc")))
    ∷ Return 18 None
    ∷ [])
    19
    ∷ [])

abbrev static_fields_of_each_number_type-lines : Lines
static_fields_of_each_number_type-lines =
    (2, ClassLine (codes "A") None)
    ∷ (3, StaticLine (codes "A") (codes "i") (codes "I"))
    ∷ (4, StaticLine (codes "A") (codes "s") (codes "S"))
    ∷ (5, StaticLine (codes "A") (codes "b") (codes "B"))
    ∷ (6, StaticLine (codes "A") (codes "c") (codes "C"))
    ∷ (7, ThreadLine (codes "Java_A_f") [])
    ∷ []

abbrev static_fields_of_each_number_type-world : World
static_fields_of_each_number_type-world = world_of 1 512 static_fields_of_each_number_type-lines

static_fields_of_each_number_type-means : IsWorldText (codes "heap 512\nclass A\nstatic A i I\nstatic A s S\nstatic A b B\nstatic A c C\nthread Java_A_f\n") static_fields_of_each_number_type-world
unfolding opened
static_fields_of_each_number_type-means = world-text (codes "heap 512\nclass A\nstatic A i I\nstatic A s S\nstatic A b B\nstatic A c C\nthread Java_A_f\n") 512 false static_fields_of_each_number_type-lines 1 refl refl refl refl refl

static_fields_of_each_number_type-accepted : IsAccepted static_fields_of_each_number_type
unfolding opened
static_fields_of_each_number_type-accepted = accepted static_fields_of_each_number_type refl refl refl

static_fields_of_each_number_type-run : IsWorkedRun static_fields_of_each_number_type (codes "heap 512\nclass A\nstatic A i I\nstatic A s S\nstatic A b B\nstatic A c C\nthread Java_A_f\n") (codes "1*27\n")
    (codes "T1 7\nT1 -32768\nT1 -128\nT1 0\nT1 ended\njournal 1 1 1 1 1 1 1 1 1 1 1 1 1 1 1 1 1 1 1 1 1 1 1 1 1 1\n")
unfolding opened
static_fields_of_each_number_type-run = worked-run static_fields_of_each_number_type static_fields_of_each_number_type-world ((Turn 1, Some 27) ∷ []) [] static_fields_of_each_number_type-accepted static_fields_of_each_number_type-means refl refl refl refl

-- fields of references
-- JNIEXPORT void JNICALL Java_A_f(JNIEnv *env, jclass cls, jobject o) {
-- jfieldID n = (*env)->GetFieldID(env, cls, "next", "LA;");
-- jfieldID l = (*env)->GetStaticFieldID(env, cls, "last", "LA;");
-- jobject x = (*env)->AllocObject(env, cls);
-- (*env)->SetObjectField(env, o, n, x);
-- (*env)->SetStaticObjectField(env, cls, l, o);
-- jobject y = (*env)->GetStaticObjectField(env, cls, l);
-- jobject z = (*env)->GetObjectField(env, y, n);
-- jboolean same = (*env)->IsSameObject(env, x, z);
-- put_jint((jint)same);
-- (*env)->SetObjectField(env, x, n, NULL);
-- jobject w = (*env)->GetObjectField(env, x, n);
-- if (w == NULL) { put_jint(5); }
-- return;
-- }
abbrev pub fields_of_references : SourceUnit
fields_of_references =
    unit_of
    (native 1 Void (codes "Java_A_f") (reference_parameter JObject (codes "o") ∷ [])
    (Plain 2 (Declare (Simple JFieldId) (codes "n") (FromCall (call (codes "GetFieldID") (given (codes "cls") ∷ Text (codes "next") ∷ Text (codes "LA;") ∷ []))))
    ∷ Plain 3 (Declare (Simple JFieldId) (codes "l") (FromCall (call (codes "GetStaticFieldID") (given (codes "cls") ∷ Text (codes "last") ∷ Text (codes "LA;") ∷ []))))
    ∷ Plain 4 (Declare (Simple (ReferenceVariable JObject)) (codes "x") (FromCall (call (codes "AllocObject") (given (codes "cls") ∷ []))))
    ∷ Plain 5 (Perform (call (codes "SetObjectField") (given (codes "o") ∷ given (codes "n") ∷ given (codes "x") ∷ [])))
    ∷ Plain 6 (Perform (call (codes "SetStaticObjectField") (given (codes "cls") ∷ given (codes "l") ∷ given (codes "o") ∷ [])))
    ∷ Plain 7 (Declare (Simple (ReferenceVariable JObject)) (codes "y") (FromCall (call (codes "GetStaticObjectField") (given (codes "cls") ∷ given (codes "l") ∷ []))))
    ∷ Plain 8 (Declare (Simple (ReferenceVariable JObject)) (codes "z") (FromCall (call (codes "GetObjectField") (given (codes "y") ∷ given (codes "n") ∷ []))))
    ∷ Plain 9 (Declare (Simple JBoolean) (codes "same") (FromCall (call (codes "IsSameObject") (given (codes "x") ∷ given (codes "z") ∷ []))))
    ∷ Plain 10 (PutJint (Prefix ToInt (Variable (codes "same"))))
    ∷ Plain 11 (Perform (call (codes "SetObjectField") (given (codes "x") ∷ given (codes "n") ∷ Value (Named Null) ∷ [])))
    ∷ Plain 12 (Declare (Simple (ReferenceVariable JObject)) (codes "w") (FromCall (call (codes "GetObjectField") (given (codes "x") ∷ given (codes "n") ∷ []))))
    ∷ If 13 (TestExpr (Binary Equal (Variable (codes "w")) (Named Null)))
    (block
    (Plain 13 (PutJint (Number 5 false))
    ∷ [])
    13)
    NoElse
    ∷ Return 14 None
    ∷ [])
    15
    ∷ [])

abbrev fields_of_references-lines : Lines
fields_of_references-lines =
    (2, ClassLine (codes "A") None)
    ∷ (3, FieldLine (codes "A") (codes "next") (codes "LA;"))
    ∷ (4, StaticLine (codes "A") (codes "last") (codes "LA;"))
    ∷ (5, ObjectLine (codes "o") (codes "A") (NullValue ∷ []))
    ∷ (6, ThreadLine (codes "Java_A_f") (NamedObject (codes "o") ∷ []))
    ∷ []

abbrev fields_of_references-world : World
fields_of_references-world = world_of 1 512 fields_of_references-lines

fields_of_references-means : IsWorldText (codes "heap 512\nclass A\nfield A next LA;\nstatic A last LA;\nobject @o A null\nthread Java_A_f @o\n") fields_of_references-world
unfolding opened
fields_of_references-means = world-text (codes "heap 512\nclass A\nfield A next LA;\nstatic A last LA;\nobject @o A null\nthread Java_A_f @o\n") 512 false fields_of_references-lines 1 refl refl refl refl refl

fields_of_references-accepted : IsAccepted fields_of_references
unfolding opened
fields_of_references-accepted = accepted fields_of_references refl refl refl

fields_of_references-run : IsWorkedRun fields_of_references (codes "heap 512\nclass A\nfield A next LA;\nstatic A last LA;\nobject @o A null\nthread Java_A_f @o\n") (codes "1*21\n")
    (codes "T1 1\nT1 5\nT1 ended\n#46 A #47\n#47 A null\njournal 1 1 1 1 1 1 1 1 1 1 1 1 1 1 1 1 1 1 1 1\n")
unfolding opened
fields_of_references-run = worked-run fields_of_references fields_of_references-world ((Turn 1, Some 21) ∷ []) [] fields_of_references-accepted fields_of_references-means refl refl refl refl

-- a field of the superclass under one of the same name
-- JNIEXPORT void JNICALL Java_A_f(JNIEnv *env, jclass cls, jobject o) {
-- jclass b = (*env)->GetObjectClass(env, o);
-- jfieldID own = (*env)->GetFieldID(env, b, "n", "I");
-- jfieldID above = (*env)->GetFieldID(env, cls, "n", "I");
-- jfieldID other = (*env)->GetFieldID(env, b, "m", "S");
-- (*env)->SetIntField(env, o, own, 5);
-- (*env)->SetIntField(env, o, above, 6);
-- (*env)->SetShortField(env, o, other, 7);
-- return;
-- }
abbrev pub a_field_of_the_superclass_under_one_of_the_same_name : SourceUnit
a_field_of_the_superclass_under_one_of_the_same_name =
    unit_of
    (native 1 Void (codes "Java_A_f") (reference_parameter JObject (codes "o") ∷ [])
    (Plain 2 (Declare (Simple (ReferenceVariable JClass)) (codes "b") (FromCall (call (codes "GetObjectClass") (given (codes "o") ∷ []))))
    ∷ Plain 3 (Declare (Simple JFieldId) (codes "own") (FromCall (call (codes "GetFieldID") (given (codes "b") ∷ Text (codes "n") ∷ Text (codes "I") ∷ []))))
    ∷ Plain 4 (Declare (Simple JFieldId) (codes "above") (FromCall (call (codes "GetFieldID") (given (codes "cls") ∷ Text (codes "n") ∷ Text (codes "I") ∷ []))))
    ∷ Plain 5 (Declare (Simple JFieldId) (codes "other") (FromCall (call (codes "GetFieldID") (given (codes "b") ∷ Text (codes "m") ∷ Text (codes "S") ∷ []))))
    ∷ Plain 6 (Perform (call (codes "SetIntField") (given (codes "o") ∷ given (codes "own") ∷ Value (Number 5 false) ∷ [])))
    ∷ Plain 7 (Perform (call (codes "SetIntField") (given (codes "o") ∷ given (codes "above") ∷ Value (Number 6 false) ∷ [])))
    ∷ Plain 8 (Perform (call (codes "SetShortField") (given (codes "o") ∷ given (codes "other") ∷ Value (Number 7 false) ∷ [])))
    ∷ Return 9 None
    ∷ [])
    10
    ∷ [])

abbrev a_field_of_the_superclass_under_one_of_the_same_name-lines : Lines
a_field_of_the_superclass_under_one_of_the_same_name-lines =
    (2, ClassLine (codes "A") None)
    ∷ (3, FieldLine (codes "A") (codes "n") (codes "I"))
    ∷ (4, FieldLine (codes "A") (codes "m") (codes "S"))
    ∷ (5, ClassLine (codes "B") (Some (codes "A")))
    ∷ (6, FieldLine (codes "B") (codes "n") (codes "I"))
    ∷ (7, ObjectLine (codes "o") (codes "B") (NumberValue (pos 1) ∷ NumberValue (pos 2) ∷ NumberValue (pos 3) ∷ []))
    ∷ (8, ThreadLine (codes "Java_A_f") (NamedObject (codes "o") ∷ []))
    ∷ []

abbrev a_field_of_the_superclass_under_one_of_the_same_name-world : World
a_field_of_the_superclass_under_one_of_the_same_name-world = world_of 1 512 a_field_of_the_superclass_under_one_of_the_same_name-lines

a_field_of_the_superclass_under_one_of_the_same_name-means : IsWorldText (codes "heap 512\nclass A\nfield A n I\nfield A m S\nclass B extends A\nfield B n I\nobject @o B 1 2 3\nthread Java_A_f @o\n") a_field_of_the_superclass_under_one_of_the_same_name-world
unfolding opened
a_field_of_the_superclass_under_one_of_the_same_name-means = world-text (codes "heap 512\nclass A\nfield A n I\nfield A m S\nclass B extends A\nfield B n I\nobject @o B 1 2 3\nthread Java_A_f @o\n") 512 false a_field_of_the_superclass_under_one_of_the_same_name-lines 1 refl refl refl refl refl

a_field_of_the_superclass_under_one_of_the_same_name-accepted : IsAccepted a_field_of_the_superclass_under_one_of_the_same_name
unfolding opened
a_field_of_the_superclass_under_one_of_the_same_name-accepted = accepted a_field_of_the_superclass_under_one_of_the_same_name refl refl refl

a_field_of_the_superclass_under_one_of_the_same_name-run : IsWorkedRun a_field_of_the_superclass_under_one_of_the_same_name (codes "heap 512\nclass A\nfield A n I\nfield A m S\nclass B extends A\nfield B n I\nobject @o B 1 2 3\nthread Java_A_f @o\n") (codes "1*13\n")
    (codes "T1 ended\n#48 B 6 7 5\njournal 1 1 1 1 1 1 1 1 1 1 1 1\n")
unfolding opened
a_field_of_the_superclass_under_one_of_the_same_name-run = worked-run a_field_of_the_superclass_under_one_of_the_same_name a_field_of_the_superclass_under_one_of_the_same_name-world ((Turn 1, Some 13) ∷ []) [] a_field_of_the_superclass_under_one_of_the_same_name-accepted a_field_of_the_superclass_under_one_of_the_same_name-means refl refl refl refl

-- a static of the superclass
-- JNIEXPORT void JNICALL Java_A_f(JNIEnv *env, jclass cls, jclass b) {
-- jfieldID s = (*env)->GetStaticFieldID(env, b, "s", "I");
-- (*env)->SetStaticIntField(env, b, s, 4);
-- jint v = (*env)->GetStaticIntField(env, cls, s);
-- put_jint(v);
-- return;
-- }
abbrev pub a_static_of_the_superclass : SourceUnit
a_static_of_the_superclass =
    unit_of
    (native 1 Void (codes "Java_A_f") (reference_parameter JClass (codes "b") ∷ [])
    (Plain 2 (Declare (Simple JFieldId) (codes "s") (FromCall (call (codes "GetStaticFieldID") (given (codes "b") ∷ Text (codes "s") ∷ Text (codes "I") ∷ []))))
    ∷ Plain 3 (Perform (call (codes "SetStaticIntField") (given (codes "b") ∷ given (codes "s") ∷ Value (Number 4 false) ∷ [])))
    ∷ Plain 4 (Declare (Simple JIntVariable) (codes "v") (FromCall (call (codes "GetStaticIntField") (given (codes "cls") ∷ given (codes "s") ∷ []))))
    ∷ Plain 5 (PutJint (Variable (codes "v")))
    ∷ Return 6 None
    ∷ [])
    7
    ∷ [])

abbrev a_static_of_the_superclass-lines : Lines
a_static_of_the_superclass-lines =
    (2, ClassLine (codes "A") None)
    ∷ (3, StaticLine (codes "A") (codes "s") (codes "I"))
    ∷ (4, ClassLine (codes "B") (Some (codes "A")))
    ∷ (5, ThreadLine (codes "Java_A_f") (NamedClass (codes "B") ∷ []))
    ∷ []

abbrev a_static_of_the_superclass-world : World
a_static_of_the_superclass-world = world_of 1 512 a_static_of_the_superclass-lines

a_static_of_the_superclass-means : IsWorldText (codes "heap 512\nclass A\nstatic A s I\nclass B extends A\nthread Java_A_f class:B\n") a_static_of_the_superclass-world
unfolding opened
a_static_of_the_superclass-means = world-text (codes "heap 512\nclass A\nstatic A s I\nclass B extends A\nthread Java_A_f class:B\n") 512 false a_static_of_the_superclass-lines 1 refl refl refl refl refl

a_static_of_the_superclass-accepted : IsAccepted a_static_of_the_superclass
unfolding opened
a_static_of_the_superclass-accepted = accepted a_static_of_the_superclass refl refl refl

a_static_of_the_superclass-run : IsWorkedRun a_static_of_the_superclass (codes "heap 512\nclass A\nstatic A s I\nclass B extends A\nthread Java_A_f class:B\n") (codes "1*9\n")
    (codes "T1 4\nT1 ended\njournal 1 1 1 1 1 1 1 1\n")
unfolding opened
a_static_of_the_superclass-run = worked-run a_static_of_the_superclass a_static_of_the_superclass-world ((Turn 1, Some 9) ∷ []) [] a_static_of_the_superclass-accepted a_static_of_the_superclass-means refl refl refl refl

-- a field of another signature is not found
-- JNIEXPORT void JNICALL Java_A_f(JNIEnv *env, jclass cls) {
-- jfieldID i = (*env)->GetFieldID(env, cls, "n", "S");
-- jboolean thrown = (*env)->ExceptionCheck(env);
-- put_jint((jint)thrown);
-- if (i == NULL) { put_jint(3); }
-- return;
-- }
abbrev pub a_field_of_another_signature_is_not_found : SourceUnit
a_field_of_another_signature_is_not_found =
    unit_of
    (native 1 Void (codes "Java_A_f") []
    (Plain 2 (Declare (Simple JFieldId) (codes "i") (FromCall (call (codes "GetFieldID") (given (codes "cls") ∷ Text (codes "n") ∷ Text (codes "S") ∷ []))))
    ∷ Plain 3 (Declare (Simple JBoolean) (codes "thrown") (FromCall (call (codes "ExceptionCheck") [])))
    ∷ Plain 4 (PutJint (Prefix ToInt (Variable (codes "thrown"))))
    ∷ If 5 (TestExpr (Binary Equal (Variable (codes "i")) (Named Null)))
    (block
    (Plain 5 (PutJint (Number 3 false))
    ∷ [])
    5)
    NoElse
    ∷ Return 6 None
    ∷ [])
    7
    ∷ [])

abbrev a_field_of_another_signature_is_not_found-lines : Lines
a_field_of_another_signature_is_not_found-lines =
    (2, ClassLine (codes "A") None)
    ∷ (3, FieldLine (codes "A") (codes "n") (codes "I"))
    ∷ (4, ThreadLine (codes "Java_A_f") [])
    ∷ []

abbrev a_field_of_another_signature_is_not_found-world : World
a_field_of_another_signature_is_not_found-world = world_of 1 512 a_field_of_another_signature_is_not_found-lines

a_field_of_another_signature_is_not_found-means : IsWorldText (codes "heap 512\nclass A\nfield A n I\nthread Java_A_f\n") a_field_of_another_signature_is_not_found-world
unfolding opened
a_field_of_another_signature_is_not_found-means = world-text (codes "heap 512\nclass A\nfield A n I\nthread Java_A_f\n") 512 false a_field_of_another_signature_is_not_found-lines 1 refl refl refl refl refl

a_field_of_another_signature_is_not_found-accepted : IsAccepted a_field_of_another_signature_is_not_found
unfolding opened
a_field_of_another_signature_is_not_found-accepted = accepted a_field_of_another_signature_is_not_found refl refl refl

a_field_of_another_signature_is_not_found-run : IsWorkedRun a_field_of_another_signature_is_not_found (codes "heap 512\nclass A\nfield A n I\nthread Java_A_f\n") (codes "1*13\n")
    (codes "T1 1\nT1 3\nT1 uncaught java/lang/NoSuchFieldError\njournal 1 1 1 1 1 1 1 1 1 1 1 1\n")
unfolding opened
a_field_of_another_signature_is_not_found-run = worked-run a_field_of_another_signature_is_not_found a_field_of_another_signature_is_not_found-world ((Turn 1, Some 13) ∷ []) [] a_field_of_another_signature_is_not_found-accepted a_field_of_another_signature_is_not_found-means refl refl refl refl

-- a field is not found as a static
-- JNIEXPORT void JNICALL Java_A_f(JNIEnv *env, jclass cls) {
-- jfieldID i = (*env)->GetStaticFieldID(env, cls, "n", "I");
-- return;
-- }
abbrev pub a_field_is_not_found_as_a_static : SourceUnit
a_field_is_not_found_as_a_static =
    unit_of
    (native 1 Void (codes "Java_A_f") []
    (Plain 2 (Declare (Simple JFieldId) (codes "i") (FromCall (call (codes "GetStaticFieldID") (given (codes "cls") ∷ Text (codes "n") ∷ Text (codes "I") ∷ []))))
    ∷ Return 3 None
    ∷ [])
    4
    ∷ [])

a_field_is_not_found_as_a_static-accepted : IsAccepted a_field_is_not_found_as_a_static
unfolding opened
a_field_is_not_found_as_a_static-accepted = accepted a_field_is_not_found_as_a_static refl refl refl

a_field_is_not_found_as_a_static-run : IsWorkedRun a_field_is_not_found_as_a_static (codes "heap 512\nclass A\nfield A n I\nthread Java_A_f\n") (codes "1*4\n")
    (codes "T1 uncaught java/lang/NoSuchFieldError\njournal 1 1 1\n")
unfolding opened
a_field_is_not_found_as_a_static-run = worked-run a_field_is_not_found_as_a_static a_field_of_another_signature_is_not_found-world ((Turn 1, Some 4) ∷ []) [] a_field_is_not_found_as_a_static-accepted a_field_of_another_signature_is_not_found-means refl refl refl refl

-- a field id of null
-- JNIEXPORT void JNICALL Java_A_f(JNIEnv *env, jclass cls, jobject o) {
-- jfieldID i = NULL;
-- jint v = (*env)->GetIntField(env, o, i);
-- return;
-- }
abbrev pub a_field_id_of_null : SourceUnit
a_field_id_of_null =
    unit_of
    (native 1 Void (codes "Java_A_f") (reference_parameter JObject (codes "o") ∷ [])
    (Plain 2 (Declare (Simple JFieldId) (codes "i") (FromExpr (Named Null)))
    ∷ Plain 3 (Declare (Simple JIntVariable) (codes "v") (FromCall (call (codes "GetIntField") (given (codes "o") ∷ given (codes "i") ∷ []))))
    ∷ Return 4 None
    ∷ [])
    5
    ∷ [])

abbrev a_field_id_of_null-lines : Lines
a_field_id_of_null-lines =
    (2, ClassLine (codes "A") None)
    ∷ (3, FieldLine (codes "A") (codes "n") (codes "I"))
    ∷ (4, ObjectLine (codes "o") (codes "A") (NumberValue (pos 1) ∷ []))
    ∷ (5, ThreadLine (codes "Java_A_f") (NamedObject (codes "o") ∷ []))
    ∷ []

abbrev a_field_id_of_null-world : World
a_field_id_of_null-world = world_of 1 512 a_field_id_of_null-lines

a_field_id_of_null-means : IsWorldText (codes "heap 512\nclass A\nfield A n I\nobject @o A 1\nthread Java_A_f @o\n") a_field_id_of_null-world
unfolding opened
a_field_id_of_null-means = world-text (codes "heap 512\nclass A\nfield A n I\nobject @o A 1\nthread Java_A_f @o\n") 512 false a_field_id_of_null-lines 1 refl refl refl refl refl

a_field_id_of_null-accepted : IsAccepted a_field_id_of_null
unfolding opened
a_field_id_of_null-accepted = accepted a_field_id_of_null refl refl refl

a_field_id_of_null-run : IsWorkedRun a_field_id_of_null (codes "heap 512\nclass A\nfield A n I\nobject @o A 1\nthread Java_A_f @o\n") (codes "1*4\n")
    (codes "T1 trap 4 line 3\n#46 A 1\njournal 1 1 1\n")
unfolding opened
a_field_id_of_null-run = worked-run a_field_id_of_null a_field_id_of_null-world ((Turn 1, Some 4) ∷ []) [] a_field_id_of_null-accepted a_field_id_of_null-means refl refl refl refl

-- NULL as a field id
-- JNIEXPORT void JNICALL Java_A_f(JNIEnv *env, jclass cls, jobject o) {
-- jint v = (*env)->GetIntField(env, o, NULL);
-- return;
-- }
abbrev pub null_as_a_field_id : SourceUnit
null_as_a_field_id =
    unit_of
    (native 1 Void (codes "Java_A_f") (reference_parameter JObject (codes "o") ∷ [])
    (Plain 2 (Declare (Simple JIntVariable) (codes "v") (FromCall (call (codes "GetIntField") (given (codes "o") ∷ Value (Named Null) ∷ []))))
    ∷ Return 3 None
    ∷ [])
    4
    ∷ [])

null_as_a_field_id-accepted : IsAccepted null_as_a_field_id
unfolding opened
null_as_a_field_id-accepted = accepted null_as_a_field_id refl refl refl

null_as_a_field_id-run : IsWorkedRun null_as_a_field_id (codes "heap 512\nclass A\nfield A n I\nobject @o A 1\nthread Java_A_f @o\n") (codes "1*4\n")
    (codes "T1 trap 4 line 2\n#46 A 1\njournal 1 1\n")
unfolding opened
null_as_a_field_id-run = worked-run null_as_a_field_id a_field_id_of_null-world ((Turn 1, Some 4) ∷ []) [] null_as_a_field_id-accepted a_field_id_of_null-means refl refl refl refl

-- a field of another type
-- JNIEXPORT void JNICALL Java_A_f(JNIEnv *env, jclass cls, jobject o) {
-- jfieldID i = (*env)->GetFieldID(env, cls, "n", "I");
-- jint v = (*env)->GetShortField(env, o, i);
-- return;
-- }
abbrev pub a_field_of_another_type : SourceUnit
a_field_of_another_type =
    unit_of
    (native 1 Void (codes "Java_A_f") (reference_parameter JObject (codes "o") ∷ [])
    (Plain 2 (Declare (Simple JFieldId) (codes "i") (FromCall (call (codes "GetFieldID") (given (codes "cls") ∷ Text (codes "n") ∷ Text (codes "I") ∷ []))))
    ∷ Plain 3 (Declare (Simple JIntVariable) (codes "v") (FromCall (call (codes "GetShortField") (given (codes "o") ∷ given (codes "i") ∷ []))))
    ∷ Return 4 None
    ∷ [])
    5
    ∷ [])

a_field_of_another_type-accepted : IsAccepted a_field_of_another_type
unfolding opened
a_field_of_another_type-accepted = accepted a_field_of_another_type refl refl refl

a_field_of_another_type-run : IsWorkedRun a_field_of_another_type (codes "heap 512\nclass A\nfield A n I\nobject @o A 1\nthread Java_A_f @o\n") (codes "1*4\n")
    (codes "T1 trap 6 line 3\n#46 A 1\njournal 1 1 1\n")
unfolding opened
a_field_of_another_type-run = worked-run a_field_of_another_type a_field_id_of_null-world ((Turn 1, Some 4) ∷ []) [] a_field_of_another_type-accepted a_field_id_of_null-means refl refl refl refl

-- a static id for a field
-- JNIEXPORT void JNICALL Java_A_f(JNIEnv *env, jclass cls, jobject o) {
-- jfieldID i = (*env)->GetStaticFieldID(env, cls, "n", "I");
-- (*env)->SetIntField(env, o, i, 1);
-- return;
-- }
abbrev pub a_static_id_for_a_field : SourceUnit
a_static_id_for_a_field =
    unit_of
    (native 1 Void (codes "Java_A_f") (reference_parameter JObject (codes "o") ∷ [])
    (Plain 2 (Declare (Simple JFieldId) (codes "i") (FromCall (call (codes "GetStaticFieldID") (given (codes "cls") ∷ Text (codes "n") ∷ Text (codes "I") ∷ []))))
    ∷ Plain 3 (Perform (call (codes "SetIntField") (given (codes "o") ∷ given (codes "i") ∷ Value (Number 1 false) ∷ [])))
    ∷ Return 4 None
    ∷ [])
    5
    ∷ [])

abbrev a_static_id_for_a_field-lines : Lines
a_static_id_for_a_field-lines =
    (2, ClassLine (codes "A") None)
    ∷ (3, StaticLine (codes "A") (codes "n") (codes "I"))
    ∷ (4, ObjectLine (codes "o") (codes "A") [])
    ∷ (5, ThreadLine (codes "Java_A_f") (NamedObject (codes "o") ∷ []))
    ∷ []

abbrev a_static_id_for_a_field-world : World
a_static_id_for_a_field-world = world_of 1 512 a_static_id_for_a_field-lines

a_static_id_for_a_field-means : IsWorldText (codes "heap 512\nclass A\nstatic A n I\nobject @o A\nthread Java_A_f @o\n") a_static_id_for_a_field-world
unfolding opened
a_static_id_for_a_field-means = world-text (codes "heap 512\nclass A\nstatic A n I\nobject @o A\nthread Java_A_f @o\n") 512 false a_static_id_for_a_field-lines 1 refl refl refl refl refl

a_static_id_for_a_field-accepted : IsAccepted a_static_id_for_a_field
unfolding opened
a_static_id_for_a_field-accepted = accepted a_static_id_for_a_field refl refl refl

a_static_id_for_a_field-run : IsWorkedRun a_static_id_for_a_field (codes "heap 512\nclass A\nstatic A n I\nobject @o A\nthread Java_A_f @o\n") (codes "1*5\n")
    (codes "T1 trap 6 line 3\n#46 A\njournal 1 1 1 1\n")
unfolding opened
a_static_id_for_a_field-run = worked-run a_static_id_for_a_field a_static_id_for_a_field-world ((Turn 1, Some 5) ∷ []) [] a_static_id_for_a_field-accepted a_static_id_for_a_field-means refl refl refl refl

-- an object that has not the field
-- JNIEXPORT void JNICALL Java_A_f(JNIEnv *env, jclass cls) {
-- jfieldID i = (*env)->GetFieldID(env, cls, "n", "I");
-- jint v = (*env)->GetIntField(env, cls, i);
-- return;
-- }
abbrev pub an_object_that_has_not_the_field : SourceUnit
an_object_that_has_not_the_field =
    unit_of
    (native 1 Void (codes "Java_A_f") []
    (Plain 2 (Declare (Simple JFieldId) (codes "i") (FromCall (call (codes "GetFieldID") (given (codes "cls") ∷ Text (codes "n") ∷ Text (codes "I") ∷ []))))
    ∷ Plain 3 (Declare (Simple JIntVariable) (codes "v") (FromCall (call (codes "GetIntField") (given (codes "cls") ∷ given (codes "i") ∷ []))))
    ∷ Return 4 None
    ∷ [])
    5
    ∷ [])

an_object_that_has_not_the_field-accepted : IsAccepted an_object_that_has_not_the_field
unfolding opened
an_object_that_has_not_the_field-accepted = accepted an_object_that_has_not_the_field refl refl refl

an_object_that_has_not_the_field-run : IsWorkedRun an_object_that_has_not_the_field (codes "heap 512\nclass A\nfield A n I\nthread Java_A_f\n") (codes "1*4\n")
    (codes "T1 trap 6 line 3\njournal 1 1 1\n")
unfolding opened
an_object_that_has_not_the_field-run = worked-run an_object_that_has_not_the_field a_field_of_another_signature_is_not_found-world ((Turn 1, Some 4) ∷ []) [] an_object_that_has_not_the_field-accepted a_field_of_another_signature_is_not_found-means refl refl refl refl

-- a value that does not fit a field
-- JNIEXPORT void JNICALL Java_A_f(JNIEnv *env, jclass cls, jobject o) {
-- jfieldID i = (*env)->GetFieldID(env, cls, "next", "LA;");
-- (*env)->SetObjectField(env, o, i, cls);
-- return;
-- }
abbrev pub a_value_that_does_not_fit_a_field : SourceUnit
a_value_that_does_not_fit_a_field =
    unit_of
    (native 1 Void (codes "Java_A_f") (reference_parameter JObject (codes "o") ∷ [])
    (Plain 2 (Declare (Simple JFieldId) (codes "i") (FromCall (call (codes "GetFieldID") (given (codes "cls") ∷ Text (codes "next") ∷ Text (codes "LA;") ∷ []))))
    ∷ Plain 3 (Perform (call (codes "SetObjectField") (given (codes "o") ∷ given (codes "i") ∷ given (codes "cls") ∷ [])))
    ∷ Return 4 None
    ∷ [])
    5
    ∷ [])

abbrev a_value_that_does_not_fit_a_field-lines : Lines
a_value_that_does_not_fit_a_field-lines =
    (2, ClassLine (codes "A") None)
    ∷ (3, FieldLine (codes "A") (codes "next") (codes "LA;"))
    ∷ (4, ObjectLine (codes "o") (codes "A") (NullValue ∷ []))
    ∷ (5, ThreadLine (codes "Java_A_f") (NamedObject (codes "o") ∷ []))
    ∷ []

abbrev a_value_that_does_not_fit_a_field-world : World
a_value_that_does_not_fit_a_field-world = world_of 1 512 a_value_that_does_not_fit_a_field-lines

a_value_that_does_not_fit_a_field-means : IsWorldText (codes "heap 512\nclass A\nfield A next LA;\nobject @o A null\nthread Java_A_f @o\n") a_value_that_does_not_fit_a_field-world
unfolding opened
a_value_that_does_not_fit_a_field-means = world-text (codes "heap 512\nclass A\nfield A next LA;\nobject @o A null\nthread Java_A_f @o\n") 512 false a_value_that_does_not_fit_a_field-lines 1 refl refl refl refl refl

a_value_that_does_not_fit_a_field-accepted : IsAccepted a_value_that_does_not_fit_a_field
unfolding opened
a_value_that_does_not_fit_a_field-accepted = accepted a_value_that_does_not_fit_a_field refl refl refl

a_value_that_does_not_fit_a_field-run : IsWorkedRun a_value_that_does_not_fit_a_field (codes "heap 512\nclass A\nfield A next LA;\nobject @o A null\nthread Java_A_f @o\n") (codes "1*4\n")
    (codes "T1 trap 6 line 3\n#46 A null\njournal 1 1 1\n")
unfolding opened
a_value_that_does_not_fit_a_field-run = worked-run a_value_that_does_not_fit_a_field a_value_that_does_not_fit_a_field-world ((Turn 1, Some 4) ∷ []) [] a_value_that_does_not_fit_a_field-accepted a_value_that_does_not_fit_a_field-means refl refl refl refl

-- a class that has not the static
-- JNIEXPORT void JNICALL Java_A_f(JNIEnv *env, jclass cls, jclass b) {
-- jfieldID i = (*env)->GetStaticFieldID(env, cls, "n", "I");
-- jint v = (*env)->GetStaticIntField(env, b, i);
-- return;
-- }
abbrev pub a_class_that_has_not_the_static : SourceUnit
a_class_that_has_not_the_static =
    unit_of
    (native 1 Void (codes "Java_A_f") (reference_parameter JClass (codes "b") ∷ [])
    (Plain 2 (Declare (Simple JFieldId) (codes "i") (FromCall (call (codes "GetStaticFieldID") (given (codes "cls") ∷ Text (codes "n") ∷ Text (codes "I") ∷ []))))
    ∷ Plain 3 (Declare (Simple JIntVariable) (codes "v") (FromCall (call (codes "GetStaticIntField") (given (codes "b") ∷ given (codes "i") ∷ []))))
    ∷ Return 4 None
    ∷ [])
    5
    ∷ [])

abbrev a_class_that_has_not_the_static-lines : Lines
a_class_that_has_not_the_static-lines =
    (2, ClassLine (codes "A") None)
    ∷ (3, StaticLine (codes "A") (codes "n") (codes "I"))
    ∷ (4, ClassLine (codes "B") None)
    ∷ (5, ThreadLine (codes "Java_A_f") (NamedClass (codes "B") ∷ []))
    ∷ []

abbrev a_class_that_has_not_the_static-world : World
a_class_that_has_not_the_static-world = world_of 1 512 a_class_that_has_not_the_static-lines

a_class_that_has_not_the_static-means : IsWorldText (codes "heap 512\nclass A\nstatic A n I\nclass B\nthread Java_A_f class:B\n") a_class_that_has_not_the_static-world
unfolding opened
a_class_that_has_not_the_static-means = world-text (codes "heap 512\nclass A\nstatic A n I\nclass B\nthread Java_A_f class:B\n") 512 false a_class_that_has_not_the_static-lines 1 refl refl refl refl refl

a_class_that_has_not_the_static-accepted : IsAccepted a_class_that_has_not_the_static
unfolding opened
a_class_that_has_not_the_static-accepted = accepted a_class_that_has_not_the_static refl refl refl

a_class_that_has_not_the_static-run : IsWorkedRun a_class_that_has_not_the_static (codes "heap 512\nclass A\nstatic A n I\nclass B\nthread Java_A_f class:B\n") (codes "1*4\n")
    (codes "T1 trap 6 line 3\njournal 1 1 1\n")
unfolding opened
a_class_that_has_not_the_static-run = worked-run a_class_that_has_not_the_static a_class_that_has_not_the_static-world ((Turn 1, Some 4) ∷ []) [] a_class_that_has_not_the_static-accepted a_class_that_has_not_the_static-means refl refl refl refl

-- a value that does not fit a static
-- JNIEXPORT void JNICALL Java_A_f(JNIEnv *env, jclass cls, jobject o) {
-- jfieldID i = (*env)->GetStaticFieldID(env, cls, "t", "Ljava/lang/Throwable;");
-- (*env)->SetStaticObjectField(env, cls, i, o);
-- return;
-- }
abbrev pub a_value_that_does_not_fit_a_static : SourceUnit
a_value_that_does_not_fit_a_static =
    unit_of
    (native 1 Void (codes "Java_A_f") (reference_parameter JObject (codes "o") ∷ [])
    (Plain 2 (Declare (Simple JFieldId) (codes "i") (FromCall (call (codes "GetStaticFieldID") (given (codes "cls") ∷ Text (codes "t") ∷ Text (codes "Ljava/lang/Throwable;") ∷ []))))
    ∷ Plain 3 (Perform (call (codes "SetStaticObjectField") (given (codes "cls") ∷ given (codes "i") ∷ given (codes "o") ∷ [])))
    ∷ Return 4 None
    ∷ [])
    5
    ∷ [])

abbrev a_value_that_does_not_fit_a_static-lines : Lines
a_value_that_does_not_fit_a_static-lines =
    (2, ClassLine (codes "A") None)
    ∷ (3, StaticLine (codes "A") (codes "t") (codes "Ljava/lang/Throwable;"))
    ∷ (4, ObjectLine (codes "o") (codes "A") [])
    ∷ (5, ThreadLine (codes "Java_A_f") (NamedObject (codes "o") ∷ []))
    ∷ []

abbrev a_value_that_does_not_fit_a_static-world : World
a_value_that_does_not_fit_a_static-world = world_of 1 512 a_value_that_does_not_fit_a_static-lines

a_value_that_does_not_fit_a_static-means : IsWorldText (codes "heap 512\nclass A\nstatic A t Ljava/lang/Throwable;\nobject @o A\nthread Java_A_f @o\n") a_value_that_does_not_fit_a_static-world
unfolding opened
a_value_that_does_not_fit_a_static-means = world-text (codes "heap 512\nclass A\nstatic A t Ljava/lang/Throwable;\nobject @o A\nthread Java_A_f @o\n") 512 false a_value_that_does_not_fit_a_static-lines 1 refl refl refl refl refl

a_value_that_does_not_fit_a_static-accepted : IsAccepted a_value_that_does_not_fit_a_static
unfolding opened
a_value_that_does_not_fit_a_static-accepted = accepted a_value_that_does_not_fit_a_static refl refl refl

a_value_that_does_not_fit_a_static-run : IsWorkedRun a_value_that_does_not_fit_a_static (codes "heap 512\nclass A\nstatic A t Ljava/lang/Throwable;\nobject @o A\nthread Java_A_f @o\n") (codes "1*4\n")
    (codes "T1 trap 6 line 3\n#46 A\njournal 1 1 1\n")
unfolding opened
a_value_that_does_not_fit_a_static-run = worked-run a_value_that_does_not_fit_a_static a_value_that_does_not_fit_a_static-world ((Turn 1, Some 4) ∷ []) [] a_value_that_does_not_fit_a_static-accepted a_value_that_does_not_fit_a_static-means refl refl refl refl
