-- The cases of texts/objects.cases, as gate/worked_equations writes them.
use Rattle.std.specs.Prelude.{◌∷◌, pos, negsuc, false, [], Some, None, codes, refl}
use Rattle.base.specs.declared.element.ElementType.TheVariants.{Int as JInt}
use Rattle.syntax.specs.declared.declared_type.ReferenceType.TheVariants.{Object as JObject}
use Rattle.syntax.specs.declared.unit.ResultType.TheVariants.{Void}
use Rattle.syntax.specs.Tree.{Number, Variable, PutJint, Plain, Return, SourceUnit}
use Rattle.semantics.specs.declared.schedule.ScheduleWord.TheVariants.{Turn}
use Rattle.semantics.specs.World.{World}
use Rattle.world_values.specs.WorldLines.{NumberValue, NullValue, NamedObject, NamedClass, ClassLine, FieldLine, StaticLine, ObjectLine, ObjectsLine, ArrayLine, StringLine, ThreadLine, CallLine, Lines}
use Rattle.world_values.specs.WorldMeaning.{world_of}
use Rattle.world_values.specs.WorldRules.{IsWorldText}
use Rattle.test_equations.specs.Claims.{IsAccepted, IsWorkedRun, IsUnloaded}
use Rattle.test_equations.proofs.Programs.{unit_of, native, reference_parameter, int_parameter}
use Rattle.test_equations.proofs.Computed.{opened, accepted, world-text, worked-run, unloaded}

-- each kind of object, in a row each
-- JNIEXPORT void JNICALL Java_A_f(JNIEnv *env, jclass cls, jobject a) { put_jint(1); return; }
abbrev pub each_kind_of_object_in_a_row_each : SourceUnit
each_kind_of_object_in_a_row_each =
    unit_of
    (native 1 Void (codes "Java_A_f") (reference_parameter JObject (codes "a") ∷ [])
    (Plain 1 (PutJint (Number 1 false))
    ∷ Return 1 None
    ∷ [])
    1
    ∷ [])

abbrev each_kind_of_object_in_a_row_each-lines : Lines
each_kind_of_object_in_a_row_each-lines =
    (2, ClassLine (codes "B") None)
    ∷ (3, ClassLine (codes "A") (Some (codes "B")))
    ∷ (4, FieldLine (codes "B") (codes "n") (codes "I"))
    ∷ (5, FieldLine (codes "A") (codes "next") (codes "LB;"))
    ∷ (6, FieldLine (codes "A") (codes "names") (codes "[Ljava/lang/String;"))
    ∷ (7, StaticLine (codes "A") (codes "count") (codes "I"))
    ∷ (8, ArrayLine (codes "a") JInt (NumberValue (pos 7) ∷ NumberValue (negsuc 7) ∷ []))
    ∷ (9, StringLine (codes "s") (codes "ab c"))
    ∷ (10, ObjectsLine (codes "o") (codes "java/lang/String") (NamedObject (codes "s") ∷ NullValue ∷ []))
    ∷ (11, ObjectLine (codes "b") (codes "B") (NumberValue (pos 5) ∷ []))
    ∷ (12, ObjectLine (codes "x") (codes "A") (NumberValue (negsuc 5) ∷ NamedObject (codes "b") ∷ NamedObject (codes "o") ∷ []))
    ∷ (13, ObjectsLine (codes "p") (codes "java/lang/Object") (NamedObject (codes "x") ∷ NamedClass (codes "A") ∷ NullValue ∷ NamedObject (codes "a") ∷ []))
    ∷ (14, ThreadLine (codes "Java_A_f") (NamedObject (codes "x") ∷ []))
    ∷ (15, CallLine (codes "Java_A_f") (NamedClass (codes "B") ∷ []))
    ∷ []

abbrev each_kind_of_object_in_a_row_each-world : World
each_kind_of_object_in_a_row_each-world = world_of 1 512 each_kind_of_object_in_a_row_each-lines

each_kind_of_object_in_a_row_each-means : IsWorldText (codes "heap 512\nclass B\nclass A extends B\nfield B n I\nfield A next LB;\nfield A names [Ljava/lang/String;\nstatic A count I\narray @a I 7 -8\nstring @s ab c\nobjects @o java/lang/String @s null\nobject @b B 5\nobject @x A -6 @b @o\nobjects @p java/lang/Object @x class:A null @a\nthread Java_A_f @x\ncall Java_A_f class:B\n") each_kind_of_object_in_a_row_each-world
unfolding opened
each_kind_of_object_in_a_row_each-means = world-text (codes "heap 512\nclass B\nclass A extends B\nfield B n I\nfield A next LB;\nfield A names [Ljava/lang/String;\nstatic A count I\narray @a I 7 -8\nstring @s ab c\nobjects @o java/lang/String @s null\nobject @b B 5\nobject @x A -6 @b @o\nobjects @p java/lang/Object @x class:A null @a\nthread Java_A_f @x\ncall Java_A_f class:B\n") 512 false each_kind_of_object_in_a_row_each-lines 1 refl refl refl refl refl

each_kind_of_object_in_a_row_each-accepted : IsAccepted each_kind_of_object_in_a_row_each
unfolding opened
each_kind_of_object_in_a_row_each-accepted = accepted each_kind_of_object_in_a_row_each refl refl refl

each_kind_of_object_in_a_row_each-run : IsWorkedRun each_kind_of_object_in_a_row_each (codes "heap 512\nclass B\nclass A extends B\nfield B n I\nfield A next LB;\nfield A names [Ljava/lang/String;\nstatic A count I\narray @a I 7 -8\nstring @s ab c\nobjects @o java/lang/String @s null\nobject @b B 5\nobject @x A -6 @b @o\nobjects @p java/lang/Object @x class:A null @a\nthread Java_A_f @x\ncall Java_A_f class:B\n") (codes "1*9\n")
    (codes "T1 1\nT1 1\nT1 ended\n#48 [I 7 -8\n#49 java/lang/String 97 98 32 99\n#50 [Ljava/lang/String; #49 null\n#51 B 5\n#52 A -6 #51 #50\n#53 [Ljava/lang/Object; #52 class:A null #48\njournal 1 1 1 1 1 1 1 1\n")
unfolding opened
each_kind_of_object_in_a_row_each-run = worked-run each_kind_of_object_in_a_row_each each_kind_of_object_in_a_row_each-world ((Turn 1, Some 9) ∷ []) [] each_kind_of_object_in_a_row_each-accepted each_kind_of_object_in_a_row_each-means refl refl refl refl

-- the fields of a superclass come first, also where they are declared later
-- JNIEXPORT void JNICALL Java_A_f(JNIEnv *env, jclass cls) { return; }
abbrev pub the_fields_of_a_superclass_come_first_also_where_they_are_declared_later : SourceUnit
the_fields_of_a_superclass_come_first_also_where_they_are_declared_later =
    unit_of
    (native 1 Void (codes "Java_A_f") []
    (Return 1 None
    ∷ [])
    1
    ∷ [])

abbrev the_fields_of_a_superclass_come_first_also_where_they_are_declared_later-lines : Lines
the_fields_of_a_superclass_come_first_also_where_they_are_declared_later-lines =
    (2, ClassLine (codes "B") None)
    ∷ (3, ClassLine (codes "A") (Some (codes "B")))
    ∷ (4, FieldLine (codes "A") (codes "own") (codes "B"))
    ∷ (5, FieldLine (codes "B") (codes "first") (codes "I"))
    ∷ (6, FieldLine (codes "B") (codes "second") (codes "I"))
    ∷ (7, ObjectLine (codes "x") (codes "A") (NumberValue (pos 70000) ∷ NumberValue (pos 80000) ∷ NumberValue (pos 3) ∷ []))
    ∷ (8, ThreadLine (codes "Java_A_f") [])
    ∷ []

abbrev the_fields_of_a_superclass_come_first_also_where_they_are_declared_later-world : World
the_fields_of_a_superclass_come_first_also_where_they_are_declared_later-world = world_of 1 512 the_fields_of_a_superclass_come_first_also_where_they_are_declared_later-lines

the_fields_of_a_superclass_come_first_also_where_they_are_declared_later-means : IsWorldText (codes "heap 512\nclass B\nclass A extends B\nfield A own B\nfield B first I\nfield B second I\nobject @x A 70000 80000 3\nthread Java_A_f\n") the_fields_of_a_superclass_come_first_also_where_they_are_declared_later-world
unfolding opened
the_fields_of_a_superclass_come_first_also_where_they_are_declared_later-means = world-text (codes "heap 512\nclass B\nclass A extends B\nfield A own B\nfield B first I\nfield B second I\nobject @x A 70000 80000 3\nthread Java_A_f\n") 512 false the_fields_of_a_superclass_come_first_also_where_they_are_declared_later-lines 1 refl refl refl refl refl

the_fields_of_a_superclass_come_first_also_where_they_are_declared_later-accepted : IsAccepted the_fields_of_a_superclass_come_first_also_where_they_are_declared_later
unfolding opened
the_fields_of_a_superclass_come_first_also_where_they_are_declared_later-accepted = accepted the_fields_of_a_superclass_come_first_also_where_they_are_declared_later refl refl refl

the_fields_of_a_superclass_come_first_also_where_they_are_declared_later-run : IsWorkedRun the_fields_of_a_superclass_come_first_also_where_they_are_declared_later (codes "heap 512\nclass B\nclass A extends B\nfield A own B\nfield B first I\nfield B second I\nobject @x A 70000 80000 3\nthread Java_A_f\n") (codes "1*9\n")
    (codes "T1 ended\n#48 A 70000 80000 3\njournal 1 1\n")
unfolding opened
the_fields_of_a_superclass_come_first_also_where_they_are_declared_later-run = worked-run the_fields_of_a_superclass_come_first_also_where_they_are_declared_later the_fields_of_a_superclass_come_first_also_where_they_are_declared_later-world ((Turn 1, Some 9) ∷ []) [] the_fields_of_a_superclass_come_first_also_where_they_are_declared_later-accepted the_fields_of_a_superclass_come_first_also_where_they_are_declared_later-means refl refl refl refl

-- calls of a thread, one after another, each with its arguments
-- JNIEXPORT void JNICALL Java_A_f(JNIEnv *env, jclass cls, jint n) { put_jint(n); return; }
-- JNIEXPORT void JNICALL Java_A_g(JNIEnv *env, jclass cls) { return; }
abbrev pub calls_of_a_thread_one_after_another_each_with_its_arguments : SourceUnit
calls_of_a_thread_one_after_another_each_with_its_arguments =
    unit_of
    (native 1 Void (codes "Java_A_f") (int_parameter (codes "n") ∷ [])
    (Plain 1 (PutJint (Variable (codes "n")))
    ∷ Return 1 None
    ∷ [])
    1
    ∷ native 2 Void (codes "Java_A_g") []
    (Return 2 None
    ∷ [])
    2
    ∷ [])

abbrev calls_of_a_thread_one_after_another_each_with_its_arguments-lines : Lines
calls_of_a_thread_one_after_another_each_with_its_arguments-lines =
    (2, ClassLine (codes "A") None)
    ∷ (3, ThreadLine (codes "Java_A_f") (NumberValue (pos 1) ∷ []))
    ∷ (4, CallLine (codes "Java_A_g") [])
    ∷ (5, CallLine (codes "Java_A_f") (NumberValue (pos 2) ∷ []))
    ∷ []

abbrev calls_of_a_thread_one_after_another_each_with_its_arguments-world : World
calls_of_a_thread_one_after_another_each_with_its_arguments-world = world_of 1 512 calls_of_a_thread_one_after_another_each_with_its_arguments-lines

calls_of_a_thread_one_after_another_each_with_its_arguments-means : IsWorldText (codes "heap 512\nclass A\nthread Java_A_f 1\ncall Java_A_g\ncall Java_A_f 2\n") calls_of_a_thread_one_after_another_each_with_its_arguments-world
unfolding opened
calls_of_a_thread_one_after_another_each_with_its_arguments-means = world-text (codes "heap 512\nclass A\nthread Java_A_f 1\ncall Java_A_g\ncall Java_A_f 2\n") 512 false calls_of_a_thread_one_after_another_each_with_its_arguments-lines 1 refl refl refl refl refl

calls_of_a_thread_one_after_another_each_with_its_arguments-accepted : IsAccepted calls_of_a_thread_one_after_another_each_with_its_arguments
unfolding opened
calls_of_a_thread_one_after_another_each_with_its_arguments-accepted = accepted calls_of_a_thread_one_after_another_each_with_its_arguments refl refl refl

calls_of_a_thread_one_after_another_each_with_its_arguments-run : IsWorkedRun calls_of_a_thread_one_after_another_each_with_its_arguments (codes "heap 512\nclass A\nthread Java_A_f 1\ncall Java_A_g\ncall Java_A_f 2\n") (codes "1*20\n")
    (codes "T1 1\nT1 2\nT1 ended\njournal 1 1 1 1 1 1 1 1 1 1\n")
unfolding opened
calls_of_a_thread_one_after_another_each_with_its_arguments-run = worked-run calls_of_a_thread_one_after_another_each_with_its_arguments calls_of_a_thread_one_after_another_each_with_its_arguments-world ((Turn 1, Some 20) ∷ []) [] calls_of_a_thread_one_after_another_each_with_its_arguments-accepted calls_of_a_thread_one_after_another_each_with_its_arguments-means refl refl refl refl

-- the second call's function isn't there
abbrev the_second_call_s_function_isn_t_there-lines : Lines
the_second_call_s_function_isn_t_there-lines =
    (2, ClassLine (codes "A") None)
    ∷ (3, ThreadLine (codes "Java_A_f") [])
    ∷ (4, CallLine (codes "Java_A_g") [])
    ∷ (5, CallLine (codes "Java_A_h") [])
    ∷ []

abbrev the_second_call_s_function_isn_t_there-world : World
the_second_call_s_function_isn_t_there-world = world_of 1 512 the_second_call_s_function_isn_t_there-lines

the_second_call_s_function_isn_t_there-means : IsWorldText (codes "heap 512\nclass A\nthread Java_A_f\ncall Java_A_g\ncall Java_A_h\n") the_second_call_s_function_isn_t_there-world
unfolding opened
the_second_call_s_function_isn_t_there-means = world-text (codes "heap 512\nclass A\nthread Java_A_f\ncall Java_A_g\ncall Java_A_h\n") 512 false the_second_call_s_function_isn_t_there-lines 1 refl refl refl refl refl

the_second_call_s_function_isn_t_there-unloaded : IsUnloaded the_fields_of_a_superclass_come_first_also_where_they_are_declared_later (codes "heap 512\nclass A\nthread Java_A_f\ncall Java_A_g\ncall Java_A_h\n") 4
unfolding opened
the_second_call_s_function_isn_t_there-unloaded = unloaded the_fields_of_a_superclass_come_first_also_where_they_are_declared_later the_second_call_s_function_isn_t_there-world 4 the_second_call_s_function_isn_t_there-means refl
