-- The cases of texts/arguments.cases, as gate/worked_equations writes them.
use Rattle.std.specs.Prelude.{◌∷◌, pos, false, [], Some, None, codes, refl}
use Rattle.base.specs.declared.element.ElementType.TheVariants.{Int as JInt}
use Rattle.syntax.specs.declared.declared_type.ReferenceType.TheVariants.{Object as JObject, IntArray as JIntArray}
use Rattle.syntax.specs.declared.declared_type.VariableType.TheVariants.{Jint as JIntVariable}
use Rattle.syntax.specs.declared.declared_type.DeclaredType.TheVariants.{Simple}
use Rattle.syntax.specs.declared.unit.ResultType.TheVariants.{Void}
use Rattle.syntax.specs.Tree.{Variable, FromCall, Declare, PutJint, Plain, Return, SourceUnit}
use Rattle.semantics.specs.declared.schedule.ScheduleWord.TheVariants.{Turn}
use Rattle.semantics.specs.World.{World}
use Rattle.world_values.specs.WorldLines.{NumberValue, NullValue, NamedObject, NamedClass, ClassLine, ArrayLine, ThreadLine, Lines}
use Rattle.world_values.specs.WorldMeaning.{world_of}
use Rattle.world_values.specs.WorldRules.{IsWorldText}
use Rattle.test_equations.specs.Claims.{IsAccepted, IsWorkedRun, IsUnloaded}
use Rattle.test_equations.proofs.Programs.{unit_of, native, reference_parameter, call, given}
use Rattle.test_equations.proofs.Computed.{opened, accepted, world-text, worked-run, unloaded}

-- a thread that has not begun
-- JNIEXPORT void JNICALL Java_A_f(JNIEnv *env, jclass cls, jintArray a) { return; }
abbrev pub a_thread_that_has_not_begun : SourceUnit
a_thread_that_has_not_begun =
    unit_of
    (native 1 Void (codes "Java_A_f") (reference_parameter JIntArray (codes "a") ∷ [])
    (Return 1 None
    ∷ [])
    1
    ∷ [])

abbrev a_thread_that_has_not_begun-lines : Lines
a_thread_that_has_not_begun-lines =
    (2, ClassLine (codes "A") None)
    ∷ (3, ArrayLine (codes "a") JInt (NumberValue (pos 7) ∷ NumberValue (pos 8) ∷ []))
    ∷ (4, ThreadLine (codes "Java_A_f") (NamedObject (codes "a") ∷ []))
    ∷ []

abbrev a_thread_that_has_not_begun-world : World
a_thread_that_has_not_begun-world = world_of 1 512 a_thread_that_has_not_begun-lines

a_thread_that_has_not_begun-means : IsWorldText (codes "heap 512\nclass A\narray @a I 7 8\nthread Java_A_f @a\n") a_thread_that_has_not_begun-world
unfolding opened
a_thread_that_has_not_begun-means = world-text (codes "heap 512\nclass A\narray @a I 7 8\nthread Java_A_f @a\n") 512 false a_thread_that_has_not_begun-lines 1 refl refl refl refl refl

a_thread_that_has_not_begun-accepted : IsAccepted a_thread_that_has_not_begun
unfolding opened
a_thread_that_has_not_begun-accepted = accepted a_thread_that_has_not_begun refl refl refl

a_thread_that_has_not_begun-run : IsWorkedRun a_thread_that_has_not_begun (codes "heap 512\nclass A\narray @a I 7 8\nthread Java_A_f @a\n") []
    (codes "T1 running\n#46 [I 7 8\njournal\n")
unfolding opened
a_thread_that_has_not_begun-run = worked-run a_thread_that_has_not_begun a_thread_that_has_not_begun-world [] [] a_thread_that_has_not_begun-accepted a_thread_that_has_not_begun-means refl refl refl refl

-- the length of an array
-- JNIEXPORT void JNICALL Java_A_f(JNIEnv *env, jclass cls, jobject a) {
-- jint n = (*env)->GetArrayLength(env, a);
-- put_jint(n);
-- return; }
abbrev pub the_length_of_an_array : SourceUnit
the_length_of_an_array =
    unit_of
    (native 1 Void (codes "Java_A_f") (reference_parameter JObject (codes "a") ∷ [])
    (Plain 2 (Declare (Simple JIntVariable) (codes "n") (FromCall (call (codes "GetArrayLength") (given (codes "a") ∷ []))))
    ∷ Plain 3 (PutJint (Variable (codes "n")))
    ∷ Return 4 None
    ∷ [])
    4
    ∷ [])

abbrev the_length_of_an_array-lines : Lines
the_length_of_an_array-lines =
    (2, ClassLine (codes "A") None)
    ∷ (3, ArrayLine (codes "a") JInt (NumberValue (pos 7) ∷ NumberValue (pos 8) ∷ NumberValue (pos 9) ∷ []))
    ∷ (4, ThreadLine (codes "Java_A_f") (NamedObject (codes "a") ∷ []))
    ∷ []

abbrev the_length_of_an_array-world : World
the_length_of_an_array-world = world_of 1 512 the_length_of_an_array-lines

the_length_of_an_array-means : IsWorldText (codes "heap 512\nclass A\narray @a I 7 8 9\nthread Java_A_f @a\n") the_length_of_an_array-world
unfolding opened
the_length_of_an_array-means = world-text (codes "heap 512\nclass A\narray @a I 7 8 9\nthread Java_A_f @a\n") 512 false the_length_of_an_array-lines 1 refl refl refl refl refl

the_length_of_an_array-accepted : IsAccepted the_length_of_an_array
unfolding opened
the_length_of_an_array-accepted = accepted the_length_of_an_array refl refl refl

the_length_of_an_array-run : IsWorkedRun the_length_of_an_array (codes "heap 512\nclass A\narray @a I 7 8 9\nthread Java_A_f @a\n") (codes "1*9\n")
    (codes "T1 3\nT1 ended\n#46 [I 7 8 9\njournal 1 1 1 1 1\n")
unfolding opened
the_length_of_an_array-run = worked-run the_length_of_an_array the_length_of_an_array-world ((Turn 1, Some 9) ∷ []) [] the_length_of_an_array-accepted the_length_of_an_array-means refl refl refl refl

-- the length of a class object
abbrev the_length_of_a_class_object-lines : Lines
the_length_of_a_class_object-lines =
    (2, ClassLine (codes "A") None)
    ∷ (3, ArrayLine (codes "a") JInt (NumberValue (pos 7) ∷ NumberValue (pos 8) ∷ NumberValue (pos 9) ∷ []))
    ∷ (4, ThreadLine (codes "Java_A_f") (NamedClass (codes "A") ∷ []))
    ∷ []

abbrev the_length_of_a_class_object-world : World
the_length_of_a_class_object-world = world_of 1 512 the_length_of_a_class_object-lines

the_length_of_a_class_object-means : IsWorldText (codes "heap 512\nclass A\narray @a I 7 8 9\nthread Java_A_f class:A\n") the_length_of_a_class_object-world
unfolding opened
the_length_of_a_class_object-means = world-text (codes "heap 512\nclass A\narray @a I 7 8 9\nthread Java_A_f class:A\n") 512 false the_length_of_a_class_object-lines 1 refl refl refl refl refl

the_length_of_a_class_object-run : IsWorkedRun the_length_of_an_array (codes "heap 512\nclass A\narray @a I 7 8 9\nthread Java_A_f class:A\n") (codes "1*9\n")
    (codes "T1 trap 6 line 2\n#46 [I 7 8 9\njournal 1 1\n")
unfolding opened
the_length_of_a_class_object-run = worked-run the_length_of_an_array the_length_of_a_class_object-world ((Turn 1, Some 9) ∷ []) [] the_length_of_an_array-accepted the_length_of_a_class_object-means refl refl refl refl

-- the length of null
abbrev the_length_of_null-lines : Lines
the_length_of_null-lines =
    (2, ClassLine (codes "A") None)
    ∷ (3, ArrayLine (codes "a") JInt (NumberValue (pos 7) ∷ NumberValue (pos 8) ∷ NumberValue (pos 9) ∷ []))
    ∷ (4, ThreadLine (codes "Java_A_f") (NullValue ∷ []))
    ∷ []

abbrev the_length_of_null-world : World
the_length_of_null-world = world_of 1 512 the_length_of_null-lines

the_length_of_null-means : IsWorldText (codes "heap 512\nclass A\narray @a I 7 8 9\nthread Java_A_f null\n") the_length_of_null-world
unfolding opened
the_length_of_null-means = world-text (codes "heap 512\nclass A\narray @a I 7 8 9\nthread Java_A_f null\n") 512 false the_length_of_null-lines 1 refl refl refl refl refl

the_length_of_null-run : IsWorkedRun the_length_of_an_array (codes "heap 512\nclass A\narray @a I 7 8 9\nthread Java_A_f null\n") (codes "1*9\n")
    (codes "T1 trap 4 line 2\n#46 [I 7 8 9\njournal 1 1\n")
unfolding opened
the_length_of_null-run = worked-run the_length_of_an_array the_length_of_null-world ((Turn 1, Some 9) ∷ []) [] the_length_of_an_array-accepted the_length_of_null-means refl refl refl refl

-- a number for a reference
abbrev a_number_for_a_reference-lines : Lines
a_number_for_a_reference-lines =
    (2, ClassLine (codes "A") None)
    ∷ (3, ArrayLine (codes "a") JInt (NumberValue (pos 7) ∷ NumberValue (pos 8) ∷ NumberValue (pos 9) ∷ []))
    ∷ (4, ThreadLine (codes "Java_A_f") (NumberValue (pos 5) ∷ []))
    ∷ []

abbrev a_number_for_a_reference-world : World
a_number_for_a_reference-world = world_of 1 512 a_number_for_a_reference-lines

a_number_for_a_reference-means : IsWorldText (codes "heap 512\nclass A\narray @a I 7 8 9\nthread Java_A_f 5\n") a_number_for_a_reference-world
unfolding opened
a_number_for_a_reference-means = world-text (codes "heap 512\nclass A\narray @a I 7 8 9\nthread Java_A_f 5\n") 512 false a_number_for_a_reference-lines 1 refl refl refl refl refl

a_number_for_a_reference-unloaded : IsUnloaded the_length_of_an_array (codes "heap 512\nclass A\narray @a I 7 8 9\nthread Java_A_f 5\n") 4
unfolding opened
a_number_for_a_reference-unloaded = unloaded the_length_of_an_array a_number_for_a_reference-world 4 a_number_for_a_reference-means refl

-- a program without functions
abbrev pub a_program_without_functions : SourceUnit
a_program_without_functions = unit_of []

abbrev a_program_without_functions-lines : Lines
a_program_without_functions-lines =
    (2, ClassLine (codes "A") None)
    ∷ (3, ThreadLine (codes "Java_A_f") [])
    ∷ []

abbrev a_program_without_functions-world : World
a_program_without_functions-world = world_of 1 512 a_program_without_functions-lines

a_program_without_functions-means : IsWorldText (codes "heap 512\nclass A\nthread Java_A_f\n") a_program_without_functions-world
unfolding opened
a_program_without_functions-means = world-text (codes "heap 512\nclass A\nthread Java_A_f\n") 512 false a_program_without_functions-lines 1 refl refl refl refl refl

a_program_without_functions-unloaded : IsUnloaded a_program_without_functions (codes "heap 512\nclass A\nthread Java_A_f\n") 3
unfolding opened
a_program_without_functions-unloaded = unloaded a_program_without_functions a_program_without_functions-world 3 a_program_without_functions-means refl
