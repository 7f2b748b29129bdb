-- The cases of texts/weak_references.cases, as gate/worked_equations writes them.
use Rattle.std.specs.Prelude.{◌≡◌, ◌∷◌, ◌++◌, false, [], Some, None, Err, codes, refl, replicate}
use Rattle.syntax.specs.declared.declared_type.ReferenceType.TheVariants.{Object as JObject, IntArray as JIntArray}
use Rattle.syntax.specs.declared.declared_type.VariableType.TheVariants.{Reference as ReferenceVariable}
use Rattle.syntax.specs.declared.declared_type.DeclaredType.TheVariants.{Simple}
use Rattle.syntax.specs.declared.unit.ResultType.TheVariants.{Void}
use Rattle.syntax.specs.declared.expr.Constant.TheVariants.{Null}
use Rattle.syntax.specs.declared.expr.BinaryOp.TheVariants.{Equal}
use Rattle.syntax.specs.Tree.{Number, Named, Variable, Binary, Value, FromCall, TestExpr, Declare, Assign, Perform, PutJint, Plain, If, ElseBlock, Return, SourceUnit}
use Rattle.world_schedules.specs.declared.fault.Rule.TheVariants.{Form}
use Rattle.semantics.specs.declared.schedule.ScheduleWord.TheVariants.{Turn, Collect, Slice}
use Rattle.world_schedules.specs.ReadingJournals.{journal_of}
use Rattle.semantics.specs.World.{World}
use Rattle.world_values.specs.WorldLines.{ClassLine, ThreadLine, Lines}
use Rattle.world_values.specs.WorldMeaning.{world_of}
use Rattle.world_values.specs.WorldRules.{IsWorldText}
use Rattle.test_equations.specs.Claims.{IsAccepted, IsWorkedRun, IsWorkedReplay, IsStoppedReplay}
use Rattle.test_equations.proofs.Programs.{unit_of, native, block, static_weak, call, given, entries, clearing}
use Rattle.test_equations.proofs.Computed.{opened, read, accepted, world-text, Alone, AfterClearing, Sliced, worked-run, worked-replay, stopped-replay}

-- an object that a weak reference alone is left of
-- static jweak w = NULL;
-- JNIEXPORT void JNICALL Java_A_f(JNIEnv *env, jclass cls) {
-- jobject o = (*env)->AllocObject(env, cls);
-- w = (*env)->NewWeakGlobalRef(env, o);
-- (*env)->DeleteLocalRef(env, o);
-- jobject x = (*env)->NewLocalRef(env, w);
-- if (x == NULL) { put_jint(0); } else { put_jint(1); }
-- return; }
abbrev pub an_object_that_a_weak_reference_alone_is_left_of : SourceUnit
an_object_that_a_weak_reference_alone_is_left_of =
    unit_of
    (static_weak 1 (codes "w")
    ∷ native 2 Void (codes "Java_A_f") []
    (Plain 3 (Declare (Simple (ReferenceVariable JObject)) (codes "o") (FromCall (call (codes "AllocObject") (given (codes "cls") ∷ []))))
    ∷ Plain 4 (Assign (codes "w") (FromCall (call (codes "NewWeakGlobalRef") (given (codes "o") ∷ []))))
    ∷ Plain 5 (Perform (call (codes "DeleteLocalRef") (given (codes "o") ∷ [])))
    ∷ Plain 6 (Declare (Simple (ReferenceVariable JObject)) (codes "x") (FromCall (call (codes "NewLocalRef") (given (codes "w") ∷ []))))
    ∷ If 7 (TestExpr (Binary Equal (Variable (codes "x")) (Named Null)))
    (block
    (Plain 7 (PutJint (Number 0 false))
    ∷ [])
    7)
    (ElseBlock (block
    (Plain 7 (PutJint (Number 1 false))
    ∷ [])
    7))
    ∷ Return 8 None
    ∷ [])
    8
    ∷ [])

abbrev an_object_that_a_weak_reference_alone_is_left_of-lines : Lines
an_object_that_a_weak_reference_alone_is_left_of-lines =
    (2, ClassLine (codes "A") None)
    ∷ (3, ThreadLine (codes "Java_A_f") [])
    ∷ []

abbrev an_object_that_a_weak_reference_alone_is_left_of-world : World
an_object_that_a_weak_reference_alone_is_left_of-world = world_of 1 512 an_object_that_a_weak_reference_alone_is_left_of-lines

an_object_that_a_weak_reference_alone_is_left_of-means : IsWorldText (codes "heap 512\nclass A\nthread Java_A_f\n") an_object_that_a_weak_reference_alone_is_left_of-world
unfolding opened
an_object_that_a_weak_reference_alone_is_left_of-means = world-text (codes "heap 512\nclass A\nthread Java_A_f\n") 512 false an_object_that_a_weak_reference_alone_is_left_of-lines 1 refl refl refl refl refl

an_object_that_a_weak_reference_alone_is_left_of-accepted : IsAccepted an_object_that_a_weak_reference_alone_is_left_of
unfolding opened
an_object_that_a_weak_reference_alone_is_left_of-accepted = accepted an_object_that_a_weak_reference_alone_is_left_of refl refl refl

an_object_that_a_weak_reference_alone_is_left_of-run : IsWorkedRun an_object_that_a_weak_reference_alone_is_left_of (codes "heap 512\nclass A\nthread Java_A_f\n") (codes "1*4 c 1*9\n")
    (codes "T1 0\nT1 ended\njournal 1 1 1 1 ~46 1 1 1 1 1 1 1\n")
unfolding opened
an_object_that_a_weak_reference_alone_is_left_of-run = worked-run an_object_that_a_weak_reference_alone_is_left_of an_object_that_a_weak_reference_alone_is_left_of-world ((Turn 1, Some 4) ∷ (Collect, None) ∷ (Turn 1, Some 9) ∷ []) [] an_object_that_a_weak_reference_alone_is_left_of-accepted an_object_that_a_weak_reference_alone_is_left_of-means refl refl refl refl

-- the same without a collection
the_same_without_a_collection-run : IsWorkedRun an_object_that_a_weak_reference_alone_is_left_of (codes "heap 512\nclass A\nthread Java_A_f\n") (codes "1*20\n")
    (codes "T1 1\nT1 ended\njournal 1 1 1 1 1 1 1 1 1 1 1\n")
unfolding opened
the_same_without_a_collection-run = worked-run an_object_that_a_weak_reference_alone_is_left_of an_object_that_a_weak_reference_alone_is_left_of-world ((Turn 1, Some 20) ∷ []) [] an_object_that_a_weak_reference_alone_is_left_of-accepted an_object_that_a_weak_reference_alone_is_left_of-means refl refl refl refl

-- a collection while a local reference holds the object
a_collection_while_a_local_reference_holds_the_object-run : IsWorkedRun an_object_that_a_weak_reference_alone_is_left_of (codes "heap 512\nclass A\nthread Java_A_f\n") (codes "1*3 c 1*9\n")
    (codes "T1 1\nT1 ended\njournal 1 1 1 1 1 1 1 1 1 1 1\n")
unfolding opened
a_collection_while_a_local_reference_holds_the_object-run = worked-run an_object_that_a_weak_reference_alone_is_left_of an_object_that_a_weak_reference_alone_is_left_of-world ((Turn 1, Some 3) ∷ (Collect, None) ∷ (Turn 1, Some 9) ∷ []) [] an_object_that_a_weak_reference_alone_is_left_of-accepted an_object_that_a_weak_reference_alone_is_left_of-means refl refl refl refl

-- a journal with a clearing
a_journal_with_a_clearing-replay : IsWorkedReplay an_object_that_a_weak_reference_alone_is_left_of (codes "heap 512\nclass A\nthread Java_A_f\n") (codes "1 1 1 1 ~46 1 1 1 1 1 1 1\n") (codes "T1 0\nT1 ended\njournal 1 1 1 1 ~46 1 1 1 1 1 1 1\n")
unfolding opened
a_journal_with_a_clearing-replay = worked-replay an_object_that_a_weak_reference_alone_is_left_of an_object_that_a_weak_reference_alone_is_left_of-world (entries 1 4 ++ clearing (46 ∷ []) ∷ [] ++ entries 1 7) an_object_that_a_weak_reference_alone_is_left_of-accepted an_object_that_a_weak_reference_alone_is_left_of-means refl refl refl refl

-- the same journal without it
the_same_journal_without_it-replay : IsWorkedReplay an_object_that_a_weak_reference_alone_is_left_of (codes "heap 512\nclass A\nthread Java_A_f\n") (codes "1 1 1 1 1 1 1 1 1 1 1\n") (codes "T1 1\nT1 ended\njournal 1 1 1 1 1 1 1 1 1 1 1\n")
unfolding opened
the_same_journal_without_it-replay = worked-replay an_object_that_a_weak_reference_alone_is_left_of an_object_that_a_weak_reference_alone_is_left_of-world (entries 1 11) an_object_that_a_weak_reference_alone_is_left_of-accepted an_object_that_a_weak_reference_alone_is_left_of-means refl refl refl refl

-- a clearing as the last entry
a_clearing_as_the_last_entry-replay : IsWorkedReplay an_object_that_a_weak_reference_alone_is_left_of (codes "heap 512\nclass A\nthread Java_A_f\n") (codes "1 1 1 1 ~46\n") (codes "T1 running\njournal 1 1 1 1 ~46\n")
unfolding opened
a_clearing_as_the_last_entry-replay = worked-replay an_object_that_a_weak_reference_alone_is_left_of an_object_that_a_weak_reference_alone_is_left_of-world (entries 1 4 ++ clearing (46 ∷ []) ∷ []) an_object_that_a_weak_reference_alone_is_left_of-accepted an_object_that_a_weak_reference_alone_is_left_of-means refl refl refl refl

-- a clearing while a local reference holds the object
a_clearing_while_a_local_reference_holds_the_object-stopped : IsStoppedReplay an_object_that_a_weak_reference_alone_is_left_of (codes "heap 512\nclass A\nthread Java_A_f\n") (codes "1 1 1 ~46\n") 4
unfolding opened
a_clearing_while_a_local_reference_holds_the_object-stopped = stopped-replay an_object_that_a_weak_reference_alone_is_left_of an_object_that_a_weak_reference_alone_is_left_of-world (entries 1 3) (clearing (46 ∷ [])) [] an_object_that_a_weak_reference_alone_is_left_of-accepted an_object_that_a_weak_reference_alone_is_left_of-means refl refl refl refl

-- a clearing of nothing
a_clearing_of_nothing : journal_of (codes "~\n") 1 ≡ Err (record { rule = Form; line = 1 })
unfolding read
a_clearing_of_nothing = refl

-- a clearing before the step that needs its room
-- static jweak w = NULL;
-- JNIEXPORT void JNICALL Java_A_f(JNIEnv *env, jclass cls) {
-- jintArray a = (*env)->NewIntArray(env, 200);
-- w = (*env)->NewWeakGlobalRef(env, a);
-- (*env)->DeleteLocalRef(env, a);
-- jintArray b = (*env)->NewIntArray(env, 200);
-- jobject x = (*env)->NewLocalRef(env, w);
-- if (x == NULL) { put_jint(0); } else { put_jint(1); }
-- return; }
abbrev pub a_clearing_before_the_step_that_needs_its_room : SourceUnit
a_clearing_before_the_step_that_needs_its_room =
    unit_of
    (static_weak 1 (codes "w")
    ∷ native 2 Void (codes "Java_A_f") []
    (Plain 3 (Declare (Simple (ReferenceVariable JIntArray)) (codes "a") (FromCall (call (codes "NewIntArray") (Value (Number 200 false) ∷ []))))
    ∷ Plain 4 (Assign (codes "w") (FromCall (call (codes "NewWeakGlobalRef") (given (codes "a") ∷ []))))
    ∷ Plain 5 (Perform (call (codes "DeleteLocalRef") (given (codes "a") ∷ [])))
    ∷ Plain 6 (Declare (Simple (ReferenceVariable JIntArray)) (codes "b") (FromCall (call (codes "NewIntArray") (Value (Number 200 false) ∷ []))))
    ∷ Plain 7 (Declare (Simple (ReferenceVariable JObject)) (codes "x") (FromCall (call (codes "NewLocalRef") (given (codes "w") ∷ []))))
    ∷ If 8 (TestExpr (Binary Equal (Variable (codes "x")) (Named Null)))
    (block
    (Plain 8 (PutJint (Number 0 false))
    ∷ [])
    8)
    (ElseBlock (block
    (Plain 8 (PutJint (Number 1 false))
    ∷ [])
    8))
    ∷ Return 9 None
    ∷ [])
    9
    ∷ [])

a_clearing_before_the_step_that_needs_its_room-accepted : IsAccepted a_clearing_before_the_step_that_needs_its_room
unfolding opened
a_clearing_before_the_step_that_needs_its_room-accepted = accepted a_clearing_before_the_step_that_needs_its_room refl refl refl

a_clearing_before_the_step_that_needs_its_room-run : IsWorkedRun a_clearing_before_the_step_that_needs_its_room (codes "heap 512\nclass A\nthread Java_A_f\n") (codes "1*20\n")
    (codes "T1 0\nT1 ended\njournal 1 1 1 1 1 1 ~46 1 1 1 1 1 1 1 1\n")
unfolding opened
a_clearing_before_the_step_that_needs_its_room-run = worked-run a_clearing_before_the_step_that_needs_its_room an_object_that_a_weak_reference_alone_is_left_of-world ((Turn 1, Some 20) ∷ []) (replicate 6 (Alone false) ++ AfterClearing false ∷ []) a_clearing_before_the_step_that_needs_its_room-accepted an_object_that_a_weak_reference_alone_is_left_of-means refl refl refl refl

-- a slice of a marking that ends with it
a_slice_of_a_marking_that_ends_with_it-run : IsWorkedRun an_object_that_a_weak_reference_alone_is_left_of (codes "heap 512\nclass A\nthread Java_A_f\n") (codes "1*4 s 1*9\n")
    (codes "T1 0\nT1 ended\njournal 1 1 1 1 ~46 1 1 1 1 1 1 1\n")
unfolding opened
a_slice_of_a_marking_that_ends_with_it-run = worked-run an_object_that_a_weak_reference_alone_is_left_of an_object_that_a_weak_reference_alone_is_left_of-world ((Turn 1, Some 4) ∷ (Slice, None) ∷ (Turn 1, Some 9) ∷ []) (replicate 4 (Alone false) ++ Sliced (46 ∷ []) ∷ []) an_object_that_a_weak_reference_alone_is_left_of-accepted an_object_that_a_weak_reference_alone_is_left_of-means refl refl refl refl

-- slices while a local reference holds the object
slices_while_a_local_reference_holds_the_object-run : IsWorkedRun an_object_that_a_weak_reference_alone_is_left_of (codes "heap 512\nclass A\nthread Java_A_f\n") (codes "s 1*3 s*2 1*9\n")
    (codes "T1 1\nT1 ended\njournal 1 1 1 1 1 1 1 1 1 1 1\n")
unfolding opened
slices_while_a_local_reference_holds_the_object-run = worked-run an_object_that_a_weak_reference_alone_is_left_of an_object_that_a_weak_reference_alone_is_left_of-world ((Slice, None) ∷ (Turn 1, Some 3) ∷ (Slice, Some 2) ∷ (Turn 1, Some 9) ∷ []) [] an_object_that_a_weak_reference_alone_is_left_of-accepted an_object_that_a_weak_reference_alone_is_left_of-means refl refl refl refl

-- a slice after each of the first steps
a_slice_after_each_of_the_first_steps-run : IsWorkedRun an_object_that_a_weak_reference_alone_is_left_of (codes "heap 512\nclass A\nthread Java_A_f\n") (codes "1 s 1 s 1 s 1 s 1 s 1*9\n")
    (codes "T1 0\nT1 ended\njournal 1 1 1 1 ~46 1 1 1 1 1 1 1\n")
unfolding opened
a_slice_after_each_of_the_first_steps-run = worked-run an_object_that_a_weak_reference_alone_is_left_of an_object_that_a_weak_reference_alone_is_left_of-world ((Turn 1, None) ∷ (Slice, None) ∷ (Turn 1, None) ∷ (Slice, None) ∷ (Turn 1, None) ∷ (Slice, None) ∷ (Turn 1, None) ∷ (Slice, None) ∷ (Turn 1, None) ∷ (Slice, None) ∷ (Turn 1, Some 9) ∷ []) (replicate 1 (Alone false) ++ Sliced [] ∷ [] ++ replicate 1 (Alone false) ++ Sliced [] ∷ [] ++ replicate 1 (Alone false) ++ Sliced [] ∷ [] ++ replicate 1 (Alone false) ++ Sliced (46 ∷ []) ∷ []) an_object_that_a_weak_reference_alone_is_left_of-accepted an_object_that_a_weak_reference_alone_is_left_of-means refl refl refl refl
