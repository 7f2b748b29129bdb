-- The cases of texts/journals.cases, as gate/worked_equations writes them.
use Rattle.std.specs.Prelude.{◌∷◌, ◌++◌, true, false, [], Some, None, codes, refl}
use Rattle.syntax.specs.declared.unit.ResultType.TheVariants.{Jint as IntResult}
use Rattle.syntax.specs.Tree.{Number, Return, SourceUnit}
use Rattle.semantics.specs.World.{World}
use Rattle.world_values.specs.WorldLines.{ClassLine, ThreadLine, Lines}
use Rattle.world_values.specs.WorldMeaning.{world_of}
use Rattle.world_values.specs.WorldRules.{IsWorldText}
use Rattle.test_equations.specs.Claims.{IsAccepted, IsWorkedReplay, IsStoppedReplay}
use Rattle.test_equations.proofs.Programs.{unit_of, native, entry, entries}
use Rattle.test_equations.proofs.Computed.{opened, accepted, world-text, worked-replay, stopped-replay}

-- eight threads
-- JNIEXPORT jint JNICALL Java_A_f(JNIEnv *env, jclass cls) { return 0; }
abbrev pub eight_threads : SourceUnit
eight_threads =
    unit_of
    (native 1 IntResult (codes "Java_A_f") []
    (Return 1 (Some (Number 0 false))
    ∷ [])
    1
    ∷ [])

abbrev eight_threads-lines : Lines
eight_threads-lines =
    (2, ClassLine (codes "A") None)
    ∷ (3, ThreadLine (codes "Java_A_f") [])
    ∷ (4, ThreadLine (codes "Java_A_f") [])
    ∷ (5, ThreadLine (codes "Java_A_f") [])
    ∷ (6, ThreadLine (codes "Java_A_f") [])
    ∷ (7, ThreadLine (codes "Java_A_f") [])
    ∷ (8, ThreadLine (codes "Java_A_f") [])
    ∷ (9, ThreadLine (codes "Java_A_f") [])
    ∷ (10, ThreadLine (codes "Java_A_f") [])
    ∷ []

abbrev eight_threads-world : World
eight_threads-world = world_of 1 512 eight_threads-lines

eight_threads-means : IsWorldText (codes "heap 512\nclass A\nthread Java_A_f\nthread Java_A_f\nthread Java_A_f\nthread Java_A_f\nthread Java_A_f\nthread Java_A_f\nthread Java_A_f\nthread Java_A_f\n") eight_threads-world
unfolding opened
eight_threads-means = world-text (codes "heap 512\nclass A\nthread Java_A_f\nthread Java_A_f\nthread Java_A_f\nthread Java_A_f\nthread Java_A_f\nthread Java_A_f\nthread Java_A_f\nthread Java_A_f\n") 512 false eight_threads-lines 1 refl refl refl refl refl

eight_threads-accepted : IsAccepted eight_threads
unfolding opened
eight_threads-accepted = accepted eight_threads refl refl refl

eight_threads-replay : IsWorkedReplay eight_threads (codes "heap 512\nclass A\nthread Java_A_f\nthread Java_A_f\nthread Java_A_f\nthread Java_A_f\nthread Java_A_f\nthread Java_A_f\nthread Java_A_f\nthread Java_A_f\n") (codes "1 2 3 4 5 6 7 8 8 8\n") (codes "T1 running\nT2 running\nT3 running\nT4 running\nT5 running\nT6 running\nT7 running\nT8 ended\njournal 1 2 3 4 5 6 7 8 8 8\n")
unfolding opened
eight_threads-replay = worked-replay eight_threads eight_threads-world (entries 1 1 ++ entries 2 1 ++ entries 3 1 ++ entries 4 1 ++ entries 5 1 ++ entries 6 1 ++ entries 7 1 ++ entries 8 3) eight_threads-accepted eight_threads-means refl refl refl refl

-- an entry that refuses nothing
abbrev an_entry_that_refuses_nothing-lines : Lines
an_entry_that_refuses_nothing-lines =
    (2, ClassLine (codes "A") None)
    ∷ (3, ThreadLine (codes "Java_A_f") [])
    ∷ []

abbrev an_entry_that_refuses_nothing-world : World
an_entry_that_refuses_nothing-world = world_of 1 512 an_entry_that_refuses_nothing-lines

an_entry_that_refuses_nothing-means : IsWorldText (codes "heap 512\nclass A\nthread Java_A_f\n") an_entry_that_refuses_nothing-world
unfolding opened
an_entry_that_refuses_nothing-means = world-text (codes "heap 512\nclass A\nthread Java_A_f\n") 512 false an_entry_that_refuses_nothing-lines 1 refl refl refl refl refl

an_entry_that_refuses_nothing-stopped : IsStoppedReplay eight_threads (codes "heap 512\nclass A\nthread Java_A_f\n") (codes "1!\n") 1
unfolding opened
an_entry_that_refuses_nothing-stopped = stopped-replay eight_threads an_entry_that_refuses_nothing-world [] (entry 1 true) [] eight_threads-accepted an_entry_that_refuses_nothing-means refl refl refl refl

-- an entry after the end
an_entry_after_the_end-stopped : IsStoppedReplay eight_threads (codes "heap 512\nclass A\nthread Java_A_f\n") (codes "1 1 1 1\n") 4
unfolding opened
an_entry_after_the_end-stopped = stopped-replay eight_threads an_entry_that_refuses_nothing-world (entries 1 3) (entry 1 false) [] eight_threads-accepted an_entry_that_refuses_nothing-means refl refl refl refl
