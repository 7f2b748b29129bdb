-- How a call returns: into its caller, or, where it has none, as the end of what the thread called.
use Rattle.std.specs.Prelude.{ℕ, pos, List, [], ◌∷◌, Some, None}
use Rattle.jni.specs.declared.kinds.ResultKind.{ResultKind}
use Rattle.jni.specs.declared.kinds.ResultKind.TheVariants.{NewLocal, GivesInt}
use Rattle.class_rules.specs.ClassIds.{class_id}
use Rattle.semantics.specs.Object.{Reference}
use Rattle.semantics.specs.World.{Invocation}
use Rattle.semantics.specs.CallEffects.{CallResult, NoResult, NullResult, ScalarResult, ReferenceResult}
use Rattle.semantics.specs.CallStep.{put, received}
use Rattle.semantics.specs.Heap.{Heap, class_of}
use Rattle.semantics.specs.declared.event.Ending.{Ending}
use Rattle.semantics.specs.declared.event.Ending.TheVariants.{Unfinished, Ended, Uncaught}
use Rattle.semantics.specs.declared.event.Event.TheVariants.{Quiet}
use Rattle.semantics.specs.Thread.{Thread, Caller, Monitor, Shared, Advance, Advances, without_owner}
use Rattle.semantics.specs.declared.value.Value.TheVariants.{Int}

-- ---- without a caller

-- the ending of a thread after its call
abbrev pub ending_after : Heap → Reference → List Invocation → Ending
ending_after heap (Some n) calls = Uncaught (class_id (class_of heap n))
ending_after heap None [] = Ended
ending_after heap None (call ∷ calls) = Unfinished

-- a thread that has ended owns no monitor
abbrev pub monitors_after : Ending → ℕ → List Monitor → List Monitor
monitors_after Unfinished k monitors = monitors
monitors_after ending k monitors = without_owner monitors k

-- a thread that has ended drops its other calls
abbrev pub calls_after : Ending → List Invocation → List Invocation
calls_after Unfinished calls = calls
calls_after ending calls = []

-- frame and variables are dropped, and with an exception pending the thread has ended
abbrev pub last_return : (k : ℕ) → Shared → Thread → Advance
last_return k s t =
    let ending = ending_after s.heap t.pending t.calls in
    Advances (record s { monitors = monitors_after ending k s.monitors })
    (record {
      calls = calls_after ending t.calls;
      callers = [];
      tasks = None;
      variables = [];
      frames = [];
      pending = None;
      ending = ending;
    }) Quiet

-- ---- into a caller

-- what a call gives that returns with an exception pending: 0, NULL or nothing
abbrev pub nothing_of : ResultKind → CallResult
nothing_of NewLocal = NullResult
nothing_of GivesInt = ScalarResult (Int (pos 0))
nothing_of kind = NoResult

-- what a caller that wants this is given: a reference or a `jint`, and nothing for what doesn't fit, as in no accepted program
abbrev pub fitted : ResultKind → CallResult → CallResult
fitted NewLocal (ReferenceResult r) = ReferenceResult r
fitted GivesInt (ScalarResult (Int z)) = ScalarResult (Int z)
fitted kind given = nothing_of kind

-- the same, but nothing where an exception is pending
abbrev pub given_back : Reference → ResultKind → CallResult → CallResult
given_back None kind given = fitted kind given
given_back (Some n) kind given = nothing_of kind

-- a caller goes on in its place: with its variables, its frames and what is left of its tasks
abbrev pub resumed_in : Thread → Caller → List Caller → Thread
resumed_in t caller callers = record t {
  callers = callers;
  tasks = Some caller.tasks;
  variables = caller.variables;
  frames = caller.frames;
}

-- frame and variables are dropped, the result goes where the caller wants it, a reference into its current frame too, and
-- an exception stays pending
abbrev pub return_into : Shared → Thread → CallResult → Caller → List Caller → Advance
return_into s t given caller callers = put caller.target given s (received caller.result given (resumed_in t caller callers))

-- ---- a return

-- a return of a call with these callers
abbrev pub return_by : (k : ℕ) → Shared → Thread → CallResult → List Caller → Advance
return_by k s t given [] = last_return k s t
return_by k s t given (caller ∷ callers) = return_into s t (given_back t.pending caller.result given) caller callers

-- the return of the call in progress, which gives this
abbrev pub return_step : (k : ℕ) → Shared → Thread → CallResult → Advance
return_step k s t given = return_by k s t given t.callers
