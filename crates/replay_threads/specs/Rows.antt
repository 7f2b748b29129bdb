-- What the threads of a replay refer to.
use Rattle.std.specs.Prelude.{ℕ, List, [], ◌++◌, filter_map, flat_map, map, Option, None, Some}
use Rattle.std.specs.Option.{option_to_list}
use Rattle.replay_steps.specs.declared.activation.Activation.{Activation}
use Rattle.semantics.specs.Thread.{Shared}
use Rattle.semantics.specs.Heap.{reference_in}
use Rattle.semantics.specs.Views.{name_of, object_value_view}
use Rattle.replay_steps.specs.declared.callers.Entering.{Entering}
use Rattle.replay_objects.specs.Frames.{references_in}
use Rattle.replay_objects.specs.Monitors.{owned_objects}
use Rattle.replay_threads.specs.declared.thread.Thread.{Thread}
use Rattle.replay_threads.specs.States.{viewed_in}
use Rattle.replay_threads.specs.Threads.{last_first}

abbrev pub pending_names : Option ℕ → List ℕ
pending_names pending = option_to_list pending

-- the names in the frames of a call
abbrev pub call_names : Activation → List ℕ
call_names a = references_in a.locals.frames

-- those of the call in progress, if there is one
abbrev pub activation_names : Option Activation → List ℕ
activation_names None = []
activation_names (Some a) = call_names a

-- those among the arguments of a call that is to be entered, if there is one
abbrev pub entering_names : Option Entering → List ℕ
entering_names None = []
entering_names (Some e) = filter_map reference_in (map object_value_view e.arguments.items)

-- those of all calls of a thread, and that of the pending exception
abbrev pub thread_names : Thread → List ℕ
thread_names t =
    flat_map call_names (last_first t.callers.items) ++ entering_names t.entering
    ++ activation_names t.activation ++ pending_names (name_of t.pending)

-- the names of global references, of those that threads refer to, of what they own, and of the objects of their views
abbrev pub root_names : Shared → List Thread → List ℕ
root_names s ts = s.globals ++ flat_map thread_names ts ++ owned_objects s.monitors ++ flat_map viewed_in ts
