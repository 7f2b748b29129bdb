-- The roots: what refers to objects from outside of the heap, place by place.
use Rattle.std.specs.Prelude.{◌≡◌, ℕ, List, [], ◌∷◌, ◌++◌, flat_map, map, Option, Some, None, slice_get, nat_lt, if◌then◌else◌}
use Rattle.std.specs.Option.{option_map, option_to_list}
use Rattle.heap.specs.declared.value.Value.{Value}
use Rattle.heap.specs.declared.value.Value.TheVariants.{Number, Null, Block as Address}
use Rattle.heap.specs.Heap.{Block, Space, IsAddress}
use Rattle.machine_threads.specs.declared.thread.Entering.{Entering}
use Rattle.machine_threads.specs.declared.thread.Thread.{Thread}
use Rattle.tables.specs.Locals.{AreStacked}
use Rattle.monitors.specs.Monitors.{addresses}
use Rattle.machine_scenes.specs.declared.activation.Activation.{Activation}
use Rattle.machine_scenes.specs.declared.store.Store.{Store}
use Rattle.machine_scenes.specs.Given.{object_there}

-- the name of a reference's object, and none for NULL
abbrev pub reference_names : Space → Option ℕ → List ℕ
reference_names space reference = option_to_list (option_map (object_there space) reference)

-- the objects made at load
abbrev pub loaded_places : List ℕ → List (Option ℕ)
loaded_places loaded = map (λ (a : ℕ). Some a) loaded

-- the slots of the local references of a call
abbrev pub call_places : Activation → List (Option ℕ)
call_places call = call.locals.slots

-- of a call in progress, or of none
abbrev pub slots_of : Option Activation → List (Option ℕ)
slots_of None = []
slots_of (Some activation) = activation.locals.slots

-- the address of an argument that is a reference; a number and NULL have none
abbrev pub argument_place : Value → Option ℕ
argument_place (Number n) = None
argument_place Null = None
argument_place (Address a) = Some a

-- of a call that isn't entered yet, or of none, argument by argument
abbrev pub argument_places : Option Entering → List (Option ℕ)
argument_places None = []
argument_places (Some entering) = map argument_place entering.arguments.items

-- what a thread refers to: the local references of the calls from which others were made, what the last of them gives a call that isn't
-- entered yet, the local references of the call in progress, and the pending exception
abbrev pub thread_places : Thread → List (Option ℕ)
thread_places t = flat_map call_places t.callers.items ++ (argument_places t.entering ++ (slots_of t.call ++ t.pending ∷ []))

-- the roots: the objects made at load, the global references, what threads refer to, and the objects whose monitors are owned
abbrev pub root_places : Store → List Thread → List (Option ℕ)
root_places store threads = loaded_places store.loaded.items ++ (store.globals ++ (flat_map thread_places threads ++ addresses store.monitors))

-- ---- views

-- the names of the objects whose blocks are pinned, as those that are viewed are
abbrev pub pinned_names : List Block → List ℕ
pinned_names [] = []
pinned_names (b ∷ blocks) = let rest = pinned_names blocks in if nat_lt 0 b.pins then b.birth ∷ rest else rest

-- ---- frames

-- a call's local references lie frame above frame
abbrev pub CallIsStacked : Option Activation → Type 0
CallIsStacked None = Unit {0}
CallIsStacked (Some activation) = AreStacked activation.locals

-- those of each of these calls do
abbrev pub CallersAreStacked : List Activation → Type 0
CallersAreStacked callers = (i : ℕ) (call : Activation) → slice_get callers i ≡ Some call → AreStacked call.locals

-- those of a thread do
abbrev pub ThreadIsStacked : Thread → Type 0
ThreadIsStacked t = CallersAreStacked t.callers.items × CallIsStacked t.call

-- those of threads do
abbrev pub ThreadsAreStacked : List Thread → Type 0
ThreadsAreStacked threads = (i : ℕ) (t : Thread) → slice_get threads i ≡ Some t → ThreadIsStacked t

-- each of these is the address of a block
abbrev pub AreAddresses : Space → List ℕ → Type 0
AreAddresses space references = (i a : ℕ) → slice_get references i ≡ Some a → IsAddress space a
