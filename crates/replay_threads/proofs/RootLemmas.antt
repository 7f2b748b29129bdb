-- The roots of a state are the objects made at load and what its threads refer to.
use Rattle.std.proofs.Common.{◌≡◌, ℕ, List, [], ◌∷◌, ◌++◌, map, Option, Some, None, refl, sym, ap, ◌∙◌, subst, append_assoc}
use Rattle.std.specs.List.{flat_map}
use Rattle.std.specs.Prelude.{Contains}
use Rattle.std.specs.Option.{option_to_list}
use Rattle.std.proofs.lemmas.List.Concat.{flat_map-cons}
use Rattle.syntax.specs.Tree.{SourceUnit}
use Rattle.class_rules.specs.Class.{Classes}
use Rattle.semantics.specs.Object.{Reference}
use Rattle.semantics.specs.Reachable.{argument_roots, frame_roots, from_one, loaded_count, roots, thread_roots}
use Rattle.semantics.specs.State.{State, views}
use Rattle.semantics.specs.Thread.{Caller, Frame, Monitor, Shared, Thread}
use Rattle.semantics.specs.World.{Invocation, World}
use Rattle.semantics.specs.Task.{Task}
use Rattle.replay_steps.specs.declared.callers.Entering.{Entering}
use Rattle.replay_steps.specs.declared.activation.Activation.{Activation}
use Rattle.replay_threads.specs.declared.state.State.{State as StateInMemory}
use Rattle.replay_threads.specs.declared.thread.Thread.{Thread as ThreadInMemory}
use Rattle.replay_arguments.specs.Shares.{shared_view}
use Rattle.replay_objects.specs.Monitors.{owned_objects}
use Rattle.replay_threads.specs.Rows.{thread_names, activation_names, call_names, entering_names, root_names}
use Rattle.replay_threads.specs.States.{Stands, ThreadsStand, viewed_in}
use Rattle.replay_threads.specs.Threads.{IsDue, ThreadStands, WorkStands, calls_to_come, last_first}
use Rattle.replay_steps.specs.Callers.{CallerStands}
use Rattle.replay_threads.proofs.CallerLists.{names_same}
use Rattle.replay_threads.proofs.StateLemmas.{viewed_same}

-- ---- what a thread refers to

frame_names : (o : Option Activation) (s : Thread) → WorkStands o s → flat_map (λ (f : Frame). f.references) s.frames ≡ activation_names o
frame_names None s h = ap (λ (fs : List Frame). flat_map (λ (f : Frame). f.references) fs) h.1
frame_names (Some a) s h = ap (λ (fs : List Frame). flat_map (λ (f : Frame). f.references) fs) h.1

caller_names : (a : Activation) (c : Caller) → CallerStands a c → call_names a ≡ frame_roots c.frames
caller_names a c h = ap frame_roots (sym h.frames)

-- what is passed to a call that is to be entered
argument_names : (o : Option Entering) (tasks : Option (List Task)) (callers : List Caller) (calls : List Invocation) → IsDue o tasks callers → argument_roots callers tasks (calls_to_come o calls) ≡ entering_names o
argument_names None (Some tasks) [] calls h = refl
argument_names None (Some tasks) (c ∷ callers) calls h = refl
argument_names None None [] calls h = refl
argument_names None None (c ∷ callers) calls h = absurd h
argument_names (Some e) None (c ∷ callers) calls h = refl
argument_names (Some e) None [] calls h = absurd h
argument_names (Some e) (Some tasks) callers calls h = absurd h

names_are : (unit : SourceUnit) (classes : Classes) (t : ThreadInMemory) (s : Thread) → ThreadStands unit classes t s → thread_roots s ≡ thread_names t
names_are unit classes t s h =
    let callers = flat_map call_names (last_first t.callers.items) in
    let passed = entering_names t.entering in
    ap (λ (l : List ℕ). l ++ argument_roots s.callers s.tasks s.calls ++ frame_roots s.frames ++ option_to_list s.pending) (sym (names_same call_names (λ (c : Caller). frame_roots c.frames) caller_names (last_first t.callers.items) s.callers h.callers))
    ∙ ap (λ (l : List ℕ). callers ++ l ++ frame_roots s.frames ++ option_to_list s.pending) (ap (argument_roots s.callers s.tasks) h.calls ∙ argument_names t.entering s.tasks s.callers t.calls.now h.due)
    ∙ ap (λ (l : List ℕ). callers ++ passed ++ l ++ option_to_list s.pending) (frame_names t.activation s h.work)
    ∙ ap (λ (r : Reference). callers ++ passed ++ activation_names t.activation ++ option_to_list r) h.pending

module _ (unit : SourceUnit) (classes : Classes) where
  all_names : (ts : List ThreadInMemory) (ss : List Thread) → ThreadsStand unit classes ts ss → flat_map thread_roots ss ≡ flat_map thread_names ts
  all_names [] [] h = refl
  all_names [] (s ∷ ss) h = absurd h
  all_names (t ∷ ts) [] h = absurd h
  all_names (t ∷ ts) (s ∷ ss) h =
      flat_map-cons thread_roots s ss
      ∙ ap (λ (l : List ℕ). l ++ flat_map thread_roots ss) (names_are unit classes t s h.0)
      ∙ ap (λ (l : List ℕ). thread_names t ++ l) (all_names ts ss h.1)
      ∙ sym (flat_map-cons thread_names t ts)

-- the roots of a state that one in memory stands for
pub roots_are : (unit : SourceUnit) (w : World) (m : StateInMemory) (s : State) → Stands unit w m s → roots w s ≡ from_one (loaded_count w) ++ root_names (shared_view m.shared) m.threads.items
roots_are unit w m s h =
    let loaded = from_one (loaded_count w) in
    let names = flat_map thread_roots s.threads in
    let globals = m.shared.globals in
    let owned = owned_objects m.shared.monitors in
    let ts = m.threads.items in
    ap (λ (x : Shared). loaded ++ x.globals ++ names ++ map (λ (o : Monitor). o.object) x.monitors ++ views s) h.shared
    ∙ ap (λ (l : List ℕ). loaded ++ globals ++ l ++ owned ++ views s) (all_names unit w.classes ts s.threads h.threads)
    ∙ ap (λ (l : List ℕ). loaded ++ globals ++ flat_map thread_names ts ++ owned ++ l) (sym (viewed_same unit w.classes ts s.threads h.threads))
    ∙ ap (λ (l : List ℕ). l ++ owned ++ flat_map viewed_in ts) (append_assoc loaded globals (flat_map thread_names ts))
    ∙ ap (λ (l : List ℕ). l ++ flat_map viewed_in ts) (append_assoc loaded (globals ++ flat_map thread_names ts) owned)
    ∙ append_assoc loaded (globals ++ flat_map thread_names ts ++ owned) (flat_map viewed_in ts)

-- so each root is one that memory has, and each that memory has is a root
pub root_among : (unit : SourceUnit) (w : World) (m : StateInMemory) (s : State) → Stands unit w m s → (n : ℕ) → Contains (roots w s) n → Contains (from_one (loaded_count w) ++ root_names (shared_view m.shared) m.threads.items) n
root_among unit w m s h n k = subst (λ (l : List ℕ). Contains l n) (roots_are unit w m s h) k

pub among_roots : (unit : SourceUnit) (w : World) (m : StateInMemory) (s : State) → Stands unit w m s → (n : ℕ) → Contains (from_one (loaded_count w) ++ root_names (shared_view m.shared) m.threads.items) n → Contains (roots w s) n
among_roots unit w m s h n k = subst (λ (l : List ℕ). Contains l n) (sym (roots_are unit w m s h)) k
