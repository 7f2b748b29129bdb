-- Threads before their first calls, and calls that don't fit.
use Rattle.std.specs.Prelude.{◌≡◌, ℕ, List, [], ◌∷◌, ◌++◌, map, slice_get, Option, None}
use Rattle.semantics.specs.World.{Invocation}
use Rattle.semantics.specs.declared.event.Ending.TheVariants.{Unfinished}
use Rattle.replay_threads.specs.declared.thread.Thread.{Thread as ThreadInMemory}

-- the line of the first of these
abbrev pub first_line : List Invocation → Option ℕ
first_line calls = slice_get (map (λ (c : Invocation). c.line) calls) 0

-- a thread has all of these calls to come
pub record IsWaiting (t : ThreadInMemory) (calls : List Invocation) : Type 0 where
  pub same : t.calls.now ≡ calls
  pub uncalled : t.entering ≡ None
  pub idle : t.activation ≡ None
  pub alone : t.callers.items ≡ []
  pub calm : t.pending ≡ None
  pub unended : t.ending ≡ Unfinished

-- a thread that has all of these calls to come was added
pub record AddsWaiting (old : List ThreadInMemory) (calls : List Invocation) (new : List ThreadInMemory) : Type 0 where
  pub thread : ThreadInMemory
  pub waiting : IsWaiting thread calls
  pub added : new ≡ old ++ thread ∷ []

-- each thread has
abbrev pub AreWaiting : List ThreadInMemory → List (List Invocation) → Type 0
AreWaiting [] [] = Unit {0}
AreWaiting (t ∷ ts) (c ∷ cs) = IsWaiting t c × AreWaiting ts cs
AreWaiting ts cs = ⊥
