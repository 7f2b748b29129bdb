-- What all threads share, in memory, and what one of them can see.
use Rattle.semantics.specs.Sight.{Sight, seen}
use Rattle.semantics.specs.Thread.{Shared}
use Rattle.replay_arguments.specs.declared.shared.Shared.{Shared as SharedInMemory}
use Rattle.replay_terms.specs.Views.{Contents, variables_view}

abbrev pub shared_view : SharedInMemory → Shared
shared_view s = record { heap = s.store; statics = s.statics; globals = s.globals; monitors = s.monitors }

-- what a thread with these variables can see
abbrev pub sight_in : Shared → Contents → Sight
sight_in s vs = seen (variables_view vs) s.statics s.heap
