use Rattle.std.proofs.Common.{subst}
use Rattle.machine_collections.specs.Roots.{CallersAreStacked}
use Rattle.machine_collections.proofs.roots.push_thread.Goals as goal

pub returns-clause-stacked : goal.returns-clause-stacked
returns-clause-stacked c = (subst CallersAreStacked c.deref.ensures.value c.push_callers.ensures.stacked, c.push_call.ensures.stacked)
