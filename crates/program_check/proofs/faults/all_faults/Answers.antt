use Rattle.std.proofs.lemmas.Result.{IfOk-weaker}
use Rattle.program_check.proofs.AllFaultsLemmas.{passes_in_memory, first_in_memory, each_in_memory}
use Rattle.program_check.proofs.faults.all_faults.Goals as goal

pub returns-clause-passes : goal.returns-clause-passes
returns-clause-passes c = IfOk-weaker c.gathered.result _ _ (λ faults h. passes_in_memory c.args.text.now faults.items h) c.gathered.ensures.all

pub returns-clause-first : goal.returns-clause-first
returns-clause-first c = IfOk-weaker c.gathered.result _ _ (λ faults h. first_in_memory c.args.text.now faults.items h) c.gathered.ensures.all

pub returns-clause-broken : goal.returns-clause-broken
returns-clause-broken c = IfOk-weaker c.gathered.result _ _ (λ faults h. each_in_memory c.args.text.now faults.items h) c.gathered.ensures.all
