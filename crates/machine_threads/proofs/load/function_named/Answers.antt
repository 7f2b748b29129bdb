use Rattle.machine_threads.proofs.LoadLemmas.{numbered_found, none_found}
use Rattle.machine_threads.proofs.load.function_named.Goals as goal

pub returns-clause-found : goal.returns-clause-found
returns-clause-found c = numbered_found c.args.program.now c.args.functions.now c.args.name.now c.find.result c.requires c.find.ensures.function c.find.ensures.number c.find.ensures.name

pub returns-clause-unknown : goal.returns-clause-unknown
returns-clause-unknown c = none_found c.args.program.now c.args.functions.now c.args.name.now c.find.result c.requires c.find.ensures.function
