use Rattle.machine_collections.proofs.PutTogether.{weak_there}
use Rattle.machine_collections.proofs.gathered.fill_all.Goals as goal

pub fill_objects-requires-clause-weak : goal.fill_objects-requires-clause-weak
fill_objects-requires-clause-weak c = weak_there c.args.store.now.heap c.args.store.now.weaks c.requires.referred.weaks
