use Rattle.scan.proofs.FirstFaults.{one_first_fault, no_fault_where_spelled}
use Rattle.scan.proofs.laws.one_first_fault.Goals as goal

pub returns-clause-one : goal.returns-clause-one
returns-clause-one c = one_first_fault

pub returns-clause-none : goal.returns-clause-none
returns-clause-none c = no_fault_where_spelled
