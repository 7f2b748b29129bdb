use Rattle.std.proofs.Common.{◌++◌, map, ap, ◌∙◌, rules}
use Rattle.types.specs.Faults.{fault_of}
use Rattle.program_check.specs.AllFaults.{entry_of, of_type_rule}
use Rattle.program_check.proofs.AllFaultsLemmas.{one_told, all_told}
use Rattle.program_check.proofs.faults.told_types.Goals as goal

pub loop-fault-preserved : goal.loop-fault-preserved
loop-fault-preserved c =
    ap (λ faults. map entry_of faults ++ map of_type_rule (map fault_of c.next.new.self.rest.items)) c.in_ok-push.ensures.items
    ∙ one_told fault_of of_type_rule c.loop-fault.faults.items c.told_type.result c.loop-fault.left.rest.items c.next.new.self.rest.items c.in-Some.fault c.in-Some.ensures.cases.0 c.told_type.ensures
    ∙ c.loop-fault.invariant

pub returns : goal.returns
returns c = all_told fault_of of_type_rule c.loop-fault.faults.items c.loop-fault.left.rest.items (map of_type_rule (map fault_of c.args.found.items)) (search rules) c.loop-fault.invariant
