use Rattle.std.proofs.Common.{◌≡◌, ◌++◌, drop}
use Rattle.type_rules.specs.TypeRules.{has_repeated}
use Rattle.types.proofs.taken.Taken.enter.Given as goal

abbrev pub invariant-loop-name : goal.invariant-loop-name
invariant-loop-name l = record {
  taken : l.self ++ drop l.name-index l.names ≡ l.names;
  repeated : l.repeated ≡ has_repeated l.self;
}
