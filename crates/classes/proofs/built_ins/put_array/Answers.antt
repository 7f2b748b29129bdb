use Rattle.std.proofs.Common.{◌≡◌, ◌++◌, ◌∷◌, [], subst, OnOk}
use Rattle.class_rules.specs.Class.{Class}
use Rattle.classes.proofs.built_ins.put_array.Goals as goal

pub returns : goal.returns
returns c = subst (λ (d : Class). OnOk c.put.result (c.put.new.self ≡ c.args.classes.now ++ d ∷ [])) (c.of_arrays.ensures c.args.name) c.put.ensures.ok
