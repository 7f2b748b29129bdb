use Rattle.std.proofs.Common.{ℕ, Option, sym, ap, ◌∙◌, subst}
use Rattle.std.specs.Option.{IsSome}
use Rattle.class_rules.specs.Class.{class_named}
use Rattle.class_rules.specs.ClassIds.{number_of}
use Rattle.class_rules.specs.declared.class_id.ClassId.{ClassId}
use Rattle.class_queries.proofs.FoundMethods.{named, numbered}
use Rattle.class_queries.proofs.methods.namesake.Goals as goal

pub unwrap-requires : goal.unwrap-requires
unwrap-requires c = numbered c.find.result (subst (λ (o : Option ℕ). IsSome o) (sym (c.find.ensures ∙ ap (class_named c.args.classes.now) c.name.ensures)) (named c.args.classes.now c.args.class.number c.requires))
