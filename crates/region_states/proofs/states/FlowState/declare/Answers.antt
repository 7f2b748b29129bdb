use Rattle.std.proofs.Common.{subst, ap, ◌∙◌}
use Rattle.syntax.specs.declared.declared_type.VariableType.{VariableType}
use Rattle.syntax.specs.declared.declared_type.DeclaredType.TheVariants.{Simple}
use Rattle.region_states.specs.NewNames.{tracked_name, AreNew}
use Rattle.region_states.specs.StatesInMemory.{names_of}
use Rattle.region_states.proofs.states.FlowState.declare.Goals as goal

pub declare_reference-requires : goal.declare_reference-requires
declare_reference-requires c =
    (subst (λ t. AreNew (names_of c.args.self.now) (tracked_name t c.args.name.now)) (c.in-Simple.is ∙ ap (λ (t : VariableType). Simple t) c.in-Reference.is) c.requires).0

pub declare_buffer-requires : goal.declare_buffer-requires
declare_buffer-requires c = (subst (λ t. AreNew (names_of c.args.self.now) (tracked_name t c.args.name.now)) c.in-Pointer.is c.requires).0

pub declare_buffer-requires-in-ConstChars : goal.declare_buffer-requires-in-ConstChars
declare_buffer-requires-in-ConstChars c = (subst (λ t. AreNew (names_of c.args.self.now) (tracked_name t c.args.name.now)) c.in-ConstChars.is c.requires).0
