-- A call in progress that is lent from its memory.
use Rattle.std.specs.Borrow.{Lends, MutBor, Fml}
use Rattle.machine_scenes.specs.declared.activation.Activation.{Activation}
use Rattle.machine_scenes.specs.contracts.activation.Activation.{the_row as activation_row}
use Rattle.machine_threads.specs.contracts.boxed_activation.BoxedActivation.{the_row as boxed_row}

-- the call ends as what is left behind r
abbrev pub LendsActivation : MutBor Activation → MutBor Activation → Fml
LendsActivation boxed r = Lends boxed_row activation_row boxed r (λ w. w)
