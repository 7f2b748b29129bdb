use Rattle.test_equations.proofs.Slices.{with_slices, without, without_them}
use Rattle.test_equations.proofs.slices_allow_clearings.Goals as goal

pub returns-clause-nothing : goal.returns-clause-nothing
returns-clause-nothing c = λ unit w s end journal words h. with_slices unit w words h

pub returns-clause-clearings : goal.returns-clause-clearings
returns-clause-clearings c = λ unit w s end journal words n h. without unit w h n

pub returns-clause-same : goal.returns-clause-same
returns-clause-same c = λ unit w s end journal words n. (λ h. without_them unit w h n, λ h. with_slices unit w words h)
