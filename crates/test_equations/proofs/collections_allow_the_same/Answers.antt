use Rattle.test_equations.proofs.Collections.{without, with_them}
use Rattle.test_equations.proofs.collections_allow_the_same.Goals as goal

pub returns : goal.returns
returns c = λ unit w s end journal words n. (λ h. without unit w h n, λ h. with_them unit w words h n)
