-- What pushing leaves on a stack of expressions, as a list of their trees, the last first.
use Rattle.std.proofs.Common.{◌≡◌, List, ◌∷◌, ap, refl, ◌∙◌}
use Rattle.syntax.specs.Nodes.{top, on_two}
use Rattle.syntax.specs.Tree.{Expr}

-- one more tree lies on those before
pub pushed_one : (e : Expr) (new old : List Expr) → new ≡ e ∷ old → new ≡ top new ∷ old
pushed_one e new old h = rw h refl

pub pushed_top : (e : Expr) (new old : List Expr) → new ≡ e ∷ old → top new ≡ e
pushed_top e new old h = ap top h

-- what a node makes of the last two trees, of which each was pushed by itself
pub made_two : (f : Expr → Expr → Expr) (made right left old : List Expr) → made ≡ on_two f right → right ≡ top right ∷ left → left ≡ top left ∷ old → made ≡ f (top left) (top right) ∷ old
made_two f made right left old m r l = m ∙ ap (on_two f) (r ∙ ap (λ (es : List Expr). top right ∷ es) l)
