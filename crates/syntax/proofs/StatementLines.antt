-- A statement in memory has its line.
use Rattle.std.proofs.Common.{◌≡◌, ℕ, refl}
use Rattle.syntax.specs.declared.stmt.Form.{Form as FormInMemory}
use Rattle.syntax.specs.declared.stmt.Form.TheVariants as form
use Rattle.syntax.specs.Parts.{line_of}
use Rattle.syntax.specs.Views.{form_tree}

pub line_is : (line : ℕ) (f : FormInMemory) → line_of (form_tree line f) ≡ line
line_is line (form.Plain p) = refl
line_is line (form.If test b d) = refl
line_is line (form.While e b) = refl
line_is line (form.Return e) = refl
