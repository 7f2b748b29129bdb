use Rattle.std.proofs.Common.{◌∙◌, is_some, sym, ap, refl}
use Rattle.std.specs.HashMap.{get_by}
use Rattle.std.specs.Str.{bytes_eq}
use Rattle.base.specs.Bytes.{Identifier}
use Rattle.syntax.specs.Views.{function_tree}
use Rattle.functions.proofs.TableLemmas.{known, one_more}
use Rattle.functions.proofs.functions.add.Goals as goal

pub returns-then-contains_key : goal.returns-then-contains_key
returns-then-contains_key c = λ before counted all.
    known before (function_tree c.args.function.now) c.args.by_name.now all
    (ap (λ (x : Identifier). is_some (get_by (λ key. bytes_eq x key.now) c.args.by_name.now)) (sym c.as_bytes-name.ensures) ∙ sym c.contains_key.ensures ∙ c.if-contains_key.true)

pub returns-in-Ok : goal.returns-in-Ok
returns-in-Ok c = λ before counted all.
    one_more before (function_tree c.args.function.now) c.args.by_name.now all _ c.insert.new.self c.as_bytes-name.result.now c.as_bytes-name.ensures counted refl
    (sym c.contains_key.ensures ∙ c.if-contains_key.false) c.in-Ok.ensures.updates
