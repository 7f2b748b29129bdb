use Rattle.std.proofs.Common.{◌∷◌, [], append-nil, sym, ap, ◌∙◌}
use Rattle.std.specs.Str.{bytes_eq}
use Rattle.class_rules.specs.Mangling.{unescaped}
use Rattle.class_queries.proofs.FoundMethods.{no_path}
use Rattle.class_queries.proofs.methods.is_path.Goals as goal

pub returns-in-Some-after_part-2 : goal.returns-in-Some-after_part-2
returns-in-Some-after_part-2 c =
    let method = c.args.method.now in
    c.is_empty.ensures
    ∙ no_path c.in-Some-after_part-2.rest.now
    ∙ sym (c.in-Some-after_part-2.ensures [])
    ∙ ap (λ xs. bytes_eq (unescaped c.in-Some-after_part.rest.now) xs) (append-nil method)
    ∙ sym (c.in-Some-after_part.ensures method)
    ∙ sym (c.in-Some.ensures (47 ∷ method))

pub returns-in-None : goal.returns-in-None
returns-in-None c =
    let method = c.args.method.now in
    sym (c.in-None.ensures [])
    ∙ ap (λ xs. bytes_eq (unescaped c.in-Some-after_part.rest.now) xs) (append-nil method)
    ∙ sym (c.in-Some-after_part.ensures method)
    ∙ sym (c.in-Some.ensures (47 ∷ method))
