use Rattle.std.proofs.Common.{◌∙◌, ap, find, not, sym}
use Rattle.std.specs.Option.{is_none}
use Rattle.jni.specs.Table.{has_name}
use Rattle.jni.proofs.Names.{found}
use Rattle.jni.proofs.lookup.known_function.Goals as goal

pub first_known-requires : goal.first_known-requires
first_known-requires c =
    let name = c.args.name.now in
    ap (λ o. not (is_none o)) (ap (find (has_name name)) c.functions_at.ensures ∙ found name c.bucket.result c.bucket.ensures.number) ∙ c.requires

pub returns : goal.returns
returns c =
    let name = c.args.name.now in
    sym (ap (find (has_name name)) c.functions_at.ensures ∙ found name c.bucket.result c.bucket.ensures.number) ∙ c.first_known.ensures
