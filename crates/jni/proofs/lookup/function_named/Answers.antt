use Rattle.std.proofs.Common.{◌∙◌, ap, find}
use Rattle.jni.specs.Table.{has_name}
use Rattle.jni.proofs.Names.{found}
use Rattle.jni.proofs.lookup.function_named.Goals as goal

pub returns : goal.returns
returns c =
    let name = c.args.name.now in
    c.first_named.ensures ∙ ap (find (has_name name)) c.functions_at.ensures ∙ found name c.bucket.result c.bucket.ensures.number
