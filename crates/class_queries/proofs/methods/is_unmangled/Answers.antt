use Rattle.std.proofs.Common.{◌≡◌, ◌++◌, ◌∷◌, sym, ap, ◌∙◌, is_some}
use Rattle.std.specs.Prelude.{◌&&◌, ◌==◌, not}
use Rattle.std.specs.List.{list_all}
use Rattle.std.specs.Str.{bytes_eq}
use Rattle.class_rules.specs.Mangling.{unescaped, unmangle}
use Rattle.class_queries.proofs.FoundMethods.{after_prefix, is_name, no_name}
use Rattle.class_queries.proofs.methods.is_unmangled.Goals.{then-is_path, else-is_path}
use Rattle.class_queries.proofs.methods.is_unmangled.Goals as goal

pub returns-then-has_no_slash : goal.returns-then-has_no_slash
returns-then-has_no_slash c =
    let name = c.args.name.now in
    let path = c.in-Some.path.now in
    let A = bytes_eq (unescaped path) (c.args.class.now ++ 47 ∷ c.args.method.now) in
    let B = list_all (λ b. not (b == 47)) c.args.method.now in
    let tests : c.if-is_path.value ≡ (A && B) = elim c.if-is_path.branch [
      | then-is_path w ↦ w.value-is ∙ w.has_no_slash.ensures ∙ ap (λ t. t && B) (sym w.if-is_path.true ∙ c.is_path.ensures)
      | else-is_path w ↦ w.value-is ∙ w.if-is_path.false ∙ ap (λ t. t && B) (sym w.if-is_path.false ∙ c.is_path.ensures)
    ] in
    c.is_mangled.ensures
    ∙ ap (λ t. t && is_some (unmangle name)) (sym c.if-has_no_slash.true ∙ tests)
    ∙ is_name c.unmangling_inverts_mangling.ensures name path c.args.class.now c.args.method.now (after_prefix name path c.in-Some.ensures)

pub returns-else-has_no_slash : goal.returns-else-has_no_slash
returns-else-has_no_slash c =
    let name = c.args.name.now in
    let path = c.in-Some.path.now in
    let A = bytes_eq (unescaped path) (c.args.class.now ++ 47 ∷ c.args.method.now) in
    let B = list_all (λ b. not (b == 47)) c.args.method.now in
    let tests : c.if-is_path.value ≡ (A && B) = elim c.if-is_path.branch [
      | then-is_path w ↦ w.value-is ∙ w.has_no_slash.ensures ∙ ap (λ t. t && B) (sym w.if-is_path.true ∙ c.is_path.ensures)
      | else-is_path w ↦ w.value-is ∙ w.if-is_path.false ∙ ap (λ t. t && B) (sym w.if-is_path.false ∙ c.is_path.ensures)
    ] in
    c.if-has_no_slash.false
    ∙ ap (λ t. t && is_some (unmangle name)) (sym c.if-has_no_slash.false ∙ tests)
    ∙ is_name c.unmangling_inverts_mangling.ensures name path c.args.class.now c.args.method.now (after_prefix name path c.in-Some.ensures)

pub returns-in-None : goal.returns-in-None
returns-in-None c = sym (no_name c.args.name.now c.args.class.now c.args.method.now c.in-None.ensures)
