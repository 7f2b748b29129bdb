use Rattle.std.proofs.Common.{◌≡◌, ◌∙◌, cond, sym, ap, slice_get, true, false, Option, Some, None}
use Rattle.std.specs.List.{list_all}
use Rattle.std.specs.Option.{option_map}
use Rattle.std.specs.Str.{bytes_eq}
use Rattle.std.proofs.lemmas.Slice.Eq.{bytes_eq-Decides}
use Rattle.class_rules.specs.Class.{Field}
use Rattle.class_rules.specs.Fields.{signature}
use Rattle.classes.specs.FieldViews.{declared_as}
use Rattle.classes.specs.Tables.{declares_once}
use Rattle.classes.proofs.NamedFields.{has_field, found_there, found_nowhere, declared_differ}
use Rattle.classes.proofs.table.ClassTable.place_fitting.Goals as goal

pub returns-then-has_signature_at : goal.returns-then-has_signature_at
returns-then-has_signature_at c =
    let T = c.args.self.now in
    let at = c.in-Some.ensures in
    let there = ap (λ fs. slice_get fs c.in-Some.place) (sym c.declared-own.ensures) ∙ at.1 in
    let differ = declared_differ T c.args.class.number c.args.is_static (ap (list_all declares_once) (sym c.self.view_is) ∙ c.self.invariant.declared_once) in
    let found = found_there T c.args.name.now c.args.text.now (declared_as T c.args.class.number c.args.is_static) c.in-Some.place at.0 there ((bytes_eq-Decides at.0.name c.args.name.now).0 at.2) differ in
    let signed : bytes_eq (signature T at.0.type) c.args.text.now ≡ true = sym (c.has_signature_at.ensures at.0 at.1) ∙ c.if-has_signature_at.true in
    ap (λ (o : Option Field). Some o) there ∙ sym (ap (option_map (λ f. Some f)) (found ∙ ap (λ b. cond b (Some at.0) None) signed))

pub returns-else-has_signature_at : goal.returns-else-has_signature_at
returns-else-has_signature_at c =
    let T = c.args.self.now in
    let at = c.in-Some.ensures in
    let there = ap (λ fs. slice_get fs c.in-Some.place) (sym c.declared-own.ensures) ∙ at.1 in
    let differ = declared_differ T c.args.class.number c.args.is_static (ap (list_all declares_once) (sym c.self.view_is) ∙ c.self.invariant.declared_once) in
    let found = found_there T c.args.name.now c.args.text.now (declared_as T c.args.class.number c.args.is_static) c.in-Some.place at.0 there ((bytes_eq-Decides at.0.name c.args.name.now).0 at.2) differ in
    let signed : bytes_eq (signature T at.0.type) c.args.text.now ≡ false = sym (c.has_signature_at.ensures at.0 at.1) ∙ c.if-has_signature_at.false in
    sym (ap (option_map (λ f. Some f)) (found ∙ ap (λ b. cond b (Some at.0) None) signed))

pub returns-in-None : goal.returns-in-None
returns-in-None c =
    let T = c.args.self.now in
    sym (ap (option_map (λ f. Some f)) (found_nowhere T c.args.name.now c.args.text.now (declared_as T c.args.class.number c.args.is_static) (ap (λ fs. has_field fs c.args.name.now) (sym c.declared-own.ensures) ∙ c.in-None.ensures)))
