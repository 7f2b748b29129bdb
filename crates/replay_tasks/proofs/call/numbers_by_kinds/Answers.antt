use Rattle.std.proofs.Common.{List, Bool, [], ◌++◌, ◌-◌, length, sym, subst, ap, ◌∙◌, append-nil}
use Rattle.std.specs.Prelude.{if◌then◌else◌, replicate}
use Rattle.jni.specs.JniFunction.{prototype}
use Rattle.jni.specs.Table.{Facts}
use Rattle.jni.specs.declared.kinds.ParameterKind.{ParameterKind}
use Rattle.jni.specs.declared.kinds.ParameterKind.TheVariants.{Passed}
use Rattle.replay_tasks.specs.Numbers.{AreNumbers}
use Rattle.replay_tasks.proofs.call.numbers_by_kinds.Goals as goal

pub returns : goal.returns
returns c =
    let own : List ParameterKind = (prototype c.args.function).parameters in
    subst (λ (ps : List ParameterKind). AreNumbers c.args.count ps c.numbers_among.result)
    (ap (λ (x : Facts). x.prototype.parameters) c.prototype.ensures
    ∙ sym (append-nil own)
    ∙ ap (λ (b : Bool). own ++ (if b then replicate (c.args.count - length own) Passed else [])) (sym c.if-calls_method.false ∙ c.calls_method.ensures)) c.numbers_among.ensures
