-- Checked units may be lent to other threads, and codes sent back. `machine`, which isn't below this crate, says the same of them part by part.
use Rattle.std.proofs.Common.{ℕ, List, [], ◌∷◌}
use Rattle.std.proofs.Crossing.{crosses, Vec-sync, Vec-send, Box-send}
use Rattle.std.proofs.vec.Vec.TheSendSync as vec
use denote.Param.Send.{IsSend, IsSync, view_sync, struct_sync, recorded_sync, sendable, view_send, struct_send, recorded_send}
use denote.Struct.Declared.{shape}
use denote.Struct.Tuple.{TupleAt, field_at, type_at}
use denote.RattleType.{RattleType}
use Rattle.base.proofs.element.ElementType.TheSendSync as element
use Rattle.syntax.proofs.declared_type.DeclaredType.TheSendSync as declared-type
use Rattle.syntax.proofs.declared_type.VariableType.TheSendSync as variable-type
use Rattle.syntax.proofs.name.Name.TheSendSync as name
use Rattle.syntax.proofs.unit.Parameter.TheSendSync as parameter
use Rattle.syntax.proofs.unit.ResultType.TheSendSync as result-type
use Rattle.syntax.proofs.unit.Static.TheSendSync as static
use Rattle.syntax.proofs.expr.Expr.TheSendSync as expr
use Rattle.syntax.proofs.call.Call.TheSendSync as syntax-call
use Rattle.syntax.proofs.call.RightSide.TheSendSync as right-side
use Rattle.syntax.proofs.call.Test.TheSendSync as test
use Rattle.syntax.proofs.stmt.PlainStmt.TheSendSync as plain
use Rattle.syntax.proofs.stmt.Else.TheLaws.TheKnot as statements
use Rattle.syntax.specs.contracts.unit.Unit as unit
use Rattle.syntax.specs.contracts.unit.Unit.TheInside as unit-inside
use Rattle.syntax.specs.contracts.unit.Item as item
use Rattle.type_rules.specs.contracts.typed.Typed as typed
use Rattle.type_rules.specs.contracts.typed.Typed.TheInside as inside
use Rattle.region_rules.specs.contracts.checked.Checked as checked
use Rattle.region_rules.specs.contracts.checked.Checked.TheInside as checked-inside
use Rattle.code.specs.contracts.code.Code as code
use Rattle.code.specs.contracts.code.Code.TheInside as code-inside
use Rattle.code.specs.contracts.instr.Instr as instr
use Rattle.jni.proofs.function.JniFunction.TheSendSync as function
use Rattle.jni.proofs.kinds.ResultKind.TheSendSync as result-kind
use Rattle.code.proofs.instr.Operand.TheSendSync as operand
use Rattle.code.proofs.instr.Target.TheSendSync as target
use Rattle.code.specs.contracts.instr.Call as call
use Rattle.code.specs.contracts.instr.BoxedCall as boxed-call
use Rattle.code.specs.contracts.instr.BoxedCall.TheInside as boxed-call-inside

-- ---- what workers are lent

item_sync : IsSync item.the_row
item_sync = search (element.the_field_sync, declared-type.the_field_sync, variable-type.the_field_sync, name.the_sync, parameter.the_sync, result-type.the_field_sync, static.the_field_sync, vec.the_sync, crosses, expr.the_sync, expr.the_field_sync, syntax-call.the_field_sync, right-side.the_field_sync, test.the_field_sync, plain.the_field_sync, statements.crosses, sendable) depth 60 fits 20000

unit_sync : IsSync unit.the_row
unit_sync = view_sync unit-inside.the_row _ _ _ _ (recorded_sync (unit-inside.the_field).row _ _ unit-inside.the_type.to_one (struct_sync (shape unit-inside.the_type) (Vec-sync item.the_row item_sync, tt)))

inside_sync : IsSync inside.the_row
inside_sync = recorded_sync (inside.the_field).row _ _ inside.the_type.to_one (struct_sync (shape inside.the_type) (unit_sync, tt))

typed_sync : IsSync typed.the_row
typed_sync = view_sync inside.the_row _ _ _ _ inside_sync

pub checked_sync : IsSync checked.the_row
checked_sync = view_sync checked-inside.the_row _ _ _ _ (recorded_sync (checked-inside.the_field).row _ _ checked-inside.the_type.to_one (struct_sync (shape checked-inside.the_type) (typed_sync, tt)))

-- ---- what they give back

call_send : IsSend call.the_row
call_send = search (result-kind.the_field_send, function.the_field_send, operand.the_field_send, target.the_field_send, vec.the_send, crosses, sendable) depth 60 fits 20000

boxed_call_send : IsSend boxed-call.the_row
boxed_call_send =
    view_send boxed-call-inside.the_row _ _ _ _ (recorded_send (boxed-call-inside.the_field).row _ _ boxed-call-inside.the_type.to_one (struct_send (shape boxed-call-inside.the_type) (Box-send call.the_row call_send, tt)))

instr_send : IsSend instr.the_row
instr_send = search (boxed_call_send, crosses, sendable) depth 60 fits 20000

pub code_send : IsSend code.the_row
code_send =
    view_send code-inside.the_row _ _ _ _ (recorded_send (code-inside.the_field).row _ _ code-inside.the_type.to_one (struct_send (shape code-inside.the_type) (Vec-send instr.the_row instr_send, (search (crosses, sendable) depth 60 fits 20000, tt))))

-- a closure that captures four values, each of which threads may share
pub closure_sync : (name : List ℕ) (a b c d : RattleType) → IsSync a → IsSync b → IsSync c → IsSync d → IsSync (TupleAt name (a ∷ b ∷ c ∷ d ∷ []))
closure_sync name a b c d s t u v =
    recorded_sync (field_at name (a ∷ b ∷ c ∷ d ∷ [])).row _ _ (type_at name (a ∷ b ∷ c ∷ d ∷ [])).to_one (struct_sync (shape (type_at name (a ∷ b ∷ c ∷ d ∷ []))) (s, (t, (u, (v, tt)))))
