-- A machine may be sent to another thread: each of its parts says the same to every thread. The prover finds this of types with
-- one invariant; where they are nested it is told part by part.
use Rattle.std.proofs.Crossing.{crosses, Vec-sync, Vec-send, Box-send}
use Rattle.std.proofs.MapsCrossing as maps
use Rattle.std.proofs.vec.Vec.TheSendSync as vec
use denote.Param.Send.{IsSend, IsSync, view_sync, struct_sync, recorded_sync, sendable, view_send, struct_send, recorded_send, shr_send}
use denote.Struct.Declared.{shape}
use Rattle.base.proofs.element.ElementType.TheSendSync as element
use Rattle.syntax.proofs.declared_type.DeclaredType.TheSendSync as declared-type
use Rattle.syntax.proofs.declared_type.VariableType.TheSendSync as variable-type
use Rattle.syntax.proofs.name.Name.TheSendSync as name
use Rattle.syntax.proofs.unit.Parameter.TheSendSync as parameter
use Rattle.syntax.proofs.unit.ResultType.TheSendSync as result-type
use Rattle.syntax.proofs.unit.Static.TheSendSync as static
use Rattle.syntax.proofs.expr.Expr.TheSendSync as expr
use Rattle.syntax.proofs.call.Call.TheSendSync as syntax-call
use Rattle.syntax.proofs.call.RightSide.TheSendSync as right-side
use Rattle.syntax.proofs.call.Test.TheSendSync as test
use Rattle.syntax.proofs.stmt.PlainStmt.TheSendSync as plain
use Rattle.syntax.proofs.stmt.Else.TheLaws.TheKnot as statements
use Rattle.syntax.specs.contracts.unit.Unit as unit
use Rattle.syntax.specs.contracts.unit.Unit.TheInside as unit-inside
use Rattle.syntax.specs.contracts.unit.Item as item
use Rattle.type_rules.specs.contracts.typed.Typed as typed
use Rattle.region_rules.specs.contracts.checked.Checked as checked
use Rattle.region_rules.specs.contracts.checked.Checked.TheInside as checked-inside
use Rattle.code.specs.contracts.code.Code as code
use Rattle.code.specs.contracts.code.Code.TheInside as code-inside
use Rattle.code.specs.contracts.instr.Instr as instr
use Rattle.jni.proofs.function.JniFunction.TheSendSync as function
use Rattle.jni.proofs.kinds.ResultKind.TheSendSync as result-kind
use Rattle.code.proofs.instr.Operand.TheSendSync as operand
use Rattle.code.proofs.instr.Target.TheSendSync as target
use Rattle.code.specs.contracts.instr.Call as call
use Rattle.code.specs.contracts.instr.BoxedCall as boxed-call
use Rattle.code.specs.contracts.instr.BoxedCall.TheInside as boxed-call-inside
use Rattle.world_values.specs.contracts.world.World as world
use Rattle.heap.specs.contracts.heap.Heap as heap
use Rattle.tables.specs.contracts.locals.Locals as locals
use Rattle.machine_scenes.specs.contracts.store.Store as store
use Rattle.machine_threads.specs.contracts.thread.Thread as thread
use Rattle.machine.specs.contracts.machine.Machine as machine
use Rattle.machine.specs.contracts.machine.Machine.TheInside as machine-inside
use Rattle.code_meaning.specs.contracts.program.Program as program
use Rattle.code_meaning.specs.contracts.program.Program.TheInside as program-inside
use Rattle.type_rules.specs.contracts.typed.Typed.TheInside as inside

-- ---- what a machine borrows

item_sync : IsSync item.the_row
item_sync = search (element.the_field_sync, declared-type.the_field_sync, variable-type.the_field_sync, name.the_sync, parameter.the_sync, result-type.the_field_sync, static.the_field_sync, vec.the_sync, crosses, expr.the_sync, expr.the_field_sync, syntax-call.the_field_sync, right-side.the_field_sync, test.the_field_sync, plain.the_field_sync, statements.crosses, sendable) depth 60 fits 20000

unit_sync : IsSync unit.the_row
unit_sync = view_sync unit-inside.the_row _ _ _ _ (recorded_sync (unit-inside.the_field).row _ _ unit-inside.the_type.to_one (struct_sync (shape unit-inside.the_type) (Vec-sync item.the_row item_sync, tt)))

inside_sync : IsSync inside.the_row
inside_sync = recorded_sync (inside.the_field).row _ _ inside.the_type.to_one (struct_sync (shape inside.the_type) (unit_sync, tt))

pub typed_sync : IsSync typed.the_row
typed_sync = view_sync inside.the_row _ _ _ _ inside_sync

pub checked_sync : IsSync checked.the_row
checked_sync = view_sync checked-inside.the_row _ _ _ _ (recorded_sync (checked-inside.the_field).row _ _ checked-inside.the_type.to_one (struct_sync (shape checked-inside.the_type) (typed_sync, tt)))

-- ---- what it owns

call_send : IsSend call.the_row
call_send = search (result-kind.the_field_send, function.the_field_send, operand.the_field_send, target.the_field_send, vec.the_send, crosses, sendable) depth 60 fits 20000

boxed_call_send : IsSend boxed-call.the_row
boxed_call_send =
    view_send boxed-call-inside.the_row _ _ _ _ (recorded_send (boxed-call-inside.the_field).row _ _ boxed-call-inside.the_type.to_one (struct_send (shape boxed-call-inside.the_type) (Box-send call.the_row call_send, tt)))

instr_send : IsSend instr.the_row
instr_send = search (boxed_call_send, crosses, sendable) depth 60 fits 20000

code_send : IsSend code.the_row
code_send =
    view_send code-inside.the_row _ _ _ _ (recorded_send (code-inside.the_field).row _ _ code-inside.the_type.to_one (struct_send (shape code-inside.the_type) (Vec-send instr.the_row instr_send, (search (crosses, sendable) depth 60 fits 20000, tt))))

pub program_send : (k : _) → IsSend (program.the_row k)
program_send k = view_send (program-inside.the_row k) _ _ _ _ (recorded_send (program-inside.the_field k).row _ _ (program-inside.the_type k).to_one (struct_send (shape (program-inside.the_type k)) (shr_send _ _ checked.the_row checked_sync, (Vec-send code.the_row code_send, tt))))

world_send : IsSend world.the_row
world_send = search (maps.crosses, crosses, sendable) depth 60 fits 20000

heap_send : IsSend heap.the_row
heap_send = search (crosses, sendable) depth 60 fits 20000

store_send : IsSend (store.the_field).row
store_send = search (heap_send, vec.the_send, crosses, sendable) depth 60 fits 20000

locals_send : IsSend locals.the_row
locals_send = search (crosses, sendable) depth 60 fits 20000

thread_send : IsSend thread.the_row
thread_send = search (locals_send, vec.the_send, crosses, sendable) depth 60 fits 20000

pub machine_send : (k : _) → IsSend (machine.the_row k)
machine_send k = view_send (machine-inside.the_row k) _ _ _ _ (recorded_send (machine-inside.the_field k).row _ _ (machine-inside.the_type k).to_one (struct_send (shape (machine-inside.the_type k))
    (search (crosses, sendable) depth 60 fits 20000, (program_send k, (world_send, (store_send, (Vec-send thread.the_row thread_send, (search (crosses, sendable) depth 60 fits 20000, (search (crosses, sendable) depth 60 fits 20000, (search (crosses, sendable) depth 60 fits 20000, tt))))))))))
