-- A shared machine may be lent to other threads.
use Rattle.std.proofs.Common.{ℕ, List, [], ◌∷◌}
use Rattle.std.proofs.Crossing.{crosses}
use Rattle.std.proofs.sync.Mutex.TheSendSync as mutex-sent
use Rattle.atomic_table.proofs.shared.Seat.TheSendSync as pass
use Rattle.crossbeam_utils.proofs.atomic.seq_cell.Wide.TheSendSync as wide
use denote.Param.Send.{IsSend, IsSync, struct_sync, recorded_sync, sendable, view_send, struct_send, recorded_send}
use denote.Struct.Declared.{shape}
use denote.Struct.Tuple.{TupleAt, field_at, type_at}
use denote.RattleType.{RattleType}
use Rattle.machine.proofs.Crosses.{machine_send}
use Rattle.shared.specs.contracts.desk.Desk as desk
use Rattle.shared.specs.contracts.desk.Desk.TheInside as desk-inside
use Rattle.shared.specs.contracts.lock.Shared as shared

desk_send : (k : _) (N : RattleType) (g : _) → IsSend N → IsSend (desk.the_row k N g)
desk_send k N g s =
    view_send (desk-inside.the_row k N g) _ _ _ _ (recorded_send (desk-inside.the_field k N g).row _ _ (desk-inside.the_type k N g).to_one (struct_send (shape (desk-inside.the_type k N g))
    (machine_send k, (search (pass.the_send, crosses, sendable) depth 60 fits 20000, (search (crosses, sendable) depth 60 fits 20000, tt)))))

pub shared_sync : (k : _) (N : RattleType) (g : _) → IsSend N → IsSync (shared.the_row k N g)
shared_sync k N g s =
    recorded_sync (shared.the_field k N g).row _ _ (shared.the_type k N g).to_one (struct_sync (shape (shared.the_type k N g))
    (search (wide.the_field_sync, crosses, sendable) depth 60 fits 20000, (mutex-sent.the_sync (desk.the_row k N g) (desk_send k N g s), (search (crosses, sendable) depth 60 fits 20000, tt))))

-- a closure that captures five values of which each may cross
pub closure_send : (name : List ℕ) (a b c d e : RattleType) → IsSend a → IsSend b → IsSend c → IsSend d → IsSend e → IsSend (TupleAt name (a ∷ b ∷ c ∷ d ∷ e ∷ []))
closure_send name a b c d e s t u v w =
    recorded_send (field_at name (a ∷ b ∷ c ∷ d ∷ e ∷ [])).row _ _ (type_at name (a ∷ b ∷ c ∷ d ∷ e ∷ [])).to_one (struct_send (shape (type_at name (a ∷ b ∷ c ∷ d ∷ e ∷ []))) (s, (t, (u, (v, (w, tt))))))
