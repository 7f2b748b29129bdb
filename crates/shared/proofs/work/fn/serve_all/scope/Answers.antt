use denote.Exit.{no}
use denote.Param.{param}
use denote.Param.Send.{param_send, param_sync, arg_send, shr_send}
use Rattle.shared.proofs.seat.Seat.TheSendSync as seat
use Rattle.shared.proofs.work.Signs.TheSendSync as signs
use Rattle.shared.proofs.Crosses.{shared_sync, closure_send}
use Rattle.shared.proofs.work.fn.serve_all.scope.Goals as goal

pub spawn-requires-send-F : goal.spawn-requires-send-F
spawn-requires-send-F g c κs within =
    let may = c.requires.1.1.1 in
    param_send 1 _ (arg_send _ no _ (closure_send _ _ _ _ _ _ (shr_send _ _ _ (param_sync 2 _ may.3)) (shr_send _ _ _ (shared_sync _ (param 0 g.row.J) g.J.Naming (param_send 0 _ may.0)))
    (seat.the_send (param 0 g.row.J) g.J.Naming) (shr_send _ _ _ (param_sync 1 _ may.2)) (shr_send _ _ _ signs.the_sync)))
