use Rattle.std.proofs.Common.{length, refl, append-nil, arith, ◌≤◌, slice_get, [], ◌∷◌, ◌++◌, sym, ap, ◌∙◌, subst}
use Rattle.std.proofs.lemmas.List.{append_assoc}
use Rattle.std.proofs.lemmas.List.Elements.{All-cons}
use Rattle.semantics.specs.World.{World}
use Rattle.shared_passes.specs.declared.view.View.{View}
use Rattle.shared_passes.specs.Tokens.{IsWithin}
use Rattle.shared_accounts.specs.Accounts.{Agrees}
use Rattle.shared_accounts.proofs.Tables.{accounts_get, some_same}
use Rattle.shared.proofs.desk.Desk.close.Goals as goal

pub loop-seat-preserved : goal.loop-seat-preserved
loop-seat-preserved g c =
    let i = c.loop-seat.invariant in
    let a = c.agree.ensures in
    let m = c.self.inside.machine in
    let s = c.in-Some.seat in
    let here = accounts_get m s.thread (subst (λ (w : World). s.thread ≤ length w.threads) (sym c.self.invariant.0) a.thread) in
    let same = some_same _ _ (sym a.is.0 ∙ ap (λ (v : View). slice_get v.table.table s.thread) (i.4 ∙ c.self.invariant.2) ∙ here) in (
      s ∷ i.0,
      i.1 ∙ ap (λ l. l ++ i.0) c.in-Some.ensures.items ∙ append_assoc _ (s ∷ []) i.0,
      All-cons (Agrees m) s i.0 (same, subst (λ (n : View). IsWithin s.kept n.table.fate) (i.4 ∙ c.self.invariant.2) a.is.1) i.2,
      a.keeper.0,
      a.keeper.1 ∙ i.4,
    )

pub loop-seat-init : goal.loop-seat-init
loop-seat-init g c = ([], sym (append-nil c.args.seats.items), (λ k d h. absurd (omega arith)), c.self.invariant.1, refl)
