use Rattle.std.proofs.Common.{Bor, ◌≡◌, ◌≤◌, ◌<◌, ℕ, List, [], ◌∷◌, Option, Some, None, length, drop, refl, sym, ap, ◌∙◌, subst, arith}
use Rattle.std.specs.List.{HoldsAt}
use Rattle.std.specs.Option.{IsSome, MatchOption}
use Rattle.machine_threads.specs.Entry.{IsEnteringOf}
use Rattle.machine_threads.specs.declared.thread.Entering.{Entering}
use Rattle.machine_threads.specs.declared.thread.PendingCall.{PendingCall}
use Rattle.machine_threads.specs.declared.thread.Thread.{Thread}
use Rattle.machine_steps.specs.Pushed.{IsNext}
use Rattle.machine_steps.proofs.CallsThere.{of_caller}
use Rattle.machine_steps.proofs.enter.enter_anew.Goals.{in-Some-take, in_default}
use Rattle.machine_steps.proofs.enter.enter_anew.Goals as goal

-- what is in front
in_front : (items : List PendingCall) (o : Option (Bor PendingCall)) (r : Bor PendingCall) → o ≡ Some r → MatchOption o (length items ≤ 0) (λ x. (0 < length items) × HoldsAt (λ y. x.now ≡ y) items 0) → (rest : List PendingCall) × (items ≡ r.now ∷ rest)
in_front items None r e h = absurd (cc)
in_front [] (Some x) r e h = absurd (omega (arith, h.0))
in_front (n ∷ rest) (Some x) r e h = (rest, let same : x ≡ r = cc in subst (λ (y : Bor PendingCall). n ∷ rest ≡ y.now ∷ rest) same (ap (λ (m : PendingCall). m ∷ rest) (sym (h.1 n))))

-- the first of the world's
of_world : (loaded : List ℕ) (o : Option Entering) (n : PendingCall) (calls rest : List PendingCall) (e : Entering) → o ≡ None → calls ≡ n ∷ rest → IsEnteringOf loaded n e → IsNext loaded o calls rest e
of_world loaded None n calls rest e none is of = (n, is, of)
of_world loaded (Some x) n calls rest e none is of = absurd (cc)

-- there is a first
is_there : (items : List PendingCall) (o : Option (Bor PendingCall)) → 0 < length items → MatchOption o (length items ≤ 0) (λ x. (0 < length items) × HoldsAt (λ y. x.now ≡ y) items 0) → IsSome o
is_there items None some h = absurd (omega (arith, some, h))
is_there items (Some x) some h = refl

pub begin_call-requires : goal.begin_call-requires
begin_call-requires c = c.requires.ready c.args.thread.now.calls.items c.in-Some.entering (of_caller c.args.loaded.now c.args.thread.now.entering c.in-Some.entering c.args.thread.now.calls.items c.in-Some.is)

pub returns-after-take-clause-calls : goal.returns-after-take-clause-calls
returns-after-take-clause-calls c =
    let t = c.args.thread.now in
    let loaded = c.args.loaded.now in
    let entering = c.in-Some.entering in
    let rest : c.match-take.thread.calls.items ≡ t.calls.items =
    elim c.match-take.branch as (λ w. c.match-take.thread.calls.items ≡ t.calls.items) [
      | in-Some-take w ↦ ap (λ (x : Thread). x.calls.items) w.thread-is
      | in_default w ↦ ap (λ (x : Thread). x.calls.items) w.thread-is
    ] in
    record {
      entering = entering;
      next = subst (λ (l : List PendingCall). IsNext loaded t.entering t.calls.items l entering) (sym rest) (of_caller loaded t.entering entering t.calls.items c.in-Some.is);
      activation = c.in_ok-activation-in-Some.activation;
      active = refl;
      begins = c.in_ok-activation-in-Some.ensures;
    }

pub unwrap-next-requires : goal.unwrap-next-requires
unwrap-next-requires c = is_there c.args.thread.now.calls.items c.front.result (c.requires.some c.in-None.is) c.front.ensures.item.3

pub entering_of-requires : goal.entering_of-requires
entering_of-requires c =
    let f = in_front c.args.thread.now.calls.items c.front.result c.unwrap-next.result c.unwrap-next.ensures c.front.ensures.item.3 in
    c.requires.given c.unwrap-next.result.now f.0 f.1

pub begin_call-requires-in-None : goal.begin_call-requires-in-None
begin_call-requires-in-None c =
    let t = c.args.thread.now in
    let next = c.unwrap-next.result.now in
    let f = in_front t.calls.items c.front.result c.unwrap-next.result c.unwrap-next.ensures c.front.ensures.item.3 in
    let entering = c.in_ok-entering-in-None.entering in
    c.requires.ready f.0 entering (of_world c.args.loaded.now t.entering next t.calls.items f.0 entering c.in-None.is f.1 c.in_ok-entering-in-None.ensures)

pub returns-in_ok-activation-in-None-clause-calls : goal.returns-in_ok-activation-in-None-clause-calls
returns-in_ok-activation-in-None-clause-calls c =
    let t = c.args.thread.now in
    let loaded = c.args.loaded.now in
    let next = c.unwrap-next.result.now in
    let f = in_front t.calls.items c.front.result c.unwrap-next.result c.unwrap-next.ensures c.front.ensures.item.3 in
    let entering = c.in_ok-entering-in-None.entering in
    let rest : c.pop_front.new.self.items ≡ f.0 = c.pop_front.ensures.rest ∙ ap (λ (l : List PendingCall). drop 1 l) f.1 in
    record {
      entering = entering;
      next = subst (λ (l : List PendingCall). IsNext loaded t.entering t.calls.items l entering) (sym rest) (of_world loaded t.entering next t.calls.items f.0 entering c.in-None.is f.1 c.in_ok-entering-in-None.ensures);
      activation = c.in_ok-activation-in-None.activation;
      active = refl;
      begins = c.in_ok-activation-in-None.ensures;
    }
