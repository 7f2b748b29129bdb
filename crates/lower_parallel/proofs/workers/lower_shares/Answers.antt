use Rattle.std.proofs.Common.{◌≡◌, [], length, arith}
use denote.Param.Send.{sendable}
use Rattle.std.proofs.Crossing.{crosses}
use Rattle.std.proofs.lemmas.Result.{IfOk-weaker}
use Rattle.syntax.specs.Views.{unit_tree}
use Rattle.lower.specs.Listings.{listings_of}
use Rattle.lower_parallel.proofs.Crosses.{checked_sync, closure_sync}
use Rattle.lower_parallel.proofs.Merging.{shares_made}
use Rattle.lower_parallel.proofs.workers.lower_shares.Goals as goal

pub map_indices-requires-sync-F : goal.map_indices-requires-sync-F
map_indices-requires-sync-F g c κs within = let watched = c.type_bounds.sync-K in search (checked_sync, closure_sync, crosses, sendable) depth 60 fits 20000

pub returns-clause-shares : goal.returns-clause-shares
returns-clause-shares g c =
    let answers = c.in_ok-answers.answers in
    let many : length answers.items ≡ c.args.workers = omega (arith, c.in_ok-answers.ensures.len, answers.ok.0) in
    IfOk-weaker c.all_made.result _ _ (λ shares all. shares_made (λ s. s.items) (listings_of [] (unit_tree c.args.checked.now).items) c.args.workers answers.items shares.items many all
    (λ w d below. (c.in_ok-answers.ensures.each w d below).1.met.0)) c.all_made.ensures.all
