use Rattle.std.proofs.Common.{◌<◌, [], ◌++◌, List, length, option_to_list, arith, ap, sym, ◌∙◌}
use Rattle.std.proofs.lemmas.List.{get_or-map}
use Rattle.code.specs.Depth.{Listing}
use Rattle.lower_parallel.proofs.Places.{set_there, set_elsewhere}
use Rattle.lower_parallel.proofs.merge.take_code.Goals as goal

pub returns-clause-taken : goal.returns-clause-taken
returns-clause-taken c =
    let xs = c.args.shares.now.items in
    let below : c.args.worker < length xs = omega (arith, c.requires, c.args.shares.now.ok.0) in
    get_or-map (λ s. s.items) xs c.args.worker c.index_mut.result.now [] below ∙ ap (λ s. s.items) (sym c.index_mut.ensures.value) ∙ c.pop_front.ensures.items
    ∙ ap (λ (l : List Listing). option_to_list c.pop_front.result ++ l) (sym (set_there (λ s. s.items) xs c.args.worker c.pop_front.new.self [] below))

pub returns-clause-kept : goal.returns-clause-kept
returns-clause-kept c = λ w differ. set_elsewhere (λ s. s.items) c.args.shares.now.items c.args.worker w c.pop_front.new.self [] differ
