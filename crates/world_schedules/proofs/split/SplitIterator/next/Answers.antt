use Rattle.std.proofs.Common.{◌≡◌, ◌==◌, [], ◌∷◌, length, take, rules, sym, ap, ◌∙◌}
use Rattle.world_schedules.specs.Split.{parts_left, parts_of, parts_of_rest}
use Rattle.world_schedules.proofs.PartLemmas.{split_found, split_whole}
use Rattle.world_schedules.proofs.split.SplitIterator.next.Goals as goal

pub returns-in-None-clause-steps : goal.returns-in-None-clause-steps
returns-in-None-clause-steps c =
    ap (parts_of_rest c.args.self.now.separator) c.in_ok-text.was ∙ split_whole (λ b. b == c.args.self.now.separator) c.in_ok-text.text.now (sym c.in-None.ensures)

pub returns-in-None-clause-goes : goal.returns-in-None-clause-goes
returns-in-None-clause-goes c =
    let e : parts_left c.args.self.now ≡ c.in_ok-text.text.now ∷ [] = returns-in-None-clause-steps c in
    let n = ap length e in
    search rules

pub returns-in-Some-clause-steps : goal.returns-in-Some-clause-steps
returns-in-Some-clause-steps c =
    let separator = c.args.self.now.separator in
    let place = c.in-Some.place in
    let text = c.in_ok-text.text.now in
    let found = ap (parts_of_rest separator) c.in_ok-text.was ∙ split_found (λ b. b == separator) text place (sym c.in-Some.ensures) in
    found ∙ ap (λ r. take place text ∷ parts_of separator r) (sym c.split_at-in-Some.ensures.back) ∙ ap (λ p. p ∷ parts_of separator c.split_at-in-Some.result.1.now) (sym c.split_at.ensures.front)

pub returns-in-Some-clause-goes : goal.returns-in-Some-clause-goes
returns-in-Some-clause-goes c =
    let e = returns-in-Some-clause-steps c in
    let n = ap length e in
    search rules
