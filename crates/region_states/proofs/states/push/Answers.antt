use Rattle.std.proofs.Common.{◌≡◌, ℕ, ◌-◌, List, [], ◌∷◌, length, take, ap, ◌∙◌, arith}
use Rattle.std.proofs.Math.Seq.{take-append_seam}
use Rattle.std.specs.Vec.{vec_len}
use Rattle.region_states.specs.declared.states.VariableState.{VariableState}
use Rattle.region_states.proofs.states.push.Goals as goal

pub returns-in-Ok-clause-known : goal.returns-in-Ok-clause-known
returns-in-Ok-clause-known c = c.in_ok-push.ensures.items

pub returns-in-Err-clause-none_known : goal.returns-in-Err-clause-none_known
returns-in-Err-clause-none_known c =
    let old = c.args.variables.now in
    let count : vec_len c.push.new.self - 1 ≡ length old.items = omega (arith, c.in_ok-push.ensures.len, old.ok.0) in
    c.pop.ensures.rest
    ∙ ap (λ (n : ℕ). take n c.push.new.self.items) count
    ∙ ap (λ (vs : List VariableState). take (length old.items) vs) c.in_ok-push.ensures.items
    ∙ take-append_seam old.items (c.args.known ∷ [])
