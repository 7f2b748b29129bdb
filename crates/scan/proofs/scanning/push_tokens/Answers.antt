use mir.Val.{bool_byte}
use Rattle.std.proofs.Common.{◌≡◌, Bool, true, false, cond, List, [], ◌++◌, Some, None, refl, sym, ◌∙◌, ap, subst, arith}
use Rattle.std.proofs.lemmas.List.{append-nil, length-drop}
use Rattle.scan.specs.declared.token.Kind.TheVariants.{Symbol}
use Rattle.scan.specs.declared.token.Token.{Token}
use Rattle.scan.specs.Spelling.{Spells, ends}
use Rattle.scan.specs.Faults.{begins}
use Rattle.scan.proofs.Runs.{keeps_gap, keeps_blank, keeps_space, keeps_pushed, mark_here, fault_only, end_only, sized_at, front_here, piece_here, line_low}
use Rattle.scan.proofs.FaultLemmas.{fault_here}
use Rattle.scan.proofs.scanning.push_tokens.Goals as goal

one_or_none : (b : Bool) → bool_byte b ≡ cond b 1 0
one_or_none true = refl
one_or_none false = refl

pub loop-place-init : goal.loop-place-init
loop-place-init c = rw c.requires.none (record { within = omega arith; line_is = refl; back = λ more s. s; only = λ all s. (all, refl, s); filled = begins })

pub returns-in-Wrong-clause-only : goal.returns-in-Wrong-clause-only
returns-in-Wrong-clause-only c = λ tokens spelled.
    let w = c.loop-place.invariant.only tokens spelled in
    let e = fault_only c.args.text.now c.in-Wrong.rule (front_here c.args.text.now c.loop-place.place _ _ c.front_of.ensures c.in-Wrong.is) w.2 in
    absurd (omega (arith, e))

pub returns-in-Wrong-clause-fault : goal.returns-in-Wrong-clause-fault
returns-in-Wrong-clause-fault c =
    let e = front_here c.args.text.now c.loop-place.place _ _ c.front_of.ensures c.in-Wrong.is in
    let l = length-drop c.loop-place.place c.args.text.now in
    rw c.wrong.ensures (c.loop-place.place, c.loop-place.invariant.filled, fault_here _ c.in-Wrong.rule (omega (arith, l, c.loop-place-test.true)) e, c.loop-place.invariant.line_is)

pub returns-clause-found : goal.returns-clause-found
returns-clause-found c = subst (λ (l : List Token). Spells c.args.text.now l) (append-nil c.loop-place.tokens.items) (c.loop-place.invariant.back [] (ends (omega (arith, c.loop-place.invariant.within))))

pub returns-clause-only : goal.returns-clause-only
returns-clause-only c = λ tokens spelled.
    let w = c.loop-place.invariant.only tokens spelled in
    let e = end_only c.args.text.now c.loop-place-test.false w.2 in
    sym (append-nil c.loop-place.tokens.items) ∙ sym (ap (λ (l : List Token). c.loop-place.tokens.items ++ l) e) ∙ sym w.1

pub loop-place-preserved-then-is_blank : goal.loop-place-preserved-then-is_blank
loop-place-preserved-then-is_blank c =
    keeps_blank c.args.text.now c.loop-place.place c.loop-place.line c.from-line.result c.loop-place.tokens.items (sym c.is_blank.ensures ∙ c.if-is_blank.true) (c.from-line.ensures ∙ one_or_none _) c.loop-place-test.true c.loop-place.invariant

pub loop-place-smaller : goal.loop-place-smaller
loop-place-smaller c =
    let p = sized_at c.args.text.now c.loop-place.place c.in-Gap.len None (front_here c.args.text.now c.loop-place.place _ _ c.front_of.ensures c.in-Gap.is) c.loop-place-test.true in
    omega (arith, p.0, p.1)

pub loop-place-preserved : goal.loop-place-preserved
loop-place-preserved c =
    keeps_gap c.args.text.now c.loop-place.place c.loop-place.line c.in-Gap.len _ c.loop-place.tokens.items (front_here c.args.text.now c.loop-place.place _ _ c.front_of.ensures c.in-Gap.is) c.loop-place-test.true c.line_ends-line.ensures.count c.loop-place.invariant

pub loop-place-preserved-then-byte-eq32 : goal.loop-place-preserved-then-byte-eq32
loop-place-preserved-then-byte-eq32 c = keeps_space c.args.text.now c.loop-place.place c.loop-place.line c.loop-place.tokens.items c.if-byte-eq32.true c.loop-place-test.true c.loop-place.invariant

pub loop-place-preserved-in-Some : goal.loop-place-preserved-in-Some
loop-place-preserved-in-Some c =
    keeps_pushed c.args.text.now c.loop-place.place c.loop-place.line 1 c.loop-place.tokens.items (Symbol c.in-Some.mark) c.in_ok-place.place _ (mark_here c.args.text.now c.loop-place.place (Symbol c.in-Some.mark) c.in-Some.ensures c.loop-place-test.true) c.loop-place-test.true c.in_ok-place.ensures.end c.in_ok-place.ensures.pushed c.loop-place.invariant

pub push_token-requires-in-Some-plain_token_at-clause-end : goal.push_token-requires-in-Some-plain_token_at-clause-end
push_token-requires-in-Some-plain_token_at-clause-end c =
    let p = sized_at c.args.text.now c.loop-place.place c.in-Some-plain_token_at.len (Some c.in-Some-plain_token_at.kind) (piece_here c.args.text.now c.loop-place.place _ c.in-Some-plain_token_at.ensures) c.loop-place-test.true in
    omega (arith, p.1, c.requires.short)

pub loop-place-smaller-in-Some-plain_token_at : goal.loop-place-smaller-in-Some-plain_token_at
loop-place-smaller-in-Some-plain_token_at c =
    let p = sized_at c.args.text.now c.loop-place.place c.in-Some-plain_token_at.len (Some c.in-Some-plain_token_at.kind) (piece_here c.args.text.now c.loop-place.place _ c.in-Some-plain_token_at.ensures) c.loop-place-test.true in
    omega (arith, p.0, p.1, c.in_ok-place-2.ensures.end)

pub loop-place-preserved-in-Some-plain_token_at : goal.loop-place-preserved-in-Some-plain_token_at
loop-place-preserved-in-Some-plain_token_at c =
    keeps_pushed c.args.text.now c.loop-place.place c.loop-place.line c.in-Some-plain_token_at.len c.loop-place.tokens.items c.in-Some-plain_token_at.kind c.in_ok-place-2.place _ (piece_here c.args.text.now c.loop-place.place _ c.in-Some-plain_token_at.ensures) c.loop-place-test.true c.in_ok-place-2.ensures.end c.in_ok-place-2.ensures.pushed c.loop-place.invariant

pub push_token-requires-in-Token-clause-end : goal.push_token-requires-in-Token-clause-end
push_token-requires-in-Token-clause-end c =
    let p = sized_at c.args.text.now c.loop-place.place c.in-Token.len (Some c.in-Token.kind) (front_here c.args.text.now c.loop-place.place _ _ c.front_of.ensures c.in-Token.is) c.loop-place-test.true in
    omega (arith, p.1, c.requires.short)

pub loop-place-smaller-in-Token : goal.loop-place-smaller-in-Token
loop-place-smaller-in-Token c =
    let p = sized_at c.args.text.now c.loop-place.place c.in-Token.len (Some c.in-Token.kind) (front_here c.args.text.now c.loop-place.place _ _ c.front_of.ensures c.in-Token.is) c.loop-place-test.true in
    omega (arith, p.0, p.1, c.in_ok-place-in-Token.ensures.end)

pub loop-place-preserved-in-Token : goal.loop-place-preserved-in-Token
loop-place-preserved-in-Token c =
    keeps_pushed c.args.text.now c.loop-place.place c.loop-place.line c.in-Token.len c.loop-place.tokens.items c.in-Token.kind c.in_ok-place-in-Token.place _ (front_here c.args.text.now c.loop-place.place _ _ c.front_of.ensures c.in-Token.is) c.loop-place-test.true c.in_ok-place-in-Token.ensures.end c.in_ok-place-in-Token.ensures.pushed c.loop-place.invariant

pub overflow_add-end : goal.overflow_add-end
overflow_add-end c =
    let p = sized_at c.args.text.now c.loop-place.place c.in-Gap.len None (front_here c.args.text.now c.loop-place.place _ _ c.front_of.ensures c.in-Gap.is) c.loop-place-test.true in
    omega (arith, p.1)

pub slice_bounds-line_ends-end : goal.slice_bounds-line_ends-end
slice_bounds-line_ends-end c =
    let p = sized_at c.args.text.now c.loop-place.place c.in-Gap.len None (front_here c.args.text.now c.loop-place.place _ _ c.front_of.ensures c.in-Gap.is) c.loop-place-test.true in
    omega (arith, p.1)

pub push_token-requires-clause-line : goal.push_token-requires-clause-line
push_token-requires-clause-line c =
    let low = line_low c.args.text.now c.loop-place.place c.loop-place.line c.loop-place.invariant.line_is in
    omega (arith, low, c.loop-place-test.true, c.requires.short)

pub push_token-requires-in-Some-plain_token_at-clause-line : goal.push_token-requires-in-Some-plain_token_at-clause-line
push_token-requires-in-Some-plain_token_at-clause-line c =
    let low = line_low c.args.text.now c.loop-place.place c.loop-place.line c.loop-place.invariant.line_is in
    omega (arith, low, c.loop-place-test.true, c.requires.short)

pub push_token-requires-in-Token-clause-line : goal.push_token-requires-in-Token-clause-line
push_token-requires-in-Token-clause-line c =
    let low = line_low c.args.text.now c.loop-place.place c.loop-place.line c.loop-place.invariant.line_is in
    omega (arith, low, c.loop-place-test.true, c.requires.short)
