use Rattle.std.proofs.Common.{◌≡◌, ◌+◌, ◌≤◌, List, [], ◌∷◌, ◌++◌, length, refl, ap, sym, ◌∙◌, subst, arith, length-append}
use Rattle.base.specs.Limits.{most_steps}
use Rattle.syntax.specs.Tree.{Function}
use Rattle.syntax.specs.Views.{function_tree}
use Rattle.code.specs.declared.instr.Instr.{Instr}
use Rattle.code.specs.declared.instr.Instr.TheVariants as instr
use Rattle.code.specs.declared.slots.SlotCounts.{SlotCounts}
use Rattle.code.specs.Depth.{IsValid}
use Rattle.code_meaning.specs.Layout.{Known, entry_layout, function_slots}
use Rattle.code_meaning.specs.Coding.{block_code, function_code}
use Rattle.code_meaning.specs.Length.{function_steps}
use Rattle.code_meaning.specs.Lowered.{IsCodeOf}
use Rattle.lower.specs.Listings.{listing_of}
use Rattle.lower.proofs.Functions.{function_valid, is_code_of}
use Rattle.lower.proofs.lowering.lower_function.Goals as goal

-- the instructions of the body with the last one, and the slots, are the code of the function
listed : (statics : Known) (f : Function) (body all : List Instr) (counts slots : SlotCounts) → body ≡ block_code (entry_layout statics f) f.body → all ≡ body ++ instr.Return ∷ [] → slots ≡ function_slots statics f → counts ≡ slots
    → listing_of statics f ≡ record { instrs = all; slots = counts }
listed statics f body all counts slots eb ea es ec = rw (ec, es, ea, eb) refl

pub valid_code-requires : goal.valid_code-requires
valid_code-requires c =
    let statics = c.args.names.now.known in
    let f = function_tree c.args.function.now in
    subst IsValid (listed statics f _ _ _ _ c.in_ok-instrs.ensures.instrs c.in_ok-emit.ensures c.in_ok-instrs.ensures.slots c.slots.ensures) (function_valid statics f c.requires.0 c.requires.1)

-- what is emitted before the last instruction has one instruction for each step
steps_emitted : (statics : Known) (f : Function) (body : List Instr) → length (function_code statics f) ≡ function_steps f + 1 → body ≡ block_code (entry_layout statics f) f.body → length body ≡ function_steps f
steps_emitted statics f body counted eb =
    let e = ap (λ (c : List Instr). length c) eb in
    omega (arith, e, counted, length-append (block_code (entry_layout statics f) f.body) (instr.Return ∷ []))

pub returns-clause-ok : goal.returns-clause-ok
returns-clause-ok c =
    let statics = c.args.names.now.known in
    let f = function_tree c.args.function.now in
    let is = listed statics f _ _ _ _ c.in_ok-instrs.ensures.instrs c.in_ok-emit.ensures c.in_ok-instrs.ensures.slots c.slots.ensures in
    let steps = steps_emitted statics f _ c.requires.3 c.in_ok-instrs.ensures.instrs in
    let few : function_steps f ≤ most_steps = omega (arith, c.len.ensures, c.if-len-gt-MOST_STEPS.false, c.in_ok-instrs.instrs.ok, steps) in
    subst (IsCodeOf statics f) (is ∙ sym c.in_ok-valid_code.ensures) (is_code_of statics f c.requires.0 c.requires.1 c.requires.2 c.requires.3 few)

pub returns-clause-code : goal.returns-clause-code
returns-clause-code c =
    let statics = c.args.names.now.known in
    let f = function_tree c.args.function.now in
    c.in_ok-valid_code.ensures ∙ sym (listed statics f _ _ _ _ c.in_ok-instrs.ensures.instrs c.in_ok-emit.ensures c.in_ok-instrs.ensures.slots c.slots.ensures)

pub returns-then-len-gt-MOST_STEPS-clause-too_long : goal.returns-then-len-gt-MOST_STEPS-clause-too_long
returns-then-len-gt-MOST_STEPS-clause-too_long c =
    let statics = c.args.names.now.known in
    let f = function_tree c.args.function.now in
    let steps = steps_emitted statics f _ c.requires.3 c.in_ok-instrs.ensures.instrs in
    λ _. omega (arith, c.len.ensures, c.if-len-gt-MOST_STEPS.true, c.in_ok-instrs.instrs.ok, steps)
