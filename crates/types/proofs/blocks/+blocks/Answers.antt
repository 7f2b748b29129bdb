use Rattle.std.proofs.Common.{◌≡◌, ℕ, ◌+◌, ◌-◌, List, [], ◌∷◌, ◌++◌, drop, length, sym, ap, ap₂, subst, ◌∙◌, append_assoc, append-nil}
use Rattle.std.proofs.lemmas.List.Elements.{filter_map-append}
use Rattle.std.proofs.lemmas.Result.{on_ok_weaker}
use Rattle.std.proofs.lemmas.List.{drop_all}
use Rattle.base.specs.Bytes.{Identifier}
use Rattle.syntax.specs.declared.stmt.Block.{out-Block}
use Rattle.syntax.specs.declared.stmt.Else.{Else as ElseInMemory}
use Rattle.syntax.specs.declared.stmt.Form.TheVariants as form
use Rattle.syntax.specs.Parts.{statements_of, statements_within, names_declared, declared_name}
use Rattle.syntax.specs.Tree.{Test, If, ElseBlock, Block}
use Rattle.syntax.specs.Views.{form_tree, block_tree, stmt_tree, test_tree}
use Rattle.syntax.proofs.Blocks.{block_is, statements_tree}
use Rattle.type_rules.specs.TypeRules.{places_inside, places_of, statement_place, with_declared}
use Rattle.types.specs.AllFaults.{told_at}
use Rattle.types.specs.Faults.{Tells, IsAbove, found}
use Rattle.types.proofs.KeptLemmas.{tells-none, tells-next, left-all, left-next, left-none}
use Rattle.types.proofs.PlaceLemmas.{found-none, found-append}
use Rattle.types.proofs.BlockLemmas.{found-rest, declared-rest, above-none, above-more, forgotten}
use Rattle.types.proofs.blocks.+blocks.Goals as goal

two_blocks : (taken : List Identifier) (line : ℕ) (test : Test) (b d : Block) → (taken ++ names_declared (statements_of b)) ++ names_declared (statements_of d) ≡ taken ++ names_declared (statements_within (If line test b (ElseBlock d)))
two_blocks taken line test b d = append_assoc taken _ _ ∙ ap (λ names. taken ++ names) (sym (filter_map-append declared_name (statements_of b) (statements_of d)))

-- ---- the loop over a block's statements

pub check_block-loop-stmt-init : goal.check_block-loop-stmt-init
check_block-loop-stmt-init t c =
    let block = block_is c.args.block.now ∙ ap (λ items. statements_tree items (out-Block c.args.block.now).end_line) (sym c.deref-stmt-items.ensures.value) in
    record {
      tells = left-all c.args.faults.now _ _ (ap (λ b. found (places_of c.args.returns c.args.known.now c.args.taken.now b)) block);
      taken = ap (λ b. c.args.taken.now ++ names_declared (statements_of b)) block;
      above = above-none c.args.known.now;
    }

pub check_block-loop-stmt-preserved : goal.check_block-loop-stmt-preserved
check_block-loop-stmt-preserved t c =
    let returned = c.args.returns in
    let known = c.loop-stmt.known in
    let taken = c.loop-stmt.taken in
    let items = c.deref-stmt-items.result.now in
    let i = c.loop-stmt.stmt-index in
    let s = c.stmt-item.result in
    let end_line = (out-Block c.args.block.now).end_line in
    let inside = c.in_ok-check_inside.ensures in
    record {
      tells =
          left-next c.args.faults.now c.loop-stmt.faults c.check_inside.new.faults _ _ _ _ c.loop-stmt.invariant.tells
          (found-rest returned known taken items i s end_line c.loop-stmt-test.true c.stmt-item.is
          ∙ ap₂ (λ k names. (told_at (statement_place returned known taken (stmt_tree s)) ++ found (places_inside returned known taken (stmt_tree s))) ++ found (places_of returned k names (statements_tree (drop (i + 1) items) end_line))) (sym (inside.scope s.line)) (sym (inside.taken s.line)))
          (tells-next c.loop-stmt.faults c.check_statement.new.faults c.check_inside.new.faults _ _ c.in_ok-check_statement.ensures (inside.tells s.line));
      taken =
          c.loop-stmt.invariant.taken ∙ declared-rest taken items i s end_line c.loop-stmt-test.true c.stmt-item.is
          ∙ ap (λ (names : List Identifier). names ++ names_declared (statements_of (statements_tree (drop (i + 1) items) end_line))) (sym (inside.taken s.line));
      above = above-more _ _ _ inside.above c.loop-stmt.invariant.above;
    }

pub check_block-returns-clause-tells : goal.check_block-returns-clause-tells
check_block-returns-clause-tells t c =
    left-none c.args.faults.now c.loop-stmt.faults _ _ c.loop-stmt.invariant.tells
    (ap (λ items. found (places_of c.args.returns c.loop-stmt.known c.loop-stmt.taken (statements_tree items (out-Block c.args.block.now).end_line)))
    (drop_all c.loop-stmt.stmt-index c.deref-stmt-items.result.now c.loop-stmt-test.false)
    ∙ found-none)

pub check_block-returns-clause-restored : goal.check_block-returns-clause-restored
check_block-returns-clause-restored t c =
    c.leave.ensures ∙ ap (λ n. drop (length c.loop-stmt.known - n) c.loop-stmt.known) c.len-outside.ensures ∙ forgotten c.loop-stmt.known c.args.known.now c.loop-stmt.invariant.above

pub check_block-returns-clause-taken : goal.check_block-returns-clause-taken
check_block-returns-clause-taken t c =
    sym
    (c.loop-stmt.invariant.taken
    ∙ ap (λ items. c.loop-stmt.taken ++ names_declared (statements_of (statements_tree items (out-Block c.args.block.now).end_line))) (drop_all c.loop-stmt.stmt-index c.deref-stmt-items.result.now c.loop-stmt-test.false)
    ∙ append-nil c.loop-stmt.taken)

-- ---- what is inside a statement

pub check_inside-returns-in-Plain-clause-tells : goal.check_inside-returns-in-Plain-clause-tells
check_inside-returns-in-Plain-clause-tells t c =
    on_ok_weaker c.declare.result
    (λ e line.
    subst (λ f. Tells c.args.faults.now c.args.faults.now (found (places_inside c.args.returns c.args.known.now c.args.taken.now (form_tree line f)))) (sym c.in-Plain.is)
    (subst (Tells c.args.faults.now c.args.faults.now) (sym found-none) (tells-none c.args.faults.now)))
    c.declare.ensures.above

pub check_inside-returns-in-Plain-clause-scope : goal.check_inside-returns-in-Plain-clause-scope
check_inside-returns-in-Plain-clause-scope t c = c.declare.ensures.scope

pub check_inside-returns-in-Plain-clause-above : goal.check_inside-returns-in-Plain-clause-above
check_inside-returns-in-Plain-clause-above t c = c.declare.ensures.above

pub check_inside-returns-in-Plain-clause-taken : goal.check_inside-returns-in-Plain-clause-taken
check_inside-returns-in-Plain-clause-taken t c =
    on_ok_weaker c.declare.result
    (λ (e : (line : ℕ) → c.declare.new.taken ≡ c.args.taken.now ++ names_declared (form_tree line c.args.form.now ∷ [])) line.
    e line ∙ ap (λ f. c.args.taken.now ++ names_declared (form_tree line f ∷ [])) c.in-Plain.is ∙ ap (λ f. c.args.taken.now ++ names_declared (statements_within (form_tree line f))) (sym c.in-Plain.is))
    c.declare.ensures.taken

pub check_inside-returns-in-Return-clause-tells : goal.check_inside-returns-in-Return-clause-tells
check_inside-returns-in-Return-clause-tells t c = λ line.
    subst (λ f. Tells c.args.faults.now c.args.faults.now (found (places_inside c.args.returns c.args.known.now c.args.taken.now (form_tree line f)))) (sym c.in-Return.is)
    (subst (Tells c.args.faults.now c.args.faults.now) (sym found-none) (tells-none c.args.faults.now))

pub check_inside-returns-in-Return-clause-scope : goal.check_inside-returns-in-Return-clause-scope
check_inside-returns-in-Return-clause-scope t c = λ line. ap (λ f. with_declared c.args.known.now (form_tree line f)) (sym c.in-Return.is)

pub check_inside-returns-in-Return-clause-above : goal.check_inside-returns-in-Return-clause-above
check_inside-returns-in-Return-clause-above t c = above-none c.args.known.now

pub check_inside-returns-in-Return-clause-taken : goal.check_inside-returns-in-Return-clause-taken
check_inside-returns-in-Return-clause-taken t c = λ line.
    sym (append-nil c.args.taken.now) ∙ ap (λ f. c.args.taken.now ++ names_declared (statements_within (form_tree line f))) (sym c.in-Return.is)

pub check_inside-returns-in-Nothing-clause-tells : goal.check_inside-returns-in-Nothing-clause-tells
check_inside-returns-in-Nothing-clause-tells t c = λ line.
    subst (λ f. Tells c.args.faults.now c.check_block.new.faults (found (places_inside c.args.returns c.args.known.now c.args.taken.now (form_tree line f))))
    (sym (c.in-If.is ∙ ap (λ (d : ElseInMemory). form.If c.in-If.field-0 c.in-If.b d) c.in-Nothing.is))
    c.in_ok-check_block-in-If.ensures.tells

pub check_inside-returns-in-Nothing-clause-scope : goal.check_inside-returns-in-Nothing-clause-scope
check_inside-returns-in-Nothing-clause-scope t c = λ line.
    c.in_ok-check_block-in-If.ensures.restored ∙ ap (λ f. with_declared c.args.known.now (form_tree line f)) (sym c.in-If.is)

pub check_inside-returns-in-Nothing-clause-above : goal.check_inside-returns-in-Nothing-clause-above
check_inside-returns-in-Nothing-clause-above t c =
    subst (λ known. IsAbove known c.args.known.now) (sym c.in_ok-check_block-in-If.ensures.restored) (above-none c.args.known.now)

pub check_inside-returns-in-Nothing-clause-taken : goal.check_inside-returns-in-Nothing-clause-taken
check_inside-returns-in-Nothing-clause-taken t c = λ line.
    c.in_ok-check_block-in-If.ensures.taken
    ∙ ap (λ f. c.args.taken.now ++ names_declared (statements_within (form_tree line f))) (sym (c.in-If.is ∙ ap (λ (d : ElseInMemory). form.If c.in-If.field-0 c.in-If.b d) c.in-Nothing.is))

pub check_inside-returns-in-Block-clause-tells : goal.check_inside-returns-in-Block-clause-tells
check_inside-returns-in-Block-clause-tells t c =
    let old = c.args.faults.now in
    let middle = c.check_block.new.faults in
    let new = c.check_block-in-Block.new.faults in
    let returned = c.args.returns in
    let first = c.in_ok-check_block-in-If.ensures in
    on_ok_weaker c.check_block-in-Block.result
    (λ e line.
    subst (λ f. Tells old new (found (places_inside returned c.args.known.now c.args.taken.now (form_tree line f))))
    (sym (c.in-If.is ∙ ap (λ (d : ElseInMemory). form.If c.in-If.field-0 c.in-If.b d) c.in-Block.is))
    (subst (Tells old new) (sym (found-append _ _))
    (tells-next old middle new _ _ first.tells
    (subst (Tells middle new) (ap₂ (λ k names. found (places_of returned k names (block_tree c.in-Block.d))) first.restored first.taken) e))))
    c.check_block-in-Block.ensures.tells

pub check_inside-returns-in-Block-clause-scope : goal.check_inside-returns-in-Block-clause-scope
check_inside-returns-in-Block-clause-scope t c =
    on_ok_weaker c.check_block-in-Block.result
    (λ (e : c.check_block-in-Block.new.known ≡ c.check_block.new.known) line.
    e ∙ c.in_ok-check_block-in-If.ensures.restored ∙ ap (λ f. with_declared c.args.known.now (form_tree line f)) (sym c.in-If.is))
    c.check_block-in-Block.ensures.restored

pub check_inside-returns-in-Block-clause-above : goal.check_inside-returns-in-Block-clause-above
check_inside-returns-in-Block-clause-above t c =
    on_ok_weaker c.check_block-in-Block.result
    (λ (e : c.check_block-in-Block.new.known ≡ c.check_block.new.known).
    subst (λ known. IsAbove known c.args.known.now) (sym (e ∙ c.in_ok-check_block-in-If.ensures.restored)) (above-none c.args.known.now))
    c.check_block-in-Block.ensures.restored

pub check_inside-returns-in-Block-clause-taken : goal.check_inside-returns-in-Block-clause-taken
check_inside-returns-in-Block-clause-taken t c =
    on_ok_weaker c.check_block-in-Block.result
    (λ e line.
    e ∙ ap (λ names. names ++ names_declared (statements_of (block_tree c.in-Block.d))) c.in_ok-check_block-in-If.ensures.taken
    ∙ two_blocks c.args.taken.now line (test_tree c.in-If.field-0) (block_tree c.in-If.b) (block_tree c.in-Block.d)
    ∙ ap (λ f. c.args.taken.now ++ names_declared (statements_within (form_tree line f))) (sym (c.in-If.is ∙ ap (λ (d : ElseInMemory). form.If c.in-If.field-0 c.in-If.b d) c.in-Block.is)))
    c.check_block-in-Block.ensures.taken

pub check_inside-returns-in-While-clause-tells : goal.check_inside-returns-in-While-clause-tells
check_inside-returns-in-While-clause-tells t c =
    on_ok_weaker c.check_block-in-While.result
    (λ e line.
    subst (λ f. Tells c.args.faults.now c.check_block-in-While.new.faults (found (places_inside c.args.returns c.args.known.now c.args.taken.now (form_tree line f)))) (sym c.in-While.is) e)
    c.check_block-in-While.ensures.tells

pub check_inside-returns-in-While-clause-scope : goal.check_inside-returns-in-While-clause-scope
check_inside-returns-in-While-clause-scope t c =
    on_ok_weaker c.check_block-in-While.result
    (λ (e : c.check_block-in-While.new.known ≡ c.args.known.now) line. e ∙ ap (λ f. with_declared c.args.known.now (form_tree line f)) (sym c.in-While.is))
    c.check_block-in-While.ensures.restored

pub check_inside-returns-in-While-clause-above : goal.check_inside-returns-in-While-clause-above
check_inside-returns-in-While-clause-above t c =
    on_ok_weaker c.check_block-in-While.result
    (λ (e : c.check_block-in-While.new.known ≡ c.args.known.now). subst (λ known. IsAbove known c.args.known.now) (sym e) (above-none c.args.known.now))
    c.check_block-in-While.ensures.restored

pub check_inside-returns-in-While-clause-taken : goal.check_inside-returns-in-While-clause-taken
check_inside-returns-in-While-clause-taken t c =
    on_ok_weaker c.check_block-in-While.result
    (λ (e : c.check_block-in-While.new.taken ≡ c.args.taken.now ++ names_declared (statements_of (block_tree c.in-While.b))) line.
    e ∙ ap (λ f. c.args.taken.now ++ names_declared (statements_within (form_tree line f))) (sym c.in-While.is))
    c.check_block-in-While.ensures.taken
