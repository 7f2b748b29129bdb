use Rattle.std.proofs.Common.{◌≡◌, refl, ◌+◌, length, slice_index, ℕ, arith, ap, sym, ◌∙◌, subst, List, Some, None, ◌<◌, rules, length-append}
use Rattle.std.proofs.lemmas.Option.{slice_get_read}
use Rattle.code.specs.Depth.{depths, depth_at}
use Rattle.code.proofs.Depths.{depth_step, words_more, depths_left, none_known}
use Rattle.code.proofs.depth.depth_table.Goals as goal

pub returns-in-None-clause-stays : goal.returns-in-None-clause-stays
returns-in-None-clause-stays c =
    let instrs = c.args.instrs.now in
    let i = c.loop-instr.instr-index in
    let at = slice_get_read instrs (length instrs) i c.instr-item.result refl c.loop-instr-test.true c.instr-item.is in
    let stops : depth_at instrs (i + 1) ≡ None =
    depth_step instrs i c.instr-item.result c.loop-instr.depth at c.loop-instr.invariant.here ∙ sym c.next_depth.ensures.next ∙ c.in-None.is in
    let left : depths c.args.instrs.now 0 ≡ None = depths_left c.args.instrs.now (c.loop-instr.instr-index + 1) stops in
    none_known (depths c.args.instrs.now 0) left

pub loop-instr-preserved : goal.loop-instr-preserved
loop-instr-preserved c = record {
  limit = search rules;
  here =
      let instrs = c.args.instrs.now in
      let i = c.loop-instr.instr-index in
      let at = slice_get_read instrs (length instrs) i c.instr-item.result refl c.loop-instr-test.true c.instr-item.is in
      depth_step instrs i c.instr-item.result c.loop-instr.depth at c.loop-instr.invariant.here ∙ sym c.next_depth.ensures.next ∙ c.in-Some.is;
  places = omega (arith, ap length c.in_ok-push.ensures.items, length-append {A = ℕ});
  words =
      let P : List ℕ → Type 0 = λ items. (place : ℕ) → place < c.loop-instr.instr-index + 1 → depth_at c.args.instrs.now place ≡ Some (slice_index items place) in
      subst P (sym c.in_ok-push.ensures.items) (words_more c.args.instrs.now c.loop-instr.table.items c.loop-instr.instr-index c.loop-instr.depth c.loop-instr.invariant.places c.loop-instr.invariant.here c.loop-instr.invariant.words);
}
