use Rattle.std.proofs.Common.{rules, ◌+◌, ◌++◌, [], subst, List, length, length-append, arith, drop, Result, Ok, refl, append-nil, sym, ap, ◌∙◌}
use Rattle.std.specs.Prelude.{◌≡◌, IfOk}
use Rattle.std.proofs.lemmas.List.{append_assoc, drop_all}
use Rattle.std.proofs.lemmas.Result.{err_from_is_err_and}
use Rattle.base.specs.Bytes.{Identifier}
use Rattle.base.proofs.Lists.{item_here}
use Rattle.syntax.specs.declared.stmt.Stmt.{Stmt as StmtInMemory}
use Rattle.syntax.specs.declared.stmt.Block.{out-Block}
use Rattle.syntax.specs.declared.stmt.Else.{Else as ElseInMemory}
use Rattle.syntax.specs.declared.stmt.Form.{Form as FormInMemory, the_lemmas}
use Rattle.syntax.specs.declared.stmt.Form.TheVariants as form
use Rattle.syntax.specs.Tree.{Block, Next}
use Rattle.syntax.specs.Views.{block_tree, stmt_tree, test_tree, form_tree}
use Rattle.syntax.proofs.Blocks.{block_is, statements_tree}
use Rattle.regions.specs.declared.fault.CheckError.{CheckError}
use Rattle.regions.specs.declared.joins.Branch.{Branch}
use Rattle.regions.specs.declared.joins.Path.{Path as PathInMemory}
use Rattle.region_states.specs.NewNames.{own_names, DeclaresNew, DeclareNew}
use Rattle.region_rules.specs.RegionStates.{RegionState}
use Rattle.region_rules.specs.Regions.{On, where_true, where_false}
use Rattle.region_states.specs.StatesInMemory.{names_of}
use Rattle.regions.specs.Walks.{PathOrFault, path_value, Branches, Awaits, go_on, inner_path}
use Rattle.regions.specs.Paths.{join_paths, path_of_block}
use Rattle.region_states.proofs.NameLemmas.{where_true_names, where_false_names}
use Rattle.regions.proofs.PathLemmas.{Goes-along, Stops-along, first_stops, stmt_goes, go_fault, if_ok_weaker, if_ok_always, branch_awaits, passed_names, stmt_fault, go_rest, go_step, after_line, turn_is_join}
use Rattle.regions.proofs.walk.+walk.Goals as goal

-- ---- the loop over a block's statements

pub block_path-loop-stmt-init : goal.block_path-loop-stmt-init
block_path-loop-stmt-init t c =
    let block = block_is c.args.block.now ∙ ap (λ (items : List StmtInMemory). statements_tree items (out-Block c.args.block.now).end_line) (sym c.deref-stmt-items.ensures.value) in
    record {
      count = c.len-count.ensures;
      grows = ([], sym (append-nil (names_of c.args.state.now)));
      fresh = subst (λ (b : Block). DeclareNew (names_of c.args.state.now) b) block c.requires;
      goes = λ outer same. ap (λ (b : Block). path_of_block outer c.args.state.now b) block;
    }

pub block_path-returns-in-Returned-clause-goes : goal.block_path-returns-in-Returned-clause-goes
block_path-returns-in-Returned-clause-goes t c = λ outer same.
    let now = c.loop-stmt.state in
    let items = c.deref-stmt-items.result.now in
    let i = c.loop-stmt.stmt-index in
    let s = c.stmt-item.result in
    let end_line = (out-Block c.args.block.now).end_line in
    let rest = statements_tree (drop (i + 1) items) end_line in
    Goes-along c.refuse.result now _ _
    (c.loop-stmt.invariant.goes outer same
    ∙ go_rest outer (path_value c.loop-stmt.path now) items i s end_line c.loop-stmt-test.true c.stmt-item.is
    ∙ ap (λ (w : PathInMemory). go_on outer (path_value w now) (Next (stmt_tree s) rest)) c.in-Returned.is
    ∙ after_line outer s rest)
    (c.refuse.ensures.fault now)

pub block_path-stmt_path-requires : goal.block_path-stmt_path-requires
block_path-stmt_path-requires t c =
    let items = c.deref-stmt-items.result.now in
    let i = c.loop-stmt.stmt-index in
    let end_line = (out-Block c.args.block.now).end_line in (
      search (rules, the_lemmas),
      (subst (λ (rest : List StmtInMemory). DeclareNew (names_of c.loop-stmt.state) (statements_tree rest end_line)) (item_here items i c.stmt-item.result c.stmt-item.result c.loop-stmt-test.true c.stmt-item.is refl) c.loop-stmt.invariant.fresh).0,
    )

pub block_path-loop-stmt-preserved : goal.block_path-loop-stmt-preserved
block_path-loop-stmt-preserved t c =
    let now = c.loop-stmt.state in
    let after = c.stmt_path.new.state in
    let items = c.deref-stmt-items.result.now in
    let i = c.loop-stmt.stmt-index in
    let s = c.stmt-item.result in
    let end_line = (out-Block c.args.block.now).end_line in
    let rest = statements_tree (drop (i + 1) items) end_line in
    let own = own_names (stmt_tree s) in
    let grows = c.loop-stmt.invariant.grows in
    let new = (subst (λ (more : List StmtInMemory). DeclareNew (names_of now) (statements_tree more end_line)) (item_here items i s s c.loop-stmt-test.true c.stmt-item.is refl) c.loop-stmt.invariant.fresh).1 in
    record {
      count = c.loop-stmt.invariant.count;
      grows = (grows.0 ++ own, c.in_ok-path-in-On.ensures.names ∙ ap (λ (names : List Identifier). names ++ own) grows.1 ∙ append_assoc (names_of c.args.state.now) grows.0 own);
      fresh = subst (λ (names : List Identifier). DeclareNew names rest) (sym c.in_ok-path-in-On.ensures.names) new;
      goes = λ outer same.
          c.loop-stmt.invariant.goes outer same
          ∙ go_rest outer (path_value c.loop-stmt.path now) items i s end_line c.loop-stmt-test.true c.stmt-item.is
          ∙ ap (λ (w : PathInMemory). go_on outer (path_value w now) (Next (stmt_tree s) rest)) c.in-On.is
          ∙ go_step outer now (path_value c.in_ok-path-in-On.path after) (stmt_tree s) rest c.in_ok-path-in-On.ensures.goes;
    }

pub block_path-returns-in_err-path-in-On-clause-goes : goal.block_path-returns-in_err-path-in-On-clause-goes
block_path-returns-in_err-path-in-On-clause-goes t c = λ outer same.
    let now = c.loop-stmt.state in
    let items = c.deref-stmt-items.result.now in
    let i = c.loop-stmt.stmt-index in
    let s = c.stmt-item.result in
    let end_line = (out-Block c.args.block.now).end_line in
    let rest = statements_tree (drop (i + 1) items) end_line in
    let e = c.in_err-path-in-On.field-0.0 in
    let p = err_from_is_err_and c.from_residual.result c.from_residual.ensures.1 in
    rw (p.1, p.2) (Stops-along e _ _
    (c.loop-stmt.invariant.goes outer same
    ∙ go_rest outer (path_value c.loop-stmt.path now) items i s end_line c.loop-stmt-test.true c.stmt-item.is
    ∙ ap (λ (w : PathInMemory). go_on outer (path_value w now) (Next (stmt_tree s) rest)) c.in-On.is)
    (go_fault outer now (stmt_tree s) rest e c.in_err-path-in-On.ensures.goes))

pub block_path-returns-in_err-path-in-On-clause-names : goal.block_path-returns-in_err-path-in-On-clause-names
block_path-returns-in_err-path-in-On-clause-names t c =
    let p = err_from_is_err_and c.from_residual.result c.from_residual.ensures.1 in
    rw p.1 tt

pub block_path-returns-in-Returned-clause-names : goal.block_path-returns-in-Returned-clause-names
block_path-returns-in-Returned-clause-names t c = if_ok_weaker c.refuse.result (λ w h. absurd h) c.refuse.ensures.never

pub block_path-end-requires : goal.block_path-end-requires
block_path-end-requires t c =
    let grows = c.loop-stmt.invariant.grows in
    omega (arith, c.loop-stmt.invariant.count, simp length-append at (ap length grows.1))

pub block_path-returns-clause-goes : goal.block_path-returns-clause-goes
block_path-returns-clause-goes t c = λ outer same.
    let now = c.loop-stmt.state in
    let items = c.deref-stmt-items.result.now in
    let i = c.loop-stmt.stmt-index in
    let end_line = (out-Block c.args.block.now).end_line in
    let grows = c.loop-stmt.invariant.grows in
    Goes-along c.end.result c.end.new.state _ _
    (c.loop-stmt.invariant.goes outer same
    ∙ ap (λ (left : List StmtInMemory). go_on outer (path_value c.loop-stmt.path now) (statements_tree left end_line)) (drop_all i items c.loop-stmt-test.false))
    (c.end.ensures.goes outer (c.loop-stmt.invariant.count ∙ ap length (sym same)) (grows.0, grows.1 ∙ ap (λ (names : List Identifier). names ++ grows.0) (sym same)))

pub block_path-returns-clause-names : goal.block_path-returns-clause-names
block_path-returns-clause-names t c = c.end.ensures.names c.args.state.now c.loop-stmt.invariant.count c.loop-stmt.invariant.grows

-- ---- statements

pub stmt_path-returns-in-Some-clause-goes : goal.stmt_path-returns-in-Some-clause-goes
stmt_path-returns-in-Some-clause-goes t c =
    stmt_fault c.refuse_statement.result c.args.state.now c.args.state.now c.args.stmt.now c.in-Some.rule (c.in-Some.ensures c.args.stmt.now.line) (c.refuse_statement.ensures.fault c.args.state.now)

pub stmt_path-returns-in-Some-clause-names : goal.stmt_path-returns-in-Some-clause-names
stmt_path-returns-in-Some-clause-names t c = if_ok_weaker c.refuse_statement.result (λ w h. absurd h) c.refuse_statement.ensures.never

pub stmt_path-returns-in-If-clause-goes : goal.stmt_path-returns-in-If-clause-goes
stmt_path-returns-in-If-clause-goes t c =
    stmt_goes c.inner_path.result c.inner_path.new.state c.args.state.now c.args.stmt.now (c.in-None.ensures c.args.stmt.now.line) c.inner_path.ensures.goes

pub stmt_path-returns-in-If-clause-names : goal.stmt_path-returns-in-If-clause-names
stmt_path-returns-in-If-clause-names t c = c.inner_path.ensures.names

pub stmt_path-plain_path-requires : goal.stmt_path-plain_path-requires
stmt_path-plain_path-requires t c = subst (λ (f : FormInMemory). DeclaresNew (names_of c.args.state.now) (form_tree c.args.stmt.now.line f)) c.in-Plain.is c.requires

pub stmt_path-returns-in-Plain-clause-goes : goal.stmt_path-returns-in-Plain-clause-goes
stmt_path-returns-in-Plain-clause-goes t c =
    let line = c.args.stmt.now.line in
    stmt_goes c.plain_path.result c.plain_path.new.state c.args.state.now c.args.stmt.now (c.in-None.ensures line)
    (Goes-along c.plain_path.result c.plain_path.new.state _ _ (ap (λ (f : FormInMemory). inner_path c.args.state.now (form_tree line f)) c.in-Plain.is) (c.plain_path.ensures.goes line))

pub stmt_path-returns-in-Plain-clause-names : goal.stmt_path-returns-in-Plain-clause-names
stmt_path-returns-in-Plain-clause-names t c =
    if_ok_weaker c.plain_path.result
    (λ w e. e ∙ ap (λ (f : FormInMemory). names_of c.args.state.now ++ own_names (form_tree c.args.stmt.now.line f)) (sym c.in-Plain.is))
    c.plain_path.ensures.names

-- ---- first branches

pub then_path-block_path-first-requires : goal.then_path-block_path-first-requires
then_path-block_path-first-requires t c = (
  search rules,
  subst (λ (names : List Identifier). DeclareNew names (block_tree c.args.then.now))
      (sym (ap names_of c.in-Ok.ensures.after ∙ where_true_names c.args.state.now (test_tree c.args.test.now))) c.requires,
)

pub then_path-returns-in-Ok : goal.then_path-returns-in-Ok
then_path-returns-in-Ok t c =
    let now = c.args.state.now in
    let test = test_tree c.args.test.now in
    let body = block_tree c.args.then.now in
    let begun = c.in-Ok.ensures.after in
    let names = ap names_of begun ∙ where_true_names now test in
    c.take_else.ensures now (path_of_block now (where_true now test) body) c.in-Ok.ensures.before
    (if_ok_weaker c.block_path-first.result (λ w e. sym (e ∙ names)) c.block_path-first.ensures.names)
    (Goes-along c.block_path-first.result c.block_path-first.new.state _ _ (ap (λ (s : RegionState). path_of_block now s body) (sym begun)) (c.block_path-first.ensures.goes now (sym names)))

pub then_path-take_else-requires-clause-long : goal.then_path-take_else-requires-clause-long
then_path-take_else-requires-clause-long t c =
    let saved = c.in-Ok.ensures.before in
    let names = ap names_of c.in-Ok.ensures.after ∙ where_true_names c.args.state.now (test_tree c.args.test.now) in
    if_ok_weaker c.block_path-first.result (λ w e. saved.0 ∙ ap length (sym (e ∙ names))) c.block_path-first.ensures.names

pub then_path-take_else-requires-clause-counted : goal.then_path-take_else-requires-clause-counted
then_path-take_else-requires-clause-counted t c = c.in-Ok.ensures.before.2

pub then_path-returns-in-Err : goal.then_path-returns-in-Err
then_path-returns-in-Err t c = rw c.in-Err.ensures.memory tt

-- ---- second branches

pub other_path-block_path-second-requires : goal.other_path-block_path-second-requires
other_path-block_path-second-requires t c = (
  search rules,
  subst (λ (r : Result Branch CheckError). IfOk r (λ _. DeclareNew (names_of c.args.state.now) (block_tree c.args.block.now))) c.in-Ok.is c.requires.new,
)

pub other_path-join-requires-clause-long : goal.other_path-join-requires-clause-long
other_path-join-requires-clause-long t c =
    let first = subst (λ (r : Result Branch CheckError). Awaits r c.args.state.now) c.in-Ok.is c.requires.saved in
    if_ok_weaker c.block_path-second.result (λ w e. first.1.0 ∙ ap length (first.2 ∙ sym e)) c.block_path-second.ensures.names

pub other_path-join-requires-clause-counted : goal.other_path-join-requires-clause-counted
other_path-join-requires-clause-counted t c =
    (subst (λ (r : Result Branch CheckError). Awaits r c.args.state.now) c.in-Ok.is c.requires.saved).1.2

pub other_path-returns-in-Ok-clause-names : goal.other_path-returns-in-Ok-clause-names
other_path-returns-in-Ok-clause-names t c = λ names same.
    let now = c.args.state.now in
    let first = subst (λ (r : Result Branch CheckError). Awaits r now) c.in-Ok.is c.requires.saved in
    let named = subst (λ (r : Result Branch CheckError). IfOk r (λ _. names_of now ≡ names)) c.in-Ok.is same in
    if_ok_weaker c.join.result (λ w e. e ∙ first.2 ∙ named)
    (c.join.ensures.names first.0 first.1 (if_ok_weaker c.block_path-second.result (λ w e. first.2 ∙ sym e) c.block_path-second.ensures.names))

pub other_path-returns-in-Err-clause-goes : goal.other_path-returns-in-Err-clause-goes
other_path-returns-in-Err-clause-goes t c = λ outer expected other same is.
    first_stops c.args.line expected (path_of_block outer other (block_tree c.args.block.now)) c.in-Err.e
    (subst (λ (r : Result Branch CheckError). Branches r c.args.state.now expected other) c.in-Err.is is)

pub other_path-returns-in-Err-clause-names : goal.other_path-returns-in-Err-clause-names
other_path-returns-in-Err-clause-names t c = λ names same. tt

pub other_path-returns-in-Ok-clause-goes : goal.other_path-returns-in-Ok-clause-goes
other_path-returns-in-Ok-clause-goes t c = λ outer expected other same is.
    let now = c.args.state.now in
    let block = block_tree c.args.block.now in
    let second = path_of_block outer other block in
    let first = subst (λ (r : Result Branch CheckError). Branches r now expected other) c.in-Ok.is is in
    Goes-along c.join.result c.join.new.state _ _
    (ap (λ (r : PathOrFault). join_paths c.args.line r second) first.3)
    (c.join.ensures.goes first.0 second first.1
    (if_ok_weaker c.block_path-second.result (λ w e. first.2 ∙ sym e) c.block_path-second.ensures.names)
    (Goes-along c.block_path-second.result c.block_path-second.new.state _ _
    (ap (λ (s : RegionState). path_of_block outer s block) (sym first.4))
    (c.block_path-second.ensures.goes outer (same ∙ ap names_of (sym first.4)))))

-- ---- statements with blocks

pub inner_path-returns-in-Nothing-clause-goes : goal.inner_path-returns-in-Nothing-clause-goes
inner_path-returns-in-Nothing-clause-goes t c =
    let now = c.args.state.now in
    Goes-along c.one_path.result c.one_path.new.state _ _
    (ap (λ (f : FormInMemory). inner_path now (form_tree c.args.line f)) (c.in-If.is ∙ ap (λ (d : ElseInMemory). form.If c.in-If.test c.in-If.b d) c.in-Nothing.is))
    (c.one_path.ensures.goes _ (where_false now (test_tree c.in-If.test)) c.then_path-first.ensures)

pub inner_path-returns-in-Nothing-clause-names : goal.inner_path-returns-in-Nothing-clause-names
inner_path-returns-in-Nothing-clause-names t c =
    let now = c.args.state.now in
    if_ok_weaker c.one_path.result
    (λ w e. e ∙ sym (append-nil (names_of now)) ∙ ap (λ (f : FormInMemory). names_of now ++ own_names (form_tree c.args.line f)) (sym (c.in-If.is ∙ ap (λ (d : ElseInMemory). form.If c.in-If.test c.in-If.b d) c.in-Nothing.is)))
    (c.one_path.ensures.names (names_of now) (passed_names c.then_path-first.result c.then_path-first.new.state now (test_tree c.in-If.test) _ c.then_path-first.ensures))

pub inner_path-other_path-requires : goal.inner_path-other_path-requires
inner_path-other_path-requires t c =
    let now = c.args.state.now in
    let first = c.then_path-first in
    let test = test_tree c.in-If.test in
    let otherwise = block_tree c.in-Block.d in
    let new = (subst (λ (f : FormInMemory). DeclaresNew (names_of now) (form_tree c.args.line f)) (c.in-If.is ∙ ap (λ (d : ElseInMemory). form.If c.in-If.test c.in-If.b d) c.in-Block.is) c.requires).1 in (
      search (rules, the_lemmas),
      (
        branch_awaits first.result first.new.state (where_false now test) _ first.ensures,
        if_ok_weaker first.result
            (λ w same. subst (λ (names : List Identifier). DeclareNew names otherwise) (sym same) new)
            (passed_names first.result first.new.state now test _ first.ensures),
      ),
    )

pub inner_path-returns-in-Block-clause-goes : goal.inner_path-returns-in-Block-clause-goes
inner_path-returns-in-Block-clause-goes t c =
    let now = c.args.state.now in
    let test = test_tree c.in-If.test in
    Goes-along c.other_path.result c.other_path.new.state _ _
    (ap (λ (f : FormInMemory). inner_path now (form_tree c.args.line f)) (c.in-If.is ∙ ap (λ (d : ElseInMemory). form.If c.in-If.test c.in-If.b d) c.in-Block.is))
    (c.other_path.ensures.goes now _ (where_false now test) (sym (where_false_names now test)) c.then_path-first.ensures)

pub inner_path-returns-in-Block-clause-names : goal.inner_path-returns-in-Block-clause-names
inner_path-returns-in-Block-clause-names t c =
    let now = c.args.state.now in
    let first = c.then_path-first in
    if_ok_weaker c.other_path.result
    (λ w e. e ∙ sym (append-nil (names_of now)) ∙ ap (λ (f : FormInMemory). names_of now ++ own_names (form_tree c.args.line f)) (sym (c.in-If.is ∙ ap (λ (d : ElseInMemory). form.If c.in-If.test c.in-If.b d) c.in-Block.is)))
    (c.other_path.ensures.names (names_of now) (passed_names first.result first.new.state now (test_tree c.in-If.test) _ first.ensures))

pub inner_path-returns-in-While-clause-goes : goal.inner_path-returns-in-While-clause-goes
inner_path-returns-in-While-clause-goes t c =
    let now = c.args.state.now in
    Goes-along c.other_path-in-While.result c.other_path-in-While.new.state _ _
    (ap (λ (f : FormInMemory). inner_path now (form_tree c.args.line f)) c.in-While.is ∙ turn_is_join c.args.line now (path_of_block now now (block_tree c.in-While.b)))
    (c.other_path-in-While.ensures.goes now (Ok (On now)) now refl c.no_turn-before.ensures)

pub inner_path-returns-in-While-clause-names : goal.inner_path-returns-in-While-clause-names
inner_path-returns-in-While-clause-names t c =
    let now = c.args.state.now in
    if_ok_weaker c.other_path-in-While.result
    (λ w e. e ∙ sym (append-nil (names_of now)) ∙ ap (λ (f : FormInMemory). names_of now ++ own_names (form_tree c.args.line f)) (sym c.in-While.is))
    (c.other_path-in-While.ensures.names (names_of now) (if_ok_always c.no_turn-before.result (λ b. refl)))

pub inner_path-then_path-first-requires : goal.inner_path-then_path-first-requires
inner_path-then_path-first-requires t c = (
  search (rules, the_lemmas),
  (subst (λ (f : FormInMemory). DeclaresNew (names_of c.args.state.now) (form_tree c.args.line f)) c.in-If.is c.requires).0,
)

pub inner_path-one_path-requires : goal.inner_path-one_path-requires
inner_path-one_path-requires t c =
    let first = c.then_path-first in
    branch_awaits first.result first.new.state (where_false c.args.state.now (test_tree c.in-If.test)) _ first.ensures

pub inner_path-other_path-requires-in-While : goal.inner_path-other_path-requires-in-While
inner_path-other_path-requires-in-While t c =
    let now = c.args.state.now in
    let new = subst (λ (f : FormInMemory). DeclaresNew (names_of c.args.state.now) (form_tree c.args.line f)) c.in-While.is c.requires in (
      search (rules, the_lemmas),
      (branch_awaits c.no_turn-before.result now now _ c.no_turn-before.ensures, if_ok_always c.no_turn-before.result (λ b. new)),
    )

pub inner_path-plain_path-requires : goal.inner_path-plain_path-requires
inner_path-plain_path-requires t c = subst (λ (f : FormInMemory). DeclaresNew (names_of c.args.state.now) (form_tree c.args.line f)) c.in-Plain.is c.requires

pub inner_path-returns-in-Plain-clause-goes : goal.inner_path-returns-in-Plain-clause-goes
inner_path-returns-in-Plain-clause-goes t c =
    Goes-along c.plain_path.result c.plain_path.new.state _ _ (ap (λ (f : FormInMemory). inner_path c.args.state.now (form_tree c.args.line f)) c.in-Plain.is) (c.plain_path.ensures.goes c.args.line)

pub inner_path-returns-in-Plain-clause-names : goal.inner_path-returns-in-Plain-clause-names
inner_path-returns-in-Plain-clause-names t c =
    if_ok_weaker c.plain_path.result
    (λ w e. e ∙ ap (λ (f : FormInMemory). names_of c.args.state.now ++ own_names (form_tree c.args.line f)) (sym c.in-Plain.is))
    c.plain_path.ensures.names
