use Rattle.std.proofs.Common.{List, map, take, ap, arith}
use Rattle.region_states.specs.declared.states.VariableState.{VariableState as VariableStateInMemory}
use Rattle.region_states.specs.StatesInMemory.{variable_state, how_many, is_of, meets}
use Rattle.region_states.proofs.HolderLemmas.{many_split, last_are}
use Rattle.region_states.proofs.states.Facts.truncate.Goals as goal

pub forget_all-requires : goal.forget_all-requires
forget_all-requires c = λ x.
    let many = λ (vs : List VariableStateInMemory). how_many (is_of x) (map variable_state vs) in
    let known = c.deref.result.now in
    omega (arith, ap many (last_are known c.args.count), many_split (is_of x) c.args.count known, ap many c.deref.ensures.value, c.requires.0 x)

pub forget_all-requires-2 : goal.forget_all-requires-2
forget_all-requires-2 c = λ q.
    let many = λ (vs : List VariableStateInMemory). how_many (meets q) (map variable_state vs) in
    let known = c.deref-2.result.now in
    omega (arith, ap many (last_are known c.args.count), many_split (meets q) c.args.count known, ap many c.deref-2.ensures.value, c.requires.1 q)

pub returns-clause-counted : goal.returns-clause-counted
returns-clause-counted c = (
  λ x.
      let many = λ (vs : List VariableStateInMemory). how_many (is_of x) (map variable_state vs) in
      let known = c.deref.result.now in
      let first = λ (vs : List VariableStateInMemory). many (take c.args.count vs) in
      omega (arith, ap many (last_are known c.args.count), many_split (is_of x) c.args.count known, ap many c.deref.ensures.value, c.requires.0 x, c.forget_all.ensures x, ap many c.truncate.ensures.items, ap first c.deref.ensures.value),
  λ q.
      let many = λ (vs : List VariableStateInMemory). how_many (meets q) (map variable_state vs) in
      let known = c.deref-2.result.now in
      let first = λ (vs : List VariableStateInMemory). many (take c.args.count vs) in
      omega (arith, ap many (last_are known c.args.count), many_split (meets q) c.args.count known, ap many c.deref-2.ensures.value, c.requires.1 q, c.forget_all-2.ensures q, ap many c.truncate.ensures.items, ap first c.deref-2.ensures.value),
)
