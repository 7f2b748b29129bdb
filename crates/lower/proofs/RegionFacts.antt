-- Every path through an accepted function returns.
use Rattle.std.proofs.Common.{◌≡◌, true, inl, inr, refl, sym, subst, ◌∙◌}
use Rattle.std.specs.Prelude.{IsTrue}
use Rattle.std.proofs.lemmas.Bool.{or_right, and_from, or_left}
use Rattle.syntax.specs.Tree as tree
use Rattle.syntax.specs.Tree.{Stmt, Block, End, Next, Function}
use Rattle.region_rules.specs.RegionStates.{RegionState, state_at_entry}
use Rattle.region_rules.specs.Regions.{On, Returned, Keeps, KeepsBlock, AcceptedFunction}
use Rattle.code_meaning.specs.Stands.{stmt_returns, block_returns}

mutual
  stmt_path : (s : Stmt) (before : RegionState) → Keeps before s Returned → stmt_returns s ≡ true
  stmt_path (tree.If line test then' tree.NoElse) before (o, Returned, second, k, e, j) = absurd (let other = j ∙ e in cc)
  stmt_path (tree.If line test then' tree.NoElse) before (o, On a, Returned, k, e, j) = absurd (cc)
  stmt_path (tree.If line test then' tree.NoElse) before (o, On a, On b, k, e, j) = absurd (let other = j.1 in cc)
  stmt_path (tree.If line test then' (tree.ElseBlock else')) before (o, Returned, second, k, k', j) =
      and_from (block_returns then') (block_returns else') (block_path then' before _ k) (block_path else' before _ (subst (KeepsBlock before _ else') (sym j) k'))
  stmt_path (tree.If line test then' (tree.ElseBlock else')) before (o, On a, Returned, k, k', j) = absurd (cc)
  stmt_path (tree.If line test then' (tree.ElseBlock else')) before (o, On a, On b, k, k', j) = absurd (let e = j.1 in cc)
  stmt_path (tree.While line test body) before (o, turn, k, c, e) = absurd (cc)
  stmt_path (tree.Return line e) before h = refl
  stmt_path s before h = absurd (let e = h.1 in cc)

  block_path : (b : Block) (outer before : RegionState) → KeepsBlock outer before b Returned → block_returns b ≡ true
  block_path (End line) outer before h = absurd (let e = h.1 in cc)
  block_path (Next s rest) outer before (inl (middle, k, r)) = or_right (stmt_returns s) (block_returns rest) (block_path rest outer middle r)
  block_path (Next s rest) outer before (inr h) = or_left (stmt_returns s) (block_returns rest) (stmt_path s before h.0)

pub function_returns : (f : Function) → AcceptedFunction f → IsTrue (block_returns f.body)
function_returns f h = block_path f.body (state_at_entry f) (state_at_entry f) h
