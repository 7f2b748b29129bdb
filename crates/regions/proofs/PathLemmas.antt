-- The walk over the paths in memory is that of the definitions.
use Rattle.std.proofs.Common.{◌≡◌, ℕ, suc, ◌+◌, ◌<◌, true, false, not, List, [], ◌∷◌, length, get_or, drop, Some, None, Result, Ok, Err, refl, sym, ap, ◌∙◌, subst, add-one, drop-cons}
use Rattle.std.specs.Prelude.{IfOk}
use Rattle.base.proofs.Lists.{item_here}
use Rattle.syntax.specs.declared.stmt.Stmt.{Stmt as StmtInMemory}
use Rattle.syntax.specs.declared.stmt.Block.{Block as BlockInMemory, out-Block}
use Rattle.syntax.specs.Parts.{line_of}
use Rattle.syntax.specs.Tree.{Stmt, Plain, If, While, Return, Test, Block, End, Next}
use Rattle.syntax.specs.Views.{stmt_tree, block_tree}
use Rattle.syntax.proofs.Blocks.{block_is, statements_tree}
use Rattle.regions.specs.declared.fault.CheckError.{CheckError}
use Rattle.regions.specs.declared.fault.CheckError.TheVariants.{Memory, Fault}
use Rattle.regions.specs.declared.joins.Path.{Path as PathInMemory}
use Rattle.regions.specs.declared.joins.Branch.{Branch}
use Rattle.regions.specs.Findings.{fault_of, end_line_of}
use Rattle.region_rules.specs.FirstFaults.{first_broken}
use Rattle.region_rules.specs.declared.rule.RegionRule.{RegionRule}
use Rattle.region_rules.specs.declared.rule.RegionRule.TheVariants.{HeldBuffer, PathsDiffer, NoReturn}
use Rattle.region_rules.specs.RegionStates.{RegionState}
use Rattle.region_rules.specs.Regions.{Path, On, Returned, left, where_false}
use Rattle.regions.specs.Walks.{Stops, Goes, Branches, Awaits, go_on, inner_path}
use Rattle.region_states.specs.StatesInMemory.{names_of, holds_other}
use Rattle.regions.specs.Paths.{Found, path_if, own_path, path_after, returned_before, join_paths, turn_path, path_of, path_of_block}
use Rattle.syntax.specs.declared.unit.Item.{Item as ItemInMemory}
use Rattle.syntax.proofs.StatementLines.{line_is}
use Rattle.region_states.proofs.Same.{same_swapped}
use Rattle.region_states.proofs.StateLemmas.{own_is}
use Rattle.region_states.proofs.NameLemmas.{where_false_names}

-- ---- answers along equations

pub Goes-along : (r : Result PathInMemory CheckError) (after : RegionState) (a b : Result Path Found) → a ≡ b → Goes r after b → Goes r after a
Goes-along r after a b e h = subst (λ x. Goes r after x) (sym e) h

pub Stops-along : (e : CheckError) (a b : Result Path Found) → a ≡ b → Stops e b → Stops e a
Stops-along e a b h k = subst (λ x. Stops e x) (sym h) k

-- a weaker fact of an answer
pub if_ok_weaker : {A B : Type 0} {P Q : A → Type 0} (r : Result A B) → ((x : A) → P x → Q x) → IfOk r P → IfOk r Q
if_ok_weaker (Ok x) f h = f x h
if_ok_weaker (Err e) f h = h

pub if_ok_always : {A B : Type 0} {P : A → Type 0} (r : Result A B) → ((x : A) → P x) → IfOk r P
if_ok_always (Ok x) f = f x
if_ok_always (Err e) f = tt

-- ---- first branches

pub branch_awaits : (r : Result Branch CheckError) (now other : RegionState) (expected : Result Path Found) → Branches r now expected other → Awaits r now
branch_awaits (Ok b) now other expected h = (h.0, h.1, h.2)
branch_awaits (Err e) now other expected h = tt

pub passed_names : (r : Result Branch CheckError) (now before : RegionState) (test : Test) (expected : Result Path Found) → Branches r now expected (where_false before test) → IfOk r (λ _. names_of now ≡ names_of before)
passed_names (Ok b) now before test expected h = ap names_of h.4 ∙ where_false_names before test
passed_names (Err e) now before test expected h = tt

-- ---- statements

pub path_is : (before : RegionState) (s : Stmt) → path_of before s ≡ own_path (first_broken before s) (line_of s) (inner_path before s)
path_is before (Plain line p) = refl
path_is before (If line test then' else') = refl
path_is before (While line test body) = refl
path_is before (Return line e) = refl

-- the statement's own fault, and the path after it where it has none
pub stmt_fault : (r : Result PathInMemory CheckError) (after before : RegionState) (s : StmtInMemory) (rule : RegionRule) → Some rule ≡ first_broken before (stmt_tree s) → Goes r after (Err (s.line, rule)) → Goes r after (path_of before (stmt_tree s))
stmt_fault r after before s rule h k =
    Goes-along r after _ _ (path_is before (stmt_tree s) ∙ ap (λ o. own_path o (line_of (stmt_tree s)) (inner_path before (stmt_tree s))) (sym h) ∙ ap (λ n. Err (n, rule)) (line_is s.line s.form)) k

pub stmt_goes : (r : Result PathInMemory CheckError) (after before : RegionState) (s : StmtInMemory) → None ≡ first_broken before (stmt_tree s) → Goes r after (inner_path before (stmt_tree s)) → Goes r after (path_of before (stmt_tree s))
stmt_goes r after before s h k =
    Goes-along r after _ _ (path_is before (stmt_tree s) ∙ ap (λ o. own_path o (line_of (stmt_tree s)) (inner_path before (stmt_tree s))) (sym h)) k

-- ---- blocks

pub go_rest : (outer : RegionState) (w : Path) (items : List StmtInMemory) (i : ℕ) (s : StmtInMemory) (end_line : ℕ) → i < length items → s ≡ get_or items i s
    → go_on outer w (statements_tree (drop i items) end_line) ≡ go_on outer w (Next (stmt_tree s) (statements_tree (drop (i + 1) items) end_line))
go_rest outer w items i s end_line h e = ap (λ rest. go_on outer w (statements_tree rest end_line)) (item_here items i s s h e refl)

-- one statement more
pub go_step : (outer before : RegionState) (w : Path) (s : Stmt) (rest : Block) → path_of before s ≡ Ok w → go_on outer (On before) (Next s rest) ≡ go_on outer w rest
go_step outer before w s rest h = ap (λ r. path_after r (λ m. path_of_block outer m rest) (returned_before rest)) h

pub go_fault : (outer before : RegionState) (s : Stmt) (rest : Block) (e : CheckError) → Stops e (path_of before s) → Stops e (go_on outer (On before) (Next s rest))
go_fault outer before s rest Memory h = tt
go_fault outer before s rest (Fault f) h = ap (λ r. path_after r (λ m. path_of_block outer m rest) (returned_before rest)) h

-- ---- joins

pub first_stops : (line : ℕ) (r q : Result Path Found) (e : CheckError) → Stops e r → Stops e (join_paths line r q)
first_stops line r q Memory h = tt
first_stops line r q (Fault f) h = ap (λ x. join_paths line x q) h

pub second_stops : (line : ℕ) (a : Path) (q : Result Path Found) (e : CheckError) → Stops e q → Stops e (join_paths line (Ok a) q)
second_stops line a q Memory k = tt
second_stops line a q (Fault f) k = ap (join_paths line (Ok a)) k ∙ last line a (fault_of f)
  where
    last : (line : ℕ) (a : Path) (f : Found) → join_paths line (Ok a) (Err f) ≡ Err f
    last line (On s) f = refl
    last line Returned f = refl

-- the path after a loop is that of two that become one: of none of its turns, and of one
pub turn_is_join : (line : ℕ) (before : RegionState) (r : Result Path Found) → turn_path line before r ≡ join_paths line (Ok (On before)) r
turn_is_join line before (Err e) = refl
turn_is_join line before (Ok Returned) = refl
turn_is_join line before (Ok (On after)) = ap (λ b. path_if b (On before) (line, PathsDiffer)) (same_swapped after before)

-- ---- functions

end_is : (items : List StmtInMemory) (end_line : ℕ) → end_line_of (statements_tree items end_line) ≡ end_line
end_is [] end_line = refl
end_is (s ∷ items) end_line = end_is items end_line

pub end_line_is : (b : BlockInMemory) → end_line_of (block_tree b) ≡ (out-Block b).end_line
end_line_is b = ap end_line_of (block_is b) ∙ end_is (out-Block b).statements.items (out-Block b).end_line

-- ---- ends of blocks

pub end_held : (outer before : RegionState) (line : ℕ) → true ≡ holds_other outer before → path_of_block outer before (End line) ≡ Err (line, HeldBuffer)
end_held outer before line h = ap (λ b. path_if (not b) (On (left outer before)) (line, HeldBuffer)) (own_is outer before ∙ sym h)

pub end_left : (outer before : RegionState) (line : ℕ) → false ≡ holds_other outer before → path_of_block outer before (End line) ≡ Ok (On (left outer before))
end_left outer before line h = ap (λ b. path_if (not b) (On (left outer before)) (line, HeldBuffer)) (own_is outer before ∙ sym h)

pub after_line : (outer : RegionState) (s : StmtInMemory) (rest : Block) → go_on outer Returned (Next (stmt_tree s) rest) ≡ Err (s.line, NoReturn)
after_line outer s rest = ap (λ n. Err (n, NoReturn)) (line_is s.line s.form)

-- ---- items

pub item_next : (items : List ItemInMemory) (i : ℕ) (item : ItemInMemory) → i < length items → item ≡ get_or items i item → drop i items ≡ item ∷ drop (i + 1) items
item_next items i item h e = rw add-one (drop-cons items i item h ∙ ap (λ x. x ∷ drop (suc i) items) (sym e))
