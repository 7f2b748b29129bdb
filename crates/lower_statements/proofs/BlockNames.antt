-- What a block declares is known before what was known already.
use Rattle.std.proofs.Common.{◌≡◌, ℕ, ◌-◌, length, drop, [], ◌∷◌, ◌++◌, refl, sym, ap, ◌∙◌, append_assoc, arith, length-append}
use Rattle.std.proofs.Math.Seq.{drop-append_seam}
use Rattle.syntax.specs.Tree as tree
use Rattle.syntax.specs.Tree.{Stmt, Block, End, Next}
use Rattle.code_meaning.specs.Layout.{Known, Layout, closed, layout_after, block_layout}

-- some names before others
abbrev pub Adds : Known → Known → Type 0
Adds known all = (names : Known) × (all ≡ names ++ known)

none : (known : Known) → Adds known known
none known = ([], refl)

statement_adds : (l : Layout) (s : Stmt) → Adds l.known (layout_after l s).known
statement_adds l (tree.Plain line (tree.Declare t x r)) = (_ ∷ [], refl)
statement_adds l (tree.Plain line (tree.DeclareArray t x size)) = (_ ∷ [], refl)
statement_adds l (tree.Plain line (tree.Assign x r)) = none l.known
statement_adds l (tree.Plain line (tree.AssignElement x i v)) = none l.known
statement_adds l (tree.Plain line (tree.Perform call)) = none l.known
statement_adds l (tree.Plain line (tree.PutJint v)) = none l.known
statement_adds l (tree.If line test then' else') = none l.known
statement_adds l (tree.While line test body) = none l.known
statement_adds l (tree.Return line v) = none l.known

block_adds : (l : Layout) (b : Block) → Adds l.known (block_layout l b).known
block_adds l (End line) = none l.known
block_adds l (Next s rest) =
    let first = statement_adds l s in
    let further = block_adds (layout_after l s) rest in
    (further.0 ++ first.0, further.1 ∙ ap (λ known. further.0 ++ known) first.1 ∙ sym (append_assoc further.0 first.0 l.known))

-- the latest names are forgotten
pub drop_added : (names known : Known) → drop (length (names ++ known) - length known) (names ++ known) ≡ known
drop_added names known =
    let size : length (names ++ known) - length known ≡ length names = omega (arith, length-append names known) in
    ap (λ n. drop n (names ++ known)) size ∙ drop-append_seam names known

-- a block is closed by forgetting what it declares
pub block_closed : (l inner : Layout) (b : Block) (outside : ℕ) → block_layout l b ≡ inner → outside ≡ length l.known → record { known = drop (length inner.known - outside) inner.known; slots = inner.slots } ≡ closed l (block_layout l b)
block_closed l inner b outside is count =
    let added = block_adds l b in
    let left : drop (length (block_layout l b).known - length l.known) (block_layout l b).known ≡ l.known = ap (λ (all : Known). drop (length all - length l.known) all) added.1 ∙ drop_added added.0 l.known in
    rw (count, ← is) (ap (λ known. record { known = known; slots = (block_layout l b).slots }) left)
