-- The statements of a block in memory, one after the other.
use Rattle.std.proofs.Common.{◌≡◌, ℕ, ◌+◌, ◌-◌, ◌<◌, Result, Ok, Err, OnOk, List, [], ◌∷◌, ◌++◌, drop, length, get_or, refl, sym, ap, ap₂, ◌∙◌, append_assoc, length-append, arith}
use Rattle.std.proofs.Math.Seq.{drop-append_seam}
use Rattle.std.proofs.lemmas.List.Elements.{filter_map-append}
use Rattle.base.specs.Bytes.{Identifier, ByName}
use Rattle.base.proofs.Lists.{item_here}
use Rattle.syntax.specs.declared.stmt.Stmt.{Stmt as StmtInMemory}
use Rattle.syntax.specs.Parts.{statements_of, statements_within, names_declared, declared_name}
use Rattle.syntax.specs.declared.unit.ResultType.{ResultType}
use Rattle.syntax.specs.Views.{stmt_tree}
use Rattle.syntax.proofs.Blocks.{statements_tree}
use Rattle.type_rules.specs.declared.ty.ExprType.{ExprType}
use Rattle.type_rules.specs.ExprTypes.{Scope}
use Rattle.type_rules.specs.TypeRules.{places_inside, places_of, statement_place, with_declared}
use Rattle.types.specs.AllFaults.{told_at}
use Rattle.types.specs.Faults.{IsAbove, found}
use Rattle.types.proofs.PlaceLemmas.{found-statement}

-- what is refused at a statement and after it
pub found-rest : (returns : ResultType) (known : Scope) (taken : List Identifier) (items : List StmtInMemory) (i : ℕ) (s : StmtInMemory) (end_line : ℕ) → i < length items → s ≡ get_or items i s
    → found (places_of returns known taken (statements_tree (drop i items) end_line))
    ≡ (told_at (statement_place returns known taken (stmt_tree s)) ++ found (places_inside returns known taken (stmt_tree s)))
    ++ found (places_of returns (with_declared known (stmt_tree s)) (taken ++ names_declared (statements_within (stmt_tree s))) (statements_tree (drop (i + 1) items) end_line))
found-rest returns known taken items i s end_line h e =
    ap (λ rest. found (places_of returns known taken (statements_tree rest end_line))) (item_here items i s s h e refl) ∙ found-statement returns known taken (stmt_tree s) _

-- the names that it declares, and those declared after it
pub declared-rest : (taken : List Identifier) (items : List StmtInMemory) (i : ℕ) (s : StmtInMemory) (end_line : ℕ) → i < length items → s ≡ get_or items i s
    → taken ++ names_declared (statements_of (statements_tree (drop i items) end_line))
    ≡ (taken ++ names_declared (statements_within (stmt_tree s))) ++ names_declared (statements_of (statements_tree (drop (i + 1) items) end_line))
declared-rest taken items i s end_line h e =
    ap (λ rest. taken ++ names_declared (statements_of (statements_tree rest end_line))) (item_here items i s s h e refl)
    ∙ ap (λ names. taken ++ names) (filter_map-append declared_name (statements_within (stmt_tree s)) _)
    ∙ sym (append_assoc taken _ _)

-- ---- names that are known

pub above-none : (known : ByName ExprType) → IsAbove known known
above-none known = record { above = []; joined = refl }

pub above-one : (x : Identifier × ExprType) (more all below : ByName ExprType) → more ≡ x ∷ all → IsAbove all below → IsAbove more below
above-one x more all below e h = record { above = x ∷ h.above; joined = e ∙ ap (λ xs. x ∷ xs) h.joined }

pub above-declared : {A E : Type 0} (r : Result A E) (x : Identifier × ExprType) (more all below : ByName ExprType) → OnOk r (more ≡ x ∷ all) → IsAbove all below → OnOk r (IsAbove more below)
above-declared (Ok y) x more all below e h = above-one x more all below e h
above-declared (Err y) x more all below e h = tt

pub above-more : (more all below : ByName ExprType) → IsAbove more all → IsAbove all below → IsAbove more below
above-more more all below h k = record { above = h.above ++ k.above; joined = h.joined ∙ ap (λ xs. h.above ++ xs) k.joined ∙ sym (append_assoc h.above k.above below) }

pub forgotten : (all below : ByName ExprType) → IsAbove all below → drop (length all - length below) all ≡ below
forgotten all below h =
    let k : length all - length below ≡ length h.above = omega (arith, length-append h.above below, ap length h.joined) in
    ap₂ (λ n xs. drop n xs) k h.joined ∙ drop-append_seam h.above below
