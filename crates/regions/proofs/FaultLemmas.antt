-- Which part of a walk a fault comes from, and that a statement has one path.
use Rattle.std.proofs.Common.{◌≡◌, ℕ, Bool, true, false, ◌⊎◌, Option, Some, None, Result, Ok, Err, refl, sym, ap, ◌∙◌, inl, inr, true≢false}
use Rattle.syntax.specs.Parts.{line_of}
use Rattle.syntax.specs.Tree.{Stmt, Else, Block, End, Next}
use Rattle.region_rules.specs.declared.rule.RegionRule.{RegionRule}
use Rattle.region_rules.specs.declared.rule.RegionRule.TheVariants.{PathsDiffer, NoReturn}
use Rattle.region_rules.specs.RegionStates.{RegionState}
use Rattle.region_rules.specs.Regions.{Path, On, Returned, Keeps, KeepsElse, KeepsBlock, Differ, EndLine, BreaksAfter}
use Rattle.region_states.specs.SameStates.{same_state}
use Rattle.regions.specs.Findings.{end_line_of}
use Rattle.regions.specs.Paths.{Found, own_path, path_after, path_if, returned_before, join_paths, turn_path}
use Rattle.region_states.proofs.Same.{state_decides}
use Rattle.regions.proofs.Paths.{ok_is, answers, answers_else, answers_block}

-- ---- the part that a fault comes from

pub err_is : (f g : Found) → ◌≡◌ {A = Result Path Found} (Err f) (Err g) → g ≡ f
err_is f g e = cc

pub if_err : (t : Bool) (a : Path) (f g : Found) → path_if t a f ≡ Err g → (t ≡ false) × (g ≡ f)
if_err true a f g e = cc
if_err false a f g e = (refl, err_is f g e)

pub own_err : (o : Option RegionRule) (line : ℕ) (go : Result Path Found) (f : Found) → own_path o line go ≡ Err f
    → ((rule : RegionRule) × (o ≡ Some rule) × (f ≡ (line, rule))) ⊎ ((o ≡ None) × (go ≡ Err f))
own_err None line go f h = inr (refl, h)
own_err (Some rule) line go f h = inl (rule, refl, err_is (line, rule) f h)

-- the fault of a join: of the first path, of the second, or of the join itself
pub join_err : (line : ℕ) (r q : Result Path Found) (f : Found) → join_paths line r q ≡ Err f
    → (r ≡ Err f) ⊎ ((q ≡ Err f) ⊎ ((a b : Path) × (r ≡ Ok a) × (q ≡ Ok b) × Differ a b × (f ≡ (line, PathsDiffer))))
join_err line (Err e) q f h = inl h
join_err line (Ok a) (Err e) f h = inr (inl (elim a as (λ x. join_paths line (Ok x) (Err e) ≡ Err f → ◌≡◌ {A = Result Path Found} (Err e) (Err f)) [ On s ↦ λ k. k | Returned ↦ λ k. k ] h))
join_err line (Ok Returned) (Ok b) f h = cc
join_err line (Ok (On a)) (Ok Returned) f h = cc
join_err line (Ok (On a)) (Ok (On b)) f h =
    let both = if_err (same_state a b) (On a) (line, PathsDiffer) f h in
    inr (inr (On a, On b, refl, refl, (λ e. true≢false (sym ((state_decides a b).1 e) ∙ both.0)), both.1))

pub turn_err : (line : ℕ) (before : RegionState) (r : Result Path Found) (f : Found) → turn_path line before r ≡ Err f
    → (r ≡ Err f) ⊎ ((turn : Path) × (r ≡ Ok turn) × Differ turn (On before) × (f ≡ (line, PathsDiffer)))
turn_err line before (Err e) f h = inl h
turn_err line before (Ok Returned) f h = cc
turn_err line before (Ok (On after)) f h =
    let both = if_err (same_state after before) (On before) (line, PathsDiffer) f h in
    inr (On after, refl, (λ e. true≢false (sym ((state_decides after before).1 e) ∙ both.0)), both.1)

pub after_err : (r : Result Path Found) (go : RegionState → Result Path Found) (stop : Result Path Found) (f : Found) → path_after r go stop ≡ Err f
    → (r ≡ Err f) ⊎ (((middle : RegionState) × (r ≡ Ok (On middle)) × (go middle ≡ Err f)) ⊎ ((r ≡ Ok Returned) × (stop ≡ Err f)))
after_err (Err e) go stop f h = inl h
after_err (Ok (On middle)) go stop f h = inr (inl (middle, refl, h))
after_err (Ok Returned) go stop f h = inr (inr (refl, h))

pub ok_err' : (x : Path) (g : Found) → ◌≡◌ {A = Result Path Found} (Ok x) (Err g) → ⊥
ok_err' x g e = cc

pub returned_err : (rest : Block) (f : Found) → returned_before rest ≡ Err f → BreaksAfter f.1 f.0 rest
returned_err (End line) f h = cc
returned_err (Next s rest) f h = let e = err_is (line_of s, NoReturn) f h in (ap (λ (g : Found). g.1) e, ap (λ (g : Found). g.0) e)

-- ---- one path, and one end

-- a function of its tree has one answer, so a statement and a block have one path
pub one_path : (before : RegionState) (s : Stmt) (v w : Path) → Keeps before s v → Keeps before s w → v ≡ w
one_path before s v w h k = ok_is w v (sym (answers before s w k) ∙ answers before s v h)

pub one_else : (outer before : RegionState) (b : Else) (v w : Path) → KeepsElse outer before b v → KeepsElse outer before b w → v ≡ w
one_else outer before b v w h k = ok_is w v (sym (answers_else outer before b w k) ∙ answers_else outer before b v h)

pub one_end : (outer before : RegionState) (b : Block) (v w : Path) → KeepsBlock outer before b v → KeepsBlock outer before b w → v ≡ w
one_end outer before b v w h k = ok_is w v (sym (answers_block outer before b w k) ∙ answers_block outer before b v h)

pub on_is : (a b : RegionState) → On a ≡ On b → b ≡ a
on_is a b e = cc

pub end_is : (body : Block) (l m : ℕ) → EndLine body l → EndLine body m → l ≡ m
end_is (End line) l m e f = e ∙ sym f
end_is (Next s rest) l m e f = end_is rest l m e f

pub end-line : (b : Block) → EndLine b (end_line_of b)
end-line (End line) = refl
end-line (Next s rest) = end-line rest
