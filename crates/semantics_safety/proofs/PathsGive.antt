-- From what is known at a point, a statement and a block that keep the rules break none as they run.
use Rattle.std.proofs.Common.{◌≡◌, ℕ, ◌+◌, ◌≤◌, arith, inl, inr, Bool, true, false, ◌||◌, List, [], ◌∷◌, ◌++◌, Some, refl, sym, ap, ◌∙◌, subst, if◌then◌else◌}
use Rattle.std.specs.Str.{bytes_eq}
use Rattle.std.proofs.lemmas.Bool.{not-true}
use Rattle.std.proofs.lemmas.List.Elements.{filter_map-append}
use Rattle.std.proofs.lemmas.List.Folds.{list_any-append}
use Rattle.base.specs.Bytes.{Identifier}
use Rattle.base.specs.Options.{some_passes}
use Rattle.syntax.specs.Parts.{statements_of, statements_within, declared_name, names_declared}
use Rattle.syntax.specs.Tree as tree
use Rattle.syntax.specs.declared.expr.BinaryOp.TheVariants as operators
use Rattle.syntax.specs.declared.expr.Constant.TheVariants as constants
use Rattle.syntax.specs.declared.unit.ResultType.{ResultType}
use Rattle.syntax.specs.Tree.{Expr, Test, TestExpr, TestCall, Stmt, If, While, Else, NoElse, ElseBlock, Block, End, Next}
use Rattle.type_rules.specs.declared.ty.ExprType.{ExprType}
use Rattle.type_rules.specs.declared.ty.ExprType.TheVariants.{Truth}
use Rattle.type_rules.specs.ExprTypes.{type_in, type_of}
use Rattle.type_rules.specs.TypeRules.{has_name, with_declared, places_within, places_of}
use Rattle.region_rules.specs.RegionRules.{Obeys}
use Rattle.region_rules.specs.RegionStates.{VariableState, Free, Untested, Usable, ReferenceAt, BufferIn, RegionState, state_of, made_free, with_changed}
use Rattle.region_rules.specs.Regions.{made_usable, where_true, where_false, left, holds_own, Path, On, Returned, Join, ComesBack, Keeps, KeepsBlock}
use Rattle.region_rules.proofs.Returns.{returns_not}
use Rattle.semantics.specs.Task.{task_of}
use Rattle.semantics.specs.Term.{term_of}
use Rattle.semantics_safety.specs.Points.{Point}
use Rattle.semantics_safety.specs.Wanted.{Closes, Outside, Teaches, Nothing, ForNull, ForOther, RunsBlock, RunsStmt, RunsPush, at}
use Rattle.semantics_safety.proofs.ArgumentFits.{first_read}
use Rattle.semantics_safety.proofs.BlockLaws.{block_more}
use Rattle.semantics_safety.proofs.CallFits.{statement_reads}
use Rattle.semantics_safety.proofs.ExpressionFits.{expression_fits}
use Rattle.type_rules.proofs.KeptPlaces.{IsKept, own_kept, inside_kept}
use Rattle.semantics_safety.proofs.KnownPoints.{IsKnown, Covers, known_more, Kin, kin_same, known_changed, IsWithin, end_point, known_end, closes_end}
use Rattle.semantics_safety.proofs.NameLaws.{front_other}
use Rattle.type_rules.proofs.PlaceLists.{AreUnbroken, front_unbroken, back_unbroken}
use Rattle.type_rules.proofs.TypeTests.{truth_is}

-- ---- taken names

pub covers_front : (taken more : List Identifier) → Covers taken (taken ++ more)
covers_front taken more x h = list_any-append (bytes_eq x) taken more ∙ ap (λ (b : Bool). b || has_name more x) h

-- names of two parts in one
either : (a b c : Bool) → ((a || b) || c) ≡ true → (a || (b || c)) ≡ true
either true b c h = refl
either false b c h = h

pub covers_parts : (taken : List Identifier) (front back : List Stmt) → Covers ((taken ++ names_declared front) ++ names_declared back) (taken ++ names_declared (front ++ back))
covers_parts taken front back x h =
    let one : has_name ((taken ++ names_declared front) ++ names_declared back) x ≡ ((has_name taken x || has_name (names_declared front) x) || has_name (names_declared back) x) =
    list_any-append (bytes_eq x) (taken ++ names_declared front) (names_declared back) ∙ ap (λ (b : Bool). b || has_name (names_declared back) x) (list_any-append (bytes_eq x) taken (names_declared front)) in
    let two : has_name (taken ++ names_declared (front ++ back)) x ≡ (has_name taken x || (has_name (names_declared front) x || has_name (names_declared back) x)) =
    list_any-append (bytes_eq x) taken (names_declared (front ++ back))
    ∙ ap (λ (names : List Identifier). has_name taken x || has_name names x) (filter_map-append declared_name front back)
    ∙ ap (λ (b : Bool). has_name taken x || b) (list_any-append (bytes_eq x) (names_declared front) (names_declared back)) in
    two ∙ either (has_name taken x) (has_name (names_declared front) x) (has_name (names_declared back) x) (sym one ∙ h)

covers_skipped : (taken : List Identifier) (front back : List Stmt) → Covers (taken ++ names_declared front) (taken ++ names_declared (front ++ back))
covers_skipped taken front back x h = covers_parts taken front back x (covers_front (taken ++ names_declared front) (names_declared back) x h)

-- ---- tests

-- what a test teaches is what the rules learn of it
teaches : (p : Point) (e : Expr) → Teaches p (term_of e) (at p (where_true p.regions (TestExpr e))) (at p (where_false p.regions (TestExpr e)))
teaches p (tree.Binary operators.Equal (tree.Variable x) (tree.Named constants.Null)) = ForNull x
teaches p (tree.Binary operators.NotEqual (tree.Variable x) (tree.Named constants.Null)) = ForOther x
teaches p e = Nothing (term_of e)

pub free_kin : (taken : List Identifier) (u : VariableState) → Kin taken u (made_free u)
free_kin taken (ReferenceAt level live) = tt
free_kin taken (BufferIn b) = λ access a h. absurd (cc)

usable_kin : (p : Point) (taken : List Identifier) → IsKnown p taken → (x : Identifier) (u : VariableState) → state_of p.regions x ≡ Some u → Kin taken u (made_usable u)
usable_kin p taken k x (ReferenceAt level live) e = tt
usable_kin p taken k x (BufferIn Free) e = kin_same p taken k x (BufferIn Free) e
usable_kin p taken k x (BufferIn (Untested access a)) e = kin_same p taken k x (BufferIn (Untested access a)) e
usable_kin p taken k x (BufferIn (Usable access a)) e = kin_same p taken k x (BufferIn (Usable access a)) e

kin_if : (b : Bool) (taken : List Identifier) (u v : VariableState) → Kin taken u v → Kin taken u u → Kin taken u (if b then v else u)
kin_if true taken u v h g = h
kin_if false taken u v h g = g

module _ (p : Point) (taken : List Identifier) (k : IsKnown p taken) where
  -- one variable's state changes
  pub known_one : (x : Identifier) (f : VariableState → VariableState) → ((y : Identifier) (u : VariableState) → state_of p.regions y ≡ Some u → Kin taken u (f u)) → IsKnown (at p (with_changed p.regions x f)) taken
  known_one x f kin = known_changed p taken k (λ y old. if bytes_eq x y then f old else old) p.regions.frames k.framed (λ y u e. kin_if (bytes_eq x y) taken u (f u) (kin y u e) (kin_same p taken k y u e))

  known_free : (x : Identifier) → IsKnown (at p (with_changed p.regions x made_free)) taken
  known_free x = known_one x made_free (λ y u e. free_kin taken u)

  known_usable : (x : Identifier) → IsKnown (at p (with_changed p.regions x made_usable)) taken
  known_usable x = known_one x made_usable (usable_kin p taken k)

  -- the number of frames is no matter
  pub known_frames : (frames : ℕ) → 1 ≤ frames → IsKnown (at p (record p.regions { frames = frames })) taken
  known_frames frames some = record {
    stated = record { no_truth = k.stated.no_truth; reference = k.stated.reference; buffer = k.stated.buffer };
    named_taken = k.named_taken;
    known_taken = k.known_taken;
    arrays_taken = k.arrays_taken;
    stateful = k.stateful;
    framed = some;
    once = k.once;
  }

  known_true : (test : Test) → IsKnown (at p (where_true p.regions test)) taken
  known_true (TestExpr (tree.Binary operators.Equal (tree.Variable x) (tree.Named constants.Null))) = known_free x
  known_true (TestExpr (tree.Binary operators.NotEqual (tree.Variable x) (tree.Named constants.Null))) = known_usable x
  known_true (TestExpr e) = k
  known_true (TestCall c) = known_frames (p.regions.frames + 1) (omega arith)

  known_false : (test : Test) → IsKnown (at p (where_false p.regions test)) taken
  known_false (TestExpr (tree.Binary operators.Equal (tree.Variable x) (tree.Named constants.Null))) = known_usable x
  known_false (TestExpr (tree.Binary operators.NotEqual (tree.Variable x) (tree.Named constants.Null))) = known_free x
  known_false (TestExpr e) = k
  known_false (TestCall c) = k

-- ---- paths

on_same : (a b : RegionState) → On a ≡ On b → a ≡ b
on_same a b e = cc

-- where one path of an if goes on, the whole goes on as it does
first_on : (one other path : Path) (after : RegionState) → Join one other path → one ≡ On after → path ≡ On after
first_on Returned other path after j e = absurd (returns_not after e)
first_on (On a) Returned path after j e = j ∙ e
first_on (On a) (On b) path after j e = j.1 ∙ e

second_on : (one other path : Path) (after : RegionState) → Join one other path → other ≡ On after → path ≡ On after
second_on Returned other path after j e = j ∙ e
second_on (On a) Returned path after j e = absurd (returns_not after e)
second_on (On a) (On b) path after j e = j.1 ∙ ap (λ (s : RegionState). On s) j.0 ∙ e

comes_back : (before : RegionState) (turn : Path) (after : RegionState) → ComesBack before turn → turn ≡ On after → after ≡ before
comes_back before Returned after c e = absurd (returns_not after e)
comes_back before (On a) after c e = sym (on_same a after e) ∙ c

-- a point closes to itself
closes_same : (p : Point) (taken : List Identifier) → IsKnown p taken → Closes p p
closes_same p taken k = record { names = λ x s e. e; known = λ x v e. e; held = λ x access a h. h; frames = refl; owners = λ vs level n. omega arith; once = k.once }

-- ---- names inside

declared_within : (outer p : Point) (taken : List Identifier) (s : Stmt) → IsWithin outer p → IsKnown p taken → some_passes (has_name taken) (declared_name s) ≡ false → (after : RegionState) → IsWithin outer (record { names = with_declared p.names s; regions = after })
declared_within outer p taken s within k new after x r e = by_form s new
  where
    there : type_in p.names x ≡ Some r
    there = within x r e

    front : (y : Identifier) (t : ExprType) → has_name taken y ≡ false → type_in ((y, t) ∷ p.names) x ≡ Some r
    front y t h = front_other y x t p.names (λ same. let c : true ≡ false = sym (k.named_taken x r there) ∙ ap (has_name taken) same ∙ h in cc) ∙ there

    by_form : (s : Stmt) → some_passes (has_name taken) (declared_name s) ≡ false → type_in (with_declared p.names s) x ≡ Some r
    by_form (tree.Plain line (tree.Declare t y right)) h = front y _ h
    by_form (tree.Plain line (tree.DeclareArray t y size)) h = front y _ h
    by_form s h = there

-- a statement without a block
abbrev pub IsPlain : Stmt → Type 0
IsPlain (If line test then' else') = ⊥
IsPlain (While line test body) = ⊥
IsPlain s = Unit {0}

-- the point after a statement
abbrev pub point_after : Point → Stmt → RegionState → Point
point_after p s after = record { names = with_declared p.names s; regions = after }

-- from what is known before a statement it runs, and what is known after it holds
abbrev pub Gives : Stmt → Type 1
Gives s =
    (p : Point) (taken : List Identifier) (returns : ResultType) (path : Path) (k : Point → Type 0) → IsKnown p taken → IsKept p.names taken returns s → Keeps p.regions s path
    → ((after : RegionState) → path ≡ On after → IsKnown (point_after p s after) (taken ++ names_declared (statements_within s)) → k (point_after p s after)) → RunsStmt s k p

-- a call in a test makes a frame
abbrev pub Pushes : Type 1
Pushes =
    (p : Point) (taken : List Identifier) (returns : ResultType) (line : ℕ) (c : tree.Call) (then' : Block) (else' : Else) → IsKnown p taken → IsKept p.names taken returns (If line (TestCall c) then' else') → Obeys p.regions (If line (TestCall c) then' else') → (on_true on_false : Point → Type 0)
    → on_true (at p (record p.regions { frames = p.regions.frames + 1 })) → on_false p → RunsPush (task_of (If line (TestCall c) then' else')) on_true on_false p

-- ---- blocks

module _ (plain : (s : Stmt) → IsPlain s → Gives s) (pushes : Pushes) where
  mutual
    pub stmt_gives : (s : Stmt) (p : Point) (taken : List Identifier) (returns : ResultType) (path : Path) (k : Point → Type 0) → IsKnown p taken → AreUnbroken (places_within returns p.names taken s) → Keeps p.regions s path
        → ((after : RegionState) → path ≡ On after → IsKnown (point_after p s after) (taken ++ names_declared (statements_within s)) → k (point_after p s after)) → RunsStmt s k p
    stmt_gives (If line (TestExpr e) then' NoElse) p taken returns path k known well_typed (obeys, one, other, keeps, on, join) h =
        let s = If line (TestExpr e) then' NoElse in
        let kept = own_kept returns p.names taken s well_typed in
        let reads = first_read p.regions e [] (statement_reads p.regions s obeys) in
        let a = at p (where_true p.regions (TestExpr e)) in
        let b = at p (where_false p.regions (TestExpr e)) in
        let on_a : IsKnown a taken = known_true p taken known (TestExpr e) in
        let on_b : IsKnown b taken = known_false p taken known (TestExpr e) in (
          expression_fits p known.stated e Truth reads.0 (truth_is (type_of p.names e) kept.fits) tt,
          (
            a,
            b,
            teaches p e,
            block_gives then' p a taken taken returns one k known on_a (λ x r at. at) (inside_kept returns p.names taken s well_typed) keeps (λ after is now. h after (first_on one other path after join is) now),
            (b, closes_same b taken on_b, h b.regions (second_on one other path b.regions join on) (known_more b taken (taken ++ names_declared (statements_of then')) (covers_front taken (names_declared (statements_of then'))) on_b)),
          ),
        )
    stmt_gives (If line (TestCall c) then' NoElse) p taken returns path k known well_typed (obeys, one, other, keeps, on, join) h =
        let s = If line (TestCall c) then' NoElse in
        let a = at p (where_true p.regions (TestCall c)) in
        let on_a : IsKnown a taken = known_true p taken known (TestCall c) in
        pushes p taken returns line c then' NoElse known (own_kept returns p.names taken s well_typed) obeys (RunsBlock then' (Outside k)) (Outside k)
        (block_gives then' p a taken taken returns one k known on_a (λ x r at. at) (inside_kept returns p.names taken s well_typed) keeps (λ after is now. h after (first_on one other path after join is) now))
        (p, closes_same p taken known, h p.regions (second_on one other path p.regions join on) (known_more p taken (taken ++ names_declared (statements_of then')) (covers_front taken (names_declared (statements_of then'))) known))
    stmt_gives (If line (TestExpr e) then' (ElseBlock else')) p taken returns path k known well_typed (obeys, one, other, keeps, keeps', join) h =
        let s = If line (TestExpr e) then' (ElseBlock else') in
        let kept = own_kept returns p.names taken s well_typed in
        let reads = first_read p.regions e [] (statement_reads p.regions s obeys) in
        let a = at p (where_true p.regions (TestExpr e)) in
        let b = at p (where_false p.regions (TestExpr e)) in
        let middle = taken ++ names_declared (statements_of then') in
        let inside = inside_kept returns p.names taken s well_typed in
        let first = front_unbroken (places_of returns p.names taken then') (places_of returns p.names middle else') inside in
        let second = back_unbroken (places_of returns p.names taken then') (places_of returns p.names middle else') inside in
        let all = taken ++ names_declared (statements_of then' ++ statements_of else') in
        let on_a : IsKnown a taken = known_true p taken known (TestExpr e) in
        let on_b : IsKnown b middle = known_more b taken middle (covers_front taken (names_declared (statements_of then'))) (known_false p taken known (TestExpr e)) in (
          expression_fits p known.stated e Truth reads.0 (truth_is (type_of p.names e) kept.fits) tt,
          (
            a,
            b,
            teaches p e,
            block_gives then' p a taken taken returns one k known on_a (λ x r at. at) first keeps (λ after is now. h after (first_on one other path after join is) (known_more (point_after p s after) middle all (covers_skipped taken (statements_of then') (statements_of else')) now)),
            block_gives else' p b taken middle returns other k known on_b (λ x r at. at) second keeps' (λ after is now. h after (second_on one other path after join is) (known_more (point_after p s after) (middle ++ names_declared (statements_of else')) all (covers_parts taken (statements_of then') (statements_of else')) now)),
          ),
        )
    stmt_gives (If line (TestCall c) then' (ElseBlock else')) p taken returns path k known well_typed (obeys, one, other, keeps, keeps', join) h =
        let s = If line (TestCall c) then' (ElseBlock else') in
        let a = at p (where_true p.regions (TestCall c)) in
        let middle = taken ++ names_declared (statements_of then') in
        let inside = inside_kept returns p.names taken s well_typed in
        let first = front_unbroken (places_of returns p.names taken then') (places_of returns p.names middle else') inside in
        let second = back_unbroken (places_of returns p.names taken then') (places_of returns p.names middle else') inside in
        let all = taken ++ names_declared (statements_of then' ++ statements_of else') in
        let on_a : IsKnown a taken = known_true p taken known (TestCall c) in
        let on_b : IsKnown p middle = known_more p taken middle (covers_front taken (names_declared (statements_of then'))) known in
        pushes p taken returns line c then' (ElseBlock else') known (own_kept returns p.names taken s well_typed) obeys (RunsBlock then' (Outside k)) (RunsBlock else' (Outside k))
        (block_gives then' p a taken taken returns one k known on_a (λ x r at. at) first keeps (λ after is now. h after (first_on one other path after join is) (known_more (point_after p s after) middle all (covers_skipped taken (statements_of then') (statements_of else')) now)))
        (block_gives else' p p taken middle returns other k known on_b (λ x r at. at) second keeps' (λ after is now. h after (second_on one other path after join is) (known_more (point_after p s after) (middle ++ names_declared (statements_of else')) all (covers_parts taken (statements_of then') (statements_of else')) now)))
    stmt_gives (While line e body) p taken returns path k known well_typed (obeys, turn, keeps, back, is) h =
        let s = While line e body in
        let kept = own_kept returns p.names taken s well_typed in
        let reads = first_read p.regions e [] (statement_reads p.regions s obeys) in (
          expression_fits p known.stated e Truth reads.0 (truth_is (type_of p.names e) kept.fits) tt,
          block_more body (Outside (λ r. r ≡ p)) (λ q. Closes q p) (λ q o. subst (Closes q) o.2 o.1) p
              (block_gives body p p taken taken returns turn (λ r. r ≡ p) known known (λ x r at. at) (inside_kept returns p.names taken s well_typed) keeps (λ after on now. ap (λ (r : RegionState). at p r) (comes_back p.regions turn after back on))),
          h p.regions is (known_more p taken (taken ++ names_declared (statements_of body)) (covers_front taken (names_declared (statements_of body))) known),
        )
    stmt_gives s p taken returns path k known well_typed keeps h = plain s tt p taken returns path k known (own_kept returns p.names taken s well_typed) keeps h

    pub block_gives : (b : Block) (outer p : Point) (before taken : List Identifier) (returns : ResultType) (path : Path) (k : Point → Type 0) → IsKnown outer before → IsKnown p taken → IsWithin outer p → AreUnbroken (places_of returns p.names taken b)
        → KeepsBlock outer.regions p.regions b path → ((after : RegionState) → path ≡ On after → IsKnown (at outer after) (taken ++ names_declared (statements_of b)) → k (at outer after)) → RunsBlock b (Outside k) p
    block_gives (End line) outer p before taken returns path k around known within well_typed (none, is) h = (
      end_point outer p,
      closes_end outer p before taken around known within (not-true (holds_own outer.regions p.regions) none),
      h (left outer.regions p.regions) is (known_more (end_point outer p) taken (taken ++ []) (covers_front taken []) (known_end outer p before taken around known within)),
    )
    block_gives (Next s rest) outer p before taken returns path k around known within well_typed (inl (middle, keeps, further)) h =
        let later = taken ++ names_declared (statements_within s) in
        let first = front_unbroken (places_within returns p.names taken s) (places_of returns (with_declared p.names s) later rest) well_typed in
        let second = back_unbroken (places_within returns p.names taken s) (places_of returns (with_declared p.names s) later rest) well_typed in
        let kept = own_kept returns p.names taken s first in
        stmt_gives s p taken returns (On middle) (RunsBlock rest (Outside k)) known first keeps
        (λ after is now.
        block_gives rest outer (point_after p s after) before later returns path k around now (declared_within outer p taken s within known kept.new after) second
        (subst (λ (r : RegionState). KeepsBlock outer.regions r rest path) (on_same middle after is) further)
        (λ end on there. h end on (known_more (at outer end) (later ++ names_declared (statements_of rest)) (taken ++ names_declared (statements_within s ++ statements_of rest)) (covers_parts taken (statements_within s) (statements_of rest)) there)))
    block_gives (Next s rest) outer p before taken returns path k around known within well_typed (inr (keeps, over, is)) h =
        let later = taken ++ names_declared (statements_within s) in
        let first = front_unbroken (places_within returns p.names taken s) (places_of returns (with_declared p.names s) later rest) well_typed in
        stmt_gives s p taken returns Returned (RunsBlock rest (Outside k)) known first keeps (λ after on now. absurd (returns_not after on))
