-- An accepted function ends by returns.
use Rattle.std.proofs.Common.{◌≡◌, inl, inr, List, [], ◌∷◌, refl, sym, subst, ◌∙◌}
use Rattle.std.specs.List.{AllByRecursion}
use Rattle.syntax.specs.Tree.{Stmt, Plain, If, NoElse, ElseBlock, While, Return, Block, End, Next, Function}
use Rattle.region_rules.specs.Endings.{EndsByReturn}
use Rattle.region_rules.specs.RegionStates.{RegionState, state_at_entry}
use Rattle.region_rules.specs.Regions.{Path, On, Returned, Join, IsEnd, Keeps, KeepsBlock, AcceptedFunction, where_true, where_false}

pub goes_on : (a : RegionState) → On a ≡ Returned → ⊥
goes_on a e = cc

pub returns_not : (a : RegionState) → Returned ≡ On a → ⊥
returns_not a e = cc

-- paths of which the join returns return both
both_return : (a b : Path) → Join a b Returned → (a ≡ Returned) × (b ≡ Returned)
both_return Returned Returned h = (refl, refl)
both_return Returned (On b) h = absurd (returns_not b h)
both_return (On a) Returned h = absurd (returns_not a h)
both_return (On a) (On b) h = absurd (returns_not a h.1)

-- a statement after which a path goes on
later : (before middle : RegionState) (s : Stmt) (rest : Block) → Keeps before s (On middle) → EndsByReturn rest → EndsByReturn (Next s rest)
later before middle (Return line x) rest h e = absurd (goes_on middle h.1)
later before middle (If line test then' (ElseBlock else')) rest h e = inr e
later before middle s rest h e = e

mutual
  -- a statement after which no path goes on
  last : (before : RegionState) (s : Stmt) (rest : Block) → Keeps before s Returned → IsEnd rest → EndsByReturn (Next s rest)
  last before (Return line x) rest h end = end
  last before (If line test then' NoElse) rest h end = absurd (goes_on (where_false before test) (sym h.4 ∙ (both_return h.1 h.2 h.5).1))
  last before (If line test then' (ElseBlock else')) rest h end =
      let both = both_return h.1 h.2 h.5 in
      inl (
        ends_block before (where_true before test) then' (subst (λ w. KeepsBlock before (where_true before test) then' w) both.0 h.3),
        ends_block before (where_false before test) else' (subst (λ w. KeepsBlock before (where_false before test) else' w) both.1 h.4),
        end,
      )
  last before (While line test body) rest h end = absurd (returns_not before h.4)
  last before (Plain line p) rest h end = absurd (returns_not _ h.1)

  pub ends_block : (outer before : RegionState) (b : Block) → KeepsBlock outer before b Returned → EndsByReturn b
  ends_block outer before (End line) h = absurd (returns_not _ h.1)
  ends_block outer before (Next s rest) h =
      elim h [
        | inl on ↦ later before on.0 s rest on.1 (ends_block outer on.0 rest on.2)
        | inr stopped ↦ last before s rest stopped.0 stopped.1
      ]

pub are_ended : (functions : List Function) → AllByRecursion AcceptedFunction functions → AllByRecursion (λ f. EndsByReturn f.body) functions
are_ended [] h = tt
are_ended (f ∷ functions) h = (ends_block (state_at_entry f) (state_at_entry f) f.body h.0, are_ended functions h.1)
