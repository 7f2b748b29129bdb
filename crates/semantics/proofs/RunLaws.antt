-- Journals and schedules, one entry or one part after another.
use Rattle.std.specs.Prelude.{◌≡◌, [], ◌∷◌, ◌++◌, Option, Some, None, refl}
use Rattle.std.specs.Option.{option_and_then}
use Rattle.std.proofs.Common.{◌∙◌, ap}
use Rattle.syntax.specs.Tree.{SourceUnit}
use Rattle.semantics.specs.Journal.{Entry, Step, Journal}
use Rattle.semantics.specs.Schedule.{Schedule}
use Rattle.semantics.specs.World.{World}
use Rattle.semantics.specs.Run.{EachFrom, replay, replay_from, Follows, Over, Collects, Clears, Slices, SliceClears, Waits, Steps, ClearsAndSteps}
use Rattle.semantics.specs.Start.{start}
use Rattle.semantics.specs.State.{State}
use Rattle.semantics.specs.Step.{world_step}

module _ (unit : SourceUnit) (w : World) where
  -- the replay of a journal goes on with that of another
  pub replay_from-append : (s : State) (j k : Journal) → replay_from unit w s (j ++ k) ≡ option_and_then (λ s'. replay_from unit w s' k) (replay_from unit w s j)
  replay_from-append s [] k = refl
  replay_from-append s (e ∷ j) k = go (world_step unit w s e) (λ s'. replay_from-append s' j k)
    where
      go : (o : Option State) → ((s' : State) → replay_from unit w s' (j ++ k) ≡ option_and_then (λ s'. replay_from unit w s' k) (replay_from unit w s' j)) → option_and_then (λ s'. replay_from unit w s' (j ++ k)) o ≡ option_and_then (λ s'. replay_from unit w s' k) (option_and_then (λ s'. replay_from unit w s' j) o)
      go None further = refl
      go (Some s') further = further s'

  -- one entry more
  pub replay_more : (j : Journal) (e : Entry) (s next : State) → replay unit w j ≡ Some s → world_step unit w s e ≡ Some next → replay unit w (j ++ e ∷ []) ≡ Some next
  replay_more j e s next h g =
      replay_from-append (start unit w) j (e ∷ [])
      ∙ ap (option_and_then (λ s'. replay_from unit w s' (e ∷ []))) h
      ∙ ap (option_and_then (λ s'. replay_from unit w s' [])) g

  -- what follows a schedule can be replayed, to the same state
  pub follows-replay : {s end : State} {j : Journal} {words : Schedule} → Follows unit w s j words end → replay_from unit w s j ≡ Some end
  follows-replay (Over s) = refl
  follows-replay (Collects s end j words l h) = follows-replay h
  follows-replay (Clears s next end names j words c h) = ap (option_and_then (λ s'. replay_from unit w s' j)) c.possible ∙ follows-replay h
  follows-replay (Slices s end j words h) = follows-replay h
  follows-replay (SliceClears s next end names j words c h) = ap (option_and_then (λ s'. replay_from unit w s' j)) c ∙ follows-replay h
  follows-replay (Waits s end k j words e h) = follows-replay h
  follows-replay (Steps s next end k refused j words c e h) = ap (option_and_then (λ s'. replay_from unit w s' j)) e ∙ follows-replay h
  follows-replay (ClearsAndSteps s between next end names k refused j words c m l e h) =
      ap (option_and_then (λ s'. replay_from unit w s' (Step k refused ∷ j))) l.possible ∙ ap (option_and_then (λ s'. replay_from unit w s' j)) e ∙ follows-replay h

  -- two parts of a schedule
  pub follows-append : {s middle : State} {j : Journal} {words : Schedule} (k : Journal) (more : Schedule) (end : State) → Follows unit w s j words middle → Follows unit w middle k more end → Follows unit w s (j ++ k) (words ++ more) end
  follows-append k more end (Over s) g = g
  follows-append k more end (Collects s m j words l h) g = Collects s end (j ++ k) (words ++ more) l (follows-append k more end h g)
  follows-append k more end (Clears s next m names j words c h) g = Clears s next end names (j ++ k) (words ++ more) c (follows-append k more end h g)
  follows-append k more end (Slices s m j words h) g = Slices s end (j ++ k) (words ++ more) (follows-append k more end h g)
  follows-append k more end (SliceClears s next m names j words c h) g = SliceClears s next end names (j ++ k) (words ++ more) c (follows-append k more end h g)
  follows-append k more end (Waits s m n j words e h) g = Waits s end n (j ++ k) (words ++ more) e (follows-append k more end h g)
  follows-append k more end (Steps s next m n refused j words c e h) g = Steps s next end n refused (j ++ k) (words ++ more) c e (follows-append k more end h g)
  follows-append k more end (ClearsAndSteps s between next m names n refused j words c made l e h) g =
      ClearsAndSteps s between next end names n refused (j ++ k) (words ++ more) c made l e (follows-append k more end h g)

  -- one entry more of which it holds, where the others led
  pub each-more : (Holds : State → Entry → Type 0) (o : Option State) (j : Journal) (e : Entry) → EachFrom unit w Holds o j → ((s : State) → option_and_then (λ s'. replay_from unit w s' j) o ≡ Some s → Holds s e) → EachFrom unit w Holds o (j ++ e ∷ [])
  each-more Holds None [] e h g = tt
  each-more Holds (Some s) [] e h g = (g s refl, tt)
  each-more Holds None (x ∷ j) e h g = tt
  each-more Holds (Some s) (x ∷ j) e h g = (h.0, each-more Holds (world_step unit w s x) j e h.1 g)
