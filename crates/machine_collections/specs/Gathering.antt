-- What a collection takes from a machine before it begins.
use Rattle.std.specs.Prelude.{◌≡◌, ◌≤◌, List, [], length, vec_capacity}
use Rattle.tables.specs.Weaks.{weak_places}
use Rattle.machine_threads.specs.declared.thread.Thread.{Thread}
use Rattle.machine_scenes.specs.declared.store.Store.{Store}
use Rattle.machine_collections.specs.declared.gathered.Gathered.{Gathered}
use Rattle.machine_collections.specs.Clearing.{AreNamed}
use Rattle.machine_collections.specs.Roots.{ThreadsAreStacked, root_places}

-- two lists are empty, and have room for each object that a static holds weakly
pub record HasRoom (g : Gathered) : Type 0 where
  pub names : (g.names.items ≡ []) × (length g.objects.items ≤ vec_capacity g.names)
  pub cleared : (g.cleared.items ≡ []) × (length g.objects.items ≤ vec_capacity g.cleared)

-- the lists are empty, and have room for the roots, the weak references, and an object and two names for each static
pub record IsReserved (store : Store) (threads : List Thread) (g : Gathered) : Type 0 where
  pub roots : (g.roots.places.items ≡ []) × (length (root_places store threads) ≤ vec_capacity g.roots.places)
  pub weak : (g.weak.places.items ≡ []) × (length store.weaks ≤ vec_capacity g.weak.places)
  pub objects : (g.objects.items ≡ []) × (length store.statics.items ≤ vec_capacity g.objects)
  pub names : (g.names.items ≡ []) × (length store.statics.items ≤ vec_capacity g.names)
  pub cleared : (g.cleared.items ≡ []) × (length store.statics.items ≤ vec_capacity g.cleared)

-- the roots and the weak references are there, place by place, and the objects that statics hold weakly, static by static
pub record IsGathered (store : Store) (threads : List Thread) (g : Gathered) : Type 0 where
  pub roots : g.roots.places.items ≡ root_places store threads
  pub weak : g.weak.places.items ≡ weak_places store.weaks
  pub named : AreNamed store.heap store.weaks store.statics.items g.objects.items
  pub room : HasRoom g
  pub stacked : ThreadsAreStacked threads
