-- The values of objects and calls as they are held in memory, passed on from `semantics`.

pub use Rattle.semantics.specs.Views.{object_value_view}
