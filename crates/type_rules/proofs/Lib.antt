pub mod KnownDeclarations
pub mod UseLemmas
pub mod PlaceLists
pub mod TypeCases
pub mod KeptPlaces
pub mod TypeTests
pub mod NameLists
pub mod CallParameters
