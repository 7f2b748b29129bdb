pub mod StaticPlaces
pub mod SlotLaws
pub mod OwnerLaws
pub mod StaticLaws
pub mod ElementWords
pub mod BufferLaws
pub mod Given
