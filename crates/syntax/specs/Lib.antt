pub mod Tree
pub mod Parts
pub mod Limits
pub mod Nodes
pub mod Views
pub mod NullTests
pub mod Shapes
pub mod Stacks
