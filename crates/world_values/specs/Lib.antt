pub mod WorldLines
pub mod WorldMeaning
pub mod WorldRules
pub mod CallArguments
pub mod DeclaredFields
pub mod SoundWorlds
pub mod Views
