pub mod Left
pub mod FewNames
pub mod FirstNames
