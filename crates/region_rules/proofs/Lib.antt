pub mod Returns
pub mod KeptRules
