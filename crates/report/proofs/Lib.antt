pub mod ReportLemmas
pub mod Clearings
