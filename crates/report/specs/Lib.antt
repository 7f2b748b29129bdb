pub mod ReportText
pub mod RunText
pub mod ThreadStatus
pub mod Shown
