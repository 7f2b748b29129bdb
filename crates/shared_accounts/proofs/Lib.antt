pub mod Tables
pub mod Clearings
pub mod Machines
