-- where names are, and which instructions a statement becomes
pub mod Layout
pub mod Coding
-- what the arguments of a call are given for
pub mod Arguments
-- how many steps a function has, on its tree
pub mod Length
-- which statements have no blocks
-- what the slots show
pub mod Slots
-- what is known of an accepted function
pub mod Fits
-- which tasks a place of the code stands for, and what its instruction does
pub mod Stands
pub mod Does
pub mod Lowered
