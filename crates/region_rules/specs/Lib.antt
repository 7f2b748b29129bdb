-- Trusted: the rules on paths. A reader holds these against the JNI Specification.

-- the region rules: what is known on a path through a function, which units are accepted, and which fault is the first
pub mod RegionStates
pub mod RegionRules
pub mod Regions
pub mod FirstFaults
-- Nothing here is trusted: a fact on accepted functions that the lowering is told.
pub mod Endings
