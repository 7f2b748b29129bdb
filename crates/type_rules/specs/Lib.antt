-- Trusted: the rules on names and types. A reader holds these against ISO C99.
pub mod ExprTypes
pub mod TypeRules
-- Nothing here is trusted: types and names that are known in memory, and what is asked of the names that a statement uses.
pub mod Declarations
pub mod Uses
pub mod TypeGroups
