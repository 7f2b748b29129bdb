-- Trusted: what a program does. A reader holds these against the JNI Specification and C99.

-- objects, and what a run begins with
pub mod Object
pub mod World
pub mod Schedule
pub mod Journal
pub mod JournalText
-- values, the heap and variables
pub mod Value
pub mod Heap
pub mod Method
pub mod Variable
-- what can be seen, and expressions
pub mod Sight
pub mod Term
-- statements, and the effect of each
pub mod Task
pub mod Arguments
pub mod Effect
-- threads, and calls of the JNI
pub mod Thread
pub mod CallEffects
pub mod CallSight
pub mod Answer
pub mod AnswerTable
pub mod Checks
pub mod CallStep
-- a step of a thread, and of a run
pub mod Activation
pub mod Return
pub mod ThreadStep
pub mod State
pub mod Reachable
pub mod WeakReferences
pub mod WeakArguments
pub mod Step
-- whole runs
pub mod Start
pub mod Load
pub mod Report
pub mod ReportOf
pub mod Run
pub mod AccountLaws
-- values and names of objects, traps, events, endings and entries in memory
pub mod Views
pub mod EventViews
pub mod EntryViews
