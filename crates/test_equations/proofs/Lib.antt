-- helpers
pub mod Programs
pub mod Computed
-- laws of the definitions
mod Collections
mod Slices
-- texts
mod NativeNames
mod WorldTexts
mod SchedulesAndJournals
mod CommandLines
-- runs by what they leave
mod Heights
mod Limits
mod Accounts
-- written from texts/
mod Accepted
mod Arguments
mod Arithmetic
mod ArrayFaults
mod ArrayRegions
mod BrokenRules
mod BufferFaults
mod BuffersChecked
mod BuffersCopied
mod BuffersPinned
mod BuffersUsed
mod Classes
mod Control
mod Exceptions
mod ExceptionsPending
mod Fields
mod FieldsFound
mod MethodCalls
mod Methods
mod Frames
mod Globals
mod Journals
mod Memory
mod Monitors
mod MonitorsChecked
mod MonitorsOwned
mod MonitorsShared
mod NumberArrays
mod ObjectArrays
mod Objects
mod OrderOfChecks
mod ReferenceFaults
mod References
mod RefusedTexts
mod RegionsChecked
mod Room
mod TypeFaults
mod Strings
mod Traps
mod Trees
mod WeakReferences
