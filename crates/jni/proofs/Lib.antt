mod Places
mod Names
pub mod MethodCalls
