pub mod LoadedWorlds
pub mod MethodErrors
