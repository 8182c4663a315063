pub mod Asked
pub mod ScriptSteps
