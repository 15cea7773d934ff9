pub mod Unwritten
pub mod TraceTexts
pub mod Atoms
pub mod FormulaTexts
mod Formed
mod BuiltTexts
