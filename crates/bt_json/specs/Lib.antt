pub mod Json
pub mod Value
pub mod Grammar
pub mod Places
pub mod Answers
pub mod Longer
pub mod Stands
pub mod inner
