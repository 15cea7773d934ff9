-- How the search learns, chooses and logs, which no public clause cites.
pub mod Analysing
pub mod Asserting
pub mod Choices
pub mod Kernels
pub mod KnownLits
pub mod Lemmas
pub mod Loading
pub mod LoggedFormula
pub mod Progressing
pub mod Searching
pub mod Telling
