-- Definitions that private functions alone cite.
pub mod Assuming
pub mod Checking
pub mod Defining
pub mod Feeding
pub mod Judgements
pub mod Knowing
pub mod Lines
pub mod Reading
pub mod Refuting
pub mod Stages
pub mod Views
pub mod Weighing
