pub mod InTurns
mod CappedNets
mod JsonRefused
pub mod Blanks
pub mod BareReadings
pub mod OneDesign
pub mod LongerDesigns
pub mod LongerRequests
pub mod Followed
pub mod StandingAlone
pub mod Drawings
pub mod OneDrawing
pub mod OneRequest
pub mod OnePair
pub mod BareNets
pub mod TwoFollowed
pub mod JsonBehindBlanks
pub mod BlankDesigns
pub mod ToldParts
pub mod ReadingOn
