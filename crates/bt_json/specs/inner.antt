-- How the reader goes on byte by byte, and what its parts tell of it: definitions that no public clause cites.
pub mod Bytes
pub mod Reading
pub mod Running
pub mod Numerals
pub mod Halves
pub mod Words
pub mod Tails
pub mod Unescaping
pub mod Names
pub mod Frames
pub mod Ahead
pub mod Nested
