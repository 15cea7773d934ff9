-- What private functions tell of their results: definitions that no public clause cites.
pub mod WishReading
