-- How clauses are watched and visited, which no public clause cites.
pub mod VisitingClause
pub mod VisitingById
pub mod Loads
pub mod Roots
pub mod PropagatingLit
pub mod Visiting
pub mod Visits
pub mod Watchers
pub mod Watching
