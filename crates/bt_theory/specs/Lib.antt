pub mod Reaching
pub mod PivotTraces
pub mod Outcomes
pub mod inner
