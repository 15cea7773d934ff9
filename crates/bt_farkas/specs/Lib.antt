pub mod Evaluation
pub mod FalseSums
pub mod Farkas
pub mod Laws
pub mod RunningSums
pub mod WeightedRows
pub mod inner
