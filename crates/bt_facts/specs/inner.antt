pub mod ByHalf
