pub mod Cells
pub mod Handing
pub mod Layouts
pub mod Order
pub mod Tiers
pub mod Hands
pub mod inner
