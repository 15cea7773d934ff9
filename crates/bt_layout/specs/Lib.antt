pub mod Layouts
pub mod Laws
pub mod Smallest
pub mod Early
pub mod Small
pub mod inner
