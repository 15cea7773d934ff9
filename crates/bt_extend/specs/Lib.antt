pub mod Definitions
pub mod Extending
pub mod Forms
pub mod Items
pub mod Laws
pub mod Texts
pub mod Words
pub mod inner
