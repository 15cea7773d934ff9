pub mod Atoms
pub mod Ends
pub mod Lacking
pub mod Lists
pub mod Signs
