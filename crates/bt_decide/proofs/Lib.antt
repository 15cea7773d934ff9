pub mod Certified
mod Shown
mod SomeRows
mod Taken
