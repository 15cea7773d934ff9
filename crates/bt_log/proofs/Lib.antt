pub mod KeptLists
pub mod NegatedAtoms
pub mod Sound
pub mod Choosing
pub mod Left
pub mod Marked
pub mod Numbers
pub mod Valid
