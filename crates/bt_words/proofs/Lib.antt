pub mod Grids
pub mod Fronts
pub mod OneFront
pub mod Readings
pub mod OneCommand
pub mod Placed
