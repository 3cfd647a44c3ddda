pub mod Run
pub mod Turns
pub mod Cells
pub mod Stops
pub mod Safe
pub mod Ends
pub mod Vectors
