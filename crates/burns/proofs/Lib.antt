pub mod Cells
pub mod Charge
pub mod Ends
pub mod Safe
pub mod Stops
pub mod Turns
