pub mod Laws
pub mod Parts
pub mod Cuts
pub mod Ends
pub mod Leaves
pub mod Charge
