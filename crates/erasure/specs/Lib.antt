pub mod Erasure
pub mod Parts
pub mod Cuts
pub mod Ends
pub mod Vectors
