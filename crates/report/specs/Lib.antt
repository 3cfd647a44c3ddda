pub mod Status
pub mod Report
pub mod Laws
pub mod Maps
pub mod Vectors
