pub mod Laws
pub mod Longer
pub mod Maps
