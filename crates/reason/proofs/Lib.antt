pub mod Laws
pub mod Exactly
