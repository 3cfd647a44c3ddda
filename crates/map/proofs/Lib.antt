pub mod Laws
pub mod Guides
