pub mod Laws
pub mod Handles
pub mod Judging
pub mod Told
