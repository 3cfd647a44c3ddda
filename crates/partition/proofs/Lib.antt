pub mod Laws
pub mod StateIs
pub mod Marked
pub mod Chains
