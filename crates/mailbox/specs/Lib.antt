pub mod Mailbox
pub mod Judging
pub mod Laws
pub mod Handles
pub mod Vectors
