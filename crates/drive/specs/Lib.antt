pub mod Drive
pub mod Laws
pub mod Active
pub mod Vectors
