pub mod Tests
pub mod Below
pub mod Bits
pub mod Put
