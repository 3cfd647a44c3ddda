pub mod Burn
pub mod Charge
