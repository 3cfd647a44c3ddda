pub mod Endian
