pub mod Lattice
pub mod Examples
