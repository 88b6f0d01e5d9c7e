pub mod Mglsa
pub mod Numbers
pub mod Pair
