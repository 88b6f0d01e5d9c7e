pub mod Mlsa
pub mod Laid
pub mod Numbers
