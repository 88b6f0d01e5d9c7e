pub mod Excitation
pub mod Window
pub mod Examples
