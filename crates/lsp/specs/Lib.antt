pub mod Lsp
pub mod Examples
