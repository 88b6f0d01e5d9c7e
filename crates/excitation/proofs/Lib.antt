mod GetLaws
mod WindowLaws
mod PieceLaws
pub mod Laws
