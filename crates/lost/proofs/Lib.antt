mod SqueezeLaws
pub mod LostLaws
