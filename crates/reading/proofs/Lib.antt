pub mod ReadLaws
pub mod SoundLaws
