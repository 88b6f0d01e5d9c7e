pub mod KeepLaws
pub mod StepLaws
pub mod SoundLaws
pub mod DrawLaws
