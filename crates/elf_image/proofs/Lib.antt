pub mod FieldLaws
pub mod TableLaws
pub mod SoundLaws
pub mod ImageLaws
mod Files
mod Refused
mod Linked
