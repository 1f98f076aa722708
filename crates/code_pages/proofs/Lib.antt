pub mod Bytes
pub mod KindLaws
pub mod KnownLaws
pub mod LineLaws
pub mod Lists
