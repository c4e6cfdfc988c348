pub mod EndToEnd
pub mod Unique
pub mod Starred
pub mod SampleList
