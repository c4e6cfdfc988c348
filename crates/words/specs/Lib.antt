pub mod Words
pub mod Lines
pub mod Parts
pub mod Given
pub mod Unique
pub mod Wide
