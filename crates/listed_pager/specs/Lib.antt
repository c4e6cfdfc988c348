pub mod Work
pub mod Cases
