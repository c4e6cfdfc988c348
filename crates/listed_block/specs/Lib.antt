pub mod Rooms
pub mod Cases
pub mod Aheads
