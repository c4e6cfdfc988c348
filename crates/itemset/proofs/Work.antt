pub mod Cells
pub mod Offers
pub mod Changes
pub mod Steps
pub mod Weight
pub mod Seeding
pub mod Turns
pub mod Closes
