pub mod Readings
pub mod AnyRoom
pub mod ListLaws
pub mod TallyLaws
pub mod OneTally
pub mod AllHold
