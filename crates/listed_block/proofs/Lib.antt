pub mod Front
pub mod Narrowing
pub mod Expected
pub mod AheadLaws
pub mod FirstLine
