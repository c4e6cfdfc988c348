pub mod Cleared
pub mod GraphLaws
pub mod ThreeParts
pub mod ThreeWords
pub mod WorkLaws
