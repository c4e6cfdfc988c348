pub mod Answers
pub mod LineLaws
pub mod PartLaws
pub mod GivenLaws
pub mod BeginLaws
pub mod ScanLaws
pub mod OneAnswer
