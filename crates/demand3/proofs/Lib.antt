pub mod Joined
pub mod OneEach
pub mod Computed
