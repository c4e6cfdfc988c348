pub mod Tables
pub mod Builds
pub mod Queries
