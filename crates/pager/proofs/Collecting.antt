-- Laws of collection on the buffers. Assumes nothing.
pub mod Clear
pub mod Move
pub mod NewWord
pub mod Flags
pub mod ReachRow
pub mod Reaching
pub mod StateWords
pub mod ReachLoop
pub mod Numbering
pub mod Over
pub mod Kept
pub mod Packing
pub mod PackEdges
pub mod Parts
pub mod Prefix
pub mod Whole
pub mod Sample
