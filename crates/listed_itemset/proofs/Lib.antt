pub mod Wrote
pub mod Kernels
pub mod KernelLaws
