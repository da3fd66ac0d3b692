pub mod Buffers
pub mod Faults
pub mod Layers
