pub mod Bytewise
pub mod Apart
pub mod Wrote
