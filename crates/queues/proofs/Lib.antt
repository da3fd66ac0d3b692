pub mod Cells
pub mod Over
