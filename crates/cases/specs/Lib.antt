pub mod Cells
pub mod Panels
pub mod Shows
