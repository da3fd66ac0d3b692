pub mod Faults
pub mod Queues
pub mod Cells
