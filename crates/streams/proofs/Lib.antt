pub mod Doing
pub mod Going
pub mod Ending
