pub mod Rigging
pub mod States
pub mod Entering
