pub mod Shapes
pub mod Steps
pub mod Facts
pub mod Lines
