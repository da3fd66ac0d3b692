pub mod Sides
pub mod SidesLemmas
