pub mod Printing
pub mod Stages
pub mod Places
pub mod Playing
