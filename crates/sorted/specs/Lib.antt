pub mod Lines
pub mod LinesLemmas
