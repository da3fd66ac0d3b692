pub mod Bytes
pub mod Encoding
pub mod Decoding
pub mod Roundtrips
pub mod Streams
pub mod Lines
pub mod Texts
