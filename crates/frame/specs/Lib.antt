pub mod Numbers
pub mod Columns
pub mod Bits
pub mod Place
pub mod Encode
pub mod Decode
pub mod Frames
